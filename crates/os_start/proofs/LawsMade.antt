-- The laws, of the classes that texts spell.
use Rattle.std.proofs.Common.{ℕ, false, List, Ok, map, sym, subst}
use Rattle.jack_tree.specs.declared.tree.Class.{Class}
use Rattle.jack_tree.specs.Seen.{the_file}
use Rattle.jack_meaning.specs.Text.{Program}
use Rattle.jack_core.specs.declared.program.Core.{Core}
use Rattle.jack_core.specs.Texts.{the_program}
use Rattle.jack_names.specs.Meaning.{program_names}
use Rattle.jack_os.specs.System.{system}
use Rattle.jack_os.proofs.SystemTexts.{seen_files}
use Rattle.jack_compiler.specs.Resolved.{IsResolved, IsResolvedCore}
use Rattle.os_functions.proofs.Statics as statics
use Rattle.tower.specs.Spelled.{AreSpelled}
use Rattle.tower.specs.Program.{Means}
use Rattle.tower.specs.Resolved.{ResolvedLaw}
use Rattle.os_start.specs.Laws.{ReachedLaw, ShippedLaw, TameLaw}
use Rattle.os_start.proofs.Beginning.{tame_before}
use Rattle.os_start.proofs.Reached.{reached}

pub tame : TameLaw
tame = record { before = λ p keys. tame_before p (statics.law.there p) keys }

resolved_core : ResolvedLaw → (own : List Class) (core : Core) → AreSpelled own → Means false own (Ok core) → IsResolvedCore core
resolved_core law own core spelled (os, classes, is) =
    let q = law own os system is.well_named spelled classes in
    subst (λ (names : List (List ℕ)). IsResolved (the_program core) names) (sym is.names)
    (subst (λ (program : Program). IsResolved program (program_names (map the_file own) (map the_file os))) (sym is.program) q)

pub reached_at : ResolvedLaw → ReachedLaw
reached_at law own core image spelled means is p h keys words = reached core image (resolved_core law own core spelled means) is p h keys words

pub shipped : ShippedLaw
shipped own core (os, classes, is) = record { own = map the_file own; os = map the_file os; program = is.program; well = is.well_named; system = seen_files system os classes }
