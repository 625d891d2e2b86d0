-- The program that a generated text means is one that the compiler takes.
use Rattle.std.proofs.Common.{◌≡◌, ◌≤◌, ◌+◌, ℕ, false, List, [], ◌∷◌, ◌++◌, map, refl, sym, ap, subst}
use Rattle.jack_tree.specs.declared.tree.Class as code
use Rattle.jack_tree.specs.Syntax.{Class, ClassFile}
use Rattle.jack_tree.specs.Seen.{the_file}
use Rattle.jack_parser.specs.Spelled.{SpellsClass}
use Rattle.jack_meaning.specs.Text.{Program}
use Rattle.jack_core.specs.declared.program.Core.{Core}
use Rattle.jack_core.specs.Texts.{names_of}
use Rattle.jack_compiler.specs.Resolved.{IsResolved, IsResolvedCore}
use Rattle.jack_names.specs.Meaning.{program_meaning}
use Rattle.tower.specs.Existence.{FilesMean}
use Rattle.tower.specs.Resolved.{ResolvedLaw}
use Rattle.tower.specs.Spelled.{AreSpelled}
use Rattle.soak_laws.specs.Named.{folder_of}

one_file : (own : List code.Class) (c : ClassFile) → map the_file own ≡ c ∷ [] → (k : code.Class) × (own ≡ k ∷ []) × (the_file k ≡ c)
one_file [] c e = absurd cc
one_file (k ∷ []) c e = (k, refl, (let same : the_file k ≡ c = cc in same))
one_file (k ∷ j ∷ own) c e = absurd cc

pub all_spelled : (text : List ℕ) (c : Class) (own : List code.Class) → SpellsClass text c → map the_file own ≡ folder_of c → AreSpelled own
all_spelled text c own h e =
    let one = one_file own _ e in
    subst AreSpelled (sym one.1) ((text, subst (SpellsClass text) (sym (ap (λ (f : ClassFile). f.class) one.2)) h), tt)

pub resolved : ResolvedLaw → (text : List ℕ) (c : Class) (core : Core) → SpellsClass text c → FilesMean false (folder_of c) core → IsResolvedCore core
resolved law text c core spells (own, is, (os, are, of)) =
    let r = law own os _ of.well_named (all_spelled text c own spells is) are in
    subst (λ (p : Program). IsResolved p (names_of core)) (sym of.program) (subst (IsResolved (program_meaning (map the_file own) (map the_file os))) (sym of.names) r)
