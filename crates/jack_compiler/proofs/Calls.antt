-- Each subroutine that a program with resolved names can come to is there.
use Rattle.std.proofs.Common.{◌<◌, ℕ, List, length}
use Rattle.jack_meaning.specs.Text.{Program}
use Rattle.jack_meaning.specs.Meaning.{subroutine_at}
use Rattle.jack_meaning.specs.Linked.{IsLinked, init, called}
use Rattle.jack_core.specs.declared.program.Core.{Core}
use Rattle.jack_core.specs.Texts.{the_program, names_of}
use Rattle.jack_compiler.specs.Fits.{scope_of}
use Rattle.jack_compiler.specs.Resolved.{named_in, IsResolved, IsResolvedCore}
use Rattle.jack_compiler.proofs.Members.{body_keeps}
use Rattle.jack_compiler.proofs.Resolving.{keeps_there}

linked_there : (program : Program) (names : List (List ℕ)) → IsResolved program names → (g : ℕ) → IsLinked program g → (0 < g) × (g < length program.subroutines)
linked_there program names resolved g init = (resolved.init, resolved.init_there)
linked_there program names resolved g (called {g = f} l c) =
    let at = linked_there program names resolved f l in
    let sub = subroutine_at program.subroutines f in
    keeps_there program names resolved sub.class g (body_keeps program.subroutines (named_in program sub.class) (scope_of sub) sub.kind sub.body (resolved.each f at.0 at.1).body g c)

pub calls_are_there : (core : Core) → IsResolvedCore core → (g : ℕ) → IsLinked (the_program core) g → g < length (the_program core).subroutines
calls_are_there core resolved g l = (linked_there (the_program core) (names_of core) resolved g l).1
