-- The words of commands (chapters 7 and 8). They are not reserved: each but `if-goto` may be a name too.
use Rattle.std.specs.Prelude.{ℕ, List, [], ◌∷◌, if◌then◌else◌, codes, map}
use Rattle.std.specs.Str.{bytes_eq}
use Rattle.vm_tree.specs.declared.command.Operation.TheVariants as operation
use Rattle.vm_tree.specs.declared.command.Segment.TheVariants as segment
use Rattle.vm_tree.specs.Printed.{operation_text, segment_text}
use Rattle.vm_parser.specs.declared.token.Role.{Role}
use Rattle.vm_parser.specs.declared.token.Role.TheVariants as role

-- the role of the first entry with this text, or else another one
abbrev pub role_spelled : List (List ℕ × Role) → Role → List ℕ → Role
role_spelled [] other text = other
role_spelled (entry ∷ entries) other text = if bytes_eq text entry.0 then entry.1 else role_spelled entries other text

-- each segment by the word that is printed for it
abbrev pub segments : List (List ℕ × Role)
segments =
    map (λ s. (segment_text s, role.Segment s)) (segment.Argument ∷ segment.Local ∷ segment.Static ∷ segment.Constant
    ∷ segment.This ∷ segment.That ∷ segment.Pointer ∷ segment.Temp ∷ [])

-- segments
abbrev pub segment_role_of : List ℕ → Role
segment_role_of text = role_spelled segments role.Plain text

-- each operation by the word that is printed for it
abbrev pub operations : List (List ℕ × Role)
operations =
    map (λ o. (operation_text o, role.Operation o)) (operation.Add ∷ operation.Sub ∷ operation.Neg ∷ operation.Eq ∷ operation.Gt
    ∷ operation.Lt ∷ operation.And ∷ operation.Or ∷ operation.Not ∷ operation.ShiftLeft ∷ operation.ShiftRight ∷ [])

-- operations and segments
abbrev pub operation_role_of : List ℕ → Role
operation_role_of text = role_spelled operations (segment_role_of text) text

abbrev pub commands : List (List ℕ × Role)
commands =
    (codes "push", role.Push) ∷ (codes "pop", role.Pop) ∷ (codes "label", role.Label)
    ∷ (codes "goto", role.Goto) ∷ (codes "if-goto", role.IfGoto) ∷ (codes "call", role.Call)
    ∷ (codes "function", role.Function) ∷ (codes "return", role.Return) ∷ []

-- what a word can be in a command
abbrev pub role_of : List ℕ → Role
role_of text = role_spelled commands (operation_role_of text) text
