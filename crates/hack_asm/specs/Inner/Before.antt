-- What a reader of computations finds at the next token.
use Rattle.std.specs.Prelude.{◌≡◌, ℕ, Bool, true, false, List, [], ◌∷◌, Option, Some, None, Result, Ok, Err, map, if◌then◌else◌}
use denote.Bor.{Bor}
use Rattle.scan_text.specs.declared.Place.{Place}
use Rattle.grammar.specs.declared.ReadError.{ReadError}
use Rattle.grammar.specs.Rules.{enters, Reads, Stops}
use Rattle.grammar.specs.Reading.{Halt}
use Rattle.hack_asm.specs.declared.token.Letter.{Letter}
use Rattle.hack_asm.specs.declared.token.Operator.{Operator}
use Rattle.hack_asm.specs.declared.token.Role.{Role}
use Rattle.hack_asm.specs.declared.token.Role.TheVariants as role
use Rattle.hack_asm.specs.declared.token.Token as declared
use Rattle.hack_asm.specs.declared.lines.Behind.{Behind}
use Rattle.hack_asm.specs.declared.words.Before.{Before}
use Rattle.hack_asm.specs.declared.words.Before.TheVariants.{Sum, Join, Negation, Inversion}
use Rattle.hack_asm.specs.Tokens.{Word, view}
use Rattle.hack_asm.specs.Grammar.{Said, assembly, sums, joins, adds, meets, is_not_zero, is_register, operation, behind, assigns}
use Rattle.hack_asm.specs.Trees.{operation_tree, behind_tree}

-- the letters that may come, by what stands before them
abbrev pub suits : Before → Letter → Bool
suits (Sum x) = sums x
suits (Join x) = joins x
suits Negation = is_not_zero
suits Inversion = is_register

-- the letter that comes, and what is left after it
abbrev pub letter_by : Role → List Word → Option (Letter × List Word)
letter_by (role.Letter x) ts = Some (x, ts)
letter_by _ ts = None

abbrev pub letter_next : List Word → Option (Letter × List Word)
letter_next [] = None
letter_next (t ∷ ts) = letter_by t.role ts

-- several letters of a destination
abbrev pub several_by : Role → List Word → Option (ℕ × List Word)
several_by (role.Several bits) ts = Some (bits, ts)
several_by _ ts = None

abbrev pub several_next : List Word → Option (ℕ × List Word)
several_next [] = None
several_next (t ∷ ts) = several_by t.role ts

-- the operator that comes after a letter
abbrev pub operator_by : Letter → Role → List Word → Option (Operator × Before × List Word)
operator_by x (role.Operator op) ts = if adds x op then Some (op, Sum x, ts) else (if meets x op then Some (op, Join x, ts) else None)
operator_by x _ ts = None

abbrev pub operator_next : Letter → List Word → Option (Operator × Before × List Word)
operator_next x [] = None
operator_next x (t ∷ ts) = operator_by x t.role ts

-- a shift after a register
abbrev pub shift_by : Letter → Role → List Word → Option (Bool × List Word)
shift_by x (role.Shift left) ts = if is_register x then Some (left, ts) else None
shift_by x _ ts = None

abbrev pub shift_next : Letter → List Word → Option (Bool × List Word)
shift_next x [] = None
shift_next x (t ∷ ts) = shift_by x t.role ts

-- `=` after a register
abbrev pub assigns_next : Letter → List Word → Option (List Word)
assigns_next x [] = None
assigns_next x (t ∷ ts) = if assigns x t then Some ts else None

-- An operator and a letter were read after a letter; or none begins there; or memory ran out or the operation stops.
abbrev pub Operates : Place → Letter → List declared.Token → Result (Option (Operator × Letter × Bor (List declared.Token))) ReadError → Type 0
Operates end x ts (Ok None) = enters (assembly end) (operation x) (map view ts) ≡ false
Operates end x ts (Ok (Some r)) = Reads Word (Unit {0}) (Unit {0}) Said (assembly end) tt (operation x) (map view ts) (operation_tree r.0 r.1) tt (map view r.2.now)
Operates end x ts (Err e) = (enters (assembly end) (operation x) (map view ts) ≡ true) × Halt (Stops Word (Unit {0}) (Unit {0}) Said (assembly end) tt (operation x) (map view ts)) e

-- What stands after a letter was read, an operator and a letter or a shift; or nothing does; or memory ran out or it stops.
abbrev pub Continues : Place → Letter → List declared.Token → Result (Option (Behind × Bor (List declared.Token))) ReadError → Type 0
Continues end x ts (Ok None) = enters (assembly end) (behind x) (map view ts) ≡ false
Continues end x ts (Ok (Some r)) = Reads Word (Unit {0}) (Unit {0}) Said (assembly end) tt (behind x) (map view ts) (behind_tree r.0) tt (map view r.1.now)
Continues end x ts (Err e) = (enters (assembly end) (behind x) (map view ts) ≡ true) × Halt (Stops Word (Unit {0}) (Unit {0}) Said (assembly end) tt (behind x) (map view ts)) e
