-- What the readers of rules return.
use Rattle.std.specs.Prelude.{◌≡◌, ◌||◌, ℕ, Bool, true, false, List, [], ◌∷◌, Result, Ok, Err, map}
use denote.Bor.{Bor}
use Rattle.scan_text.specs.declared.Place.{Place}
use Rattle.grammar.specs.declared.ReadError.{ReadError}
use Rattle.grammar.specs.Rules.{Reads, Stops}
use Rattle.grammar.specs.Reading.{Halt}
use Rattle.vm_parser.specs.declared.token.Role.{Role}
use Rattle.vm_parser.specs.declared.token.Role.TheVariants as role
use Rattle.vm_parser.specs.declared.token.Token as declared
use Rattle.vm_parser.specs.Tokens.{Word, view, ends_line}
use Rattle.vm_parser.specs.Grammar.{Said, Part, vm, greatest}
use Rattle.vm_parser.specs.Trees.{VmTree}

-- what the next word can be in a command
abbrev pub role_next : List Word → Role
role_next [] = role.Plain
role_next (t ∷ ts) = t.role

-- the words that begin a command
abbrev pub begins_command : Role → Bool
begins_command role.Function = false
begins_command (role.Segment g) = false
begins_command role.Plain = false
begins_command _ = true

-- the tokens that begin a line
abbrev pub begins_line : Word → Bool
begins_line t = ends_line t.kind || begins_command t.role

-- The rule reads the tokens as something that is written (with its empty lines), and what is returned says it; or it stops, or memory
-- ran out.
abbrev pub ReadsAs : {X Y : Type 0} → (Y → VmTree) → (Y → X) → Place → Part → List declared.Token → Result (X × Bor (List declared.Token)) ReadError → Type 0
ReadsAs {X} {Y} tree said end rule ts (Ok r) = (y : Y) × (r.0 ≡ said y) × Reads Word ℕ (Unit {0}) Said (vm end) greatest rule (map view ts) (tree y) greatest (map view r.1.now)
ReadsAs {X} {Y} tree said end rule ts (Err e) = Halt (Stops Word ℕ (Unit {0}) Said (vm end) greatest rule (map view ts)) e

-- the same, up to the end of the text
abbrev pub ReadsAllAs : {X Y : Type 0} → (Y → VmTree) → (Y → X) → Place → Part → List Word → Result X ReadError → Type 0
ReadsAllAs {X} {Y} tree said end rule ts (Ok x) = (y : Y) × (x ≡ said y) × Reads Word ℕ (Unit {0}) Said (vm end) greatest rule ts (tree y) greatest []
ReadsAllAs {X} {Y} tree said end rule ts (Err e) = Halt (Stops Word ℕ (Unit {0}) Said (vm end) greatest rule ts) e
