-- Marks of the sections that are reached, and those that wait to be looked at.
use Rattle.std.specs.Prelude.{◌≡◌, ◌≤◌, ◌<◌, ◌+◌, ◌*◌, ◌⊎◌, ℕ, Bool, true, false, List, length, nat_eq, slice_get, unwrap_or, Option, Some, [], ◌∷◌, option_and_then}
use Rattle.std.specs.List.{list_any}
use Rattle.vm_tree.specs.declared.command.Line.{Line}
use Rattle.vm_link.specs.Sections.{Section, called_name}
use Rattle.vm_link.specs.Inner.Maps.{Numbers, number}
use Rattle.vm_link.specs.Reached.{Reached}

-- the section of this number is marked
abbrev pub is_marked : List Bool → ℕ → Bool
is_marked marks i = unwrap_or (slice_get marks i) false

-- it waits
abbrev pub waits : List ℕ → ℕ → Bool
waits pending i = list_any (nat_eq i) pending

-- how many are not marked
abbrev pub unmarked_count : List Bool → ℕ
unmarked_count [] = 0
unmarked_count (true ∷ marks) = unmarked_count marks
unmarked_count (false ∷ marks) = 1 + unmarked_count marks

-- The numbers are below this one.
abbrev pub AreBelow : Numbers → ℕ → Type 0
AreBelow m n = (name : List ℕ) (i : ℕ) → number m name ≡ Some i → i < n

-- This is the name of the function that has this number.
abbrev pub IsNumber : Numbers → Option (List ℕ) → ℕ → Type 0
IsNumber m name i = option_and_then (number m) name ≡ Some i

-- One of these lines calls the function that has this number.
abbrev pub AreCalling : Numbers → List Line → ℕ → Type 0
AreCalling m [] i = ⊥
AreCalling m (x ∷ xs) i = IsNumber m (called_name x.command) i ⊎ AreCalling m xs i

-- More is marked: only what may be, and each new mark waits.
pub record Marks (May : ℕ → Type 0) (old new : List Bool) (pending waiting : List ℕ) : Type 0 where
  pub same_length : length new ≡ length old
  pub kept : (i : ℕ) → is_marked old i ≡ true → is_marked new i ≡ true
  pub added : (i : ℕ) → is_marked new i ≡ true
      → (is_marked old i ≡ true) ⊎ (May i × (waits waiting i ≡ true))
  pub still : (i : ℕ) → waits pending i ≡ true → waits waiting i ≡ true
  pub more : (i : ℕ) → waits waiting i ≡ true → (waits pending i ≡ true) ⊎ (is_marked new i ≡ true)
  pub less : 2 * unmarked_count new + length waiting ≤ 2 * unmarked_count old + length pending

-- The marks are at the sections that are reached.
pub record AreReached (ss : List Section) (marks : List Bool) : Type 0 where
  pub same_length : length marks ≡ length ss
  pub only : (i : ℕ) → is_marked marks i ≡ true → Reached ss i
  pub all : (i : ℕ) → Reached ss i → is_marked marks i ≡ true

-- the sections that are marked
abbrev pub selected_sections : List Bool → List Section → List Section
selected_sections [] ss = []
selected_sections (b ∷ marks) [] = []
selected_sections (true ∷ marks) (s ∷ ss) = s ∷ selected_sections marks ss
selected_sections (false ∷ marks) (s ∷ ss) = selected_sections marks ss
