-- The sections that are kept.
use Rattle.std.specs.Prelude.{◌≡◌, ℕ, suc, Bool, true, false, List, [], ◌∷◌, Some, slice_get}
use Rattle.std.specs.List.{position_from}
use Rattle.vm_link.specs.Sections.{Section, is_named, calls, stands_in}
use Rattle.vm_link.specs.Faults.{sys_init}

-- The section of this number is the function of this name.
abbrev pub IsFunction : List Section → List ℕ → ℕ → Type 0
IsFunction ss name i = position_from (is_named name) 0 ss ≡ Some i

-- The section of this number is reached from Sys.init by calls, one after another.
pub data Reached (ss : List Section) : ℕ → Type 0 where
  start : {i : ℕ} → IsFunction ss sys_init i → Reached ss i
  called : {i j : ℕ} (s : Section) (name : List ℕ) → Reached ss i → slice_get ss i ≡ Some s → stands_in (calls s.lines) name ≡ true
      → IsFunction ss name j → Reached ss j

-- A list without those whose number does not qualify, where numbers begin at this one.
pub data Keeps (P : ℕ → Type 0) : ℕ → List Section → List Section → Type 0 where
  none : {i : ℕ} → Keeps P i [] []
  kept : {i : ℕ} {s : Section} {ss ks : List Section} → P i → Keeps P (suc i) ss ks → Keeps P i (s ∷ ss) (s ∷ ks)
  dropped : {i : ℕ} {s : Section} {ss ks : List Section} → (P i → ⊥) → Keeps P (suc i) ss ks → Keeps P i (s ∷ ss) ks

-- These sections are kept: those that are reached, and with `bare` all.
abbrev pub AreKept : Bool → List Section → List Section → Type 0
AreKept false ss ks = Keeps (Reached ss) 0 ss ks
AreKept true ss ks = ks ≡ ss
