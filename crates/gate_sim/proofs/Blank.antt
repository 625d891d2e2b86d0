-- Lists in which all is as at first.
use Rattle.std.proofs.Common.{◌≡◌, ◌≢◌, ℕ, zero, suc, ◌<◌, ◌≤◌, List, [], ◌∷◌, length, get_or, set, replicate, Vec, Bool, true, false, refl, sym, ap, ◌∙◌, arith, inl, inr}
use Rattle.std.proofs.lemmas.Bool.{cases_lt}
use Rattle.std.proofs.lemmas.List.{get_or_past, get_or-replicate, length-replicate}
use Rattle.std.specs.Global.{Global}
use Rattle.netlist.specs.Present.{value_in}
use Rattle.netlist.specs.Words.{row_of}
use Rattle.gate_sim.specs.declared.plan.Slot.{Slot}
use Rattle.gate_sim.specs.Inner.Slots.{slot_at}

-- ---- rows of words, one of which is another one

pub row_here : (memory : List (Vec ℕ Global)) (b : ℕ) (row : Vec ℕ Global) → b < length memory → row_of (set memory b row) b ≡ row.items
row_here [] b row inside = absurd (omega arith)
row_here (r ∷ memory) zero row inside = refl
row_here (r ∷ memory) (suc b) row inside = row_here memory b row (omega arith)

pub row_elsewhere : (memory : List (Vec ℕ Global)) (b i : ℕ) (row : Vec ℕ Global) → i ≢ b → row_of (set memory b row) i ≡ row_of memory i
row_elsewhere [] b i row other = refl
row_elsewhere (r ∷ memory) zero zero row other = absurd (other refl)
row_elsewhere (r ∷ memory) zero (suc i) row other = refl
row_elsewhere (r ∷ memory) (suc b) zero row other = refl
row_elsewhere (r ∷ memory) (suc b) (suc i) row other = row_elsewhere memory b i row (λ e. other (ap suc e))

pub row_read : (memory : List (Vec ℕ Global)) (b : ℕ) (row d : Vec ℕ Global) → b < length memory → row ≡ get_or memory b d → length (row_of memory b) ≡ length row.items
row_read [] b row d inside is = absurd (omega arith)
row_read (r ∷ memory) zero row d inside is = ap (λ x. length x.items) (sym is)
row_read (r ∷ memory) (suc b) row d inside is = row_read memory b row d (omega arith) is

pub row_past : (memory : List (Vec ℕ Global)) (b : ℕ) → length memory ≤ b → row_of memory b ≡ []
row_past [] b past = refl
row_past (r ∷ memory) zero past = absurd (omega arith)
row_past (r ∷ memory) (suc b) past = row_past memory b (omega arith)

-- ---- lists of one thing alone

-- slots without values and changes, and past them none
abbrev blank : Slot
blank = record { value = 0; change = 0 }

pub blank_slot : (n q : ℕ) → slot_at (replicate n (record { value = 0; change = 0 })) q ≡ record { value = 0; change = 0 }
blank_slot n q =
    let long : length (replicate n blank) ≡ n = length-replicate n blank in
    elim (cases_lt q n) [
      | inl less ↦ get_or-replicate n q blank blank less
      | inr past ↦ get_or_past (replicate n blank) q blank (omega arith)
    ]

-- marks that are all on
pub all_on : (marks : List Bool) (n m : ℕ) → marks ≡ replicate n true → m < length marks → value_in marks m ≡ true
all_on marks n m are inside =
    let long : length marks ≡ n = ap length are ∙ length-replicate n true in
    ap (λ l. value_in l m) are ∙ get_or-replicate n m true false (omega arith)
