-- What the chip at the top says.
use Rattle.std.proofs.Common.{◌≡◌, ℕ, List, [], ◌∷◌, Some, Err, sym, ap, subst, ◌∙◌}
use Rattle.std.specs.Prelude.{slice_get}
use Rattle.hdl_tree.specs.declared.library.Entry.{Entry}
use Rattle.hdl_tree.specs.declared.ends.Memories.{Memories}
use Rattle.hdl_tree.specs.Chips.{Chips, find_chip}
use Rattle.hdl_check.specs.declared.fault.NamedFault.{NamedFault}
use Rattle.hdl_check.specs.Locations.{IsFirstFault, IsFaultless}
use Rattle.hdl_check.specs.Inner.Progress.{FailsInside}
use Rattle.hdl_check.specs.Whole.{chips_in, Tells, IsToldBy}
use Rattle.hdl_check.specs.declared.fault.ElabFault.{ElabFault}
use Rattle.hdl_check.specs.declared.fault.ElabFault.TheVariants as errors
use Rattle.hdl_check.proofs.Order.{one_first, not_both}

pub same_chips : (es fs : List Entry) (b d : Memories) → es ≡ fs → b ≡ d → chips_in es b ≡ chips_in fs d
same_chips es fs b d e f = ap (λ xs. chips_in xs b) e ∙ ap (chips_in fs) f

told_by : (chips : Chips) (k : ℕ) (entry : Entry) (f : NamedFault) (e : ElabFault) → slice_get chips.entries k ≡ Some entry → IsFirstFault chips (entry.name ∷ []) entry f → Tells (FailsInside chips [] k) e → IsToldBy {A = Unit {0}} f (Err e)
told_by chips k entry f errors.Memory there first h = tt
told_by chips k entry f (errors.Named g) there first h = one_first chips (entry.name ∷ []) entry f _ first (h entry there)

pub exact_err : (seen chips : Chips) (top : List ℕ) (k : ℕ) (e : ElabFault) → seen ≡ chips → find_chip seen top ≡ slice_get seen.entries k → Tells (FailsInside seen [] k) e → (entry : Entry) (f : NamedFault) → find_chip chips top ≡ Some entry → IsFirstFault chips (entry.name ∷ []) entry f → IsToldBy {A = Unit {0}} f (Err e)
exact_err seen chips top k e same place h entry f there first =
    let first' = subst (λ (x : Chips). IsFirstFault x (entry.name ∷ []) entry f) (sym same) first in
    told_by seen k entry f e (sym place ∙ ap (λ (x : Chips). find_chip x top) same ∙ there) first' h

pub exact_ok : (seen chips : Chips) (top : List ℕ) (k : ℕ) → seen ≡ chips → find_chip seen top ≡ slice_get seen.entries k → ((entry : Entry) → slice_get seen.entries k ≡ Some entry → IsFaultless seen (entry.name ∷ []) entry) → (entry : Entry) (f : NamedFault) → find_chip chips top ≡ Some entry → IsFirstFault chips (entry.name ∷ []) entry f → ⊥
exact_ok seen chips top k same place h entry f there first =
    let first' = subst (λ (x : Chips). IsFirstFault x (entry.name ∷ []) entry f) (sym same) first in
    not_both seen (entry.name ∷ []) entry f first' (h entry (sym place ∙ ap (λ (x : Chips). find_chip x top) same ∙ there))
