-- No loop was found in a chip whose tree is known.
use Rattle.std.proofs.Common.{◌≡◌, ℕ, List, [], ◌∷◌, Option, Some, None, Result, Ok, Err, length, sym, subst, ◌∙◌}
use Rattle.std.specs.Prelude.{slice_get, IfOk, OnOk}
use Rattle.hdl_tree.specs.declared.library.Entry.{Entry}
use Rattle.hdl_tree.specs.declared.ends.Memories.{Memories}
use Rattle.hdl_tree.specs.Chips.{find_chip, find_entry}
use Rattle.hdl_check.specs.Whole.{chips_in, TopIsFaultless}
use Rattle.hdl_plans.specs.Loops.{IsLoop}
use Rattle.hdl_plans.proofs.Fits.{tree_fits}
use Rattle.hdl_plans.specs.Ways.{TreeFits}
use Rattle.hdl_loops.specs.Inner.Knowing.{NestsAt, TreeClear}
use Rattle.hdl_loops.proofs.Nesting.{faultless_nests}
use Rattle.hdl_loops.proofs.Seen.{clear_no_loop}

pub top_has_none : (es fs : List Entry) (memories : Memories) (k : ℕ) (name top : List ℕ) → es ≡ fs → name ≡ top → find_entry es name ≡ slice_get es k → TopIsFaultless (chips_in fs memories) top → ((chip : Entry) → slice_get es k ≡ Some chip → TreeFits (chips_in es memories) chip → TreeClear (chips_in es memories) chip) →
    (entry : Entry) (nets : List (List ℕ)) → find_chip (chips_in fs memories) top ≡ Some entry → IsLoop (chips_in fs memories) entry nets → ⊥
top_has_none es fs memories k name top same named at fine clear entry nets found loop =
    let chips = chips_in fs memories in
    let f : find_entry fs top ≡ slice_get fs k = subst (λ v. find_entry v top ≡ slice_get v k) same (subst (λ n. find_entry es n ≡ slice_get es k) named at) in
    let there : slice_get fs k ≡ Some entry = sym f ∙ found in
    let fit = tree_fits chips (entry.name ∷ []) entry (fine entry found) in
    let clear_here : (chip : Entry) → slice_get fs k ≡ Some chip → TreeFits chips chip → TreeClear chips chip = subst (λ v. (chip : Entry) → slice_get v k ≡ Some chip → TreeFits (chips_in v memories) chip → TreeClear (chips_in v memories) chip) same clear in
    clear_no_loop chips entry fit (clear_here entry there fit) nets loop

-- parts of the chip nest less deep than there are chips
pub top_nests : (es fs : List Entry) (memories : Memories) (k : ℕ) (name top : List ℕ) → es ≡ fs → name ≡ top → find_entry es name ≡ slice_get es k → TopIsFaultless (chips_in fs memories) top → NestsAt (length es) (chips_in es memories) k
top_nests es fs memories k name top same named at fine entry there =
    let found_here : find_entry es top ≡ Some entry = subst (λ n. find_entry es n ≡ Some entry) named (at ∙ there) in
    faultless_nests (chips_in es memories) top entry found_here (subst (λ v. TopIsFaultless (chips_in v memories) top) (sym same) fine entry found_here)

pub none_of : {X E K A Q : Type 0} (r : Result (Option X) E) → OnOk r A → IfOk r (λ o. o ≡ None → K) → (K → A → Q) → IfOk r (λ o. o ≡ None → Q)
none_of (Ok o) right done f = λ e. f (done e) right
none_of (Err e) right done f = done
