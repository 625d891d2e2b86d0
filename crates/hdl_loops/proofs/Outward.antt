-- A loop that is reported is one of the chip that was asked for.
use Rattle.std.proofs.Common.{◌≡◌, ℕ, ◌<◌, List, Option, Some, None, length, subst, ◌∙◌}
use Rattle.std.specs.Prelude.{slice_get, MatchOption}
use Rattle.std.specs.declared.vec.Vec.{Vec}
use Rattle.std.specs.declared.alloc.Global.{Global}
use Rattle.hdl_tree.specs.declared.library.Entry.{Entry}
use Rattle.hdl_tree.specs.declared.ends.Memories.{Memories}
use Rattle.hdl_tree.specs.Chips.{find_chip, find_entry}
use Rattle.hdl_check.specs.Whole.{chips_in}
use Rattle.hdl_check.proofs.Stages.{entry_there}
use Rattle.hdl_plans.specs.Loops.{IsLoop}
use Rattle.hdl_loops.specs.Inner.Looked.{TellsLoop}

abbrev Nets : Type 0
Nets = Vec (List ℕ) Global

pub top_has_loop : (es fs : List Entry) (memories : Memories) (k : ℕ) (name top : List ℕ) → es ≡ fs → name ≡ top → k < length es → find_entry es name ≡ slice_get es k → (r : Option Nets) → ((chip : Entry) → slice_get es k ≡ Some chip → TellsLoop (chips_in es memories) chip r) →
    MatchOption r (Unit {0}) (λ nets. (entry : Entry) × (find_chip (chips_in fs memories) top ≡ Some entry) × (IsLoop (chips_in fs memories) entry nets.items))
top_has_loop es fs memories k name top same named lt at None told = tt
top_has_loop es fs memories k name top same named lt at (Some nets) told =
    let e = entry_there es k lt in
    let f : find_entry fs top ≡ slice_get es k = subst (λ v. find_entry v top ≡ slice_get es k) same (subst (λ n. find_entry es n ≡ slice_get es k) named at) in
    (e.0, f ∙ e.1, subst (λ v. IsLoop (chips_in v memories) e.0 nets.items) same (told e.0 e.1))
