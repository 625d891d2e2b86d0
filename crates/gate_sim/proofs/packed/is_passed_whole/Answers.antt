use Rattle.gate_sim.proofs.Placing.{readers_over, not_false}
use Rattle.gate_sim.proofs.packed.is_passed_whole.Goals as goal

-- the lists behind the slices: spans (deref), list (deref-2), always (deref-3), operations (deref-4), takes (deref-5)
pub returns : goal.returns
returns c e =
    readers_over _ _ _ _ _ _ _ _ _ _
    c.deref-4.ensures.value c.deref-5.ensures.value c.deref.ensures.value c.deref-2.ensures.value c.deref-3.ensures.value (c.are_readers.ensures (not_false _ e))
