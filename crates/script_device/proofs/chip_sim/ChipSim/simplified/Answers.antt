use Rattle.std.proofs.Common.{◌∙◌, sym}
use Rattle.script_device.proofs.Keeping.{contains_among, single_places}
use Rattle.script_device.proofs.chip_sim.ChipSim.simplified.Goals as goal

pub places_by_node-requires-clause-single : goal.places_by_node-requires-clause-single
places_by_node-requires-clause-single c =
    single_places _ _ _ _ c.deref-2.result.now c.deref-3.result.now c.in_ok-simple.ensures.folded (c.deref-2.ensures.value ∙ sym c.deref.ensures.value) c.deref-3.ensures.value

pub returns-clause-seen : goal.returns-clause-seen
returns-clause-seen c = λ k h. contains_among c.in_ok-kept.kept.items k (c.in_ok-kept.ensures.named k h)
