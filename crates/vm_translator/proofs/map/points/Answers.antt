use Rattle.vm_translator.proofs.Joined.{points_done, points_more}
use Rattle.vm_translator.specs.Image.{start_ranges}
use Rattle.vm_translator.proofs.map.points.Goals as goal

pub loop-placed-preserved : goal.loop-placed-preserved
loop-placed-preserved c =
    points_more (start_ranges c.args.linked.now) c.args.layout.now.placed.items c.loop-placed.placed-index _ c.range_of.result c.loop-placed.points.items
    c.add_range.new.points.items (rw c.deref-placed-items.ensures.value at c.loop-placed-test.true) (rw c.deref-placed-items.ensures.value at c.range_of.ensures) c.loop-placed.invariant c.in_ok-add_range.ensures

pub returns : goal.returns
returns c =
    points_done c.args.linked.now c.args.layout.now c.args.from c.loop-placed.placed-index c.loop-placed.points.items c.stretch.new.points.items
    c.requires.layout (rw c.deref-placed-items.ensures.value at c.loop-placed-test.false) c.loop-placed.invariant c.requires.from c.stretch.ensures
