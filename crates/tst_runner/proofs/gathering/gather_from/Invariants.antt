use Rattle.std.proofs.Common.{◌≡◌, ◌∷◌, []}
use Rattle.std.specs.Prelude.{reverse}
use Rattle.outer_world.specs.State.{Keeps}
use Rattle.tst_runner.specs.Inner.Gathered.{Leads, sources_of}
use Rattle.hdl_names.specs.Names.{IsIndexed}
use Rattle.tst_runner.proofs.Ending.{candidates, left}
use Rattle.tst_runner.proofs.gathering.gather_from.Given as goal

abbrev pub invariant-chips : goal.invariant-chips
invariant-chips g l = record {
  leads : Leads (sources_of l.fn.places (g.F.Shelf.state l.fn.shelf).files) (l.fn.name ∷ []) [] (reverse l.stack.items) l.gathered.entries.items;
  indexed : IsIndexed l.gathered;
  counts : g.F.Shelf.faults l.shelf ≡ g.F.Shelf.faults l.fn.shelf;
  keeps : Keeps (g.F.Shelf.state l.fn.shelf) (g.F.Shelf.state l.shelf);
}

abbrev pub decreases-chips : goal.decreases-chips
decreases-chips g l = left l.gathered.entries.items (candidates l.places.names.now l.places.shipped.now)
