use Rattle.std.proofs.Common.{◌≡◌, ◌+◌, ℕ, take}
use Rattle.outer_world.specs.State.{Keeps}
use Rattle.source_files.specs.Sources.{SpellEach}
use Rattle.source_files.proofs.folder.load_each.Given as goal

abbrev pub invariant-loop-name : goal.invariant-loop-name
invariant-loop-name g l = record {
  spelled : SpellEach (g.L.Language.spells l.fn.language) (g.F.Shelf.state l.fn.shelf).files l.fn.folder (take l.name-index l.names) l.sources.items;
  counts : g.F.Shelf.faults l.shelf ≡ g.F.Shelf.faults l.fn.shelf;
  keeps : Keeps (g.F.Shelf.state l.fn.shelf) (g.F.Shelf.state l.shelf);
  spends : (n : ℕ) → g.F.Shelf.unfailing_for l.fn.shelf (l.name-index + n) → g.F.Shelf.unfailing_for l.shelf n;
}
