-- The ranges from here on have its point where all have.
use Rattle.std.proofs.Common.{◌≡◌, drop}
use Rattle.nand_cli.specs.Inner.Debugging.{is_among}
use Rattle.nand_cli.proofs.levels.stop.Statement.is_among.Given as goal

abbrev pub invariant-loop-range : goal.invariant-loop-range
invariant-loop-range l =
    is_among l.self.places.now l.self.sub.now l.self.number (drop l.range-index l.range-items) ≡ is_among l.self.places.now l.self.sub.now l.self.number l.range-items
