use Rattle.std.proofs.Common.{◌≡◌, drop}
use Rattle.tst_runner.specs.Directories.{out_among}
use Rattle.tst_runner.proofs.directories.out_among.Given as goal

abbrev pub invariant-loop-pin : goal.invariant-loop-pin
invariant-loop-pin l = out_among (drop l.pin-index l.pins) l.rest ≡ out_among l.pins l.nodes
