-- The moves so far.
use Rattle.nand_cli.proofs.SoakVm.{HasComeTo}
use Rattle.nand_cli.proofs.soak.comes_behind.Given as goal

abbrev pub invariant-loop-move : goal.invariant-loop-move
invariant-loop-move l = HasComeTo l.fn.vm.linked l.m l.vm l._move
