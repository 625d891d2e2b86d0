-- So far no cycle was one to stop at, and it is known whether a step has just ended.
use Rattle.key_script.specs.Codes.{code_at}
use Rattle.gate_computer.specs.Followed.{image_in}
use Rattle.nand_cli.specs.Inner.Debugging.{HasGone}
use Rattle.nand_cli.proofs.Stopping.{HasEnded, NoneBefore}
use Rattle.nand_cli.proofs.levels.stop.go_to.Given as goal

abbrev pub invariant-loop-i : goal.invariant-loop-i
invariant-loop-i l =
    record {
      gone : HasGone (image_in l.initial.computer) (code_at l.fn.keys) l._i l.computer;
      ended : HasEnded (image_in l.initial.computer) (code_at l.fn.keys) l._i l.between;
      none : NoneBefore l.fn.at.places.now l.fn.at.sub.now l.fn.at.number (image_in l.initial.computer) (code_at l.fn.keys) l._i;
    }
