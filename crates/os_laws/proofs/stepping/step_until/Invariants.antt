-- This many steps were made, and the frames have not been as many since.
use Rattle.std.proofs.Common.{◌<◌, ℕ}
use Rattle.jack_meaning.specs.Meaning.{State}
use Rattle.os_laws.specs.Inner.Stepping.{StopsAt}
use Rattle.os_laws.specs.Machine.{GoesOn}
use Rattle.os_laws.proofs.stepping.step_until.Given as goal

abbrev pub invariant-loop-i : goal.invariant-loop-i
invariant-loop-i l =
    record {
      gone : GoesOn l.initial.machine l.i l.machine;
      before : (n : ℕ) (s : State) → StopsAt l.initial.machine l.fn.frames n s → l.i < n;
    }
