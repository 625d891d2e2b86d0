-- So far each move was made under its key, the test held nowhere before, and the program is the same.
use Rattle.std.proofs.Common.{◌≡◌, []}
use Rattle.machine_io.specs.Driven.{Goes}
use Rattle.machine_io.proofs.Ways.{HasCome}
use Rattle.machine_io.proofs.driving.drive_until.Given as goal

abbrev pub invariant-loop-i : goal.invariant-loop-i
invariant-loop-i g l =
    record {
      goes : Goes (g.K.Keyboard.code l.fn.keys) (g.L.Level.stands l.initial.level) (g.L.Level.reading l.initial.level).moves l._i [] (g.L.Level.stands l.level) (g.L.Level.reading l.level).moves;
      come : HasCome (g.U.Until.test l.fn.until) g.L.Level.stands g.L.Level.reading (g.K.Keyboard.code l.fn.keys) l.initial.level l._i l.steps l.level;
      program : g.L.Level.program l.level ≡ g.L.Level.program l.initial.level;
    }
