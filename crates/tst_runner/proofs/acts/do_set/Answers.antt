use Rattle.std.proofs.Common.{List, ℕ, true, refl, subst}
use Rattle.script_device.specs.Devices.{after_set}
use Rattle.script_device.specs.Running.{TellsSet}
use Rattle.tst_runner.proofs.Kept.{IsState-device, Keeps-set, Stays-set}
use Rattle.tst_runner.proofs.acts.do_set.Goals as goal

pub returns-then-set : goal.returns-then-set
returns-then-set c setting s e h =
    let P : List ℕ → Type 0 = λ text. TellsSet s.device c.set.new.self text c.args.word true in
    let told = subst P c.as_slice.ensures (c.if-set.ensures.stands s.device h.device) in (
      record s { device = after_set s.device told.0 c.args.word },
      (told.0, told.1, refl),
      IsState-device setting c.args.state.now s c.set.new.self (after_set s.device told.0 c.args.word) h (Keeps-set s.device told.0 c.args.word) (Stays-set s.device told.0 c.args.word) told.2,
      refl,
      refl,
    )
