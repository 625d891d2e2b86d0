use Rattle.tst_runner.proofs.Kept.{IsState-device, Keeps-tock, Stays-tock}
use Rattle.tst_runner.proofs.acts.tock.Goals as goal

pub returns : goal.returns
returns c setting s h = IsState-device setting c.args.state.now s _ _ h (Keeps-tock s.device) (Stays-tock s.device) (c.tock.ensures.stands s.device h.device)
