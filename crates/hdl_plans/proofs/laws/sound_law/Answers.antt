use Rattle.hdl_plans.proofs.Nesting.{faultless_sound}
use Rattle.hdl_plans.proofs.laws.sound_law.Goals as goal

pub returns : goal.returns
returns c = faultless_sound
