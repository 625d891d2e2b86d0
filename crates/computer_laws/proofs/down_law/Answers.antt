use Rattle.hdl_check.specs.Whole.{chips_in}
use Rattle.hack_cpu.specs.Library.{shipped_chips}
use Rattle.computer_laws.proofs.Down.{comes_down}
use Rattle.computer_laws.proofs.down_law.Goals as goal

pub returns : goal.returns
returns c = record {
  faultless = comes_down;
  shipped = λ memories i entry at. comes_down (chips_in shipped_chips memories) entry (c.faultless_law.ensures memories i entry at);
}
