use Rattle.std.proofs.Common.{ℕ, refl, arith, length-set}
use Rattle.machine_io.proofs.Pixels.{shown-more, shown-all}
use Rattle.machine_io.proofs.screen.pixels.Goals as goal

pub loop-bit-init : goal.loop-bit-init
loop-bit-init c = record { long = refl; shown = refl }

pub loop-bit-preserved : goal.loop-bit-preserved
loop-bit-preserved c = record {
  long = omega (arith, length-set {A = ℕ});
  shown = shown-more c.args.word c.loop-bit.bit c.shade_of.result c.loop-bit.pixels (omega arith) c.loop-bit.invariant.shown c.shade_of.ensures;
}

pub returns : goal.returns
returns c = shown-all c.args.word c.loop-bit.bit c.loop-bit.pixels c.loop-bit.invariant.long (omega arith) c.loop-bit.invariant.shown
