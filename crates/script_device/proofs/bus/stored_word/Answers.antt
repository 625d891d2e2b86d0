use Rattle.std.proofs.Common.{◌<◌, ◌^◌, ◌+◌, ◌*◌, sym, ap, subst, ◌∙◌}
use Rattle.std.specs.Prelude.{if◌then◌else◌, slice_index, ◌-◌}
use Rattle.script_device.specs.Simulated.{stored_at}
use Rattle.netlist.proofs.Rows.{spelled_back}
use Rattle.script_device.proofs.Numbers.{short}
use Rattle.script_device.proofs.bus.stored_word.Goals as goal

pub doubled-word-requires : goal.doubled-word-requires
doubled-word-requires c =
    subst (λ n. n < 2 ^ 15) (sym c.loop-k.invariant) (short (stored_at c.args.sim.now) c.args.nodes.now c.loop-k.k c.loop-k-test.true c.requires.wide)

pub loop-k-preserved : goal.loop-k-preserved
loop-k-preserved c =
    c.doubled-word.ensures
    ∙ ap (λ b. (if b then 1 else 0) + 2 * c.loop-k.word) c.get.ensures
    ∙ ap (λ n. (if stored_at c.args.sim.now (slice_index c.args.nodes.now (c.loop-k.k - 1)) then 1 else 0) + 2 * n) c.loop-k.invariant
    ∙ sym (spelled_back (stored_at c.args.sim.now) c.args.nodes.now c.loop-k.k c.loop-k-test.true c.loop-k.auto.k)
