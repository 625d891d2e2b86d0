use Rattle.std.proofs.Common.{◌<◌, get_or, length, refl, sym, ap, subst, ◌∙◌, arith, add-one}
use Rattle.std.specs.Prelude.{if◌then◌else◌, nat_eq}
use Rattle.gate_sim.specs.Calls.{pins_of}
use Rattle.gate_sim.specs.Cycles.{Runs}
use Rattle.gate_computer.specs.Inner.Told.{HoldsPart}
use Rattle.gate_computer.proofs.Keyboard.{none_set, next_bit, one_more, all_set}
use Rattle.gate_computer.proofs.reading.set_keyboard.Goals as goal

pub loop-k-init : goal.loop-k-init
loop-k-init c = record {
  net = refl;
  told = λ calls stands held. record { now = calls; stands = stands; pins = none_set c.args.keyboard.now c.args.key c.args.old (pins_of c.args.sim.now.net.nodes calls) held; runs = λ h n r. r };
}

pub loop-k-preserved : goal.loop-k-preserved
loop-k-preserved c = record {
  net = c.set_pin.ensures.net ∙ c.loop-k.invariant.net;
  told = λ calls stands held.
      let keyboard = c.args.keyboard.now in
      let k = c.loop-k.k in
      let before = c.loop-k.invariant.told calls stands held in
      let near : k < length keyboard = c.loop-k-test.true in
      let was = next_bit keyboard k c.args.key c.args.old (pins_of c.loop-k.sim.net.nodes before.now) near before.pins ∙ sym c.bit.ensures in
      let set = c.set_pin.ensures.told before.now before.stands was in
      record {
        now = set.now;
        stands = set.stands;
        pins = subst (λ m. HoldsPart keyboard m c.args.key c.args.old (pins_of c.set_pin.new.sim.net.nodes set.now)) (sym (add-one k))
            (one_more c.loop-k.sim.net.nodes keyboard k c.args.key c.args.old before.now (pins_of c.set_pin.new.sim.net.nodes set.now) c.requires.apart near before.pins
            (λ i. set.pins i ∙ ap (λ b. if nat_eq (get_or keyboard k 0) i then b else pins_of c.loop-k.sim.net.nodes before.now i) c.bit-in-loop-k.ensures));
        runs = λ h n r.
            set.runs h n (subst (λ m. Runs m h n before.now) (sym c.set_pin.ensures.net) (before.runs h n (subst (λ m. Runs m h n calls) c.set_pin.ensures.net r)));
      };
}

pub returns-clause-told : goal.returns-clause-told
returns-clause-told c calls stands held =
    let last = c.loop-k.invariant.told calls stands held in
    record { now = last.now; stands = last.stands; pins = all_set c.args.keyboard.now c.loop-k.k c.args.key c.args.old (pins_of c.loop-k.sim.net.nodes last.now) (omega arith) last.pins; runs = last.runs }
