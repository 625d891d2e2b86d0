use Rattle.std.proofs.Common.{get_or-set_other}
use Rattle.gate_sim.specs.Inner.Plans.{place_of}
use Rattle.gate_sim.proofs.Taking.{bits_set}
use Rattle.gate_sim.proofs.leaving.set_bit.Goals as goal

pub returns-clause-bits : goal.returns-clause-bits
returns-clause-bits c =
    bits_set c.args.places.now c.args.words.now c.args.k c.with_bit-word.result c.args.bit c.requires.node (c.requires.places c.args.k c.requires.node).0
    c.with_bit-word.ensures.here c.with_bit-word.ensures.others
    (λ j less. (c.requires.places j less).1) c.requires.apart

pub returns-clause-others : goal.returns-clause-others
returns-clause-others c q ne = get_or-set_other c.args.words.now (place_of c.args.places.now c.args.k).slot q c.with_bit-word.result 0 ne
