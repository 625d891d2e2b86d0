use Rattle.std.proofs.Common.{arith, refl}
use Rattle.std.proofs.lemmas.Option.{slice_get_within, slice_get_read}
use Rattle.gate_sim.specs.Inner.Slots.{value_at}
use Rattle.netlist.proofs.Writes.{words_all, inside_more, words_more}
use Rattle.gate_sim.proofs.leaving.fix_writes.Goals as goal

pub returns-clause-words : goal.returns-clause-words
returns-clause-words c = words_all c.args.blocks.now c.loop-b.writes (value_at c.args.places.now c.args.slots.now) (omega arith) (λ b a old block there. c.loop-b.invariant.words b a old block (let h = slice_get_within c.args.blocks.now b block there in omega arith) there)

pub write_of-requires-clause-block : goal.write_of-requires-clause-block
write_of-requires-clause-block c =
    let there = slice_get_read c.args.blocks.now _ c.loop-b.b _ refl (omega arith) c.index-blocks-b.is in
    c.requires.inputs c.loop-b.b c.index-blocks-b.result there

pub loop-b-preserved : goal.loop-b-preserved
loop-b-preserved c =
    let there = slice_get_read c.args.blocks.now _ c.loop-b.b _ refl (omega arith) c.index-blocks-b.is in
    record {
      inside = inside_more c.args.blocks.now c.loop-b.writes c.loop-b.b c.write_of.result c.index-blocks-b.result (omega arith) there c.write_of.ensures.inside c.loop-b.invariant.inside;
      words = words_more c.args.blocks.now (value_at c.args.places.now c.args.slots.now) c.loop-b.writes c.loop-b.b c.write_of.result c.index-blocks-b.result (omega arith) there c.write_of.ensures.word c.loop-b.invariant.words;
    }
