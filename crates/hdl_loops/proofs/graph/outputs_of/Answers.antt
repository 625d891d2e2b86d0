use Rattle.std.proofs.Common.{get_or, List, subst, arith}
use Rattle.hdl_loops.specs.Inner.Leaving.{IsLinked}
use Rattle.hdl_loops.specs.Inner.Knowing.{through_pair}
use Rattle.hdl_loops.specs.declared.pairs.Pair.{Pair}
use Rattle.std.proofs.Common.{map, ◌++◌, ◌∷◌, []}
use Rattle.hdl_loops.proofs.Linking.{keys_next, keys_all}
use Rattle.hdl_loops.proofs.Lists.{get_there}
use Rattle.hdl_loops.proofs.graph.outputs_of.Goals as goal

pub loop-found-preserved : goal.loop-found-preserved
loop-found-preserved c =
    let pairs = c.as_slice-pairs.result.now in
    let i = c.loop-found.found-index in
    let f = λ (p : Pair). (through_pair c.args.inside.now.turned p).to in
    keys_next f pairs i (get_or pairs i _) c.loop-found.outputs c.add.new.self (get_there pairs i _ c.loop-found-test.true) c.loop-found.invariant
    (λ bits linked. subst (λ (v : Pair). IsLinked (bits ++ v.to ∷ []) c.add.new.self) c.through_pair-pair.ensures (c.in_ok-add.ensures bits linked))

pub returns : goal.returns
returns c =
    let f = λ (p : Pair). (through_pair c.args.inside.now.turned p).to in
    subst (λ (v : List Pair). IsLinked (map f v) c.loop-found.outputs) c.as_slice-pairs.ensures.keys (keys_all f c.as_slice-pairs.result.now c.loop-found.found-index c.loop-found.outputs (omega arith) c.loop-found.invariant)
