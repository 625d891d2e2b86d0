use Rattle.std.proofs.Common.{[], map, ap, ◌∙◌}
use Rattle.hdl_plans.specs.Loops.{bit_at}
use Rattle.hdl_loops.specs.Inner.Bundles.{turn}
use Rattle.hdl_loops.proofs.Bundling.{turned_twice}
use Rattle.hdl_loops.proofs.Pairing.{way_back, way_forth}
use Rattle.hdl_loops.proofs.known.turned_pairs.Goals as goal

pub returns-clause-same : goal.returns-clause-same
returns-clause-same c = c.turn_all-2.ensures ∙ ap (map turn) c.turn_all.ensures ∙ turned_twice c.args.graph.now.items

pub returns-clause-right : goal.returns-clause-right
returns-clause-right c = λ n m b k h. way_forth c.args.graph.now.items c.as_slice.result.now (c.as_slice.ensures.value ∙ c.turn_all.ensures) (bit_at [] m k) (bit_at [] n b) (c.in_ok-pairs.ensures.right n m b k h)

pub returns-clause-there : goal.returns-clause-there
returns-clause-there c = λ n m b k from to w. c.in_ok-pairs.ensures.there n m b k from to (way_back c.args.graph.now.items c.as_slice.result.now (c.as_slice.ensures.value ∙ c.turn_all.ensures) (bit_at [] m k) (bit_at [] n b) w)
