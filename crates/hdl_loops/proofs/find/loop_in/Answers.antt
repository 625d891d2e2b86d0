use Rattle.std.proofs.Common.{Option, subst}
use Rattle.std.specs.Prelude.{MatchOption}
use Rattle.hdl_loops.specs.Inner.Hops.{NoRound, IsRound}
use Rattle.hdl_loops.specs.Inner.Bundles.{hops_in}
use Rattle.hdl_loops.specs.declared.circle.Circle.{Circle}
use Rattle.hdl_loops.proofs.find.loop_in.Goals as goal

pub nets_of-requires-clause-hops : goal.nets_of-requires-clause-hops
nets_of-requires-clause-hops c = λ p h e.
    let hops = hops_in c.args.graph.now in
    let round : IsRound hops c.in-Some.circle = subst (λ (r : Option Circle). MatchOption r (NoRound hops) (IsRound hops)) c.in-Some.is c.in_ok-circle_in.ensures in
    let q = round.inside p h e in
    c.requires.hops q.0 h q.1

pub nets_of-requires-clause-straight : goal.nets_of-requires-clause-straight
nets_of-requires-clause-straight c =
    let hops = hops_in c.args.graph.now in
    let round : IsRound hops c.in-Some.circle = subst (λ (r : Option Circle). MatchOption r (NoRound hops) (IsRound hops)) c.in-Some.is c.in_ok-circle_in.ensures in
    record { all = hops; full = c.requires.full; inside = round.inside; direct = round.direct }
