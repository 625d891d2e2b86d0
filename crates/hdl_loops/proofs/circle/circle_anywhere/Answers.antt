use Rattle.std.proofs.Common.{◌≡◌, ℕ, ◌<◌, Option, Some, length, refl, sym, ap, subst, ◌∙◌, arith, below_more}
use Rattle.std.specs.Prelude.{slice_get, MatchOption}
use Rattle.std.proofs.lemmas.Option.{slice_get_read, slice_get_within}
use Rattle.hdl_plans.specs.Ways.{Way}
use Rattle.hdl_loops.specs.Inner.Hops.{bit, HasHop, IsRound}
use Rattle.hdl_loops.specs.Inner.Bundles.{hops_in}
use Rattle.hdl_loops.specs.Inner.Ties.{In}
use Rattle.hdl_loops.specs.declared.bundle.Bundle.{Bundle}
use Rattle.hdl_loops.specs.declared.circle.Circle.{Circle}
use Rattle.hdl_loops.specs.declared.joint.Joint.{Joint}
use Rattle.hdl_loops.proofs.Bundling.{no_round_in}
use Rattle.hdl_loops.proofs.circle.circle_anywhere.Goals as goal

pub returns : goal.returns
returns c = no_round_in c.args.graph.now (λ g b e.
    let within : g < length c.args.graph.now = slice_get_within c.args.graph.now g b e in
    let lt : g < c.loop-bundle.bundle-index = omega arith in
    c.loop-bundle.invariant g lt b e)

pub loop-bundle-preserved : goal.loop-bundle-preserved
loop-bundle-preserved c =
    let graph = c.args.graph.now in
    let hs = hops_in graph in
    let k = c.loop-bundle.bundle-index in
    let item = c.bundle-item.result in
    let there : slice_get graph k ≡ Some item = slice_get_read graph (length graph) k item refl c.loop-bundle-test.true c.bundle-item.is in
    let list = c.as_slice.result.now in
    let none : (e : Joint) → In e list → Way (HasHop hs) (bit e.net) (bit e.net) → ⊥ = subst (λ (r : Option Circle). MatchOption r ((e : Joint) → In e list → Way (HasHop hs) (bit e.net) (bit e.net) → ⊥) (IsRound hs)) c.in_default.is c.in_ok-circle.ensures in
    below_more (λ (g : ℕ). (b : Bundle) → slice_get graph g ≡ Some b → (e : Joint) → In e b.enters.items → Way (HasHop hs) (bit e.net) (bit e.net) → ⊥) k c.loop-bundle.invariant
    (λ b at e i w. (let same : b ≡ item = cc in none e (subst (In e) (ap (λ (v : Bundle). v.enters.items) same ∙ sym c.as_slice.ensures.value) i) w))
