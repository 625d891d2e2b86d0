use Rattle.std.proofs.Common.{◌≡◌, ℕ, List, Option, sym, ap, subst}
use Rattle.std.specs.Prelude.{MatchOption}
use Rattle.std.specs.declared.vec.Vec.{Vec}
use Rattle.std.specs.declared.alloc.Global.{Global}
use Rattle.hdl_tree.specs.declared.tree.Part.{Part}
use Rattle.hdl_check.specs.Whole.{chips_in}
use Rattle.hdl_plans.specs.Loops.{IsLoop}
use Rattle.hdl_loops.specs.Inner.Hops.{NoRound}
use Rattle.hdl_loops.specs.Inner.Bundles.{hops_in}
use Rattle.hdl_loops.specs.Inner.Ties.{gather}
use Rattle.hdl_loops.specs.Inner.Knowing.{hops_of, part_leaps, AreLeaps, AreHops, IsGraph, IsFull}
use Rattle.hdl_loops.proofs.Hopping.{graph_hops}
use Rattle.hdl_loops.proofs.Nesting.{nests_fit}
use Rattle.hdl_loops.proofs.Seen.{seen_right, graph_full}
use Rattle.hdl_loops.proofs.find.look_at.Goals as goal

pub returns : goal.returns
returns c =
    let es = c.args.entries.now in
    let chips = chips_in es c.args.memories in
    let hs = hops_in c.in_ok-graph.graph.items in
    let list = hops_in c.as_slice-list.result.now in
    let inside = c.in_ok-inside-in-None.inside in
    let e = c.in_ok-inside-in-None.ensures in
    let same : list ≡ hs = ap hops_in c.as_slice-list.ensures.value in
    let is : IsGraph chips c.args.known.now c.args.entry.now hs = subst (λ (ps : List Part). AreLeaps hs (gather (part_leaps chips c.args.known.now) ps)) (c.parts_of.ensures es) c.in_ok-graph.ensures in
    let none : NoRound hs = subst NoRound same (subst (λ (r : Option (Vec (List ℕ) Global)). MatchOption r (NoRound list) (λ nets. IsLoop chips c.args.entry.now nets.items)) c.in-None.is c.in_ok-nets.ensures) in
    let back : hs ≡ hops_of inside = ap hops_in (sym e.graph) in
    seen_right chips c.args.known.now c.args.entry.now inside c.requires.no_end (subst (IsGraph chips c.args.known.now c.args.entry.now) back is) c.requires.right c.requires.done (subst NoRound back none) e.linked e.right e.there

pub loop_in-requires-clause-hops : goal.loop_in-requires-clause-hops
loop_in-requires-clause-hops c =
    let es = c.args.entries.now in
    let chips = chips_in es c.args.memories in
    let hs = hops_in c.in_ok-graph.graph.items in
    let is : IsGraph chips c.args.known.now c.args.entry.now hs = subst (λ (ps : List Part). AreLeaps hs (gather (part_leaps chips c.args.known.now) ps)) (c.parts_of.ensures es) c.in_ok-graph.ensures in
    subst (AreHops chips c.args.known.now c.args.entry.now) (sym (ap hops_in c.as_slice-list.ensures.value)) (graph_hops chips c.args.known.now c.args.entry.now hs is)

pub loop_in-requires-clause-full : goal.loop_in-requires-clause-full
loop_in-requires-clause-full c =
    let es = c.args.entries.now in
    let chips = chips_in es c.args.memories in
    let ks = c.args.known.now in
    let chip = c.args.entry.now in
    let hs = hops_in c.in_ok-graph.graph.items in
    let is : IsGraph chips ks chip hs = subst (λ (ps : List Part). AreLeaps hs (gather (part_leaps chips ks) ps)) (c.parts_of.ensures es) c.in_ok-graph.ensures in
    subst (IsFull chips chip) (sym (ap hops_in c.as_slice-list.ensures.value)) (graph_full chips ks chip hs is c.requires.right c.requires.done (nests_fit c.args.depth chips chip c.requires.nests))
