use Rattle.std.proofs.Common.{◌≡◌, ℕ, List, Option, Some, None, length, refl, sym, ap, subst}
use Rattle.std.specs.Prelude.{MatchOption, slice_get}
use Rattle.std.specs.declared.vec.Vec.{Vec}
use Rattle.std.specs.declared.alloc.Global.{Global}
use Rattle.std.proofs.lemmas.Option.{slice_get_read}
use Rattle.std.proofs.lemmas.Result.{IfOk-weaker}
use Rattle.hdl_tree.specs.declared.tree.Part.{Part}
use Rattle.hdl_tree.specs.declared.library.Entry.{Entry}
use Rattle.hdl_tree.specs.Chips.{Chips}
use Rattle.hdl_check.specs.Whole.{chips_in}
use Rattle.hdl_plans.specs.Loops.{IsLoop}
use Rattle.hdl_plans.specs.Ways.{TreeFits}
use Rattle.hdl_loops.specs.Inner.Hops.{NoRound}
use Rattle.hdl_loops.specs.Inner.Bundles.{hops_in}
use Rattle.hdl_loops.specs.Inner.Looked.{EndsLook}
use Rattle.hdl_loops.specs.Inner.Ties.{gather}
use Rattle.hdl_loops.specs.Inner.Knowing.{part_leaps, AreLeaps, AreHops, IsGraph, IsFull, TreeClear}
use Rattle.hdl_loops.specs.declared.hops.Hop.{Hop}
use Rattle.hdl_loops.proofs.Hopping.{graph_hops}
use Rattle.hdl_loops.proofs.Nesting.{nests_fit}
use Rattle.hdl_loops.proofs.Seen.{seen_clear, graph_full}
use Rattle.hdl_loops.proofs.find.look_last.Goals as goal

told : (chips : Chips) (entry : Entry) (list : List Hop) (r : Option (Vec (List ℕ) Global)) → (NoRound list → TreeFits chips entry → TreeClear chips entry) → MatchOption r (NoRound list) (λ nets. IsLoop chips entry nets.items) → EndsLook chips entry r
told chips entry list None clear h = clear h
told chips entry list (Some nets) clear h = h

pub returns : goal.returns
returns c =
    let es = c.args.entries.now in
    let chips = chips_in es c.args.memories in
    let ks = c.args.known.now in
    let own = c.index-entries-k.result in
    let there : slice_get es c.args.k ≡ Some own = slice_get_read es (length es) c.args.k own refl c.requires.there c.index-entries-k.is in
    let hs = hops_in c.in_ok-graph.graph.items in
    let list = hops_in c.deref.result.now in
    let is : IsGraph chips ks own hs = subst (λ (ps : List Part). AreLeaps hs (gather (part_leaps chips ks) ps)) (c.parts_of-parts.ensures es) c.in_ok-graph.ensures in
    let clear : NoRound list → TreeFits chips own → TreeClear chips own = λ none. seen_clear chips ks own hs (c.requires.no_end own there) is c.requires.right (c.requires.done own there) (subst NoRound (ap hops_in c.deref.ensures.value) none) in
    IfOk-weaker c.loop_in.result _ _
    (λ r h chip at. let same : own ≡ chip = cc in subst (λ (v : Entry). EndsLook chips v r) same (told chips own list r clear h))
    c.loop_in.ensures

pub loop_in-requires-clause-hops : goal.loop_in-requires-clause-hops
loop_in-requires-clause-hops c =
    let es = c.args.entries.now in
    let chips = chips_in es c.args.memories in
    let ks = c.args.known.now in
    let own = c.index-entries-k.result in
    let hs = hops_in c.in_ok-graph.graph.items in
    let is : IsGraph chips ks own hs = subst (λ (ps : List Part). AreLeaps hs (gather (part_leaps chips ks) ps)) (c.parts_of-parts.ensures es) c.in_ok-graph.ensures in
    subst (AreHops chips ks own) (sym (ap hops_in c.deref.ensures.value)) (graph_hops chips ks own hs is)

pub loop_in-requires-clause-full : goal.loop_in-requires-clause-full
loop_in-requires-clause-full c =
    let es = c.args.entries.now in
    let chips = chips_in es c.args.memories in
    let ks = c.args.known.now in
    let own = c.index-entries-k.result in
    let there : slice_get es c.args.k ≡ Some own = slice_get_read es (length es) c.args.k own refl c.requires.there c.index-entries-k.is in
    let hs = hops_in c.in_ok-graph.graph.items in
    let is : IsGraph chips ks own hs = subst (λ (ps : List Part). AreLeaps hs (gather (part_leaps chips ks) ps)) (c.parts_of-parts.ensures es) c.in_ok-graph.ensures in
    subst (IsFull chips own) (sym (ap hops_in c.deref.ensures.value)) (graph_full chips ks own hs is c.requires.right (c.requires.done own there) (nests_fit c.args.depth chips own (c.requires.nests own there)))

pub loop_in-requires-clause-nests : goal.loop_in-requires-clause-nests
loop_in-requires-clause-nests c =
    let es = c.args.entries.now in
    c.requires.nests c.index-entries-k.result (slice_get_read es (length es) c.args.k c.index-entries-k.result refl c.requires.there c.index-entries-k.is)
