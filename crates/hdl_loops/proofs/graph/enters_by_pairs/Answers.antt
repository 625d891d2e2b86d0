use Rattle.std.proofs.Common.{◌≡◌, ◌<◌, get_or, Some, length, List, Option, ℕ, sym, ap, subst, ◌∙◌, rules}
use Rattle.std.specs.Prelude.{slice_get}
use Rattle.std.proofs.lemmas.Option.{slice_get_within}
use Rattle.hdl_check.specs.Whole.{chips_in}
use Rattle.hdl_loops.specs.Inner.Hops.{bit}
use Rattle.hdl_loops.specs.Inner.Knowing.{through_pair, outputs_of, AddsEnters}
use Rattle.hdl_loops.specs.Inner.Leaving.{Leaves, LeavesIn}
use Rattle.hdl_loops.specs.Inner.Ties.{In}
use Rattle.hdl_loops.specs.declared.joint.Joint.{Joint}
use Rattle.hdl_loops.specs.declared.pairs.Pair.{Pair}
use Rattle.hdl_loops.proofs.Linking.{PastAre, past_start, past_more, past_all, leaves_start, leaves_more, leaves_within}
use Rattle.hdl_loops.proofs.Lists.{get_there}
use Rattle.hdl_loops.proofs.Parting.{not_some}
use Rattle.hdl_loops.proofs.Pinning.{IsPaired, map_from, enters_more, paired_kept, paired_here, pairs_found, reversed, in_reverse}
use Rattle.hdl_loops.proofs.graph.enters_by_pairs.Goals as goal

pub loop-at-init : goal.loop-at-init
loop-at-init c =
    let chips = chips_in c.args.entries.now c.args.memories in
    let bits = outputs_of c.args.inside.now in
    let pin = c.args.leave.now.pin in
    record {
      leaves = leaves_start bits c.args.outputs.now pin.name.now pin.bit c.last-at.result c.requires.outputs c.last-at.ensures;
      only = λ a h. absurd (subst (In a) c.new-enters.ensures.items h);
      past = past_start bits (IsPaired chips c.args.known.now c.args.chip c.args.inside.now c.args.sides.now.enters.items c.args.leave.now c.new-enters.result.items) c.args.outputs.now (bit pin) c.last-at.result c.requires.outputs c.last-at.ensures;
    }

pub bounds-pairs-k : goal.bounds-pairs-k
bounds-pairs-k c =
    let inside = c.args.inside.now in
    let at : Leaves (outputs_of inside) c.in-Some.k (bit c.args.leave.now.pin) = subst (λ (o : Option ℕ). LeavesIn (outputs_of inside) o (bit c.args.leave.now.pin)) c.in-Some.is c.loop-at.invariant.leaves in
    let p = map_from (λ (p : Pair). (through_pair inside.turned p).to) inside.pairs.keys c.in-Some.k at.0 at.1 in
    subst (λ (v : List Pair). c.in-Some.k < length v) (sym c.as_slice-pairs.ensures.keys) (slice_get_within inside.pairs.keys c.in-Some.k p.0 p.1)

pub offset_bounds-pairs-k : goal.offset_bounds-pairs-k
offset_bounds-pairs-k c =
    let h : c.in-Some.k < length c.as_slice-pairs.result.now = bounds-pairs-k c in search rules

pub before-at-requires : goal.before-at-requires
before-at-requires c =
    let inside = c.args.inside.now in
    let x = bit c.args.leave.now.pin in
    leaves_within (outputs_of inside) c.args.outputs.now c.in-Some.k x c.requires.outputs (subst (λ (o : Option ℕ). LeavesIn (outputs_of inside) o x) c.in-Some.is c.loop-at.invariant.leaves)

pub loop-at-preserved : goal.loop-at-preserved
loop-at-preserved c =
    let chips = chips_in c.args.entries.now c.args.memories in
    let ks = c.args.known.now in
    let place = c.args.chip in
    let inside = c.args.inside.now in
    let joints = c.args.sides.now.enters.items in
    let leave = c.args.leave.now in
    let bits = outputs_of inside in
    let l = c.args.outputs.now in
    let x = bit leave.pin in
    let k = c.in-Some.k in
    let inv = c.loop-at.invariant in
    let old = c.loop-at.enters.items in
    let new = c.add_enters.new.enters.items in
    let some = c.in_ok-some.some.items in
    let at : Leaves bits k x = subst (λ (o : Option ℕ). LeavesIn bits o x) c.in-Some.is inv.leaves in
    let list = c.as_slice-pairs.result.now in
    let p = map_from (λ (p : Pair). (through_pair inside.turned p).to) inside.pairs.keys k at.0 at.1 in
    let within : k < length list = subst (λ (v : List Pair). k < length v) (sym c.as_slice-pairs.ensures.keys) (slice_get_within inside.pairs.keys k p.0 p.1) in
    let pair = get_or list k _ in
    let here : slice_get inside.pairs.keys k ≡ Some pair = ap (λ (v : List Pair). slice_get v k) (sym c.as_slice-pairs.ensures.keys) ∙ get_there list k _ within in
    let adds : AddsEnters chips ks place some leave old new = subst (λ (v : List Joint). AddsEnters chips ks place v leave old new) c.as_slice-list.ensures.value c.in_ok-add_enters.ensures in
    let items = c.deref.ensures.value in
    let pair_is = c.through_pair-pair.ensures in
    let all : (a : Joint) → In a joints → bit a.pin ≡ bit (through_pair inside.turned pair).from → In a some =
    λ a i e. c.in_ok-some.ensures.all a (subst (λ (v : List Joint). In a v) (sym items) i) (e ∙ ap (λ (v : Pair). bit v.from) (sym pair_is)) in
    let among : (a : Joint) → In a some → In a joints = λ a i. subst (λ (v : List Joint). In a v) items (c.in_ok-some.ensures.only a i).0 in
    record {
      leaves = leaves_more bits l k c.before-at.result x c.requires.outputs at c.before-at.ensures;
      only = enters_more chips ks place joints some leave old new among adds inv.only;
      past =
          past_more bits (IsPaired chips ks place inside joints leave old) (IsPaired chips ks place inside joints leave new) l k c.before-at.result x c.requires.outputs at c.before-at.ensures
          (paired_kept chips ks place inside joints some leave old new adds) (paired_here chips ks place inside joints some leave old new k pair here all adds)
          (subst (λ (o : Option ℕ). PastAre bits (IsPaired chips ks place inside joints leave old) x o) c.in-Some.is inv.past);
    }

pub returns : goal.returns
returns c =
    let chips = chips_in c.args.entries.now c.args.memories in
    let ks = c.args.known.now in
    let place = c.args.chip in
    let inside = c.args.inside.now in
    let joints = c.args.sides.now.enters.items in
    let leave = c.args.leave.now in
    let found = c.loop-at.enters.items in
    let inv = c.loop-at.invariant in
    let all = pairs_found chips ks place inside joints leave found c.requires.there c.requires.inside (past_all (outputs_of inside) (IsPaired chips ks place inside joints leave found) (bit leave.pin) c.loop-at.at (not_some _ c.in_default.not-Some) inv.past) in
    record {
      only = λ a h. inv.only a (reversed a found (subst (In a) c.reverse.ensures.items h));
      all = λ a h leads. subst (In a) (sym c.reverse.ensures.items) (in_reverse a found (all a h leads));
    }
