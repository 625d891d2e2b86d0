use Rattle.std.proofs.Common.{◌≡◌, ℕ, ◌++◌, ◌∷◌, [], List, length, map, refl, sym, ap, subst, ◌∙◌, arith}
use Rattle.hdl_check.specs.Inner.Progress.{chips_of}
use Rattle.hdl_flatten.specs.declared.wires.Bit.{Bit}
use Rattle.hdl_flatten.specs.declared.flat.Growing.{Growing}
use Rattle.hdl_flatten.specs.declared.flat.Unfinished.{Unfinished}
use Rattle.hdl_flatten.specs.Flat.{block_at}
use Rattle.hdl_flatten.specs.Inner.Puts.{node_of}
use Rattle.hdl_flatten.specs.Inner.Wired.{bit_of}
use Rattle.hdl_flatten.specs.Inner.Feeds.{feed_origins}
use Rattle.hdl_flatten.specs.Inner.Fed.{nodes_in, MayFeed}
use Rattle.hdl_flatten.specs.Inner.Unfinished.{IsBegun}
use Rattle.hdl_flatten.proofs.Putting.{rest_is_none, on_both, head_base, head_fed, head_place, head_long, head_few, head_number, head_entry, head_outs, head_may}
use Rattle.hdl_flatten.proofs.Pending.{on_top, head, head_there, may_begin, nodes_are, entered_next, carried, finished, one_less, step_less}
use Rattle.hdl_flatten.proofs.flat.step.Goals as goal

pub returns-in_default-clause-pending : goal.returns-in_default-clause-pending
returns-in_default-clause-pending c =
    let chips = chips_of c.args.catalog.now in
    let plans = c.args.plans.now in
    let now = c.args.flat.now in
    let u = c.args.chip in
    let items = c.args.stack.now.items in
    λ task a.
    let t = on_top chips plans task items u now a in
    record { stack = t.below; items_are = t.items_are; pending = finished chips plans c.requires.plans c.requires.ends task now u t.below t.pending.0 (rest_is_none u.rest.now c.in_default.ensures.cases) t.pending.1 }

pub returns-in_default-clause-less : goal.returns-in_default-clause-less
returns-in_default-clause-less c =
    one_less c.args.plans.now c.args.stack.now.items c.args.chip

pub offset_bounds-plans-part : goal.offset_bounds-plans-part
offset_bounds-plans-part c =
    let chips = chips_of c.args.catalog.now in
    let plans = c.args.plans.now in
    let now = c.args.flat.now in
    let u = c.args.chip in
    let items = c.args.stack.now.items in
    let q = c.in-Some.part.now in
    let qs = c.in-Some.others.now in
    let task = c.requires.pending.0 in
    let t = on_top chips plans task items u now c.requires.pending.1 in
    let o = t.pending.0 in
    let h = head chips plans c.requires.plans c.requires.ends task now u o q qs c.in-Some.ensures.cases.0 in
    let lt = head_place chips plans o.place o.plan (nodes_in u.inputs) o.old now q qs h in
    let few = c.well_formed.1.1.0.1 in
    omega (arith, lt, few)

pub bounds-plans-part : goal.bounds-plans-part
bounds-plans-part c =
    let chips = chips_of c.args.catalog.now in
    let plans = c.args.plans.now in
    let now = c.args.flat.now in
    let u = c.args.chip in
    let items = c.args.stack.now.items in
    let q = c.in-Some.part.now in
    let qs = c.in-Some.others.now in
    let task = c.requires.pending.0 in
    let t = on_top chips plans task items u now c.requires.pending.1 in
    let o = t.pending.0 in
    let h = head chips plans c.requires.plans c.requires.ends task now u o q qs c.in-Some.ensures.cases.0 in
    head_place chips plans o.place o.plan (nodes_in u.inputs) o.old now q qs h

pub nodes-requires-clause-base : goal.nodes-requires-clause-base
nodes-requires-clause-base c =
    let chips = chips_of c.args.catalog.now in
    let plans = c.args.plans.now in
    let now = c.args.flat.now in
    let u = c.args.chip in
    let items = c.args.stack.now.items in
    let q = c.in-Some.part.now in
    let qs = c.in-Some.others.now in
    let task = c.requires.pending.0 in
    let t = on_top chips plans task items u now c.requires.pending.1 in
    let o = t.pending.0 in
    let h = head chips plans c.requires.plans c.requires.ends task now u o q qs c.in-Some.ensures.cases.0 in
    let small = head_base chips plans o.place o.plan (nodes_in u.inputs) o.old now q qs h in
    let base = o.base_is in
    omega (arith, small, base)

pub nodes-requires-clause-may : goal.nodes-requires-clause-may
nodes-requires-clause-may c =
    let chips = chips_of c.args.catalog.now in
    let plans = c.args.plans.now in
    let now = c.args.flat.now in
    let u = c.args.chip in
    let items = c.args.stack.now.items in
    let q = c.in-Some.part.now in
    let qs = c.in-Some.others.now in
    let task = c.requires.pending.0 in
    let t = on_top chips plans task items u now c.requires.pending.1 in
    let o = t.pending.0 in
    let h = head chips plans c.requires.plans c.requires.ends task now u o q qs c.in-Some.ensures.cases.0 in
    let y = c.index-plans-part.result in
    subst (λ (bs : List Bit). MayFeed (length (nodes_in u.inputs)) q.feeds (map bit_of bs)) (sym c.deref.ensures.value) (head_fed chips plans o.place o.plan (nodes_in u.inputs) o.old now q qs h y c.index-plans-part.is)

pub part_at-requires-clause-there : goal.part_at-requires-clause-there
part_at-requires-clause-there c =
    let chips = chips_of c.args.catalog.now in
    let plans = c.args.plans.now in
    let now = c.args.flat.now in
    let u = c.args.chip in
    let items = c.args.stack.now.items in
    let q = c.in-Some.part.now in
    let qs = c.in-Some.others.now in
    let task = c.requires.pending.0 in
    let t = on_top chips plans task items u now c.requires.pending.1 in
    let o = t.pending.0 in
    let h = head chips plans c.requires.plans c.requires.ends task now u o q qs c.in-Some.ensures.cases.0 in
    let y = c.index-plans-part.result in
    head_number chips plans o.place o.plan (nodes_in u.inputs) o.old now q qs h y c.index-plans-part.is

pub part_at-requires-clause-base : goal.part_at-requires-clause-base
part_at-requires-clause-base c =
    let chips = chips_of c.args.catalog.now in
    let plans = c.args.plans.now in
    let now = c.args.flat.now in
    let u = c.args.chip in
    let items = c.args.stack.now.items in
    let q = c.in-Some.part.now in
    let qs = c.in-Some.others.now in
    let task = c.requires.pending.0 in
    let t = on_top chips plans task items u now c.requires.pending.1 in
    let o = t.pending.0 in
    let h = head chips plans c.requires.plans c.requires.ends task now u o q qs c.in-Some.ensures.cases.0 in
    let long = ap length c.as_slice.ensures.value in
    let small = head_long chips plans o.place o.plan (nodes_in u.inputs) o.old now q qs h in
    omega (arith, long, small)

pub part_at-requires-clause-within : goal.part_at-requires-clause-within
part_at-requires-clause-within c =
    let chips = chips_of c.args.catalog.now in
    let plans = c.args.plans.now in
    let now = c.args.flat.now in
    let u = c.args.chip in
    let items = c.args.stack.now.items in
    let q = c.in-Some.part.now in
    let qs = c.in-Some.others.now in
    let task = c.requires.pending.0 in
    let t = on_top chips plans task items u now c.requires.pending.1 in
    let o = t.pending.0 in
    let h = head chips plans c.requires.plans c.requires.ends task now u o q qs c.in-Some.ensures.cases.0 in
    let nodes = nodes_in c.in_ok-nodes.nodes in
    let fed = nodes_are (feed_origins q.feeds) u.base (length o.old.nodes.items) (nodes_in u.inputs) nodes c.in_ok-nodes.ensures o.base_is in
    let y = c.index-plans-part.result in
    head_outs chips plans o.place o.plan (nodes_in u.inputs) o.old now q qs h y c.index-plans-part.is nodes fed

pub part_at-requires-clause-number : goal.part_at-requires-clause-number
part_at-requires-clause-number c =
    let chips = chips_of c.args.catalog.now in
    let plans = c.args.plans.now in
    let now = c.args.flat.now in
    let u = c.args.chip in
    let items = c.args.stack.now.items in
    let q = c.in-Some.part.now in
    let qs = c.in-Some.others.now in
    let task = c.requires.pending.0 in
    let t = on_top chips plans task items u now c.requires.pending.1 in
    let o = t.pending.0 in
    let h = head chips plans c.requires.plans c.requires.ends task now u o q qs c.in-Some.ensures.cases.0 in
    let long = ap length c.as_slice-2.ensures.value in
    let small = head_few chips plans o.place o.plan (nodes_in u.inputs) o.old now q qs h in
    omega (arith, long, small)

pub enter-requires : goal.enter-requires
enter-requires c =
    let chips = chips_of c.args.catalog.now in
    let plans = c.args.plans.now in
    let now = c.args.flat.now in
    let u = c.args.chip in
    let items = c.args.stack.now.items in
    let q = c.in-Some.part.now in
    let qs = c.in-Some.others.now in
    let task = c.requires.pending.0 in
    let t = on_top chips plans task items u now c.requires.pending.1 in
    let o = t.pending.0 in
    let h = head chips plans c.requires.plans c.requires.ends task now u o q qs c.in-Some.ensures.cases.0 in
    let nodes = nodes_in c.in_ok-nodes.nodes in
    let fed = nodes_are (feed_origins q.feeds) u.base (length o.old.nodes.items) (nodes_in u.inputs) nodes c.in_ok-nodes.ensures o.base_is in
    let y = c.index-plans-part.result in
    may_begin chips plans q.place y nodes _ c.requires.plans c.requires.ends (head_may chips plans o.place o.plan (nodes_in u.inputs) o.old now q qs h nodes _ fed refl refl) c.index-plans-part.is

pub returns-clause-pending : goal.returns-clause-pending
returns-clause-pending c =
    let chips = chips_of c.args.catalog.now in
    let plans = c.args.plans.now in
    let now = c.args.flat.now in
    let u = c.args.chip in
    let items = c.args.stack.now.items in
    let nodes = nodes_in c.in_ok-nodes.nodes in
    let y = c.index-plans-part.result in
    let q = c.in-Some.part.now in
    let qs = c.in-Some.others.now in
    let v : Unfinished = record { base = u.base; inputs = u.inputs; rest = c.in-Some.others } in
    let mid : Growing = record { nodes = now.nodes; blocks = now.blocks; parts = c.push.new.self } in
    let listed = c.in_ok-listed.listed in
    on_both c.enter.result c.enter.ensures c.enter.ensures (λ b _ task a.
    let t = on_top chips plans task items u now a in
    let o = t.pending.0 in
    let h = head chips plans c.requires.plans c.requires.ends task now u o q qs c.in-Some.ensures.cases.0 in
    let fed = nodes_are (feed_origins q.feeds) u.base (length o.old.nodes.items) (nodes_in u.inputs) nodes c.in_ok-nodes.ensures o.base_is in
    let outs : listed.outs ≡ map (node_of (length now.nodes.items) nodes) y.outs.items =
    c.in_ok-listed.ensures.outs ∙ ap (λ (n : ℕ). map (node_of n nodes) y.outs.items) (ap length c.as_slice.ensures.value) in
    let block : listed.block ≡ block_at y.end (length now.blocks.items) = c.in_ok-listed.ensures.block ∙ ap (block_at y.end) (ap length c.as_slice-2.ensures.value) in
    let name : listed.chip ≡ y.entry.now.name = c.in_ok-listed.ensures.chip y.entry.now (head_entry chips plans o.place o.plan (nodes_in u.inputs) o.old now q qs h y c.index-plans-part.is) in
    entered_next chips plans c.requires.plans c.requires.ends task q.place y nodes mid c.enter.new.flat (v ∷ t.below) c.push-2.new.stack.items c.enter.new.stack.items (head_may chips plans o.place o.plan (nodes_in u.inputs) o.old now q qs h nodes mid fed refl refl) c.index-plans-part.is (c.in_ok-push-2.ensures ∙ ap (λ (us : List Unfinished). us ++ v ∷ []) t.items_are)
    (λ x put. carried chips plans c.requires.plans c.requires.ends task now mid x u v t.below o q qs h y c.index-plans-part.is nodes listed refl refl refl fed refl refl c.in_ok-push.ensures name outs block t.pending.1 put) b)

pub returns-clause-less : goal.returns-clause-less
returns-clause-less c =
    let chips = chips_of c.args.catalog.now in
    let plans = c.args.plans.now in
    let now = c.args.flat.now in
    let u = c.args.chip in
    let items = c.args.stack.now.items in
    let q = c.in-Some.part.now in
    let qs = c.in-Some.others.now in
    let task = c.requires.pending.0 in
    let t = on_top chips plans task items u now c.requires.pending.1 in
    let o = t.pending.0 in
    let h = head chips plans c.requires.plans c.requires.ends task now u o q qs c.in-Some.ensures.cases.0 in
    let y = c.index-plans-part.result in
    let v : Unfinished = record { base = u.base; inputs = u.inputs; rest = c.in-Some.others } in
    let mid : Growing = record { nodes = now.nodes; blocks = now.blocks; parts = c.push.new.self } in
    let there = head_there chips plans o.place o.plan (nodes_in u.inputs) o.old now q qs h y c.index-plans-part.is in
    on_both c.enter.result c.enter.ensures c.enter.ensures (λ b _.
    step_less chips plans c.requires.plans items c.enter.new.stack.items u v q qs y (nodes_in c.in_ok-nodes.nodes) mid c.enter.new.flat there c.in-Some.ensures.cases.0 refl (subst (λ (us : List Unfinished). IsBegun y (nodes_in c.in_ok-nodes.nodes) mid c.enter.new.flat us c.enter.new.stack.items) c.in_ok-push-2.ensures b))
