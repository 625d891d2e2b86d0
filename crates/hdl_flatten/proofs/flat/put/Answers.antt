use Rattle.std.proofs.Common.{◌≡◌, ℕ, [], ◌∷◌, ◌++◌, List, length, length-append, Some, sym, ap, subst, ◌∙◌, arith}
use Rattle.hdl_check.specs.Inner.Progress.{chips_of}
use Rattle.hdl_flatten.specs.declared.plan.Plan.{Plan}
use Rattle.hdl_flatten.specs.declared.flat.Unfinished.{Unfinished}
use Rattle.hdl_flatten.specs.Inner.Putting.{MayPut, IsPut}
use Rattle.hdl_flatten.specs.Inner.Unfinished.{Task, ArePending, all_steps}
use Rattle.hdl_flatten.proofs.Putting.{plan_there}
use Rattle.hdl_flatten.proofs.Pending.{may_begin, entered_next, nothing_left}
use Rattle.hdl_flatten.proofs.flat.put.Goals as goal

pub enter-requires : goal.enter-requires
enter-requires c =
    let chips = chips_of c.args.catalog.now in
    let plans = c.args.plans.now in
    let old = c.args.flat.now in
    let task : Task = record { place = c.args.place; inputs = c.args.inputs.now; old = old } in
    let plan = c.index-plans-place.result in
    let inputs = c.in_ok-nodes.nodes.items in
    let may = subst (λ (is : List ℕ). MayPut plans c.args.place is old) (sym c.in_ok-nodes.ensures.items) c.requires.put in
    may_begin chips plans c.args.place plan inputs old c.requires.plans c.requires.ends may c.index-plans-place.is

pub chips-init : goal.chips-init
chips-init c =
    let chips = chips_of c.args.catalog.now in
    let plans = c.args.plans.now in
    let old = c.args.flat.now in
    let task : Task = record { place = c.args.place; inputs = c.args.inputs.now; old = old } in
    let plan = c.index-plans-place.result in
    let inputs = c.in_ok-nodes.nodes.items in
    let may = subst (λ (is : List ℕ). MayPut plans c.args.place is old) (sym c.in_ok-nodes.ensures.items) c.requires.put in
    let there = (plan_there plans c.args.place may.plan plan may.there c.index-plans-place.is).0 in
    entered_next chips plans c.requires.plans c.requires.ends task c.args.place plan inputs old c.enter.new.flat [] c.new-stack.result.items c.enter.new.stack.items may c.index-plans-place.is c.new-stack.ensures.items
    (λ x put p at.
    let both : Some plan ≡ Some p = sym there ∙ at in
    let same : plan ≡ p = cc in
    subst (λ (is : List ℕ). IsPut chips p is old x) c.in_ok-nodes.ensures.items (subst (λ (z : Plan). IsPut chips z inputs old x) same put)) c.in_ok-enter.ensures

pub step-requires-clause-pending : goal.step-requires-clause-pending
step-requires-clause-pending c =
    let chips = chips_of c.args.catalog.now in
    let plans = c.args.plans.now in
    let old = c.args.flat.now in
    let task : Task = record { place = c.args.place; inputs = c.args.inputs.now; old = old } in
    let chip = c.in-Some.chip in
    let before : ArePending chips plans task (c.pop.new.self.items ++ chip ∷ []) c.chips.flat = subst (λ (us : List Unfinished). ArePending chips plans task us c.chips.flat) c.in-Some.ensures.items c.chips.invariant in
    (task, before)

pub chips-preserved : goal.chips-preserved
chips-preserved c =
    let chips = chips_of c.args.catalog.now in
    let plans = c.args.plans.now in
    let old = c.args.flat.now in
    let task : Task = record { place = c.args.place; inputs = c.args.inputs.now; old = old } in
    let chip = c.in-Some.chip in
    let before : ArePending chips plans task (c.pop.new.self.items ++ chip ∷ []) c.chips.flat = subst (λ (us : List Unfinished). ArePending chips plans task us c.chips.flat) c.in-Some.ensures.items c.chips.invariant in
    c.in_ok-step.ensures.pending task before

pub chips-smaller : goal.chips-smaller
chips-smaller c =
    let e = ap (all_steps c.args.plans.now) c.in-Some.ensures.items in
    let less = c.in_ok-step.ensures.less in
    omega (arith, e, less)

pub returns : goal.returns
returns c =
    let chips = chips_of c.args.catalog.now in
    let plans = c.args.plans.now in
    let old = c.args.flat.now in
    let task : Task = record { place = c.args.place; inputs = c.args.inputs.now; old = old } in
    let none : length c.pop.new.self.items ≡ 0 = omega (arith, c.pop.new.self.ok.0, c.in_default.ensures.cases.1) in
    let items = ap length c.in_default.ensures.items in
    let both = length-append c.pop.new.self.items [] in
    nothing_left chips plans task c.chips.stack.items c.chips.flat (omega (arith, items, both, none)) c.chips.invariant
