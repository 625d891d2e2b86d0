use Rattle.std.proofs.Common.{◌≡◌, ◌<◌, [], ◌∷◌, ◌++◌, List, length, length-append, Option, Some, None, refl, ap, ◌∙◌, arith}
use Rattle.std.specs.Prelude.{slice_get}
use Rattle.hdl_check.specs.Inner.Progress.{chips_of}
use Rattle.hdl_flatten.specs.declared.nest.Visit.{Visit}
use Rattle.hdl_flatten.proofs.Nesting.{fine_top, nest_is}
use Rattle.hdl_flatten.proofs.Visiting.{rank_there, first_stack, at_end}
use Rattle.hdl_flatten.proofs.nest.nest_of.Goals as goal

pub visits-init : goal.visits-init
visits-init c =
    first_stack (chips_of c.args.catalog.now) c.args.top.now c.number_of-k.result _ c.begin.result c.put.new.stack.items c.requires.ends c.requires.fine c.number_of-k.ensures.within c.number_of-k.ensures.found c.begin.ensures c.in_ok-no_ranks.ensures c.new.ensures.items
    (c.in_ok-put.ensures ∙ ap (λ (vs : List Visit). vs ++ c.begin.result ∷ []) c.new-stack.ensures.items)

pub unreachable-requires : goal.unreachable-requires
unreachable-requires c =
    let none : length c.pop.new.self.items ≡ 0 = omega (arith, c.pop.new.self.ok.0, c.in_default.ensures.cases.1) in
    let items = ap length c.in_default.ensures.items in
    let both = length-append c.pop.new.self.items [] in
    let k = c.number_of-k.result in
    let ended = at_end (chips_of c.args.catalog.now) k c.visits.search c.visits.stack.items c.visits.invariant (omega (arith, items, both, none)) in
    let within = c.number_of-k.ensures.within in
    let long = c.visits.invariant.search_is.long in
    let here : slice_get c.visits.search.ranks.items k ≡ Some None = rank_there c.visits.search.ranks.items k c.index.result.now None (omega (arith, within, long)) c.index.ensures c.in-None.is in
    let there = ended.1 in
    let same : None ≡ Some ended.0 = cc in
    cc

pub returns : goal.returns
returns c =
    let chips = chips_of c.args.catalog.now in
    let k = c.number_of-k.result in
    let search = c.visits.search in
    let within = c.number_of-k.ensures.within in
    let long = c.visits.invariant.search_is.long in
    let fine = fine_top chips c.args.top.now k c.requires.ends c.requires.fine within c.number_of-k.ensures.found in
    let here : slice_get search.ranks.items k ≡ Some (Some c.in-Some-index.top) = rank_there search.ranks.items k c.index.result.now _ (omega (arith, within, long)) c.index.ensures c.in-Some-index.is in
    nest_is chips c.args.top.now k search.ranks.items (record { chips = search.chips; top = c.in-Some-index.top }) fine c.number_of-k.ensures.found c.visits.invariant.search_is (c.visits.invariant.search_is.ranked k c.in-Some-index.top here)
