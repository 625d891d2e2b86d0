use Rattle.std.proofs.Common.{◌≡◌, ℕ, ◌<◌, ◌+◌, List, [], ◌∷◌, ◌++◌, length, length-append, refl, sym, ap, subst, ◌∙◌, arith}
use Rattle.std.proofs.lemmas.Option.{slice_get_within}
use Rattle.hdl_tree.specs.declared.library.Entry.{Entry}
use Rattle.hdl_check.specs.Inner.Progress.{chips_of}
use Rattle.hdl_flatten.specs.declared.nest.Visit.{Visit}
use Rattle.hdl_flatten.specs.Inner.Visits.{IsUnplaced, IsStack, names_of}
use Rattle.hdl_flatten.proofs.Putting.{on_both}
use Rattle.hdl_flatten.proofs.Visiting.{on_top, further_on, parts_there, next_none, next_some, up, down, up_less, down_less}
use Rattle.hdl_flatten.proofs.nest.step.Goals as goal

pub go_on-requires-clause-parts : goal.go_on-requires-clause-parts
go_on-requires-clause-parts c =
    let chips = chips_of c.args.catalog.now in
    let t = on_top chips c.requires.stack.0 c.args.search.now c.args.stack.now.items c.args.visit c.requires.stack.1 in
    parts_there chips (names_of (c.args.visit ∷ t.below)) c.args.visit.entry.now t.standing.faultless

pub settle-requires : goal.settle-requires
settle-requires c =
    let visit = c.go_on.new.visit in
    let lt = slice_get_within c.args.catalog.now.entries.now visit.number visit.entry.now c.in_ok-go_on.ensures.visit.there in
    let long = c.requires.stack.1.search_is.long in
    omega (arith, lt, long)

pub returns-in-None-clause-stack : goal.returns-in-None-clause-stack
returns-in-None-clause-stack c =
    let chips = chips_of c.args.catalog.now in
    let old = c.args.search.now in
    let visits = c.args.stack.now.items in
    let visit = c.go_on.new.visit in
    let a = c.in_ok-go_on.ensures in
    on_both c.settle.result c.settle.ensures.ranks c.settle.ensures.chips (λ ranks settled top s.
    let t = further_on chips top old visits c.args.visit visit a.same a.visit (on_top chips top old visits c.args.visit s) in
    up chips top old c.settle.new.search visit a.visit.there settled ranks visits t (next_none _ _ c.in_ok-go_on.field-0 a.next c.in-None.is))

pub returns-in-None-clause-less : goal.returns-in-None-clause-less
returns-in-None-clause-less c =
    let chips = chips_of c.args.catalog.now in
    let old = c.args.search.now in
    let visits = c.args.stack.now.items in
    let visit = c.go_on.new.visit in
    let a = c.in_ok-go_on.ensures in
    let top = c.requires.stack.0 in
    let t = further_on chips top old visits c.args.visit visit a.same a.visit (on_top chips top old visits c.args.visit c.requires.stack.1) in
    on_both c.settle.result c.settle.ensures.ranks c.settle.ensures.chips (λ ranks settled. up_less old c.settle.new.search visit.number (length visits) ranks t.standing.unplaced)

pub returns-in_ok-put-in-Some-clause-stack : goal.returns-in_ok-put-in-Some-clause-stack
returns-in_ok-put-in-Some-clause-stack c =
    let chips = chips_of c.args.catalog.now in
    let search = c.args.search.now in
    let visits = c.args.stack.now.items in
    let visit = c.go_on.new.visit in
    let inner = c.begin.result in
    let k = c.in-Some.k in
    let a = c.in_ok-go_on.ensures in
    let first : IsUnplaced chips search.ranks.items c.args.visit.entry.now k = next_some _ (IsUnplaced chips search.ranks.items c.args.visit.entry.now) c.in_ok-go_on.field-0 k a.next c.in-Some.is in
    let u = subst (λ (x : Entry). IsUnplaced chips search.ranks.items x k) (sym a.same.entry) first in
    on_both c.put-in-Some.result c.put-in-Some.ensures c.put-in-Some.ensures (λ e _ top s.
    let t = further_on chips top search visits c.args.visit visit a.same a.visit (on_top chips top search visits c.args.visit s) in
    let items : c.put-in-Some.new.stack.items ≡ (visits ++ visit ∷ []) ++ inner ∷ [] = e ∙ ap (λ (vs : List Visit). vs ++ inner ∷ []) c.in_ok-put-in-Some.ensures in
    subst (λ (vs : List Visit). IsStack chips top search vs) (sym items) (down chips top search visits visit k inner c.begin.ensures t u))

pub returns-in_ok-put-in-Some-clause-less : goal.returns-in_ok-put-in-Some-clause-less
returns-in_ok-put-in-Some-clause-less c =
    let chips = chips_of c.args.catalog.now in
    let search = c.args.search.now in
    let visits = c.args.stack.now.items in
    let visit = c.go_on.new.visit in
    let inner = c.begin.result in
    let a = c.in_ok-go_on.ensures in
    let top = c.requires.stack.0 in
    let t = further_on chips top search visits c.args.visit visit a.same a.visit (on_top chips top search visits c.args.visit c.requires.stack.1) in
    on_both c.put-in-Some.result c.put-in-Some.ensures c.put-in-Some.ensures (λ e _.
    let long = ap length e ∙ length-append c.put.new.stack.items (inner ∷ []) in
    let middle = ap length c.in_ok-put-in-Some.ensures ∙ length-append visits (visit ∷ []) in
    down_less chips top search visits visit (length c.put-in-Some.new.stack.items) t (omega (arith, long, middle)))
