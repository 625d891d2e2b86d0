use Rattle.std.proofs.Common.{◌≡◌, ◌<◌, ◌∷◌, List, length, Option, Some, IsSome, refl, sym, ap, subst, ◌∙◌, arith}
use Rattle.std.specs.Prelude.{slice_get}
use Rattle.hdl_tree.specs.declared.library.Entry.{Entry}
use Rattle.hdl_tree.specs.Chips.{find_chip, find_entry, parts_of}
use Rattle.hdl_check.specs.Inner.Progress.{chips_of}
use Rattle.hdl_flatten.specs.declared.nest.Visit.{Visit}
use Rattle.hdl_flatten.proofs.Visiting.{front_found, part_placed, rank_there}
use Rattle.hdl_flatten.proofs.nest.go_on.Goals as goal

pub number_of-inner-requires-clause-there : goal.number_of-inner-requires-clause-there
number_of-inner-requires-clause-there c =
    let chips = chips_of c.args.catalog.now in
    let visit = c.parts.visit in
    let part = c.in-Some.part.now in
    let v = c.parts.invariant.right in
    let at : slice_get (parts_of chips c.args.visit.now.entry.now) (length v.front) ≡ Some part =
    ap (λ (x : Entry). slice_get (parts_of chips x) (length v.front)) (sym c.parts.invariant.same.entry) ∙ front_found chips c.args.search.now.chips.items visit v part c.in-Some.others.now c.in-Some.ensures.cases.0 in
    subst (λ (o : Option Entry). IsSome o) (sym (ap (find_entry c.args.catalog.now.entries.now) c.as_bytes.ensures)) (c.requires.parts (length v.front) part at)

pub returns-in-None-clause-next : goal.returns-in-None-clause-next
returns-in-None-clause-next c =
    let chips = chips_of c.args.catalog.now in
    let visit = c.parts.visit in
    let part = c.in-Some.part.now in
    let v = c.parts.invariant.right in
    let within = c.number_of-inner.ensures.within in
    let long = c.requires.search.long in
    record {
      part = part;
      place = length v.front;
      there = ap (λ (x : Entry). slice_get (parts_of chips x) (length v.front)) (sym c.parts.invariant.same.entry) ∙ front_found chips c.args.search.now.chips.items visit v part c.in-Some.others.now c.in-Some.ensures.cases.0;
      within = within;
      found = ap (find_entry c.args.catalog.now.entries.now) (sym c.as_bytes.ensures) ∙ c.number_of-inner.ensures.found;
      unplaced = rank_there c.args.search.now.ranks.items c.number_of-inner.result c.index.result.now _ (omega (arith, within, long)) c.index.ensures c.in-None.is;
    }

pub parts-preserved : goal.parts-preserved
parts-preserved c =
    let chips = chips_of c.args.catalog.now in
    let search = c.args.search.now in
    let visit = c.parts.visit in
    let part = c.in-Some.part.now in
    let v = c.parts.invariant.right in
    let same = c.parts.invariant.same in
    let k = c.number_of-inner.result in
    let within = c.number_of-inner.ensures.within in
    let long = c.requires.search.long in
    let at : slice_get (parts_of chips c.args.visit.now.entry.now) (length v.front) ≡ Some part =
    ap (λ (x : Entry). slice_get (parts_of chips x) (length v.front)) (sym same.entry) ∙ front_found chips search.chips.items visit v part c.in-Some.others.now c.in-Some.ensures.cases.0 in
    let found : find_chip chips part.chip ≡ slice_get chips.entries k = ap (find_entry c.args.catalog.now.entries.now) (sym c.as_bytes.ensures) ∙ c.number_of-inner.ensures.found in
    let ranked : slice_get search.ranks.items k ≡ Some (Some c.in-Some-index.place) = rank_there search.ranks.items k c.index.result.now _ (omega (arith, within, long)) c.index.ensures c.in-Some-index.is in
    let new : Visit = record { number = visit.number; entry = visit.entry; rest = c.in-Some.others; places = c.push.new.self } in
    record {
      right = part_placed chips search visit new part k c.in-Some-index.place v c.requires.search refl refl c.in-Some.ensures.cases.0 c.in_ok-push-in-Some-index.ensures.items (c.requires.parts (length v.front) part at) found ranked;
      same = record { number = same.number; entry = same.entry };
    }
