use Rattle.std.proofs.Common.{◌≡◌, List, ◌∷◌, get_or, Some, refl, subst}
use Rattle.std.specs.Prelude.{slice_get}
use Rattle.std.proofs.lemmas.Option.{slice_get-get_or}
use Rattle.std.proofs.lemmas.Result.{err_from_is_err_and}
use Rattle.hdl_tree.specs.declared.tree.Part.{Part}
use Rattle.hdl_check.specs.Faults.{drivers_of}
use Rattle.hdl_check.specs.Locations.{IsFirstFault}
use Rattle.hdl_check.specs.Inner.Progress.{chips_of, FailsInside, NetsFind}
use Rattle.hdl_check.proofs.Entering.{fails_at}
use Rattle.hdl_check.proofs.Telling.{tells_more}
use Rattle.hdl_check.proofs.walk.begin.Goals as goal

pub returns-in_err-check_head-clause-fault : goal.returns-in_err-check_head-clause-fault
returns-in_err-check_head-clause-fault c =
    let q = err_from_is_err_and c.from_residual.result c.from_residual.ensures.1 in
    let chips = chips_of c.args.catalog.now in
    let entry = get_or c.args.catalog.now.entries.now c.args.k c.index-catalog-k.result in
    let here : slice_get chips.entries c.args.k ≡ Some entry = slice_get-get_or c.args.catalog.now.entries.now c.args.k c.index-catalog-k.result c.requires.there in
    rw (q.1, q.2) (λ outer. tells_more (IsFirstFault chips (entry.name ∷ outer) entry) (FailsInside chips outer c.args.k) c.in_err-check_head.field-0.0 (λ f h. fails_at chips outer c.args.k entry f here h) (c.in_err-check_head.ensures.fault (entry.name ∷ outer)))

pub returns-clause-begun : goal.returns-clause-begun
returns-clause-begun c =
    let chips = chips_of c.args.catalog.now in
    let entry = get_or c.args.catalog.now.entries.now c.args.k c.index-catalog-k.result in
    let here : slice_get chips.entries c.args.k ≡ Some entry = slice_get-get_or c.args.catalog.now.entries.now c.args.k c.index-catalog-k.result c.requires.there in
    record {
      number = refl;
      place = refl;
      wired = record {
        there = here;
        parts = c.parts_in-parts.ensures;
        nets = subst (λ (ps : List Part). NetsFind c.in_ok-net_table.field-0 (drivers_of chips ps)) c.parts_in-parts.ensures c.in_ok-net_table.ensures;
        driven = c.new.ensures;
      };
      head = c.in_ok-check_head.ensures.fine;
    }
