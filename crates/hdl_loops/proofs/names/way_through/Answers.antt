use Rattle.std.proofs.Common.{◌≡◌, ◌<◌, length, Option, Some, refl, sym, ap, subst, ◌∙◌}
use Rattle.std.specs.Prelude.{slice_get}
use Rattle.std.proofs.lemmas.Option.{slice_get_read, slice_get_within}
use Rattle.std.proofs.lemmas.Result.{IfOk-weaker}
use Rattle.hdl_loops.specs.Inner.Hops.{input_of, output_of}
use Rattle.hdl_loops.specs.Inner.Knowing.{leads_in, IsWayIn}
use Rattle.hdl_loops.specs.declared.known.Known.{Known}
use Rattle.hdl_loops.proofs.Noting.{leads_known}
use Rattle.hdl_loops.proofs.names.way_through.Goals as goal

pub bounds-known-k : goal.bounds-known-k
bounds-known-k c =
    let ks = c.args.known.now in
    let r = leads_known (slice_get ks c.args.k) (input_of c.args.through.now) (output_of c.args.through.now) c.requires.leads in
    slice_get_within ks c.args.k (Some r.0) r.1

pub way-requires-clause-linked : goal.way-requires-clause-linked
way-requires-clause-linked c =
    let ks = c.args.known.now in
    let x = input_of c.args.through.now in
    let y = output_of c.args.through.now in
    let r = leads_known (slice_get ks c.args.k) x y c.requires.leads in
    let lt : c.args.k < length ks = slice_get_within ks c.args.k (Some r.0) r.1 in
    let there : slice_get ks c.args.k ≡ Some (Some c.in-Some.inside) = slice_get_read ks (length ks) c.args.k c.index-known-k.result refl lt c.index-known-k.is ∙ ap Some c.in-Some.is in
    (c.requires.right c.in-Some.inside there).0

pub way-requires-clause-leads : goal.way-requires-clause-leads
way-requires-clause-leads c =
    let ks = c.args.known.now in
    let x = input_of c.args.through.now in
    let y = output_of c.args.through.now in
    let r = leads_known (slice_get ks c.args.k) x y c.requires.leads in
    let lt : c.args.k < length ks = slice_get_within ks c.args.k (Some r.0) r.1 in
    let there : slice_get ks c.args.k ≡ Some (Some c.in-Some.inside) = slice_get_read ks (length ks) c.args.k c.index-known-k.result refl lt c.index-known-k.is ∙ ap Some c.in-Some.is in
    let d = c.args.through.now in
    (c.requires.right c.in-Some.inside there).1 d.input.now d.output.now d.bit d.out (sym (ap (λ (o : Option (Option Known)). leads_in o x y) there) ∙ c.requires.leads)

pub returns : goal.returns
returns c =
    let ks = c.args.known.now in
    let x = input_of c.args.through.now in
    let y = output_of c.args.through.now in
    let r = leads_known (slice_get ks c.args.k) x y c.requires.leads in
    let lt : c.args.k < length ks = slice_get_within ks c.args.k (Some r.0) r.1 in
    let there : slice_get ks c.args.k ≡ Some (Some c.in-Some.inside) = slice_get_read ks (length ks) c.args.k c.index-known-k.result refl lt c.index-known-k.is ∙ ap Some c.in-Some.is in
    IfOk-weaker c.way.result _ _ (λ v w. subst (λ (o : Option (Option Known)). IsWayIn o x v.items y) (sym there) w) c.way.ensures
