use Rattle.std.proofs.Common.{◌≡◌, length, List, refl, sym, subst, arith}
use Rattle.std.proofs.lemmas.Bool.Decides.{Decides-eqb}
use Rattle.std.proofs.lemmas.Option.{slice_get_read}
use Rattle.hdl_check.specs.Whole.{chips_in}
use Rattle.hdl_loops.specs.Inner.Bundles.{hops_in}
use Rattle.hdl_loops.specs.Inner.Knowing.{AreEnters}
use Rattle.hdl_loops.specs.Inner.Ties.{In}
use Rattle.hdl_loops.specs.declared.joint.Joint.{Joint}
use Rattle.hdl_loops.proofs.Pinning.{none_in, empty_bundle, bundle_only, bundle_last}
use Rattle.hdl_loops.proofs.graph.add_bundle.Goals as goal

pub returns-then-is_empty-clause-there : goal.returns-then-is_empty-clause-there
returns-then-is_empty-clause-there c =
    let chips = chips_in c.args.entries.now c.args.memories in
    let sides = c.args.sides.now in
    let items = sides.leaves.items in
    let leave = c.index-leave.result.now in
    let at = slice_get_read items (length items) c.args.k leave refl c.requires.place c.index-leave.ensures in
    let enters = c.in_ok-enters.enters in
    let empty : enters.len ≡ 0 = (Decides-eqb enters.len 0).0 (sym c.if-is_empty.ensures) in
    let none : length enters.items ≡ 0 = omega (arith, empty) in
    empty_bundle chips c.args.known.now c.args.chip sides c.requires.sides (hops_in c.args.graph.now.items) c.args.k leave enters.items at c.in_ok-enters.ensures (none_in enters.items none)

pub returns-clause-right : goal.returns-clause-right
returns-clause-right c =
    let chips = chips_in c.args.entries.now c.args.memories in
    let sides = c.args.sides.now in
    let items = sides.leaves.items in
    let leave = c.index-leave.result.now in
    let at = slice_get_read items (length items) c.args.k leave refl c.requires.place c.index-leave.ensures in
    let same = c.deref.ensures.value in
    let E : List Joint → Type 0 = λ v. AreEnters chips c.args.known.now c.args.chip sides.enters.items leave v in
    bundle_only chips c.args.known.now c.args.chip sides c.requires.sides c.args.graph.now.items c.push.new.self.items c.args.k leave _ at refl (subst E (sym c.fitted.ensures) c.in_ok-enters.ensures)
    (λ j h. let r = c.in_ok-leaves.ensures.only j (subst (λ (v : List Joint). In j v) c.fitted-2.ensures h) in (subst (λ (v : List Joint). In j v) same r.0, r.1))
    (λ j h e. subst (λ (v : List Joint). In j v) (sym c.fitted-2.ensures) (c.in_ok-leaves.ensures.all j (subst (λ (v : List Joint). In j v) (sym same) h) e)) c.in_ok-push.ensures.items

pub returns-clause-there : goal.returns-clause-there
returns-clause-there c =
    let chips = chips_in c.args.entries.now c.args.memories in
    let sides = c.args.sides.now in
    let items = sides.leaves.items in
    let leave = c.index-leave.result.now in
    let at = slice_get_read items (length items) c.args.k leave refl c.requires.place c.index-leave.ensures in
    let same = c.deref.ensures.value in
    let E : List Joint → Type 0 = λ v. AreEnters chips c.args.known.now c.args.chip sides.enters.items leave v in
    bundle_last chips c.args.known.now c.args.chip sides c.requires.sides c.args.graph.now.items c.push.new.self.items c.args.k leave _ at refl (subst E (sym c.fitted.ensures) c.in_ok-enters.ensures)
    (λ j h. let r = c.in_ok-leaves.ensures.only j (subst (λ (v : List Joint). In j v) c.fitted-2.ensures h) in (subst (λ (v : List Joint). In j v) same r.0, r.1))
    (λ j h e. subst (λ (v : List Joint). In j v) (sym c.fitted-2.ensures) (c.in_ok-leaves.ensures.all j (subst (λ (v : List Joint). In j v) (sym same) h) e)) c.in_ok-push.ensures.items
