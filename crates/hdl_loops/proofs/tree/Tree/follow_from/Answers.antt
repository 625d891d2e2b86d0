use Rattle.std.proofs.Common.{◌≡◌, ◌<◌, Option, ℕ, length, Some, refl, sym, subst, arith}
use Rattle.std.specs.Prelude.{slice_get}
use Rattle.std.proofs.lemmas.Option.{slice_get_read, slice_get_within}
use Rattle.hdl_loops.specs.Inner.Hops.{bit}
use Rattle.hdl_loops.specs.Inner.Bundles.{hops_in}
use Rattle.hdl_loops.specs.Inner.Leaving.{Leaves, LeavesIn}
use Rattle.hdl_loops.specs.Inner.Trees.{steps_left, LeadsOut}
use Rattle.hdl_loops.specs.declared.doors.Door.{Door}
use Rattle.hdl_loops.proofs.Dooring.{LeadsFrom, from_kept, doors_left}
use Rattle.hdl_loops.proofs.Growing.{keeps_refl, keeps_on, reached_kept, before_kept}
use Rattle.hdl_loops.proofs.Linking.{PastAre, past_start, past_more, past_all, leaves_start, leaves_more, leaves_within, leaves_less}
use Rattle.hdl_loops.proofs.Parting.{not_some}
use Rattle.hdl_loops.proofs.tree.Tree.follow_from.Goals as goal

pub loop-at-init : goal.loop-at-init
loop-at-init c = λ are.
    let l = c.args.doors.now.leaving in
    let from = c.args.from.now in
    let bits = are.right.bits in
    record {
      right = c.requires.right;
      passed = c.requires.passed;
      kept = keeps_refl c.args.self.now;
      leaves = leaves_start bits l from.name.now from.bit c.last-at.result are.right.linked c.last-at.ensures;
      reached = c.requires.reached;
      before = c.requires.before;
      left = past_start bits (LeadsFrom c.args.graph.now c.args.doors.now c.args.self.now) l (bit from) c.last-at.result are.right.linked c.last-at.ensures;
    }

pub index-requires : goal.index-requires
index-requires c =
    let right = c.requires.linked.right in
    let x = bit c.args.from.now in
    let at : Leaves right.bits c.in-Some.k x = subst (λ (o : Option ℕ). LeavesIn right.bits o x) c.in-Some.is (c.loop-at.invariant c.requires.linked).leaves in
    let w = slice_get_within right.bits c.in-Some.k at.0 at.1 in
    let long = right.long in
    omega (arith, w, long, c.args.doors.now.doors.ok.0)

pub go_in-requires-clause-opens : goal.go_in-requires-clause-opens
go_in-requires-clause-opens c =
    let right = c.requires.linked.right in
    let x = bit c.args.from.now in
    let k = c.in-Some.k in
    let items = c.args.doors.now.doors.items in
    let at : Leaves right.bits k x = subst (λ (o : Option ℕ). LeavesIn right.bits o x) c.in-Some.is (c.loop-at.invariant c.requires.linked).leaves in
    let w = slice_get_within right.bits k at.0 at.1 in
    let long = right.long in
    let lt : k < length items = omega (arith, w, long) in
    let there = slice_get_read items (length items) k c.index.result.now refl lt c.index.ensures in
    (at.0, right.opens k c.index.result.now at.0 there at.1, at.2)

pub go_in-requires-clause-right : goal.go_in-requires-clause-right
go_in-requires-clause-right c = (c.loop-at.invariant c.requires.linked).right

pub go_in-requires-clause-passed : goal.go_in-requires-clause-passed
go_in-requires-clause-passed c = (c.loop-at.invariant c.requires.linked).passed

pub go_in-requires-clause-reached : goal.go_in-requires-clause-reached
go_in-requires-clause-reached c = (c.loop-at.invariant c.requires.linked).reached

pub go_in-requires-clause-before : goal.go_in-requires-clause-before
go_in-requires-clause-before c = (c.loop-at.invariant c.requires.linked).before

pub before-at-requires : goal.before-at-requires
before-at-requires c =
    let right = c.requires.linked.right in
    let x = bit c.args.from.now in
    let at : Leaves right.bits c.in-Some.k x = subst (λ (o : Option ℕ). LeavesIn right.bits o x) c.in-Some.is (c.loop-at.invariant c.requires.linked).leaves in
    leaves_within right.bits c.args.doors.now.leaving c.in-Some.k x right.linked at

pub loop-at-preserved : goal.loop-at-preserved
loop-at-preserved c = λ are.
    let hs = hops_in c.args.graph.now in
    let ds = c.args.doors.now in
    let l = ds.leaving in
    let from = c.args.from.now in
    let x = bit from in
    let k = c.in-Some.k in
    let t = c.loop-at.self in
    let new = c.go_in.new.self in
    let inv = c.loop-at.invariant are in
    let bits = are.right.bits in
    let linked = are.right.linked in
    let e = c.in_ok-go_in.ensures in
    let at : Leaves bits k x = subst (λ (o : Option ℕ). LeavesIn bits o x) c.in-Some.is inv.leaves in
    let w = slice_get_within bits k at.0 at.1 in
    let long = are.right.long in
    let lt : k < length ds.doors.items = omega (arith, w, long) in
    let there : slice_get ds.doors.items k ≡ Some c.index.result.now = slice_get_read ds.doors.items (length ds.doors.items) k c.index.result.now refl lt c.index.ensures in
    let here : LeadsFrom c.args.graph.now ds new k = λ d h. (let same : c.index.result.now ≡ d = cc in subst (λ (v : Door). LeadsOut c.args.graph.now new v.bundle) same e.there) in
    record {
      right = e.right;
      passed = e.passed;
      kept = keeps_on c.args.self.now t new inv.kept e.kept;
      leaves = leaves_more bits l k c.before-at.result x linked at c.before-at.ensures;
      reached = reached_kept t new from.name.now from.bit e.kept inv.reached;
      before = before_kept hs t new inv.right e.kept from inv.reached inv.before;
      left =
          past_more bits (LeadsFrom c.args.graph.now ds t) (LeadsFrom c.args.graph.now ds new) l k c.before-at.result x linked at c.before-at.ensures (from_kept c.args.graph.now ds t new e.kept) here
          (subst (λ (o : Option ℕ). PastAre bits (LeadsFrom c.args.graph.now ds t) x o) c.in-Some.is inv.left);
    }

pub loop-at-smaller : goal.loop-at-smaller
loop-at-smaller c =
    let right = c.requires.linked.right in
    let x = bit c.args.from.now in
    let k = c.in-Some.k in
    let at : Leaves right.bits k x = subst (λ (o : Option ℕ). LeavesIn right.bits o x) c.in-Some.is (c.loop-at.invariant c.requires.linked).leaves in
    subst (λ (o : Option ℕ). steps_left c.before-at.result < steps_left o) (sym c.in-Some.is) (leaves_less right.bits c.args.doors.now.leaving k c.before-at.result x right.linked at c.before-at.ensures)

pub returns-clause-right : goal.returns-clause-right
returns-clause-right c = (c.loop-at.invariant c.requires.linked).right

pub returns-clause-passed : goal.returns-clause-passed
returns-clause-passed c = (c.loop-at.invariant c.requires.linked).passed

pub returns-clause-kept : goal.returns-clause-kept
returns-clause-kept c = (c.loop-at.invariant c.requires.linked).kept

pub returns-clause-left : goal.returns-clause-left
returns-clause-left c =
    let are = c.requires.linked in
    let ds = c.args.doors.now in
    let P = LeadsFrom c.args.graph.now ds c.loop-at.self in
    doors_left c.args.graph.now ds are c.loop-at.self (bit c.args.from.now) (past_all are.right.bits P (bit c.args.from.now) c.loop-at.at (not_some _ c.in_default.not-Some) (c.loop-at.invariant are).left)
