use Rattle.std.proofs.Common.{◌≡◌, ◌++◌, ◌∷◌, [], Option, ℕ, subst, get_or}
use Rattle.std.proofs.lemmas.Option.{get_or_from_slice_get}
use Rattle.hdl_loops.specs.Inner.Hops.{bit}
use Rattle.hdl_loops.specs.Inner.Leaving.{Leaves, LeavesIn}
use Rattle.hdl_loops.specs.Inner.Ties.{In, pins_of}
use Rattle.hdl_loops.specs.declared.joint.Joint.{Joint}
use Rattle.hdl_loops.proofs.Linking.{PastAre, past_start, past_more, past_all, leaves_start, leaves_more}
use Rattle.hdl_loops.proofs.Lists.{get_in, in_get}
use Rattle.hdl_loops.proofs.Parting.{not_some}
use Rattle.hdl_loops.proofs.Pinning.{IsFound, found_kept, found_here, joint_at, pin_at, only_more}
use Rattle.hdl_loops.proofs.pins.joints_at.Goals as goal

pub loop-at-init : goal.loop-at-init
loop-at-init c =
    let joints = c.args.joints.now in
    let pin = c.args.pin.now in
    record {
      leaves = leaves_start (pins_of joints) c.args.pins.now pin.name.now pin.bit c.last-at.result c.requires c.last-at.ensures;
      only = λ joint h. absurd (subst (In joint) c.new-found.ensures.items h);
      past = past_start (pins_of joints) (IsFound joints c.new-found.result.items) c.args.pins.now (bit pin) c.last-at.result c.requires c.last-at.ensures;
    }

pub loop-at-preserved : goal.loop-at-preserved
loop-at-preserved c =
    let joints = c.args.joints.now in
    let bits = pins_of joints in
    let l = c.args.pins.now in
    let x = bit c.args.pin.now in
    let k = c.in-Some.k in
    let inv = c.loop-at.invariant in
    let old = c.loop-at.found.items in
    let new = c.push.new.self.items in
    let at : Leaves bits k x = subst (λ (o : Option ℕ). LeavesIn bits o x) c.in-Some.is inv.leaves in
    let j = joint_at joints k x at in
    let item : get_or joints k _ ≡ j.0 = get_or_from_slice_get joints k j.0 _ j.1 in
    let is = subst (λ (v : Joint). new ≡ old ++ v ∷ []) item c.in_ok-push.ensures.items in
    record {
      leaves = leaves_more bits l k c.before-at.result x c.requires at c.before-at.ensures;
      only = only_more joints old new x j.0 (get_in joints k j.0 j.1) j.2 inv.only is;
      past = past_more bits (IsFound joints old) (IsFound joints new) l k c.before-at.result x c.requires at c.before-at.ensures (found_kept joints old new j.0 is) (found_here joints old new j.0 k j.1 is) (subst (λ (o : Option ℕ). PastAre bits (IsFound joints old) x o) c.in-Some.is inv.past);
    }

pub returns-clause-all : goal.returns-clause-all
returns-clause-all c = λ joint h e.
    let joints = c.args.joints.now in
    let r = in_get joints joint h in
    past_all (pins_of joints) (IsFound joints c.loop-at.found.items) (bit c.args.pin.now) c.loop-at.at (not_some _ c.in_default.not-Some) c.loop-at.invariant.past r.0 joint.pin (pin_at joints r.0 joint r.1) e joint r.1
