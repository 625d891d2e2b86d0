use Rattle.std.proofs.Common.{ℕ, ◌++◌, ◌∷◌, [], sym, ap, ◌∙◌, append_assoc, append-nil, add-one}
use Rattle.hdl_loops.specs.Inner.Ties.{ties_of, tie, ties_below}
use Rattle.hdl_loops.proofs.joint.join_bits.Goals as goal

pub loop-k-init : goal.loop-k-init
loop-k-init c = sym (append-nil (ties_of c.args.joints.now.items))

pub loop-k-preserved : goal.loop-k-preserved
loop-k-preserved c =
    let pin = c.args.pin.now in
    let net = c.args.net.now in
    let start = ties_of c.args.joints.now.items in
    let k = c.loop-k.k in
    c.in_ok-join_bit.ensures
    ∙ (ap (λ v. v ++ tie pin net c.args.input k ∷ []) c.loop-k.invariant
    ∙ (append_assoc start (ties_below pin net c.args.input k) (tie pin net c.args.input k ∷ []) ∙ ap (λ (n : ℕ). start ++ ties_below pin net c.args.input n) (sym (add-one k))))
