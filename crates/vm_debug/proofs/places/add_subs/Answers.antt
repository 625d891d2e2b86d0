use Rattle.std.proofs.Common.{◌≡◌, ◌+◌, ◌++◌, ℕ, List, ◌∷◌, length, drop, sym, ap, ◌∙◌, arith}
use Rattle.jack_tree.specs.declared.tree.Class.{Class}
use Rattle.outer_world.proofs.Prints.{rest_at}
use Rattle.vm_debug.specs.Places.{placed_subs}
use Rattle.vm_debug.proofs.Adding.{class_more}
use Rattle.vm_debug.proofs.places.add_subs.Goals as goal

pub loop-i-preserved : goal.loop-i-preserved
loop-i-preserved c =
    let fs = c.args.functions.now in
    let es = c.args.entries.now in
    let k = c.args.first + c.loop-i.i in
    let class = c.index-classes-i.result in
    let rest = drop (c.loop-i.i + 1) c.args.classes.now in
    let here : drop c.loop-i.i c.args.classes.now ≡ class ∷ rest = rest_at c.args.classes.now c.loop-i.i class (omega (arith, c.loop-i-test.true)) c.index-classes-i.is in
    let next : c.args.first + (c.loop-i.i + 1) ≡ k + 1 = omega arith in
    ap (λ (n : ℕ). c.add_class_subs.new.subs ++ placed_subs fs es n (length c.add_class_subs.new.subs + 1) rest) next
    ∙ class_more fs es k c.loop-i.subs c.add_class_subs.new.subs class rest c.in_ok-add_class_subs.ensures
    ∙ ap (λ (cs : List Class). c.loop-i.subs ++ placed_subs fs es k (length c.loop-i.subs + 1) cs) (sym here)
    ∙ c.loop-i.invariant
