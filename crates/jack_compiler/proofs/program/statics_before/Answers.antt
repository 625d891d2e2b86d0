use Rattle.std.proofs.Common.{◌+◌, ◌++◌, ◌∷◌, [], length-append, ◌∙◌, sym, ap, arith, below_more, length, slice_index, ℕ, map}
use Rattle.vm_link.proofs.WordLemmas.{index_front, index_last}
use Rattle.jack_core.specs.Texts.{the_class}
use Rattle.jack_compiler.proofs.Functions.{statics_before-none, statics_step}
use Rattle.jack_compiler.proofs.program.statics_before.Goals as goal

pub loop-class-init : goal.loop-class-init
loop-class-init c = record { count = omega arith; sum = sym (statics_before-none (map the_class c.args.classes.now)); each = λ k h. absurd (omega arith) }

pub loop-class-preserved : goal.loop-class-preserved
loop-class-preserved c =
    let inv = c.loop-class.invariant in
    let n = inv.count in
    let i = c.loop-class.class-index in
    let pushed = c.in_ok-push.ensures.items in
    record {
      count = ap length pushed ∙ length-append c.loop-class.before.items (c.loop-class.statics ∷ []) ∙ ap (λ z. z + 1) n;
      sum = statics_step c.args.classes.now i c.class-item.result _ _ c.loop-class-test.true c.class-item.is c.in_ok-statics.ensures inv.sum;
      each = below_more _ _
          (λ k h. ap (λ z. slice_index z k) pushed ∙ index_front c.loop-class.before.items (c.loop-class.statics ∷ []) k (omega arith) ∙ inv.each k h)
          (ap (λ z. slice_index z i) pushed ∙ ap (λ (z : ℕ). slice_index (c.loop-class.before.items ++ c.loop-class.statics ∷ []) z) (sym n) ∙ index_last c.loop-class.before.items c.loop-class.statics ∙ inv.sum);
    }
