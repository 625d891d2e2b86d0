-- The statics of one more class.
use Rattle.std.proofs.Common.{◌+◌, ◌++◌, sym, ap, ◌∙◌, take, replicate}
use Rattle.std.specs.Prelude.{sum_by}
use Rattle.std.proofs.lemmas.List.{replicate-append-replicate}
use Rattle.std.proofs.lemmas.List.Sums.{sum_by_more}
use Rattle.jack_machine.proofs.jack.new_statics.Goals as goal

pub loop-class-preserved : goal.loop-class-preserved
loop-class-preserved c =
    let before = take c.loop-class.class-index c.args.classes.now in
    c.in_ok-append.ensures.items
    ∙ ap (λ l. l ++ c.in_ok-zeros.zeros.items) c.loop-class.invariant
    ∙ ap (λ l. replicate (sum_by (λ x. x.statics) before) 0 ++ l) (c.in_ok-zeros.ensures.items_if_clones_equal (λ y h. h))
    ∙ replicate-append-replicate _ _ 0
    ∙ ap (λ n. replicate n 0) (ap (λ x. sum_by (λ y. y.statics) before + x.statics) c.class-item.is ∙ sym (sum_by_more (λ x. x.statics) c.args.classes.now c.loop-class.class-index c.class-item.result c.loop-class-test.true))
