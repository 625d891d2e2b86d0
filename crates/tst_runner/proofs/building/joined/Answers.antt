use Rattle.std.proofs.Common.{◌≡◌, ◌<◌, ◌++◌, [], ◌∷◌, length, ap, ◌∙◌, arith}
use Rattle.tst_runner.proofs.Joining.{joined_first, joined_next}
use Rattle.tst_runner.proofs.building.joined.Goals as goal
use Rattle.tst_runner.proofs.building.joined.Goals.{then-k-gt0+in_ok-push, else-k-gt0}

pub loop-k-preserved : goal.loop-k-preserved
loop-k-preserved c =
    let name = c.index-names-k.result in
    let lt : c.loop-k.k < length c.args.names.now = omega arith in
    let appended = c.in_ok-extend_from_slice.ensures.items ∙ ap (λ n. c.if-k-gt0.text.items ++ n) c.as_bytes.ensures in
    elim c.if-k-gt0.branch [
      | then-k-gt0+in_ok-push w ↦
          let comma : c.if-k-gt0.text.items ≡ c.loop-k.text.items ++ 44 ∷ [] = ap (λ v. v.items) w.text-is ∙ w.in_ok-push.ensures.items in
          appended ∙ ap (λ t. t ++ name) comma ∙ joined_next c.args.names.now c.loop-k.k name c.loop-k.text.items w.if-k-gt0.true lt c.index-names-k.is c.loop-k.invariant
      | else-k-gt0 w ↦
          let same : c.if-k-gt0.text.items ≡ c.loop-k.text.items = ap (λ v. v.items) w.text-is in
          appended ∙ ap (λ t. t ++ name) same ∙ joined_first c.args.names.now c.loop-k.k name c.loop-k.text.items w.if-k-gt0.false lt c.index-names-k.is c.loop-k.invariant
    ]
