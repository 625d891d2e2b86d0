use Rattle.std.proofs.Common.{◌≡◌, arith, subst, sym, codes, ◌-◌, ◌%◌, ◌/◌, suc, get_or}
use Rattle.std.proofs.lemmas.Option.{slice_get-get_or}
use Rattle.soak_program.specs.Inner.Written.{Draws, Writes}
use Rattle.soak_program.specs.Generator.{IsDraw, IsLeaf, IsExpression, Leaf, operators}
use Rattle.soak_program.proofs.Pieces.{then_adds, then_writes, after_draw, flat_writes, pair_writes, signed_writes}
use Rattle.soak_program.proofs.generator.Generator.+put_expression.Goals as goal

pub returns-then-depth-eq0 : goal.returns-then-depth-eq0
returns-then-depth-eq0 m c =
    let before = c.args.self.now in
    let after = c.put_leaf.new.self in
    then_writes c.put_leaf.result IsLeaf (IsExpression c.args.depth) before before after (λ w. subst (λ d. Writes (IsExpression d) before after) (sym c.if-depth-eq0.true) (flat_writes before after w)) c.put_leaf.ensures

pub returns-then-draw-eq0 : goal.returns-then-draw-eq0
returns-then-draw-eq0 m c =
    let before = c.args.self.now in
    let mid = c.draw.new.self in
    let after = c.put_leaf-then-draw-eq0.new.self in
    let d = c.args.depth - 1 in
    let deep : suc d ≡ c.args.depth = omega arith in
    then_writes c.put_leaf-then-draw-eq0.result IsLeaf (IsExpression c.args.depth) before mid after
    (λ w. subst (λ k. Writes (IsExpression k) before after) deep
    (after_draw IsLeaf (IsExpression (suc d)) 4 c.draw.result before mid after c.draw.ensures (λ x t e h. Leaf (subst (λ n. IsDraw 4 before.state n mid.state) c.if-draw-eq0.true e) h) w)) c.put_leaf-then-draw-eq0.ensures

pub returns-then-form-lt9 : goal.returns-then-form-lt9
returns-then-form-lt9 m c =
    let before = c.args.self.now in
    let drawn = c.draw.new.self in
    let mid = c.draw-form.new.self in
    let after = c.put-then-form-lt9-2.new.self in
    let d = c.args.depth - 1 in
    let deep : suc d ≡ c.args.depth = omega arith in
    let n = c.draw.result - 1 in
    let some : c.draw.result ≡ suc n = omega arith in
    let k = c.draw-form.result in
    let o = get_or operators k 0 in
    then_adds c.put-then-form-lt9-2.result (codes ") ") (IsExpression c.args.depth) before c.put_expression-then-form-lt9.new.self after
    (λ w. subst (λ j. Writes (IsExpression j) before after) deep
    (pair_writes d n k o before drawn mid c.put.new.self c.put_expression.new.self c.put-then-form-lt9.new.self c.put_expression-then-form-lt9.new.self after
    (subst (λ j. Draws 4 before j drawn) some c.draw.ensures) c.draw-form.ensures (slice_get-get_or operators k 0 c.if-form-lt9.true)
    c.in_ok-put.ensures c.in_ok-put_expression.ensures c.in_ok-put-2.ensures c.in_ok-put_expression-2.ensures w)) c.put-then-form-lt9-2.ensures

pub returns : goal.returns
returns m c =
    let before = c.args.self.now in
    let drawn = c.draw.new.self in
    let mid = c.draw-form.new.self in
    let after = c.put-2.new.self in
    let d = c.args.depth - 1 in
    let deep : suc d ≡ c.args.depth = omega arith in
    let n = c.draw.result - 1 in
    let some : c.draw.result ≡ suc n = omega arith in
    let answer : c.draw-form.result ≡ mid.state / 65536 % 10 = c.draw-form.ensures.drawn.answer in
    let last : c.draw-form.result ≡ 9 = omega (arith, answer) in
    then_adds c.put-2.result (codes ") ") (IsExpression c.args.depth) before c.put_expression-2.new.self after
    (λ w. subst (λ j. Writes (IsExpression j) before after) deep
    (signed_writes d n before drawn mid c.put.new.self c.put_sign.new.self c.put_expression-2.new.self after
    (subst (λ j. Draws 4 before j drawn) some c.draw.ensures) (subst (λ j. Draws 10 drawn j mid) last c.draw-form.ensures)
    c.in_ok-put.ensures c.in_ok-put_sign.ensures c.in_ok-put_expression-3.ensures w)) c.put-2.ensures
