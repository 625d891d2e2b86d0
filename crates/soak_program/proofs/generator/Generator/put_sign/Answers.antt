use Rattle.std.proofs.Common.{◌≡◌, subst, codes, arith, ◌%◌, ◌/◌}
use Rattle.soak_program.specs.Generator.{IsDraw, IsSign, Negation, Complement}
use Rattle.soak_program.proofs.Pieces.{then_adds, add_after_draw}
use Rattle.soak_program.proofs.generator.Generator.put_sign.Goals as goal

pub returns-then-draw-eq0 : goal.returns-then-draw-eq0
returns-then-draw-eq0 c =
    let before = c.args.self.now in
    let mid = c.draw.new.self in
    then_adds c.put.result (codes "- ") IsSign before mid c.put.new.self
    (λ w. add_after_draw IsSign 2 c.draw.result (codes "- ") before mid c.put.new.self c.draw.ensures (λ d. Negation (subst (λ n. IsDraw 2 before.state n mid.state) c.if-draw-eq0.true d)) w) c.put.ensures

pub returns : goal.returns
returns c =
    let before = c.args.self.now in
    let mid = c.draw.new.self in
    let answer : c.draw.result ≡ mid.state / 65536 % 2 = c.draw.ensures.drawn.answer in
    let one : c.draw.result ≡ 1 = omega (arith, answer) in
    then_adds c.put-2.result (codes "~ ") IsSign before mid c.put-2.new.self
    (λ w. add_after_draw IsSign 2 c.draw.result (codes "~ ") before mid c.put-2.new.self c.draw.ensures (λ d. Complement (subst (λ n. IsDraw 2 before.state n mid.state) one d)) w) c.put-2.ensures
