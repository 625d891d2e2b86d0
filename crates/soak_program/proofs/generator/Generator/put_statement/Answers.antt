use Rattle.std.proofs.Common.{◌≡◌, ◌%◌, ◌/◌, subst, arith}
use Rattle.soak_program.specs.Generator.{IsDraw, IsLet, IsChoice, IsStatement, Assignment, Either}
use Rattle.soak_program.proofs.Pieces.{then_writes, after_draw}
use Rattle.soak_program.proofs.generator.Generator.put_statement.Goals as goal

pub returns-then-draw-lt2 : goal.returns-then-draw-lt2
returns-then-draw-lt2 c =
    let before = c.args.self.now in
    let mid = c.draw.new.self in
    let after = c.put_let.new.self in
    then_writes c.put_let.result (IsLet 3) IsStatement before mid after
    (λ w. after_draw (IsLet 3) IsStatement 3 c.draw.result before mid after c.draw.ensures (λ x t d h. Assignment d c.if-draw-lt2.true h) w) c.put_let.ensures

pub returns : goal.returns
returns c =
    let before = c.args.self.now in
    let mid = c.draw.new.self in
    let after = c.put_choice.new.self in
    let answer : c.draw.result ≡ mid.state / 65536 % 3 = c.draw.ensures.drawn.answer in
    let two : c.draw.result ≡ 2 = omega (arith, answer) in
    then_writes c.put_choice.result IsChoice IsStatement before mid after
    (λ w. after_draw IsChoice IsStatement 3 c.draw.result before mid after c.draw.ensures (λ x t d h. Either (subst (λ n. IsDraw 3 before.state n mid.state) two d) h) w) c.put_choice.ensures
