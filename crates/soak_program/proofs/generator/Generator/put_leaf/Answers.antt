use Rattle.std.proofs.Common.{◌≡◌, ◌<◌, arith, subst, ◌%◌, ◌/◌}
use Rattle.soak_program.specs.Generator.{IsDraw, IsNumber, IsLeaf, OfVariable, Large, Small, variable_text}
use Rattle.soak_program.proofs.Pieces.{then_adds, then_writes, after_draw, add_after_draw}
use Rattle.soak_program.proofs.generator.Generator.put_leaf.Goals as goal

pub returns-then-kind-eq3 : goal.returns-then-kind-eq3
returns-then-kind-eq3 c =
    let before = c.args.self.now in
    let mid = c.draw-kind.new.self in
    let after = c.put_number.new.self in
    then_writes c.put_number.result (IsNumber 32768) IsLeaf before mid after
    (λ w. after_draw (IsNumber 32768) IsLeaf 5 c.draw-kind.result before mid after c.draw-kind.ensures (λ x t d h. Large (subst (λ n. IsDraw 5 before.state n mid.state) c.if-kind-eq3.true d) h) w) c.put_number.ensures

pub returns-then-kind-eq4 : goal.returns-then-kind-eq4
returns-then-kind-eq4 c =
    let before = c.args.self.now in
    let mid = c.draw-kind.new.self in
    let after = c.put_number-then-kind-eq4.new.self in
    then_writes c.put_number-then-kind-eq4.result (IsNumber 10) IsLeaf before mid after
    (λ w. after_draw (IsNumber 10) IsLeaf 5 c.draw-kind.result before mid after c.draw-kind.ensures (λ x t d h. Small (subst (λ n. IsDraw 5 before.state n mid.state) c.if-kind-eq4.true d) h) w) c.put_number-then-kind-eq4.ensures

pub returns : goal.returns
returns c =
    let before = c.args.self.now in
    let mid = c.draw-kind.new.self in
    let after = c.put.new.self in
    let d = c.draw-kind.ensures.drawn in
    let answer : c.draw-kind.result ≡ mid.state / 65536 % 5 = d.answer in
    let low : c.draw-kind.result < 3 = omega (arith, answer) in
    then_adds c.put.result (variable_text c.draw-kind.result) IsLeaf before mid after
    (λ w. add_after_draw IsLeaf 5 c.draw-kind.result (variable_text c.draw-kind.result) before mid after c.draw-kind.ensures (λ e. OfVariable e low) w) c.put.ensures
