use Rattle.soak_program.specs.Generator.{IsVariable, Variable, variable_text}
use Rattle.soak_program.proofs.Pieces.{then_adds, add_after_draw}
use Rattle.soak_program.proofs.generator.Generator.put_variable.Goals as goal

pub returns : goal.returns
returns c =
    let before = c.args.self.now in
    let mid = c.draw-variable.new.self in
    let after = c.put.new.self in
    then_adds c.put.result (variable_text c.draw-variable.result) IsVariable before mid after
    (λ w. add_after_draw IsVariable 3 c.draw-variable.result (variable_text c.draw-variable.result) before mid after c.draw-variable.ensures (λ d. Variable d) w) c.put.ensures
