use Rattle.std.proofs.Common.{codes}
use Rattle.soak_program.specs.Generator.{IsChoice}
use Rattle.soak_program.proofs.Pieces.{then_adds, choice_writes}
use Rattle.soak_program.proofs.generator.Generator.put_choice.Goals as goal

pub returns : goal.returns
returns c =
    let a = c.args.self.now in
    let h = c.put_let-2.new.self in
    let z = c.put-4.new.self in
    then_adds c.put-4.result (codes "}\n") IsChoice a h z
    (λ w. choice_writes a c.put.new.self c.put_expression.new.self c.put-2.new.self c.put_let.new.self c.put-3.new.self h z
    c.in_ok-put.ensures c.in_ok-put_expression.ensures c.in_ok-put-2.ensures c.in_ok-put_let.ensures c.in_ok-put-3.ensures c.in_ok-put_let-2.ensures w) c.put-4.ensures
