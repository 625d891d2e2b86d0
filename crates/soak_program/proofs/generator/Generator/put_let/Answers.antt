use Rattle.std.proofs.Common.{codes}
use Rattle.soak_program.specs.Generator.{IsLet}
use Rattle.soak_program.proofs.Pieces.{then_adds, let_writes}
use Rattle.soak_program.proofs.generator.Generator.put_let.Goals as goal

pub returns : goal.returns
returns c =
    let a = c.args.self.now in
    let b = c.put.new.self in
    let x = c.put_variable.new.self in
    let e = c.put-2.new.self in
    let y = c.put_expression.new.self in
    let z = c.put-3.new.self in
    then_adds c.put-3.result (codes ";\n") (IsLet c.args.depth) a y z
    (λ w. let_writes c.args.depth a b x e y z c.in_ok-put.ensures c.in_ok-put_variable.ensures c.in_ok-put-2.ensures c.in_ok-put_expression.ensures w) c.put-3.ensures
