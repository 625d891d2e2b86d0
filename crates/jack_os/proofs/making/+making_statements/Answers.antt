use Rattle.jack_os.proofs.Sketched.{made_if, made_else, made_while}
use Rattle.jack_os.proofs.making.+making_statements.Goals as goal

pub statement-returns-in_ok-body-in-If : goal.statement-returns-in_ok-body-in-If
statement-returns-in_ok-body-in-If t c = rw c.in-If.is (made_if _ _ c.in-If.condition c.in-If.body c.in_ok-condition-in-If.ensures c.in_ok-body-in-If.ensures)

pub statement-returns-in_ok-other-in-IfElse : goal.statement-returns-in_ok-other-in-IfElse
statement-returns-in_ok-other-in-IfElse t c =
    rw c.in-IfElse.is
    (made_else _ _ c.in-IfElse.condition c.in-IfElse.body c.in_ok-condition-in-IfElse.ensures c.in_ok-body-in-IfElse.ensures
    _ c.in-IfElse.other c.in_ok-other-in-IfElse.ensures)

pub statement-returns-in_ok-body-in-While : goal.statement-returns-in_ok-body-in-While
statement-returns-in_ok-body-in-While t c = rw c.in-While.is (made_while _ _ c.in-While.condition c.in-While.body c.in_ok-condition-in-While.ensures c.in_ok-body-in-While.ensures)
