-- The operation of the virtual machine that a sign or an operator of Jack is. (The book, chapter 11.)
use Rattle.vm_tree.specs.declared.command.Operation.{Operation}
use Rattle.vm_tree.specs.declared.command.Operation.TheVariants as operation
use Rattle.jack_meaning.specs.Text.{Sign, Minus, Complement, ShiftLeft, ShiftRight, Operator, Plus, Subtract, And, Or, Less, Greater, Equal}

abbrev pub sign_operation : Sign → Operation
sign_operation Minus = operation.Neg
sign_operation Complement = operation.Not
sign_operation ShiftLeft = operation.ShiftLeft
sign_operation ShiftRight = operation.ShiftRight

abbrev pub operator_operation : Operator → Operation
operator_operation Plus = operation.Add
operator_operation Subtract = operation.Sub
operator_operation And = operation.And
operator_operation Or = operation.Or
operator_operation Less = operation.Lt
operator_operation Greater = operation.Gt
operator_operation Equal = operation.Eq
