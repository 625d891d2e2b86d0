-- A command may take at least as many steps as words.
use Rattle.std.proofs.Common.{◌≤◌, arith}
use Rattle.vm_tree.specs.declared.command.Operation.{Operation}
use Rattle.vm_tree.specs.declared.command.Operation.TheVariants.{Add, Sub, Neg, Eq, Gt, Lt, And, Or, Not, ShiftLeft, ShiftRight}
use Rattle.vm_link.specs.declared.linked.Step.TheVariants.{Operate, Push, Pop, Goto, IfGoto, Function, Call, Return}
use Rattle.vm_templates.specs.Templates.{operation_words}
use Rattle.vm_templates.specs.Budgets.{operation_steps, TakesStepsForWords}

operation_within : (o : Operation) → operation_words o ≤ operation_steps o
operation_within Add = omega arith
operation_within Sub = omega arith
operation_within And = omega arith
operation_within Or = omega arith
operation_within Neg = omega arith
operation_within Not = omega arith
operation_within ShiftLeft = omega arith
operation_within ShiftRight = omega arith
operation_within Eq = omega arith
operation_within Gt = omega arith
operation_within Lt = omega arith

pub takes_steps_for_words : TakesStepsForWords
takes_steps_for_words (Operate o) = operation_within o
takes_steps_for_words (Push g i) = omega arith
takes_steps_for_words (Pop g i) = omega arith
takes_steps_for_words (Goto p) = omega arith
takes_steps_for_words (IfGoto p) = omega arith
takes_steps_for_words (Function n) = omega arith
takes_steps_for_words (Call g n) = omega arith
takes_steps_for_words Return = omega arith
