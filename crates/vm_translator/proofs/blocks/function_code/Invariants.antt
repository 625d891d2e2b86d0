use Rattle.std.proofs.Common.{◌≡◌, ◌-◌, ◌++◌}
use Rattle.vm_templates.specs.Templates.{function_code}
use Rattle.vm_translator.proofs.blocks.function_code.Given as goal

abbrev pub invariant-loop-local : goal.invariant-loop-local
invariant-loop-local l = l.out.items ++ function_code (l.locals - l._local) ≡ l.initial.out.items ++ function_code l.locals
