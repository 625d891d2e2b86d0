-- The diagnostic of a fault of a program in assembly. Want of memory has none.
use Rattle.std.specs.Prelude.{[], Option, Some, None, decimal, codes}
use Rattle.outer_world.specs.Refusals.{Message, message}
use Rattle.hack_asm.specs.declared.fault.AsmFault.{AsmFault}
use Rattle.hack_asm.specs.declared.fault.AsmFault.TheVariants as fault

abbrev pub asm_message : AsmFault → Option Message
asm_message (fault.Grammar at) = Some (message at.line at.column (codes "Grammar") [])
asm_message (fault.Range at value) = Some (message at.line at.column (codes "Range") (decimal value))
asm_message (fault.LabelTwice name at) = Some (message at.line at.column (codes "LabelTwice") name.items)
asm_message (fault.TooLarge words) = Some (message 0 0 (codes "TooLarge") (decimal words))
asm_message (fault.TooManyVariables count) = Some (message 0 0 (codes "TooManyVariables") (decimal count))
asm_message fault.Memory = None
