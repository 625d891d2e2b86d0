-- The diagnostic of a program that has no code. Want of memory has none.
use Rattle.std.specs.Prelude.{Option, Some, None, decimal, codes}
use Rattle.outer_world.specs.Refusals.{Message, message}
use Rattle.vm_translator.specs.declared.coded.CodeFault.{CodeFault}
use Rattle.vm_translator.specs.declared.coded.CodeFault.TheVariants as fault

abbrev pub code_message : CodeFault → Option Message
code_message (fault.TooLarge words) = Some (message 0 0 (codes "TooLarge") (decimal words))
code_message fault.Memory = None
