-- The diagnostic of a fault of a program. It has no place, and want of memory has no diagnostic.
use Rattle.std.specs.Prelude.{[], Option, Some, None, decimal, codes}
use Rattle.outer_world.specs.Refusals.{Message, message}
use Rattle.vm_link.specs.declared.fault.LinkFault.{LinkFault}
use Rattle.vm_link.specs.declared.fault.LinkFault.TheVariants as fault

abbrev pub link_message : LinkFault → Option Message
link_message (fault.NoFunction name) = Some (message 0 0 (codes "NoFunction") name)
link_message (fault.TwiceDefined name) = Some (message 0 0 (codes "TwiceDefined") name)
link_message (fault.NoLabel name) = Some (message 0 0 (codes "NoLabel") name)
link_message (fault.LabelTwice name) = Some (message 0 0 (codes "LabelTwice") name)
link_message fault.NoSysInit = Some (message 0 0 (codes "NoSysInit") [])
link_message (fault.TooManyStatics words) = Some (message 0 0 (codes "TooManyStatics") (decimal words))
link_message fault.Memory = None
