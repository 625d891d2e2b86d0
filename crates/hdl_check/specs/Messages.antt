-- The diagnostic of a fault of a chip, beside the path of the chip's text: the word of its kind, and the name. It has no
-- place.
use Rattle.std.specs.Prelude.{ℕ, List, codes}
use Rattle.outer_world.specs.Refusals.{Message, message}
use Rattle.hdl_check.specs.declared.fault.FaultKind.{FaultKind}
use Rattle.hdl_check.specs.declared.fault.FaultKind.TheVariants as kind
use Rattle.hdl_check.specs.declared.fault.NamedFault.{NamedFault}

abbrev pub kind_word : FaultKind → List ℕ
kind_word kind.UnknownChip = codes "UnknownChip"
kind_word kind.UnknownPin = codes "UnknownPin"
kind_word kind.Width = codes "Width"
kind_word kind.Driven = codes "Driven"
kind_word kind.Undriven = codes "Undriven"
kind_word kind.Recursive = codes "Recursive"

abbrev pub named_message : NamedFault → Message
named_message fault = message 0 0 (kind_word fault.kind) fault.name
