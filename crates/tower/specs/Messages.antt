-- The diagnostic of a program that has no computer. Want of memory has none.
use Rattle.std.specs.Prelude.{Option, Some, None, decimal, codes}
use Rattle.outer_world.specs.Refusals.{Message, message}
use Rattle.tower.specs.declared.building.BuildError.{BuildError}
use Rattle.tower.specs.declared.building.BuildError.TheVariants as fault

abbrev pub build_message : BuildError → Option Message
build_message (fault.TooManyStatics words) = Some (message 0 0 (codes "TooManyStatics") (decimal words))
build_message (fault.TooLarge words) = Some (message 0 0 (codes "TooLarge") (decimal words))
build_message fault.Memory = None
