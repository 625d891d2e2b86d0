-- No line of `soak` is ever refused. (The book, chapters 7 to 12.)
use Rattle.std.specs.Prelude.{ℕ, Option}
use Rattle.outer_world.specs.Files.{Files}
use Rattle.command_line.specs.Line.{soak}
use Rattle.nand_cli.specs.Complete.{IsUnrefused}

-- Over whatever files: each generated text spells a class that is well named, and the image of its program has room. So
-- where no call of the outside fails such a line is done, but for want of memory.
abbrev pub UnrefusedLaw : Type 0
UnrefusedLaw = (files : Option Files) (seed count : ℕ) → IsUnrefused files (soak seed count)
