-- The command `chip`: the printed form of a shipped chip, or that none has this name. (The book, chapters 1 to 5 and
-- appendix 2.)
use Rattle.std.specs.Prelude.{◌≡◌, ℕ, List, Some, None, codes}
use Rattle.outer_world.specs.Refusals.{Message, message, message_line}
use Rattle.hdl_tree.specs.Chips.{find_entry}
use Rattle.hdl_tree.specs.declared.library.Entry.{Entry}
use Rattle.hdl_parser.specs.Printed.{chip_text}
use Rattle.hack_cpu.specs.Library.{shipped_chips}

-- This is the shipped chip of the name.
abbrev pub IsShipped : List ℕ → Entry → Type 0
IsShipped name entry = find_entry shipped_chips name ≡ Some entry

abbrev pub ChipPrints : List ℕ → List ℕ → Type 0
ChipPrints name out = (entry : Entry) × IsShipped name entry × (out ≡ chip_text entry.chip)

-- what is reported of a name that no shipped chip has
abbrev pub unknown_chip : List ℕ → Message
unknown_chip name = message 0 0 (codes "UnknownChip") name

abbrev pub ChipRefuses : List ℕ → List ℕ → Type 0
ChipRefuses name line = (find_entry shipped_chips name ≡ None) × (line ≡ message_line name (unknown_chip name))
