-- What a look at chips gives.
use Rattle.std.specs.Prelude.{ℕ, List, Option, Some, None}
use Rattle.std.specs.declared.vec.Vec.{Vec}
use Rattle.std.specs.declared.alloc.Global.{Global}
use Rattle.hdl_tree.specs.declared.library.Entry.{Entry}
use Rattle.hdl_tree.specs.Chips.{Chips}
use Rattle.hdl_plans.specs.Loops.{IsLoop}
use Rattle.hdl_plans.specs.Ways.{TreeFits}
use Rattle.hdl_loops.specs.Inner.Knowing.{IsRight, TreeClear}
use Rattle.hdl_loops.specs.declared.known.Known.{Known}
use Rattle.hdl_loops.specs.declared.find.Look.{Look}
use Rattle.hdl_loops.specs.declared.find.Look.TheVariants as looks

-- What is known of a chip without a circle of its own is right. The nets of a loop are those of one.
abbrev pub LooksRight : Chips → List (Option Known) → Entry → Look → Type 0
LooksRight chips known entry (looks.Fine inside) = IsRight chips known entry inside
LooksRight chips known entry (looks.Loop nets) = IsLoop chips entry nets.items

-- the nets, if there are any, are those of a loop of the chip
abbrev pub TellsLoop : Chips → Entry → Option (Vec (List ℕ) Global) → Type 0
TellsLoop chips chip None = Unit {0}
TellsLoop chips chip (Some nets) = IsLoop chips chip nets.items

-- the same of the last chip that is looked at, and without nets no chip in it has a circle of its own where the tree fits
abbrev pub EndsLook : Chips → Entry → Option (Vec (List ℕ) Global) → Type 0
EndsLook chips chip None = TreeFits chips chip → TreeClear chips chip
EndsLook chips chip (Some nets) = IsLoop chips chip nets.items
