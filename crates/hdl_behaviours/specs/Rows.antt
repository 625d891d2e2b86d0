-- What the laws ask of the ends of a library holds of ends as they are shipped. (The book, chapters 1 to 5.)
use Rattle.std.specs.Prelude.{◌≡◌, [], ◌∷◌, Some, map}
use Rattle.hdl_tree.specs.declared.library.Entry.{Entry}
use Rattle.hdl_tree.specs.declared.ends.End.TheVariants as ends
use Rattle.hdl_tree.specs.declared.ends.Memories.TheVariants.{Blocks}
use Rattle.hdl_tree.specs.Chips.{Chips, end_of}
use Rattle.hdl_plans.specs.Rows.{pin, shipped_end, nand, dff, ram8}
use Rattle.hdl_plans.specs.Planned.{HasEnds}
use Rattle.hdl_behaviours.specs.Loopless.{AreWide}
use Rattle.hdl_behaviours.specs.Reads.{HaveOutAlone}

abbrev pub keyboard : Entry
keyboard = shipped_end "Keyboard" [] (pin "out" 16 ∷ [])

abbrev pub rom : Entry
rom = shipped_end "ROM32K" (pin "address" 15 ∷ []) (pin "out" 16 ∷ [])

-- one end of each kind
abbrev pub each_kind : Chips
each_kind = record { entries = nand ∷ dff ∷ keyboard ∷ rom ∷ ram8 ∷ []; memories = Blocks }

pub record RowsLaw : Type 0 where
  pub kinds : map (end_of Blocks) each_kind.entries ≡ Some ends.Nand ∷ Some ends.Dff
      ∷ Some ends.Keyboard ∷ Some ends.Rom ∷ Some (ends.Block 3) ∷ []
  pub has_ends : HasEnds each_kind
  pub are_wide : AreWide each_kind
  pub out_alone : HaveOutAlone each_kind
