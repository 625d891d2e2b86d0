-- What the library of a script keeps, so that its chips can be built.
use Rattle.std.specs.Prelude.{◌≤◌, ◌++◌, List}
use Rattle.std.specs.List.{All}
use Rattle.hdl_tree.specs.declared.library.Entry.{Entry}
use Rattle.hdl_tree.specs.Chips.{pin_width}
use Rattle.hdl_check.specs.Whole.{AreDistinct}
use Rattle.hack_cpu.specs.Libraries.{IsLibrary}

-- no pin has more than sixteen bits
abbrev pub IsNarrow : Entry → Type 0
IsNarrow entry = All (λ pin. pin_width pin ≤ 16) (entry.chip.inputs ++ entry.chip.outputs)

pub record IsSound (entries : List Entry) : Type 0 where
  pub distinct : AreDistinct entries
  pub library : IsLibrary entries
  pub narrow : All IsNarrow entries
