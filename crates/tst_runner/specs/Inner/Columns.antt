-- The columns of the code, which show the items of an output list. (The book, appendix 3.)
use Rattle.std.specs.Prelude.{◌≡◌, List, [], ◌∷◌}
use Rattle.script_device.specs.Devices.{Device, Denotes}
use Rattle.script_device.specs.Running.{probe_source}
use Rattle.script_parser.specs.declared.tree.Item.{Item}
use Rattle.tst_runner.specs.declared.lines.Column.{Column}

-- the column is laid out as the item says, and shows what its variable stands for
abbrev pub IsColumn : Device → Item → Column → Type 0
IsColumn device item column = (column.layout ≡ item.layout) × Denotes device item.variable.text (probe_source column.probe)

-- one column for each item
abbrev pub AreColumns : Device → List Item → List Column → Type 0
AreColumns device [] [] = Unit {0}
AreColumns device [] (column ∷ columns) = ⊥
AreColumns device (item ∷ items) [] = ⊥
AreColumns device (item ∷ items) (column ∷ columns) = IsColumn device item column × AreColumns device items columns
