-- Where a script stands. (The book, appendix 3.)
use Rattle.std.specs.Prelude.{◌≡◌, ℕ, suc, true, List, [], ◌∷◌, ◌++◌, Option, Some, None, IfSome, slice_get}
use Rattle.script_columns.specs.Comparison.{agrees}
use Rattle.script_parser.specs.declared.tree.Item.{Item}
use Rattle.script_device.specs.Devices.{Device}
use Rattle.script_device.specs.Devices.Device.{Empty}

-- a compare file: its path and its lines
pub record Compared : Type 0 where
  pub path : List ℕ
  pub lines : List (List ℕ)

-- its device, its output list (none is an empty one), the compare file, how many lines it put, and what it put on out and on err
pub record Standing : Type 0 where
  pub device : Device
  pub items : List Item
  pub compared : Option Compared
  pub lines : ℕ
  pub out : List ℕ
  pub err : List ℕ

abbrev pub at_first : Standing
at_first = record { device = Empty; items = []; compared = None; lines = 0; out = []; err = [] }

-- a line is put on out, and counts
abbrev pub with_line : Standing → List ℕ → Standing
with_line s line = record s { lines = suc s.lines; out = s.out ++ (line ++ 10 ∷ []) }

-- a line is put on err
abbrev pub with_echo : Standing → List ℕ → Standing
with_echo s text = record s { err = s.err ++ (text ++ 10 ∷ []) }

-- a line is there in the compare file as the next one that is put, and this agrees with it; without a compare file each does
abbrev pub Agrees : Standing → List ℕ → Type 0
Agrees s line = IfSome s.compared (λ c. (compared : List ℕ) × (slice_get c.lines s.lines ≡ Some compared) × (agrees compared line ≡ true))
