-- The lines of an output list. (The book, appendix 3.)
use Rattle.std.specs.Prelude.{◌≡◌, ℕ, Bool, List, [], ◌∷◌, ◌++◌, flat_map}
use Rattle.gate_sim.specs.Calls.{Call}
use Rattle.script_columns.specs.declared.layout.Value.{Value}
use Rattle.script_columns.specs.Columns.{column_text, head_column, value_text}
use Rattle.script_parser.specs.declared.tree.Item.{Item}
use Rattle.script_device.specs.Devices.{Device, Source, Denotes, SeesAll, value_of}

-- the names of the items
abbrev pub head_line : List Item → List ℕ
head_line items = (124 ∷ []) ++ flat_map (λ item. head_column item.layout item.variable.text) items

-- the items with their values, as many as there are of both
abbrev pub columns : List Item → List Value → List ℕ
columns [] values = []
columns (item ∷ items) [] = []
columns (item ∷ items) (value ∷ values) = column_text item.layout (value_text item.layout.format value) ++ columns items values

-- the items' variables stand for these, one each
abbrev pub AreMeant : Device → List Item → List Source → Type 0
AreMeant device [] [] = Unit {0}
AreMeant device [] (source ∷ sources) = ⊥
AreMeant device (item ∷ items) [] = ⊥
AreMeant device (item ∷ items) (source ∷ sources) = Denotes device item.variable.text source × AreMeant device items sources

-- the first item whose variable stands for nothing
pub record IsNameless (device : Device) (items : List Item) (item : Item) : Type 0 where
  pub earlier : List Item
  pub later : List Item
  pub are : items ≡ earlier ++ item ∷ later
  pub meant : (sources : List Source) × AreMeant device earlier sources
  pub unmeant : (source : Source) → Denotes device item.variable.text source → ⊥

-- the values of these sources
abbrev pub values_of : Device → List Call → (ℕ → ℕ → Bool) → List Source → List Value
values_of device told v [] = []
values_of device told v (source ∷ sources) = value_of device told v source ∷ values_of device told v sources

-- The line of the items' values now: whatever values are seen of the device, which there are, it is the line of them.
pub record IsLine (device : Device) (items : List Item) (line : List ℕ) : Type 0 where
  pub there : (told : List Call) × ((v : ℕ → ℕ → Bool) × SeesAll device told v)
  pub is : (told : List Call) (v : ℕ → ℕ → Bool) → SeesAll device told v → (sources : List Source) × AreMeant device items sources × (line ≡ (124 ∷ []) ++ columns items (values_of device told v sources))
