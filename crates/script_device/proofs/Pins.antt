-- Pins by name.
use Rattle.std.proofs.Common.{◌≡◌, ℕ, List, [], ◌∷◌, ◌++◌, Bool, true, false, refl}
use Rattle.std.specs.Prelude.{Some, None, if◌then◌else◌}
use Rattle.std.specs.Str.{bytes_eq}
use Rattle.script_device.specs.declared.directory.PinNodes.{PinNodes}
use Rattle.script_device.specs.Directory.{pin_named}

-- the first pin that is found among some stands before all others
pub pin_before : (pins more : List PinNodes) (name : List ℕ) (nodes : List ℕ) → pin_named pins name ≡ Some nodes → pin_named (pins ++ more) name ≡ Some nodes
pin_before [] more name nodes e = absurd cc
pin_before (pin ∷ pins) more name nodes e = by (bytes_eq pin.name name) (pin_before pins more name nodes) e where
  by : (b : Bool) → (pin_named pins name ≡ Some nodes → pin_named (pins ++ more) name ≡ Some nodes) → (if b then Some pin.nodes else pin_named pins name) ≡ Some nodes → (if b then Some pin.nodes else pin_named (pins ++ more) name) ≡ Some nodes
  by true before e = e
  by false before e = before e

-- where none of them has the name, it is found among the others
pub pin_behind : (pins more : List PinNodes) (name : List ℕ) → pin_named pins name ≡ None → pin_named (pins ++ more) name ≡ pin_named more name
pin_behind [] more name e = refl
pin_behind (pin ∷ pins) more name e = by (bytes_eq pin.name name) (pin_behind pins more name) e where
  by : (b : Bool) → (pin_named pins name ≡ None → pin_named (pins ++ more) name ≡ pin_named more name) → (if b then Some pin.nodes else pin_named pins name) ≡ None → (if b then Some pin.nodes else pin_named (pins ++ more) name) ≡ pin_named more name
  by true behind e = absurd cc
  by false behind e = behind e
