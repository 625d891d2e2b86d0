-- What the code finds for a variable of a chip. (The book, appendix 3.)
use Rattle.std.specs.Prelude.{◌≡◌, ◌<◌, ◌++◌, ℕ, List, MatchOption, slice_get, codes}
use Rattle.script_device.specs.declared.directory.Directory.{Directory}
use Rattle.script_device.specs.Directory.{HasOut}
use Rattle.script_device.specs.Variables.Source.{Nodes, BlockWord}
use Rattle.script_device.specs.declared.variables.Variable.{Variable}
use Rattle.script_device.specs.declared.variables.Variable.TheVariants.{Time, Bus, Word}
use Rattle.script_device.specs.Devices.{Source}
use Rattle.script_device.specs.Devices.Source.{TheTime, OfChip}

abbrev pub source_of : Variable → Source
source_of Time = TheTime
source_of (Bus nodes) = OfChip (Nodes nodes.now)
source_of (Word block address) = OfChip (BlockWord block address)

-- a block of this many words has one at an address
abbrev pub HasSize : List ℕ → ℕ → ℕ → Type 0
HasSize sizes block address = MatchOption (slice_get sizes block) ⊥ (λ words. address < words)

-- the text is `Name[]`, and the first part of that chip has these nodes of `out`
abbrev pub IsOut : Directory → List ℕ → List ℕ → Type 0
IsOut directory text nodes = (name : List ℕ) × (text ≡ name ++ codes "[]") × HasOut directory name nodes
