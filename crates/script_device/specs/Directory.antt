-- What of a chip that is loaded has a name. (The book, chapters 1 and 3.)
use Rattle.std.specs.Prelude.{◌<◌, ◌≤◌, ◌≡◌, ℕ, List, [], ◌∷◌, ◌++◌, Option, Some, None, IfSome, unwrap_or, slice_get, length, map, if◌then◌else◌}
use Rattle.std.specs.Option.{ForSome}
use Rattle.std.specs.List.{All, flat_map}
use Rattle.std.specs.Str.{bytes_eq}
use Rattle.netlist.specs.Net.{Net}
use Rattle.netlist.specs.declared.node.Node.TheVariants.{Pin}
use Rattle.script_device.specs.declared.directory.PinNodes.{PinNodes}
use Rattle.script_device.specs.declared.directory.PartNodes.{PartNodes}
use Rattle.script_device.specs.declared.directory.Directory.{Directory}

-- a chip that is loaded: its nodes and blocks, and their names
pub record LoadedChip : Type 0 where
  pub net : Net
  pub directory : Directory

abbrev pub loaded_chip : Net → Directory → LoadedChip
loaded_chip net directory = record { net = net; directory = directory }

-- these are the numbers of words of the blocks
abbrev pub AreSizes : List ℕ → Net → Type 0
AreSizes sizes net = sizes ≡ map (λ block. block.words) net.blocks

-- the nodes of the pin of this name
abbrev pub pin_named : List PinNodes → List ℕ → Option (List ℕ)
pin_named [] name = None
pin_named (pin ∷ pins) name = if bytes_eq pin.name name then Some pin.nodes else pin_named pins name

-- the first part of the chip of this name
abbrev pub part_named : List PartNodes → List ℕ → Option PartNodes
part_named [] name = None
part_named (part ∷ parts) name = if bytes_eq part.chip name then Some part else part_named parts name

-- its out, and its block, where it has them
abbrev pub HasOut : Directory → List ℕ → List ℕ → Type 0
HasOut d name nodes = (part : PartNodes) × (part_named d.parts name ≡ Some part) × (part.out ≡ Some nodes)

abbrev pub HasBlock : Directory → List ℕ → ℕ → Type 0
HasBlock d name b = (part : PartNodes) × (part_named d.parts name ≡ Some part) × (part.block ≡ Some b)

-- the nodes that have a name: those of its pins, and the outs of parts
abbrev pub out_nodes : PartNodes → List ℕ
out_nodes part = unwrap_or part.out []

abbrev pub named_of : Directory → List ℕ
named_of d = (flat_map (λ pin. pin.nodes) d.inputs ++ flat_map (λ pin. pin.nodes) d.outputs) ++ flat_map out_nodes d.parts

-- ---- what it names is there

-- at most sixteen nodes of the net
abbrev pub IsBus : Net → List ℕ → Type 0
IsBus net nodes = (length nodes ≤ 16) × All (λ node. node < length net.nodes) nodes

-- an input's nodes can be set
abbrev pub IsInput : Net → List ℕ → Type 0
IsInput net nodes = (length nodes ≤ 16) × All (λ node. slice_get net.nodes node ≡ Some Pin) nodes

abbrev pub IsPart : Net → PartNodes → Type 0
IsPart net part = IfSome part.out (IsBus net) × IfSome part.block (λ b. b < length net.blocks)

-- each node that it names is such
pub record OfNamed (P : ℕ → Type 0) (d : Directory) : Type 0 where
  pub inputs : All (λ pin. All P pin.nodes) d.inputs
  pub outputs : All (λ pin. All P pin.nodes) d.outputs
  pub parts : All (λ part. ForSome part.out (All P)) d.parts

pub record FitsNet (net : Net) (d : Directory) : Type 0 where
  pub inputs : All (λ pin. IsInput net pin.nodes) d.inputs
  pub outputs : All (λ pin. IsBus net pin.nodes) d.outputs
  pub parts : All (IsPart net) d.parts
