-- What a variable of a chip stands for is there.
use Rattle.std.proofs.Common.{◌≡◌, ◌<◌, ◌++◌, ℕ, List, [], ◌∷◌, Bool, true, false, length, inl, inr, subst}
use Rattle.std.specs.Prelude.{Some, IfSome, slice_get, if◌then◌else◌}
use Rattle.std.specs.Option.{ForSome}
use Rattle.std.specs.List.{All}
use Rattle.std.specs.Str.{bytes_eq}
use Rattle.std.proofs.lemmas.Option.{slice_get_within}
use Rattle.std.proofs.lemmas.List.Elements.{All-head, All-tail, All-weaker, All-append}
use Rattle.netlist.specs.Net.{Net}
use Rattle.netlist.specs.declared.node.Node.TheVariants.{Pin}
use Rattle.script_device.specs.declared.directory.Directory.{Directory}
use Rattle.script_device.specs.declared.directory.PinNodes.{PinNodes}
use Rattle.script_device.specs.declared.directory.PartNodes.{PartNodes}
use Rattle.script_device.specs.Directory.{FitsNet, IsBus, IsInput, IsPart, OfNamed, loaded_chip, part_named, pin_named}
use Rattle.script_device.specs.Variables as chips
use Rattle.script_device.specs.Variables.Source.{Nodes}

-- what holds of the nodes of all pins holds of those of the pin that is found
pin_fits : (P : List ℕ → Type 0) (pins : List PinNodes) (name nodes : List ℕ) → All (λ pin. P pin.nodes) pins → pin_named pins name ≡ Some nodes → P nodes
pin_fits P [] name nodes all e = absurd cc
pin_fits P (pin ∷ pins) name nodes all e = by (bytes_eq pin.name name) (pin_fits P pins name nodes (All-tail (λ p. P p.nodes) pin pins all)) e where
  by : (b : Bool) → (pin_named pins name ≡ Some nodes → P nodes) → (if b then Some pin.nodes else pin_named pins name) ≡ Some nodes → P nodes
  by true rest found = let same : pin.nodes ≡ nodes = cc in subst P same (All-head (λ p. P p.nodes) pin pins all)
  by false rest found = rest found

part_fits : (net : Net) (parts : List PartNodes) (name : List ℕ) (part : PartNodes) → All (IsPart net) parts → part_named parts name ≡ Some part → IsPart net part
part_fits net [] name part all e = absurd cc
part_fits net (x ∷ parts) name part all e = by (bytes_eq x.chip name) (part_fits net parts name part (All-tail (IsPart net) x parts all)) e where
  by : (b : Bool) → (part_named parts name ≡ Some part → IsPart net part) → (if b then Some x else part_named parts name) ≡ Some part → IsPart net part
  by true rest found = let same : x ≡ part = cc in subst (IsPart net) same (All-head (IsPart net) x parts all)
  by false rest found = rest found

-- an input is a bus
pub input_is_bus : (net : Net) (nodes : List ℕ) → IsInput net nodes → IsBus net nodes
input_is_bus net nodes input = (input.0, All-weaker (λ node. slice_get net.nodes node ≡ Some Pin) (λ node. node < length net.nodes) (λ node e. slice_get_within net.nodes node Pin e) nodes input.1)

pub input_fits : (net : Net) (d : Directory) (text nodes : List ℕ) → FitsNet net d → pin_named d.inputs text ≡ Some nodes → IsInput net nodes
input_fits net d text nodes fits e = pin_fits (IsInput net) d.inputs text nodes fits.inputs e

part_named_all : (P : ℕ → Type 0) (parts : List PartNodes) (name : List ℕ) (part : PartNodes) → All (λ p. ForSome p.out (All P)) parts → part_named parts name ≡ Some part → ForSome part.out (All P)
part_named_all P [] name part all e = absurd cc
part_named_all P (x ∷ parts) name part all e = by (bytes_eq x.chip name) (part_named_all P parts name part (All-tail (λ p. ForSome p.out (All P)) x parts all)) e where
  by : (b : Bool) → (part_named parts name ≡ Some part → ForSome part.out (All P)) → (if b then Some x else part_named parts name) ≡ Some part → ForSome part.out (All P)
  by true rest found = let same : x ≡ part = cc in subst (λ p. ForSome p.out (All P)) same (All-head (λ p. ForSome p.out (All P)) x parts all)
  by false rest found = rest found

-- what holds of all that is named holds of what a text means
pub means_named : (P : ℕ → Type 0) (net : Net) (d : Directory) (text nodes : List ℕ) → OfNamed P d → chips.Denotes (loaded_chip net d) text (Nodes nodes) → All P nodes
means_named P net d text nodes h (inl e) = pin_fits (All P) (d.inputs ++ d.outputs) text nodes (All-append (λ pin. All P pin.nodes) d.inputs d.outputs h.inputs h.outputs) e
means_named P net d text nodes h (inr out) = part_named_all P d.parts out.0 out.2.0 h.parts out.2.1 nodes out.2.2

pub bus_fits : (net : Net) (d : Directory) (text nodes : List ℕ) → FitsNet net d → chips.Denotes (loaded_chip net d) text (Nodes nodes) → IsBus net nodes
bus_fits net d text nodes fits (inl e) = pin_fits (IsBus net) (d.inputs ++ d.outputs) text nodes (All-append (λ pin. IsBus net pin.nodes) d.inputs d.outputs (All-weaker (λ pin. IsInput net pin.nodes) (λ pin. IsBus net pin.nodes) (λ pin. input_is_bus net pin.nodes) d.inputs fits.inputs) fits.outputs) e
bus_fits net d text nodes fits (inr out) =
    let part : IsPart net out.2.0 = part_fits net d.parts out.0 out.2.0 fits.parts out.2.1 in
    let bus = subst (λ o. IfSome o (IsBus net)) out.2.2 part.0 in
    bus
