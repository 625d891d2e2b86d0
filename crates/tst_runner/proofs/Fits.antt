-- What a directory names is there.
use Rattle.std.proofs.Common.{◌≡◌, ◌<◌, ◌≤◌, ◌-◌, ◌^◌, ℕ, zero, suc, List, [], ◌∷◌, ◌++◌, Bool, true, false, length, get_or, map, take, drop, refl, sym, subst, arith}
use Rattle.std.specs.Prelude.{Option, Some, None, IfSome, slice_get, codes, if◌then◌else◌}
use Rattle.std.specs.Str.{bytes_eq}
use Rattle.std.specs.List.{All, Contains}
use Rattle.std.proofs.lemmas.List.{get_or-take, length-append, length-take}
use Rattle.std.proofs.lemmas.List.Elements.{All-head, All-tail, All-take, All-drop, All-map, All-contains}
use Rattle.std.proofs.lemmas.Option.{get_or_from_slice_get, slice_get-get_or}
use Rattle.hdl_tree.specs.declared.tree.Pin.{Pin}
use Rattle.hdl_tree.specs.declared.library.Entry.{Entry}
use Rattle.hdl_tree.specs.Chips.{Chips, find_entry, pin_width}
use Rattle.netlist.specs.Net.{Net}
use Rattle.hdl_flatten.specs.declared.flat.PinAt.{PinAt}
use Rattle.hdl_flatten.specs.declared.flat.PartAt.{PartAt}
use Rattle.hdl_elab.specs.declared.put.Elab.{Elab}
use Rattle.hdl_elab.specs.Elaborated.{IsElaborated}
use Rattle.hdl_elab.specs.Directory.{IsThere}
use Rattle.hdl_elab.specs.Faults.{IsFine}
use Rattle.hdl_flatten.specs.Trees.{node_count}
use Rattle.hdl_elab.proofs.There.{all_there}
use Rattle.script_device.specs.declared.directory.Directory.{Directory}
use Rattle.script_device.specs.Directory.{FitsNet, IsBus, IsInput, IsPart}
use Rattle.tst_runner.specs.Directories.{IsDirectory, out_among, out_of, part_nodes, pin_nodes}
use Rattle.tst_runner.specs.Inner.Sound.{IsNarrow}

-- ---- lists

all_right : {X : Type 0} (P : X → Type 0) (xs ys : List X) → All P (xs ++ ys) → All P ys
all_right P [] ys all = all
all_right P (x ∷ xs) ys all = all_right P xs ys (All-tail P x (xs ++ ys) all)

record Item {X : Type 0} (xs : List X) (k : ℕ) : Type 0 where
  item : X
  there : slice_get xs k ≡ Some item

item_at : {X : Type 0} (xs : List X) (k : ℕ) → k < length xs → Item xs k
item_at [] k lt = absurd (omega arith)
item_at (x ∷ xs) zero lt = record { item = x; there = refl }
item_at (x ∷ xs) (suc k) lt = let i = item_at xs k (omega arith) in record { item = i.item; there = i.there }

-- ---- the out of a part

out_fits : (n : ℕ) (pins : List Pin) (nodes : List ℕ) → All (λ pin. pin_width pin ≤ 16) pins → All (λ node. node < n) nodes → IfSome (out_among pins nodes) (λ out. (length out ≤ 16) × All (λ node. node < n) out)
out_fits n [] nodes narrow there = tt
out_fits n (pin ∷ pins) nodes narrow there =
    by (bytes_eq pin.name (codes "out"))
    (out_fits n pins (drop (pin_width pin) nodes) (All-tail (λ p. pin_width p ≤ 16) pin pins narrow) (All-drop (λ node. node < n) (pin_width pin) nodes there))
  where
    by : (b : Bool) → IfSome (out_among pins (drop (pin_width pin) nodes)) (λ out. (length out ≤ 16) × All (λ node. node < n) out) → IfSome (if b then Some (take (pin_width pin) nodes) else out_among pins (drop (pin_width pin) nodes)) (λ out. (length out ≤ 16) × All (λ node. node < n) out)
    by true behind = (omega (arith, length-take (pin_width pin) nodes, All-head (λ p. pin_width p ≤ 16) pin pins narrow), All-take (λ node. node < n) (pin_width pin) nodes there)
    by false behind = behind

pub found_narrow : (entries : List Entry) → All IsNarrow entries → (name : List ℕ) → IfSome (find_entry entries name) IsNarrow
found_narrow [] narrow name = tt
found_narrow (entry ∷ entries) narrow name = by (bytes_eq name entry.name) (found_narrow entries (All-tail IsNarrow entry entries narrow) name) where
  by : (b : Bool) → IfSome (find_entry entries name) IsNarrow → IfSome (if b then Some entry else find_entry entries name) IsNarrow
  by true behind = All-head IsNarrow entry entries narrow
  by false behind = behind

part_fits : (entries : List Entry) → All IsNarrow entries → (net : Net) (part : PartAt) → All (λ node. node < length net.nodes) part.outs → IfSome part.block (λ b. b < length net.blocks) → IsPart net (part_nodes entries part)
part_fits entries narrow net part outs block = (by (find_entry entries part.chip) (found_narrow entries narrow part.chip), block) where
  by : (found : Option Entry) → IfSome found IsNarrow → IfSome (out_of found part.outs) (IsBus net)
  by None is = tt
  by (Some entry) is = out_fits (length net.nodes) entry.chip.outputs part.outs (all_right (λ p. pin_width p ≤ 16) entry.chip.inputs entry.chip.outputs is) outs

-- ---- pins

module _ (top : Entry) (e : Elab) (there : IsThere top e) (narrow : IsNarrow top) where
  few : All (λ pin. length pin.nodes ≤ 16) e.pins
  few k d lt =
      let declared = top.chip.inputs ++ top.chip.outputs in
      let inside : k < length declared = omega (arith, there.number, length-append top.chip.inputs top.chip.outputs) in
      let p = item_at declared k inside in
      let named = there.named k p.item (get_or e.pins k d) p.there (slice_get-get_or e.pins k d lt) in
      let width : pin_width p.item ≤ 16 = subst (λ (pin : Pin). pin_width pin ≤ 16) (get_or_from_slice_get declared k p.item p.item p.there) (narrow k p.item inside) in
      omega (arith, named.1)

  inputs_fit : All (λ pin. IsInput e.net pin.nodes) (map pin_nodes (take (length top.chip.inputs) e.pins))
  inputs_fit = All-map (λ pin. IsInput e.net pin.nodes) pin_nodes (take (length top.chip.inputs) e.pins) (λ k d lt.
      let n = length top.chip.inputs in
      let first : k < n = omega (arith, length-take n e.pins) in
      let inside : k < length e.pins = omega (arith, length-take n e.pins) in
      let same = get_or-take n e.pins k d first in
      subst (λ (pin : PinAt). IsInput e.net pin.nodes) (sym same) (few k d inside, there.inputs k (get_or e.pins k d) first (slice_get-get_or e.pins k d inside)))

  outputs_fit : All (λ pin. IsBus e.net pin.nodes) (map pin_nodes (drop (length top.chip.inputs) e.pins))
  outputs_fit = All-map (λ pin. IsBus e.net pin.nodes) pin_nodes (drop (length top.chip.inputs) e.pins) (All-drop (λ pin. IsBus e.net pin.nodes) (length top.chip.inputs) e.pins (λ k d lt. (few k d lt, there.pins k d lt)))

-- ---- the whole

pub fits : (chips : Chips) (entries : List Entry) → All IsNarrow entries → (name : List ℕ) (top : Entry) → find_entry entries name ≡ Some top → (e : Elab) → IsElaborated chips top e → (d : Directory) → IsDirectory entries top e d → All (Contains (map (part_nodes entries) e.parts)) d.parts → FitsNet e.net d
fits chips entries narrow name top found e elaborated d is among =
    let there = all_there chips top e elaborated in
    let own : IsNarrow top = subst (λ (o : Option Entry). IfSome o IsNarrow) found (found_narrow entries narrow name) in
    let each : All (IsPart e.net) (map (part_nodes entries) e.parts) = All-map (IsPart e.net) (part_nodes entries) e.parts (λ k x lt. part_fits entries narrow e.net (get_or e.parts k x) (there.parts k x lt) (there.blocks k x lt)) in
    record {
      inputs = subst (All (λ pin. IsInput e.net pin.nodes)) (sym is.inputs) (inputs_fit top e there own);
      outputs = subst (All (λ pin. IsBus e.net pin.nodes)) (sym is.outputs) (outputs_fit top e there own);
      parts = λ k x lt. All-contains (IsPart e.net) (map (part_nodes entries) e.parts) (get_or d.parts k x) each (among k x lt);
    }

-- ---- the number of nodes

pub few_nodes : (chips : Chips) (top : Entry) (e : Elab) → IsFine chips top → IsElaborated chips top e → length e.net.nodes < 2 ^ 32 - 1
few_nodes chips top e fine flat =
    let count : length e.net.nodes ≡ node_count chips top flat.tree = flat.count in
    let small : node_count chips top flat.tree ≤ 16777216 = fine.few flat.tree flat.listed in
    omega (arith, count, small)
