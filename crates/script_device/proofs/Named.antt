-- What holds of all nodes that a directory names.
use Rattle.std.proofs.Common.{◌≡◌, ℕ, ◌<◌, List, [], ◌∷◌, ◌++◌, length, Option, Some, None, refl, sym, subst}
use Rattle.std.specs.Prelude.{IfSome, unwrap_or}
use Rattle.std.specs.Option.{ForSome}
use Rattle.std.specs.List.{All, Contains, flat_map}
use Rattle.std.proofs.lemmas.List.Concat.{flat_map-cons}
use Rattle.std.proofs.lemmas.List.Elements.{All-append, All-cons, All-contains_itself, All-head, All-nil, All-tail, All-weaker}
use Rattle.netlist.specs.Net.{Net}
use Rattle.script_device.specs.declared.directory.Directory.{Directory}
use Rattle.script_device.specs.declared.directory.PinNodes.{PinNodes}
use Rattle.script_device.specs.declared.directory.PartNodes.{PartNodes}
use Rattle.script_device.specs.Directory.{FitsNet, IsBus, IsInput, IsPart, OfNamed, named_of, out_nodes}
use Rattle.script_device.proofs.Fitting.{input_is_bus}

abbrev pin_nodes : List PinNodes → List ℕ
pin_nodes pins = flat_map (λ (pin : PinNodes). pin.nodes) pins

abbrev part_nodes : List PartNodes → List ℕ
part_nodes parts = flat_map out_nodes parts

module _ (P : ℕ → Type 0) where
  left : (xs ys : List ℕ) → All P (xs ++ ys) → All P xs
  left [] ys all = All-nil P
  left (x ∷ xs) ys all = All-cons P x xs (All-head P x (xs ++ ys) all) (left xs ys (All-tail P x (xs ++ ys) all))

  right : (xs ys : List ℕ) → All P (xs ++ ys) → All P ys
  right [] ys all = all
  right (x ∷ xs) ys all = right xs ys (All-tail P x (xs ++ ys) all)

  each : (X : Type 0) (f : X → List ℕ) (xs : List X) → All P (flat_map f xs) → All (λ (x : X). All P (f x)) xs
  each X f [] all = All-nil (λ (x : X). All P (f x))
  each X f (x ∷ xs) all =
      let both : All P (f x ++ flat_map f xs) = subst (All P) (flat_map-cons f x xs) all in
      All-cons (λ (y : X). All P (f y)) x xs (left (f x) (flat_map f xs) both) (each X f xs (right (f x) (flat_map f xs) both))

  gathered : (X : Type 0) (f : X → List ℕ) (xs : List X) → All (λ (x : X). All P (f x)) xs → All P (flat_map f xs)
  gathered X f [] all = All-nil P
  gathered X f (x ∷ xs) all =
      subst (All P) (sym (flat_map-cons f x xs))
      (All-append P (f x) (flat_map f xs) (All-head (λ (y : X). All P (f y)) x xs all) (gathered X f xs (All-tail (λ (y : X). All P (f y)) x xs all)))

  some_out : (o : Option (List ℕ)) → All P (unwrap_or o []) → ForSome o (All P)
  some_out None all nodes e = absurd (let no : ⊥ = cc in no)
  some_out (Some x) all nodes e = let same : x ≡ nodes = cc in subst (All P) same all

  of_out : (o : Option (List ℕ)) → ForSome o (All P) → All P (unwrap_or o [])
  of_out None h = All-nil P
  of_out (Some x) h = h x refl

  -- it holds of all, one after the other, and so of each
  pub listed_named : (d : Directory) → ((k : ℕ) → Contains (named_of d) k → P k) → OfNamed P d
  listed_named d h =
      let ins = pin_nodes d.inputs in
      let outs = pin_nodes d.outputs in
      let parts = part_nodes d.parts in
      let all : All P ((ins ++ outs) ++ parts) = All-weaker (Contains (named_of d)) P h (named_of d) (All-contains_itself (named_of d)) in
      let pins = left (ins ++ outs) parts all in
      record {
        inputs = each PinNodes (λ (pin : PinNodes). pin.nodes) d.inputs (left ins outs pins);
        outputs = each PinNodes (λ (pin : PinNodes). pin.nodes) d.outputs (right ins outs pins);
        parts =
            All-weaker (λ (part : PartNodes). All P (out_nodes part)) (λ (part : PartNodes). ForSome part.out (All P)) (λ part. some_out part.out) d.parts
            (each PartNodes out_nodes d.parts (right (ins ++ outs) parts all));
      }

  pub named_listed : (d : Directory) → OfNamed P d → All P (named_of d)
  named_listed d h =
      let ins = pin_nodes d.inputs in
      let outs = pin_nodes d.outputs in
      let parts = part_nodes d.parts in
      All-append P (ins ++ outs) parts
      (All-append P ins outs (gathered PinNodes (λ (pin : PinNodes). pin.nodes) d.inputs h.inputs) (gathered PinNodes (λ (pin : PinNodes). pin.nodes) d.outputs h.outputs))
      (gathered PartNodes out_nodes d.parts
      (All-weaker (λ (part : PartNodes). ForSome part.out (All P)) (λ (part : PartNodes). All P (out_nodes part)) (λ part. of_out part.out) d.parts h.parts))

  -- it holds of all that is there, and what fits is there
  module _ (net : Net) (there : (k : ℕ) → k < length net.nodes → P k) where
    of_bus : (nodes : List ℕ) → IsBus net nodes → All P nodes
    of_bus nodes bus = All-weaker (λ k. k < length net.nodes) P there nodes bus.1

    bus_out : (o : Option (List ℕ)) → IfSome o (IsBus net) → ForSome o (All P)
    bus_out None h nodes e = absurd (let no : ⊥ = cc in no)
    bus_out (Some x) h nodes e = let same : x ≡ nodes = cc in subst (All P) same (of_bus x h)

    pub fits_named : (d : Directory) → FitsNet net d → OfNamed P d
    fits_named d fits = record {
      inputs = All-weaker (λ (pin : PinNodes). IsInput net pin.nodes) (λ (pin : PinNodes). All P pin.nodes) (λ pin input. of_bus pin.nodes (input_is_bus net pin.nodes input)) d.inputs fits.inputs;
      outputs = All-weaker (λ (pin : PinNodes). IsBus net pin.nodes) (λ (pin : PinNodes). All P pin.nodes) (λ pin bus. of_bus pin.nodes bus) d.outputs fits.outputs;
      parts = All-weaker (IsPart net) (λ (part : PartNodes). ForSome part.out (All P)) (λ part is. bus_out part.out is.0) d.parts fits.parts;
    }
