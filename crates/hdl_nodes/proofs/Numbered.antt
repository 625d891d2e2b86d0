-- The values at the nodes of a numbering are a behaviour.
use Rattle.std.proofs.Common.{◌≡◌, ℕ, ◌<◌, Bool, true, false, List, [], ◌∷◌, ◌++◌, Option, Some, None, refl, ap, ◌∙◌}
use Rattle.std.specs.Prelude.{◌&&◌, not}
use Rattle.hdl_tree.specs.declared.tree.Source.{Source}
use Rattle.hdl_tree.specs.declared.tree.Source.TheVariants as source
use Rattle.hdl_tree.specs.declared.tree.Connection.{Connection}
use Rattle.hdl_tree.specs.declared.tree.Part.{Part}
use Rattle.hdl_tree.specs.declared.library.Entry.{Entry}
use Rattle.hdl_tree.specs.declared.ends.End.{End}
use Rattle.hdl_tree.specs.Chips.{Chips, end_of, parts_of_body}
use Rattle.hdl_tree.specs.Behaviour.{Wires, World, chip_at, Each, Joins, source_value, PartsWired, ChipWired, EndWorks, IsBehaviour}
use Rattle.netlist.specs.declared.node.Node.TheVariants.{Nand, Zero}
use Rattle.netlist.specs.Net.{Net}
use Rattle.netlist.specs.Value.{Inputs, AreValues}
use Rattle.hdl_nodes.specs.Numbering.{IsNumbering, Hears, EndStands}
use Rattle.hdl_nodes.proofs.Ends.{end_works}

-- wiring is kept by a map of values
module _ {X Y : Type 0} (f : X → Y) (low high : X) (low' high' : Y) (l : f low ≡ low') (h : f high ≡ high') where
  map_source : (from : Source) (outside : Wires X) (k : ℕ) → f (source_value low high from outside k) ≡ source_value low' high' from (λ name bit. f (outside name bit)) k
  map_source (source.Net w) outside k = refl
  map_source (source.Constant true) outside k = h
  map_source (source.Constant false) outside k = l

  map_each : (inner : Entry) (outside inside : Wires X) (conns : List Connection) → Each (Joins low high inner outside inside) conns → Each (Joins low' high' inner (λ name bit. f (outside name bit)) (λ name bit. f (inside name bit))) conns
  map_each inner outside inside [] j = tt
  map_each inner outside inside (conn ∷ conns) j = ((λ k lt. ap f (j.0 k lt) ∙ map_source conn.source outside k), map_each inner outside inside conns j.1)

  pub map_parts : (chips : Chips) (chip : Entry) (parts : List Part) (wires : Wires X) (inside : ℕ → Wires X) → PartsWired low high chips chip parts wires inside → PartsWired low' high' chips chip parts (λ name bit. f (wires name bit)) (λ i name bit. f (inside i name bit))
  map_parts chips chip parts wires inside p = record {
    part = λ i part inner e found. record {
      joined = map_each inner wires (inside i) part.connections (p.part i part inner e found).joined;
      unjoined = λ name width bit e' lt none. ap f ((p.part i part inner e found).unjoined name width bit e' lt none) ∙ l;
    };
    undriven = λ name width bit e lt none. ap f (p.undriven name width bit e lt none) ∙ l;
  }

module _ (world : World) (net : Net) (inputs : Inputs) (n : ℕ) (v : ℕ → ℕ → Bool) (low high : ℕ) (chips : Chips) (top : Entry) (block : List ℕ → ℕ) (at : List ℕ → Wires ℕ) (numbering : IsNumbering net low high chips top block at) (hears : Hears world inputs n chips top block at) (are : AreValues net inputs n v) where
  low_is : (c : ℕ) → c < n → v low c ≡ false
  low_is c lt = are c low Zero lt numbering.low_stands

  high_is : (c : ℕ) → c < n → v high c ≡ true
  high_is c lt = are c high (Nand low low) lt numbering.high_stands ∙ ap (λ (b : Bool). not (b && b)) (low_is c lt)

  here : (c : ℕ) → c < n → (path : List ℕ) (inner : Entry) → chip_at chips top path ≡ Some inner → (o : Option End) → end_of chips.memories inner ≡ o →
      ChipWired low high chips inner o (at path) (λ i. at (path ++ i ∷ [])) (λ e. EndStands net low (block path) e (at path)) →
      ChipWired false true chips inner o (λ name bit. v (at path name bit) c) (λ i name bit. v (at (path ++ i ∷ []) name bit) c) (λ e. EndWorks world c e (λ name bit d. v (at path name bit) d))
  here c lt path inner there None is wired = map_parts (λ node. v node c) low high false true (low_is c lt) (high_is c lt) chips inner (parts_of_body inner.chip.body) (at path) (λ i. at (path ++ i ∷ [])) wired
  here c lt path inner there (Some e) is wired = end_works net inputs n v are world low (block path) e (at path) low_is wired (hears path inner e there is) c lt

  pub behaviour : IsBehaviour world chips top n (λ path name bit c. v (at path name bit) c)
  behaviour c lt path inner there = here c lt path inner there (end_of chips.memories inner) refl (numbering.wired path inner there)
