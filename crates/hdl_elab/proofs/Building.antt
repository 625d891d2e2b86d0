-- A flat chip of a library, which has what it takes to be put in order.
use Rattle.std.proofs.Common.{◌≡◌, ℕ, ◌<◌, ◌^◌, List, length, Option, Some, None, refl, arith}
use Rattle.std.specs.Prelude.{IsSome, IfOk, Result, Ok, Err}
use Rattle.std.specs.List.{All}
use Rattle.hdl_tree.specs.declared.library.Entry.{Entry}
use Rattle.hdl_tree.specs.Chips.{Chips, find_chip}
use Rattle.netlist.specs.Order.{AreOrdered}
use Rattle.hdl_check.specs.Whole.{TopIsFaultless}
use Rattle.hdl_flatten.specs.declared.flat.Flat.{Flat}
use Rattle.hdl_flatten.specs.Ends.{EndsHavePins}
use Rattle.hdl_flatten.specs.Flat.{NeedsFew, IsFlat}
use Rattle.hdl_elab.specs.declared.put.Elab.{Elab}
use Rattle.hdl_elab.specs.Sound.{TopHasNoLoop}
use Rattle.hdl_elab.specs.Moved.{IsMoved}
use Rattle.hdl_elab.specs.Elaborated.{TopIsElaborated}
use Rattle.hdl_elab.specs.Orderly.{IsOrderly}
use Rattle.hdl_elab.proofs.Moves.{elaborated}
use Rattle.hdl_elab.proofs.Orderly.{orderly}

-- the chip of this name is flat
abbrev pub TopIsFlat : Chips → List ℕ → Flat → Type 0
TopIsFlat chips name flat = (top : Entry) → find_chip chips name ≡ Some top → IsFlat chips top flat

pub record IsReady (flat : Flat) : Type 0 where
  pub few : length flat.nodes < 2 ^ 32
  pub blocks : length flat.blocks < 2 ^ 32
  pub pins : All (λ p. All (λ node. node < length flat.nodes) p.nodes) flat.pins
  pub parts : All (λ p. All (λ node. node < length flat.nodes) p.outs) flat.parts
  pub orderly : IsOrderly flat

module _ (chips : Chips) (name : List ℕ) (flat : Flat) (ends : EndsHavePins chips) (sound : TopIsFaultless chips name) (few : NeedsFew chips name) (no_loop : TopHasNoLoop chips name) (flats : TopIsFlat chips name flat) where
  ready_by : (o : Option Entry) → find_chip chips name ≡ o → IsSome o → IsReady flat
  ready_by None e h = absurd cc
  ready_by (Some top) e h =
      let is : IsFlat chips top flat = flats top e in
      let count = is.count in
      let small = few top is.tree e is.listed in
      record {
        few = omega (arith, count, small);
        blocks = let few = is.blocks_few in omega (arith, count, small, few);
        pins = is.pins_there;
        parts = is.parts_there;
        orderly = orderly chips name top flat ends e (sound top e) (no_loop top e) is;
      }

  pub ready : IsSome (find_chip chips name) → IsReady flat
  ready there = ready_by (find_chip chips name) refl there

  built : (e : Elab) → IsMoved flat e → AreOrdered e.net.nodes e.net.blocks → TopIsElaborated chips name e
  built e moved ordered = λ top found. elaborated chips top flat e (flats top found) moved ordered

  pub built_if : {E : Type 0} (r : Result Elab E) → IfOk r (λ e. IsMoved flat e) → IfOk r (λ e. AreOrdered e.net.nodes e.net.blocks) → IfOk r (λ e. TopIsElaborated chips name e)
  built_if (Ok e) moved ordered = built e moved ordered
  built_if (Err x) moved ordered = tt
