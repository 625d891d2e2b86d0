-- Two netlists of one chip, node by node as their directories name them: the same is done to both, and the same is seen
-- of both. (The book, chapters 1 to 3, and appendix 3.)
use Rattle.std.specs.Prelude.{◌≡◌, ℕ, ◌<◌, ◌≤◌, Bool, List, [], ◌∷◌, Some, length, slice_get}
use Rattle.hdl_tree.specs.declared.library.Entry.{Entry}
use Rattle.hdl_tree.specs.Chips.{Chips, find_chip}
use Rattle.netlist.specs.Order.{AreOrdered}
use Rattle.netlist.specs.Histories.{rank}
use Rattle.gate_sim.specs.Calls.{Call, cycle_of}
use Rattle.gate_sim.specs.Calls.Call.{Load, Set, Eval, Tick, Tock}
use Rattle.gate_sim.specs.Values.{AreValues, words_of}
use Rattle.hdl_flatten.specs.declared.flat.PinAt.{PinAt}
use Rattle.hdl_flatten.specs.declared.flat.PartAt.{PartAt}
use Rattle.hdl_flatten.specs.Ends.{EndsHavePins}
use Rattle.hdl_elab.specs.declared.put.Elab.{Elab}
use Rattle.hdl_elab.specs.Elaborated.{IsElaborated}
use Rattle.hdl_elab.specs.Sound.{HasNoFault}

-- in two directories these are the nodes of one bit of pin k
pub record SamePin (e e' : Elab) (k node node' : ℕ) : Type 0 where
  pub pin : PinAt
  pub pin' : PinAt
  pub bit : ℕ
  pub there : slice_get e.pins k ≡ Some pin
  pub there' : slice_get e'.pins k ≡ Some pin'
  pub here : slice_get pin.nodes bit ≡ Some node
  pub here' : slice_get pin'.nodes bit ≡ Some node'

-- in two directories these are the nodes of one output bit of part k
pub record SameOut (e e' : Elab) (k node node' : ℕ) : Type 0 where
  pub part : PartAt
  pub part' : PartAt
  pub bit : ℕ
  pub there : slice_get e.parts k ≡ Some part
  pub there' : slice_get e'.parts k ≡ Some part'
  pub here : slice_get part.outs bit ≡ Some node
  pub here' : slice_get part'.outs bit ≡ Some node'

-- in two directories these are the blocks of one part
pub record SameBlock (e e' : Elab) (b b' : ℕ) : Type 0 where
  pub k : ℕ
  pub part : PartAt
  pub part' : PartAt
  pub there : slice_get e.parts k ≡ Some part
  pub there' : slice_get e'.parts k ≡ Some part'
  pub here : part.block ≡ Some b
  pub here' : part'.block ≡ Some b'

-- The calls do the same to both: words come into the blocks of one part, the nodes of one input bit are set to one bit.
pub data SameCalls (top : Entry) (e e' : Elab) : List Call → List Call → Type 0 where
  none : SameCalls top e e' [] []
  load : {block block' from : ℕ} {words : List ℕ} {calls calls' : List Call} → SameBlock e e' block block' → SameCalls top e e' calls calls' → SameCalls top e e' (Load block from words ∷ calls) (Load block' from words ∷ calls')
  set : {k node node' : ℕ} {bit : Bool} {calls calls' : List Call} → k < length top.chip.inputs → SamePin e e' k node node' → SameCalls top e e' calls calls' → SameCalls top e e' (Set (rank e.net.nodes node) bit ∷ calls) (Set (rank e'.net.nodes node') bit ∷ calls')
  eval : {calls calls' : List Call} → SameCalls top e e' calls calls' → SameCalls top e e' (Eval ∷ calls) (Eval ∷ calls')
  tick : {calls calls' : List Call} → SameCalls top e e' calls calls' → SameCalls top e e' (Tick ∷ calls) (Tick ∷ calls')
  tock : {calls calls' : List Call} → SameCalls top e e' calls calls' → SameCalls top e e' (Tock ∷ calls) (Tock ∷ calls')

-- In each cycle up to the one that the calls come to, pins and outputs of parts have the same values. The same words
-- stand in blocks, after these calls and after others that come to no later cycle.
pub record ShowSame (top : Entry) (e e' : Elab) (calls calls' : List Call) (v v' : ℕ → ℕ → Bool) : Type 0 where
  pub pins : (k node node' c : ℕ) → SamePin e e' k node node' → c ≤ cycle_of calls → v node c ≡ v' node' c
  pub outs : (k node node' c : ℕ) → SameOut e e' k node node' → c ≤ cycle_of calls
      → v node c ≡ v' node' c
  pub words : (later later' : List Call) → SameCalls top e e' later later'
      → cycle_of later ≤ cycle_of calls → (b b' a : ℕ) → SameBlock e e' b b'
      → words_of e.net.blocks v later b a ≡ words_of e'.net.blocks v' later' b' a

-- Two elaborated netlists of a chip without faults, of which the first is in order, show the same after the same calls,
-- whatever values are theirs. So what is seen of a chip does not hang on which netlist of it runs.
abbrev pub SameLaw : Type 0
SameLaw =
    (chips : Chips) (name : List ℕ) (top : Entry) (e e' : Elab) → EndsHavePins chips → find_chip chips name ≡ Some top → HasNoFault chips top → IsElaborated chips top e → IsElaborated chips top e' → AreOrdered e.net.nodes e.net.blocks →
    (calls calls' : List Call) (v v' : ℕ → ℕ → Bool) → SameCalls top e e' calls calls' → AreValues e.net calls v → AreValues e'.net calls' v' → ShowSame top e e' calls calls' v v'
