-- An elaborated chip for every history of inputs and loaded words. (The book, chapters 1 to 5, and appendix 2.)
use Rattle.std.specs.Prelude.{◌≡◌, ℕ, ◌↔◌, Bool, List, Some}
use Rattle.hdl_tree.specs.declared.library.Entry.{Entry}
use Rattle.hdl_tree.specs.Chips.{Chips, find_chip}
use Rattle.hdl_tree.specs.Behaviour.{Histories, World, IsBehaviour}
use Rattle.netlist.specs.Order.{AreOrdered}
use Rattle.netlist.specs.Value.{Inputs, AreValues}
use Rattle.hdl_flatten.specs.Ends.{EndsHavePins}
use Rattle.hdl_flatten.specs.Trees.{PartIn, IsTree}
use Rattle.hdl_elab.specs.declared.put.Elab.{Elab}
use Rattle.hdl_elab.specs.Elaborated.{IsElaborated}
use Rattle.hdl_elab.specs.Sound.{HasNoFault}
use Rattle.history_laws.specs.Environment.{Environment, IsOfWords, BehavesIn}
use Rattle.history_laws.specs.Told.{IsTold, AreGiven, AreWords, ComesIn, Shows}

-- a behaviour of the chip over n cycles with this outside and these inputs, which the netlist shows
pub record HasShown (outside : Environment) (inputs : Inputs) (n : ℕ) (v : ℕ → ℕ → Bool) (chips : Chips) (top : Entry) (tree : List PartIn) (e : Elab) : Type 0 where
  pub wires : List ℕ → Histories
  pub behaves : BehavesIn outside chips top n wires
  pub comes : ComesIn top e inputs n wires
  pub shows : Shows chips tree e outside inputs n v wires

-- Whatever comes in at pins and stands in blocks at the start: there is a behaviour with what this tells of the
-- outside, and the netlist shows it.
abbrev pub HistoryLaw : Type 0
HistoryLaw =
    (chips : Chips) (name : List ℕ) (top : Entry) (e : Elab) → EndsHavePins chips → find_chip chips name ≡ Some top → IsElaborated chips top e → (tree : List PartIn) → IsTree chips top tree →
    (outside : Environment) (inputs : Inputs) (n : ℕ) (v : ℕ → ℕ → Bool) → IsTold outside inputs n chips top tree e → AreValues e.net inputs n v → HasShown outside inputs n v chips top tree e

-- All inputs and all loaded words tell of some outside.
abbrev pub EveryLaw : Type 0
EveryLaw =
    (chips : Chips) (name : List ℕ) (top : Entry) (e : Elab) → EndsHavePins chips → find_chip chips name ≡ Some top → IsElaborated chips top e → (tree : List PartIn) → IsTree chips top tree →
    (inputs : Inputs) → AreWords inputs → (n : ℕ) → (outside : Environment) × IsTold outside inputs n chips top tree e

-- inputs that tell of this outside, with these bits at the chip's inputs
pub record TellsOf (outside : Environment) (given : Histories) (n : ℕ) (chips : Chips) (top : Entry) (tree : List PartIn) (e : Elab) : Type 0 where
  pub inputs : Inputs
  pub told : IsTold outside inputs n chips top tree e
  pub bits : AreGiven top e inputs given

-- There are inputs for each outside of words and for all bits of the chip's inputs.
abbrev pub InputsLaw : Type 0
InputsLaw =
    (chips : Chips) (name : List ℕ) (top : Entry) (e : Elab) → EndsHavePins chips → find_chip chips name ≡ Some top → IsElaborated chips top e → (tree : List PartIn) → IsTree chips top tree →
    (outside : Environment) → IsOfWords outside → (given : Histories) (n : ℕ) → TellsOf outside given n chips top tree e

-- The netlist is in order and the chip has no fault. Then it shows just that: each behaviour with this outside and
-- these inputs.
abbrev pub OnlyLaw : Type 0
OnlyLaw =
    (chips : Chips) (name : List ℕ) (top : Entry) (e : Elab) → EndsHavePins chips → find_chip chips name ≡ Some top → HasNoFault chips top → IsElaborated chips top e → AreOrdered e.net.nodes e.net.blocks → (tree : List PartIn) → IsTree chips top tree →
    (outside : Environment) (inputs : Inputs) (n : ℕ) (v : ℕ → ℕ → Bool) → IsTold outside inputs n chips top tree e → AreValues e.net inputs n v →
    (wires : List ℕ → Histories) → BehavesIn outside chips top n wires → ComesIn top e inputs n wires → Shows chips tree e outside inputs n v wires

-- the same at each path, and zeros in each memory
abbrev pub everywhere : World → Environment
everywhere world = record { key = λ path. world.key; rom = λ path. world.rom; words = λ path a. 0 }

-- The behaviours in a world are those where each keyboard and each instruction memory is told the same, and each memory
-- begins with zeros.
abbrev pub WorldLaw : Type 0
WorldLaw = (world : World) (chips : Chips) (top : Entry) (n : ℕ) (wires : List ℕ → Histories) → IsBehaviour world chips top n wires ↔ BehavesIn (everywhere world) chips top n wires
