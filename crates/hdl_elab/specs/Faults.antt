-- Why a chip is not elaborated. (The book, chapter 3 and appendix 2.)
use Rattle.std.specs.Prelude.{◌≡◌, ℕ, ◌<◌, ◌≤◌, List, [], ◌∷◌, Some}
use Rattle.hdl_tree.specs.declared.library.Entry.{Entry}
use Rattle.hdl_tree.specs.Chips.{Chips, find_chip}
use Rattle.hdl_check.specs.Locations.{IsFirstFault}
use Rattle.hdl_plans.specs.Loops.{IsLoop}
use Rattle.hdl_flatten.specs.Trees.{PartIn, IsTree, node_count, capped_count}
use Rattle.hdl_elab.specs.declared.fault.ElaborationFault.{ElaborationFault}
use Rattle.hdl_elab.specs.declared.fault.ElaborationFault.TheVariants as faults
use Rattle.hdl_elab.specs.Sound.{HasNoFault, HasNoLoop}

-- how many nodes a netlist may have
abbrev pub most_nodes : ℕ
most_nodes = 16777216

-- the chip needs no more nodes than that
abbrev pub NeedsFewNodes : Chips → Entry → Type 0
NeedsFewNodes chips top = (tree : List PartIn) → IsTree chips top tree → node_count chips top tree ≤ most_nodes

-- the chip needs n nodes, which are too many; a number past 1,000,000,000 is given as that
pub record NeedsTooMany (chips : Chips) (top : Entry) (n : ℕ) : Type 0 where
  pub tree : List PartIn
  pub listed : IsTree chips top tree
  pub many : most_nodes < node_count chips top tree
  pub number : n ≡ capped_count (node_count chips top tree)

-- What is wrong with a chip: the first fault of the texts; if there is none, a loop; and if there is none, too many nodes. Want of memory says
-- nothing of the chip.
abbrev pub IsFaultOf : Chips → Entry → ElaborationFault → Type 0
IsFaultOf chips top faults.Memory = Unit {0}
IsFaultOf chips top (faults.Named f) = IsFirstFault chips (top.name ∷ []) top f
IsFaultOf chips top (faults.Loop nets) = HasNoFault chips top × IsLoop chips top nets
IsFaultOf chips top (faults.TooManyNodes n) = HasNoFault chips top × HasNoLoop chips top × NeedsTooMany chips top n

-- the chip of this name has that fault
abbrev pub TopIsFaulty : Chips → List ℕ → ElaborationFault → Type 0
TopIsFaulty chips name f = (top : Entry) → find_chip chips name ≡ Some top → IsFaultOf chips top f

-- nothing is wrong with the chip
pub record IsFine (chips : Chips) (top : Entry) : Type 0 where
  pub no_fault : HasNoFault chips top
  pub no_loop : HasNoLoop chips top
  pub few : NeedsFewNodes chips top

-- nothing is wrong with the chip of this name
abbrev pub TopIsFine : Chips → List ℕ → Type 0
TopIsFine chips name = (top : Entry) → find_chip chips name ≡ Some top → IsFine chips top
