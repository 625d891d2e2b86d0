-- How many nodes a chip needs, as the code counts it.
use Rattle.std.proofs.Common.{◌≡◌, ℕ, ◌<◌, ◌≤◌, List, Some, ap, arith}
use Rattle.hdl_tree.specs.declared.library.Entry.{Entry}
use Rattle.hdl_tree.specs.Chips.{Chips, find_chip}
use Rattle.hdl_check.specs.Whole.{TopIsFaultless}
use Rattle.hdl_flatten.specs.declared.size.Size.{Size}
use Rattle.hdl_flatten.specs.Trees.{node_count, capped_count, HasSize}
use Rattle.hdl_flatten.specs.Flat.{NeedsFew}
use Rattle.hdl_elab.specs.Sound.{TopHasNoLoop}
use Rattle.hdl_elab.specs.Faults.{TopIsFaulty, TopIsFine}
use Rattle.hdl_elab.specs.declared.fault.ElaborationFault.TheVariants.{TooManyNodes}
use Rattle.hdl_elab.proofs.Trees.{one_tree}

-- what count says of the chip of this name
abbrev pub TopHasSize : Chips → List ℕ → Size → Type 0
TopHasSize chips name size = (chip : Entry) → find_chip chips name ≡ Some chip → HasSize chips chip size

told_few : (n m : ℕ) → m ≡ capped_count n → m ≤ 16777216 → n ≤ 16777216
told_few n m e le = omega (arith, e, le)

told_many : (n m : ℕ) → m ≡ capped_count n → 16777216 < m → 16777216 < n
told_many n m e lt = omega (arith, e, lt)

pub few : (chips : Chips) (name : List ℕ) (size : Size) → TopHasSize chips name size → size.nodes ≤ 16777216 → NeedsFew chips name
few chips name size has le chip tree found listed =
    let h = has chip found in
    let same = one_tree chips chip tree h.tree listed h.listed in
    let number = ap (node_count chips chip) same in
    let small = told_few (node_count chips chip h.tree) size.nodes h.nodes le in
    omega (arith, number, small)

pub many : (chips : Chips) (name : List ℕ) (size : Size) → TopHasSize chips name size → 16777216 < size.nodes → TopIsFaultless chips name → TopHasNoLoop chips name → TopIsFaulty chips name (TooManyNodes size.nodes)
many chips name size has lt fine no_loop top found =
    let h = has top found in
    (fine top found, no_loop top found, record { tree = h.tree; listed = h.listed; many = told_many (node_count chips top h.tree) size.nodes h.nodes lt; number = h.nodes })

pub all_fine : (chips : Chips) (name : List ℕ) → TopIsFaultless chips name → TopHasNoLoop chips name → NeedsFew chips name → TopIsFine chips name
all_fine chips name fine no_loop less top found = record { no_fault = fine top found; no_loop = no_loop top found; few = λ tree listed. less top tree found listed }
