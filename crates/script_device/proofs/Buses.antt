-- Buses node by node.
use Rattle.std.proofs.Common.{◌≡◌, ℕ, suc, ◌+◌, ◌<◌, List, [], ◌∷◌, ◌++◌, length, get_or, take, refl, ap, ◌∙◌, arith, add-one}
use Rattle.std.proofs.Math.Seq.{take-suc}
use Rattle.std.proofs.lemmas.List.{length-take}
use Rattle.word16.specs.Words.{has_bit}
use Rattle.netlist.specs.declared.node.Node.{Node}
use Rattle.netlist.specs.Histories.{rank}
use Rattle.gate_sim.specs.Calls.{Call, cycle_of, is_ticked}
use Rattle.gate_sim.specs.Calls.Call.{Set}
use Rattle.script_device.specs.Driven.{set_nodes}

-- one more node at the end is set last
set_behind : (all : List Node) (j word node : ℕ) (nodes : List ℕ) (calls : List Call) → set_nodes all j word (nodes ++ node ∷ []) calls ≡ Set (rank all node) (has_bit word (j + length nodes)) ∷ set_nodes all j word nodes calls
set_behind all j word node [] calls = let e : j + 0 ≡ j = omega arith in rw e refl
set_behind all j word node (x ∷ nodes) calls =
    let e : j + suc (length nodes) ≡ suc j + length nodes = omega arith in
    rw e (set_behind all (suc j) word node nodes (Set (rank all x) (has_bit word j) ∷ calls))

pub set_more : (all : List Node) (word : ℕ) (nodes : List ℕ) (k : ℕ) (calls : List Call) → k < length nodes → set_nodes all 0 word (take (k + 1) nodes) calls ≡ Set (rank all (get_or nodes k 0)) (has_bit word k) ∷ set_nodes all 0 word (take k nodes) calls
set_more all word nodes k calls h =
    let cut : take (k + 1) nodes ≡ take k nodes ++ get_or nodes k 0 ∷ [] = rw add-one (take-suc nodes k 0 h) in
    let long : 0 + length (take k nodes) ≡ k = omega (arith, length-take k nodes) in
    ap (λ t. set_nodes all 0 word t calls) cut ∙ set_behind all 0 word (get_or nodes k 0) (take k nodes) calls ∙ ap (λ n. Set (rank all (get_or nodes k 0)) (has_bit word n) ∷ set_nodes all 0 word (take k nodes) calls) long

-- a bus that is set changes nothing of the time
pub set_cycle : (all : List Node) (j word : ℕ) (nodes : List ℕ) (calls : List Call) → cycle_of (set_nodes all j word nodes calls) ≡ cycle_of calls
set_cycle all j word [] calls = refl
set_cycle all j word (node ∷ nodes) calls = set_cycle all (suc j) word nodes (Set (rank all node) (has_bit word j) ∷ calls)

pub set_ticked : (all : List Node) (j word : ℕ) (nodes : List ℕ) (calls : List Call) → is_ticked (set_nodes all j word nodes calls) ≡ is_ticked calls
set_ticked all j word [] calls = refl
set_ticked all j word (node ∷ nodes) calls = set_ticked all (suc j) word nodes (Set (rank all node) (has_bit word j) ∷ calls)
