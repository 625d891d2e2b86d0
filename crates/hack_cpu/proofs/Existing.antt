-- Shipped chips have behaviours, since they have no faults and no loops.
use Rattle.std.proofs.Common.{ℕ, zero, suc, ◌<◌, false, List, [], ◌∷◌, refl, arith}
use Rattle.std.specs.Prelude.{slice_index, codes}
use Rattle.std.specs.List.{All}
use Rattle.std.proofs.lemmas.List.Elements.{All-head, All-tail}
use Rattle.hdl_tree.specs.declared.ends.Memories.TheVariants.{Blocks}
use Rattle.hdl_check.specs.Whole.{chips_in}
use Rattle.hdl_plans.specs.Ways.{HasBit}
use Rattle.hdl_behaviours.specs.Existence.{HasBehaviour}
use Rattle.hdl_behaviours.proofs.Exists.{exists}
use Rattle.hdl_behaviours.proofs.Clean.{find_in}
use Rattle.chip_basic.specs.Hdl.{shipped_entry}
use Rattle.hack_cpu.specs.Trees.{computer_tree}
use Rattle.hack_cpu.specs.Library.{shipped_chips}
use Rattle.hack_cpu.specs.Computer.{outside}
use Rattle.hack_cpu.specs.Existence.{ExistenceLaw, RunsLaw}
use Rattle.hack_cpu.proofs.Faces.{faces}
use Rattle.hack_cpu.proofs.HasAll.{has_all}
use Rattle.hack_cpu.proofs.Shown.{no_fault, no_loop}

pub existing : ExistenceLaw
existing memories name entry found =
    let r = find_in shipped_chips name entry found in
    exists (chips_in shipped_chips memories) name entry (faces.ends memories) found (no_fault memories r.place entry r.there) (no_loop memories r.place entry r.there).no_loop

word_in : (image : List ℕ) (a : ℕ) → All (λ w. w < 65536) image → slice_index image a < 65536
word_in [] a h = omega arith
word_in (w ∷ ws) zero h = All-head (λ x. x < 65536) w ws h
word_in (w ∷ ws) (suc a) h = word_in ws a (All-tail (λ x. x < 65536) w ws h)

reset_bit : HasBit (shipped_entry computer_tree).chip.inputs (codes "reset") 0
unfolding computer_tree
reset_bit = record { width = 1; there = refl; below = omega arith }

pub runs : RunsLaw
runs image keys n words held =
    let b : HasBehaviour (outside image keys) (chips_in shipped_chips Blocks) (shipped_entry computer_tree) n (λ name bit c. false) =
    existing Blocks (codes "Computer") (shipped_entry computer_tree) (has_all Blocks).computer (outside image keys) (record { keys = held; words = λ a. word_in image a words }) n (λ name bit c. false) in
    record { wires = b.wires; behaves = b.behaves; no_reset = λ c. b.hears (codes "reset") 0 c reset_bit }
