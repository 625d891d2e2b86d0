-- What elaboration asks of the Computer among the shipped chips.
use Rattle.std.proofs.Common.{◌≡◌, ℕ, List, IsSome, refl, sym, subst}
use Rattle.std.specs.Prelude.{codes}
use Rattle.hdl_tree.specs.declared.library.Entry.{Entry}
use Rattle.hdl_tree.specs.declared.ends.Memories.{Memories}
use Rattle.hdl_tree.specs.declared.ends.Memories.TheVariants.{Blocks}
use Rattle.hdl_check.specs.Whole.{chips_in}
use Rattle.hdl_behaviours.proofs.Clean.{find_in}
use Rattle.hdl_flatten.specs.Flat.{NeedsFew}
use Rattle.hdl_elab.specs.declared.put.Elab.{Elab}
use Rattle.hdl_elab.specs.Elaborated.{IsElaborated, TopIsElaborated}
use Rattle.hack_cpu.specs.Library.{shipped_chips}
use Rattle.hack_cpu.proofs.Faces.{faces}
use Rattle.hack_cpu.proofs.HasAll.{has_all}
use Rattle.hack_cpu.proofs.Libraries.{ends_have_pins}
use Rattle.hack_cpu.proofs.Shown.{no_fault, no_loop}
use Rattle.gate_computer.specs.Computer.{chips, computer}
use Rattle.gate_computer.specs.Elaborated.{BuildableLaw, CanBeNet}
use Rattle.gate_computer.proofs.Counting.{nodes}

-- ---- how many nodes

few : (memories : Memories) → NeedsFew (chips_in shipped_chips memories) (codes "Computer")
few memories chip tree found is = let r = find_in shipped_chips (codes "Computer") chip found in (nodes.fine memories r.place chip r.there).few tree is

-- ---- all

pub can_be_net : BuildableLaw
can_be_net memories = record {
  distinct = faces.distinct;
  there = subst (λ o. IsSome o) (sym (has_all memories).computer) refl;
  faultless = λ entry found. let r = find_in shipped_chips (codes "Computer") entry found in no_fault memories r.place entry r.there;
  ends = ends_have_pins memories;
  few = few memories;
  no_loop = λ top found nets. let r = find_in shipped_chips (codes "Computer") top found in (no_loop memories r.place top r.there).no_loop nets;
}

-- the same of a library that has these chips, and of this name
pub built_of : (entries : List Entry) (name : List ℕ) → entries ≡ shipped_chips → name ≡ codes "Computer" → CanBeNet entries Blocks name
built_of entries name e f = subst (λ n. CanBeNet entries Blocks n) (sym f) (subst (λ es. CanBeNet es Blocks (codes "Computer")) (sym e) (can_be_net Blocks))

-- what is elaborated under this name is the Computer
pub computer_found : (entries : List Entry) (name : List ℕ) → entries ≡ shipped_chips → name ≡ codes "Computer" → (e : Elab) → TopIsElaborated (chips_in entries Blocks) name e → IsElaborated chips computer e
computer_found entries name same named e is =
    subst (λ n. TopIsElaborated (chips_in shipped_chips Blocks) n e) named (subst (λ es. TopIsElaborated (chips_in es Blocks) name e) same is) computer (has_all Blocks).computer
