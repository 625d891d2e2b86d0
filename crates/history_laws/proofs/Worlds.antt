-- The behaviours in a world.
use Rattle.std.proofs.Common.{ℕ, List, [], ◌∷◌, ◌++◌, Bool, true, false, Option, Some, None}
use Rattle.hdl_tree.specs.declared.library.Entry.{Entry}
use Rattle.hdl_tree.specs.declared.ends.End.{End}
use Rattle.hdl_tree.specs.declared.ends.End.TheVariants as ends
use Rattle.hdl_tree.specs.Chips.{Chips, end_of}
use Rattle.hdl_tree.specs.Behaviour.{ChipWired, EndWorks, Histories, Wires, World}
use Rattle.history_laws.specs.Environment.{EndActs}
use Rattle.history_laws.specs.Laws.{WorldLaw, everywhere}

module _ (world : World) (path : List ℕ) (c : ℕ) (w : Histories) where
  acts_by : (e : End) → EndWorks world c e w → EndActs (everywhere world) path c e w
  acts_by ends.Nand h = h
  acts_by ends.Dff h = h
  acts_by ends.Keyboard h = h
  acts_by ends.Rom h = h
  acts_by (ends.Block bits) h = h

  works_by : (e : End) → EndActs (everywhere world) path c e w → EndWorks world c e w
  works_by ends.Nand h = h
  works_by ends.Dff h = h
  works_by ends.Keyboard h = h
  works_by ends.Rom h = h
  works_by (ends.Block bits) h = h

-- ends that do the same work
rewired : (chips : Chips) (chip : Entry) (o : Option End) (wires : Wires Bool) (inside : ℕ → Wires Bool) (P Q : End → Type 0) → ((e : End) → P e → Q e) → ChipWired false true chips chip o wires inside P → ChipWired false true chips chip o wires inside Q
rewired chips chip None wires inside P Q go h = h
rewired chips chip (Some e) wires inside P Q go h = go e h

pub worlds : WorldLaw
worlds world chips top n wires = (
  λ h c lt path chip there. rewired chips chip (end_of chips.memories chip) (λ name bit. wires path name bit c) (λ i name bit. wires (path ++ i ∷ []) name bit c) (λ e. EndWorks world c e (wires path)) (λ e. EndActs (everywhere world) path c e (wires path)) (acts_by world path c (wires path)) (h c lt path chip there),
  λ h c lt path chip there. rewired chips chip (end_of chips.memories chip) (λ name bit. wires path name bit c) (λ i name bit. wires (path ++ i ∷ []) name bit c) (λ e. EndActs (everywhere world) path c e (wires path)) (λ e. EndWorks world c e (wires path)) (works_by world path c (wires path)) (h c lt path chip there),
)
