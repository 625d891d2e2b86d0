-- The chip of a part, as it is looked for.
use Rattle.std.proofs.Common.{◌≡◌, ℕ, List, Option, Some, None, refl, ap, subst, ◌∙◌}
use Rattle.hdl_tree.specs.declared.tree.Part.{Part}
use Rattle.hdl_tree.specs.Chips.{Chips}
use Rattle.hdl_loops.specs.Inner.Knowing.{place_of, IsDone, PartDone}
use Rattle.hdl_loops.specs.declared.known.Known.{Known}

pub place_done : (chips : Chips) (known : List (Option Known)) (part : Part) (name : List ℕ) (k : ℕ) → name ≡ part.chip → Some k ≡ place_of chips.entries name → IsDone chips known k → PartDone chips known part
place_done chips known part name k named is done j placed =
    let e : Some k ≡ Some j = is ∙ (ap (place_of chips.entries) named ∙ placed) in
    let same : k ≡ j = cc in
    subst (IsDone chips known) same done

pub not_some : {A : Type 0} (o : Option A) → ((x : A) → o ≡ Some x → ⊥) → o ≡ None
not_some None h = refl
not_some (Some x) h = absurd (h x refl)
