-- The size of a plan is that of the chip's tree.
use Rattle.std.proofs.Common.{◌≡◌, ℕ, zero, suc, ◌<◌, List, [], ◌∷◌, Some, refl, ap, ◌∙◌, arith}
use Rattle.std.specs.Prelude.{slice_get}
use Rattle.hdl_tree.specs.declared.tree.Part.{Part}
use Rattle.hdl_tree.specs.Chips.{Chips, end_of, parts_of}
use Rattle.hdl_flatten.specs.declared.size.Size.{Size}
use Rattle.hdl_flatten.specs.declared.plan.Plan.{Plan}
use Rattle.hdl_flatten.specs.Trees.{none}
use Rattle.hdl_flatten.specs.Inner.Sizes.{joined_size, IsSmall, IsSizeOf}
use Rattle.hdl_flatten.specs.Inner.Plans.{HavePlans, IsPlanned, ArePlans, all_sized, own_size, places}
use Rattle.hdl_flatten.proofs.Sizing.{IsJoined, in_front, told_small, end_small}

module _ (chips : Chips) (plans : List Plan) (i : ℕ) (sized : (r : ℕ) (x : Plan) → r < i → slice_get plans r ≡ Some x → IsSizeOf chips x.entry.now x.size) where
  join_plans : (k : ℕ) (ps : List Part) (xs : List Plan) (rs : List ℕ) (size : Size) → HavePlans chips plans i ps xs rs → IsSmall size → IsJoined chips k ps size (all_sized size xs)
  join_plans k [] [] [] size h small = record { tree = []; listed = none; nodes = omega (arith, small.0); parts_are = omega (arith, small.1) }
  join_plans k [] [] (r ∷ rs) size h small = absurd h
  join_plans k [] (x ∷ xs) rs size h small = absurd h
  join_plans k (p ∷ ps) [] rs size h small = absurd h
  join_plans k (p ∷ ps) (x ∷ xs) [] size h small = absurd h
  join_plans k (p ∷ ps) (x ∷ xs) (r ∷ rs) size h small =
      in_front chips k p ps size x.size (all_sized size (x ∷ xs)) (all_sized (joined_size size x.size) xs) x.entry.now h.0.found (sized r x h.0.before h.0.at) (join_plans (suc k) ps xs rs (joined_size size x.size) h.1 (told_small _, told_small _)) refl

module _ (chips : Chips) (plans : List Plan) (planned : ArePlans chips plans) where
  sized_below : (d i : ℕ) (plan : Plan) → i < d → slice_get plans i ≡ Some plan → IsSizeOf chips plan.entry.now plan.size
  sized_below zero i plan lt at = absurd (omega (arith, lt))
  sized_below (suc d) i plan lt at =
      let p : IsPlanned chips plans i plan = planned i plan at in
      let few = end_small (end_of chips.memories plan.entry.now) in
      let j = join_plans chips plans i (λ r x below there. sized_below d r x (omega (arith, below, lt)) there) 0 (parts_of chips plan.entry.now) p.inner (places plan.parts.items) (own_size chips plan.entry.now) p.placed (omega (arith, few), omega arith) in
      record {
        tree = j.tree;
        listed = j.listed;
        nodes = ap (λ (z : Size). z.nodes) p.size ∙ j.nodes;
        parts = ap (λ (z : Size). z.parts) p.size ∙ j.parts_are ∙ omega arith;
      }

  pub plan_sized : (i : ℕ) (plan : Plan) → slice_get plans i ≡ Some plan → IsSizeOf chips plan.entry.now plan.size
  plan_sized i plan at = sized_below (suc i) i plan (omega arith) at
