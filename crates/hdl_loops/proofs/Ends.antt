-- An end has no circle of its own, and its out depends only on the inputs that reach it.
use Rattle.std.proofs.Common.{◌≡◌, ℕ, Bool, true, false, List, [], ◌∷◌, Option, Some, None, refl, sym, ap, subst, ◌∙◌}
use Rattle.std.specs.Prelude.{slice_get, codes, ◌&&◌}
use Rattle.std.specs.Cmp.Lexicographic.{bytes_decides}
use Rattle.hdl_tree.specs.declared.tree.Part.{Part}
use Rattle.hdl_tree.specs.declared.library.Entry.{Entry}
use Rattle.hdl_tree.specs.declared.ends.End.{End}
use Rattle.hdl_tree.specs.declared.ends.End.TheVariants as ends
use Rattle.hdl_tree.specs.Chips.{Chips, end_of, parts_of, parts_of_body, parts_unless}
use Rattle.hdl_tree.specs.Behaviour.{chip_of}
use Rattle.hdl_plans.specs.Loops.{BitAt, bit_at, reaches_out}
use Rattle.hdl_plans.specs.Ways.{Chain, JointsFit, Joined, EndReaches, Own, OwnAt, OwnCircle, Depends}
use Rattle.hdl_plans.proofs.Circles.{own_way}
use Rattle.hdl_plans.proofs.Walks.{at_part}
use Rattle.hdl_loops.specs.Inner.Knowing.{TreeClear, end_crosses}

out_is_none : (e : End) → reaches_out e (codes "out") ≡ false
out_is_none ends.Nand = refl
out_is_none ends.Dff = refl
out_is_none ends.Keyboard = refl
out_is_none ends.Rom = refl
out_is_none (ends.Block bits) = refl

and_true : (a b : Bool) → a ≡ true → b ≡ true → (a && b) ≡ true
and_true true b e f = f
and_true false b e f = absurd cc

module _ (chips : Chips) (chip : Entry) (e : End) (is : end_of chips.memories chip ≡ Some e) where
  no_part : (i : ℕ) (part : Part) → slice_get (parts_of chips chip) i ≡ Some part → ⊥
  no_part i part h =
      let none : parts_of chips chip ≡ [] = ap (λ o. parts_unless o (parts_of_body chip.chip.body)) is in
      let f : slice_get [] i ≡ Some part = ap (λ (ps : List Part). slice_get ps i) (sym none) ∙ h in
      cc

  no_joint : (i : ℕ) (input : Bool) (x y : BitAt) → Joined chips chip i input x y → ⊥
  no_joint i input x y f =
      let j = f.joint in
      let same : chip ≡ j.chip = cc (j.at) in
      no_part i j.part (ap (λ c. slice_get (parts_of chips c) i) same ∙ j.there)

  no_inner : (i : ℕ) (inner : Entry) (o : Option Part) → slice_get (parts_of chips chip) i ≡ o → chip_of chips o ≡ Some inner → ⊥
  no_inner i inner None g h = cc
  no_inner i inner (Some part) g h = no_part i part g

  -- a step of an end's own graph is its work
  works_at : (p q n : List ℕ) (b : ℕ) (m : List ℕ) (k : ℕ) → OwnAt chips chip p q n b m k → EndReaches chips chip n m
  works_at [] [] n b m k f = f
  works_at [] (i ∷ []) n b m k f = absurd (no_joint i true (bit_at [] n b) (bit_at (i ∷ []) m k) f)
  works_at [] (i ∷ j ∷ q) n b m k f = absurd f
  works_at (i ∷ []) [] n b m k f = absurd (no_joint i false (bit_at [] m k) (bit_at (i ∷ []) n b) f)
  works_at (i ∷ []) (j ∷ []) n b m k f = absurd (no_inner i f.inner (slice_get (parts_of chips chip) i) refl f.found)
  works_at (i ∷ []) (j ∷ l ∷ q) n b m k f = absurd f
  works_at (i ∷ l ∷ p) q n b m k f = absurd f

  one_works : (x y : BitAt) → Own chips chip x y → reaches_out e x.name ≡ true
  one_works x y f =
      let w = works_at x.path y.path x.name x.bit y.name y.bit f in
      let same : w.e ≡ e = cc (w.is, is) in
      ap (λ v. reaches_out v x.name) (sym same) ∙ w.reaches

  first_works : (ms : List BitAt) (x y : BitAt) → Chain (Own chips chip) x ms y → reaches_out e x.name ≡ true
  first_works [] x y f = one_works x y f
  first_works (m ∷ ms) x y f = one_works x m f.0

  last_named : (ms : List BitAt) (x y : BitAt) → Chain (Own chips chip) x ms y → y.name ≡ codes "out"
  last_named [] x y f = (works_at x.path y.path x.name x.bit y.name y.bit f).named
  last_named (m ∷ ms) x y f = last_named ms m y f.1

  no_joints : JointsFit chips chip
  no_joints i conn w t input j = absurd (let same : chip ≡ j.chip = cc (j.at) in no_part i j.part (ap (λ c. slice_get (parts_of chips c) i) same ∙ j.there))

  out_apart : (n : List ℕ) → reaches_out e n ≡ true → n ≡ codes "out" → ⊥
  out_apart n h f = let g : true ≡ false = sym h ∙ (ap (reaches_out e) f ∙ out_is_none e) in absurd cc

  no_circle : OwnCircle chips chip → ⊥
  no_circle c =
      let x = bit_at [] c.name c.bit in
      out_apart c.name (first_works c.way.over x x c.way.steps) (last_named c.way.over x x c.way.steps)

  pub end_clear : TreeClear chips chip
  end_clear [] c at circle = let same : c ≡ chip = cc in no_circle (subst (OwnCircle chips) same circle)
  end_clear (i ∷ q) c at circle = let a = at_part chips chip i q c at in no_inner i a.inner (slice_get (parts_of chips chip) i) refl a.found

  pub end_depends : (n m : List ℕ) (b k : ℕ) → Depends chips chip n b m k → end_crosses e (bit_at [] n b) (bit_at [] m k) ≡ true
  end_depends n m b k d =
      let w = own_way chips chip no_joints n m b k d.way in
      let x = bit_at [] n b in
      let y = bit_at [] m k in
      and_true (reaches_out e n) _ (first_works w.over x y w.steps) ((bytes_decides m (codes "out")).1 (last_named w.over x y w.steps))
