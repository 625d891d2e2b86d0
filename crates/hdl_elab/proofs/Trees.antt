-- A chip has one tree, in which each part in the chip stands.
use Rattle.std.proofs.Common.{◌≡◌, ℕ, zero, suc, ◌+◌, List, [], ◌∷◌, ◌++◌, Option, Some, None, refl, sym, ap, ap₂, subst, ◌∙◌, arith}
use Rattle.std.specs.Prelude.{slice_get}
use Rattle.std.specs.Option.{option_map}
use Rattle.std.proofs.lemmas.Option.{slice_get-map}
use Rattle.hdl_tree.specs.declared.tree.Part.{Part}
use Rattle.hdl_tree.specs.declared.library.Entry.{Entry}
use Rattle.hdl_tree.specs.Chips.{Chips, find_chip, parts_of}
use Rattle.hdl_tree.specs.Behaviour.{chip_at, chip_of}
use Rattle.hdl_plans.proofs.Walks.{at_part}
use Rattle.hdl_flatten.specs.Trees.{PartIn, AreListed, none, next, IsTree, within}

module _ (chips : Chips) where
  record IsNext (i : ℕ) (part : Part) (parts : List Part) (listed : List PartIn) : Type 0 where
    chip : Entry
    inner : List PartIn
    others : List PartIn
    found : find_chip chips part.chip ≡ Some chip
    inside : AreListed chips 0 (parts_of chips chip) inner
    behind : AreListed chips (suc i) parts others
    is : listed ≡ record { path = i ∷ []; chip = chip } ∷ (within i inner ++ others)

  next_of : (i : ℕ) (part : Part) (parts : List Part) (listed : List PartIn) → AreListed chips i (part ∷ parts) listed → IsNext i part parts listed
  next_of i part parts listed (next {chip = chip} {inner = inner} {others = others} found inside behind) = record { chip = chip; inner = inner; others = others; found = found; inside = inside; behind = behind; is = refl }

  none_of : (i : ℕ) (listed : List PartIn) → AreListed chips i [] listed → listed ≡ []
  none_of i listed none = refl

  one_list : (i : ℕ) (parts : List Part) (a b : List PartIn) → AreListed chips i parts a → AreListed chips i parts b → a ≡ b
  one_list i parts a b none h = sym (none_of i b h)
  one_list i parts a b (next {i = j} {part = part} {parts = others} {chip = chip} {inner = inner} {others = rest} found inside behind) h =
      let n = next_of i part others b h in
      let one : Some n.chip ≡ Some chip = sym n.found ∙ found in
      let same : n.chip ≡ chip = cc in
      let there = subst (λ (x : Entry). AreListed chips 0 (parts_of chips x) n.inner) same n.inside in
      ap₂ (λ (x y : List PartIn). record { path = i ∷ []; chip = chip } ∷ (within i x ++ y)) (one_list 0 (parts_of chips chip) inner n.inner inside there) (one_list (suc i) others rest n.others behind n.behind)
      ∙ ap (λ (x : Entry). record { path = i ∷ []; chip = x } ∷ (within i n.inner ++ n.others)) (sym same)
      ∙ sym n.is

pub one_tree : (chips : Chips) (chip : Entry) (a b : List PartIn) → IsTree chips chip a → IsTree chips chip b → a ≡ b
one_tree chips chip a b = one_list chips 0 (parts_of chips chip) a b

-- ---- items of lists

pub record Stands {X : Type 0} (xs : List X) (x : X) : Type 0 where
  pub k : ℕ
  pub there : slice_get xs k ≡ Some x

pub stands_left : {X : Type 0} (xs ys : List X) (k : ℕ) (x : X) → slice_get xs k ≡ Some x → slice_get (xs ++ ys) k ≡ Some x
stands_left [] ys k x e = absurd cc
stands_left (y ∷ xs) ys zero x e = e
stands_left (y ∷ xs) ys (suc k) x e = stands_left xs ys k x e

pub stands_right : {X : Type 0} (xs ys : List X) (x : X) → Stands ys x → Stands (xs ++ ys) x
stands_right [] ys x s = s
stands_right (y ∷ xs) ys x s = let r = stands_right xs ys x s in record { k = suc r.k; there = r.there }

abbrev pub part_in : List ℕ → Entry → PartIn
part_in path chip = record { path = path; chip = chip }

-- ---- each part in a chip stands in the chip's tree

record IsPartOf (chips : Chips) (o : Option Part) (inner : Entry) : Type 0 where
  part : Part
  there : o ≡ Some part
  found : find_chip chips part.chip ≡ Some inner

part_of : (chips : Chips) (o : Option Part) (inner : Entry) → chip_of chips o ≡ Some inner → IsPartOf chips o inner
part_of chips None inner e = absurd cc
part_of chips (Some part) inner e = record { part = part; there = refl; found = e }

module _ (chips : Chips) where
  deeper : (i l : ℕ) (r : List ℕ) (chip c : Entry) (inner others : List PartIn) → Stands inner (record { path = (0 + l) ∷ r; chip = chip }) → Stands (record { path = i ∷ []; chip = c } ∷ (within i inner ++ others)) (record { path = (i + 0) ∷ l ∷ r; chip = chip })
  deeper i l r chip c inner others s =
      let first : i ≡ i + 0 = omega arith in
      let second : 0 + l ≡ l = omega arith in
      let moved : slice_get (within i inner) s.k ≡ Some (record { path = i ∷ (0 + l) ∷ r; chip = chip }) =
      slice_get-map (λ (p : PartIn). record { path = i ∷ p.path; chip = p.chip }) inner s.k ∙ ap (option_map (λ (p : PartIn). record { path = i ∷ p.path; chip = p.chip })) s.there in
      let same : Some (part_in (i ∷ (0 + l) ∷ r) chip) ≡ Some (part_in ((i + 0) ∷ l ∷ r) chip) = ap (λ (x : ℕ). Some (record { path = x ∷ (0 + l) ∷ r; chip = chip })) first ∙ ap (λ (x : ℕ). Some (record { path = (i + 0) ∷ x ∷ r; chip = chip })) second in
      record { k = suc s.k; there = stands_left (within i inner) others s.k (part_in (i ∷ (0 + l) ∷ r) chip) moved ∙ same }

  in_list : (i : ℕ) (parts : List Part) (listed : List PartIn) → AreListed chips i parts listed → (j : ℕ) (rest : List ℕ) (part : Part) (inner chip : Entry) → slice_get parts j ≡ Some part → find_chip chips part.chip ≡ Some inner → chip_at chips inner rest ≡ Some chip → Stands listed (record { path = (i + j) ∷ rest; chip = chip })
  in_list i parts listed none j rest part inner chip there found at = absurd cc
  in_list i parts listed (next {part = p} {parts = ps} {chip = c} {inner = x} {others = y} f inside behind) zero [] part inner chip there found at =
      let same : p ≡ part = cc in
      let one : Some c ≡ Some inner = sym f ∙ ap (λ (q : Part). find_chip chips q.chip) same ∙ found in
      let same_chip : c ≡ chip = cc in
      let first : i ≡ i + 0 = omega arith in
      let by_chip : Some (part_in (i ∷ []) c) ≡ Some (part_in (i ∷ []) chip) = ap (λ (z : Entry). Some (part_in (i ∷ []) z)) same_chip in
      let by_path : Some (part_in (i ∷ []) chip) ≡ Some (part_in ((i + 0) ∷ []) chip) = ap (λ (z : ℕ). Some (part_in (z ∷ []) chip)) first in
      record { k = 0; there = by_chip ∙ by_path }
  in_list i parts listed (next {part = p} {parts = ps} {chip = c} {inner = x} {others = y} f inside behind) zero (l ∷ r) part inner chip there found at =
      let same : p ≡ part = cc in
      let one : Some c ≡ Some inner = sym f ∙ ap (λ (q : Part). find_chip chips q.chip) same ∙ found in
      let same_chip : c ≡ inner = cc in
      let a = at_part chips inner l r chip at in
      let b = part_of chips (slice_get (parts_of chips inner) l) a.inner a.found in
      let here = ap (λ (z : Entry). slice_get (parts_of chips z) l) same_chip ∙ b.there in
      deeper i l r chip c x y (in_list 0 (parts_of chips c) x inside l r b.part a.inner chip here b.found a.rest)
  in_list i parts listed (next {part = p} {parts = ps} {chip = c} {inner = x} {others = y} f inside behind) (suc j) rest part inner chip there found at =
      let s = stands_right (within i x) y _ (in_list (suc i) ps y behind j rest part inner chip there found at) in
      let first : suc i + j ≡ i + suc j = omega arith in
      record { k = suc s.k; there = s.there ∙ ap (λ (z : ℕ). Some (record { path = z ∷ rest; chip = chip })) first }

  pub in_tree : (top chip : Entry) (tree : List PartIn) (l : ℕ) (r : List ℕ) → AreListed chips 0 (parts_of chips top) tree → chip_at chips top (l ∷ r) ≡ Some chip → Stands tree (record { path = l ∷ r; chip = chip })
  in_tree top chip tree l r listed at =
      let a = at_part chips top l r chip at in
      let b = part_of chips (slice_get (parts_of chips top) l) a.inner a.found in
      let s = in_list 0 (parts_of chips top) tree listed l r b.part a.inner chip b.there b.found a.rest in
      let first : 0 + l ≡ l = omega arith in
      record { k = s.k; there = s.there ∙ ap (λ (z : ℕ). Some (record { path = z ∷ r; chip = chip })) first }
