-- What the chips of single bits do in one cycle.
use Rattle.std.proofs.Common.{◌≡◌, ℕ, Bool, true, false, cond, List, [], ◌∷◌, refl, ◌∙◌, lit<}
use Rattle.std.specs.Prelude.{not, ◌&&◌, ◌||◌, codes}
use Rattle.hdl_tree.specs.Chips.{Chips, end_of}
use Rattle.hdl_tree.specs.Behaviour.{Histories, World, Works}
use Rattle.chip_basic.proofs.Inside.{part_of}
use Rattle.chip_basic.specs.Hdl.{shipped_entry}
use Rattle.chip_basic.specs.Laws.{xor}
use Rattle.chip_basic.specs.Trees.{HasBasicChips, nand_tree, not_tree, and_tree, or_tree, xor_tree, mux_tree, dmux_tree}

-- ---- on bits

abbrev pub nand : Bool → Bool → Bool
nand x y = not (x && y)

nand-not : (x : Bool) → nand x x ≡ not x
nand-not true = refl
nand-not false = refl

not-nand : (x y : Bool) → not (nand x y) ≡ (x && y)
not-nand true true = refl
not-nand true false = refl
not-nand false y = refl

nand-or : (x y : Bool) → nand (not x) (not y) ≡ (x || y)
nand-or true y = refl
nand-or false true = refl
nand-or false false = refl

nand-xor : (x y : Bool) → nand (nand x (nand x y)) (nand (nand x y) y) ≡ xor x y
nand-xor true true = refl
nand-xor true false = refl
nand-xor false true = refl
nand-xor false false = refl

nand-mux : (x y s : Bool) → nand (nand x (not s)) (nand y s) ≡ cond s y x
nand-mux true true true = refl
nand-mux true true false = refl
nand-mux true false true = refl
nand-mux true false false = refl
nand-mux false true true = refl
nand-mux false true false = refl
nand-mux false false true = refl
nand-mux false false false = refl

-- ---- chips

module _ (world : World) (library : Chips) (has : HasBasicChips library) (c : ℕ) where
  pub nand_works : (w : List ℕ → Histories) → Works world c library (shipped_entry nand_tree) w → w [] (codes "out") 0 c ≡ nand (w [] (codes "a") 0 c) (w [] (codes "b") 0 c)
  unfolding end_of nand_tree
  nand_works w h = h [] (shipped_entry nand_tree) refl

  pub not_works : (w : List ℕ → Histories) → Works world c library (shipped_entry not_tree) w → w [] (codes "out") 0 c ≡ not (w [] (codes "in") 0 c)
  unfolding end_of not_tree nand_tree
  not_works w h =
      let p = part_of world c library (shipped_entry not_tree) w h 0 _ (shipped_entry nand_tree) refl has.nand in
      let j = p.outside.joined in
      let e = nand_works (λ path. w (0 ∷ path)) p.inside in
      cc (e, j.0 0 (lit< tt), j.1.0 0 (lit< tt), j.1.1.0 0 (lit< tt), nand-not (w [] (codes "in") 0 c))

  pub and_works : (w : List ℕ → Histories) → Works world c library (shipped_entry and_tree) w → w [] (codes "out") 0 c ≡ (w [] (codes "a") 0 c && w [] (codes "b") 0 c)
  unfolding end_of and_tree not_tree nand_tree
  and_works w h =
      let p = part_of world c library (shipped_entry and_tree) w h 0 _ (shipped_entry nand_tree) refl has.nand in
      let q = part_of world c library (shipped_entry and_tree) w h 1 _ (shipped_entry not_tree) refl has.not in
      let j = p.outside.joined in
      let k = q.outside.joined in
      cc (nand_works (λ path. w (0 ∷ path)) p.inside, not_works (λ path. w (1 ∷ path)) q.inside, j.0 0 (lit< tt), j.1.0 0 (lit< tt), j.1.1.0 0 (lit< tt), k.0 0 (lit< tt), k.1.0 0 (lit< tt), not-nand (w [] (codes "a") 0 c) (w [] (codes "b") 0 c))

  pub or_works : (w : List ℕ → Histories) → Works world c library (shipped_entry or_tree) w → w [] (codes "out") 0 c ≡ (w [] (codes "a") 0 c || w [] (codes "b") 0 c)
  unfolding end_of or_tree not_tree nand_tree
  or_works w h =
      let p = part_of world c library (shipped_entry or_tree) w h 0 _ (shipped_entry not_tree) refl has.not in
      let q = part_of world c library (shipped_entry or_tree) w h 1 _ (shipped_entry not_tree) refl has.not in
      let r = part_of world c library (shipped_entry or_tree) w h 2 _ (shipped_entry nand_tree) refl has.nand in
      let j = p.outside.joined in
      let k = q.outside.joined in
      let l = r.outside.joined in
      cc (not_works (λ path. w (0 ∷ path)) p.inside, not_works (λ path. w (1 ∷ path)) q.inside, nand_works (λ path. w (2 ∷ path)) r.inside, j.0 0 (lit< tt), j.1.0 0 (lit< tt), k.0 0 (lit< tt), k.1.0 0 (lit< tt), l.0 0 (lit< tt), l.1.0 0 (lit< tt), l.1.1.0 0 (lit< tt), nand-or (w [] (codes "a") 0 c) (w [] (codes "b") 0 c))

  pub xor_works : (w : List ℕ → Histories) → Works world c library (shipped_entry xor_tree) w → w [] (codes "out") 0 c ≡ xor (w [] (codes "a") 0 c) (w [] (codes "b") 0 c)
  unfolding end_of xor_tree nand_tree
  xor_works w h =
      let p = part_of world c library (shipped_entry xor_tree) w h 0 _ (shipped_entry nand_tree) refl has.nand in
      let q = part_of world c library (shipped_entry xor_tree) w h 1 _ (shipped_entry nand_tree) refl has.nand in
      let r = part_of world c library (shipped_entry xor_tree) w h 2 _ (shipped_entry nand_tree) refl has.nand in
      let s = part_of world c library (shipped_entry xor_tree) w h 3 _ (shipped_entry nand_tree) refl has.nand in
      let i = p.outside.joined in
      let j = q.outside.joined in
      let k = r.outside.joined in
      let l = s.outside.joined in
      cc (nand_works (λ path. w (0 ∷ path)) p.inside, nand_works (λ path. w (1 ∷ path)) q.inside, nand_works (λ path. w (2 ∷ path)) r.inside, nand_works (λ path. w (3 ∷ path)) s.inside, i.0 0 (lit< tt), i.1.0 0 (lit< tt), i.1.1.0 0 (lit< tt), j.0 0 (lit< tt), j.1.0 0 (lit< tt), j.1.1.0 0 (lit< tt), k.0 0 (lit< tt), k.1.0 0 (lit< tt), k.1.1.0 0 (lit< tt), l.0 0 (lit< tt), l.1.0 0 (lit< tt), l.1.1.0 0 (lit< tt), nand-xor (w [] (codes "a") 0 c) (w [] (codes "b") 0 c))

  pub mux_works : (w : List ℕ → Histories) → Works world c library (shipped_entry mux_tree) w → w [] (codes "out") 0 c ≡ cond (w [] (codes "sel") 0 c) (w [] (codes "b") 0 c) (w [] (codes "a") 0 c)
  unfolding end_of mux_tree not_tree nand_tree
  mux_works w h =
      let p = part_of world c library (shipped_entry mux_tree) w h 0 _ (shipped_entry not_tree) refl has.not in
      let q = part_of world c library (shipped_entry mux_tree) w h 1 _ (shipped_entry nand_tree) refl has.nand in
      let r = part_of world c library (shipped_entry mux_tree) w h 2 _ (shipped_entry nand_tree) refl has.nand in
      let s = part_of world c library (shipped_entry mux_tree) w h 3 _ (shipped_entry nand_tree) refl has.nand in
      let i = p.outside.joined in
      let j = q.outside.joined in
      let k = r.outside.joined in
      let l = s.outside.joined in
      cc (not_works (λ path. w (0 ∷ path)) p.inside, nand_works (λ path. w (1 ∷ path)) q.inside, nand_works (λ path. w (2 ∷ path)) r.inside, nand_works (λ path. w (3 ∷ path)) s.inside, i.0 0 (lit< tt), i.1.0 0 (lit< tt), j.0 0 (lit< tt), j.1.0 0 (lit< tt), j.1.1.0 0 (lit< tt), k.0 0 (lit< tt), k.1.0 0 (lit< tt), k.1.1.0 0 (lit< tt), l.0 0 (lit< tt), l.1.0 0 (lit< tt), l.1.1.0 0 (lit< tt), nand-mux (w [] (codes "a") 0 c) (w [] (codes "b") 0 c) (w [] (codes "sel") 0 c))

  pub dmux_a : (w : List ℕ → Histories) → Works world c library (shipped_entry dmux_tree) w → w [] (codes "a") 0 c ≡ (w [] (codes "in") 0 c && not (w [] (codes "sel") 0 c))
  unfolding end_of dmux_tree not_tree and_tree
  dmux_a w h =
      let p = part_of world c library (shipped_entry dmux_tree) w h 0 _ (shipped_entry not_tree) refl has.not in
      let q = part_of world c library (shipped_entry dmux_tree) w h 1 _ (shipped_entry and_tree) refl has.and in
      let j = p.outside.joined in
      let k = q.outside.joined in
      cc (not_works (λ path. w (0 ∷ path)) p.inside, and_works (λ path. w (1 ∷ path)) q.inside, j.0 0 (lit< tt), j.1.0 0 (lit< tt), k.0 0 (lit< tt), k.1.0 0 (lit< tt), k.1.1.0 0 (lit< tt))

  pub dmux_b : (w : List ℕ → Histories) → Works world c library (shipped_entry dmux_tree) w → w [] (codes "b") 0 c ≡ (w [] (codes "in") 0 c && w [] (codes "sel") 0 c)
  unfolding end_of dmux_tree not_tree and_tree
  dmux_b w h =
      let q = part_of world c library (shipped_entry dmux_tree) w h 2 _ (shipped_entry and_tree) refl has.and in
      let k = q.outside.joined in
      cc (and_works (λ path. w (2 ∷ path)) q.inside, k.0 0 (lit< tt), k.1.0 0 (lit< tt), k.1.1.0 0 (lit< tt))

  in_way_a : (i s : Bool) → (i && not s) ≡ cond s false i
  in_way_a true true = refl
  in_way_a true false = refl
  in_way_a false true = refl
  in_way_a false false = refl

  in_way_b : (i s : Bool) → (i && s) ≡ cond s i false
  in_way_b true true = refl
  in_way_b true false = refl
  in_way_b false true = refl
  in_way_b false false = refl

  pub dmux_works : (w : List ℕ → Histories) → Works world c library (shipped_entry dmux_tree) w → (w [] (codes "a") 0 c ≡ cond (w [] (codes "sel") 0 c) false (w [] (codes "in") 0 c)) × (w [] (codes "b") 0 c ≡ cond (w [] (codes "sel") 0 c) (w [] (codes "in") 0 c) false)
  dmux_works w h = (dmux_a w h ∙ in_way_a (w [] (codes "in") 0 c) (w [] (codes "sel") 0 c), dmux_b w h ∙ in_way_b (w [] (codes "in") 0 c) (w [] (codes "sel") 0 c))
