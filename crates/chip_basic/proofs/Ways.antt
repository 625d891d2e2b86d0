-- Chips that choose one of several ways by a number.
use Rattle.std.proofs.Common.{◌≡◌, ℕ, zero, suc, ◌+◌, ◌<◌, Bool, true, false, cond, eqb, List, [], ◌∷◌, Some, None, refl, sym, ap, ◌∙◌, subst, arith, lit<, add-zero, ◌≢◌, ne_eqb}
use Rattle.std.proofs.lemmas.Bool.Decides.{nat_tests}
use Rattle.std.specs.Prelude.{not, ◌&&◌, ◌||◌, codes}
use Rattle.hdl_tree.specs.Memory.{number}
use Rattle.hdl_tree.specs.Chips.{Chips, end_of}
use Rattle.hdl_tree.specs.Behaviour.{Histories, World, Works}
use Rattle.hdl_tree.specs.declared.tree.Part.{Part}
use Rattle.hdl_tree.specs.declared.tree.Subscript.TheVariants.{Bit}
use Rattle.chip_basic.specs.Hdl.{letter, shipped_entry, connect, part_named, wire_bit, wire_bits}
use Rattle.chip_basic.specs.Laws.{some_bit, GoesWay, TakesWay}
use Rattle.chip_basic.specs.Trees.{HasBasicChips, or_tree, dmux_tree, dmux4way_tree, dmux8way_tree, mux16_tree, or8way_tree, mux4way16_tree, mux8way16_tree}
use Rattle.chip_basic.proofs.Inside.{PartOf, part_of, bit_joined, whole_joined}
use Rattle.chip_basic.proofs.Gates.{or_works, dmux_a, dmux_b}
use Rattle.chip_basic.proofs.Numbers.{number_same, number_below}
use Rattle.chip_basic.proofs.Words.{mux16_bit}

-- the number of two bits, and of three
abbrev two : Bool → Bool → ℕ
two s t = (0 + cond s 1 0) + cond t 2 0

four_a : (i s t : Bool) → ((i && not t) && not s) ≡ (i && eqb (two s t) 0)
four_a false s t = refl
four_a true true true = refl
four_a true true false = refl
four_a true false true = refl
four_a true false false = refl

four_b : (i s t : Bool) → ((i && not t) && s) ≡ (i && eqb (two s t) 1)
four_b false s t = refl
four_b true true true = refl
four_b true true false = refl
four_b true false true = refl
four_b true false false = refl

four_c : (i s t : Bool) → ((i && t) && not s) ≡ (i && eqb (two s t) 2)
four_c false s t = refl
four_c true true true = refl
four_c true true false = refl
four_c true false true = refl
four_c true false false = refl

four_d : (i s t : Bool) → ((i && t) && s) ≡ (i && eqb (two s t) 3)
four_d false s t = refl
four_d true true true = refl
four_d true true false = refl
four_d true false true = refl
four_d true false false = refl

pub of_four : (P : ℕ → Bool → Type 0) (f : ℕ → Bool) → P 0 (f 0) → P 1 (f 1) → P 2 (f 2) → P 3 (f 3) → (n : ℕ) → n < 4 → P n (f n)
of_four P f a b d e zero h = a
of_four P f a b d e (suc zero) h = b
of_four P f a b d e (suc (suc zero)) h = d
of_four P f a b d e (suc (suc (suc zero))) h = e
of_four P f a b d e (suc (suc (suc (suc n)))) h = absurd (omega arith)

of_eight : (P : ℕ → Type 0) → ((n : ℕ) → n < 4 → P n) → ((n : ℕ) → n < 4 → P (4 + n)) → (n : ℕ) → n < 8 → P n
of_eight P low high zero h = low 0 (lit< tt)
of_eight P low high (suc zero) h = low 1 (lit< tt)
of_eight P low high (suc (suc zero)) h = low 2 (lit< tt)
of_eight P low high (suc (suc (suc zero))) h = low 3 (lit< tt)
of_eight P low high (suc (suc (suc (suc n)))) h =
    let e : 4 + n ≡ suc (suc (suc (suc n))) = omega arith in
    subst P e (high n (omega arith))

choose_low : (i u : Bool) (m n : ℕ) → m < 4 → n < 4 → ((i && not u) && eqb m n) ≡ (i && eqb (m + cond u 4 0) n)
choose_low false u m n a b = refl
choose_low true false m n a b = rw add-zero
choose_low true true m n a b = let ne : m + 4 ≢ n = omega arith in sym (ne_eqb (m + 4) n ne)

same_test : (a b c d : ℕ) → (a ≡ b → c ≡ d) → (c ≡ d → a ≡ b) → eqb a b ≡ eqb c d
same_test a b c d f g = grind (arith, nat_tests)

choose_high : (i u : Bool) (m n : ℕ) → m < 4 → n < 4 → ((i && u) && eqb m n) ≡ (i && eqb (m + cond u 4 0) (4 + n))
choose_high false u m n a b = refl
choose_high true false m n a b = let ne : m + 0 ≢ 4 + n = omega arith in sym (ne_eqb (m + 0) (4 + n) ne)
choose_high true true m n a b = same_test m n (m + 4) (4 + n) (λ e. omega arith) (λ e. omega arith)

four_choose : (s t : Bool) (f : ℕ → Bool) → cond t (cond s (f 3) (f 2)) (cond s (f 1) (f 0)) ≡ f (two s t)
four_choose true true f = refl
four_choose true false f = refl
four_choose false true f = refl
four_choose false false f = refl

eight_choose : (u : Bool) (m : ℕ) (f : ℕ → Bool) → cond u (f (4 + m)) (f (0 + m)) ≡ f (m + cond u 4 0)
eight_choose true m f = let e : 4 + m ≡ m + 4 = omega arith in ap f e
eight_choose false m f = let e : 0 + m ≡ m + 0 = omega arith in ap f e

some_of_eight : (a b c d e f g h : Bool) → (((a || b) || (c || d)) || ((e || f) || (g || h))) ≡ ((((((((false || a) || b) || c) || d) || e) || f) || g) || h)
some_of_eight true b c d e f g h = refl
some_of_eight false true c d e f g h = refl
some_of_eight false false true d e f g h = refl
some_of_eight false false false true e f g h = refl
some_of_eight false false false false true f g h = refl
some_of_eight false false false false false true g h = refl
some_of_eight false false false false false false true h = refl
some_of_eight false false false false false false false h = refl

module _ (world : World) (library : Chips) (has : HasBasicChips library) (c : ℕ) where
  -- Or of two bits of a net
  or_of_bits : (w : List ℕ → Histories) (place : ℕ) (net : List ℕ) (m n : ℕ) (out : List ℕ) → PartOf world c library w place (part_named (codes "Or") (connect (codes "a") None net (Some (Bit m)) ∷ connect (codes "b") None net (Some (Bit n)) ∷ connect (codes "out") None out None ∷ [])) (shipped_entry or_tree) →
      w [] out 0 c ≡ (w [] net m c || w [] net n c)
  unfolding end_of or_tree
  or_of_bits w place net m n out p =
      let j = p.outside.joined in
      let a = bit_joined c (shipped_entry or_tree) (w []) (w (place ∷ [])) (codes "a") net m j.0 (lit< tt) in
      let b = bit_joined c (shipped_entry or_tree) (w []) (w (place ∷ [])) (codes "b") net n j.1.0 (lit< tt) in
      cc (or_works world library has c (λ path. w (place ∷ path)) p.inside, a, b, j.1.1.0 0 (lit< tt))

  -- Or of two nets
  or_of_nets : (w : List ℕ → Histories) (place : ℕ) (x y out : List ℕ) → PartOf world c library w place (part_named (codes "Or") (connect (codes "a") None x None ∷ connect (codes "b") None y None ∷ connect (codes "out") None out None ∷ [])) (shipped_entry or_tree) →
      w [] out 0 c ≡ (w [] x 0 c || w [] y 0 c)
  unfolding end_of or_tree
  or_of_nets w place x y out p =
      let j = p.outside.joined in
      cc (or_works world library has c (λ path. w (place ∷ path)) p.inside, j.0 0 (lit< tt), j.1.0 0 (lit< tt), j.1.1.0 0 (lit< tt))

  pub or8way_works : (w : List ℕ → Histories) → Works world c library (shipped_entry or8way_tree) w → w [] (codes "out") 0 c ≡ some_bit 8 (λ k. w [] (codes "in") k c)
  unfolding end_of or8way_tree
  or8way_works w h =
      let b = λ (k : ℕ). w [] (codes "in") k c in
      let p = or_of_bits w 0 _ _ _ _ (part_of world c library (shipped_entry or8way_tree) w h 0 _ (shipped_entry or_tree) refl has.or) in
      let q = or_of_bits w 1 _ _ _ _ (part_of world c library (shipped_entry or8way_tree) w h 1 _ (shipped_entry or_tree) refl has.or) in
      let r = or_of_bits w 2 _ _ _ _ (part_of world c library (shipped_entry or8way_tree) w h 2 _ (shipped_entry or_tree) refl has.or) in
      let s = or_of_bits w 3 _ _ _ _ (part_of world c library (shipped_entry or8way_tree) w h 3 _ (shipped_entry or_tree) refl has.or) in
      let t = or_of_nets w 4 _ _ _ (part_of world c library (shipped_entry or8way_tree) w h 4 _ (shipped_entry or_tree) refl has.or) in
      let u = or_of_nets w 5 _ _ _ (part_of world c library (shipped_entry or8way_tree) w h 5 _ (shipped_entry or_tree) refl has.or) in
      let v = or_of_nets w 6 _ _ _ (part_of world c library (shipped_entry or8way_tree) w h 6 _ (shipped_entry or_tree) refl has.or) in
      cc (p, q, r, s, t, u, v, some_of_eight (b 0) (b 1) (b 2) (b 3) (b 4) (b 5) (b 6) (b 7))

  -- ---- to one of several

  pub dmux4way_works : (w : List ℕ → Histories) → Works world c library (shipped_entry dmux4way_tree) w → GoesWay 4 2 (w []) c
  unfolding end_of dmux4way_tree dmux_tree
  dmux4way_works w h =
      let p = part_of world c library (shipped_entry dmux4way_tree) w h 0 _ (shipped_entry dmux_tree) refl has.dmux in
      let q = part_of world c library (shipped_entry dmux4way_tree) w h 1 _ (shipped_entry dmux_tree) refl has.dmux in
      let r = part_of world c library (shipped_entry dmux4way_tree) w h 2 _ (shipped_entry dmux_tree) refl has.dmux in
      let i = w [] (codes "in") 0 c in
      let s = w [] (codes "sel") 0 c in
      let t = w [] (codes "sel") 1 c in
      let j = p.outside.joined in
      let k = q.outside.joined in
      let l = r.outside.joined in
      let x : w [] (codes "toAB") 0 c ≡ (i && not t) = cc (dmux_a world library has c (λ path. w (0 ∷ path)) p.inside, j.0 0 (lit< tt), j.1.0 0 (lit< tt), j.1.1.0 0 (lit< tt)) in
      let y : w [] (codes "toCD") 0 c ≡ (i && t) = cc (dmux_b world library has c (λ path. w (0 ∷ path)) p.inside, j.0 0 (lit< tt), j.1.0 0 (lit< tt), j.1.1.1.0 0 (lit< tt)) in
      let a : w [] (codes "a") 0 c ≡ ((i && not t) && not s) = cc (x, dmux_a world library has c (λ path. w (1 ∷ path)) q.inside, k.0 0 (lit< tt), k.1.0 0 (lit< tt), k.1.1.0 0 (lit< tt)) in
      let b : w [] (codes "b") 0 c ≡ ((i && not t) && s) = cc (x, dmux_b world library has c (λ path. w (1 ∷ path)) q.inside, k.0 0 (lit< tt), k.1.0 0 (lit< tt), k.1.1.1.0 0 (lit< tt)) in
      let d : w [] (codes "c") 0 c ≡ ((i && t) && not s) = cc (y, dmux_a world library has c (λ path. w (2 ∷ path)) r.inside, l.0 0 (lit< tt), l.1.0 0 (lit< tt), l.1.1.0 0 (lit< tt)) in
      let e : w [] (codes "d") 0 c ≡ ((i && t) && s) = cc (y, dmux_b world library has c (λ path. w (2 ∷ path)) r.inside, l.0 0 (lit< tt), l.1.0 0 (lit< tt), l.1.1.1.0 0 (lit< tt)) in
      of_four (λ n v. v ≡ (i && eqb (two s t) n)) (λ n. w [] (letter n) 0 c) (a ∙ four_a i s t) (b ∙ four_b i s t) (d ∙ four_c i s t) (e ∙ four_d i s t)

  pub dmux8way_works : (w : List ℕ → Histories) → Works world c library (shipped_entry dmux8way_tree) w → GoesWay 8 3 (w []) c
  unfolding end_of dmux8way_tree dmux_tree dmux4way_tree
  dmux8way_works w h =
      let p = part_of world c library (shipped_entry dmux8way_tree) w h 0 _ (shipped_entry dmux_tree) refl has.dmux in
      let q = part_of world c library (shipped_entry dmux8way_tree) w h 1 _ (shipped_entry dmux4way_tree) refl has.dmux4way in
      let r = part_of world c library (shipped_entry dmux8way_tree) w h 2 _ (shipped_entry dmux4way_tree) refl has.dmux4way in
      let i = w [] (codes "in") 0 c in
      let m = number 2 (λ k. w [] (codes "sel") k c) in
      let u = w [] (codes "sel") 2 c in
      let j = p.outside.joined in
      let x : w [] (codes "toAD") 0 c ≡ (i && not u) = cc (dmux_a world library has c (λ path. w (0 ∷ path)) p.inside, j.0 0 (lit< tt), j.1.0 0 (lit< tt), j.1.1.0 0 (lit< tt)) in
      let y : w [] (codes "toEH") 0 c ≡ (i && u) = cc (dmux_b world library has c (λ path. w (0 ∷ path)) p.inside, j.0 0 (lit< tt), j.1.0 0 (lit< tt), j.1.1.1.0 0 (lit< tt)) in
      let k = q.outside.joined in
      let l = r.outside.joined in
      let a : number 2 (λ n. w (1 ∷ []) (codes "sel") n c) ≡ m = cc (k.1.0 0 (lit< tt), k.1.0 1 (lit< tt)) in
      let b : number 2 (λ n. w (2 ∷ []) (codes "sel") n c) ≡ m = cc (l.1.0 0 (lit< tt), l.1.0 1 (lit< tt)) in
      let d : w (1 ∷ []) (codes "in") 0 c ≡ (i && not u) = cc (x, k.0 0 (lit< tt)) in
      let e : w (2 ∷ []) (codes "in") 0 c ≡ (i && u) = cc (y, l.0 0 (lit< tt)) in
      let small = number_below 2 (λ n. w [] (codes "sel") n c) in
      let low = dmux4way_works (λ path. w (1 ∷ path)) q.inside in
      let high = dmux4way_works (λ path. w (2 ∷ path)) r.inside in
      let out_low : (n : ℕ) → n < 4 → w [] (letter n) 0 c ≡ w (1 ∷ []) (letter n) 0 c =
      of_four (λ n v. w [] (letter n) 0 c ≡ v) (λ n. w (1 ∷ []) (letter n) 0 c) (sym (k.1.1.0 0 (lit< tt))) (sym (k.1.1.1.0 0 (lit< tt))) (sym (k.1.1.1.1.0 0 (lit< tt))) (sym (k.1.1.1.1.1.0 0 (lit< tt))) in
      let out_high : (n : ℕ) → n < 4 → w [] (letter (4 + n)) 0 c ≡ w (2 ∷ []) (letter n) 0 c =
      of_four (λ n v. w [] (letter (4 + n)) 0 c ≡ v) (λ n. w (2 ∷ []) (letter n) 0 c) (sym (l.1.1.0 0 (lit< tt))) (sym (l.1.1.1.0 0 (lit< tt))) (sym (l.1.1.1.1.0 0 (lit< tt))) (sym (l.1.1.1.1.1.0 0 (lit< tt))) in
      of_eight (λ n. w [] (letter n) 0 c ≡ (i && eqb (m + cond u 4 0) n))
      (λ n lt. out_low n lt ∙ low n lt ∙ ap (λ v. v && eqb (number 2 (λ n. w (1 ∷ []) (codes "sel") n c)) n) d ∙ ap (λ v. (i && not u) && eqb v n) a ∙ choose_low i u m n small lt)
      (λ n lt. out_high n lt ∙ high n lt ∙ ap (λ v. v && eqb (number 2 (λ n. w (2 ∷ []) (codes "sel") n c)) n) e ∙ ap (λ v. (i && u) && eqb v n) b ∙ choose_high i u m n small lt)

  -- ---- from one of several

  -- bit k of Mux16 (a = x, b = y, sel = sel[i], out = z)
  mux16_part_works : (w : List ℕ → Histories) (place : ℕ) (x y z : List ℕ) (i : ℕ) → PartOf world c library w place (part_named (codes "Mux16") (connect (codes "a") None x None ∷ connect (codes "b") None y None ∷ wire_bit "sel" "sel" i ∷ connect (codes "out") None z None ∷ [])) (shipped_entry mux16_tree) → (k : ℕ) → k < 16 → w [] z k c ≡ cond (w [] (codes "sel") i c) (w [] y k c) (w [] x k c)
  unfolding end_of mux16_tree
  mux16_part_works w place x y z i p k lt =
      let j = p.outside.joined in
      let a = whole_joined c (shipped_entry mux16_tree) (w []) (w (place ∷ [])) (codes "a") x j.0 k lt in
      let b = whole_joined c (shipped_entry mux16_tree) (w []) (w (place ∷ [])) (codes "b") y j.1.0 k lt in
      let s = bit_joined c (shipped_entry mux16_tree) (w []) (w (place ∷ [])) (codes "sel") (codes "sel") i j.1.1.0 (lit< tt) in
      let o = whole_joined c (shipped_entry mux16_tree) (w []) (w (place ∷ [])) (codes "out") z j.1.1.1.0 k lt in
      cc (mux16_bit world library has c (λ path. w (place ∷ path)) p.inside k lt, a, b, s, o)

  -- out is the letter that sel numbers, bit by bit
  abbrev pub Muxes : ℕ → Histories → Type 0
  Muxes n w = (k : ℕ) → k < 16 → w (codes "out") k c ≡ w (letter (number n (λ b. w (codes "sel") b c))) k c

  pub mux4way16_bits : (w : List ℕ → Histories) → Works world c library (shipped_entry mux4way16_tree) w → Muxes 2 (w [])
  unfolding end_of mux4way16_tree
  mux4way16_bits w h k lt =
      let p = mux16_part_works w 0 _ _ _ _ (part_of world c library (shipped_entry mux4way16_tree) w h 0 _ (shipped_entry mux16_tree) refl has.mux16) k lt in
      let q = mux16_part_works w 1 _ _ _ _ (part_of world c library (shipped_entry mux4way16_tree) w h 1 _ (shipped_entry mux16_tree) refl has.mux16) k lt in
      let r = mux16_part_works w 2 _ _ _ _ (part_of world c library (shipped_entry mux4way16_tree) w h 2 _ (shipped_entry mux16_tree) refl has.mux16) k lt in
      let e = four_choose (w [] (codes "sel") 0 c) (w [] (codes "sel") 1 c) (λ n. w [] (letter n) k c) in
      cc (p, q, r, e)

  pub mux4way16_works : (w : List ℕ → Histories) → Works world c library (shipped_entry mux4way16_tree) w → TakesWay 2 (w []) c
  mux4way16_works w h = number_same 16 _ _ (mux4way16_bits w h)

  -- Mux4Way16 of the letters from i on, with the lower bits of sel
  abbrev four_from : ℕ → List ℕ → Part
  four_from i z = part_named (codes "Mux4Way16") (connect (codes "a") None (letter i) None ∷ connect (codes "b") None (letter (i + 1)) None ∷ connect (codes "c") None (letter (i + 2)) None ∷ connect (codes "d") None (letter (i + 3)) None ∷ wire_bits "sel" "sel" 0 1 ∷ connect (codes "out") None z None ∷ [])

  mux4way16_part_works : (w : List ℕ → Histories) (place : ℕ) (i : ℕ) (z : List ℕ) → PartOf world c library w place (four_from i z) (shipped_entry mux4way16_tree) → (k : ℕ) → k < 16 → w [] z k c ≡ w [] (letter (i + number 2 (λ n. w [] (codes "sel") n c))) k c
  unfolding end_of mux4way16_tree
  mux4way16_part_works w place i z p k lt =
      let j = p.outside.joined in
      let s0 = j.1.1.1.1.0 0 (lit< tt) in
      let s1 = j.1.1.1.1.0 1 (lit< tt) in
      let m = number 2 (λ n. w (place ∷ []) (codes "sel") n c) in
      let same : m ≡ number 2 (λ n. w [] (codes "sel") n c) = cc (s0, s1) in
      let o = whole_joined c (shipped_entry mux4way16_tree) (w []) (w (place ∷ [])) (codes "out") z j.1.1.1.1.1.0 k lt in
      let whole = λ (x y : List ℕ). whole_joined c (shipped_entry mux4way16_tree) (w []) (w (place ∷ [])) x y in
      let first : w (place ∷ []) (letter 0) k c ≡ w [] (letter (i + 0)) k c = whole _ _ j.0 k lt ∙ ap (λ n. w [] (letter n) k c) (sym (add-zero i)) in
      let from : (n : ℕ) → n < 4 → w (place ∷ []) (letter n) k c ≡ w [] (letter (i + n)) k c =
      of_four (λ n v. v ≡ w [] (letter (i + n)) k c) (λ n. w (place ∷ []) (letter n) k c) first (whole _ _ j.1.0 k lt) (whole _ _ j.1.1.0 k lt) (whole _ _ j.1.1.1.0 k lt) in
      sym o ∙ mux4way16_bits (λ path. w (place ∷ path)) p.inside k lt ∙ from m (number_below 2 (λ n. w (place ∷ []) (codes "sel") n c)) ∙ ap (λ n. w [] (letter (i + n)) k c) same

  pub mux8way16_bits : (w : List ℕ → Histories) → Works world c library (shipped_entry mux8way16_tree) w → Muxes 3 (w [])
  unfolding end_of mux8way16_tree
  mux8way16_bits w h k lt =
      let p = mux4way16_part_works w 0 0 (codes "aToD") (part_of world c library (shipped_entry mux8way16_tree) w h 0 _ (shipped_entry mux4way16_tree) refl has.mux4way16) k lt in
      let q = mux4way16_part_works w 1 4 (codes "eToH") (part_of world c library (shipped_entry mux8way16_tree) w h 1 _ (shipped_entry mux4way16_tree) refl has.mux4way16) k lt in
      let r = mux16_part_works w 2 (codes "aToD") (codes "eToH") (codes "out") 2 (part_of world c library (shipped_entry mux8way16_tree) w h 2 _ (shipped_entry mux16_tree) refl has.mux16) k lt in
      let e = eight_choose (w [] (codes "sel") 2 c) (number 2 (λ n. w [] (codes "sel") n c)) (λ n. w [] (letter n) k c) in
      cc (p, q, r, e)

  pub mux8way16_works : (w : List ℕ → Histories) → Works world c library (shipped_entry mux8way16_tree) w → TakesWay 3 (w []) c
  mux8way16_works w h = number_same 16 _ _ (mux8way16_bits w h)
