-- The ALU.
use Rattle.std.proofs.Common.{◌≡◌, ℕ, zero, suc, ◌+◌, ◌*◌, ◌^◌, ◌<◌, ◌%◌, Bool, true, false, cond, eqb, ltb, List, [], ◌∷◌, Some, None, refl, sym, ap, ap₂, ◌∙◌, subst, arith, lit<, zero-add, ◌≢◌, ne_eqb, pow-add}
use Rattle.std.proofs.lemmas.Bool.Decides.{nat_tests}
use Rattle.std.specs.Prelude.{not, ◌||◌, codes, slice_get, bit_and}
use Rattle.word16.specs.Words.{word_not}
use Rattle.hack_isa.specs.Table.{preset, combine}
use Rattle.hdl_tree.specs.declared.tree.Source.{Source}
use Rattle.hdl_tree.specs.declared.tree.Source.TheVariants.{Net, Constant}
use Rattle.hdl_tree.specs.declared.tree.Connection.{Connection}
use Rattle.hdl_tree.specs.declared.tree.Part.{Part}
use Rattle.hdl_tree.specs.declared.library.Entry.{Entry}
use Rattle.hdl_tree.specs.Memory.{number}
use Rattle.hdl_tree.specs.Chips.{Chips, end_of, parts_of}
use Rattle.hdl_tree.specs.Behaviour.{Histories, World, source_value, Joins, Works, width_of}
use Rattle.chip_basic.specs.Hdl.{shipped_entry, wire_to, part}
use Rattle.chip_basic.specs.Trees.{not_tree, or_tree, not16_tree, and16_tree, mux16_tree, or8way_tree}
use Rattle.chip_basic.specs.Laws.{word}
use Rattle.chip_basic.proofs.Inside.{PartOf, part_of, whole_joined}
use Rattle.chip_basic.proofs.Gates.{not_works, or_works}
use Rattle.chip_basic.proofs.Numbers.{number_same, number_cond, number_below, some_number}
use Rattle.chip_basic.proofs.Words.{not16_works, and16_works, mux16_bit}
use Rattle.chip_basic.proofs.Ways.{or8way_works}
use Rattle.chip_alu.specs.Trees.{HasAluChips, add16_tree, alu_tree}
use Rattle.chip_alu.specs.Laws.{AluWorks}
use Rattle.chip_alu.proofs.Adders.{add16_works}

-- ---- connections of words

-- a whole pin, joined to any source
abbrev pub feed : List ℕ → Source → Connection
feed pin source = record { pin = record { name = pin; subscript = None }; source = source }

-- the whole of a net
abbrev pub net : List ℕ → Source
net name = Net (record { name = name; subscript = None })

pub joined_to : (c : ℕ) (inner : Entry) (outside inside : Histories) (pin : List ℕ) (source : Source) → Joins false true inner (λ name bit. outside name bit c) (λ name bit. inside name bit c) (feed pin source) → (k : ℕ) → k < width_of inner pin → inside pin k c ≡ source_value false true source (λ name bit. outside name bit c) k
joined_to c inner outside inside pin source j k h = ap (λ x. inside pin x c) (sym (zero-add k)) ∙ j k h

-- the word of a net by its name, and of a source
abbrev pub word_in : Histories → List ℕ → ℕ → ℕ
word_in w name c = number 16 (λ k. w name k c)

abbrev pub word_of : Histories → Source → ℕ → ℕ
word_of w source c = number 16 (λ k. source_value false true source (λ name bit. w name bit c) k)

pub net_word : (w : Histories) (name : List ℕ) (c : ℕ) → word_of w (net name) c ≡ word_in w name c
net_word w name c = number_same 16 _ _ (λ k lt. ap (λ x. w name x c) (zero-add k))

-- Mux16(a=x, b=y, sel=s, out=z, ..)
abbrev pub choice : Source → Source → List ℕ → List ℕ → List Connection → Part
choice x y s z more = part "Mux16" (feed (codes "a") x ∷ feed (codes "b") y ∷ wire_to "sel" s ∷ wire_to "out" z ∷ more)

-- ---- on numbers

-- the upper bits of a number
split_step : (b : Bool) (x y p q t : ℕ) → q ≡ 256 * p → t ≡ x + 256 * y → t + cond b q 0 ≡ x + 256 * (y + cond b p 0)
split_step true x y p q t e h = omega arith
split_step false x y p q t e h = omega arith

pub number_split : (n : ℕ) (f : ℕ → Bool) (k : ℕ) → k ≡ 8 + n → number k f ≡ number 8 f + 256 * number n (λ i. f (8 + i))
number_split zero f k e = let e' : k ≡ 8 = omega arith in ap (λ x. number x f) e' ∙ omega arith
number_split (suc n) f zero e = absurd (omega arith)
number_split (suc n) f (suc k) e =
    let e' : k ≡ 8 + n = omega arith in
    let p : 2 ^ k ≡ 256 * 2 ^ n = ap (λ x. 2 ^ x) e' ∙ pow-add 2 8 n in
    ap (λ x. number k f + cond x (2 ^ k) 0) (ap f e') ∙ split_step (f (8 + n)) (number 8 f) (number n (λ i. f (8 + i))) (2 ^ n) (2 ^ k) (number k f) p (number_split n f k e')

pub both_zero : (x y : ℕ) → not (not (eqb x 0) || not (eqb y 0)) ≡ eqb (x + 256 * y) 0
both_zero zero zero = refl
both_zero zero (suc y) =
    let ne : zero + 256 * suc y ≢ 0 = omega arith in
    let ne' : suc y ≢ 0 = omega arith in
    rw (ne_eqb (suc y) 0 ne', ne_eqb (zero + 256 * suc y) 0 ne)
both_zero (suc x) y =
    let ne : suc x + 256 * y ≢ 0 = omega arith in
    let ne' : suc x ≢ 0 = omega arith in
    rw (ne_eqb (suc x) 0 ne', ne_eqb (suc x + 256 * y) 0 ne)

pub top_bit : (b : Bool) (x : ℕ) → x < 32768 → b ≡ ltb 32767 (x + cond b 32768 0)
top_bit true x h = grind (arith, nat_tests)
top_bit false x h = grind (arith, nat_tests)

alu_chain : (x y x1 x2 x3 y1 y2 y3 s b o1 o2 out : ℕ) (zx nx zy ny f io : Bool) →
    x1 ≡ cond zx 0 x → x2 ≡ word_not x1 → x3 ≡ cond nx x2 x1 → y1 ≡ cond zy 0 y → y2 ≡ word_not y1 → y3 ≡ cond ny y2 y1 →
    s ≡ (x3 + y3) % 65536 → b ≡ bit_and x3 y3 → o1 ≡ cond f s b → o2 ≡ word_not o1 → out ≡ cond io o2 o1 → out ≡ combine f io (preset zx nx x) (preset zy ny y)
alu_chain x y x1 x2 x3 y1 y2 y3 s b o1 o2 out zx nx zy ny f io e1 e2 e3 e4 e5 e6 e7 e8 e9 e10 e11 = cc

module _ (world : World) (library : Chips) (has : HasAluChips library) (c : ℕ) where
  pub choice_works : (w : List ℕ → Histories) (place : ℕ) (x y : Source) (s z : List ℕ) (more : List Connection) → PartOf world c library w place (choice x y s z more) (shipped_entry mux16_tree) →
      word_in (w []) z c ≡ cond (w [] s 0 c) (word_of (w []) y c) (word_of (w []) x c)
  unfolding end_of mux16_tree
  choice_works w place x y s z more p =
      let j = p.outside.joined in
      let bits : (k : ℕ) → k < 16 → w [] z k c ≡ cond (w [] s 0 c) (source_value false true y (λ name bit. w [] name bit c) k) (source_value false true x (λ name bit. w [] name bit c) k) = λ k lt.
      let a = joined_to c (shipped_entry mux16_tree) (w []) (w (place ∷ [])) (codes "a") x j.0 k lt in
      let b = joined_to c (shipped_entry mux16_tree) (w []) (w (place ∷ [])) (codes "b") y j.1.0 k lt in
      let t = j.1.1.0 0 (lit< tt) in
      let o = whole_joined c (shipped_entry mux16_tree) (w []) (w (place ∷ [])) (codes "out") z j.1.1.1.0 k lt in
      cc (mux16_bit world library has.basic c (λ path. w (place ∷ path)) p.inside k lt, a, b, t, o) in
      number_same 16 _ _ bits ∙ number_cond 16 (w [] s 0 c) (λ k. source_value false true y (λ name bit. w [] name bit c) k) (λ k. source_value false true x (λ name bit. w [] name bit c) k)

  turn_works : (w : List ℕ → Histories) (place : ℕ) (x y : List ℕ) → PartOf world c library w place (part "Not16" (wire_to "in" x ∷ wire_to "out" y ∷ [])) (shipped_entry not16_tree) → word_in (w []) y c ≡ word_not (word_in (w []) x c)
  unfolding end_of not16_tree
  turn_works w place x y p =
      let j = p.outside.joined in
      let a : word_in (w (place ∷ [])) (codes "in") c ≡ word_in (w []) x c = number_same 16 _ _ (λ k lt. whole_joined c (shipped_entry not16_tree) (w []) (w (place ∷ [])) (codes "in") x j.0 k lt) in
      let o : word_in (w (place ∷ [])) (codes "out") c ≡ word_in (w []) y c = number_same 16 _ _ (λ k lt. whole_joined c (shipped_entry not16_tree) (w []) (w (place ∷ [])) (codes "out") y j.1.0 k lt) in
      sym o ∙ not16_works world library has.basic c (λ path. w (place ∷ path)) p.inside ∙ ap word_not a

  words_joined : (w : List ℕ → Histories) (place : ℕ) (chip x y z : List ℕ) (inner : Entry) → width_of inner (codes "a") ≡ 16 → width_of inner (codes "b") ≡ 16 → width_of inner (codes "out") ≡ 16 → PartOf world c library w place (record { chip = chip; connections = wire_to "a" x ∷ wire_to "b" y ∷ wire_to "out" z ∷ [] }) inner →
      (word_in (w (place ∷ [])) (codes "a") c ≡ word_in (w []) x c) × (word_in (w (place ∷ [])) (codes "b") c ≡ word_in (w []) y c) × (word_in (w (place ∷ [])) (codes "out") c ≡ word_in (w []) z c)
  words_joined w place chip x y z inner ea eb eo p =
      let j = p.outside.joined in (
        number_same 16 _ _ (λ k lt. whole_joined c inner (w []) (w (place ∷ [])) (codes "a") x j.0 k (subst (λ n. k < n) (sym ea) lt)),
        number_same 16 _ _ (λ k lt. whole_joined c inner (w []) (w (place ∷ [])) (codes "b") y j.1.0 k (subst (λ n. k < n) (sym eb) lt)),
        number_same 16 _ _ (λ k lt. whole_joined c inner (w []) (w (place ∷ [])) (codes "out") z j.1.1.0 k (subst (λ n. k < n) (sym eo) lt)),
      )

  module _ (w : List ℕ → Histories) (h : Works world c library (shipped_entry alu_tree) w) where
    chosen : (place : ℕ) (x y s z : List ℕ) (more : List Connection) → slice_get (parts_of library (shipped_entry alu_tree)) place ≡ Some (choice (net x) (net y) s z more) → word_in (w []) z c ≡ cond (w [] s 0 c) (word_in (w []) y c) (word_in (w []) x c)
    chosen place x y s z more e =
        choice_works w place (net x) (net y) s z more (part_of world c library (shipped_entry alu_tree) w h place _ (shipped_entry mux16_tree) e has.basic.mux16) ∙ ap₂ (λ a b. cond (w [] s 0 c) a b) (net_word (w []) y c) (net_word (w []) x c)

    zeroed : (place : ℕ) (x s z : List ℕ) → slice_get (parts_of library (shipped_entry alu_tree)) place ≡ Some (choice (net x) (Constant false) s z []) → word_in (w []) z c ≡ cond (w [] s 0 c) 0 (word_in (w []) x c)
    zeroed place x s z e =
        choice_works w place (net x) (Constant false) s z [] (part_of world c library (shipped_entry alu_tree) w h place _ (shipped_entry mux16_tree) e has.basic.mux16) ∙ ap (λ b. cond (w [] s 0 c) 0 b) (net_word (w []) x c)

    turned : (place : ℕ) (x y : List ℕ) → slice_get (parts_of library (shipped_entry alu_tree)) place ≡ Some (part "Not16" (wire_to "in" x ∷ wire_to "out" y ∷ [])) → word_in (w []) y c ≡ word_not (word_in (w []) x c)
    turned place x y e = turn_works w place x y (part_of world c library (shipped_entry alu_tree) w h place _ (shipped_entry not16_tree) e has.basic.not16)

    sum_is : word (w []) "sum" c ≡ (word (w []) "readyX" c + word (w []) "readyY" c) % 65536
    unfolding end_of alu_tree add16_tree
    sum_is =
        let p = part_of world c library (shipped_entry alu_tree) w h 6 _ (shipped_entry add16_tree) refl has.add16 in
        let j = words_joined w 6 (codes "Add16") (codes "readyX") (codes "readyY") (codes "sum") (shipped_entry add16_tree) refl refl refl p in
        sym j.2 ∙ add16_works world library has c (λ path. w (6 ∷ path)) p.inside ∙ ap₂ (λ a b. (a + b) % 65536) j.0 j.1

    both_is : word (w []) "both" c ≡ bit_and (word (w []) "readyX" c) (word (w []) "readyY" c)
    unfolding end_of alu_tree and16_tree
    both_is =
        let p = part_of world c library (shipped_entry alu_tree) w h 7 _ (shipped_entry and16_tree) refl has.basic.and16 in
        let j = words_joined w 7 (codes "And16") (codes "readyX") (codes "readyY") (codes "both") (shipped_entry and16_tree) refl refl refl p in
        sym j.2 ∙ and16_works world library has.basic c (λ path. w (7 ∷ path)) p.inside ∙ ap₂ bit_and j.0 j.1

    out_word : word (w []) "out" c ≡ combine (w [] (codes "f") 0 c) (w [] (codes "no") 0 c) (preset (w [] (codes "zx") 0 c) (w [] (codes "nx") 0 c) (word (w []) "x" c)) (preset (w [] (codes "zy") 0 c) (w [] (codes "ny") 0 c) (word (w []) "y" c))
    unfolding end_of alu_tree
    out_word =
        alu_chain (word (w []) "x" c) (word (w []) "y" c) _ _ _ _ _ _ _ _ _ _ _ (w [] (codes "zx") 0 c) _ (w [] (codes "zy") 0 c) _ _ _
        (zeroed 0 (codes "x") (codes "zx") (codes "zeroedX") refl) (turned 1 (codes "zeroedX") (codes "notX") refl) (chosen 2 (codes "zeroedX") (codes "notX") (codes "nx") (codes "readyX") [] refl)
        (zeroed 3 (codes "y") (codes "zy") (codes "zeroedY") refl) (turned 4 (codes "zeroedY") (codes "notY") refl) (chosen 5 (codes "zeroedY") (codes "notY") (codes "ny") (codes "readyY") [] refl)
        sum_is both_is (chosen 8 (codes "both") (codes "sum") (codes "f") (codes "result") [] refl) (turned 9 (codes "result") (codes "notResult") refl) (chosen 10 (codes "result") (codes "notResult") (codes "no") (codes "out") _ refl)

    sign : w [] (codes "ng") 0 c ≡ ltb 32767 (word (w []) "out" c)
    unfolding end_of alu_tree mux16_tree
    sign =
        let p = part_of world c library (shipped_entry alu_tree) w h 10 _ (shipped_entry mux16_tree) refl has.basic.mux16 in
        let j = p.outside.joined in
        let e : w [] (codes "ng") 0 c ≡ w [] (codes "out") 15 c = cc (j.1.1.1.0 15 (lit< tt), j.1.1.1.1.1.1.0 0 (lit< tt)) in
        e ∙ top_bit (w [] (codes "out") 15 c) (number 15 (λ k. w [] (codes "out") k c)) (number_below 15 (λ k. w [] (codes "out") k c))

    half : (place : ℕ) (half_net out : List ℕ) (from : ℕ) → slice_get (parts_of library (shipped_entry alu_tree)) place ≡ Some (part "Or8Way" (wire_to "in" half_net ∷ wire_to "out" out ∷ [])) → ((k : ℕ) → k < 8 → w [] half_net k c ≡ w [] (codes "out") (from + k) c) →
        w [] out 0 c ≡ not (eqb (number 8 (λ k. w [] (codes "out") (from + k) c)) 0)
    unfolding end_of alu_tree or8way_tree
    half place half_net out from e same =
        let p = part_of world c library (shipped_entry alu_tree) w h place _ (shipped_entry or8way_tree) e has.basic.or8way in
        let j = p.outside.joined in
        let a : number 8 (λ k. w (place ∷ []) (codes "in") k c) ≡ number 8 (λ k. w [] (codes "out") (from + k) c) =
        number_same 8 _ _ (λ k lt. whole_joined c (shipped_entry or8way_tree) (w []) (w (place ∷ [])) (codes "in") half_net j.0 k lt ∙ same k lt) in
        sym (j.1.0 0 (lit< tt)) ∙ or8way_works world library has.basic c (λ path. w (place ∷ path)) p.inside ∙ some_number 8 (λ k. w (place ∷ []) (codes "in") k c) ∙ ap (λ x. not (eqb x 0)) a

    is_zero : w [] (codes "zr") 0 c ≡ eqb (word (w []) "out" c) 0
    unfolding end_of alu_tree mux16_tree or_tree not_tree
    is_zero =
        let p = part_of world c library (shipped_entry alu_tree) w h 10 _ (shipped_entry mux16_tree) refl has.basic.mux16 in
        let j = p.outside.joined in
        let o = λ (k : ℕ). w (10 ∷ []) (codes "out") k c in
        let whole = λ (k : ℕ) (lt : k < 16). whole_joined c (shipped_entry mux16_tree) (w []) (w (10 ∷ [])) (codes "out") (codes "out") j.1.1.1.0 k lt in
        let low : (k : ℕ) → k < 8 → w [] (codes "lowHalf") k c ≡ w [] (codes "out") (0 + k) c = λ k lt.
        ap (λ x. w [] (codes "lowHalf") x c) (sym (zero-add k)) ∙ sym (j.1.1.1.1.0 k lt) ∙ whole (0 + k) (omega arith) in
        let high : (k : ℕ) → k < 8 → w [] (codes "highHalf") k c ≡ w [] (codes "out") (8 + k) c = λ k lt.
        ap (λ x. w [] (codes "highHalf") x c) (sym (zero-add k)) ∙ sym (j.1.1.1.1.1.0 k lt) ∙ whole (8 + k) (omega arith) in
        let l = half 11 (codes "lowHalf") (codes "someLow") 0 refl low in
        let m = half 12 (codes "highHalf") (codes "someHigh") 8 refl high in
        let q = part_of world c library (shipped_entry alu_tree) w h 13 _ (shipped_entry or_tree) refl has.basic.or in
        let r = part_of world c library (shipped_entry alu_tree) w h 14 _ (shipped_entry not_tree) refl has.basic.not in
        let jq = q.outside.joined in
        let jr = r.outside.joined in
        let e : w [] (codes "zr") 0 c ≡ not (w [] (codes "someLow") 0 c || w [] (codes "someHigh") 0 c) =
        cc (or_works world library has.basic c (λ path. w (13 ∷ path)) q.inside, not_works world library has.basic c (λ path. w (14 ∷ path)) r.inside, jq.0 0 (lit< tt), jq.1.0 0 (lit< tt), jq.1.1.0 0 (lit< tt), jr.0 0 (lit< tt), jr.1.0 0 (lit< tt)) in
        let x = number 8 (λ k. w [] (codes "out") (0 + k) c) in
        let y = number 8 (λ k. w [] (codes "out") (8 + k) c) in
        let s : x + 256 * y ≡ word (w []) "out" c = sym (number_split 8 (λ k. w [] (codes "out") k c) 16 refl) in
        e ∙ ap₂ (λ a b. not (a || b)) l m ∙ both_zero x y ∙ ap (λ z. eqb z 0) s

    pub alu_works : AluWorks (w []) c
    alu_works = record { out = out_word; zr = is_zero; ng = sign }
