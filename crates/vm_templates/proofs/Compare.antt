-- The comparisons, path by path.
use Rattle.std.proofs.Common.{◌≡◌, ◌≢◌, ◌⊎◌, inl, inr, ℕ, suc, ◌+◌, ◌-◌, ◌<◌, ◌≤◌, ◌/◌, ◌%◌, ⊎_elim, Bool, true, false, List, [], ◌∷◌, ◌++◌, take, drop, refl, sym, ap, subst, ◌∙◌, arith}
use Rattle.std.specs.Prelude.{if◌then◌else◌, nat_lt, bit_and, bit_or}
use Rattle.std.specs.Int.Bits.{and_lt}
use Rattle.std.proofs.lemmas.Bool.{cases_lt, le-ltb, lt-ltb}
use Rattle.std.proofs.lemmas.Bool.Decides.{nat_tests}
use Rattle.std.proofs.lemmas.Nat.{and_le_l, and_le_r, and_shr, le_or_l, le_or_r, or_lt}
use Rattle.word16.specs.Words.{word_sub}
use Rattle.hack_isa.specs.declared.Instr.{Instr}
use Rattle.hack_isa.specs.declared.Instr.TheVariants.{Address, Compute}
use Rattle.hack_isa.specs.Machine.{Machine, jumps}
use Rattle.vm_templates.specs.declared.instructions.TheConstants.{A_IS_M_MINUS_1, D_IS_M, D_IS_M_MINUS_D, M_IS_MINUS_1, JUMP, IF_D_GREATER, IF_D_LESS, IF_D_NOT_LESS}
use Rattle.vm_templates.specs.Templates.{begin_compare, by_difference, compare_by, decide, equal_routine, go_back, order_routine, put_false}
use Rattle.vm_templates.specs.Computer.{Stands}
use Rattle.vm_templates.specs.Going.{Does}
use Rattle.vm_templates.specs.Effects.{Joined, Turned}
use Rattle.vm_templates.specs.Comparing.{equal, greater, less}
use Rattle.vm_templates.proofs.Block.{Data, AreWords, at, do_block, Safe, block, block_then, jump, last_jump, within, from_place, up_to}

pub jumps_less : (d : ℕ) → 32768 ≤ d → jumps 4 d ≡ true
unfolding jumps
jumps_less d h = grind (arith, nat_tests)

pub no_jumps_less : (d : ℕ) → d < 32768 → jumps 4 d ≡ false
unfolding jumps
no_jumps_less d h = grind (arith, nat_tests)

pub jumps_not_less : (d : ℕ) → d < 32768 → jumps 3 d ≡ true
unfolding jumps
jumps_not_less d h = grind (arith, nat_tests)

pub no_jumps_not_less : (d : ℕ) → 32768 ≤ d → jumps 3 d ≡ false
unfolding jumps
no_jumps_not_less d h = grind (arith, nat_tests)

pub jumps_always : (d : ℕ) → jumps 7 d ≡ true
unfolding jumps
jumps_always d = grind (arith, nat_tests)

-- where a jump leads
pub taken : (b : Bool) (a q to : ℕ) → b ≡ true → a ≡ to → to < 32768 → (if b then a % 32768 else q) ≡ to
taken b a q to e f h = let g : a % 32768 ≡ to = omega arith in rw (e, g)

pub not_taken : (b : Bool) (a pc to : ℕ) → b ≡ false → pc + 1 ≡ to → to < 32768 → (if b then a % 32768 else (pc + 1) % 32768) ≡ to
not_taken b a pc to e f h = let g : (pc + 1) % 32768 ≡ to = omega arith in rw (e, g)

abbrev decided : ℕ → ℕ → ℕ
decided j d = if jumps j d then 65535 else 0

-- after the beginning of the routine: D is the upper value, and A the address of the lower
pub record Begun (x y : Data) : Type 0 where
  pub address : y.a ≡ y.m 0 - 1
  pub upper : y.d ≡ y.m (y.m 0)
  pub sp : y.m 0 ≡ x.m 0 - 1
  pub waits : y.m 14 ≡ x.d
  pub same : (k : ℕ) → k ≢ 0 → k ≢ 14 → y.m k ≡ x.m k

begin_does : (x : Data) → 258 ≤ x.m 0 → x.m 0 ≤ 2048 → Begun x (do_block begin_compare x) × Safe begin_compare x
begin_does x low high =
    (record { address = grind (arith, nat_tests); upper = grind (arith, nat_tests); sp = grind (arith, nat_tests); waits = grind (arith, nat_tests); same = λ k a b. grind (arith, nat_tests) }, search arith)

put_false_does : (m : ℕ → ℕ) (y : Data) (v : ℕ) → 257 ≤ m 0 → m 0 < 2048 → Turned m y.m v → Turned m (do_block put_false y).m 0 × Safe put_false y
put_false_does m y v low high t =
    let sp : y.m 0 ≡ m 0 = t.same 0 (omega arith) in
    (record { top = grind (arith, nat_tests); same = λ k e. let s = t.same k e in grind (arith, nat_tests) }, search arith)

-- x - y is in D, and -1 over x
difference_does : (y : Data) → 257 ≤ y.m 0 → y.m 0 < 2048 → y.a ≡ y.m 0 - 1 → y.d ≡ y.m (y.m 0)
    → (let z = do_block (D_IS_M_MINUS_D ∷ M_IS_MINUS_1 ∷ []) y in Turned y.m z.m 65535 × (z.d ≡ word_sub (y.m (y.m 0 - 1)) (y.m (y.m 0)))) × Safe (D_IS_M_MINUS_D ∷ M_IS_MINUS_1 ∷ []) y
difference_does y low high a d = ((record { top = grind (arith, nat_tests); same = λ k e. grind (arith, nat_tests) }, grind (arith, nat_tests)), search arith)

-- what `gt` and `lt` give, where the jump `j` decides by the difference, and `t` by the lower value alone
abbrev ordered : ℕ → ℕ → ℕ → ℕ → ℕ
ordered j t x y =
    if nat_lt x 32768 then (if nat_lt y 32768 then decided j (word_sub x y) else decided t x) else (if nat_lt y 32768 then decided t x else decided j (word_sub x y))

pub greater_is : (x y : ℕ) → x < 65536 → y < 65536 → ordered 1 3 x y ≡ greater x y
unfolding greater jumps
greater_is x y hx hy = grind (arith, nat_tests)

pub less_is : (x y : ℕ) → x < 65536 → y < 65536 → ordered 4 4 x y ≡ less x y
unfolding less jumps
less_is x y hx hy = grind (arith, nat_tests)

-- one of the two is negative, and the other is not
abbrev IsMixed : ℕ → ℕ → Type 0
IsMixed x y = ((x < 32768) × (32768 ≤ y)) ⊎ ((32768 ≤ x) × (y < 32768))

any_signs : (x y : ℕ) → ((x < 32768) × (y < 32768)) ⊎ ((32768 ≤ x) ⊎ (32768 ≤ y))
any_signs x y = ⊎_elim (λ p. ⊎_elim (λ q. inl (p, q)) (λ q. inr (inr q)) (cases_lt y 32768)) (λ p. inr (inl p)) (cases_lt x 32768)

signs : (x y : ℕ) → (32768 ≤ x) ⊎ (32768 ≤ y) → IsMixed x y ⊎ ((32768 ≤ x) × (32768 ≤ y))
signs x y (inl p) = ⊎_elim (λ q. inl (inr (p, q))) (λ q. inr (p, q)) (cases_lt y 32768)
signs x y (inr q) = ⊎_elim (λ p. inl (inl (p, q))) (λ p. inr (p, q)) (cases_lt x 32768)

ordered_positive : (j t x y : ℕ) → x < 32768 → y < 32768 → ordered j t x y ≡ decided j (word_sub x y)
ordered_positive j t x y p q = rw (lt-ltb x 32768 p, lt-ltb y 32768 q) refl

ordered_negative : (j t x y : ℕ) → 32768 ≤ x → 32768 ≤ y → ordered j t x y ≡ decided j (word_sub x y)
ordered_negative j t x y p q = rw (le-ltb x 32768 p, le-ltb y 32768 q) refl

ordered_mixed : (j t x y : ℕ) → IsMixed x y → ordered j t x y ≡ decided t x
ordered_mixed j t x y (inl h) = rw (lt-ltb x 32768 h.0, le-ltb y 32768 h.1) refl
ordered_mixed j t x y (inr h) = rw (le-ltb x 32768 h.0, lt-ltb y 32768 h.1) refl

or_of_negative : (x y : ℕ) → (32768 ≤ x) ⊎ (32768 ≤ y) → 32768 ≤ bit_or y x
or_of_negative x y (inl h) = omega (arith, le_or_r y x)
or_of_negative x y (inr h) = omega (arith, le_or_l y x)

and_of_mixed : (x y : ℕ) → IsMixed x y → bit_and y x < 32768
and_of_mixed x y (inl h) = omega (arith, and_le_r y x)
and_of_mixed x y (inr h) = omega (arith, and_le_l y x)

and_of_negative : (x y : ℕ) → 32768 ≤ x → 32768 ≤ y → x < 65536 → y < 65536 → 32768 ≤ bit_and y x
and_of_negative x y p q hx hy =
    let a : x / 32768 ≡ 1 = omega arith in
    let b : y / 32768 ≡ 1 = omega arith in
    let e : bit_and y x / 32768 ≡ 1 = and_shr y x 15 ∙ rw (a, b) refl in
    omega arith

-- the lower value goes to D, and -1 over it
lower_does : (y : Data) (n : ℕ) → n < 65536 → 257 ≤ y.m 0 → y.m 0 < 2048
    → (let z = do_block (Address 0 ∷ A_IS_M_MINUS_1 ∷ D_IS_M ∷ M_IS_MINUS_1 ∷ Address n ∷ []) y in Turned y.m z.m 65535 × (z.d ≡ y.m (y.m 0 - 1))) × Safe (Address 0 ∷ A_IS_M_MINUS_1 ∷ D_IS_M ∷ M_IS_MINUS_1 ∷ Address n ∷ []) y
lower_does y n small low high = ((record { top = grind (arith, nat_tests); same = λ k e. grind (arith, nat_tests) }, grind (arith, nat_tests)), search arith)

-- The routine begins at `begin`; m is the memory once the address to come back to waits in the word 14 and SP is above x. Y stands above SP.
module _ (image : List ℕ) (inside : ℕ → Type 0) (begin last back : ℕ) (fits : last < 32768) (places : (k : ℕ) → begin ≤ k → k < last → inside k) (back_low : back < 32768)
    (m : ℕ → ℕ) (words : (k : ℕ) → m k < 65536) (low : 257 ≤ m 0) (high : m 0 < 2048) (waits : m 14 ≡ back) (goal : Machine → Type 0) where
  abbrev Lower : ℕ
  Lower = m (m 0 - 1)

  abbrev Upper : ℕ
  Upper = m (m 0)

  abbrev Ends : ℕ → Type 0
  Ends v = (z : Data) → AreWords z → Turned m z.m v → goal (at back z)

  comes_back : (h v : ℕ) (y : Data) → Stands image h go_back → begin ≤ h → h + 2 ≡ last → AreWords y → Turned m y.m v → Ends v → Does image inside last ⊥ goal 2 (at h y)
  comes_back h v y st from e w t ends =
      let z : Data = record y { a = y.m 14 } in
      let wz : AreWords z = record { a_word = w.m_words 14; d_word = w.d_word; m_words = w.m_words } in
      let to : y.m 14 ≡ back = t.same 14 (omega arith) ∙ waits in
      block image inside (take 2 go_back) y h last 0 (up_to image h 2 go_back st) (search arith) w e fits (λ k p q. places k (omega arith) q)
      (last_jump image inside JUMP z last back 0 (subst (λ k. Stands image k (drop 2 go_back)) e (from_place image h 2 go_back st)).0 (refl, refl, taken _ _ _ _ (jumps_always 0) to back_low) wz (ends z wz t))

  falls : (h : ℕ) (y : Data) → Stands image h (put_false ++ go_back) → begin ≤ h → h + 5 ≡ last → AreWords y → Turned m y.m 65535 → Ends 0 → Does image inside last ⊥ goal 5 (at h y)
  falls h y st from e w t ends =
      let p = put_false_does m y 65535 low high t in
      block_then image inside put_false y h (h + 3) 2 (λ z. Turned m z.m 0) (up_to image h 3 (put_false ++ go_back) st) p.1 w refl (omega arith) (λ k a b. places k (omega arith) (omega arith)) p.0
      (λ z wz tz. comes_back (h + 3) 0 z (from_place image h 3 (put_false ++ go_back) st) (omega arith) (omega arith) wz tz ends)

  chosen : (h j : ℕ) (b : Bool) (y : Data) → jumps j y.d ≡ b → Stands image h (decide (Compute false 12 0 j) h) → begin ≤ h → h + 7 ≡ last → y.a ≡ h + 5 → AreWords y → Turned m y.m 65535 → Ends (if b then 65535 else 0)
      → Does image inside last ⊥ goal 6 (at (h + 1) y)
  chosen h j true y is st from e to w t ends =
      let code = decide (Compute false 12 0 j) h in
      jump image inside (Compute false 12 0 j) y (h + 1) (h + 5) 5 (from_place image h 1 code st).0 (refl, refl, taken _ _ _ _ is to (omega arith)) w (places _ (omega arith) (omega arith))
      (within 2 5 _ (omega arith) (comes_back (h + 5) 65535 y (from_place image h 5 code st) (omega arith) (omega arith) w t ends))
  chosen h j false y is st from e to w t ends =
      let code = decide (Compute false 12 0 j) h in
      jump image inside (Compute false 12 0 j) y (h + 1) (h + 2) 5 (from_place image h 1 code st).0 (refl, refl, not_taken _ _ _ _ is (omega arith) (omega arith)) w (places _ (omega arith) (omega arith))
      (falls (h + 2) y (from_place image h 2 code st) (omega arith) (omega arith) w t ends)

  decides : (h j : ℕ) (y : Data) → Stands image h (decide (Compute false 12 0 j) h) → begin ≤ h → h + 7 ≡ last → AreWords y → Turned m y.m 65535 → Ends (decided j y.d) → Does image inside last ⊥ goal 7 (at h y)
  decides h j y st from e w t ends =
      let code = decide (Compute false 12 0 j) h in
      let z : Data = record y { a = h + 5 } in
      let wz : AreWords z = record { a_word = omega arith; d_word = w.d_word; m_words = w.m_words } in
      block image inside (take 1 code) y h (h + 1) 6 (up_to image h 1 code st) (search arith) w refl (omega arith) (λ k a b. places k (omega arith) (omega arith))
      (chosen h j (jumps j y.d) z refl st from e refl wz t ends)

  subtracts_to : (h j a d : ℕ) → Stands image h (by_difference (Compute false 12 0 j) h) → begin ≤ h → h + 9 ≡ last → a ≡ m 0 - 1 → d ≡ Upper → a < 65536 → d < 65536 → Ends (decided j (word_sub Lower Upper))
      → Does image inside last ⊥ goal 9 (at h (record { a = a; d = d; m = m }))
  subtracts_to h j a d st from e a_is d_is ha hd ends =
      let y : Data = record { a = a; d = d; m = m } in
      let w : AreWords y = record { a_word = ha; d_word = hd; m_words = words } in
      let code = by_difference (Compute false 12 0 j) h in
      let p = difference_does y low high a_is d_is in
      block_then image inside (take 2 code) y h (h + 2) 7 (λ z. Turned m z.m 65535 × (z.d ≡ word_sub Lower Upper)) (up_to image h 2 code st) p.1 w refl (omega arith) (λ k a b. places k (omega arith) (omega arith)) p.0
      (λ z wz q. decides (h + 2) j z (from_place image h 2 code st) (omega arith) (omega arith) wz q.0 (subst (λ n. Ends (decided j n)) (sym q.1) ends))

  -- `gt` or `lt`, after their beginning. The jump `j` decides it by the difference, and the jump `t` by the lower value
  -- alone.
  module _ (j t : ℕ) (st : Stands image begin (order_routine (Compute false 12 0 j) (Compute false 12 0 t) begin)) (e : begin + 37 ≡ last) where
    abbrev code : List Instr
    code = order_routine (Compute false 12 0 j) (Compute false 12 0 t) begin

    abbrev state : ℕ → ℕ → Data
    state a d = record { a = a; d = d; m = m }

    state_words : (a d : ℕ) → a < 65536 → d < 65536 → AreWords (state a d)
    state_words a d ha hd = record { a_word = ha; d_word = hd; m_words = words }

    abbrev piece : ℕ → ℕ → List Instr
    piece k n = take n (drop k code)

    part : (k n : ℕ) → Stands image (begin + k) (piece k n)
    part k n = up_to image (begin + k) n _ (from_place image begin k code st)

    inner : (a b : ℕ) → b ≤ 37 → (k : ℕ) → begin + a ≤ k → k < begin + b → inside k
    inner a b h k p q = places k (omega arith) (omega arith)

    -- the address of the lower value, as the instructions reckon it
    lower_is : m ((m 0 + 65535) % 65536) ≡ Lower
    lower_is = ap m (let z : (m 0 + 65535) % 65536 ≡ m 0 - 1 = omega arith in z)

    -- by the difference
    subtracts : Ends (decided j (word_sub Lower Upper)) → (a d : ℕ) → a < 65536 → d < 65536 → Does image inside last ⊥ goal 13 (at (begin + 24) (state a d))
    subtracts ends a d ha hd =
        block image inside (piece 24 4) (state a d) (begin + 24) (begin + 28) 9 (part 24 4) (search arith) (state_words a d ha hd) (omega arith) (omega arith) (inner 24 28 (omega arith))
        (subtracts_to (begin + 28) j ((m 0 + 65535) % 65536) Upper (from_place image begin 28 code st) (omega arith) (omega arith) (omega arith) refl (omega arith) (words _) ends)

    -- by the lower value alone
    told : (b : Bool) (z : Data) → jumps t z.d ≡ b → z.a ≡ begin + 35 → AreWords z → Turned m z.m 65535 → Ends (if b then 65535 else 0) → Does image inside last ⊥ goal 8 (at (begin + 21) z)
    told true z is to w u ends =
        jump image inside (Compute false 12 0 t) z (begin + 21) (begin + 35) 7 (part 21 1).0 (refl, refl, taken _ _ _ _ is to (omega arith)) w (places _ (omega arith) (omega arith))
        (within 2 7 _ (omega arith) (comes_back (begin + 35) 65535 z (from_place image begin 35 code st) (omega arith) (omega arith) w u ends))
    told false z is to w u ends =
        let y : Data = record z { a = begin + 32 } in
        let wy : AreWords y = record { a_word = omega arith; d_word = w.d_word; m_words = w.m_words } in
        jump image inside (Compute false 12 0 t) z (begin + 21) (begin + 22) 7 (part 21 1).0 (refl, refl, not_taken _ _ _ _ is (omega arith) (omega arith)) w (places _ (omega arith) (omega arith))
        (block image inside (piece 22 1) z (begin + 22) (begin + 23) 6 (part 22 1) (search arith) w (omega arith) (omega arith) (inner 22 23 (omega arith))
        (jump image inside JUMP y (begin + 23) (begin + 32) 5 (part 23 1).0 (refl, refl, taken _ _ _ _ (jumps_always 0) refl (omega arith)) wy (places _ (omega arith) (omega arith))
        (falls (begin + 32) y (from_place image begin 32 code st) (omega arith) (omega arith) wy u ends)))

    differs : Ends (decided t Lower) → (a d : ℕ) → a < 65536 → d < 65536 → Does image inside last ⊥ goal 13 (at (begin + 16) (state a d))
    differs ends a d ha hd =
        let y = state a d in
        let p = lower_does y (begin + 35) (omega arith) low high in
        block_then image inside (piece 16 5) y (begin + 16) (begin + 21) 8 (λ z. Turned m z.m 65535 × (z.d ≡ Lower) × (z.a ≡ begin + 35)) (part 16 5) p.1 (state_words a d ha hd) (omega arith) (omega arith) (inner 16 21 (omega arith))
        (p.0.0, p.0.1, refl)
        (λ z w q. told (jumps t z.d) z refl q.2 w q.0 (subst (λ n. Ends (decided t n)) (sym q.1) ends))

    -- from the jump on the sign of both
    by_both : (IsMixed Lower Upper) ⊎ ((32768 ≤ Lower) × (32768 ≤ Upper)) → (v : ℕ) → v ≡ bit_and Upper Lower → v < 65536 → AreWords (state (begin + 24) v) → Ends (ordered j t Lower Upper) → Does image inside last ⊥ goal 14 (at (begin + 15) (state (begin + 24) v))
    by_both (inl h) v is small w ends =
        jump image inside IF_D_LESS (state (begin + 24) v) (begin + 15) (begin + 16) 13 (part 15 1).0 (refl, refl, not_taken _ _ _ _ (no_jumps_less v (subst (λ n. n < 32768) (sym is) (and_of_mixed Lower Upper h))) (omega arith) (omega arith)) w (places _ (omega arith) (omega arith))
        (differs (subst Ends (ordered_mixed j t Lower Upper h) ends) (begin + 24) v (omega arith) small)
    by_both (inr h) v is small w ends =
        jump image inside IF_D_LESS (state (begin + 24) v) (begin + 15) (begin + 24) 13 (part 15 1).0 (refl, refl, taken _ _ _ _ (jumps_less v (subst (λ n. 32768 ≤ n) (sym is) (and_of_negative Lower Upper h.0 h.1 (words _) (words _)))) refl (omega arith)) w (places _ (omega arith) (omega arith))
        (subtracts (subst Ends (ordered_negative j t Lower Upper h.0 h.1) ends) (begin + 24) v (omega arith) small)

    -- one of the two is negative
    some_negative : (32768 ≤ Lower) ⊎ (32768 ≤ Upper) → Ends (ordered j t Lower Upper) → (a d : ℕ) → a < 65536 → d < 65536 → Does image inside last ⊥ goal 20 (at (begin + 9) (state a d))
    some_negative some ends a d ha hd =
        let v = bit_and Upper (m ((m 0 + 65535) % 65536)) in
        let is : v ≡ bit_and Upper Lower = ap (bit_and Upper) lower_is in
        let small : v < 65536 = and_lt 16 Upper _ (words _) (words _) in
        let w = state_words (begin + 24) v (omega arith) small in
        block image inside (piece 9 6) (state a d) (begin + 9) (begin + 15) 14 (part 9 6) (search arith) (state_words a d ha hd) (omega arith) (omega arith) (inner 9 15 (omega arith))
        (by_both (signs Lower Upper some) v is small w ends)

    -- from the jump on the sign of either
    by_any : ((Lower < 32768) × (Upper < 32768)) ⊎ ((32768 ≤ Lower) ⊎ (32768 ≤ Upper)) → (v : ℕ) → v ≡ bit_or Upper Lower → v < 65536 → AreWords (state (begin + 24) v) → Ends (ordered j t Lower Upper) → Does image inside last ⊥ goal 21 (at (begin + 8) (state (begin + 24) v))
    by_any (inl h) v is small w ends =
        jump image inside IF_D_NOT_LESS (state (begin + 24) v) (begin + 8) (begin + 24) 20 (part 8 1).0 (refl, refl, taken _ _ _ _ (jumps_not_less v (subst (λ n. n < 32768) (sym is) (or_lt 15 Upper Lower h.1 h.0))) refl (omega arith)) w (places _ (omega arith) (omega arith))
        (within 13 20 _ (omega arith) (subtracts (subst Ends (ordered_positive j t Lower Upper h.0 h.1) ends) (begin + 24) v (omega arith) small))
    by_any (inr h) v is small w ends =
        jump image inside IF_D_NOT_LESS (state (begin + 24) v) (begin + 8) (begin + 9) 20 (part 8 1).0 (refl, refl, not_taken _ _ _ _ (no_jumps_not_less v (subst (λ n. 32768 ≤ n) (sym is) (or_of_negative Lower Upper h))) (omega arith) (omega arith)) w (places _ (omega arith) (omega arith))
        (some_negative h ends (begin + 24) v (omega arith) small)

    ordered_to : (a d : ℕ) → a < 65536 → d < 65536 → a ≡ m 0 - 1 → d ≡ Upper → Ends (ordered j t Lower Upper) → Does image inside last ⊥ goal 23 (at (begin + 6) (state a d))
    ordered_to a d ha hd a_is d_is ends =
        let v = bit_or d (m a) in
        let is : v ≡ bit_or Upper Lower = ap (λ k. bit_or d (m k)) a_is ∙ ap (λ n. bit_or n Lower) d_is in
        let small : v < 65536 = or_lt 16 d (m a) hd (words _) in
        let w = state_words (begin + 24) v (omega arith) small in
        block image inside (piece 6 2) (state a d) (begin + 6) (begin + 8) 21 (part 6 2) (search arith) (state_words a d ha hd) (omega arith) (omega arith) (inner 6 8 (omega arith))
        (by_any (any_signs Lower Upper) v is small w ends)

-- what a comparison does, from what follows its beginning
joined_from : (x y : Data) (after : ℕ → ℕ) (v : ℕ) → 258 ≤ x.m 0 → x.m 0 ≤ 2048 → Begun x y → Turned y.m after v → Joined x.m after v
joined_from x y after v low high b t =
    let sp = b.sp in
    let z : y.m 0 - 1 ≡ x.m 0 - 2 = omega arith in
    record {
      sp = t.same 0 (omega arith) ∙ sp;
      top = subst (λ k. after k ≡ v) z t.top;
      same = λ k h e. t.same k (omega arith) ∙ b.same k h.0 h.2;
    }

values_kept : (f : ℕ → ℕ → ℕ) (x y : Data) → 258 ≤ x.m 0 → x.m 0 ≤ 2048 → Begun x y → f (y.m (y.m 0 - 1)) (y.m (y.m 0)) ≡ f (x.m (x.m 0 - 2)) (x.m (x.m 0 - 1))
values_kept f x y low high b =
    let sp = b.sp in
    let lower : y.m (y.m 0 - 1) ≡ x.m (x.m 0 - 2) = b.same _ (omega arith) (omega arith) ∙ ap x.m (let z : y.m 0 - 1 ≡ x.m 0 - 2 = omega arith in z) in
    let upper : y.m (y.m 0) ≡ x.m (x.m 0 - 1) = b.same _ (omega arith) (omega arith) ∙ ap x.m sp in
    ap (λ v. f v (y.m (y.m 0))) lower ∙ ap (f (x.m (x.m 0 - 2))) upper

equal_is : (x y : ℕ) → x < 65536 → y < 65536 → decided 2 (word_sub x y) ≡ equal x y
unfolding equal jumps
equal_is x y hx hy = grind (arith, nat_tests)

-- the routine of `eq`, where the address to come back to is in D
equal_routine_goes : (image : List ℕ) (inside : ℕ → Type 0) (here back : ℕ) (x : Data) → Stands image here (equal_routine here) → here + 16 ≤ 32768 → ((k : ℕ) → here ≤ k → k < here + 15 → inside k) → AreWords x → x.d ≡ back → back < 32768 → 258 ≤ x.m 0 → x.m 0 ≤ 2048
    → {goal : Machine → Type 0} → ((y : Data) → AreWords y → Joined x.m y.m (equal (x.m (x.m 0 - 2)) (x.m (x.m 0 - 1))) → goal (at back y)) → Does image inside (here + 15) ⊥ goal 15 (at here x)
equal_routine_goes image inside here back x st fits places w d back_low low high {goal} go =
    let code = equal_routine here in
    let p = begin_does x low high in
    block_then image inside (take 6 code) x here (here + 6) 9 (λ y. Begun x y) (up_to image here 6 code st) p.1 w refl (omega arith) (λ k a b. places k a (omega arith)) p.0
    (λ y wy b.
    let sp = b.sp in
    let value : decided 2 (word_sub (y.m (y.m 0 - 1)) (y.m (y.m 0))) ≡ equal (x.m (x.m 0 - 2)) (x.m (x.m 0 - 1)) = values_kept (λ u v. decided 2 (word_sub u v)) x y low high b ∙ equal_is _ _ (w.m_words _) (w.m_words _) in
    subtracts_to image inside here (here + 15) back (omega arith) places back_low y.m wy.m_words (omega arith) (omega arith) (b.waits ∙ d) goal (here + 6) 2 y.a y.d (from_place image here 6 code st) (omega arith) (omega arith) b.address b.upper wy.a_word wy.d_word
    (λ z wz t. go z wz (joined_from x y z.m _ low high b (subst (Turned y.m z.m) value t))))

-- the routine of `gt` or `lt`, where the address to come back to is in D
order_routine_goes : (image : List ℕ) (inside : ℕ → Type 0) (here back j t : ℕ) (x : Data) → Stands image here (order_routine (Compute false 12 0 j) (Compute false 12 0 t) here) → here + 38 ≤ 32768 → ((k : ℕ) → here ≤ k → k < here + 37 → inside k) → AreWords x → x.d ≡ back → back < 32768 → 258 ≤ x.m 0 → x.m 0 ≤ 2048
    → {goal : Machine → Type 0} → ((y : Data) → AreWords y → Joined x.m y.m (ordered j t (x.m (x.m 0 - 2)) (x.m (x.m 0 - 1))) → goal (at back y)) → Does image inside (here + 37) ⊥ goal 29 (at here x)
order_routine_goes image inside here back j t x st fits places w d back_low low high {goal} go =
    let code = order_routine (Compute false 12 0 j) (Compute false 12 0 t) here in
    let p = begin_does x low high in
    block_then image inside (take 6 code) x here (here + 6) 23 (λ y. Begun x y) (up_to image here 6 code st) p.1 w refl (omega arith) (λ k a b. places k a (omega arith)) p.0
    (λ y wy b.
    let sp = b.sp in
    ordered_to image inside here (here + 37) back (omega arith) places back_low y.m wy.m_words (omega arith) (omega arith) (b.waits ∙ d) goal j t st refl y.a y.d wy.a_word wy.d_word b.address b.upper
    (λ z wz u. go z wz (joined_from x y z.m _ low high b (subst (Turned y.m z.m) (values_kept (ordered j t) x y low high b) u))))

-- The command stands at `here`, and its routine at `there`.
module _ (image : List ℕ) (inside : ℕ → Type 0) (here there : ℕ) (own : (k : ℕ) → here ≤ k → k < here + 4 → inside k) (low : here + 4 ≤ 32768) (x : Data) (w : AreWords x) where
  abbrev lower : ℕ
  lower = x.m (x.m 0 - 2)

  abbrev upper : ℕ
  upper = x.m (x.m 0 - 1)

  -- to the routine, with the address to come back to in D
  through : (back n : ℕ) → back < 32768 → there < 32768 → Stands image here (compare_by there back)
      → {last : ℕ} {goal : Machine → Type 0} → (AreWords (record x { a = there; d = back }) → Does image inside last ⊥ goal n (at there (record x { a = there; d = back }))) → Does image inside last ⊥ goal (3 + suc n) (at here x)
  through back n small room st {last} {goal} go =
      let code = compare_by there back in
      let x1 : Data = record x { a = there; d = back } in
      let w1 : AreWords x1 = record { a_word = omega arith; d_word = omega arith; m_words = w.m_words } in
      block image inside (take 3 code) x here (here + 3) (suc n) (up_to image here 3 code st) (search arith) w refl (omega arith) (λ k p q. own k p (omega arith))
      (jump image inside JUMP x1 (here + 3) there n (from_place image here 3 code st).0 (refl, refl, taken _ _ _ _ (jumps_always 0) refl room) w1 (own _ (omega arith) (omega arith)) (go w1))

  pub eq_goes : (back : ℕ) → back < 32768 → there + 16 ≤ 32768 → ((k : ℕ) → there ≤ k → k < there + 15 → inside k) → Stands image here (compare_by there back) → Stands image there (equal_routine there) → 258 ≤ x.m 0 → x.m 0 ≤ 2048
      → {goal : Machine → Type 0} → ((y : Data) → AreWords y → Joined x.m y.m (equal lower upper) → goal (at back y)) → Does image inside (there + 15) ⊥ goal 19 (at here x)
  eq_goes back small room shared st routine two high go =
      through back 15 small (omega arith) st (λ w1. equal_routine_goes image inside there back (record x { a = there; d = back }) routine room shared w1 refl small two high go)

  pub gt_goes : (back : ℕ) → back < 32768 → there + 38 ≤ 32768 → ((k : ℕ) → there ≤ k → k < there + 37 → inside k) → Stands image here (compare_by there back) → Stands image there (order_routine IF_D_GREATER IF_D_NOT_LESS there) → 258 ≤ x.m 0 → x.m 0 ≤ 2048
      → {goal : Machine → Type 0} → ((y : Data) → AreWords y → Joined x.m y.m (greater lower upper) → goal (at back y)) → Does image inside (there + 37) ⊥ goal 33 (at here x)
  gt_goes back small room shared st routine two high go =
      through back 29 small (omega arith) st (λ w1. order_routine_goes image inside there back 1 3 (record x { a = there; d = back }) routine room shared w1 refl small two high
      (λ y wy p. go y wy (subst (Joined x.m y.m) (greater_is lower upper (w.m_words _) (w.m_words _)) p)))

  pub lt_goes : (back : ℕ) → back < 32768 → there + 38 ≤ 32768 → ((k : ℕ) → there ≤ k → k < there + 37 → inside k) → Stands image here (compare_by there back) → Stands image there (order_routine IF_D_LESS IF_D_LESS there) → 258 ≤ x.m 0 → x.m 0 ≤ 2048
      → {goal : Machine → Type 0} → ((y : Data) → AreWords y → Joined x.m y.m (less lower upper) → goal (at back y)) → Does image inside (there + 37) ⊥ goal 33 (at here x)
  lt_goes back small room shared st routine two high go =
      through back 29 small (omega arith) st (λ w1. order_routine_goes image inside there back 4 4 (record x { a = there; d = back }) routine room shared w1 refl small two high
      (λ y wy p. go y wy (subst (Joined x.m y.m) (less_is lower upper (w.m_words _) (w.m_words _)) p)))
