-- The routines of Screen that a pixel takes: each straight piece of their runs is a computation.
use Rattle.std.proofs.Common.{◌≡◌, ◌⊎◌, ⊎_elim, ℕ, zero, suc, ◌+◌, ◌-◌, ◌*◌, ◌/◌, ◌%◌, ◌^◌, ◌<◌, ◌≤◌, bit_and, bit_or, List, [], ◌∷◌, Some, refl, sym, ap, ◌∙◌, arith, mul-le-mul_left}
use Rattle.std.specs.Prelude.{slice_index, slice_set}
use Rattle.std.proofs.lemmas.Nat.{and_mask, pow_pos}
use Rattle.std.proofs.lemmas.Nat.Bits.{and_pow, bit_at-lt}
use Rattle.word16.specs.Words.{word_add, word_sub, word_not}
use Rattle.jack_meaning.specs.Text.{Argument, Complement, And, Or, Expression, Literal, Value, Name, Unary, Binary, Load, Call as Calling, NoMore, More, Store, Do, Return, Text, End, Next, Subroutine}
use Rattle.os_laws.specs.Heap.{word_at}
use Rattle.os_laws.specs.Numbers.{bit}
use Rattle.os_laws.proofs.Runs.{Call, run, run_then}
use Rattle.os_laws.proofs.Searching.{Reaches}
use Rattle.os_functions.proofs.Pieces.{in_call, tail, returns_value, erring}
use Rattle.os_functions.proofs.Texts.{init_body, colour_body, pixel_body, paint_body, place_body, place_loop, bit_body, bit_loop}

module _ (subs : List Subroutine) (g : ℕ) (ss ws : List ℕ) where
  abbrev pub at_text : Text → List ℕ → List ℕ → Call
  at_text t xs ls = in_call g 0 ss ws t xs ls

  -- ---- the colour

  pub colour_begun : (black : ℕ) → run subs 3 (at_text (init_body black) [] []) ≡ Some (in_call g 0 (slice_set ss black 65535) ws (returns_value 2 0 End) [] [])
  colour_begun black = refl

  pub colour_set : (black v : ℕ) → run subs 3 (at_text (colour_body black) (v ∷ []) []) ≡ Some (in_call g 0 (slice_set ss black v) ws (returns_value 2 0 End) (v ∷ []) [])
  colour_set black v = refl

  -- ---- the word of a pixel

  abbrev at_place : ℕ → ℕ → ℕ → Call
  at_place x y n = at_text place_loop (x ∷ y ∷ []) (n ∷ [])

  place_clear : (x y m x' y' m' : ℕ) → word_add y y ≡ y' → bit_and x 256 ≡ 0 → word_add x x ≡ x' → word_sub (suc m) 1 ≡ m' → run subs 18 (at_place x y (suc m)) ≡ Some (at_place x' y' m')
  place_clear x y m x' y' m' hy h hx hm = rw (hy, h, hx, hm) refl

  place_set : (x y m x' z y' m' : ℕ) → word_add y y ≡ z → bit_and x 256 ≡ 256 → word_add z 1 ≡ y' → word_add x x ≡ x' → word_sub (suc m) 1 ≡ m' → run subs 22 (at_place x y (suc m)) ≡ Some (at_place x' y' m')
  place_set x y m x' z y' m' hy h hz hx hm = rw (hy, h, hz, hx, hm) refl

  place_begins : (x y : ℕ) → run subs 2 (at_text place_body (x ∷ y ∷ []) (0 ∷ [])) ≡ Some (at_place x y 5)
  place_begins x y = refl

  place_ends : (x y : ℕ) → run subs 5 (at_place x y 0) ≡ Some (at_text (returns_value 8 (word_add y 16384) End) (x ∷ y ∷ []) (0 ∷ []))
  place_ends x y = refl

  bit_is : (x b : ℕ) → bit x 8 ≡ b → bit_and x 256 ≡ b * 256
  bit_is x b h = and_pow x 8 ∙ ap (λ z. z * 256) h

  two : (b : ℕ) → b < 2 → (b ≡ 0) ⊎ (b ≡ 1)
  two b h = grind arith

  -- a turn, which brings one bit of x
  place_turn : (x y m x' y' m' : ℕ) → x < 32768 → y < 16384 → 2 * y + bit x 8 ≡ y' → x + x ≡ x' → m' + 1 ≡ suc m → suc m < 65536 → (n : ℕ) × (n ≤ 22) × (run subs n (at_place x y (suc m)) ≡ Some (at_place x' y' m'))
  place_turn x y m x' y' m' lx ly hy hx hm few =
      let a : word_add x x ≡ x' = omega (arith, lx, hx) in
      let d : word_sub (suc m) 1 ≡ m' = omega (arith, hm, few) in
      ⊎_elim
      (λ (z : bit x 8 ≡ 0). let e : word_add y y ≡ y' = omega (arith, ly, hy, z) in (18, omega arith, place_clear x y m x' y' m' e (bit_is x 0 z) a d))
      (λ (o : bit x 8 ≡ 1). let e : word_add y y ≡ y + y = omega (arith, ly) in let f : word_add (y + y) 1 ≡ y' = omega (arith, ly, hy, o) in (22, omega arith, place_set x y m x' (y + y) y' m' e (bit_is x 1 o) f a d))
      (two (bit x 8) (bit_at-lt x 8))

  pub places : (x y : ℕ) → x < 512 → y < 256
      → (n : ℕ) × (n ≤ 117) × (z : ℕ) × (run subs n (at_text place_body (x ∷ y ∷ []) (0 ∷ [])) ≡ Some (at_text (returns_value 8 (16384 + 32 * y + x / 16) End) (z ∷ (32 * y + x / 16) ∷ []) (0 ∷ [])))
  places x y hx hy =
      let (n1, l1, r1) = place_turn x y 4 (2 * x) (2 * y + x / 256) 4 (omega (arith, hx)) (omega (arith, hy)) (omega (arith, hx)) (omega arith) refl (omega arith) in
      let (n2, l2, r2) = place_turn (2 * x) (2 * y + x / 256) 3 (4 * x) (4 * y + x / 128) 3 (omega (arith, hx)) (omega (arith, hx, hy)) (omega (arith, hx)) (omega arith) refl (omega arith) in
      let (n3, l3, r3) = place_turn (4 * x) (4 * y + x / 128) 2 (8 * x) (8 * y + x / 64) 2 (omega (arith, hx)) (omega (arith, hx, hy)) (omega (arith, hx)) (omega arith) refl (omega arith) in
      let (n4, l4, r4) = place_turn (8 * x) (8 * y + x / 64) 1 (16 * x) (16 * y + x / 32) 1 (omega (arith, hx)) (omega (arith, hx, hy)) (omega (arith, hx)) (omega arith) refl (omega arith) in
      let (n5, l5, r5) = place_turn (16 * x) (16 * y + x / 32) 0 (32 * x) (32 * y + x / 16) 0 (omega (arith, hx)) (omega (arith, hx, hy)) (omega (arith, hx)) (omega arith) refl (omega arith) in
      let s0 = at_text place_body (x ∷ y ∷ []) (0 ∷ []) in
      let t0 = at_place x y 5 in
      let t1 = at_place (2 * x) (2 * y + x / 256) 4 in
      let t2 = at_place (4 * x) (4 * y + x / 128) 3 in
      let t3 = at_place (8 * x) (8 * y + x / 64) 2 in
      let t4 = at_place (16 * x) (16 * y + x / 32) 1 in
      let t5 = at_place (32 * x) (32 * y + x / 16) 0 in
      let last = at_text (returns_value 8 (16384 + 32 * y + x / 16) End) (32 * x ∷ (32 * y + x / 16) ∷ []) (0 ∷ []) in
      let sum : word_add (32 * y + x / 16) 16384 ≡ 16384 + 32 * y + x / 16 = omega (arith, hx, hy) in
      let ends : run subs 5 t5 ≡ Some last = place_ends (32 * x) (32 * y + x / 16) ∙ ap (λ (v : ℕ). Some (at_text (returns_value 8 v End) (32 * x ∷ (32 * y + x / 16) ∷ []) (0 ∷ []))) sum in (
        2 + (n1 + (n2 + (n3 + (n4 + (n5 + 5))))),
        omega (arith, l1, l2, l3, l4, l5),
        32 * x,
        run_then subs 2 (n1 + (n2 + (n3 + (n4 + (n5 + 5))))) s0 t0 last (place_begins x y)
            (run_then subs n1 (n2 + (n3 + (n4 + (n5 + 5)))) t0 t1 last r1
            (run_then subs n2 (n3 + (n4 + (n5 + 5))) t1 t2 last r2
            (run_then subs n3 (n4 + (n5 + 5)) t2 t3 last r3
            (run_then subs n4 (n5 + 5) t3 t4 last r4
            (run_then subs n5 5 t4 t5 last r5 ends))))),
      )

  -- ---- the bit of a pixel

  abbrev at_bit : ℕ → ℕ → Call
  at_bit k b = at_text bit_loop (k ∷ []) (b ∷ [])

  bit_begins : (x k : ℕ) → bit_and x 15 ≡ k → run subs 6 (at_text bit_body (x ∷ []) (0 ∷ [])) ≡ Some (at_bit k 1)
  bit_begins x k h = rw h refl

  bit_turn : (k b c k' : ℕ) → word_add b b ≡ c → word_sub (suc k) 1 ≡ k' → run subs 10 (at_bit (suc k) b) ≡ Some (at_bit k' c)
  bit_turn k b c k' h e = rw (h, e) refl

  bit_ends : (b : ℕ) → run subs 3 (at_bit 0 b) ≡ Some (at_text (returns_value 6 b End) (0 ∷ []) (b ∷ []))
  bit_ends b = refl

  bit_turns : (k b v : ℕ) → k < 16 → b * 2 ^ k ≡ v → v < 65536 → run subs (10 * k + 3) (at_bit k b) ≡ Some (at_text (returns_value 6 v End) (0 ∷ []) (v ∷ []))
  bit_turns zero b v h e few = bit_ends b ∙ ap (λ (z : ℕ). Some (at_text (returns_value 6 z End) (0 ∷ []) (z ∷ []))) (let m : b ≡ v = omega (arith, e) in m)
  bit_turns (suc k) b v h e few =
      let twice : 2 ^ suc k ≡ 2 * 2 ^ k = omega arith in
      let e' : (b + b) * 2 ^ k ≡ v = (let m : (b + b) * 2 ^ k ≡ b * (2 * 2 ^ k) = omega arith in m) ∙ ap (λ z. b * z) (sym twice) ∙ e in
      let least : (b + b) * 1 ≤ (b + b) * 2 ^ k = mul-le-mul_left (b + b) (pow_pos k) in
      let count : 10 * suc k + 3 ≡ 10 + (10 * k + 3) = omega arith in
      let sum : word_add b b ≡ b + b = omega (arith, least, e', few) in
      let less : word_sub (suc k) 1 ≡ k = omega (arith, h) in
      ap (λ n. run subs n (at_bit (suc k) b)) count
      ∙ run_then subs 10 (10 * k + 3) (at_bit (suc k) b) (at_bit k (b + b)) (at_text (returns_value 6 v End) (0 ∷ []) (v ∷ [])) (bit_turn k b (b + b) k sum less) (bit_turns k (b + b) v (omega (arith, h)) e' few)

  pub bits : (x v : ℕ) → 2 ^ (x % 16) ≡ v → v < 65536 → run subs (6 + (10 * (x % 16) + 3)) (at_text bit_body (x ∷ []) (0 ∷ [])) ≡ Some (at_text (returns_value 6 v End) (0 ∷ []) (v ∷ []))
  bits x v e few =
      let k = x % 16 in
      let one : 1 * 2 ^ k ≡ v = (let m : 1 * 2 ^ k ≡ 2 ^ k = omega arith in m) ∙ e in
      let low : bit_and x 15 ≡ k = low_bits x in
      run_then subs 6 (10 * k + 3) (at_text bit_body (x ∷ []) (0 ∷ [])) (at_bit k 1) (at_text (returns_value 6 v End) (0 ∷ []) (v ∷ [])) (bit_begins x k low) (bit_turns k 1 v (omega arith) one few)
    where
      low_bits : (x : ℕ) → bit_and x 15 ≡ x % 16
      low_bits x = and_mask x 4

  -- ---- painting, where d is the address of the word

  abbrev paint_ends : Text
  paint_ends = Next (Return 4 (Literal 0)) End

  abbrev sets : Expression → Expression → Expression → Text
  sets a i w = Next (Store 2 a i (Binary Or w (Name (Argument 1)))) paint_ends

  abbrev clears : Expression → Expression → Expression → Text
  clears a i w = Next (Store 3 a i (Binary And w (Unary Complement (Name (Argument 1))))) paint_ends

  abbrev word_here : Expression
  word_here = Load (Name (Argument 0)) (Literal 0)

  abbrev to_set : Text
  to_set = sets (Name (Argument 0)) (Literal 0) word_here

  abbrev to_clear : Text
  to_clear = clears (Name (Argument 0)) (Literal 0) word_here

  chooses_set : (black a b m : ℕ) → slice_index ss black ≡ suc m → run subs 2 (at_text (paint_body black) (a ∷ b ∷ []) []) ≡ Some (at_text to_set (a ∷ b ∷ []) [])
  chooses_set black a b m h = rw h refl

  chooses_clear : (black a b : ℕ) → slice_index ss black ≡ 0 → run subs 2 (at_text (paint_body black) (a ∷ b ∷ []) []) ≡ Some (at_text to_clear (a ∷ b ∷ []) [])
  chooses_clear black a b h = rw h refl

  loads_set : (a b : ℕ) → Reaches a 0 a → run subs 5 (at_text to_set (a ∷ b ∷ []) []) ≡ Some (at_text (sets (Value a) (Value 0) (Value (word_at ws a))) (a ∷ b ∷ []) [])
  loads_set a b r = rw (r.at, r.low, r.high) refl

  loads_clear : (a b : ℕ) → Reaches a 0 a → run subs 5 (at_text to_clear (a ∷ b ∷ []) []) ≡ Some (at_text (clears (Value a) (Value 0) (Value (word_at ws a))) (a ∷ b ∷ []) [])
  loads_clear a b r = rw (r.at, r.low, r.high) refl

  stores_set : (a b w : ℕ) → Reaches a 0 a
      → run subs 4 (at_text (sets (Value a) (Value 0) (Value w)) (a ∷ b ∷ []) []) ≡ Some (in_call g 0 ss (slice_set ws (a - 2048) (bit_or w b)) (returns_value 4 0 End) (a ∷ b ∷ []) [])
  stores_set a b w r = rw (r.at, r.low, r.high) refl

  stores_clear : (a b w : ℕ) → Reaches a 0 a
      → run subs 5 (at_text (clears (Value a) (Value 0) (Value w)) (a ∷ b ∷ []) []) ≡ Some (in_call g 0 ss (slice_set ws (a - 2048) (bit_and w (word_not b))) (returns_value 4 0 End) (a ∷ b ∷ []) [])
  stores_clear a b w r = rw (r.at, r.low, r.high) refl

  abbrev pub painted : List ℕ → ℕ → ℕ → Call
  painted ws' a b = in_call g 0 ss ws' (returns_value 4 0 End) (a ∷ b ∷ []) []

  pub paints_black : (black a b m : ℕ) → slice_index ss black ≡ suc m → Reaches a 0 a → run subs 11 (at_text (paint_body black) (a ∷ b ∷ []) []) ≡ Some (painted (slice_set ws (a - 2048) (bit_or (word_at ws a) b)) a b)
  paints_black black a b m h r =
      let last = painted (slice_set ws (a - 2048) (bit_or (word_at ws a) b)) a b in
      run_then subs 2 9 (at_text (paint_body black) (a ∷ b ∷ []) []) (at_text to_set (a ∷ b ∷ []) []) last (chooses_set black a b m h)
      (run_then subs 5 4 (at_text to_set (a ∷ b ∷ []) []) (at_text (sets (Value a) (Value 0) (Value (word_at ws a))) (a ∷ b ∷ []) []) last (loads_set a b r) (stores_set a b (word_at ws a) r))

  pub paints_white : (black a b : ℕ) → slice_index ss black ≡ 0 → Reaches a 0 a → run subs 12 (at_text (paint_body black) (a ∷ b ∷ []) []) ≡ Some (painted (slice_set ws (a - 2048) (bit_and (word_at ws a) (word_not b))) a b)
  paints_white black a b h r =
      let last = painted (slice_set ws (a - 2048) (bit_and (word_at ws a) (word_not b))) a b in
      run_then subs 2 10 (at_text (paint_body black) (a ∷ b ∷ []) []) (at_text to_clear (a ∷ b ∷ []) []) last (chooses_clear black a b h)
      (run_then subs 5 5 (at_text to_clear (a ∷ b ∷ []) []) (at_text (clears (Value a) (Value 0) (Value (word_at ws a))) (a ∷ b ∷ []) []) last (loads_clear a b r) (stores_clear a b (word_at ws a) r))

  -- ---- drawPixel around these calls

  abbrev pub pixel_ends : Text
  pixel_ends = Next (Return 4 (Literal 0)) End

  abbrev pub paint_call : ℕ → Expression → Expression → Text
  paint_call paint a b = Next (Do 3 (Calling paint (More a (More b NoMore)))) pixel_ends

  abbrev pub bit_call : ℕ → Expression → Expression
  bit_call bit_at x = Calling bit_at (More x NoMore)

  abbrev pub place_call : ℕ → ℕ → ℕ → Expression
  place_call place x y = Calling place (More (Value x) (More (Value y) NoMore))

  pub pixel_begins : (error paint place bit_at x y : ℕ) → bit_and x 65024 ≡ 0 → bit_and y 65280 ≡ 0
      → run subs 12 (at_text (pixel_body error paint place bit_at) (x ∷ y ∷ []) []) ≡ Some (at_text (paint_call paint (place_call place x y) (bit_call bit_at (Name (Argument 0)))) (x ∷ y ∷ []) [])
  pixel_begins error paint place bit_at x y hx hy = rw (hx, hy) refl

  pub pixel_middle : (paint bit_at a x y : ℕ) → run subs 1 (at_text (paint_call paint (Value a) (bit_call bit_at (Name (Argument 0)))) (x ∷ y ∷ []) []) ≡ Some (at_text (paint_call paint (Value a) (bit_call bit_at (Value x))) (x ∷ y ∷ []) [])
  pixel_middle paint bit_at a x y = refl

  pub pixel_done : (x y : ℕ) → run subs 2 (at_text (Next (Do 3 (Value 0)) pixel_ends) (x ∷ y ∷ []) []) ≡ Some (at_text (returns_value 4 0 End) (x ∷ y ∷ []) [])
  pixel_done x y = refl

  pub pixel_refused : (error paint place bit_at x y a b m : ℕ) → bit_and x 65024 ≡ a → bit_and y 65280 ≡ b → bit_or a b ≡ suc m
      → run subs 11 (at_text (pixel_body error paint place bit_at) (x ∷ y ∷ []) []) ≡ Some (at_text (erring error 7 (tail (pixel_body error paint place bit_at))) (x ∷ y ∷ []) [])
  pixel_refused error paint place bit_at x y a b m hx hy h = rw (hx, hy, h) refl
