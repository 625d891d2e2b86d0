-- The points of a slanting line while it is drawn.
use Rattle.std.proofs.Common.{◌≡◌, ◌≢◌, ◌⊎◌, inl, inr, ⊎_elim, ℕ, ◌+◌, ◌-◌, ◌*◌, ◌%◌, ◌^◌, ◌<◌, ◌≤◌, min, max, List, length, refl, sym, ap, ◌∙◌, subst, arith}
use Rattle.std.specs.Prelude.{slice_set}
use Rattle.std.proofs.lemmas.Bool.{cases_lt}
use Rattle.std.proofs.lemmas.List.{length-set}
use Rattle.std.proofs.lemmas.Nat.{mul-le, pow_below}
use Rattle.std.proofs.lemmas.Nat.Bits.{bit_at-pow_same, bit_at-pow_other}
use Rattle.word16.specs.Words.{word_add, word_sub}
use Rattle.os_laws.specs.Heap.{word_at}
use Rattle.os_laws.specs.Numbers.{bit}
use Rattle.os_laws.proofs.Storing.{other_word}
use Rattle.os_functions.specs.LineLaws.{distance, IsBeside}
use Rattle.os_functions.specs.PrintLaws.{pixel}
use Rattle.os_functions.specs.RectangleLaws.{InRectangle, IsColoured}
use Rattle.os_functions.specs.ScreenLaws.{pixel_address}
use Rattle.os_functions.proofs.FillFacts.{brush, ink, hit, miss, brush_small}
use Rattle.os_functions.proofs.StringFacts.{same_or_not, this_word}

-- ---- from one end to the other, in steps of one

pub record Along (z1 z2 limit step : ℕ) (at : ℕ → ℕ) : Type 0 where
  pub first : at 0 ≡ z1
  pub next : (a : ℕ) → a < distance z1 z2 → word_add (at a) step ≡ at (a + 1)
  pub small : (a : ℕ) → a ≤ distance z1 z2 → at a < limit
  pub there : (a : ℕ) → a ≤ distance z1 z2 → distance z1 (at a) ≡ a
  pub low : (a : ℕ) → a ≤ distance z1 z2 → min z1 z2 ≤ at a
  pub high : (a : ℕ) → a ≤ distance z1 z2 → at a ≤ max z1 z2
  pub far : (z : ℕ) → min z1 z2 ≤ z → z ≤ max z1 z2 → distance z1 z ≤ distance z1 z2
  pub back : (z : ℕ) → min z1 z2 ≤ z → z ≤ max z1 z2 → at (distance z1 z) ≡ z

pub upward : (z1 z2 limit : ℕ) → z1 < z2 → z2 < limit → limit ≤ 512 → Along z1 z2 limit 1 (λ a. z1 + a)
upward z1 z2 limit h k l = record {
  first = omega arith;
  next = λ a m. (let e : word_add (z1 + a) 1 ≡ z1 + (a + 1) = omega (arith, m, h, k, l) in e);
  small = λ a m. omega (arith, m, h, k);
  there = λ a m. omega arith;
  low = λ a m. omega (arith, h);
  high = λ a m. omega (arith, m, h);
  far = λ z m n. omega (arith, m, n, h);
  back = λ z m n. omega (arith, m, n, h);
}

pub downward : (z1 z2 limit : ℕ) → z2 < z1 → z1 < limit → limit ≤ 512 → Along z1 z2 limit 65535 (λ a. z1 - a)
downward z1 z2 limit h k l = record {
  first = omega arith;
  next = λ a m. (let e : word_add (z1 - a) 65535 ≡ z1 - (a + 1) = omega (arith, m, h, k, l) in e);
  small = λ a m. omega (arith, k);
  there = λ a m. omega (arith, m, h);
  low = λ a m. omega (arith, m, h);
  high = λ a m. omega (arith, h);
  far = λ z m n. omega (arith, m, n, h);
  back = λ z m n. omega (arith, m, n, h);
}

-- ---- the points beside the true line

module _ (dx dy : ℕ) (some_x : 0 < dx) (some_y : 0 < dy) where
  pub begins : IsBeside dx dy 0 0
  begins = (omega (arith, some_y), omega arith)

  pub goes_x : (a b : ℕ) → IsBeside dx dy a b → a * dy < b * dx → IsBeside dx dy (a + 1) b
  goes_x a b h l = (omega (arith, l), omega (arith, h))

  pub goes_y : (a b : ℕ) → IsBeside dx dy a b → b * dx ≤ a * dy → IsBeside dx dy a (b + 1)
  goes_y a b h l = (omega (arith, h), omega (arith, l))

  -- two with the same number of steps are one
  less_none : (a b a' b' : ℕ) → IsBeside dx dy a b → IsBeside dx dy a' b' → a + b ≡ a' + b' → a < a' → ⊥
  less_none a b a' b' h h' e l =
      let up : (a + 1) * dy ≤ a' * dy = mul-le (a + 1) dy a' dy (omega (arith, l)) (omega arith) in
      let down : (b' + 1) * dx ≤ b * dx = mul-le (b' + 1) dx b dx (omega (arith, l, e)) (omega arith) in
      omega (arith, h, h', up, down)

  pub unique : (a b a' b' : ℕ) → IsBeside dx dy a b → IsBeside dx dy a' b' → a + b ≡ a' + b' → a ≡ a'
  unique a b a' b' h h' e =
      ⊎_elim (λ (l : a < a'). absurd (less_none a b a' b' h h' e l))
      (λ (g : a' ≤ a). ⊎_elim (λ (l : a' < a). absurd (less_none a' b' a b h' h (sym e) l)) (λ (k : a ≤ a'). let f : a ≡ a' = omega (arith, g, k) in f) (cases_lt a' a))
      (cases_lt a a')

  -- no step leads past the second end
  pub in_width : (a b : ℕ) → IsBeside dx dy a b → b ≤ dy → a ≤ dx
  in_width a b h l =
      ⊎_elim
      (λ (k : dx < a).
      let up : (dx + 1) * dy ≤ a * dy = mul-le (dx + 1) dy a dy (omega (arith, k)) (omega arith) in
      let low : b * dx ≤ dy * dx = mul-le b dx dy dx l (omega arith) in
      absurd (omega (arith, h, up, low)))
      (λ (k : a ≤ dx). k)
      (cases_lt dx a)

  pub at_end : (a b : ℕ) → IsBeside dx dy a b → b ≡ dy + 1 → dx ≤ a
  at_end a b h e =
      ⊎_elim
      (λ (k : a < dx).
      let up : (a + 1) * dy ≤ dx * dy = mul-le (a + 1) dy dx dy (omega (arith, k)) (omega arith) in
      let low : (dy + 1) * dx ≤ b * dx = mul-le (dy + 1) dx b dx (omega (arith, e)) (omega arith) in
      absurd (omega (arith, h, up, low, some_y)))
      (λ (k : dx ≤ a). k)
      (cases_lt a dx)

-- ---- the word that decides the side

pub data Side (dx dy a b d : ℕ) : Type 0 where
  is_below : a * dy < b * dx → d ≡ 65536 - (b * dx - a * dy) → Side dx dy a b d
  is_above : b * dx ≤ a * dy → d ≡ a * dy - b * dx → Side dx dy a b d

pub side_x : (dx dy a b d : ℕ) → dx < 512 → dy < 512 → IsBeside dx dy a b → a * dy < b * dx → d ≡ 65536 - (b * dx - a * dy) → Side dx dy (a + 1) b (word_add d dy)
side_x dx dy a b d hx hy h l e =
    ⊎_elim
    (λ (m : a * dy + dy < b * dx). is_below (omega (arith, m)) (let f : word_add d dy ≡ 65536 - (b * dx - (a + 1) * dy) = omega (arith, m, e, h, hx, hy) in f))
    (λ (m : b * dx ≤ a * dy + dy). is_above (omega (arith, m)) (let f : word_add d dy ≡ (a + 1) * dy - b * dx = omega (arith, m, l, e, h, hx, hy) in f))
    (cases_lt (a * dy + dy) (b * dx))

pub side_y : (dx dy a b d : ℕ) → dx < 512 → dy < 512 → IsBeside dx dy a b → b * dx ≤ a * dy → d ≡ a * dy - b * dx → Side dx dy a (b + 1) (word_sub d dx)
side_y dx dy a b d hx hy h l e =
    ⊎_elim
    (λ (m : a * dy < b * dx + dx). is_below (omega (arith, m)) (let f : word_sub d dx ≡ 65536 - ((b + 1) * dx - a * dy) = omega (arith, m, l, e, h, hx, hy) in f))
    (λ (m : b * dx + dx ≤ a * dy). is_above (omega (arith, m)) (let f : word_sub d dx ≡ a * dy - (b + 1) * dx = omega (arith, m, e, h, hx, hy) in f))
    (cases_lt (a * dy) (b * dx + dx))

-- ---- a pixel painted

module _ (ws : List ℕ) (v px py : ℕ) (long : length ws ≡ 22528) (hx : px < 512) (hy : py < 256) where
  abbrev place : ℕ
  place = pixel_address px py

  abbrev mask : ℕ
  mask = 2 ^ (px % 16)

  abbrev pub dotted : List ℕ
  dotted = slice_set ws (place - 2048) (brush v (word_at ws place) mask)

  small_mask : mask < 65536
  small_mask = pow_below (px % 16) 16 (omega arith)

  dot_here : word_at dotted place ≡ brush v (word_at ws place) mask
  dot_here = this_word ws place (brush v (word_at ws place) mask) long (omega arith) (omega (arith, hx, hy))

  dot_elsewhere : (c : ℕ) → 2048 ≤ c → c ≢ place → word_at dotted c ≡ word_at ws c
  dot_elsewhere c l d = other_word ws place c (brush v (word_at ws place) mask) (omega arith) l d

  pub dot_is : pixel dotted px py ≡ ink v
  dot_is = ap (λ z. bit z (px % 16)) dot_here ∙ hit mask (px % 16) small_mask (omega arith) v (word_at ws place) (bit_at-pow_same (px % 16))

  pub dot_other : (x y : ℕ) → x < 512 → (x ≢ px) ⊎ (y ≢ py) → pixel dotted x y ≡ pixel ws x y
  dot_other x y h o =
      ⊎_elim
      (λ (e : pixel_address x y ≡ place).
      ap (λ c. bit (word_at dotted c) (x % 16)) e ∙ ap (λ z. bit z (x % 16)) dot_here
      ∙ miss mask (x % 16) small_mask (omega arith) v (word_at ws place) (bit_at-pow_other (px % 16) (x % 16) (λ f. ⊎_elim (λ (d : x ≢ px). d (let g : x ≡ px = omega (arith, e, f, h, hx) in g)) (λ (d : y ≢ py). d (let g : y ≡ py = omega (arith, e, h, hx) in g)) o))
      ∙ ap (λ c. bit (word_at ws c) (x % 16)) (sym e))
      (λ (d : pixel_address x y ≢ place). ap (λ z. bit z (x % 16)) (dot_elsewhere (pixel_address x y) (omega arith) d))
      (same_or_not (pixel_address x y) place)

  pub dot_small : (c : ℕ) → 2048 ≤ c → word_at ws c < 65536 → word_at dotted c < 65536
  dot_small c l h =
      ⊎_elim
      (λ (e : c ≡ place).
      let at : word_at dotted c ≡ brush v (word_at ws place) mask = ap (word_at dotted) e ∙ dot_here in
      let same : word_at ws c ≡ word_at ws place = ap (word_at ws) e in
      let small = brush_small v (word_at ws place) mask small_mask (omega (arith, same, h)) in
      omega (arith, at, small))
      (λ (d : c ≢ place). let f = dot_elsewhere c l d in omega (arith, f, h))
      (same_or_not c place)

  pub dot_heap : (c : ℕ) → 2048 ≤ c → c < 16384 → word_at dotted c ≡ word_at ws c
  dot_heap c l h = dot_elsewhere c l (λ e. omega (arith, e, h))

-- ---- the points of the first k steps

module _ (first : List ℕ) (x1 y1 x2 y2 v : ℕ) where
  abbrev pub Drawn : ℕ → ℕ → ℕ → Type 0
  Drawn k x y =
      InRectangle (min x1 x2) (min y1 y2) (max x1 x2) (max y1 y2) x y × IsBeside (distance x1 x2) (distance y1 y2) (distance x1 x) (distance y1 y) × (distance x1 x + distance y1 y < k)

  pub none_drawn : IsColoured first (Drawn 0) (ink v) first
  none_drawn = record {
    same_length = refl;
    inside = λ x y hx hy d. let l = d.2 in absurd (omega (arith, l));
    others = λ x y hx hy o. refl;
    each = λ a l h. h;
    heap = λ a l h. refl;
  }

  module _ (sx sy : ℕ) (xs ys : ℕ → ℕ) (along : Along x1 x2 512 sx xs) (beyond : Along y1 y2 256 sy ys) (some_x : 0 < distance x1 x2) (some_y : 0 < distance y1 y2) (ws : List ℕ) (long : length ws ≡ 22528) (a b : ℕ) (ha : a ≤ distance x1 x2) (hb : b ≤ distance y1 y2)
      (beside : IsBeside (distance x1 x2) (distance y1 y2) a b) (was : IsColoured first (Drawn (a + b)) (ink v) ws) where
    abbrev pub ws' : List ℕ
    ws' = dotted ws v (xs a) (ys b) long (along.small a ha) (beyond.small b hb)

    point_in : (x y : ℕ) → x ≡ xs a → y ≡ ys b → Drawn (a + b + 1) x y
    point_in x y ex ey =
        let p1 = along.low a ha in
        let p2 = along.high a ha in
        let p3 = beyond.low b hb in
        let p4 = beyond.high b hb in
        let ax : distance x1 x ≡ a = ap (distance x1) ex ∙ along.there a ha in
        let by : distance y1 y ≡ b = ap (distance y1) ey ∙ beyond.there b hb in (
          (subst (λ z. min x1 x2 ≤ z) (sym ex) p1, subst (λ z. z ≤ max x1 x2) (sym ex) p2, subst (λ z. min y1 y2 ≤ z) (sym ey) p3, subst (λ z. z ≤ max y1 y2) (sym ey) p4),
          subst (λ z. IsBeside (distance x1 x2) (distance y1 y2) z (distance y1 y)) (sym ax) (subst (λ z. IsBeside (distance x1 x2) (distance y1 y2) a z) (sym by) beside),
          subst (λ z. z + distance y1 y < a + b + 1) (sym ax) (subst (λ z. a + z < a + b + 1) (sym by) (omega arith)),
        )

    -- the one point of this many steps
    is_point : (x y : ℕ) → Drawn (a + b + 1) x y → (Drawn (a + b) x y) ⊎ ((x ≡ xs a) × (y ≡ ys b))
    is_point x y d =
        let box = d.0 in
        let side = d.1 in
        let few = d.2 in
        let ax = distance x1 x in
        let by = distance y1 y in
        ⊎_elim
        (λ (l : ax + by < a + b). inl (box, side, l))
        (λ (g : a + b ≤ ax + by).
        let sum : ax + by ≡ a + b = omega (arith, g, few) in
        let ea : ax ≡ a = unique (distance x1 x2) (distance y1 y2) some_x some_y ax by a b side beside sum in
        let eb : by ≡ b = omega (arith, sum, ea) in
        inr (sym (along.back x box.0 box.1) ∙ ap xs ea, sym (beyond.back y box.2 box.3) ∙ ap ys eb))
        (cases_lt (ax + by) (a + b))

    wider : (x y : ℕ) → Drawn (a + b) x y → Drawn (a + b + 1) x y
    wider x y d = let l = d.2 in (d.0, d.1, omega (arith, l))

    -- whether it is the point
    by_point : (x y : ℕ) → ((x ≡ xs a) × (y ≡ ys b)) ⊎ ((x ≢ xs a) ⊎ (y ≢ ys b))
    by_point x y = ⊎_elim (λ (e : x ≡ xs a). ⊎_elim (λ (f : y ≡ ys b). inl (e, f)) (λ (d : y ≢ ys b). inr (inr d)) (same_or_not y (ys b))) (λ (d : x ≢ xs a). inr (inl d)) (same_or_not x (xs a))

    is_ink : (x y : ℕ) → x ≡ xs a → y ≡ ys b → pixel ws' x y ≡ ink v
    is_ink x y ex ey = ap (λ z. pixel ws' z y) ex ∙ ap (pixel ws' (xs a)) ey ∙ dot_is ws v (xs a) (ys b) long (along.small a ha) (beyond.small b hb)

    is_kept : (x y : ℕ) → x < 512 → (x ≢ xs a) ⊎ (y ≢ ys b) → pixel ws' x y ≡ pixel ws x y
    is_kept x y h d = dot_other ws v (xs a) (ys b) long (along.small a ha) (beyond.small b hb) x y h d

    pub point_drawn : IsColoured first (Drawn (a + b + 1)) (ink v) ws'
    point_drawn = record {
      same_length = length-set ws (pixel_address (xs a) (ys b) - 2048) (brush v (word_at ws (pixel_address (xs a) (ys b))) (2 ^ (xs a % 16))) ∙ was.same_length;
      inside = λ x y hx hy d.
          ⊎_elim (λ (e : (x ≡ xs a) × (y ≡ ys b)). is_ink x y e.0 e.1)
          (λ (n : (x ≢ xs a) ⊎ (y ≢ ys b)).
          is_kept x y hx n
          ∙ was.inside x y hx hy (⊎_elim (λ (o : Drawn (a + b) x y). o) (λ (e : (x ≡ xs a) × (y ≡ ys b)). absurd (⊎_elim (λ (m : x ≢ xs a). m e.0) (λ (m : y ≢ ys b). m e.1) n)) (is_point x y d))) (by_point x y);
      others = λ x y hx hy o.
          ⊎_elim (λ (e : (x ≡ xs a) × (y ≡ ys b)). absurd (o (point_in x y e.0 e.1)))
          (λ (n : (x ≢ xs a) ⊎ (y ≢ ys b)). is_kept x y hx n ∙ was.others x y hx hy (λ d. o (wider x y d))) (by_point x y);
      each = λ c l h. dot_small ws v (xs a) (ys b) long (along.small a ha) (beyond.small b hb) c l (was.each c l h);
      heap = λ c l h. dot_heap ws v (xs a) (ys b) long (along.small a ha) (beyond.small b hb) c l h ∙ was.heap c l h;
    }
