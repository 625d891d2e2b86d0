-- What a string's words are, before and after a store.
use Rattle.std.proofs.Common.{◌≡◌, ◌≢◌, ◌⊎◌, inl, inr, ⊎_elim, ℕ, zero, suc, ◌+◌, ◌-◌, ◌<◌, ◌≤◌, true, false, nat_lt, List, [], ◌∷◌, ◌++◌, length, take, refl, sym, ap, ◌∙◌, subst, arith, length-append}
use Rattle.std.specs.Prelude.{slice_index, slice_set}
use Rattle.std.proofs.lemmas.Bool.{cases_lt}
use Rattle.std.proofs.lemmas.Bool.Decides.{nat_tests}
use Rattle.std.proofs.lemmas.List.{get_or-set_same, get_or-set_other, get_or-take, length-set, length-take-le}
use Rattle.word16.specs.Words.{word_lt}
use Rattle.os_laws.specs.Heap.{word_at}
use Rattle.os_laws.proofs.Searching.{Reaches}
use Rattle.os_laws.proofs.Storing.{other_word}
use Rattle.os_laws.proofs.Walking.{here, reaches}
use Rattle.os_functions.specs.StringLaws.{StringAt, with_heap_word}

-- ---- lists

pub same_or_not : (i j : ℕ) → (i ≡ j) ⊎ (i ≢ j)
same_or_not i j =
    ⊎_elim (λ (l : i < j). inr (λ (e : i ≡ j). omega (arith, l, e)))
    (λ (g : j ≤ i). ⊎_elim (λ (l : j < i). inr (λ (e : i ≡ j). omega (arith, l, e))) (λ (k : i ≤ j). inl (let e : i ≡ j = omega (arith, g, k) in e)) (cases_lt j i)) (cases_lt i j)

last_char : (text : List ℕ) (w : ℕ) → slice_index (text ++ w ∷ []) (length text) ≡ w
last_char [] w = refl
last_char (c ∷ text) w = last_char text w

earlier_char : (text : List ℕ) (w i : ℕ) → i < length text → slice_index (text ++ w ∷ []) i ≡ slice_index text i
earlier_char [] w i h = absurd (omega (arith, h))
earlier_char (c ∷ text) w zero h = refl
earlier_char (c ∷ text) w (suc i) h = earlier_char text w i (omega (arith, h))

-- ---- words

-- a word that is stored is there
pub this_word : (ws : List ℕ) (a w : ℕ) → length ws ≡ 22528 → 2048 ≤ a → a < 24576 → word_at (with_heap_word ws a w) a ≡ w
this_word ws a w n low high = get_or-set_same ws (a - 2048) w 0 (omega (arith, n, low, high))

-- a negative word is below one that is not
pub negative_below : (j n : ℕ) → 32768 ≤ j → n < 32768 → word_lt j n ≡ 65535
negative_below j n h k =
    let a : nat_lt j 32768 ≡ false = grind (arith, nat_tests) in
    let b : nat_lt n 32768 ≡ true = grind (arith, nat_tests) in
    rw (a, b) refl

module _ (ws : List ℕ) (o : ℕ) (text : List ℕ) (room : ℕ) (t : StringAt ws o text room) where
  abbrev n : ℕ
  n = length text

  pub at_place : Reaches o 0 o
  at_place = here o t.object.0 (omega (arith, t.object))

  pub at_count : Reaches o 1 (o + 1)
  at_count = reaches o 1 t.object.0 (omega (arith, t.object))

  pub at_most : Reaches o 2 (o + 2)
  at_most = reaches o 2 t.object.0 (omega (arith, t.object))

  -- the address of a character for which there is room
  pub in_heap : (j : ℕ) → j < room → (2048 ≤ t.place + j) × (t.place + j < 16384)
  in_heap j h = let i = t.inside (omega (arith, h)) in (omega (arith, i), omega (arith, i, h))

  pub at_character : (j : ℕ) → j < room → Reaches (word_at ws o) j (t.place + j)
  at_character j h =
      let i = t.inside (omega (arith, h)) in
      subst (λ b. Reaches b j (t.place + j)) (sym t.characters) (reaches t.place j i.0 (omega (arith, i, h)))

  -- it is none of the string's three words
  pub no_field : (j k : ℕ) → j < room → k < 3 → o + k ≢ t.place + j
  no_field j k h m e = ⊎_elim (λ l. omega (arith, l, e, m)) (λ r. omega (arith, r, e, h)) (t.apart (omega (arith, h)))

  own : (j w k : ℕ) → j < room → k < 3 → word_at (with_heap_word ws (t.place + j) w) (o + k) ≡ word_at ws (o + k)
  own j w k h m = other_word ws (t.place + j) (o + k) w (in_heap j h).0 (omega (arith, t.object)) (no_field j k h m)

  own_first : (j w : ℕ) → j < room → word_at (with_heap_word ws (t.place + j) w) o ≡ word_at ws o
  own_first j w h = ap (λ a. word_at (with_heap_word ws (t.place + j) w) a) (let e : o ≡ o + 0 = omega arith in e) ∙ own j w 0 h (omega arith) ∙ ap (word_at ws) (let e : o + 0 ≡ o = omega arith in e)

  other_character : (j w i : ℕ) → j < room → i < room → i ≢ j → word_at (with_heap_word ws (t.place + j) w) (t.place + i) ≡ word_at ws (t.place + i)
  other_character j w i h k d = other_word ws (t.place + j) (t.place + i) w (in_heap j h).0 (in_heap i k).0 (λ e. d (omega (arith, e)))

  module _ (long : length ws ≡ 22528) where
    -- ---- another character

    set_text : (j w : ℕ) → j < n → (i : ℕ) → i < length (slice_set text j w) → word_at (with_heap_word ws (t.place + j) w) (t.place + i) ≡ slice_index (slice_set text j w) i
    set_text j w h i k =
        let near : i < n = omega (arith, k, length-set text j w) in
        let room_j : j < room = omega (arith, h, t.few) in
        ⊎_elim
        (λ (e : i ≡ j).
        ap (λ z. word_at (with_heap_word ws (t.place + j) w) (t.place + z)) e ∙ this_word ws (t.place + j) w long (in_heap j room_j).0 (let a = (in_heap j room_j).1 in omega (arith, a))
        ∙ sym (get_or-set_same text j w 0 h) ∙ ap (slice_index (slice_set text j w)) (sym e))
        (λ (d : i ≢ j). other_character j w i room_j (omega (arith, near, t.few)) d ∙ t.each i near ∙ sym (get_or-set_other text j i w 0 d))
        (same_or_not i j)

    pub set_string : (j w : ℕ) → j < n → StringAt (with_heap_word ws (t.place + j) w) o (slice_set text j w) room
    set_string j w h =
        let room_j : j < room = omega (arith, h, t.few) in
        record {
          place = t.place;
          characters = own_first j w room_j ∙ t.characters;
          count = own j w 1 room_j (omega arith) ∙ t.count ∙ sym (length-set text j w);
          most = own j w 2 room_j (omega arith) ∙ t.most;
          object = t.object;
          few = omega (arith, length-set text j w, t.few);
          small = t.small;
          inside = t.inside;
          apart = t.apart;
          each = set_text j w h;
        }

    -- ---- another count

    counted_word : (ws' : List ℕ) (m a : ℕ) → 2048 ≤ a → a ≢ o + 1 → word_at (with_heap_word ws' (o + 1) m) a ≡ word_at ws' a
    counted_word ws' m a low d = other_word ws' (o + 1) a m (omega (arith, t.object)) low d

    -- ---- one character more

    abbrev longer : ℕ → List ℕ
    longer w = with_heap_word (with_heap_word ws (t.place + n) w) (o + 1) (n + 1)

    long_after : (w : ℕ) → length (with_heap_word ws (t.place + n) w) ≡ 22528
    long_after w = length-set ws (t.place + n - 2048) w ∙ long

    append_field : (w k : ℕ) → n < room → k < 3 → k ≢ 1 → word_at (longer w) (o + k) ≡ word_at ws (o + k)
    append_field w k h m d = counted_word (with_heap_word ws (t.place + n) w) (n + 1) (o + k) (omega (arith, t.object)) (λ e. d (omega (arith, e))) ∙ own n w k h m

    append_first : (w : ℕ) → n < room → word_at (longer w) o ≡ word_at ws o
    append_first w h = ap (word_at (longer w)) (let e : o ≡ o + 0 = omega arith in e) ∙ append_field w 0 h (omega arith) (λ e. absurd (omega (arith, e))) ∙ ap (word_at ws) (let e : o + 0 ≡ o = omega arith in e)

    append_text : (w : ℕ) → n < room → (i : ℕ) → i < length (text ++ w ∷ []) → word_at (longer w) (t.place + i) ≡ slice_index (text ++ w ∷ []) i
    append_text w h i k =
        let near : i < n + 1 = omega (arith, k, length-append text (w ∷ [])) in
        let room_i : i < room = omega (arith, near, h) in
        counted_word (with_heap_word ws (t.place + n) w) (n + 1) (t.place + i) (in_heap i room_i).0 (λ e. no_field i 1 room_i (omega arith) (sym e))
        ∙ ⊎_elim
        (λ (l : i < n). other_character n w i h room_i (λ e. absurd (omega (arith, l, e))) ∙ t.each i l ∙ sym (earlier_char text w i l))
        (λ (g : n ≤ i).
        let e : i ≡ n = omega (arith, g, near) in
        ap (λ z. word_at (with_heap_word ws (t.place + n) w) (t.place + z)) e ∙ this_word ws (t.place + n) w long (in_heap n h).0 (let a = (in_heap n h).1 in omega (arith, a)) ∙ sym (last_char text w) ∙ ap (slice_index (text ++ w ∷ [])) (sym e))
        (cases_lt i n)

    pub append_string : (w : ℕ) → n < room → StringAt (longer w) o (text ++ w ∷ []) room
    append_string w h =
        let size : length (text ++ w ∷ []) ≡ n + 1 = length-append text (w ∷ []) in
        record {
          place = t.place;
          characters = append_first w h ∙ t.characters;
          count = this_word (with_heap_word ws (t.place + n) w) (o + 1) (n + 1) (long_after w) (omega (arith, t.object)) (omega (arith, t.object)) ∙ sym size;
          most = append_field w 2 h (omega arith) (λ e. absurd (omega (arith, e))) ∙ t.most;
          object = t.object;
          few = omega (arith, size, h);
          small = t.small;
          inside = t.inside;
          apart = t.apart;
          each = append_text w h;
        }

    -- the count after the first store
    pub append_count_kept : (w : ℕ) → n < room → word_at (with_heap_word ws (t.place + n) w) (o + 1) ≡ n
    append_count_kept w h = own n w 1 h (omega arith) ∙ t.count

    -- ---- one character less

    abbrev shorter : List ℕ
    shorter = with_heap_word ws (o + 1) (n - 1)

    erase_field : (k : ℕ) → k < 3 → k ≢ 1 → word_at shorter (o + k) ≡ word_at ws (o + k)
    erase_field k m d = counted_word ws (n - 1) (o + k) (omega (arith, t.object)) (λ e. d (omega (arith, e)))

    erase_first : word_at shorter o ≡ word_at ws o
    erase_first = ap (word_at shorter) (let e : o ≡ o + 0 = omega arith in e) ∙ erase_field 0 (omega arith) (λ e. absurd (omega (arith, e))) ∙ ap (word_at ws) (let e : o + 0 ≡ o = omega arith in e)

    erase_text : 0 < n → (i : ℕ) → i < length (take (n - 1) text) → word_at shorter (t.place + i) ≡ slice_index (take (n - 1) text) i
    erase_text some i k =
        let near : i < n - 1 = omega (arith, k, length-take-le (n - 1) text (omega arith)) in
        let room_i : i < room = omega (arith, near, t.few) in
        counted_word ws (n - 1) (t.place + i) (in_heap i room_i).0 (λ e. no_field i 1 room_i (omega arith) (sym e)) ∙ t.each i (omega (arith, near)) ∙ sym (get_or-take (n - 1) text i 0 near)

    pub erase_string : 0 < n → StringAt shorter o (take (n - 1) text) room
    erase_string some =
        let size : length (take (n - 1) text) ≡ n - 1 = length-take-le (n - 1) text (omega arith) in
        record {
          place = t.place;
          characters = erase_first ∙ t.characters;
          count = this_word ws (o + 1) (n - 1) long (omega (arith, t.object)) (omega (arith, t.object)) ∙ sym size;
          most = erase_field 2 (omega arith) (λ e. absurd (omega (arith, e))) ∙ t.most;
          object = t.object;
          few = omega (arith, size, t.few);
          small = t.small;
          inside = t.inside;
          apart = t.apart;
          each = erase_text some;
        }
