-- Methods of strings: each straight piece of their runs is a computation.
use Rattle.std.proofs.Common.{◌≡◌, ℕ, ◌-◌, true, false, nat_eq, bit_or, List, [], ◌∷◌, Some, refl}
use Rattle.std.specs.Prelude.{slice_set}
use Rattle.word16.specs.Words.{word_add, word_sub, word_not, word_lt}
use Rattle.jack_meaning.specs.Text.{Argument, Complement, Plus, Subtract, Or, Less, Equal, Expression, Literal, Value, Name, This, Field, Unary, Binary, Load, LetField, Store, If, Return, Text, End, Next, Subroutine}
use Rattle.os_laws.specs.Heap.{word_at}
use Rattle.os_laws.proofs.Runs.{Call, run, run_then}
use Rattle.os_laws.proofs.Searching.{Reaches}
use Rattle.os_functions.proofs.Pieces.{in_call, returns_value, erring}
use Rattle.os_functions.proofs.Texts.{error_text, is_outside, length_body, append_body, erase_body}

module _ (subs : List Subroutine) (g o : ℕ) (ss ws : List ℕ) where
  -- a call of a method of the string at o, over these words
  abbrev pub at_with : List ℕ → Text → List ℕ → Call
  at_with ws' t more = in_call g o ss ws' t (o ∷ more) []

  abbrev pub at_text : Text → List ℕ → Call
  at_text t more = at_with ws t more

  pub lengths : (d : ℕ) → Reaches o 1 d → run subs 1 (at_text length_body []) ≡ Some (at_text (returns_value 1 (word_at ws d) End) [])
  lengths d r = rw (r.at, r.low, r.high) refl

  -- ---- the test of a place

  abbrev outside_by : Expression → Expression → ℕ → ℕ → Text → Text
  outside_by a b error v rest = Next (If 1 false (Binary Or a b) (error_text 2 error v) End) rest

  abbrev not_below_count : Expression
  not_below_count = Unary Complement (Binary Less (Name (Argument 1)) (Field 1))

  abbrev tests_place : ℕ → ℕ → Text → Text
  tests_place error v rest = Next (If 1 false is_outside (error_text 2 error v) End) rest

  negative_tested : (j error v a : ℕ) (rest : Text) (ys : List ℕ) → word_lt j 0 ≡ a
      → run subs 3 (at_text (tests_place error v rest) (j ∷ ys)) ≡ Some (at_text (outside_by (Value a) not_below_count error v rest) (j ∷ ys))
  negative_tested j error v a rest ys h = rw h refl

  count_tested : (j error v a b d : ℕ) (rest : Text) (ys : List ℕ) → Reaches o 1 d → word_lt j (word_at ws d) ≡ b
      → run subs 4 (at_text (outside_by (Value a) not_below_count error v rest) (j ∷ ys)) ≡ Some (at_text (outside_by (Value a) (Value (word_not b)) error v rest) (j ∷ ys))
  count_tested j error v a b d rest ys r h = rw (r.at, r.low, r.high, h) refl

  passed : (error v : ℕ) (rest : Text) (ys : List ℕ) → run subs 2 (at_text (outside_by (Value 0) (Value 0) error v rest) ys) ≡ Some (at_text rest ys)
  passed error v rest ys = refl

  failed : (error v a b : ℕ) (rest : Text) (ys : List ℕ) → bit_or a b ≡ 65535 → run subs 3 (at_text (outside_by (Value a) (Value b) error v rest) ys) ≡ Some (at_text (erring error v rest) ys)
  failed error v a b rest ys h = rw h refl

  -- a place where a character stands
  pub is_inside : (j error v d : ℕ) (rest : Text) (ys : List ℕ) → Reaches o 1 d → word_lt j 0 ≡ 0 → word_lt j (word_at ws d) ≡ 65535 → run subs 9 (at_text (tests_place error v rest) (j ∷ ys)) ≡ Some (at_text rest (j ∷ ys))
  is_inside j error v d rest ys r h k =
      run_then subs 3 6 (at_text (tests_place error v rest) (j ∷ ys)) (at_text (outside_by (Value 0) not_below_count error v rest) (j ∷ ys)) (at_text rest (j ∷ ys)) (negative_tested j error v 0 rest ys h)
      (run_then subs 4 2 (at_text (outside_by (Value 0) not_below_count error v rest) (j ∷ ys)) (at_text (outside_by (Value 0) (Value 0) error v rest) (j ∷ ys)) (at_text rest (j ∷ ys)) (count_tested j error v 0 65535 d rest ys r k) (passed error v rest (j ∷ ys)))

  -- one where none stands
  pub is_elsewhere : (j error v a b d : ℕ) (rest : Text) (ys : List ℕ) → Reaches o 1 d → word_lt j 0 ≡ a → word_lt j (word_at ws d) ≡ b → bit_or a (word_not b) ≡ 65535
      → run subs 10 (at_text (tests_place error v rest) (j ∷ ys)) ≡ Some (at_text (erring error v rest) (j ∷ ys))
  is_elsewhere j error v a b d rest ys r h k l =
      run_then subs 3 7 (at_text (tests_place error v rest) (j ∷ ys)) (at_text (outside_by (Value a) not_below_count error v rest) (j ∷ ys)) (at_text (erring error v rest) (j ∷ ys)) (negative_tested j error v a rest ys h)
      (run_then subs 4 3 (at_text (outside_by (Value a) not_below_count error v rest) (j ∷ ys)) (at_text (outside_by (Value a) (Value (word_not b)) error v rest) (j ∷ ys)) (at_text (erring error v rest) (j ∷ ys))
      (count_tested j error v a b d rest ys r k) (failed error v a (word_not b) rest (j ∷ ys) l))

  -- ---- characters: e is the address of one

  abbrev pub reads : Text
  reads = Next (Return 3 (Load (Field 0) (Name (Argument 1)))) End

  reads_place : (j : ℕ) → Reaches o 0 o → run subs 1 (at_text reads (j ∷ [])) ≡ Some (at_text (Next (Return 3 (Load (Value (word_at ws o)) (Name (Argument 1)))) End) (j ∷ []))
  reads_place j r = rw (r.at, r.low, r.high) refl

  reads_word : (j b e : ℕ) → Reaches b j e → run subs 2 (at_text (Next (Return 3 (Load (Value b) (Name (Argument 1)))) End) (j ∷ [])) ≡ Some (at_text (returns_value 3 (word_at ws e) End) (j ∷ []))
  reads_word j b e r = rw (r.at, r.low, r.high) refl

  pub reads_character : (j e : ℕ) → Reaches o 0 o → Reaches (word_at ws o) j e → run subs 3 (at_text reads (j ∷ [])) ≡ Some (at_text (returns_value 3 (word_at ws e) End) (j ∷ []))
  reads_character j e r q =
      run_then subs 1 2 (at_text reads (j ∷ [])) (at_text (Next (Return 3 (Load (Value (word_at ws o)) (Name (Argument 1)))) End) (j ∷ [])) (at_text (returns_value 3 (word_at ws e) End) (j ∷ [])) (reads_place j r) (reads_word j (word_at ws o) e q)

  abbrev ends : Text
  ends = Next (Return 4 (Literal 0)) End

  abbrev pub writes : Text
  writes = Next (Store 3 (Field 0) (Name (Argument 1)) (Name (Argument 2))) ends

  writes_place : (j w : ℕ) → Reaches o 0 o → run subs 1 (at_text writes (j ∷ w ∷ [])) ≡ Some (at_text (Next (Store 3 (Value (word_at ws o)) (Name (Argument 1)) (Name (Argument 2))) ends) (j ∷ w ∷ []))
  writes_place j w r = rw (r.at, r.low, r.high) refl

  writes_word : (j w b e : ℕ) → Reaches b j e
      → run subs 4 (at_text (Next (Store 3 (Value b) (Name (Argument 1)) (Name (Argument 2))) ends) (j ∷ w ∷ [])) ≡ Some (at_with (slice_set ws (e - 2048) w) (returns_value 4 0 End) (j ∷ w ∷ []))
  writes_word j w b e r = rw (r.at, r.low, r.high) refl

  pub writes_character : (j w e : ℕ) → Reaches o 0 o → Reaches (word_at ws o) j e → run subs 5 (at_text writes (j ∷ w ∷ [])) ≡ Some (at_with (slice_set ws (e - 2048) w) (returns_value 4 0 End) (j ∷ w ∷ []))
  writes_character j w e r q =
      run_then subs 1 4 (at_text writes (j ∷ w ∷ [])) (at_text (Next (Store 3 (Value (word_at ws o)) (Name (Argument 1)) (Name (Argument 2))) ends) (j ∷ w ∷ [])) (at_with (slice_set ws (e - 2048) w) (returns_value 4 0 End) (j ∷ w ∷ []))
      (writes_place j w r) (writes_word j w (word_at ws o) e q)

  -- ---- one more: d is the address of the count

  abbrev pub counts : Text
  counts = Next (LetField 4 1 (Binary Plus (Field 1) (Literal 1))) (Next (Return 5 This) End)

  abbrev pub appends : Text
  appends = Next (Store 3 (Field 0) (Field 1) (Name (Argument 1))) counts

  abbrev is_full : Expression → Expression → ℕ → Text
  is_full a b error = Next (If 1 false (Binary Equal a b) (error_text 2 error 17) End) appends

  counted : (error w d : ℕ) → Reaches o 1 d → run subs 1 (at_text (append_body error) (w ∷ [])) ≡ Some (at_text (is_full (Value (word_at ws d)) (Field 2) error) (w ∷ []))
  counted error w d r = rw (r.at, r.low, r.high) refl

  has_room : (error w n d : ℕ) → Reaches o 2 d → nat_eq n (word_at ws d) ≡ false → run subs 3 (at_text (is_full (Value n) (Field 2) error) (w ∷ [])) ≡ Some (at_text appends (w ∷ []))
  has_room error w n d r h = rw (r.at, r.low, r.high, h) refl

  has_none : (error w n d : ℕ) → Reaches o 2 d → nat_eq n (word_at ws d) ≡ true → run subs 4 (at_text (is_full (Value n) (Field 2) error) (w ∷ [])) ≡ Some (at_text (erring error 17 appends) (w ∷ []))
  has_none error w n d r h = rw (r.at, r.low, r.high, h) refl

  abbrev appends_at : Expression → Expression → Text
  appends_at a b = Next (Store 3 a b (Name (Argument 1))) counts

  append_place : (w : ℕ) → Reaches o 0 o → run subs 1 (at_text appends (w ∷ [])) ≡ Some (at_text (appends_at (Value (word_at ws o)) (Field 1)) (w ∷ []))
  append_place w r = rw (r.at, r.low, r.high) refl

  append_count : (w b d : ℕ) → Reaches o 1 d → run subs 1 (at_text (appends_at (Value b) (Field 1)) (w ∷ [])) ≡ Some (at_text (appends_at (Value b) (Value (word_at ws d))) (w ∷ []))
  append_count w b d r = rw (r.at, r.low, r.high) refl

  append_word : (w b n e : ℕ) → Reaches b n e → run subs 2 (at_text (appends_at (Value b) (Value n)) (w ∷ [])) ≡ Some (at_with (slice_set ws (e - 2048) w) counts (w ∷ []))
  append_word w b n e r = rw (r.at, r.low, r.high) refl

  -- up to the new count
  pub appends_character : (error w d m e : ℕ) → Reaches o 0 o → Reaches o 1 d → Reaches o 2 m → nat_eq (word_at ws d) (word_at ws m) ≡ false → Reaches (word_at ws o) (word_at ws d) e
      → run subs 8 (at_text (append_body error) (w ∷ [])) ≡ Some (at_with (slice_set ws (e - 2048) w) counts (w ∷ []))
  appends_character error w d m e r0 r1 r2 h q =
      let n = word_at ws d in
      let b = word_at ws o in
      let last : Call = at_with (slice_set ws (e - 2048) w) counts (w ∷ []) in
      run_then subs 1 7 (at_text (append_body error) (w ∷ [])) (at_text (is_full (Value n) (Field 2) error) (w ∷ [])) last (counted error w d r1)
      (run_then subs 3 4 (at_text (is_full (Value n) (Field 2) error) (w ∷ [])) (at_text appends (w ∷ [])) last (has_room error w n m r2 h)
      (run_then subs 1 3 (at_text appends (w ∷ [])) (at_text (appends_at (Value b) (Field 1)) (w ∷ [])) last (append_place w r0)
      (run_then subs 1 2 (at_text (appends_at (Value b) (Field 1)) (w ∷ [])) (at_text (appends_at (Value b) (Value n)) (w ∷ [])) last (append_count w b d r1) (append_word w b n e q))))

  pub append_refused : (error w d m : ℕ) → Reaches o 1 d → Reaches o 2 m → nat_eq (word_at ws d) (word_at ws m) ≡ true → run subs 5 (at_text (append_body error) (w ∷ [])) ≡ Some (at_text (erring error 17 appends) (w ∷ []))
  append_refused error w d m r1 r2 h =
      run_then subs 1 4 (at_text (append_body error) (w ∷ [])) (at_text (is_full (Value (word_at ws d)) (Field 2) error) (w ∷ [])) (at_text (erring error 17 appends) (w ∷ [])) (counted error w d r1) (has_none error w (word_at ws d) m r2 h)

  -- the new count, over these words
  abbrev counting : Expression → Text
  counting a = Next (LetField 4 1 a) (Next (Return 5 This) End)

  adds_one : (w d n : ℕ) → Reaches o 1 d → word_add (word_at ws d) 1 ≡ n → run subs 3 (at_text counts (w ∷ [])) ≡ Some (at_text (counting (Value n)) (w ∷ []))
  adds_one w d n r h = rw (r.at, r.low, r.high, h) refl

  stores_count : (w d n : ℕ) → Reaches o 1 d → run subs 2 (at_text (counting (Value n)) (w ∷ [])) ≡ Some (at_with (slice_set ws (d - 2048) n) (returns_value 5 o End) (w ∷ []))
  stores_count w d n r = rw (r.at, r.low, r.high) refl

  pub counts_one_more : (w d n : ℕ) → Reaches o 1 d → word_add (word_at ws d) 1 ≡ n → run subs 5 (at_text counts (w ∷ [])) ≡ Some (at_with (slice_set ws (d - 2048) n) (returns_value 5 o End) (w ∷ []))
  counts_one_more w d n r h =
      run_then subs 3 2 (at_text counts (w ∷ [])) (at_text (counting (Value n)) (w ∷ [])) (at_with (slice_set ws (d - 2048) n) (returns_value 5 o End) (w ∷ [])) (adds_one w d n r h) (stores_count w d n r)

  -- ---- one less

  abbrev pub erases : Text
  erases = Next (LetField 3 1 (Binary Subtract (Field 1) (Literal 1))) ends

  abbrev is_empty : Expression → ℕ → Text
  is_empty a error = Next (If 1 false (Binary Equal a (Literal 0)) (error_text 2 error 18) End) erases

  has_some : (error d : ℕ) → Reaches o 1 d → nat_eq (word_at ws d) 0 ≡ false → run subs 4 (at_text (erase_body error) []) ≡ Some (at_text erases [])
  has_some error d r h = rw (r.at, r.low, r.high, h) refl

  pub erase_refused : (error d : ℕ) → Reaches o 1 d → nat_eq (word_at ws d) 0 ≡ true → run subs 5 (at_text (erase_body error) []) ≡ Some (at_text (erring error 18 erases) [])
  erase_refused error d r h = rw (r.at, r.low, r.high, h) refl

  abbrev lessening : Expression → Text
  lessening a = Next (LetField 3 1 a) ends

  takes_one : (d n : ℕ) → Reaches o 1 d → word_sub (word_at ws d) 1 ≡ n → run subs 3 (at_text erases []) ≡ Some (at_text (lessening (Value n)) [])
  takes_one d n r h = rw (r.at, r.low, r.high, h) refl

  stores_less : (d n : ℕ) → Reaches o 1 d → run subs 2 (at_text (lessening (Value n)) []) ≡ Some (at_with (slice_set ws (d - 2048) n) (returns_value 4 0 End) [])
  stores_less d n r = rw (r.at, r.low, r.high) refl

  counts_less : (d n : ℕ) → Reaches o 1 d → word_sub (word_at ws d) 1 ≡ n → run subs 5 (at_text erases []) ≡ Some (at_with (slice_set ws (d - 2048) n) (returns_value 4 0 End) [])
  counts_less d n r h = run_then subs 3 2 (at_text erases []) (at_text (lessening (Value n)) []) (at_with (slice_set ws (d - 2048) n) (returns_value 4 0 End) []) (takes_one d n r h) (stores_less d n r)

  pub erases_character : (error d n : ℕ) → Reaches o 1 d → nat_eq (word_at ws d) 0 ≡ false → word_sub (word_at ws d) 1 ≡ n
      → run subs 9 (at_text (erase_body error) []) ≡ Some (at_with (slice_set ws (d - 2048) n) (returns_value 4 0 End) [])
  erases_character error d n r h k =
      run_then subs 4 5 (at_text (erase_body error) []) (at_text erases []) (at_with (slice_set ws (d - 2048) n) (returns_value 4 0 End) []) (has_some error d r h) (counts_less d n r k)
