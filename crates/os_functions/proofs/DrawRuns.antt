-- A character drawn: each straight piece of its runs is a computation.
use Rattle.std.proofs.Common.{◌≡◌, ℕ, suc, ◌-◌, bit_and, bit_or, List, [], ◌∷◌, Some, refl}
use Rattle.std.specs.Prelude.{slice_index, slice_set}
use Rattle.word16.specs.Words.{word_add, word_sub, word_lt, word_gt}
use Rattle.jack_meaning.specs.Text.{Local, Value, Name, Literal, Load, Binary, And, Or, Let, Store, Text, End, Next, Subroutine}
use Rattle.os_laws.specs.Heap.{word_at}
use Rattle.os_laws.proofs.Runs.{Call, run, run_then}
use Rattle.os_laws.proofs.Searching.{Reaches}
use Rattle.os_functions.proofs.Pieces.{in_call, returns_value}
use Rattle.os_functions.proofs.Texts.{adds, doubles, counts_down, draw_body, glyph_text, clear_text, clear_loop, row_text, column_end, columns_loop, rows_loop}

-- the call of draw, where these are the statics, the number of `place` and the code
module _ (subs : List Subroutine) (g : ℕ) (ss : List ℕ) (place c : ℕ) where
  abbrev pub at_text : List ℕ → Text → List ℕ → Call
  at_text ws t ls = in_call g 0 ss ws t (c ∷ []) ls

  abbrev pub locals : ℕ → ℕ → ℕ → ℕ → ℕ → ℕ → ℕ → ℕ → List ℕ
  locals glyph word other pixel dots dot rows columns = glyph ∷ word ∷ other ∷ pixel ∷ dots ∷ dot ∷ rows ∷ columns ∷ []

  -- ---- the glyph's place, the mask, the first bit

  pub left_half : (ws : List ℕ) (font right f g1 g2 glyph a : ℕ) → slice_index ss font ≡ f → word_add f c ≡ g1 → word_add g1 c ≡ g2 → word_add g2 c ≡ glyph → slice_index ss right ≡ 0 → slice_index ss place ≡ a
      → run subs 19 (at_text ws (glyph_text font place right) (locals 0 0 0 0 0 0 0 0)) ≡ Some (at_text ws (clear_loop place) (locals glyph a 65280 1 0 0 11 0))
  left_half ws font right f g1 g2 glyph a hf h1 h2 h3 hr ha = rw (hf, h1, h2, h3, hr, ha) refl

  pub right_half : (ws : List ℕ) (font right f g1 g2 glyph a m : ℕ) → slice_index ss font ≡ f → word_add f c ≡ g1 → word_add g1 c ≡ g2 → word_add g2 c ≡ glyph → slice_index ss right ≡ suc m → slice_index ss place ≡ a
      → run subs 23 (at_text ws (glyph_text font place right) (locals 0 0 0 0 0 0 0 0)) ≡ Some (at_text ws (clear_loop place) (locals glyph a 255 256 0 0 11 0))
  right_half ws font right f g1 g2 glyph a m hf h1 h2 h3 hr ha = rw (hf, h1, h2, h3, hr, ha) refl

  -- ---- a statement, whatever comes after

  word_moves : (t : Text) (ws : List ℕ) (glyph word other pixel dots dot rows columns word' : ℕ) → word_add word 32 ≡ word'
      → run subs 4 (at_text ws (Next (adds 24 1 32) t) (locals glyph word other pixel dots dot rows columns)) ≡ Some (at_text ws t (locals glyph word' other pixel dots dot rows columns))
  word_moves t ws glyph word other pixel dots dot rows columns word' h = rw h refl

  dot_doubles : (t : Text) (ws : List ℕ) (glyph word other pixel dots dot rows columns dot' : ℕ) → word_add dot dot ≡ dot'
      → run subs 4 (at_text ws (Next (doubles 25 5) t) (locals glyph word other pixel dots dot rows columns)) ≡ Some (at_text ws t (locals glyph word other pixel dots dot' rows columns))
  dot_doubles t ws glyph word other pixel dots dot rows columns dot' h = rw h refl

  rows_count : (t : Text) (ws : List ℕ) (glyph word other pixel dots dot columns m m' : ℕ) → word_sub (suc m) 1 ≡ m'
      → run subs 4 (at_text ws (Next (counts_down 26 6) t) (locals glyph word other pixel dots dot (suc m) columns)) ≡ Some (at_text ws t (locals glyph word other pixel dots dot m' columns))
  rows_count t ws glyph word other pixel dots dot columns m m' h = rw h refl

  -- ---- a row is cleared, whatever comes after

  module _ (rest : Text) where
    abbrev clear_store : ℕ → ℕ → Text
    clear_store word w = Next (Store 12 (Value word) (Value 0) (Binary And (Value w) (Name (Local 2)))) (Next (adds 13 1 32) (Next (counts_down 14 6) (clear_text rest)))

    clear_loads : (ws : List ℕ) (glyph word other pixel m : ℕ) → Reaches word 0 word
        → run subs 7 (at_text ws (clear_text rest) (locals glyph word other pixel 0 0 (suc m) 0)) ≡ Some (at_text ws (clear_store word (word_at ws word)) (locals glyph word other pixel 0 0 (suc m) 0))
    clear_loads ws glyph word other pixel m r = rw (r.at, r.low, r.high) refl

    clear_stores : (ws : List ℕ) (glyph word other pixel w word' m m' : ℕ) → Reaches word 0 word → word_add word 32 ≡ word' → word_sub (suc m) 1 ≡ m'
        → run subs 11 (at_text ws (clear_store word w) (locals glyph word other pixel 0 0 (suc m) 0)) ≡ Some (at_text (slice_set ws (word - 2048) (bit_and w other)) (clear_text rest) (locals glyph word' other pixel 0 0 m' 0))
    clear_stores ws glyph word other pixel w word' m m' r hw hm = rw (r.at, r.low, r.high, hw, hm) refl

    clears : (ws : List ℕ) (glyph word other pixel word' m m' : ℕ) → Reaches word 0 word → word_add word 32 ≡ word' → word_sub (suc m) 1 ≡ m'
        → run subs 18 (at_text ws (clear_text rest) (locals glyph word other pixel 0 0 (suc m) 0)) ≡ Some (at_text (slice_set ws (word - 2048) (bit_and (word_at ws word) other)) (clear_text rest) (locals glyph word' other pixel 0 0 m' 0))
    clears ws glyph word other pixel word' m m' r hw hm =
        let w = word_at ws word in
        let s0 = at_text ws (clear_text rest) (locals glyph word other pixel 0 0 (suc m) 0) in
        let s1 = at_text ws (clear_store word w) (locals glyph word other pixel 0 0 (suc m) 0) in
        let s2 = at_text (slice_set ws (word - 2048) (bit_and w other)) (clear_text rest) (locals glyph word' other pixel 0 0 m' 0) in
        run_then subs 7 11 s0 s1 s2 (clear_loads ws glyph word other pixel m r) (clear_stores ws glyph word other pixel w word' m m' r hw hm)

    -- ---- a dot

    abbrev row_moves : Text
    row_moves = Next (adds 24 1 32) (Next (doubles 25 5) (Next (counts_down 26 6) (row_text rest)))

    abbrev row_load : Text
    row_load = Next (Store 23 (Name (Local 1)) (Literal 0) (Binary Or (Load (Name (Local 1)) (Literal 0)) (Name (Local 3)))) row_moves

    abbrev row_store : ℕ → ℕ → Text
    row_store word w = Next (Store 23 (Value word) (Value 0) (Binary Or (Value w) (Name (Local 3)))) row_moves

    dot_is_white : (ws : List ℕ) (glyph word other pixel dots dot columns m : ℕ) → bit_and dots dot ≡ 0
        → run subs 6 (at_text ws (row_text rest) (locals glyph word other pixel dots dot (suc m) columns)) ≡ Some (at_text ws row_moves (locals glyph word other pixel dots dot (suc m) columns))
    dot_is_white ws glyph word other pixel dots dot columns m h = rw h refl

    dot_is_black : (ws : List ℕ) (glyph word other pixel dots dot columns m k : ℕ) → bit_and dots dot ≡ suc k
        → run subs 6 (at_text ws (row_text rest) (locals glyph word other pixel dots dot (suc m) columns)) ≡ Some (at_text ws row_load (locals glyph word other pixel dots dot (suc m) columns))
    dot_is_black ws glyph word other pixel dots dot columns m k h = rw h refl

    dot_loads : (ws : List ℕ) (glyph word other pixel dots dot rows columns : ℕ) → Reaches word 0 word
        → run subs 5 (at_text ws row_load (locals glyph word other pixel dots dot rows columns)) ≡ Some (at_text ws (row_store word (word_at ws word)) (locals glyph word other pixel dots dot rows columns))
    dot_loads ws glyph word other pixel dots dot rows columns r = rw (r.at, r.low, r.high) refl

    dot_stores : (ws : List ℕ) (glyph word other pixel dots dot rows columns w : ℕ) → Reaches word 0 word
        → run subs 3 (at_text ws (row_store word w) (locals glyph word other pixel dots dot rows columns)) ≡ Some (at_text (slice_set ws (word - 2048) (bit_or w pixel)) row_moves (locals glyph word other pixel dots dot rows columns))
    dot_stores ws glyph word other pixel dots dot rows columns w r = rw (r.at, r.low, r.high) refl

    dot_moves : (ws : List ℕ) (glyph word other pixel dots dot columns word' dot' m m' : ℕ) → word_add word 32 ≡ word' → word_add dot dot ≡ dot' → word_sub (suc m) 1 ≡ m'
        → run subs 12 (at_text ws row_moves (locals glyph word other pixel dots dot (suc m) columns)) ≡ Some (at_text ws (row_text rest) (locals glyph word' other pixel dots dot' m' columns))
    dot_moves ws glyph word other pixel dots dot columns word' dot' m m' hw hd hm =
        let t2 = Next (counts_down 26 6) (row_text rest) in
        let t1 = Next (doubles 25 5) t2 in
        let s0 = at_text ws row_moves (locals glyph word other pixel dots dot (suc m) columns) in
        let s1 = at_text ws t1 (locals glyph word' other pixel dots dot (suc m) columns) in
        let s2 = at_text ws t2 (locals glyph word' other pixel dots dot' (suc m) columns) in
        let s3 = at_text ws (row_text rest) (locals glyph word' other pixel dots dot' m' columns) in
        run_then subs 4 8 s0 s1 s3 (word_moves t1 ws glyph word other pixel dots dot (suc m) columns word' hw)
        (run_then subs 4 4 s1 s2 s3 (dot_doubles t2 ws glyph word' other pixel dots dot (suc m) columns dot' hd) (rows_count (row_text rest) ws glyph word' other pixel dots dot' columns m m' hm))

    -- ---- after the rows of a column

    abbrev column_moves : Text
    column_moves = Next (doubles 30 3) (Next (counts_down 31 7) rest)

    abbrev column_turns : Text
    column_turns = Next (Let 28 (Local 5) (Literal 1)) (Next (adds 29 0 1) column_moves)

    left_tests : (ws : List ℕ) (glyph word other pixel dots columns : ℕ)
        → run subs 6 (at_text ws (row_text (column_end rest)) (locals glyph word other pixel dots 128 0 columns)) ≡ Some (at_text ws column_moves (locals glyph word other pixel dots 128 0 columns))
    left_tests ws glyph word other pixel dots columns = refl

    right_tests : (ws : List ℕ) (glyph word other pixel dots columns : ℕ)
        → run subs 6 (at_text ws (row_text (column_end rest)) (locals glyph word other pixel dots 16384 0 columns)) ≡ Some (at_text ws column_turns (locals glyph word other pixel dots 16384 0 columns))
    right_tests ws glyph word other pixel dots columns = refl

    right_turns : (ws : List ℕ) (glyph word other pixel dots dot columns glyph' : ℕ) → word_add glyph 1 ≡ glyph'
        → run subs 6 (at_text ws column_turns (locals glyph word other pixel dots dot 0 columns)) ≡ Some (at_text ws column_moves (locals glyph' word other pixel dots 1 0 columns))
    right_turns ws glyph word other pixel dots dot columns glyph' h = rw h refl

    column_moved : (ws : List ℕ) (glyph word other pixel dots dot pixel' m m' : ℕ) → word_add pixel pixel ≡ pixel' → word_sub (suc m) 1 ≡ m'
        → run subs 8 (at_text ws column_moves (locals glyph word other pixel dots dot 0 (suc m))) ≡ Some (at_text ws rest (locals glyph word other pixel' dots dot 0 m'))
    column_moved ws glyph word other pixel dots dot pixel' m m' hp hm = rw (hp, hm) refl

  -- ---- the loop over rows that are cleared

  module _ (glyph other pixel : ℕ) where
    abbrev pub at_clear : List ℕ → ℕ → ℕ → Call
    at_clear ws word rows = at_text ws (clear_loop place) (locals glyph word other pixel 0 0 rows 0)

    pub clear_row : (ws : List ℕ) (word word' m m' : ℕ) → Reaches word 0 word → word_add word 32 ≡ word' → word_sub (suc m) 1 ≡ m'
        → run subs 18 (at_clear ws word (suc m)) ≡ Some (at_clear (slice_set ws (word - 2048) (bit_and (word_at ws word) other)) word' m')
    clear_row ws word word' m m' r hw hm = clears (Next (Let 15 (Local 5) (Literal 1)) (Next (Let 16 (Local 7) (Literal 5)) (columns_loop place))) ws glyph word other pixel word' m m' r hw hm

    pub all_clear : (ws : List ℕ) (word : ℕ) → run subs 6 (at_clear ws word 0) ≡ Some (at_text ws (columns_loop place) (locals glyph word other pixel 0 1 0 5))
    all_clear ws word = refl

  -- ---- a column

  module _ (other : ℕ) where
    abbrev pub at_column : List ℕ → ℕ → ℕ → ℕ → ℕ → ℕ → ℕ → Call
    at_column ws glyph word pixel dots dot columns = at_text ws (columns_loop place) (locals glyph word other pixel dots dot 0 columns)

    abbrev pub at_row : List ℕ → ℕ → ℕ → ℕ → ℕ → ℕ → ℕ → ℕ → Call
    at_row ws glyph word pixel dots dot rows columns = at_text ws (rows_loop place) (locals glyph word other pixel dots dot rows columns)

    pub column_begins : (ws : List ℕ) (glyph word pixel dots dot m a a' : ℕ) → Reaches glyph 0 glyph → slice_index ss place ≡ a → word_add a 32 ≡ a'
        → run subs 12 (at_column ws glyph word pixel dots dot (suc m)) ≡ Some (at_row ws glyph a' pixel (word_at ws glyph) dot 7 (suc m))
    column_begins ws glyph word pixel dots dot m a a' r ha hw = rw (r.at, r.low, r.high, ha, hw) refl

    pub row_white : (ws : List ℕ) (glyph word pixel dots dot columns word' dot' m m' : ℕ) → bit_and dots dot ≡ 0 → word_add word 32 ≡ word' → word_add dot dot ≡ dot' → word_sub (suc m) 1 ≡ m'
        → run subs 18 (at_row ws glyph word pixel dots dot (suc m) columns) ≡ Some (at_row ws glyph word' pixel dots dot' m' columns)
    row_white ws glyph word pixel dots dot columns word' dot' m m' h hw hd hm =
        let rest = column_end (columns_loop place) in
        let s1 = at_text ws (row_moves rest) (locals glyph word other pixel dots dot (suc m) columns) in
        run_then subs 6 12 (at_row ws glyph word pixel dots dot (suc m) columns) s1 (at_row ws glyph word' pixel dots dot' m' columns) (dot_is_white rest ws glyph word other pixel dots dot columns m h)
        (dot_moves rest ws glyph word other pixel dots dot columns word' dot' m m' hw hd hm)

    pub row_black : (ws : List ℕ) (glyph word pixel dots dot columns word' dot' m m' k : ℕ) → bit_and dots dot ≡ suc k → Reaches word 0 word → word_add word 32 ≡ word' → word_add dot dot ≡ dot' → word_sub (suc m) 1 ≡ m'
        → run subs 26 (at_row ws glyph word pixel dots dot (suc m) columns) ≡ Some (at_row (slice_set ws (word - 2048) (bit_or (word_at ws word) pixel)) glyph word' pixel dots dot' m' columns)
    row_black ws glyph word pixel dots dot columns word' dot' m m' k h r hw hd hm =
        let rest = column_end (columns_loop place) in
        let w = word_at ws word in
        let ws' = slice_set ws (word - 2048) (bit_or w pixel) in
        let here = locals glyph word other pixel dots dot (suc m) columns in
        let s0 = at_row ws glyph word pixel dots dot (suc m) columns in
        let s1 = at_text ws (row_load rest) here in
        let s2 = at_text ws (row_store rest word w) here in
        let s3 = at_text ws' (row_moves rest) here in
        let s4 = at_row ws' glyph word' pixel dots dot' m' columns in
        run_then subs 6 20 s0 s1 s4 (dot_is_black rest ws glyph word other pixel dots dot columns m k h)
        (run_then subs 5 15 s1 s2 s4 (dot_loads rest ws glyph word other pixel dots dot (suc m) columns r)
        (run_then subs 3 12 s2 s3 s4 (dot_stores rest ws glyph word other pixel dots dot (suc m) columns w r) (dot_moves rest ws' glyph word other pixel dots dot columns word' dot' m m' hw hd hm)))

    pub left_column_ends : (ws : List ℕ) (glyph word pixel dots pixel' m m' : ℕ) → word_add pixel pixel ≡ pixel' → word_sub (suc m) 1 ≡ m'
        → run subs 14 (at_row ws glyph word pixel dots 128 0 (suc m)) ≡ Some (at_column ws glyph word pixel' dots 128 m')
    left_column_ends ws glyph word pixel dots pixel' m m' hp hm =
        let rest = columns_loop place in
        let s1 = at_text ws (column_moves rest) (locals glyph word other pixel dots 128 0 (suc m)) in
        run_then subs 6 8 (at_row ws glyph word pixel dots 128 0 (suc m)) s1 (at_column ws glyph word pixel' dots 128 m') (left_tests rest ws glyph word other pixel dots (suc m)) (column_moved rest ws glyph word other pixel dots 128 pixel' m m' hp hm)

    pub right_column_ends : (ws : List ℕ) (glyph word pixel dots glyph' pixel' m m' : ℕ) → word_add glyph 1 ≡ glyph' → word_add pixel pixel ≡ pixel' → word_sub (suc m) 1 ≡ m'
        → run subs 20 (at_row ws glyph word pixel dots 16384 0 (suc m)) ≡ Some (at_column ws glyph' word pixel' dots 1 m')
    right_column_ends ws glyph word pixel dots glyph' pixel' m m' hg hp hm =
        let rest = columns_loop place in
        let s0 = at_row ws glyph word pixel dots 16384 0 (suc m) in
        let s1 = at_text ws (column_turns rest) (locals glyph word other pixel dots 16384 0 (suc m)) in
        let s2 = at_text ws (column_moves rest) (locals glyph' word other pixel dots 1 0 (suc m)) in
        let s3 = at_column ws glyph' word pixel' dots 1 m' in
        run_then subs 6 14 s0 s1 s3 (right_tests rest ws glyph word other pixel dots (suc m))
        (run_then subs 6 8 s1 s2 s3 (right_turns rest ws glyph word other pixel dots 16384 (suc m) glyph' hg) (column_moved rest ws glyph' word other pixel dots 1 pixel' m m' hp hm))

    pub all_drawn : (ws : List ℕ) (glyph word pixel dots dot : ℕ) → run subs 3 (at_column ws glyph word pixel dots dot 0) ≡ Some (at_text ws (returns_value 32 0 End) (locals glyph word other pixel dots dot 0 0))
    all_drawn ws glyph word pixel dots dot = refl

-- ---- the code

module _ (subs : List Subroutine) (g : ℕ) (ss ws : List ℕ) (place font right : ℕ) where
  abbrev begin : ℕ → Text → Call
  begin c t = in_call g 0 ss ws t (c ∷ []) (0 ∷ 0 ∷ 0 ∷ 0 ∷ 0 ∷ 0 ∷ 0 ∷ 0 ∷ [])

  pub has_glyph : (c : ℕ) → word_lt c 32 ≡ 0 → word_gt c 126 ≡ 0 → run subs 8 (begin c (draw_body font place right)) ≡ Some (begin c (glyph_text font place right))
  has_glyph c h k = rw (h, k) refl

  pub has_none : (c a b m : ℕ) → word_lt c 32 ≡ a → word_gt c 126 ≡ b → bit_or a b ≡ suc m → run subs 10 (begin c (draw_body font place right)) ≡ Some (begin 127 (glyph_text font place right))
  has_none c a b m ha hb h = rw (ha, hb, h) refl
