-- String.new and dispose: each straight piece of their runs is a computation.
use Rattle.std.proofs.Common.{◌≡◌, ℕ, suc, ◌+◌, false, List, [], ◌∷◌, Some, refl}
use Rattle.word16.specs.Words.{word_lt}
use Rattle.jack_meaning.specs.Text.{Argument, Less, Expression, Literal, Value, Name, This, Field, Binary, Call as Calling, NoMore, More, LetField, LetThis, Do, If, Return, Text, End, Next, Subroutine}
use Rattle.os_laws.specs.Heap.{word_at}
use Rattle.os_laws.proofs.Runs.{Call, run}
use Rattle.os_laws.proofs.Searching.{Reaches}
use Rattle.os_functions.specs.StringLaws.{with_heap_word}
use Rattle.os_functions.proofs.Pieces.{in_call, returns_value}
use Rattle.os_functions.proofs.Texts.{error_text}

abbrev pub asks_one : ℕ → Expression → Expression
asks_one g e = Calling g (More e NoMore)

-- ---- new: the fields are characters, count, room

abbrev pub gives_this : Text
gives_this = Next (Return 8 This) End

abbrev pub characters_from : Expression → Text
characters_from e = Next (LetField 7 0 e) gives_this

abbrev pub sets_fields : ℕ → Text
sets_fields array =
    Next (LetField 3 0 (Literal 0))
    (Next (LetField 4 1 (Literal 0))
    (Next (LetField 5 2 (Name (Argument 0))) (Next (If 6 false (Name (Argument 0)) (Next (LetField 7 0 (asks_one array (Name (Argument 0)))) End) End) gives_this)))

abbrev pub tests_length : ℕ → ℕ → Text
tests_length error array = Next (If 1 false (Binary Less (Name (Argument 0)) (Literal 0)) (error_text 2 error 14) End) (sets_fields array)

abbrev pub object_from : Expression → ℕ → ℕ → Text
object_from e error array = Next (LetThis 0 e) (tests_length error array)

abbrev pub new_body : ℕ → ℕ → ℕ → Text
new_body alloc error array = object_from (asks_one alloc (Literal 3)) error array

-- ---- dispose

abbrev pub gives_object : Expression → Text
gives_object e = Next (Do 3 e) (Next (Return 4 (Literal 0)) End)

abbrev pub dispose_body : ℕ → ℕ → Text
dispose_body array deAlloc = Next (If 1 false (Field 2) (Next (Do 2 (asks_one array (Field 0))) End) End) (gives_object (asks_one deAlloc This))

abbrev pub gives_characters : Expression → ℕ → Text
gives_characters e deAlloc = Next (Do 2 e) (gives_object (asks_one deAlloc This))

module _ (subs : List Subroutine) (g : ℕ) (ss : List ℕ) where
  abbrev pub at_new : ℕ → List ℕ → Text → ℕ → Call
  at_new this ws t max = in_call g this ss ws t (max ∷ []) []

  pub to_alloc : (alloc error array max : ℕ) (ws : List ℕ) → run subs 1 (at_new 0 ws (new_body alloc error array) max) ≡ Some (at_new 0 ws (object_from (asks_one alloc (Value 3)) error array) max)
  to_alloc alloc error array max ws = refl

  pub to_object : (o error array max : ℕ) (ws : List ℕ) → run subs 1 (at_new 0 ws (object_from (Value o) error array) max) ≡ Some (at_new o ws (tests_length error array) max)
  to_object o error array max ws = refl

  pub is_long : (o error array max : ℕ) (ws : List ℕ) → word_lt max 0 ≡ 0 → run subs 4 (at_new o ws (tests_length error array) max) ≡ Some (at_new o ws (sets_fields array) max)
  is_long o error array max ws h = rw h refl

  pub is_negative : (o error array max : ℕ) (ws : List ℕ) → word_lt max 0 ≡ 65535 → run subs 5 (at_new o ws (tests_length error array) max) ≡ Some (at_new o ws (Next (Do 2 (asks_one error (Value 14))) (sets_fields array)) max)
  is_negative o error array max ws h = rw h refl

  -- the words with the three fields set
  abbrev pub with_fields : ℕ → ℕ → List ℕ → List ℕ
  with_fields o max ws = with_heap_word (with_heap_word (with_heap_word ws o 0) (o + 1) 0) (o + 2) max

  abbrev pub after_fields : ℕ → Text
  after_fields array = Next (If 6 false (Name (Argument 0)) (Next (LetField 7 0 (asks_one array (Name (Argument 0)))) End) End) gives_this

  pub sets : (o array max : ℕ) (ws : List ℕ) → Reaches o 0 o → Reaches o 1 (o + 1) → Reaches o 2 (o + 2) → run subs 6 (at_new o ws (sets_fields array) max) ≡ Some (at_new o (with_fields o max ws) (after_fields array) max)
  sets o array max ws r0 r1 r2 = rw (r0.at, r0.low, r0.high, r1.at, r1.low, r1.high, r2.at, r2.low, r2.high) refl

  pub has_none : (o array max : ℕ) (ws : List ℕ) → max ≡ 0 → run subs 3 (at_new o ws (after_fields array) max) ≡ Some (at_new o ws (returns_value 8 o End) max)
  has_none o array max ws h = rw h refl

  pub to_array : (o array max m : ℕ) (ws : List ℕ) → max ≡ suc m → run subs 3 (at_new o ws (after_fields array) max) ≡ Some (at_new o ws (characters_from (asks_one array (Value max))) max)
  to_array o array max m ws h = rw h refl

  pub sets_characters : (o place max : ℕ) (ws : List ℕ) → Reaches o 0 o → run subs 2 (at_new o ws (characters_from (Value place)) max) ≡ Some (at_new o (with_heap_word ws o place) (returns_value 8 o End) max)
  sets_characters o place max ws r = rw (r.at, r.low, r.high) refl

  -- ---- dispose

  abbrev pub at_dispose : ℕ → List ℕ → Text → Call
  at_dispose o ws t = in_call g o ss ws t (o ∷ []) []

  pub no_characters : (o array deAlloc d : ℕ) (ws : List ℕ) → Reaches o 2 d → word_at ws d ≡ 0 → run subs 3 (at_dispose o ws (dispose_body array deAlloc)) ≡ Some (at_dispose o ws (gives_object (asks_one deAlloc (Value o))))
  no_characters o array deAlloc d ws r h = rw (r.at, r.low, r.high, h) refl

  pub has_characters : (o array deAlloc d m : ℕ) (ws : List ℕ) → Reaches o 2 d → word_at ws d ≡ suc m → run subs 2 (at_dispose o ws (dispose_body array deAlloc)) ≡ Some (at_dispose o ws (gives_characters (asks_one array (Field 0)) deAlloc))
  has_characters o array deAlloc d m ws r h = rw (r.at, r.low, r.high, h) refl

  pub to_characters : (o array deAlloc : ℕ) (ws : List ℕ) → Reaches o 0 o → run subs 1 (at_dispose o ws (gives_characters (asks_one array (Field 0)) deAlloc)) ≡ Some (at_dispose o ws (gives_characters (asks_one array (Value (word_at ws o))) deAlloc))
  to_characters o array deAlloc ws r = rw (r.at, r.low, r.high) refl

  pub to_own : (o deAlloc : ℕ) (ws : List ℕ) → run subs 2 (at_dispose o ws (gives_characters (Value 0) deAlloc)) ≡ Some (at_dispose o ws (gives_object (asks_one deAlloc (Value o))))
  to_own o deAlloc ws = refl

  pub disposes : (o : ℕ) (ws : List ℕ) → run subs 2 (at_dispose o ws (gives_object (Value 0))) ≡ Some (at_dispose o ws (returns_value 4 0 End))
  disposes o ws = refl
