-- The start: each straight piece of its runs is a computation.
use Rattle.std.proofs.Common.{◌≡◌, ℕ, ◌+◌, ◌-◌, ◌*◌, ◌≤◌, List, [], ◌∷◌, length, Some, refl, ap, ◌∙◌, arith}
use Rattle.std.specs.Prelude.{slice_index, slice_set}
use Rattle.word16.specs.Words.{word_add, word_sub}
use Rattle.jack_meaning.specs.Text.{Argument, Static, Literal, Value, Name, Call as Calling, NoMore, More, Let, Store, Do, Text, End, Next, Subroutine}
use Rattle.os_laws.proofs.Runs.{Call, run, run_then}
use Rattle.os_laws.proofs.Searching.{Reaches}
use Rattle.os_laws.proofs.Walking.{reaches}
use Rattle.os_functions.proofs.Pieces.{in_call, returns_value}
use Rattle.os_functions.proofs.StartTexts.{Row, words_of, stores, four_end, four_body, literals, values, output_end, nothing_body}

-- these words stored one after the other, the first one at this place
abbrev pub laid : List ℕ → ℕ → List ℕ → List ℕ
laid ws i [] = ws
laid ws i (v ∷ vs) = laid (slice_set ws i v) (i + 1) vs

-- from the k-th on these values are in a list
abbrev pub AllAt : List ℕ → ℕ → List ℕ → Type 0
AllAt xs k [] = Unit {0}
AllAt xs k (v ∷ vs) = (slice_index xs k ≡ v) × AllAt xs (k + 1) vs

module _ (subs : List Subroutine) (g : ℕ) where
  abbrev pub at_four : List ℕ → List ℕ → List ℕ → Text → Call
  at_four xs ss ws t = in_call g 0 ss ws t xs []

  store_one : (xs ss ws : List ℕ) (font n k f v a d : ℕ) (rest : Text) → slice_index ss font ≡ f → slice_index xs k ≡ v → Reaches f k a → a - 2048 ≡ d
      → run subs 4 (at_four xs ss ws (Next (Store n (Name (Static font)) (Literal k) (Name (Argument k))) rest)) ≡ Some (at_four xs ss (slice_set ws d v) rest)
  store_one xs ss ws font n k f v a d rest hf hv r hd = rw (hf, hv, r.at, r.low, r.high, hd) refl

  -- as many stores as these values are
  all_stored : (xs ss : List ℕ) (font i : ℕ) (rest : Text) → slice_index ss font ≡ i + 2048 → (vs ws : List ℕ) (k : ℕ) → AllAt xs k vs → i + k + length vs ≤ 14336
      → run subs (4 * length vs) (at_four xs ss ws (stores font k vs rest)) ≡ Some (at_four xs ss (laid ws (i + k) vs) rest)
  all_stored xs ss font i rest hf [] ws k all room = refl
  all_stored xs ss font i rest hf (v ∷ vs) ws k all room =
      let count : 4 * length (v ∷ vs) ≡ 4 + 4 * length vs = omega arith in
      let there : i + 2048 + k - 2048 ≡ i + k = omega arith in
      let step = i + k + 1 in
      let again : i + (k + 1) ≡ i + k + 1 = omega arith in
      ap (λ z. run subs z (at_four xs ss ws (stores font k (v ∷ vs) rest))) count
      ∙ run_then subs 4 (4 * length vs) (at_four xs ss ws (stores font k (v ∷ vs) rest)) (at_four xs ss (slice_set ws (i + k) v) (stores font (k + 1) vs rest)) (at_four xs ss (laid (slice_set ws (i + k) v) (i + (k + 1)) vs) rest)
      (store_one xs ss ws font (k + 1) k (i + 2048) v (i + 2048 + k) (i + k) (stores font (k + 1) vs rest) hf all.0 (reaches (i + 2048) k (omega arith) (omega (arith, room))) there)
      (all_stored xs ss font i rest hf vs (slice_set ws (i + k) v) (k + 1) all.1 (omega (arith, room)))
      ∙ ap (λ z. Some (at_four xs ss (laid (slice_set ws (i + k) v) z vs) rest)) again

  four_ends : (xs ss ws : List ℕ) (font f f' : ℕ) → slice_index ss font ≡ f → word_add f 12 ≡ f' → run subs 5 (at_four xs ss ws (four_end font)) ≡ Some (at_four xs (slice_set ss font f') ws (returns_value 14 0 End))
  four_ends xs ss ws font f f' h k = rw (h, k) refl

  pub four_run : (r : Row) (ss ws : List ℕ) (font i : ℕ) → slice_index ss font ≡ i + 2048 → i + 12 ≤ 14336
      → run subs 53 (at_four (words_of r) ss ws (four_body font)) ≡ Some (at_four (words_of r) (slice_set ss font (i + 12 + 2048)) (laid ws i (words_of r)) (returns_value 14 0 End))
  four_run r ss ws font i hf room =
      let sum : word_add (i + 2048) 12 ≡ i + 12 + 2048 = omega (arith, room) in
      let all : AllAt (words_of r) 0 (words_of r) = (refl, (refl, (refl, (refl, (refl, (refl, (refl, (refl, (refl, (refl, (refl, (refl, tt)))))))))))) in
      let start : i + 0 ≡ i = omega arith in
      run_then subs 48 5 (at_four (words_of r) ss ws (four_body font)) (at_four (words_of r) ss (laid ws i (words_of r)) (four_end font)) (at_four (words_of r) (slice_set ss font (i + 12 + 2048)) (laid ws i (words_of r)) (returns_value 14 0 End))
      (all_stored (words_of r) ss font i (four_end font) hf (words_of r) ws 0 all (omega (arith, room)) ∙ ap (λ z. Some (at_four (words_of r) ss (laid ws z (words_of r)) (four_end font))) start)
      (four_ends (words_of r) ss (laid ws i (words_of r)) font (i + 2048) (i + 12 + 2048) hf sum)

module _ (subs : List Subroutine) (g : ℕ) where
  abbrev pub at_output : List ℕ → List ℕ → Text → Call
  at_output ss ws t = in_call g 0 ss ws t [] []

  pub asks_heap : (ss ws : List ℕ) (font alloc : ℕ) (rest : Text)
      → run subs 1 (at_output ss ws (Next (Let 1 (Static font) (Calling alloc (More (Literal 288) NoMore))) rest)) ≡ Some (at_output ss ws (Next (Let 1 (Static font) (Calling alloc (More (Value 288) NoMore))) rest))
  asks_heap ss ws font alloc rest = refl

  pub has_heap : (ss ws : List ℕ) (font v : ℕ) (rest : Text) → run subs 1 (at_output ss ws (Next (Let 1 (Static font) (Value v)) rest)) ≡ Some (at_output (slice_set ss font v) ws rest)
  has_heap ss ws font v rest = refl

  pub asks_four : (ss ws : List ℕ) (n four : ℕ) (r : Row) (rest : Text)
      → run subs 12 (at_output ss ws (Next (Do n (Calling four (literals r))) rest)) ≡ Some (at_output ss ws (Next (Do n (Calling four (values r))) rest))
  asks_four ss ws n four r rest = refl

  pub passes : (ss ws : List ℕ) (n : ℕ) (rest : Text) → run subs 1 (at_output ss ws (Next (Do n (Value 0)) rest)) ≡ Some (at_output ss ws rest)
  passes ss ws n rest = refl

  pub output_ends : (ss ws : List ℕ) (font place right f f' : ℕ) → slice_index ss font ≡ f → word_sub f 384 ≡ f'
      → run subs 9 (at_output ss ws (output_end font place right)) ≡ Some (at_output (slice_set (slice_set (slice_set ss font f') place 16384) right 0) ws (returns_value 29 0 End))
  output_ends ss ws font place right f f' h k = rw (h, k) refl

  pub does_nothing : (ss ws : List ℕ) → run subs 1 (at_output ss ws nothing_body) ≡ Some (at_output ss ws (returns_value 1 0 End))
  does_nothing ss ws = refl
