-- The laws of strings.
use Rattle.std.proofs.Common.{◌≡◌, ⊎_elim, ℕ, ◌+◌, ◌-◌, ◌<◌, ◌≤◌, true, false, nat_eq, bit_or, List, [], ◌∷◌, length, Some, codes, refl, sym, ap, ◌∙◌, subst, arith}
use Rattle.std.proofs.lemmas.Bool.{cases_lt}
use Rattle.std.proofs.lemmas.Bool.Decides.{nat_tests}
use Rattle.word16.specs.Words.{word_add, word_sub, word_not, word_lt}
use Rattle.jack_core.specs.declared.program.Core.{Core}
use Rattle.jack_core.specs.Texts.{the_subroutines}
use Rattle.jack_meaning.specs.Text.{End, Function, Subroutine}
use Rattle.jack_meaning.specs.Meaning.{State, subroutine_at}
use Rattle.os_laws.specs.Heap.{word_at}
use Rattle.os_laws.specs.Names.{IsShipped}
use Rattle.os_laws.proofs.Comparing.{less, not_less, negative, not_negative}
use Rattle.os_laws.proofs.Runs.{run, run_then}
use Rattle.os_laws.proofs.Searching.{Reaches}
use Rattle.os_functions.specs.Calls.{routine_number}
use Rattle.os_functions.specs.StringLaws.{StringAt, StringLaws, LengthLaw, CharLaw, CharErrorLaw, SetCharLaw, SetCharErrorLaw, AppendLaw, AppendErrorLaw, EraseLaw, EraseErrorLaw, CodeLaw, with_heap_word}
use Rattle.os_functions.proofs.Pieces.{gives_by, leaves_by, refuses_by, returns_value}
use Rattle.os_functions.proofs.Named.{is_error, system_error, own_number}
use Rattle.os_functions.proofs.StringRoutines.{is_length, is_char_at, is_set_char, is_append, is_erase, is_back_space, is_double_quote, is_new_line}
use Rattle.os_functions.proofs.StringFacts.{at_place, at_count, at_most, at_character, negative_below, set_string, append_string, append_count_kept, erase_string}
use Rattle.os_functions.proofs.StringRuns.{at_text, at_with, lengths, is_inside, is_elsewhere, reads, reads_character, writes, writes_character, counts, appends_character, append_refused, appends, counts_one_more, erase_refused, erases, erases_character}
use Rattle.os_functions.proofs.Texts.{routine, char_at_body, set_char_body, append_body, code_body}

same_numbers : (a b : ℕ) → a ≡ b → nat_eq a b ≡ true
same_numbers a b h = grind (arith, nat_tests)

other_numbers : (a b : ℕ) → a < b → nat_eq a b ≡ false
other_numbers a b h = grind (arith, nat_tests)

more_numbers : (a b : ℕ) → b < a → nat_eq a b ≡ false
more_numbers a b h = grind (arith, nat_tests)

module _ {core : Core} (p : IsShipped core) (s : State) (o : ℕ) (text : List ℕ) (room : ℕ) where
  abbrev subs : List Subroutine
  subs = the_subroutines core

  abbrev number : List ℕ → ℕ
  number name = routine_number p (codes "String") name

  abbrev n : ℕ
  n = length text

  pub length_law : LengthLaw p s o text room
  length_law c =
      let t = c.string in
      gives_by p s (codes "String") (codes "length") (o ∷ []) c.call 1 3 (omega arith) _ (is_length core p) o 1 (word_at s.words (o + 1)) n t.count End (o ∷ []) [] (lengths subs (number (codes "length")) o s.statics s.words (o + 1) (at_count s.words o text room t))

  -- ---- places

  inside_by : (t : StringAt s.words o text room) (j : ℕ) → j < n → word_lt j (word_at s.words (o + 1)) ≡ 65535
  inside_by t j h = ap (word_lt j) t.count ∙ less j n h (omega (arith, t.few, t.small))

  not_negative_by : (t : StringAt s.words o text room) (j : ℕ) → j < n → word_lt j 0 ≡ 0
  not_negative_by t j h = not_negative j (omega (arith, h, t.few, t.small))

  -- the two tests of a place where no character stands
  abbrev Fails : ℕ → Type 0
  Fails j = (a : ℕ) × (b : ℕ) × (word_lt j 0 ≡ a) × (word_lt j (word_at s.words (o + 1)) ≡ b) × (bit_or a (word_not b) ≡ 65535)

  fails : (t : StringAt s.words o text room) (j : ℕ) → n ≤ j → j < 65536 → Fails j
  fails t j h w =
      let few : n < 32768 = omega (arith, t.few, t.small) in
      ⊎_elim
      (λ (l : j < 32768). (0, 0, not_negative j l, ap (word_lt j) t.count ∙ not_less j n h l, refl))
      (λ (g : 32768 ≤ j). (65535, 65535, negative j g, ap (word_lt j) t.count ∙ negative_below j n g few, refl))
      (cases_lt j 32768)

  pub char_law : CharLaw p s o text room
  char_law j h c =
      let t = c.string in
      let g = number (codes "charAt") in
      let error = system_error p in
      let e = t.place + j in
      let first = at_text subs g o s.statics s.words (char_at_body error) (j ∷ []) in
      let middle = at_text subs g o s.statics s.words (reads subs g o s.statics s.words) (j ∷ []) in
      let last = at_text subs g o s.statics s.words (returns_value 3 (word_at s.words e) End) (j ∷ []) in
      let near : j < room = omega (arith, h, t.few) in
      let tested : run subs 9 first ≡ Some middle =
      is_inside subs g o s.statics s.words j error 15 (o + 1) (reads subs g o s.statics s.words) [] (at_count s.words o text room t) (not_negative_by t j h) (inside_by t j h) in
      let read : run subs 3 middle ≡ Some last = reads_character subs g o s.statics s.words j e (at_place s.words o text room t) (at_character s.words o text room t j near) in
      gives_by p s (codes "String") (codes "charAt") (o ∷ j ∷ []) c.call 12 14 (omega arith) _ (is_char_at core p) o 3 (word_at s.words e) _ (t.each j h) End (o ∷ j ∷ []) [] (run_then subs 9 3 first middle last tested read)

  pub char_error_law : CharErrorLaw p s o text room
  char_error_law j h w c =
      let t = c.string in
      let g = number (codes "charAt") in
      let error = system_error p in
      let (a, b, negative_is, count_is, both) = fails t j h w in
      refuses_by p s (codes "String") (codes "charAt") (o ∷ j ∷ []) c.call 10 12 (omega arith) _ (is_char_at core p) error (is_error core p) o 15 (reads subs g o s.statics s.words) (o ∷ j ∷ []) []
      (is_elsewhere subs g o s.statics s.words j error 15 a b (o + 1) (reads subs g o s.statics s.words) [] (at_count s.words o text room t) negative_is count_is both)

  pub set_char_law : SetCharLaw p s o text room
  set_char_law j v h c =
      let t = c.string in
      let g = number (codes "setCharAt") in
      let error = system_error p in
      let e = t.place + j in
      let first = at_text subs g o s.statics s.words (set_char_body error) (j ∷ v ∷ []) in
      let middle = at_text subs g o s.statics s.words (writes subs g o s.statics s.words) (j ∷ v ∷ []) in
      let last = at_with subs g o s.statics s.words (with_heap_word s.words e v) (returns_value 4 0 End) (j ∷ v ∷ []) in
      let near : j < room = omega (arith, h, t.few) in
      let tested : run subs 9 first ≡ Some middle =
      is_inside subs g o s.statics s.words j error 16 (o + 1) (writes subs g o s.statics s.words) (v ∷ []) (at_count s.words o text room t) (not_negative_by t j h) (inside_by t j h) in
      let written : run subs 5 middle ≡ Some last = writes_character subs g o s.statics s.words j v e (at_place s.words o text room t) (at_character s.words o text room t j near) in (
        leaves_by p s (codes "String") (codes "setCharAt") (o ∷ j ∷ v ∷ []) c.call 14 16 (omega arith) _ (is_set_char core p) o s.statics (with_heap_word s.words e v) 4 0 End (o ∷ j ∷ v ∷ []) [] (run_then subs 9 5 first middle last tested written),
        set_string s.words o text room t c.words j v h,
      )

  pub set_char_error_law : SetCharErrorLaw p s o text room
  set_char_error_law j v h w c =
      let t = c.string in
      let g = number (codes "setCharAt") in
      let error = system_error p in
      let (a, b, negative_is, count_is, both) = fails t j h w in
      refuses_by p s (codes "String") (codes "setCharAt") (o ∷ j ∷ v ∷ []) c.call 10 12 (omega arith) _ (is_set_char core p) error (is_error core p) o 16 (writes subs g o s.statics s.words) (o ∷ j ∷ v ∷ []) []
      (is_elsewhere subs g o s.statics s.words j error 16 a b (o + 1) (writes subs g o s.statics s.words) (v ∷ []) (at_count s.words o text room t) negative_is count_is both)

  -- ---- one more and one less

  pub append_law : AppendLaw p s o text room
  append_law v h c =
      let t = c.string in
      let g = number (codes "appendChar") in
      let error = system_error p in
      let e = t.place + n in
      let ws1 = with_heap_word s.words e v in
      let ws2 = with_heap_word ws1 (o + 1) (n + 1) in
      let first = at_text subs g o s.statics s.words (append_body error) (v ∷ []) in
      let middle = at_with subs g o s.statics s.words ws1 (counts subs g o s.statics s.words) (v ∷ []) in
      let last = at_with subs g o s.statics s.words ws2 (returns_value 5 o End) (v ∷ []) in
      let full : nat_eq (word_at s.words (o + 1)) (word_at s.words (o + 2)) ≡ false = ap (λ z. nat_eq z (word_at s.words (o + 2))) t.count ∙ ap (nat_eq n) t.most ∙ other_numbers n room h in
      let there = subst (λ z. Reaches (word_at s.words o) z e) (sym t.count) (at_character s.words o text room t n h) in
      let appended : run subs 8 first ≡ Some middle =
      appends_character subs g o s.statics s.words error v (o + 1) (o + 2) e (at_place s.words o text room t) (at_count s.words o text room t) (at_most s.words o text room t) full there in
      let kept = append_count_kept s.words o text room t c.words v h in
      let sum : word_add (word_at ws1 (o + 1)) 1 ≡ n + 1 = ap (λ z. word_add z 1) kept ∙ (let a : word_add n 1 ≡ n + 1 = omega (arith, h, t.small) in a) in
      let counted : run subs 5 middle ≡ Some last = counts_one_more subs g o s.statics ws1 v (o + 1) (n + 1) (at_count s.words o text room t) sum in (
        leaves_by p s (codes "String") (codes "appendChar") (o ∷ v ∷ []) c.call 13 15 (omega arith) _ (is_append core p) o s.statics ws2 5 o End (o ∷ v ∷ []) [] (run_then subs 8 5 first middle last appended counted),
        append_string s.words o text room t c.words v h,
      )

  pub append_error_law : AppendErrorLaw p s o text room
  append_error_law v h c =
      let t = c.string in
      let g = number (codes "appendChar") in
      let error = system_error p in
      let full : nat_eq (word_at s.words (o + 1)) (word_at s.words (o + 2)) ≡ true = ap (λ z. nat_eq z (word_at s.words (o + 2))) t.count ∙ ap (nat_eq n) t.most ∙ same_numbers n room h in
      refuses_by p s (codes "String") (codes "appendChar") (o ∷ v ∷ []) c.call 5 7 (omega arith) _ (is_append core p) error (is_error core p) o 17 (appends subs g o s.statics s.words) (o ∷ v ∷ []) []
      (append_refused subs g o s.statics s.words error v (o + 1) (o + 2) (at_count s.words o text room t) (at_most s.words o text room t) full)

  pub erase_law : EraseLaw p s o text room
  erase_law h c =
      let t = c.string in
      let g = number (codes "eraseLastChar") in
      let error = system_error p in
      let ws' = with_heap_word s.words (o + 1) (n - 1) in
      let some : nat_eq (word_at s.words (o + 1)) 0 ≡ false = ap (λ z. nat_eq z 0) t.count ∙ more_numbers n 0 h in
      let left : word_sub (word_at s.words (o + 1)) 1 ≡ n - 1 = ap (λ z. word_sub z 1) t.count ∙ (let a : word_sub n 1 ≡ n - 1 = omega (arith, h, t.few, t.small) in a) in (
        leaves_by p s (codes "String") (codes "eraseLastChar") (o ∷ []) c.call 9 11 (omega arith) _ (is_erase core p) o s.statics ws' 4 0 End (o ∷ []) [] (erases_character subs g o s.statics s.words error (o + 1) (n - 1) (at_count s.words o text room t) some left),
        erase_string s.words o text room t c.words h,
      )

  pub erase_error_law : EraseErrorLaw p s o text room
  erase_error_law h c =
      let t = c.string in
      let g = number (codes "eraseLastChar") in
      let error = system_error p in
      let none : nat_eq (word_at s.words (o + 1)) 0 ≡ true = ap (λ z. nat_eq z 0) t.count ∙ same_numbers n 0 h in
      refuses_by p s (codes "String") (codes "eraseLastChar") (o ∷ []) c.call 5 7 (omega arith) _ (is_erase core p) error (is_error core p) o 18 (erases subs g o s.statics s.words) (o ∷ []) []
      (erase_refused subs g o s.statics s.words error (o + 1) (at_count s.words o text room t) none)

-- ---- codes

module _ {core : Core} (p : IsShipped core) (s : State) (name : List ℕ) (code class : ℕ) (is : subroutine_at (the_subroutines core) (routine_number p (codes "String") name) ≡ routine Function class 0 0 (code_body code)) where
  code_law : CodeLaw p s name code
  code_law c = gives_by p s (codes "String") name [] c 1 3 (omega arith) _ is 0 1 code code refl End [] [] refl

pub law : StringLaws
law = record {
  size = λ p s o text room. length_law p s o text room;
  char = λ p s o text room. char_law p s o text room;
  char_error = λ p s o text room. char_error_law p s o text room;
  set_char = λ p s o text room. set_char_law p s o text room;
  set_char_error = λ p s o text room. set_char_error_law p s o text room;
  append = λ p s o text room. append_law p s o text room;
  append_error = λ p s o text room. append_error_law p s o text room;
  erase = λ p s o text room. erase_law p s o text room;
  erase_error = λ p s o text room. erase_error_law p s o text room;
  new_line = λ {core} p s. code_law p s (codes "newLine") 128 (own_number core p 6) (is_new_line core p);
  back_space = λ {core} p s. code_law p s (codes "backSpace") 129 (own_number core p 6) (is_back_space core p);
  double_quote = λ {core} p s. code_law p s (codes "doubleQuote") 34 (own_number core p 6) (is_double_quote core p);
}
