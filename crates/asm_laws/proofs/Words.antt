-- The words of a program.
use Rattle.std.proofs.Common.{◌≡◌, ◌<◌, ◌≤◌, ℕ, ◌+◌, ◌++◌, ◌%◌, Bool, true, false, List, [], ◌∷◌, Option, Some, None, length, refl, sym, ap, subst, ◌∙◌, inl, inr, arith, if◌then◌else◌}
use Rattle.std.specs.Prelude.{is_some, nat_lt}
use Rattle.std.specs.Str.{bytes_eq}
use Rattle.std.proofs.lemmas.Bool.{ltb-true}
use Rattle.scan_text.specs.declared.Place.{Place}
use Rattle.hack_isa.specs.Machine.{image_words}
use Rattle.hack_asm.specs.Program.{Table, address_among, address_in, address_word, entry_of, is_instruction, or_entry, predefined_symbols, predefined_value, size, with_word, word_in, words}
use Rattle.hack_asm.specs.Trees.{Line, label, address, compute, number, symbol}
use Rattle.asm_laws.specs.Symbols.{HasUse, HasValue, IsFirstUse, AreVariables, StandsBehind, label_line, predefined, labelled, use_line, variable}
use Rattle.asm_laws.specs.Assembly.{AreWords, HasWord, LabelsAreNew, NoneIsPast, no_word, none, of_computation, of_number, of_symbol, word}
use Rattle.outer_world.proofs.Splits.{first, same, second, splits}
use Rattle.asm_laws.proofs.Lists.{as_many, at}
use Rattle.asm_laws.proofs.Labels.{labelled as has_label}
use Rattle.asm_laws.proofs.Past.{IsUse}
use Rattle.asm_laws.proofs.Variables.{Assigned}

-- ---- a symbol has one value

two_values : (o : Option ℕ) (n m : ℕ) → o ≡ Some n → o ≡ Some m → n ≡ m
two_values o n m e f = let g : Some n ≡ Some m = sym e ∙ f in cc

module _ (program : List Line) (labels_new : LabelsAreNew program) where
  taken_label : (name : List ℕ) (n m : ℕ) → predefined_value name ≡ Some n → StandsBehind program name m → ⊥
  taken_label name n m e s = labels_new s.before s.behind name s.at s.here (inl (n, e))

  one_label : (name : List ℕ) (n m : ℕ) → StandsBehind program name n → StandsBehind program name m → n ≡ m
  one_label name n m s t = elim (splits s.before s.behind t.before t.behind (label_line name s.at) (label_line name t.at) (sym s.here ∙ t.here)) [
    | same e f ↦ s.count ∙ ap size e ∙ sym t.count
    | first d e ↦ absurd (labels_new t.before t.behind name t.at t.here (inr (at (λ (l : Line). (p : Place) × (l ≡ label_line name p)) t.before s.before d (label_line name s.at) e (s.at, refl))))
    | second d e ↦ absurd (labels_new s.before s.behind name s.at s.here (inr (at (λ (l : Line). (p : Place) × (l ≡ label_line name p)) s.before t.before d (label_line name t.at) e (t.at, refl))))
  ]

  one_first : (name : List ℕ) (b c : List Line) → IsFirstUse program name b → IsFirstUse program name c → b ≡ c
  one_first name b c u v = elim (splits b u.behind c v.behind (use_line name u.at) (use_line name v.at) (sym u.here ∙ v.here)) [
    | same e f ↦ e
    | first d e ↦ absurd (v.first (at (IsUse name) c b d (use_line name u.at) e (u.at, refl)))
    | second d e ↦ absurd (u.first (at (IsUse name) b c d (use_line name v.at) e (v.at, refl)))
  ]

  pub as_many_variables : (some : List Line) (ns ms : List (List ℕ)) → AreVariables program some ns → AreVariables program some ms → length ns ≡ length ms
  as_many_variables some ns ms h k = as_many ns ms h.once k.once (λ n a. k.all n (h.variable n a) (h.used n a)) (λ n a. h.all n (k.variable n a) (k.used n a))

  pub one_value : (name : List ℕ) (n m : ℕ) → HasValue program name n → HasValue program name m → n ≡ m
  one_value name n m (predefined e) (predefined f) = two_values (predefined_value name) n m e f
  one_value name n m (predefined e) (labelled s) = absurd (taken_label name n m e s)
  one_value name n m (predefined e) (variable b ns v u a) = absurd (v.unlisted (n, e))
  one_value name n m (labelled s) (predefined f) = absurd (taken_label name m n f s)
  one_value name n m (labelled s) (labelled t) = one_label name n m s t
  one_value name n m (labelled s) (variable b ns v u a) = absurd (v.unlabelled (has_label program name n s))
  one_value name n m (variable b ns v u a) (predefined f) = absurd (v.unlisted (m, f))
  one_value name n m (variable b ns v u a) (labelled t) = absurd (v.unlabelled (has_label program name m t))
  one_value name n m (variable b ns v u a) (variable c ms w x k) = ap (λ (j : ℕ). 16 + j) (as_many_variables c ns ms (subst (λ (ls : List Line). AreVariables program ls ns) (one_first name b c u x) a) k)

-- ---- a predefined symbol has fifteen bits

all_below : ℕ → Table → Bool
all_below n [] = true
all_below n (e ∷ es) = if nat_lt e.1 n then all_below n es else false

small_entry : (n v : ℕ) (name : List ℕ) (t : Table) → all_below n t ≡ true → address_among t name ≡ Some v → v < n
unfolding all_below
small_entry n v name [] h e = absurd (let bad : ⊥ = cc in bad)
small_entry n v name (x ∷ t) h e = by (nat_lt x.1 n) (bytes_eq x.0 name) refl h e (λ k f. small_entry n v name t k f)
  where
    by : (b c : Bool) → nat_lt x.1 n ≡ b → (if b then all_below n t else false) ≡ true → (if c then Some x.1 else address_among t name) ≡ Some v
        → (all_below n t ≡ true → address_among t name ≡ Some v → v < n) → v < n
    by false c test k f go = absurd (let bad : ⊥ = cc in bad)
    by true true test k f go = let same : x.1 ≡ v = cc in subst (λ (w : ℕ). w < n) same (ltb-true x.1 n test)
    by true false test k f go = go k f

small_predefined : (name : List ℕ) (v : ℕ) → predefined_value name ≡ Some v → v < 32768
unfolding all_below
small_predefined name v e = small_entry 32768 v name predefined_symbols refl e

-- ---- words

size_front : (b c : List Line) → size b ≤ size (b ++ c)
size_front [] c = omega arith
size_front (l ∷ b) c = let h = size_front b c in omega arith

not_more : (v n : ℕ) → v ≤ n → n ≤ 32768 → (v ≡ 32768 → ⊥) → v < 32768
not_more v n h k ne = omega (arith, ne)

fifteen : (v : ℕ) → v < 32768 → v % 32768 ≡ v
fifteen v h = omega arith

module _ (program : List Line) (start t : Table) (next : ℕ) (h : Assigned program program start t next) (fits : size program ≤ image_words) (near : NoneIsPast program program) (few : length h.names ≤ 16368) where
  small_label : (name : List ℕ) (v : ℕ) → HasUse program name → StandsBehind program name v → v < 32768
  small_label name v u s =
      let front : size s.before ≤ size program = subst (λ (ls : List Line). size s.before ≤ size ls) (sym s.here) (size_front s.before (label_line name s.at ∷ s.behind)) in
      not_more v (size program) (subst (λ (w : ℕ). w ≤ size program) (sym s.count) front) fits
      (λ e. near name u (subst (StandsBehind program name) e s))

  valued : (name : List ℕ) (v : ℕ) → v < 32768 → HasValue program name v → HasValue program name (address_word (Some v))
  valued name v less k = subst (HasValue program name) (sym (fifteen v less)) k

  small_variable : (v : ℕ) → v < next → v < 32768
  small_variable v less = let n = h.next_is in omega arith

  pub symbol_value : (name : List ℕ) → HasUse program name → HasValue program name (address_word (address_in t name))
  symbol_value name u = by (predefined_value name) (entry_of t name) refl refl
    where
      by : (o r : Option ℕ) → predefined_value name ≡ o → entry_of t name ≡ r → HasValue program name (address_word (or_entry o r))
      by (Some n) r is there = valued name n (small_predefined name n is) (predefined is)
      by None (Some v) is there = elim (h.found name v there) [
        | inl s ↦ valued name v (small_label name v u s) (labelled s)
        | inr k ↦ valued name v (small_variable v k.2) k.1
      ]
      by None None is there = absurd (none_true (address_in t name) (ap (λ (o : Option ℕ). or_entry o (entry_of t name)) is ∙ there) (h.used name u))
        where
          none_true : (o : Option ℕ) → o ≡ None → is_some o ≡ true → ⊥
          none_true o e f = cc

  pub are_words : (some : List Line) → ((name : List ℕ) → HasUse some name → HasUse program name) → AreWords program some (words t some)
  are_words [] f = none
  are_words (None ∷ ls) f = no_word refl (are_words ls (λ n u. f n (inr u)))
  are_words (Some (label s) ∷ ls) f = no_word refl (are_words ls (λ n u. f n (inr u)))
  are_words (Some (address (number n)) ∷ ls) f = word of_number (are_words ls (λ m u. f m (inr u)))
  are_words (Some (address (symbol s)) ∷ ls) f = word (of_symbol {at = s.place} (symbol_value s.name (f s.name (inl (s.place, refl))))) (are_words ls (λ n u. f n (inr u)))
  are_words (Some (compute c) ∷ ls) f = word of_computation (are_words ls (λ n u. f n (inr u)))

  module _ (labels_new : LabelsAreNew program) where
    in_table : (l : Line) (w : ℕ) → HasWord program l w → ((name : List ℕ) → IsUse name l → HasUse program name) → word_in t l ≡ Some w
    in_table l w of_number f = refl
    in_table l w (of_symbol {name = name} {at = p} {n = n} v) f = ap Some (one_value program labels_new name (address_word (address_in t name)) n (symbol_value name (f name (p, refl))) v)
    in_table l w of_computation f = refl

    none_in_table : (l : Line) → is_instruction l ≡ false → word_in t l ≡ None
    none_in_table None e = refl
    none_in_table (Some (label s)) e = refl
    none_in_table (Some (address a)) e = absurd (let bad : ⊥ = cc in bad)
    none_in_table (Some (compute c)) e = absurd (let bad : ⊥ = cc in bad)

    pub same_words : (some : List Line) (ws : List ℕ) → AreWords program some ws → ((name : List ℕ) → HasUse some name → HasUse program name) → ws ≡ words t some
    same_words some ws none f = refl
    same_words some ws (no_word {l = l} {ls = ls} e k) f = same_words ls ws k (λ n u. f n (inr u)) ∙ ap (λ (o : Option ℕ). with_word o (words t ls)) (sym (none_in_table l e))
    same_words some ws (word {l = l} {ls = ls} {w = w} {ws = vs} v k) f =
        ap (λ (us : List ℕ). w ∷ us) (same_words ls vs k (λ n u. f n (inr u))) ∙ ap (λ (o : Option ℕ). with_word o (words t ls)) (sym (in_table l w v (λ n u. f n (inl u))))
