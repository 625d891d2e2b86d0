-- The entries of a folder: what a name is, how they are read one by one, and the names of files among them.
use Rattle.std.proofs.Common.{◌⊎◌, inl, inr, ◌==◌, ◌&&◌, Option, Some, None, MatchOption, not, ◌≡◌, ◌<◌, ◌≤◌, ◌≢◌, ◌+◌, ◌++◌, ◌||◌, [], ◌∷◌, ℕ, Bool, true, false, List, length, get_or, drop, refl, sym, ◌∙◌, ap, arith, append_assoc, length-append}
use Rattle.std.specs.List.{filter, list_any}
use denote.Param.Members.{Mut}
use Rattle.std.specs.Borrow.{Bor}
use Rattle.std.specs.Fn.{CalledAt}
use Rattle.std.specs.Iterator.{Yields}
use Rattle.std.specs.Slice.Iter as slice
use Rattle.std.proofs.lemmas.Iterator.{YieldsList}
use Rattle.std.proofs.lemmas.Iterator.Consumers.{YieldsList-at, YieldsList-turn, YieldsList-end}
use Rattle.std.proofs.lemmas.Iterator.Splits.{YieldsList-from_slice_split}
use Rattle.std.specs.Str.{IsUtf8, is_utf8}
use Rattle.std.proofs.lemmas.Str.{IsUtf8-from_is_utf8, is_utf8-from_IsUtf8}
use Rattle.std.proofs.lemmas.List.{append-nil, at_drop_more, at_drop_all}
use Rattle.outer_world.specs.Entries.{AreAnswered, AreKept, AreListed, AreTaken, AreUntold, entries_of, ends_like_a_source, is_dots, is_refused, is_taken, files_among}

-- ---- what a name is

no_text : (b : Bool) → (b ≡ true → ⊥) → b ≡ false
no_text true h = absurd (h refl)
no_text false h = refl

and_false : (b : Bool) → (b && false) ≡ false
and_false true = refl
and_false false = refl

module _ (name : List ℕ) where
  utf8_no : (IsUtf8 name → ⊥) → is_utf8 name ≡ false
  utf8_no h = no_text (is_utf8 name) (λ e. h (IsUtf8-from_is_utf8 name e))

  -- a text refuses nothing
  pub text_passes : IsUtf8 name → is_refused name ≡ false
  unfolding is_refused
  text_passes t = ap (λ b. not b && ends_like_a_source name) (is_utf8-from_IsUtf8 name t)

  pub dots_left : is_dots name ≡ true → is_taken name ≡ false
  unfolding is_taken
  dots_left d = ap (λ b. is_utf8 name && not b) d ∙ and_false (is_utf8 name)

  pub text_taken : IsUtf8 name → is_dots name ≡ false → is_taken name ≡ true
  unfolding is_taken
  text_taken t d = ap (λ b. b && not (is_dots name)) (is_utf8-from_IsUtf8 name t) ∙ ap not d

  -- a source whose name is no text is refused, and any other name that is none is left out
  pub source_refused : (IsUtf8 name → ⊥) → ends_like_a_source name ≡ true → is_refused name ≡ true
  unfolding is_refused
  source_refused n e = ap (λ b. not b && ends_like_a_source name) (utf8_no n) ∙ e

  pub other_passes : ends_like_a_source name ≡ false → is_refused name ≡ false
  unfolding is_refused
  other_passes e = ap (λ b. not (is_utf8 name) && b) e ∙ and_false (not (is_utf8 name))

  pub other_left : (IsUtf8 name → ⊥) → is_taken name ≡ false
  unfolding is_taken
  other_left n = ap (λ b. b && not (is_dots name)) (utf8_no n)

-- where there is nothing
pub at_none : {A : Type 0} (o : Option A) (P : Type 0) (Q : A → Type 0) → ((x : A) → o ≡ Some x → ⊥) → MatchOption o P Q → P
at_none None P Q n h = h
at_none (Some x) P Q n h = absurd (n x refl)

-- ---- the entries that are read

-- Bytes are cut at each zero, where a closure tests for it: what was given so far are their entries from the first on.
module _ {F : Type 0} (g : Mut F (Bor ℕ × Unit {0}) Bool) {s : _} {s0 : _} {f : F} (bytes : List ℕ) (xs : List (Bor (List ℕ))) (t : _) (y : Yields (slice.split_steps g) s xs t) (same : s ≡ s0)
    (rest : slice.split_rest s0 ≡ bytes) (done : slice.split_done s0 ≡ false) (closure : slice.split_callee s0 ≡ f) (tests : (x : ℕ) (b : Bool) (q : F) → CalledAt g f x b q → (q ≡ f) × (b ≡ (x == 0))) where
  road : YieldsList (slice.split_steps g) (λ x. x.now) s (entries_of bytes)
  road = YieldsList-at same (YieldsList-from_slice_split g (λ byte. byte == 0) bytes rest done closure tests)

  -- the next is the entry at its place
  pub entry_turn : (r : Option (Bor (List ℕ))) (u : _) (x : Bor (List ℕ)) → r ≡ Some x → slice.split_steps g t r u → (length xs < length (entries_of bytes)) × (x.now ≡ get_or (entries_of bytes) (length xs) x.now)
  entry_turn r u x is step = YieldsList-turn road xs t y r u x is step

  -- there is no next
  pub entries_end : (r : Option (Bor (List ℕ))) (u : _) → r ≡ None → slice.split_steps g t r u → length (entries_of bytes) ≤ length xs
  entries_end r u is step = let end = YieldsList-end road xs t y r u is step in omega (arith, end.1)

-- How far the entries are read: what stays of the rest comes after these names, and what is refused stands in the rest.
pub record AreReadTo (all names : List (List ℕ)) (n : ℕ) : Type 0 where
  pub taken : names ++ filter is_taken (drop n all) ≡ filter is_taken all
  pub refused : list_any is_refused (drop n all) ≡ list_any is_refused all
  pub few : length names ≤ 65536

-- none is read yet
pub none_read : (all : List (List ℕ)) → AreReadTo all [] 0
none_read all = record { taken = refl; refused = refl; few = omega arith }

module _ (all names : List (List ℕ)) (n : ℕ) (entry : List ℕ) (h : AreReadTo all names n) (below : n < length all) (is : entry ≡ get_or all n entry) where
  -- the rest begins with the entry
  rest_taken : filter is_taken (drop n all) ≡ filter is_taken (entry ∷ drop (n + 1) all)
  rest_taken = at_drop_more (filter is_taken) all n entry below ∙ ap (λ x. filter is_taken (x ∷ drop (n + 1) all)) (sym is)

  rest_refused : list_any is_refused (drop n all) ≡ list_any is_refused (entry ∷ drop (n + 1) all)
  rest_refused = at_drop_more (list_any is_refused) all n entry below ∙ ap (λ x. list_any is_refused (x ∷ drop (n + 1) all)) (sym is)

  refused_first : (b : Bool) → is_refused entry ≡ b → list_any is_refused (entry ∷ drop (n + 1) all) ≡ (b || list_any is_refused (drop (n + 1) all))
  refused_first b e = ap (λ x. x || list_any is_refused (drop (n + 1) all)) e

  taken_first : is_taken entry ≡ true → filter is_taken (entry ∷ drop (n + 1) all) ≡ entry ∷ filter is_taken (drop (n + 1) all)
  taken_first e = rw e refl

  left_first : is_taken entry ≡ false → filter is_taken (entry ∷ drop (n + 1) all) ≡ filter is_taken (drop (n + 1) all)
  left_first e = rw e refl

  -- it is refused
  pub refused_here : is_refused entry ≡ true → list_any is_refused all ≡ true
  refused_here e = sym h.refused ∙ rest_refused ∙ refused_first true e

  -- it is left out
  pub left_out : is_refused entry ≡ false → is_taken entry ≡ false → AreReadTo all names (n + 1)
  left_out r t = record {
    taken = ap (λ x. names ++ x) (sym (rest_taken ∙ left_first t)) ∙ h.taken;
    refused = sym (rest_refused ∙ refused_first false r) ∙ h.refused;
    few = h.few;
  }

  -- it is the next name
  whole : is_taken entry ≡ true → names ++ (entry ∷ filter is_taken (drop (n + 1) all)) ≡ filter is_taken all
  whole t = ap (λ x. names ++ x) (sym (rest_taken ∙ taken_first t)) ∙ h.taken

  pub one_more : is_refused entry ≡ false → is_taken entry ≡ true → length names ≢ 65536 → AreReadTo all (names ++ entry ∷ []) (n + 1)
  one_more r t some = record {
    taken = append_assoc names (entry ∷ []) (filter is_taken (drop (n + 1) all)) ∙ whole t;
    refused = sym (rest_refused ∙ refused_first false r) ∙ h.refused;
    few = let l = length-append names (entry ∷ []) in omega (arith, h.few);
  }

  -- it is one too many
  pub one_too_many : is_taken entry ≡ true → length names ≡ 65536 → 65536 < length (filter is_taken all)
  one_too_many t e =
      let l = length-append names (entry ∷ filter is_taken (drop (n + 1) all)) in
      let m = ap (length {A = List ℕ}) (whole t) in omega arith

-- all are read
pub all_read : (all names : List (List ℕ)) (n : ℕ) → AreReadTo all names n → length all ≤ n → AreTaken all names
all_read all names n h end = record {
  unrefused = sym h.refused ∙ at_drop_all (list_any is_refused) all n end;
  taken = sym (append-nil names) ∙ ap (λ x. names ++ x) (sym (at_drop_all (filter is_taken) all n end)) ∙ h.taken;
  few = h.few;
}

-- ---- the names of files

module _ (answer : List ℕ → Bool → Type 0) where
  -- one more name with its answer
  answered_more : (names : List (List ℕ)) (answers : List Bool) (name : List ℕ) (is : Bool) → AreAnswered answer names answers → answer name is → AreAnswered answer (names ++ name ∷ []) (answers ++ is ∷ [])
  answered_more [] [] name is h here = (here, tt)
  answered_more [] (x ∷ xs) name is h here = absurd h
  answered_more (n ∷ ns) [] name is h here = absurd h
  answered_more (n ∷ ns) (x ∷ xs) name is h here = (h.0, answered_more ns xs name is h.1 here)

  kept_yes : (names : List (List ℕ)) (answers : List Bool) (name : List ℕ) → AreAnswered answer names answers → files_among (names ++ name ∷ []) (answers ++ true ∷ []) ≡ files_among names answers ++ name ∷ []
  kept_yes [] [] name h = refl
  kept_yes [] (x ∷ xs) name h = absurd h
  kept_yes (n ∷ ns) [] name h = absurd h
  kept_yes (n ∷ ns) (true ∷ xs) name h = ap (λ x. n ∷ x) (kept_yes ns xs name h.1)
  kept_yes (n ∷ ns) (false ∷ xs) name h = kept_yes ns xs name h.1

  kept_no : (names : List (List ℕ)) (answers : List Bool) (name : List ℕ) → AreAnswered answer names answers → files_among (names ++ name ∷ []) (answers ++ false ∷ []) ≡ files_among names answers
  kept_no [] [] name h = refl
  kept_no [] (x ∷ xs) name h = absurd h
  kept_no (n ∷ ns) [] name h = absurd h
  kept_no (n ∷ ns) (true ∷ xs) name h = ap (λ x. n ∷ x) (kept_no ns xs name h.1)
  kept_no (n ∷ ns) (false ∷ xs) name h = kept_no ns xs name h.1

  pub keep_more : (names files : List (List ℕ)) (name : List ℕ) → AreKept answer names files → answer name true → AreKept answer (names ++ name ∷ []) (files ++ name ∷ [])
  keep_more names files name (answers, all, e) here = (answers ++ true ∷ [], answered_more names answers name true all here, ap (λ x. x ++ name ∷ []) e ∙ sym (kept_yes names answers name all))

  pub keep_same : (names files : List (List ℕ)) (name : List ℕ) → AreKept answer names files → answer name false → AreKept answer (names ++ name ∷ []) files
  keep_same names files name (answers, all, e) here = (answers ++ false ∷ [], answered_more names answers name false all here, e ∙ sym (kept_no names answers name all))

-- what is listed of some entries
pub listed : (answer : List ℕ → Bool → Type 0) (entries : List ℕ) (texts names : List (List ℕ)) → AreTaken (entries_of entries) texts → AreKept answer texts names → AreListed names
listed answer entries texts names taken (answers, all, e) = record {
  entries = entries;
  texts = texts;
  taken = taken;
  answers = answers;
  files = e;
}

-- What was yielded of a list that is used up, and what is left, are the whole.
pub all_left : {S A : Type 0} (steps : S → Option A → S → Type 0) (left : S → List A) → ((s : S) (x : A) (t : S) → steps s (Some x) t → left s ≡ x ∷ left t)
    → (s : S) (xs : List A) (t : S) → Yields steps s xs t → left s ≡ xs ++ left t
all_left {S} {A} steps left f s [] t y = ap left y
all_left {S} {A} steps left f s (x ∷ xs) t y = f s x y.0 y.1 ∙ ap (λ (z : List A). x ∷ z) (all_left steps left f y.0 xs t y.2)

-- A fault at the name that is asked for next is why none are told.
pub blamed : {K : Type 0} (answer : List ℕ → Bool → Type 0) (fails : List ℕ → Type 0) (names before files after : List (List ℕ)) (name : List ℕ)
    → names ≡ before ++ name ∷ after → AreKept answer before files → K ⊎ fails name → K ⊎ AreUntold answer fails names
blamed answer fails names before files after name these kept (inl k) = inl k
blamed answer fails names before files after name these kept (inr f) =
    inr (record { before = before; name = name; after = after; these = these; answers = kept.0; answered = kept.1; failed = f })
