-- Static words.
use Rattle.std.proofs.Common.{◌≡◌, ◌<◌, ◌≤◌, ◌+◌, ℕ, zero, suc, Bool, true, false, List, [], ◌∷◌, refl, sym, ap, ◌∙◌, ◌⊎◌, inl, inr, arith, if◌then◌else◌, ◌==◌}
use Rattle.std.specs.Prelude.{max}
use Rattle.std.proofs.lemmas.Bool.Decides.{Decides-eqb, leb_tells}
use Rattle.vm_tree.specs.declared.command.Line.{Line}
use Rattle.vm_tree.specs.declared.command.Command.{Command}
use Rattle.vm_tree.specs.declared.command.Command.TheVariants as command
use Rattle.vm_tree.specs.declared.command.Segment.TheVariants as segment
use Rattle.vm_link.specs.Faults.{file_words, static_words, words_before, words_of_lines}
use Rattle.vm_link.specs.Sections.{Section}
use Rattle.link_laws.specs.First.{Any}
use Rattle.link_laws.specs.Linking.{FileNames, HaveWords, NamesStatic, no_file, one_more}

-- one more than the greatest of some numbers, or 0
pub record IsTop (P : ℕ → Type 0) (n : ℕ) : Type 0 where
  pub below : (i : ℕ) → P i → i < n
  pub greatest : (n ≡ 0) ⊎ ((i : ℕ) × (n ≡ suc i) × P i)

wider : (P Q : ℕ → Type 0) (n : ℕ) → ((i : ℕ) → P i → Q i) → (n ≡ 0) ⊎ ((i : ℕ) × (n ≡ suc i) × P i) → (n ≡ 0) ⊎ ((i : ℕ) × (n ≡ suc i) × Q i)
wider P Q n f (inl e) = inl e
wider P Q n f (inr k) = inr (k.0, k.1, f k.0 k.2)

max_right : (n m : ℕ) → n ≤ m → max n m ≡ m
max_right n m h = omega arith

max_left : (n m : ℕ) → m < n → max n m ≡ n
max_left n m h = omega arith

less_left : (i n m : ℕ) → i < n → i < max n m
less_left i n m h = omega arith

less_right : (i n m : ℕ) → i < m → i < max n m
less_right i n m h = omega arith

at_value : (P : ℕ → Type 0) (n m : ℕ) → m ≡ n → (n ≡ 0) ⊎ ((i : ℕ) × (n ≡ suc i) × P i) → (m ≡ 0) ⊎ ((i : ℕ) × (m ≡ suc i) × P i)
at_value P n m e (inl f) = inl (e ∙ f)
at_value P n m e (inr k) = inr (k.0, e ∙ k.1, k.2)

both : (P Q : ℕ → Type 0) (n m : ℕ) → IsTop P n → IsTop Q m → IsTop (λ i. P i ⊎ Q i) (max n m)
both P Q n m h k = record {
  below = λ i p. elim p [ inl a ↦ less_left i n m (h.below i a) | inr b ↦ less_right i n m (k.below i b) ];
  greatest = elim (leb_tells n m) [
    | inl t ↦ at_value (λ i. P i ⊎ Q i) m (max n m) (max_right n m t.1) (wider Q (λ i. P i ⊎ Q i) m (λ i b. inr b) k.greatest)
    | inr t ↦ at_value (λ i. P i ⊎ Q i) n (max n m) (max_left n m t.1) (wider P (λ i. P i ⊎ Q i) n (λ i a. inl a) h.greatest)
  ];
}

pub one_top : (P : ℕ → Type 0) (n m : ℕ) → IsTop P n → IsTop P m → n ≡ m
one_top P n m h k = by h.greatest k.greatest
  where
    by : (n ≡ 0) ⊎ ((i : ℕ) × (n ≡ suc i) × P i) → (m ≡ 0) ⊎ ((i : ℕ) × (m ≡ suc i) × P i) → n ≡ m
    by (inl e) (inl f) = e ∙ sym f
    by (inl e) (inr b) = let l = h.below b.0 b.2 in absurd (omega (arith, l, e))
    by (inr a) (inl f) = let l = k.below a.0 a.2 in absurd (omega (arith, l, f))
    by (inr a) (inr b) = let l = k.below a.0 a.2 in let r = h.below b.0 b.2 in omega (arith, l, r, a.1, b.1)

-- ---- a line

named_below : (c : Command) (i : ℕ) → (c ≡ command.Push segment.Static i) ⊎ (c ≡ command.Pop segment.Static i) → i < static_words c
named_below c i (inl e) = let f : static_words c ≡ i + 1 = ap static_words e in omega (arith, f)
named_below c i (inr e) = let f : static_words c ≡ i + 1 = ap static_words e in omega (arith, f)

named_greatest : (c : Command) → (static_words c ≡ 0) ⊎ ((i : ℕ) × (static_words c ≡ suc i) × ((c ≡ command.Push segment.Static i) ⊎ (c ≡ command.Pop segment.Static i)))
named_greatest (command.Push segment.Static i) = let e : i + 1 ≡ suc i = omega arith in inr (i, e, inl refl)
named_greatest (command.Pop segment.Static i) = let e : i + 1 ≡ suc i = omega arith in inr (i, e, inr refl)
named_greatest (command.Push segment.Argument i) = inl refl
named_greatest (command.Push segment.Local i) = inl refl
named_greatest (command.Push segment.Constant i) = inl refl
named_greatest (command.Push segment.This i) = inl refl
named_greatest (command.Push segment.That i) = inl refl
named_greatest (command.Push segment.Pointer i) = inl refl
named_greatest (command.Push segment.Temp i) = inl refl
named_greatest (command.Pop segment.Argument i) = inl refl
named_greatest (command.Pop segment.Local i) = inl refl
named_greatest (command.Pop segment.Constant i) = inl refl
named_greatest (command.Pop segment.This i) = inl refl
named_greatest (command.Pop segment.That i) = inl refl
named_greatest (command.Pop segment.Pointer i) = inl refl
named_greatest (command.Pop segment.Temp i) = inl refl
named_greatest (command.Operate o) = inl refl
named_greatest (command.Label l) = inl refl
named_greatest (command.Goto l) = inl refl
named_greatest (command.IfGoto l) = inl refl
named_greatest (command.Call name n) = inl refl
named_greatest command.Return = inl refl

none_at_all : (P : ℕ → Type 0) → ((i : ℕ) → P i → ⊥) → IsTop P 0
none_at_all P h = record { below = λ i p. absurd (h i p); greatest = inl refl }

line_top : (x : Line) → IsTop (λ i. NamesStatic i x) (static_words x.command)
line_top x = record { below = λ i p. named_below x.command i p; greatest = named_greatest x.command }

lines_top : (xs : List Line) → IsTop (λ i. Any (NamesStatic i) xs) (words_of_lines xs)
lines_top [] = none_at_all (λ i. Any (NamesStatic i) []) (λ i p. p)
lines_top (x ∷ xs) = both (λ i. NamesStatic i x) (λ i. Any (NamesStatic i) xs) (static_words x.command) (words_of_lines xs) (line_top x) (lines_top xs)

-- ---- a file

only_right : (P Q : ℕ → Type 0) (m : ℕ) → ((i : ℕ) → P i → ⊥) → IsTop Q m → IsTop (λ i. P i ⊎ Q i) m
only_right P Q m never h = record {
  below = λ i p. elim p [ inl a ↦ absurd (never i a) | inr b ↦ h.below i b ];
  greatest = wider Q (λ i. P i ⊎ Q i) m (λ i b. inr b) h.greatest;
}

of_file : (P : ℕ → Type 0) (F : Type 0) (n : ℕ) → F → IsTop P n → IsTop (λ i. F × P i) n
of_file P F n f h = record { below = λ i p. h.below i p.1; greatest = wider P (λ i. F × P i) n (λ i p. (f, p)) h.greatest }

false_true : (b : Bool) → b ≡ false → b ≡ true → ⊥
false_true b e f = cc

file_top : (kept : List Section) (k : ℕ) → IsTop (FileNames kept k) (file_words kept k)
file_top [] k = none_at_all (FileNames [] k) (λ i p. p)
file_top (s ∷ ss) k = by (s.file == k) refl (file_top ss k)
  where
    by : (b : Bool) → (s.file == k) ≡ b → IsTop (FileNames ss k) (file_words ss k) → IsTop (FileNames (s ∷ ss) k) (if b then max (words_of_lines s.lines) (file_words ss k) else file_words ss k)
    by true e rest = both (λ i. (s.file ≡ k) × Any (NamesStatic i) s.lines) (FileNames ss k) (words_of_lines s.lines) (file_words ss k) (of_file (λ i. Any (NamesStatic i) s.lines) (s.file ≡ k) (words_of_lines s.lines) ((Decides-eqb s.file k).0 e) (lines_top s.lines)) rest
    by false e rest = only_right (λ i. (s.file ≡ k) × Any (NamesStatic i) s.lines) (FileNames ss k) (file_words ss k) (λ i p. false_true (s.file == k) e ((Decides-eqb s.file k).1 p.0)) rest

-- ---- all files

pub have_words : (kept : List Section) (n : ℕ) → HaveWords kept n (words_before kept n)
have_words kept zero = no_file
have_words kept (suc n) = let t = file_top kept n in one_more (have_words kept n) (record { below = t.below; greatest = t.greatest })

pub words_are : (kept : List Section) (n m : ℕ) → HaveWords kept n m → m ≡ words_before kept n
words_are kept n m no_file = refl
words_are kept n m (one_more {k = k} {n = a} {m = b} h w) =
    let first : a ≡ words_before kept k = words_are kept k a h in
    let second : b ≡ file_words kept k = one_top (FileNames kept k) b (file_words kept k) (record { below = w.below; greatest = w.greatest }) (file_top kept k) in
    let sum : a + b ≡ words_before kept k + file_words kept k = cc in sum
