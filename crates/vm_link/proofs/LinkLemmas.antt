-- What is kept fits.
use Rattle.std.proofs.Common.{◌≡◌, ◌+◌, ◌-◌, ◌^◌, ◌<◌, ◌≤◌, ◌++◌, ℕ, zero, suc, Bool, true, false, cond, List, [], ◌∷◌, Option, Some, None, option_map, length, min, max, refl, sym, subst, ◌∙◌, arith, nat_lt, slice_get, nat_eq}
use Rattle.std.specs.Option.{option_or}
use Rattle.std.proofs.lemmas.Bool.{eq-eqb, cases_eq, ltb-false}
use Rattle.vm_tree.specs.declared.program.File.{File}
use Rattle.vm_tree.specs.declared.program.Function.{Function}
use Rattle.vm_link.specs.declared.fault.LinkFault.{LinkFault}
use Rattle.vm_link.specs.declared.fault.LinkFault.TheVariants.{TooManyStatics, NoFunction}
use Rattle.vm_link.specs.Sections.{Section, sections_from, file_sections, functions_from, sections}
use Rattle.vm_link.specs.Faults.{words_before, file_words, words_of_lines, too_many, kept_fault, text_fault, first_of, no_function}
use Rattle.vm_link.specs.Reached.{Keeps, kept, dropped, none, AreKept, Reached}
use Rattle.vm_link.proofs.Marking.{⊎_by}
use Rattle.vm_link.specs.Inner.Words.{AreBases, AreFitting}

-- each file is below n
AllBelow : ℕ → List Section → Type 0
AllBelow n [] = Unit {0}
AllBelow n (s ∷ ss) = (s.file < n) × AllBelow n ss

below_both : (n : ℕ) (ss ts : List Section) → AllBelow n ss → AllBelow n ts → AllBelow n (ss ++ ts)
unfolding AllBelow
below_both n [] ts p q = q
below_both n (s ∷ ss) ts p q = (p.0, below_both n ss ts p.1 q)

below_functions : (n k m : ℕ) (fs : List Function) → k < n → AllBelow n (functions_from k m fs)
unfolding AllBelow
below_functions n k m [] h = tt
below_functions n k m (f ∷ fs) h = (h, below_functions n k (m + 1) fs h)

below_file : (n : ℕ) (bare : Bool) (k m : ℕ) (f : File) → k < n → AllBelow n (file_sections bare k m f)
unfolding AllBelow
below_file n true k m f h = (h, below_functions n k (m + 1) f.functions h)
below_file n false k m f h = below_functions n k m f.functions h

below_from : (n : ℕ) (bare : Bool) (k m : ℕ) (fs : List File) → k + length fs ≤ n → AllBelow n (sections_from bare k m fs)
unfolding AllBelow
below_from n bare k m [] h = tt
below_from n bare k m (f ∷ fs) h =
    below_both n (file_sections bare k m f) (sections_from bare (k + 1) (m + length (file_sections bare k m f)) fs) (below_file n bare k m f (omega arith))
    (below_from n bare (k + 1) (m + length (file_sections bare k m f)) fs (omega arith))

below_keeps : (n : ℕ) (P : ℕ → Type 0) {i : ℕ} {ss ks : List Section} → Keeps P i ss ks → AllBelow n ss → AllBelow n ks
unfolding AllBelow
below_keeps n P none b = tt
below_keeps n P (kept p r) b = (b.0, below_keeps n P r b.1)
below_keeps n P (dropped p r) b = below_keeps n P r b.1

below_kept : (n : ℕ) (bare : Bool) (ss ks : List Section) → AreKept bare ss ks → AllBelow n ss → AllBelow n ks
below_kept n true ss ks e b = subst (AllBelow n) (sym e) b
below_kept n false ss ks k b = below_keeps n (Reached ss) k b

below_at : (n : ℕ) (ss : List Section) (i : ℕ) (s : Section) → AllBelow n ss → slice_get ss i ≡ Some s → s.file < n
unfolding AllBelow
below_at n [] i s b e = absurd cc
below_at n (t ∷ ss) zero s b e = let same : t ≡ s = cc in subst (λ z. z.file < n) same b.0
below_at n (t ∷ ss) (suc i) s b e = below_at n ss i s b.1 e

le_max : (a b c : ℕ) → a ≤ b → a ≤ max c b
le_max a b c h = omega arith

-- a section's statics are among its file's
words_within : (ss : List Section) (i : ℕ) (s : Section) → slice_get ss i ≡ Some s → words_of_lines s.lines ≤ file_words ss s.file
words_within [] i s e = absurd cc
words_within (t ∷ ss) zero s e =
    let same : t ≡ s = cc in
    subst (λ z. words_of_lines z.lines ≤ file_words (t ∷ ss) z.file) same (rw (eq-eqb t.file t.file refl) (omega arith))
words_within (t ∷ ss) (suc i) s e = by_test (nat_eq t.file s.file) (words_within ss i s e)
  where
    by_test : (b : Bool) → words_of_lines s.lines ≤ file_words ss s.file → words_of_lines s.lines ≤ cond b (max (words_of_lines t.lines) (file_words ss s.file)) (file_words ss s.file)
    by_test true h = le_max _ _ _ h
    by_test false h = h

words_rise : (ss : List Section) (k n : ℕ) → k < n → words_before ss k + file_words ss k ≤ words_before ss n
words_rise ss k zero h = absurd (omega arith)
words_rise ss k (suc n) h = ⊎_by (cases_eq k n)
    (λ same. subst (λ z. words_before ss z + file_words ss z ≤ words_before ss (suc n)) (sym same) (omega arith))
    (λ other. let ih = words_rise ss k n (omega arith) in omega arith)

-- where no fault is found, the words of all files are at most 240
pub words_few : (n : ℕ) → too_many n ≡ None → n ≤ 240
words_few n e = by_test (nat_lt 240 n) (λ f. ltb-false 240 n f) e
  where
    by_test : (b : Bool) → (b ≡ false → n ≤ 240) → cond b (Some (TooManyStatics (min n (2 ^ 64 - 1)))) None ≡ None → n ≤ 240
    by_test true f e = absurd cc
    by_test false f e = f refl

pub last_none : {A : Type 0} (o p : Option A) → option_or o p ≡ None → p ≡ None
last_none None p e = e
last_none (Some x) p e = absurd cc

-- the statics of a section are among the words that there are
pub room_at : (bare : Bool) (files : List File) (ks : List Section) → AreKept bare (sections bare files) ks → kept_fault (length files) (sections bare files) ks ≡ None
    → (i : ℕ) (s : Section) → slice_get ks i ≡ Some s → words_before ks s.file + words_of_lines s.lines ≤ 240
room_at bare files ks k none_found i s here =
    let n = length files in
    let file : s.file < length files = below_at n ks i s (below_kept n bare (sections bare files) ks k (below_from n bare 0 1 files (omega arith))) here in
    let few : words_before ks (length files) ≤ 240 = words_few (words_before ks n) (last_none (option_map NoFunction (first_of (no_function (sections bare files)) ks)) _ none_found) in
    let rise = words_rise ks s.file n file in
    let own = words_within ks i s here in
    omega arith

-- what is kept of a program without faults fits
pub fitting : (bare : Bool) (files : List File) (ks : List Section) (bases : List ℕ) → AreKept bare (sections bare files) ks
    → kept_fault (length files) (sections bare files) ks ≡ None → AreBases ks (length files) bases → AreFitting ks bases
fitting bare files ks bases k none_found b = λ i s here.
    let n = length files in
    let file : s.file < length files = below_at n ks i s (below_kept n bare (sections bare files) ks k (below_from n bare 0 1 files (omega arith))) here in
    let few : words_before ks (length files) ≤ 240 = words_few (words_before ks n) (last_none (option_map NoFunction (first_of (no_function (sections bare files)) ks)) _ none_found) in
    let rise = words_rise ks s.file n file in
    let own = words_within ks i s here in
    let count = b.count in
    let at = b.at s.file file in
    record { below = omega arith; base = omega arith; room = omega arith }

-- what the code knows of a program's sections, of the program
pub told : (bare : Bool) (files : List File) (ps ks : List Section) (n : ℕ) (o : Option LinkFault) → ps ≡ sections bare files → n ≡ length files
    → o ≡ kept_fault n ps ks → kept_fault (length files) (sections bare files) ks ≡ o
told bare files ps ks n o e f g = subst (λ (z : ℕ × List Section). kept_fault z.0 z.1 ks ≡ o) (λ i. (f i, e i)) (sym g)

pub kept_of : (bare : Bool) (files : List File) (ps ks : List Section) → ps ≡ sections bare files → AreKept bare ps ks → AreKept bare (sections bare files) ks
kept_of bare files ps ks e k = subst (λ z. AreKept bare z ks) e k

pub text_of : (bare : Bool) (files : List File) (ps : List Section) (o : Option LinkFault) → ps ≡ sections bare files → o ≡ text_fault bare ps → o ≡ None
    → text_fault bare (sections bare files) ≡ None
text_of bare files ps o e f g = subst (λ z. text_fault bare z ≡ None) e (sym f ∙ g)
