-- The sections of a compiled program: one for each subroutine but `start`, in order of their numbers.
use Rattle.std.proofs.Common.{◌≡◌, ◌+◌, ◌<◌, ◌≤◌, ◌++◌, inl, inr, ℕ, Bool, true, false, List, [], ◌∷◌, Some, length, drop, refl, sym, ap, subst, ◌∙◌, arith, append_assoc, length-append, if◌then◌else◌}
use Rattle.std.specs.Prelude.{◌==◌}
use Rattle.std.proofs.lemmas.Bool.{cases_eq, eq-eqb, ne_eqb}
use Rattle.std.proofs.lemmas.List.{append-nil}
use Rattle.vm_link.specs.Sections.{Section, function_section, functions_from, sections_from, sections}
use Rattle.jack_meaning.specs.Text.{Subroutine, Class, Program}
use Rattle.jack_compiler.specs.Lines.{Around, subroutine_lines}
use Rattle.jack_compiler.specs.Files.{name_at, around_class, function_of, functions_of, files_from, program_files}
use Rattle.jack_compiler.specs.Resolved.{AreInOrder}

abbrev pub section_of : Program → List (List ℕ) → ℕ → Subroutine → Section
section_of program names g sub = record {
  file = sub.class;
  number = g;
  name = Some (name_at names g);
  locals = sub.locals;
  lines = subroutine_lines (around_class program.classes names sub.class) sub;
}

-- of subroutines that are numbered from g
abbrev pub sections_of : Program → List (List ℕ) → ℕ → List Subroutine → List Section
sections_of program names g [] = []
sections_of program names g (sub ∷ subs) = section_of program names g sub ∷ sections_of program names (g + 1) subs

abbrev pub AreOf : ℕ → List Subroutine → Type 0
AreOf k [] = Unit {0}
AreOf k (sub ∷ subs) = (sub.class ≡ k) × AreOf k subs

abbrev pub AreUnder : ℕ → List Subroutine → Type 0
AreUnder k [] = Unit {0}
AreUnder k (sub ∷ subs) = (sub.class < k) × AreUnder k subs

-- those of the first class, and those after them
record Split (k : ℕ) (xs : List Subroutine) : Type 0 where
  run : List Subroutine
  rest : List Subroutine
  whole : xs ≡ run ++ rest
  own : AreOf k run
  order : AreInOrder (k + 1) rest

split : (k : ℕ) (xs : List Subroutine) → AreInOrder k xs → Split k xs
split k [] h = record { run = []; rest = []; whole = refl; own = tt; order = tt }
split k (x ∷ xs) h =
    elim (cases_eq x.class k) [
      | inl e ↦ (let r = split k xs (subst (λ z. AreInOrder z xs) e h.1) in record { run = x ∷ r.run; rest = r.rest; whole = ap (λ z. x ∷ z) r.whole; own = (e, r.own); order = r.order })
      | inr f ↦ (let lower = h.0 in let above : k + 1 ≤ x.class = omega arith in record { run = []; rest = x ∷ xs; whole = refl; own = tt; order = (above, h.1) })
    ]

functions_both : (around : Around) (k g : ℕ) (xs ys : List Subroutine) → functions_of around k g (xs ++ ys) ≡ functions_of around k g xs ++ functions_of around k (g + length xs) ys
functions_both around k g [] ys = ap (λ (z : ℕ). functions_of around k z ys) (let z : g ≡ g + 0 = omega arith in z)
functions_both around k g (x ∷ xs) ys =
    by_test (x.class == k) (functions_both around k (g + 1) xs ys ∙ ap (λ (z : ℕ). functions_of around k (g + 1) xs ++ functions_of around k z ys) (let z : g + 1 + length xs ≡ g + length (x ∷ xs) = omega arith in z))
  where
    by_test : (b : Bool) → functions_of around k (g + 1) (xs ++ ys) ≡ functions_of around k (g + 1) xs ++ functions_of around k (g + length (x ∷ xs)) ys
        → (if b then function_of around g x ∷ functions_of around k (g + 1) (xs ++ ys) else functions_of around k (g + 1) (xs ++ ys))
        ≡ (if b then function_of around g x ∷ functions_of around k (g + 1) xs else functions_of around k (g + 1) xs) ++ functions_of around k (g + length (x ∷ xs)) ys
    by_test true e = ap (λ z. function_of around g x ∷ z) e
    by_test false e = e

none_under : (around : Around) (k g : ℕ) (xs : List Subroutine) → AreUnder k xs → functions_of around k g xs ≡ []
none_under around k g [] h = refl
none_under around k g (x ∷ xs) h =
    let lower = h.0 in let other : x.class ≡ k → ⊥ = λ e. omega arith in
    ap (λ (b : Bool). if b then function_of around g x ∷ functions_of around k (g + 1) xs else functions_of around k (g + 1) xs) (ne_eqb x.class k other) ∙ none_under around k (g + 1) xs h.1

none_over : (around : Around) (k j g : ℕ) (xs : List Subroutine) → k < j → AreInOrder j xs → functions_of around k g xs ≡ []
none_over around k j g [] l h = refl
none_over around k j g (x ∷ xs) l h =
    let upper = h.0 in let other : x.class ≡ k → ⊥ = λ e. omega arith in
    ap (λ (b : Bool). if b then function_of around g x ∷ functions_of around k (g + 1) xs else functions_of around k (g + 1) xs) (ne_eqb x.class k other)
    ∙ none_over around k x.class (g + 1) xs (omega arith) h.1

own_sections : (program : Program) (names : List (List ℕ)) (k g : ℕ) (xs : List Subroutine) → AreOf k xs
    → functions_from k g (functions_of (around_class program.classes names k) k g xs) ≡ sections_of program names g xs
own_sections program names k g [] h = refl
own_sections program names k g (x ∷ xs) h =
    ap (λ (b : Bool). functions_from k g (if b then function_of (around_class program.classes names k) g x ∷ functions_of (around_class program.classes names k) k (g + 1) xs
    else functions_of (around_class program.classes names k) k (g + 1) xs)) (eq-eqb x.class k h.0)
    ∙ (ap (λ z. function_section k g (function_of (around_class program.classes names k) g x) ∷ z) (own_sections program names k (g + 1) xs h.1)
    ∙ ap (λ (z : ℕ). function_section z g (function_of (around_class program.classes names z) g x) ∷ sections_of program names (g + 1) xs) (sym h.0))

sections_both : (program : Program) (names : List (List ℕ)) (g : ℕ) (xs ys : List Subroutine) → sections_of program names g (xs ++ ys) ≡ sections_of program names g xs ++ sections_of program names (g + length xs) ys
sections_both program names g [] ys = ap (λ (z : ℕ). sections_of program names z ys) (let z : g ≡ g + 0 = omega arith in z)
sections_both program names g (x ∷ xs) ys =
    ap (λ z. section_of program names g x ∷ z)
    (sections_both program names (g + 1) xs ys ∙ ap (λ (z : ℕ). sections_of program names (g + 1) xs ++ sections_of program names z ys) (let z : g + 1 + length xs ≡ g + length (x ∷ xs) = omega arith in z))

length_sections : (program : Program) (names : List (List ℕ)) (g : ℕ) (xs : List Subroutine) → length (sections_of program names g xs) ≡ length xs
length_sections program names g [] = refl
length_sections program names g (x ∷ xs) = let ih = length_sections program names (g + 1) xs in omega arith

under_both : (k : ℕ) (xs ys : List Subroutine) → AreUnder k xs → AreUnder k ys → AreUnder k (xs ++ ys)
under_both k [] ys a b = b
under_both k (x ∷ xs) ys a b = (a.0, under_both k xs ys a.1 b)

under_more : (k j : ℕ) (xs : List Subroutine) → k ≤ j → AreUnder k xs → AreUnder j xs
under_more k j [] l h = tt
under_more k j (x ∷ xs) l h = let lower = h.0 in (omega arith, under_more k j xs l h.1)

under_own : (k : ℕ) (xs : List Subroutine) → AreOf k xs → AreUnder (k + 1) xs
under_own k [] h = tt
under_own k (x ∷ xs) h = let same = h.0 in (omega arith, under_own k xs h.1)

under_rest : (k : ℕ) (xs ys : List Subroutine) → AreUnder k (xs ++ ys) → AreUnder k ys
under_rest k [] ys h = h
under_rest k (x ∷ xs) ys h = under_rest k xs ys h.1

sections_from_are : (program : Program) (names : List (List ℕ)) (class_names : List (List ℕ)) (k : ℕ) (cs : List Class) (ys xs : List Subroutine) → drop 1 program.subroutines ≡ ys ++ xs → AreUnder k ys → AreInOrder k xs
    → AreUnder (k + length cs) xs → sections_from false k (1 + length ys) (files_from program names class_names k cs) ≡ sections_of program names (1 + length ys) xs
sections_from_are program names class_names k [] ys [] e u o b = refl
sections_from_are program names class_names k [] ys (x ∷ xs) e u o b = let lower = o.0 in let upper = b.0 in absurd (omega arith)
sections_from_are program names class_names k (c ∷ cs) ys xs e u o b =
    let around = around_class program.classes names k in
    let n = 1 + length ys in
    let r = split k xs o in
    let own : functions_of (around_class program.classes names k) k 1 (drop 1 program.subroutines) ≡ functions_of (around_class program.classes names k) k (1 + length ys) r.run =
    ap (functions_of around k 1) (e ∙ ap (λ z. ys ++ z) r.whole)
    ∙ (functions_both around k 1 ys (r.run ++ r.rest)
    ∙ (ap (λ z. z ++ functions_of around k (1 + length ys) (r.run ++ r.rest)) (none_under around k 1 ys u)
    ∙ (functions_both around k (1 + length ys) r.run r.rest
    ∙ (ap (λ z. functions_of around k (1 + length ys) r.run ++ z) (none_over around k (k + 1) (1 + length ys + length r.run) r.rest (omega arith) r.order)
    ∙ append-nil (functions_of around k (1 + length ys) r.run))))) in
    let front : functions_from k (1 + length ys) (functions_of (around_class program.classes names k) k 1 (drop 1 program.subroutines)) ≡ sections_of program names (1 + length ys) r.run =
    ap (functions_from k n) own ∙ own_sections program names k n r.run r.own in
    let count : 1 + length ys + length (functions_from k (1 + length ys) (functions_of (around_class program.classes names k) k 1 (drop 1 program.subroutines))) ≡ 1 + length (ys ++ r.run) =
    (let a = ap length front in let l = length_sections program names n r.run in let m = length-append ys r.run in omega arith) in
    let whole : drop 1 program.subroutines ≡ (ys ++ r.run) ++ r.rest = e ∙ (ap (λ z. ys ++ z) r.whole ∙ sym (append_assoc ys r.run r.rest)) in
    let under : AreUnder (k + 1) (ys ++ r.run) = under_both (k + 1) ys r.run (under_more k (k + 1) ys (omega arith) u) (under_own k r.run r.own) in
    let bound : AreUnder (k + length (c ∷ cs)) r.rest = under_rest (k + length (c ∷ cs)) r.run r.rest (subst (AreUnder (k + length (c ∷ cs))) r.whole b) in
    let ih = sections_from_are program names class_names (k + 1) cs (ys ++ r.run) r.rest whole under r.order (under_more (k + length (c ∷ cs)) (k + 1 + length cs) r.rest (omega arith) bound) in
    ap (λ z. z ++ sections_from false (k + 1) (n + length (functions_from k n (functions_of around k 1 (drop 1 program.subroutines)))) (files_from program names class_names (k + 1) cs)) front
    ∙ (ap (λ (z : ℕ). sections_of program names n r.run ++ sections_from false (k + 1) z (files_from program names class_names (k + 1) cs)) count
    ∙ (ap (λ z. sections_of program names n r.run ++ z) ih
    ∙ (ap (λ (z : ℕ). sections_of program names n r.run ++ sections_of program names z r.rest) (let m = length-append ys r.run in let z : 1 + length (ys ++ r.run) ≡ 1 + length ys + length r.run = omega arith in z)
    ∙ (sym (sections_both program names n r.run r.rest) ∙ ap (sections_of program names n) (sym r.whole)))))

pub sections_are : (program : Program) (names class_names : List (List ℕ)) → AreInOrder 0 (drop 1 program.subroutines) → AreUnder (length program.classes) (drop 1 program.subroutines)
    → sections false (program_files program names class_names) ≡ sections_of program names 1 (drop 1 program.subroutines)
sections_are program names class_names o b =
    sections_from_are program names class_names 0 program.classes [] (drop 1 program.subroutines) refl tt o (under_more (length program.classes) (0 + length program.classes) (drop 1 program.subroutines) (omega arith) b)
