-- The sections of a program with resolved names: linking finds no fault in their text.
use Rattle.std.proofs.Common.{◌≡◌, ◌+◌, ◌<◌, ◌≤◌, inl, inr, ◌&&◌, ℕ, zero, suc, Bool, true, false, nat_lt, List, [], ◌∷◌, Some, None, option_map, length, drop, refl, sym, ap, subst, ◌∙◌, arith, slice_get, if◌then◌else◌}
use Rattle.std.specs.List.{list_any}
use Rattle.std.specs.Option.{option_or}
use Rattle.std.specs.Str.{bytes_eq}
use Rattle.std.proofs.lemmas.Bool.{cases_eq, ltb-true}
use Rattle.std.proofs.lemmas.Option.{slice_get-get_or, slice_get_within, get_or_from_slice_get}
use Rattle.std.proofs.lemmas.Slice.Eq.{bytes_eq-Decides}
use Rattle.vm_link.specs.declared.fault.LinkFault.TheVariants.{TwiceDefined, LabelTwice, NoLabel, NoSysInit}
use Rattle.vm_link.specs.Sections.{Section, is_named}
use Rattle.vm_link.specs.Faults as faults
use Rattle.vm_link.specs.Faults.{sys_init, first_of, first_repeat, label_twice, no_label, no_start, no_function, text_fault}
use Rattle.jack_meaning.specs.Text.{Subroutine, Program}
use Rattle.jack_meaning.specs.Meaning.{subroutine_at}
use Rattle.jack_compiler.specs.Fits.{scope_of}
use Rattle.jack_compiler.specs.Lines.{subroutine_lines}
use Rattle.jack_compiler.specs.Files.{name_at, around_class}
use Rattle.jack_compiler.specs.Resolved.{named_in, IsResolved}
use Rattle.jack_compiler.proofs.Marked.{here, hit, marks}
use Rattle.jack_compiler.proofs.Placed.{occurs, distinct_none, subroutine_marks, labels_once, targets_there, subroutine_aims}
use Rattle.jack_compiler.proofs.Sectioned.{section_of, sections_of, AreUnder}
use Rattle.jack_compiler.proofs.Calling.{subroutine_calls, functions_there}
use Rattle.jack_compiler.proofs.Keeping.{first_none, any_at}

pub and_first : (a b : Bool) → (a && b) ≡ true → a ≡ true
and_first true b h = refl
and_first false b h = absurd cc

pub and_second : (a b : Bool) → (a && b) ≡ true → b ≡ true
and_second true b h = h
and_second false b h = absurd cc

some_same : {A : Type 0} {x y : A} → Some x ≡ Some y → x ≡ y
some_same {A} {x} {y} e = cc

sections_item : (program : Program) (names : List (List ℕ)) (g : ℕ) (xs : List Subroutine) (i : ℕ) (s : Section) → slice_get (sections_of program names g xs) i ≡ Some s
    → (sub : Subroutine) × (slice_get xs i ≡ Some sub) × (s ≡ section_of program names (g + i) sub)
sections_item program names g [] i s e = absurd cc
sections_item program names g (x ∷ xs) zero s e = (x, refl, sym (some_same e) ∙ ap (λ (z : ℕ). section_of program names z x) (let z : g ≡ g + 0 = omega arith in z))
sections_item program names g (x ∷ xs) (suc i) s e =
    let r = sections_item program names (g + 1) xs i s e in
    (r.0, r.1, r.2 ∙ ap (λ (z : ℕ). section_of program names z r.0) (let z : g + 1 + i ≡ g + suc i = omega arith in z))

sections_there : (program : Program) (names : List (List ℕ)) (g : ℕ) (xs : List Subroutine) (i : ℕ) (sub : Subroutine) → slice_get xs i ≡ Some sub
    → slice_get (sections_of program names g xs) i ≡ Some (section_of program names (g + i) sub)
sections_there program names g [] i sub e = absurd cc
sections_there program names g (x ∷ xs) zero sub e = ap Some (ap (section_of program names g) (some_same e) ∙ ap (λ (z : ℕ). section_of program names z sub) (let z : g ≡ g + 0 = omega arith in z))
sections_there program names g (x ∷ xs) (suc i) sub e =
    sections_there program names (g + 1) xs i sub e ∙ ap (λ (z : ℕ). Some (section_of program names z sub)) (let z : g + 1 + i ≡ g + suc i = omega arith in z)

-- the subroutines but the first
at_rest : (xs : List Subroutine) (i : ℕ) (sub : Subroutine) → slice_get (drop 1 xs) i ≡ Some sub → (1 + i < length xs) × (subroutine_at xs (1 + i) ≡ sub)
at_rest [] i sub e = absurd cc
at_rest (x ∷ xs) i sub e =
    let b = slice_get_within xs i sub e in
    (omega arith, ap (subroutine_at (x ∷ xs)) (let z : 1 + i ≡ suc i = omega arith in z) ∙ get_or_from_slice_get xs i sub _ e)

rest_at : (xs : List Subroutine) (i : ℕ) → suc i < length xs → slice_get (drop 1 xs) i ≡ Some (subroutine_at xs (suc i))
rest_at [] i h = absurd (omega arith)
rest_at (x ∷ xs) i h = slice_get-get_or xs i _ (omega arith)

under_of : (n : ℕ) (xs : List Subroutine) → ((i : ℕ) (sub : Subroutine) → slice_get xs i ≡ Some sub → sub.class < n) → AreUnder n xs
under_of n [] h = tt
under_of n (x ∷ xs) h = (h 0 x refl, under_of n xs (λ i sub e. h (suc i) sub e))

-- a section is that of a subroutine
pub record IsOf (program : Program) (names : List (List ℕ)) (s : Section) : Type 0 where
  pub number : ℕ
  pub lower : 0 < number
  pub upper : number < length program.subroutines
  pub is : s ≡ section_of program names number (subroutine_at program.subroutines number)

module _ (program : Program) (names : List (List ℕ)) (resolved : IsResolved program names) where
  abbrev pub all : List Section
  all = sections_of program names 1 (drop 1 program.subroutines)

  pub names_apart : (g h : ℕ) → g < length program.subroutines → h < length program.subroutines → name_at names g ≡ name_at names h → g ≡ h
  names_apart g h a b e = resolved.apart g h (let n = resolved.named in omega arith) (let n = resolved.named in omega arith) e

  pub known : (i : ℕ) (s : Section) → slice_get (all) i ≡ Some s → IsOf program names s
  known i s e =
      let item = sections_item program names 1 (drop 1 program.subroutines) i s e in
      let r = at_rest program.subroutines i item.0 item.1 in
      record { number = 1 + i; lower = omega arith; upper = r.0; is = item.2 ∙ ap (section_of program names (1 + i)) (sym r.1) }

  -- by its place
  pub known_at : (i : ℕ) (s : Section) → slice_get (all) i ≡ Some s → (1 + i < length program.subroutines) × (s ≡ section_of program names (1 + i) (subroutine_at program.subroutines (1 + i)))
  known_at i s e =
      let item = sections_item program names 1 (drop 1 program.subroutines) i s e in
      let r = at_rest program.subroutines i item.0 item.1 in
      (r.0, item.2 ∙ ap (section_of program names (1 + i)) (sym r.1))

  pub there : (g : ℕ) → 0 < g → g < length program.subroutines → (i : ℕ) × (slice_get (all) i ≡ Some (section_of program names g (subroutine_at program.subroutines g)))
  there zero a b = absurd (omega arith)
  there (suc i) a b = (
    i,
    sections_there program names 1 (drop 1 program.subroutines) i (subroutine_at program.subroutines (suc i)) (rest_at program.subroutines i b)
        ∙ ap (λ (z : ℕ). Some (section_of program names z (subroutine_at program.subroutines (suc i)))) (let z : 1 + i ≡ suc i = omega arith in z),
  )

  pub under : AreUnder (length program.classes) (drop 1 program.subroutines)
  under = under_of (length program.classes) (drop 1 program.subroutines)
      (λ i sub e. let r = at_rest program.subroutines i sub e in
      subst (λ (z : Subroutine). z.class < length program.classes) r.1 (resolved.each (1 + i) (omega arith) r.0).class)

  -- a subroutine has its name
  pub named_there : (g : ℕ) → 0 < g → g < length program.subroutines → list_any (is_named (name_at names g)) (all) ≡ true
  named_there g a b =
      let t = there g a b in
      any_at (is_named (name_at names g)) (all) t.0 _ t.1 ((bytes_eq-Decides (name_at names g) (name_at names g)).1 refl)

  once : (l : List ℕ) (g : ℕ) (xs : List Subroutine) → g + length xs ≤ length program.subroutines
      → (occurs l (faults.names (sections_of program names g xs)) ≤ 1) × (0 < occurs l (faults.names (sections_of program names g xs)) → (j : ℕ) × (g ≤ j) × (j < g + length xs) × (l ≡ name_at names j))
  once l g [] h = (omega arith, λ k. absurd (omega arith))
  once l g (x ∷ xs) h =
      let ih = once l (g + 1) xs (omega arith) in
      let least = ih.0 in
      elim (hit l (name_at names g)) [
        | inl e ↦ (omega arith, λ k. let r = ih.1 (omega arith) in let a = r.1 in let b = r.2 in (r.0, omega arith, omega arith, r.3))
        | inr e ↦ elim (cases_eq (occurs l (faults.names (sections_of program names (g + 1) xs))) 0) [
          | inl none ↦ (let m = at_most l (name_at names g) in omega arith, λ k. (g, omega arith, omega arith, e))
          | inr some ↦ (let r = ih.1 (omega arith) in let a = r.1 in let b = r.2 in let same = names_apart g r.0 (omega arith) (omega arith) (sym e ∙ r.3) in absurd (omega arith))
        ]
      ]
    where
      at_most : (l n : List ℕ) → here l (Some n) ≤ 1
      at_most l n = by_test (bytes_eq l n)
        where
          by_test : (b : Bool) → (if b then 1 else 0) ≤ 1
          by_test true = omega arith
          by_test false = omega arith

  length_rest : length (drop 1 program.subroutines) + 1 ≡ length program.subroutines
  length_rest = by_list program.subroutines (let a = resolved.init_there in omega arith)
    where
      by_list : (xs : List Subroutine) → 0 < length xs → length (drop 1 xs) + 1 ≡ length xs
      by_list [] h = absurd (omega arith)
      by_list (x ∷ xs) h = omega arith

  names_once : first_repeat (faults.names (all)) ≡ None
  names_once = distinct_none (faults.names (all)) (λ l. (once l 1 (drop 1 program.subroutines) (let n = length_rest in omega arith)).0)

  -- each subroutine's labels
  pub labels_of : (i : ℕ) (s : Section) → slice_get (all) i ≡ Some s → (l : List ℕ) → marks l s.lines ≤ 1
  labels_of i s e l =
      let k = known i s e in
      let sub = subroutine_at program.subroutines k.number in
      let r = resolved.each k.number k.lower k.upper in
      let ifs = r.ifs in
      let whiles = r.whiles in
      subst (λ (z : Section). marks l z.lines ≤ 1) (sym k.is) (subroutine_marks (around_class program.classes names (subroutine_at program.subroutines k.number).class) (subroutine_at program.subroutines k.number) l (omega arith) (omega arith))

  pub start_there : list_any (is_named sys_init) (all) ≡ true
  start_there = subst (λ n. list_any (is_named n) (all) ≡ true) resolved.init_name (named_there program.init resolved.init resolved.init_there)

  pub text_none : text_fault false (all) ≡ None
  text_none =
      ap (λ o. option_or (option_map TwiceDefined o) (option_or (option_map LabelTwice (first_of label_twice (all))) (option_or (option_map NoLabel (first_of no_label (all))) (no_start false (all))))) names_once
      ∙ (ap (λ o. option_or (option_map LabelTwice o) (option_or (option_map NoLabel (first_of no_label (all))) (no_start false (all)))) (first_none label_twice (all) (λ i s e. labels_once s (labels_of i s e)))
      ∙ (ap (λ o. option_or (option_map NoLabel o) (no_start false (all)))
      (first_none no_label (all) (λ i s e. let k = known i s e in
      subst (λ (z : Section). no_label z ≡ None) (sym k.is) (targets_there (section_of program names k.number (subroutine_at program.subroutines k.number))
      (subroutine_aims (around_class program.classes names (subroutine_at program.subroutines k.number).class) (subroutine_at program.subroutines k.number)))))
      ∙ ap (λ (b : Bool). if b then None else Some NoSysInit) start_there))

  -- what a subroutine can call is there
  pub keeps_there : (class g : ℕ) → (named_in program class).keeps g ≡ true → (0 < g) × (g < length program.subroutines)
  keeps_there class g h = (ltb-true 0 g (and_first (nat_lt 0 g) (nat_lt g (length program.subroutines)) h), ltb-true g (length program.subroutines) (and_second (nat_lt 0 g) (nat_lt g (length program.subroutines)) h))

  pub calls_there : (s : Section) → IsOf program names s → no_function (all) s ≡ None
  calls_there s k =
      let sub = subroutine_at program.subroutines k.number in
      let around = around_class program.classes names (subroutine_at program.subroutines k.number).class in
      let r = resolved.each k.number k.lower k.upper in
      subst (λ (z : Section). no_function (all) z ≡ None) (sym k.is)
      (functions_there (all) (subroutine_lines around sub)
      (subroutine_calls program.subroutines (named_in program sub.class) around (λ f. list_any (is_named f) (all) ≡ true)
      (λ g h. let b = keeps_there sub.class g h in named_there g b.0 b.1) (scope_of sub) sub r.body))
