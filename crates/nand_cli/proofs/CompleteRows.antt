-- The static words of two files, and the budget of a program.
use Rattle.std.proofs.Common.{◌≡◌, ◌⊎◌, inl, inr, ℕ, Bool, true, false, List, Some, codes, refl, sym, ap, ◌∙◌, arith}
use Rattle.std.specs.Prelude.{slice_get, ◌||◌}
use Rattle.std.specs.Str.{bytes_eq}
use Rattle.std.specs.List.{position_from}
use Rattle.std.proofs.lemmas.Slice.Eq.{bytes_eq-Decides}
use Rattle.vm_link.specs.Reached.{AreKept, Reached, called, dropped, kept, none, start}
use Rattle.vm_link.specs.Sections.{Section, calls, is_named, sections, stands_in}
use Rattle.tower.proofs.BudgetRows.{budget}
use Rattle.nand_cli.specs.CompleteRows.{CompleteRows, filling, two_files}

-- the sections: Main.main, Main.other and Sys.init
abbrev all : ℕ → List Section
all k = sections false (two_files k)

or_false : (b : Bool) → b || false ≡ true → b ≡ true
or_false true e = refl
or_false false e = e

some_is : {A : Type 0} (a b : A) → Some a ≡ Some b → a ≡ b
some_is a b e = cc e

-- what is reached is Main.main or Sys.init
one_of : (k : ℕ) {i : ℕ} → Reached (all k) i → (i ≡ 0) ⊎ (i ≡ 2)
one_of k (start {i} is) = inr (sym (some_is 2 i is))
one_of k (called {i} {j} s name r at stands is) = by_caller (one_of k r)
  where
    nothing : (s : Section) → slice_get (all k) 0 ≡ Some s → stands_in (calls s.lines) name ≡ true → ⊥
    nothing s e h = let same = ap (λ (z : Section). stands_in (calls z.lines) name) (some_is _ s e) in let no : false ≡ true = same ∙ h in cc no

    main : (s : Section) → slice_get (all k) 2 ≡ Some s → stands_in (calls s.lines) name ≡ true → j ≡ 0
    main s e h =
        let same = ap (λ (z : Section). stands_in (calls z.lines) name) (some_is _ s e) in
        let here : bytes_eq name (codes "Main.main") || false ≡ true = same ∙ h in
        let called_so : name ≡ codes "Main.main" = (bytes_eq-Decides name (codes "Main.main")).0 (or_false (bytes_eq name (codes "Main.main")) here) in
        sym (some_is 0 j (sym (ap (λ n. position_from (is_named n) 0 (all k)) called_so) ∙ is))

    by_caller : (i ≡ 0) ⊎ (i ≡ 2) → (j ≡ 0) ⊎ (j ≡ 2)
    by_caller (inl e) = absurd (nothing s (ap (slice_get (all k)) (sym e) ∙ at) stands)
    by_caller (inr e) = inl (main s (ap (slice_get (all k)) (sym e) ∙ at) stands)

abbrev one : ℕ
one = 1

not_other : (k : ℕ) → Reached (all k) 1 → ⊥
not_other k r = by (one_of k r)
  where
    by : (one ≡ 0) ⊎ (one ≡ 2) → ⊥
    by (inl e) = omega (arith, e)
    by (inr e) = omega (arith, e)

abbrev are_kept : (k : ℕ) → (kept : List Section) × AreKept false (all k) kept
are_kept k = (_, kept (called {i = 2} {j = 0} _ (codes "Main.main") (start refl) refl refl refl) (dropped (not_other k) (kept (start refl) none)))

pub rows : CompleteRows
rows = record {
  statics = (_, (are_kept 100).1, refl);
  few = (240, (_, (are_kept 100).1, refl), omega arith);
  one_more = (_, (are_kept 101).1, refl);
  budget = budget 1 (filling 324) refl 32768 refl;
  small = (32768, budget 1 (filling 324) refl 32768 refl, omega arith);
}
