-- Ways that are noted, and the names that are reported.
use Rattle.std.proofs.Common.{◌≡◌, ℕ, Bool, true, false, cond, ◌&&◌, ◌||◌, nat_eq, ◌⊎◌, inl, inr, List, [], ◌∷◌, ◌++◌, map, refl, sym, ap, subst, ◌∙◌}
use Rattle.std.specs.Prelude.{slice_get}
use Rattle.std.specs.Str.{bytes_eq}
use Rattle.std.specs.List.{list_any}
use Rattle.std.specs.Cmp.Lexicographic.{bytes_decides}
use Rattle.std.proofs.lemmas.Bool.Decides.{Decides-eqb}
use Rattle.hdl_tree.specs.Writable.{is_among}
use Rattle.hdl_tree.specs.Chips.{Chips}
use Rattle.hdl_check.proofs.MarkLemmas.{or_false, both}
use Rattle.hdl_loops.specs.Inner.Report.{TripAmong, AllAmong, AreTold, NotesOne, add_name, add_names, names_of, is_passage, was_passed}
use Rattle.hdl_loops.specs.Inner.Tasks.{PassTold}
use Rattle.hdl_loops.specs.declared.report.Passage.{Passage}
use Rattle.hdl_loops.specs.declared.report.Report.{Report}
use Rattle.hdl_loops.proofs.Telling.{all_stay}

-- ---- sets

more_by : (b u v w : Bool) → (u ≡ true → (v || w) ≡ true) → (b || u) ≡ true → ((b || v) || w) ≡ true
more_by true u v w rest h = refl
more_by false u v w rest h = rest h

any_append : {A : Type 0} (p : A → Bool) (xs : List A) (y : A) → list_any p (xs ++ y ∷ []) ≡ true → (list_any p xs || p y) ≡ true
any_append p [] y h = sym (or_false (p y)) ∙ h
any_append p (x ∷ xs) y h = more_by (p x) (list_any p (xs ++ y ∷ [])) (list_any p xs) (p y) (any_append p xs y) h

or_left : (a b : Bool) → a ≡ true → (a || b) ≡ true
or_left true b h = refl
or_left false b h = absurd cc

pub any_inserted : {A : Type 0} (p : A → Bool) (b : Bool) (xs : List A) (y : A) → list_any p (cond b xs (xs ++ y ∷ [])) ≡ true → (list_any p xs || p y) ≡ true
any_inserted p true xs y h = or_left (list_any p xs) (p y) h
any_inserted p false xs y h = any_append p xs y h

any_among : {A : Type 0} (g : A → List ℕ) (x : List ℕ) (ks : List A) → list_any (λ k. bytes_eq x (g k)) ks ≡ is_among x (map g ks)
any_among g x [] = refl
any_among g x (k ∷ ks) = ap (λ v. bytes_eq x (g k) || v) (any_among g x ks)

map_append : {A : Type 0} (g : A → List ℕ) (ks : List A) (v : A) → map g (ks ++ v ∷ []) ≡ map g ks ++ g v ∷ []
map_append g [] v = refl
map_append g (k ∷ ks) v = ap (λ t. g k ∷ t) (map_append g ks v)

named_by : {A : Type 0} (g : A → List ℕ) (ks : List A) (v : A) → map g (cond (list_any (λ k. bytes_eq (g v) (g k)) ks) ks (ks ++ v ∷ [])) ≡ add_name (map g ks) (g v)
named_by g ks v = by (list_any (λ k. bytes_eq (g v) (g k)) ks) (any_among g (g v) ks)
  where
    by : (b : Bool) → b ≡ is_among (g v) (map g ks) → map g (cond b ks (ks ++ v ∷ [])) ≡ add_name (map g ks) (g v)
    by true e = ap (λ (b : Bool). cond b (map g ks) (map g ks ++ g v ∷ [])) e
    by false e = map_append g ks v ∙ ap (λ (b : Bool). cond b (map g ks) (map g ks ++ g v ∷ [])) e

pub named_more : {A : Type 0} (ks new : List A) (v : A) (g : A → List ℕ) → new ≡ cond (list_any (λ k. bytes_eq (g v) (g k)) ks) ks (ks ++ v ∷ []) → map g new ≡ add_name (map g ks) (g v)
named_more ks new v g e = ap (map g) e ∙ named_by g ks v

-- ---- ways that are noted

pub start_told : (chips : Chips) (told : Report) → told.passed.keys ≡ [] → AreTold chips told
start_told chips told none place n b m k h chip at = absurd (let e : false ≡ true = sym (ap (list_any (is_passage place n b m k)) none) ∙ h in cc)

pub still_told : (chips : Chips) (old new : Report) (names : List (List ℕ)) → AreTold chips old → new.passed.keys ≡ old.passed.keys → names_of new ≡ add_names (names_of old) names → AreTold chips new
still_told chips old new names are same more place n b m k h chip at =
    let r = are place n b m k (ap (λ (ps : List Passage). list_any (is_passage place n b m k) ps) (sym same) ∙ h) chip at in
    (r.0, r.1, subst (AllAmong r.0) (sym more) (all_stay r.0 (names_of old) names r.2))

or_cases : (a b : Bool) → (a || b) ≡ true → (a ≡ true) ⊎ (b ≡ true)
or_cases true b h = inl refl
or_cases false b h = inr h

record SamePassage (p : Passage) (chip : ℕ) (n : List ℕ) (b : ℕ) (m : List ℕ) (k : ℕ) : Type 0 where
  chip_is : chip ≡ p.chip
  n_is : n ≡ p.through.input.now
  b_is : b ≡ p.through.bit
  m_is : m ≡ p.through.output.now
  k_is : k ≡ p.through.out

same_passage : (p : Passage) (chip : ℕ) (n : List ℕ) (b : ℕ) (m : List ℕ) (k : ℕ) → is_passage chip n b m k p ≡ true → SamePassage p chip n b m k
same_passage p chip n b m k h =
    let d = p.through in
    let a = both (nat_eq chip p.chip) (bytes_eq n d.input.now && (nat_eq b d.bit && (bytes_eq m d.output.now && nat_eq k d.out))) h in
    let e = both (bytes_eq n d.input.now) (nat_eq b d.bit && (bytes_eq m d.output.now && nat_eq k d.out)) a.1 in
    let f = both (nat_eq b d.bit) (bytes_eq m d.output.now && nat_eq k d.out) e.1 in
    let g = both (bytes_eq m d.output.now) (nat_eq k d.out) f.1 in
    record {
      chip_is = (Decides-eqb chip p.chip).0 a.0;
      n_is = (bytes_decides n d.input.now).0 e.0;
      b_is = (Decides-eqb b d.bit).0 f.0;
      m_is = (bytes_decides m d.output.now).0 g.0;
      k_is = (Decides-eqb k d.out).0 g.1;
    }

pub noted_told : (chips : Chips) (old new : Report) (p : Passage) → AreTold chips old → names_of new ≡ names_of old → NotesOne old new p → PassTold chips p (names_of old) → AreTold chips new
noted_told chips old new p are same one pass place n b m k h chip at = by (or_cases (was_passed old place n b m k) (is_passage place n b m k p) (one place n b m k h))
  where
    by : (was_passed old place n b m k ≡ true) ⊎ (is_passage place n b m k p ≡ true) → TripAmong chips chip n b m k (names_of new)
    by (inl was) = subst (TripAmong chips chip n b m k) (sym same) (are place n b m k was chip at)
    by (inr is) =
        let s = same_passage p place n b m k is in
        let told : TripAmong chips chip p.through.input.now p.through.bit p.through.output.now p.through.out (names_of new) = subst (TripAmong chips chip p.through.input.now p.through.bit p.through.output.now p.through.out) (sym same) (pass chip (ap (slice_get chips.entries) (sym s.chip_is) ∙ at)) in
        subst (λ v. TripAmong chips chip v b m k (names_of new)) (sym s.n_is)
        (subst (λ v. TripAmong chips chip p.through.input.now v m k (names_of new)) (sym s.b_is)
        (subst (λ v. TripAmong chips chip p.through.input.now p.through.bit v k (names_of new)) (sym s.m_is)
        (subst (λ v. TripAmong chips chip p.through.input.now p.through.bit p.through.output.now v (names_of new)) (sym s.k_is) told)))
