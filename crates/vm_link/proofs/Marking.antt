-- Marks: one more, and several after one another.
use Rattle.std.proofs.Common.{rules, ◌≡◌, ◌<◌, ◌+◌, ◌⊎◌, ◌++◌, ℕ, zero, suc, Bool, true, false, cond, map, List, [], ◌∷◌, length, refl, sym, ap, subst, ◌∙◌, inl, inr, arith, add_comm, add-one, slice_set, get_or, drop, length-append, nat_eq, Option, Some, None, slice_get}
use Rattle.std.specs.List.{position_from, cons_option}
use Rattle.std.proofs.lemmas.List.Folds.{list_any-append}
use Rattle.std.proofs.lemmas.Bool.{or_cases, or_left, or_right, eqb-true, eq-eqb}
use Rattle.vm_tree.specs.declared.command.Line.{Line}
use Rattle.std.specs.Str.{bytes_eq}
use Rattle.std.proofs.lemmas.Slice.Eq.{bytes_eq-Decides}
use Rattle.vm_link.specs.Sections as sections
use Rattle.vm_link.specs.Sections.{Section, calls, stands_in, is_named}
use Rattle.vm_link.specs.Faults.{sys_init}
use Rattle.vm_link.specs.Reached.{Reached, IsFunction, start, called}
use Rattle.vm_link.specs.Inner.Maps.{Numbers, number, AreNumbers}
use Rattle.vm_link.specs.Inner.Marks.{is_marked, waits, unmarked_count, Marks, AreCalling, AreReached, IsNumber, AreBelow}

pub ⊎_by : {A B C : Type 0} → A ⊎ B → (A → C) → (B → C) → C
⊎_by (inl a) f g = f a
⊎_by (inr b) f g = g b

pub marked_from : (marks : List Bool) (p i : ℕ) → is_marked (slice_set marks p true) i ≡ true → (i ≡ p) ⊎ (is_marked marks i ≡ true)
marked_from [] p i h = inr h
marked_from (x ∷ xs) zero zero h = inl refl
marked_from (x ∷ xs) zero (suc i) h = inr h
marked_from (x ∷ xs) (suc p) zero h = inr h
marked_from (x ∷ xs) (suc p) (suc i) h = ⊎_by (marked_from xs p i h) (λ e. inl (ap suc e)) (λ m. inr m)

pub marked_still : (marks : List Bool) (p i : ℕ) → is_marked marks i ≡ true → is_marked (slice_set marks p true) i ≡ true
marked_still [] p i h = h
marked_still (x ∷ xs) zero zero h = refl
marked_still (x ∷ xs) zero (suc i) h = h
marked_still (x ∷ xs) (suc p) zero h = h
marked_still (x ∷ xs) (suc p) (suc i) h = marked_still xs p i h

pub marked_now : (marks : List Bool) (p : ℕ) → p < length marks → is_marked (slice_set marks p true) p ≡ true
marked_now [] p h = absurd (omega arith)
marked_now (x ∷ xs) zero h = refl
marked_now (x ∷ xs) (suc p) h = marked_now xs p (omega arith)

pub unmarked_less : (marks : List Bool) (p : ℕ) → p < length marks → is_marked marks p ≡ false → unmarked_count (slice_set marks p true) + 1 ≡ unmarked_count marks
unmarked_less [] p h e = absurd (omega arith)
unmarked_less (true ∷ xs) zero h e = absurd cc
unmarked_less (false ∷ xs) zero h e = add_comm (unmarked_count xs) 1
unmarked_less (true ∷ xs) (suc p) h e = unmarked_less xs p (omega arith) e
unmarked_less (false ∷ xs) (suc p) h e =
    let ih : unmarked_count (slice_set xs p true) + 1 ≡ unmarked_count xs = unmarked_less xs p (omega arith) e in
    let goal : (1 + unmarked_count (slice_set xs p true)) + 1 ≡ 1 + unmarked_count xs = omega arith in goal

pub waits_more : (xs : List ℕ) (x i : ℕ) → waits xs i ≡ true → waits (xs ++ x ∷ []) i ≡ true
waits_more xs x i h = list_any-append (nat_eq i) xs (x ∷ []) ∙ or_left (waits xs i) (waits (x ∷ []) i) h

pub waits_last : (xs : List ℕ) (x : ℕ) → waits (xs ++ x ∷ []) x ≡ true
waits_last xs x = list_any-append (nat_eq x) xs (x ∷ []) ∙ or_right (waits xs x) (waits (x ∷ []) x) (or_left (nat_eq x x) false (eq-eqb x x refl))

pub waits_from : (xs : List ℕ) (x i : ℕ) → waits (xs ++ x ∷ []) i ≡ true → (waits xs i ≡ true) ⊎ (i ≡ x)
waits_from xs x i h = ⊎_by (or_cases (waits xs i) (waits (x ∷ []) i) (sym (list_any-append (nat_eq i) xs (x ∷ [])) ∙ h)) (λ a. inl a)
    (λ b. ⊎_by (or_cases (nat_eq i x) false b) (λ e. inr (eqb-true i x e)) (λ n. absurd cc))

-- one more mark
pub marks_one : (marks : List Bool) (pending : List ℕ) (p : ℕ) → p < length marks → is_marked marks p ≡ false
    → Marks (λ i. i ≡ p) marks (slice_set marks p true) pending (pending ++ p ∷ [])
marks_one marks pending p h e = record {
  same_length = search rules;
  kept = λ i m. marked_still marks p i m;
  added = λ i m. ⊎_by (marked_from marks p i m) (λ same. inr (same, rw same (waits_last pending p))) (λ old. inl old);
  still = λ i w. waits_more pending p i w;
  more = λ i w. ⊎_by (waits_from pending p i w) (λ old. inl old) (λ same. inr (rw same (marked_now marks p h)));
  less = let u = unmarked_less marks p h e in omega (arith, length-append pending (p ∷ []));
}

-- no more marks
pub marks_none : (May : ℕ → Type 0) (marks : List Bool) (pending : List ℕ) → Marks May marks marks pending pending
marks_none May marks pending = record {
  same_length = refl;
  kept = λ i m. m;
  added = λ i m. inl m;
  still = λ i w. w;
  more = λ i w. inl w;
  less = omega arith;
}

-- marks after one another
pub marks_then : (A B : ℕ → Type 0) (a b c : List Bool) (p q r : List ℕ) → ((i : ℕ) → B i → A i) → Marks A a b p q → Marks B b c q r → Marks A a c p r
marks_then A B a b c p q r weaker f g = record {
  same_length = g.same_length ∙ f.same_length;
  kept = λ i m. g.kept i (f.kept i m);
  added = λ i m. ⊎_by (g.added i m) (λ old. ⊎_by (f.added i old) (λ o. inl o) (λ n. inr (n.0, g.still i n.1))) (λ n. inr (weaker i n.0, n.1));
  still = λ i w. g.still i (f.still i w);
  more = λ i w. ⊎_by (g.more i w) (λ old. ⊎_by (f.more i old) (λ o. inl o) (λ m. inr (g.kept i m))) (λ m. inr m);
  less = let x = f.less in let y = g.less in omega arith;
}

-- what is known while some wait
pub record Looks (ss : List Section) (m : Numbers) (marks : List Bool) (pending : List ℕ) : Type 0 where
  pub same_length : length marks ≡ length ss
  pub only : (i : ℕ) → is_marked marks i ≡ true → Reached ss i
  pub start : (i : ℕ) → IsFunction ss sys_init i → is_marked marks i ≡ true
  pub waiting : (i : ℕ) → waits pending i ≡ true → is_marked marks i ≡ true
  pub closed : (i j : ℕ) (s : Section) → is_marked marks i ≡ true → slice_get ss i ≡ Some s → AreCalling m s.lines j
      → (waits pending i ≡ true) ⊎ (is_marked marks j ≡ true)

-- an equal function
pub marks_as : (A B : ℕ → Type 0) (a b : List Bool) (p q : List ℕ) → ((i : ℕ) → A i → B i) → Marks A a b p q → Marks B a b p q
marks_as A B a b p q weaker f = record {
  same_length = f.same_length;
  kept = f.kept;
  still = f.still;
  more = f.more;
  less = f.less;
  added = λ i m. ⊎_by (f.added i m) (λ o. inl o) (λ n. inr (weaker i n.0, n.1));
}

pub some_same : {A : Type 0} {i j : A} → Some i ≡ Some j → i ≡ j
some_same e = cc

-- an item that is looked at
pub rest_at : {A : Type 0} (xs : List A) (i : ℕ) (x : A) → i < length xs → x ≡ get_or xs i x → drop i xs ≡ x ∷ drop (i + 1) xs
rest_at [] i x h e = absurd (omega arith)
rest_at (y ∷ ys) zero x h e = ap (λ z. z ∷ ys) (sym e)
rest_at (y ∷ ys) (suc i) x h e = rw (add-one) (let ih : drop i ys ≡ x ∷ drop (i + 1) ys = rest_at ys i x (omega arith) e in rw (add-one) at ih)

pub marked_by : (marks : List Bool) (p : ℕ) (b d : Bool) → p < length marks → b ≡ get_or marks p d → is_marked marks p ≡ b
marked_by [] p b d h e = absurd (omega arith)
marked_by (x ∷ xs) zero b d h e = sym e
marked_by (x ∷ xs) (suc p) b d h e = marked_by xs p b d (omega arith) e

-- marks that are all unset
pub marked_none : (xs : List Bool) (i : ℕ) → ((i : ℕ) → is_marked xs i ≡ false) → is_marked (xs ++ false ∷ []) i ≡ false
marked_none [] zero h = refl
marked_none [] (suc i) h = refl
marked_none (x ∷ xs) zero h = h zero
marked_none (x ∷ xs) (suc i) h = marked_none xs i (λ j. h (suc j))

false_true : {b : Bool} → b ≡ false → b ≡ true → ⊥
false_true e f = absurd cc

pub marked_below : (marks : List Bool) (i : ℕ) → is_marked marks i ≡ true → i < length marks
marked_below [] i h = absurd (false_true refl h)
marked_below (x ∷ xs) zero h = omega arith
marked_below (x ∷ xs) (suc i) h = let ih = marked_below xs i h in omega arith

pub position_below : {A : Type 0} (p : A → Bool) (at : ℕ) (xs : List A) (i : ℕ) → position_from p at xs ≡ Some i → i < at + length xs
position_below p at [] i e = absurd cc
position_below p at (x ∷ xs) i e = by_test (p x) e (λ h. position_below p (at + 1) xs i h)
  where
    by_test : (b : Bool) → cond b (Some at) (position_from p (at + 1) xs) ≡ Some i → (position_from p (at + 1) xs ≡ Some i → i < at + 1 + length xs) → i < at + length (x ∷ xs)
    by_test true h go = let same : at ≡ i = some_same h in omega arith
    by_test false h go = let ih = go h in omega arith

pub seen_at : {A B : Type 0} (f : A → B) (xs : List A) (i : ℕ) (x d : A) → i < length xs → x ≡ get_or xs i d → slice_get (map f xs) i ≡ Some (f x)
seen_at f [] i x d h e = absurd (omega arith)
seen_at f (y ∷ ys) zero x d h e = ap (λ z. Some (f z)) (sym e)
seen_at f (y ∷ ys) (suc i) x d h e = seen_at f ys i x d (omega arith) e

module _ (ss : List Section) (m : Numbers) (numbers : AreNumbers m ss) where
  -- a call as the definition of what is reached has it
  pub call_from : (lines : List Line) (j : ℕ) → AreCalling m lines j → (name : List ℕ) × (stands_in (calls lines) name ≡ true) × IsFunction ss name j
  call_from [] j h = absurd h
  call_from (x ∷ xs) j (inl h) = by_name (sections.called_name x.command) h
    where
      by_name : (o : Option (List ℕ)) → IsNumber m o j → (name : List ℕ) × (stands_in (cons_option o (calls xs)) name ≡ true) × IsFunction ss name j
      by_name None e = absurd cc
      by_name (Some n) e = (n, or_left (bytes_eq n n) (stands_in (calls xs) n) ((bytes_eq-Decides n n).1 refl), sym (numbers n) ∙ e)
  call_from (x ∷ xs) j (inr h) = let r = call_from xs j h in (r.0, more (sections.called_name x.command) r.0 r.1, r.2)
    where
      more : (o : Option (List ℕ)) (n : List ℕ) → stands_in (calls xs) n ≡ true → stands_in (cons_option o (calls xs)) n ≡ true
      more None n e = e
      more (Some k) n e = or_right (bytes_eq n k) (stands_in (calls xs) n) e

  pub call_to : (lines : List Line) (name : List ℕ) (j : ℕ) → stands_in (calls lines) name ≡ true → IsFunction ss name j → AreCalling m lines j
  call_to [] name j h f = false_true refl h
  call_to (x ∷ xs) name j h f = by_name (sections.called_name x.command) h (λ e. call_to xs name j e f)
    where
      by_name : (o : Option (List ℕ)) → stands_in (cons_option o (calls xs)) name ≡ true → (stands_in (calls xs) name ≡ true → AreCalling m xs j) → IsNumber m o j ⊎ AreCalling m xs j
      by_name None e go = inr (go e)
      by_name (Some n) e go = ⊎_by (or_cases (bytes_eq name n) (stands_in (calls xs) name) e)
          (λ same. let eq : name ≡ n = (bytes_eq-Decides name n).0 same in inl (ap (number m) (sym eq) ∙ (numbers name ∙ f)))
          (λ later. inr (go later))

  pub below : (n : ℕ) → length ss ≡ n → AreBelow m n
  below n l = λ name i e. let h : i < 0 + length ss = position_below (is_named name) 0 ss i (sym (numbers name) ∙ e) in omega arith

  pub looks_below : (marks : List Bool) (pending : List ℕ) (place : ℕ) → Looks ss m marks (pending ++ place ∷ []) → place < length ss
  looks_below marks pending place k =
      let h : place < length marks = marked_below marks place (k.waiting place (waits_last pending place)) in
      let e = k.same_length in omega arith

  pub looks_first : (none marks : List Bool) (pending : List ℕ) → length none ≡ length ss → ((i : ℕ) → is_marked none i ≡ false)
      → Marks (IsNumber m (Some sys_init)) none marks [] pending → ((i : ℕ) → IsNumber m (Some sys_init) i → is_marked marks i ≡ true) → Looks ss m marks pending
  looks_first none marks pending l unset f all = record {
    same_length = f.same_length ∙ l;
    only = λ i h. ⊎_by (f.added i h) (λ o. absurd (false_true (unset i) o)) (λ n. start (sym (numbers sys_init) ∙ n.0));
    start = λ i h. all i (numbers sys_init ∙ h);
    waiting = λ i h. ⊎_by (f.more i h) (λ o. absurd (false_true refl o)) (λ n. n);
    closed = λ i j s h g a. ⊎_by (f.added i h) (λ o. absurd (false_true (unset i) o)) (λ n. inl n.1);
  }

  pub looks_next : (place : ℕ) (s : Section) (marks marks' : List Bool) (pending pending' : List ℕ) → slice_get ss place ≡ Some s
      → Looks ss m marks (pending ++ place ∷ []) → Marks (AreCalling m s.lines) marks marks' pending pending'
      → ((i : ℕ) → AreCalling m s.lines i → is_marked marks' i ≡ true) → Looks ss m marks' pending'
  looks_next place s marks marks' pending pending' here old f all = record {
    same_length = f.same_length ∙ old.same_length;
    only = λ i h. ⊎_by (f.added i h) (λ o. old.only i o) (λ n.
        let r = call_from s.lines i n.0 in called s r.0 (old.only place (old.waiting place (waits_last pending place))) here r.1 r.2);
    start = λ i h. f.kept i (old.start i h);
    waiting = λ i h. ⊎_by (f.more i h) (λ o. f.kept i (old.waiting i (waits_more pending place i o))) (λ n. n);
    closed = λ i j t h g a. ⊎_by (f.added i h)
        (λ o. ⊎_by (old.closed i j t o g a)
        (λ w. ⊎_by (waits_from pending place i w) (λ w'. inl (f.still i w'))
        (λ same. let same_section : t ≡ s = some_same (sym g ∙ (ap (slice_get ss) same ∙ here)) in
        inr (all j (subst (λ z. AreCalling m z.lines j) same_section a))))
        (λ k. inr (f.kept j k)))
        (λ n. inl n.1);
  }

  pub looks_last : (marks : List Bool) → Looks ss m marks [] → AreReached ss marks
  looks_last marks k = record { same_length = k.same_length; only = k.only; all = all }
    where
      all : (i : ℕ) → Reached ss i → is_marked marks i ≡ true
      all i (start e) = k.start i e
      all i (called {i = h} s name r g c f) = ⊎_by (k.closed h i s (all h r) g (call_to s.lines name i c f)) (λ w. absurd (false_true refl w)) (λ n. n)

pub none_left : (xs : List ℕ) → length xs ≡ 0 → xs ≡ []
none_left [] e = refl
none_left (x ∷ xs) e = absurd (omega arith)

pub length_mapped : {A B : Type 0} (f : A → B) (xs : List A) → length (map f xs) ≡ length xs
length_mapped f [] = refl
length_mapped f (x ∷ xs) = ap suc (length_mapped f xs)
