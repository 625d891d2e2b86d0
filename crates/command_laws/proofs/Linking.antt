-- Each program of VM files has an answer of linking: its linked code, or a fault.
use Rattle.std.specs.Prelude.{◌-◌, ◌^◌, min, nat_eq, nat_lt, option_map}
use Rattle.std.specs.Option.{option_or}
use Rattle.std.specs.List.{list_any, position_from}
use Rattle.std.specs.Str.{bytes_eq}
use Rattle.std.proofs.Common.{◌≡◌, ◌≢◌, ◌≤◌, ◌<◌, ◌+◌, ◌||◌, ◌⊎◌, inl, inr, ℕ, zero, suc, Bool, true, false, cond, List, [], ◌∷◌, Option, Some, None, Ok, Err, length, slice_get, refl, sym, ◌∙◌, ap, subst, arith}
use Rattle.std.proofs.lemmas.Bool.Decides.{nat_tests}
use Rattle.std.proofs.lemmas.Option.{slice_get_within}
use Rattle.std.proofs.lemmas.Slice.Eq.{bytes_eq-Decides}
use Rattle.vm_tree.specs.declared.program.File.{File}
use Rattle.vm_link.specs.declared.fault.LinkFault.{LinkFault}
use Rattle.vm_link.specs.declared.fault.LinkFault.TheVariants.{NoFunction, TwiceDefined, NoLabel, LabelTwice, NoSysInit, TooManyStatics}
use Rattle.vm_link.specs.declared.linked.Linked.{Linked}
use Rattle.vm_link.specs.Sections.{Section, calls, is_named, sections, stands_in}
use Rattle.outer_world.specs.Refusals.{Message}
use Rattle.vm_link.specs.Faults.{first_of, first_repeat, kept_fault, label_twice, names, no_function, no_label, sys_init, text_fault, words_before}
use Rattle.vm_link.specs.Messages.{link_message}
use Rattle.vm_link.specs.Reached.{AreKept, IsFunction, Keeps, Reached, called, dropped, kept, none, start}
use Rattle.vm_link.specs.Resolved.{linked_of}
use Rattle.vm_link.specs.Links.{Links, faulty, kept_faulty, whole}
use Rattle.vm_link.proofs.Marking.{position_below}

-- ---- numbers below n that are marked

abbrev without : Bool → ℕ
without true = 0
without false = 1

abbrev unmarked : (ℕ → Bool) → ℕ → ℕ
unmarked marks zero = 0
unmarked marks (suc n) = unmarked marks n + without (marks n)

-- one more is marked
abbrev with_mark : ℕ → (ℕ → Bool) → ℕ → Bool
with_mark j marks k = nat_eq k j || marks k

same_number : (n : ℕ) → nat_eq n n ≡ true
same_number n = grind (arith, nat_tests)

other_number : (k j : ℕ) → k ≢ j → nat_eq k j ≡ false
other_number k j apart = grind (arith, nat_tests)

-- a mark further on changes nothing
before_mark : (marks : ℕ → Bool) (j n : ℕ) → n ≤ j → unmarked (with_mark j marks) n ≡ unmarked marks n
before_mark marks j zero h = refl
before_mark marks j (suc n) h =
    let apart : n ≢ j = omega (arith, h) in
    let other : with_mark j marks n ≡ marks n = ap (λ (b : Bool). b || marks n) (other_number n j apart) in
    λ i. before_mark marks j n (omega (arith, h)) i + without (other i)

fewer_by : (marks : ℕ → Bool) (j n : ℕ) → j < n → marks j ≡ false → suc (unmarked (with_mark j marks) n) ≡ unmarked marks n
fewer_by marks j zero h free = absurd (omega (arith, h))
fewer_by marks j (suc n) h free = by (λ near. fewer_by marks j n near free) (nat_eq n j) refl
  where
    by : (j < n → suc (unmarked (with_mark j marks) n) ≡ unmarked marks n) → (b : Bool) → nat_eq n j ≡ b → suc (unmarked (with_mark j marks) n + without (with_mark j marks n)) ≡ unmarked marks n + without (marks n)
    by below true e =
        let same : n ≡ j = grind (arith, nat_tests) in
        let here : marks n ≡ false = ap marks same ∙ free in
        let left : without (with_mark j marks n) ≡ 0 = ap (λ (b : Bool). without (b || marks n)) e in
        let right : without (marks n) ≡ 1 = ap without here in
        let rest = before_mark marks j n (omega (arith, same)) in
        omega (arith, left, right, rest)
    by below false e =
        let apart : n ≢ j = λ same. let no : false ≡ true = sym e ∙ (ap (λ (m : ℕ). nat_eq m j) same ∙ same_number j) in absurd cc in
        let near : j < n = omega (arith, h, apart) in
        let other : without (with_mark j marks n) ≡ without (marks n) = ap (λ (b : Bool). without (b || marks n)) e in
        let rest = below near in
        omega (arith, other, rest)

-- ---- what can be searched for until nothing new is found

module _ (n : ℕ) (Found : ℕ → Type 0) where
  -- what is marked is found
  abbrev AreFound : (ℕ → Bool) → Type 0
  AreFound marks = (k : ℕ) → marks k ≡ true → Found k

  -- one more is found, or there is no more
  abbrev Step : (ℕ → Bool) → Type 0
  Step marks = ((j : ℕ) × (j < n) × (marks j ≡ false) × Found j) ⊎ ((j : ℕ) → Found j → marks j ≡ true)

  with_found : (marks : ℕ → Bool) (j : ℕ) → AreFound marks → Found j → AreFound (with_mark j marks)
  with_found marks j are here k h = by (nat_eq k j) refl
    where
      by : (b : Bool) → nat_eq k j ≡ b → Found k
      by true e = let same : k ≡ j = grind (arith, nat_tests) in subst Found (sym same) here
      by false e = are k (sym (ap (λ (b : Bool). b || marks k) e) ∙ h)

  module _ (step : (marks : ℕ → Bool) → AreFound marks → Step marks) where
    abbrev All : Type 0
    All = (marks : ℕ → Bool) × AreFound marks × ((j : ℕ) → Found j → marks j ≡ true)

    all_found : (left : ℕ) (marks : ℕ → Bool) → unmarked marks n ≡ left → AreFound marks → All
    all_found zero marks few are = by (step marks are)
      where
        by : Step marks → All
        by (inr closed) = (marks, are, closed)
        by (inl (j, near, free, found)) = let e = fewer_by marks j n near free in absurd (omega (arith, e, few))
    all_found (suc left) marks few are = by (all_found left) (step marks are)
      where
        by : ((marks : ℕ → Bool) → unmarked marks n ≡ left → AreFound marks → All) → Step marks → All
        by more (inr closed) = (marks, are, closed)
        by more (inl (j, near, free, found)) =
            let e = fewer_by marks j n near free in
            more (with_mark j marks) (omega (arith, e, few)) (with_found marks j are found)

    settled : (all : All) (j : ℕ) → Found j ⊎ (Found j → ⊥)
    settled (marks, are, closed) j = by (marks j) refl
      where
        by : (b : Bool) → marks j ≡ b → Found j ⊎ (Found j → ⊥)
        by true e = inl (are j e)
        by false e = inr (λ found. let both = sym e ∙ closed j found in let no : ⊥ = cc in no)

    pub decided : (j : ℕ) → Found j ⊎ (Found j → ⊥)
    decided j = settled (all_found (unmarked (λ k. false) n) (λ k. false) refl (λ k h. let no : ⊥ = cc in absurd no)) j

-- ---- the sections that calls come to

or_left : (b c : Bool) → b ≡ true → (b || c) ≡ true
or_left b c h = rw h refl

or_right : (b c : Bool) → c ≡ true → (b || c) ≡ true
or_right true c h = refl
or_right false c h = h

or_either : (b c : Bool) → (b || c) ≡ true → (b ≡ true) ⊎ (c ≡ true)
or_either true c h = inl refl
or_either false c h = inr h

module _ (ss : List Section) where
  abbrev More : (ℕ → Bool) → Type 0
  More marks = (j : ℕ) × (j < length ss) × (marks j ≡ false) × Reached ss j

  -- the function of a name is new, or there is none that isn't marked
  named : (marks : ℕ → Bool) (name : List ℕ) → ((j : ℕ) → IsFunction ss name j → Reached ss j) → More marks ⊎ ((j : ℕ) → IsFunction ss name j → marks j ≡ true)
  named marks name reaches = by (position_from (is_named name) 0 ss) refl
    where
      by_mark : (j : ℕ) → position_from (is_named name) 0 ss ≡ Some j → (b : Bool) → marks j ≡ b → More marks ⊎ ((k : ℕ) → IsFunction ss name k → marks k ≡ true)
      by_mark j e true m = inr (λ k is. let same : j ≡ k = cc in subst (λ (i : ℕ). marks i ≡ true) same m)
      by_mark j e false m = inl (j, omega (arith, position_below (is_named name) 0 ss j e), m, reaches j e)

      by : (o : Option ℕ) → position_from (is_named name) 0 ss ≡ o → More marks ⊎ ((k : ℕ) → IsFunction ss name k → marks k ≡ true)
      by None e = inr (λ k is. let no : ⊥ = cc in absurd no)
      by (Some j) e = by_mark j e (marks j) refl

  -- so it is of each of these names
  named_all : (marks : ℕ → Bool) (names : List (List ℕ)) → ((name : List ℕ) → stands_in names name ≡ true → (j : ℕ) → IsFunction ss name j → Reached ss j)
      → More marks ⊎ ((name : List ℕ) → stands_in names name ≡ true → (j : ℕ) → IsFunction ss name j → marks j ≡ true)
  named_all marks [] reaches = inr (λ name h j is. let no : ⊥ = cc in absurd no)
  named_all marks (x ∷ xs) reaches = first (named_all marks xs (λ name h j is. reaches name (or_right (bytes_eq name x) (stands_in xs name) h) j is)) (named marks x (reaches x (or_left (bytes_eq x x) (stands_in xs x) ((bytes_eq-Decides x x).1 refl))))
    where
      rest : ((j : ℕ) → IsFunction ss x j → marks j ≡ true) → More marks ⊎ ((name : List ℕ) → stands_in xs name ≡ true → (j : ℕ) → IsFunction ss name j → marks j ≡ true)
          → More marks ⊎ ((name : List ℕ) → stands_in (x ∷ xs) name ≡ true → (j : ℕ) → IsFunction ss name j → marks j ≡ true)
      rest here (inl more) = inl more
      rest here (inr all) = inr (λ name h j is. elim (or_either (bytes_eq name x) (stands_in xs name) h) [
        | inl e ↦ let same : name ≡ x = (bytes_eq-Decides name x).0 e in here j (subst (λ (m : List ℕ). IsFunction ss m j) same is)
        | inr e ↦ all name e j is
      ])

      first : More marks ⊎ ((name : List ℕ) → stands_in xs name ≡ true → (j : ℕ) → IsFunction ss name j → marks j ≡ true)
          → More marks ⊎ ((j : ℕ) → IsFunction ss x j → marks j ≡ true) → More marks ⊎ ((name : List ℕ) → stands_in (x ∷ xs) name ≡ true → (j : ℕ) → IsFunction ss name j → marks j ≡ true)
      first later (inl more) = inl more
      first later (inr here) = rest here later

  -- what a section calls is marked, where the section is
  abbrev Closed : (ℕ → Bool) → ℕ → Type 0
  Closed marks i = marks i ≡ true → (s : Section) → slice_get ss i ≡ Some s → (name : List ℕ) → stands_in (calls s.lines) name ≡ true → (j : ℕ) → IsFunction ss name j → marks j ≡ true

  called_by : (marks : ℕ → Bool) (i : ℕ) → (marks i ≡ true → Reached ss i) → More marks ⊎ Closed marks i
  called_by marks i reached = by_mark (marks i) refl
    where
      by_section : marks i ≡ true → (o : Option Section) → slice_get ss i ≡ o → More marks ⊎ Closed marks i
      by_section m None e = inr (λ h s is. let no : ⊥ = cc in absurd no)
      by_section m (Some s) e = by_calls (named_all marks (calls s.lines) (λ name h j is. called s name (reached m) e h is))
        where
          by_calls : More marks ⊎ ((name : List ℕ) → stands_in (calls s.lines) name ≡ true → (j : ℕ) → IsFunction ss name j → marks j ≡ true) → More marks ⊎ Closed marks i
          by_calls (inl more) = inl more
          by_calls (inr all) = inr (λ h t is. let same : s ≡ t = cc in subst (λ (u : Section). (name : List ℕ) → stands_in (calls u.lines) name ≡ true → (j : ℕ) → IsFunction ss name j → marks j ≡ true) same all)

      by_mark : (b : Bool) → marks i ≡ b → More marks ⊎ Closed marks i
      by_mark true m = by_section m (slice_get ss i) refl
      by_mark false m = inr (λ h. let no : ⊥ = cc in absurd no)

  called_below : (marks : ℕ → Bool) → ((i : ℕ) → marks i ≡ true → Reached ss i) → (n : ℕ) → More marks ⊎ ((i : ℕ) → i < n → Closed marks i)
  called_below marks reached zero = inr (λ i h. absurd (omega (arith, h)))
  called_below marks reached (suc n) = first (called_below marks reached n) (called_by marks n (reached n))
    where
      last : Closed marks n → More marks ⊎ ((i : ℕ) → i < n → Closed marks i) → More marks ⊎ ((i : ℕ) → i < suc n → Closed marks i)
      last here (inl more) = inl more
      last here (inr all) = inr (λ i h. by i h (nat_eq i n) refl)
        where
          by : (i : ℕ) → i < suc n → (b : Bool) → nat_eq i n ≡ b → Closed marks i
          by i h true e = let same : i ≡ n = grind (arith, nat_tests) in subst (λ (k : ℕ). Closed marks k) (sym same) here
          by i h false e =
              let apart : i ≢ n = λ same. let no : false ≡ true = sym e ∙ (ap (λ (m : ℕ). nat_eq m n) same ∙ same_number n) in absurd cc in
              all i (omega (arith, h, apart))

      first : More marks ⊎ ((i : ℕ) → i < n → Closed marks i) → More marks ⊎ Closed marks n → More marks ⊎ ((i : ℕ) → i < suc n → Closed marks i)
      first before (inl more) = inl more
      first before (inr here) = last here before

  -- so all that are reached are marked
  all_marked : (marks : ℕ → Bool) → ((j : ℕ) → IsFunction ss sys_init j → marks j ≡ true) → ((i : ℕ) → i < length ss → Closed marks i) → (j : ℕ) → Reached ss j → marks j ≡ true
  all_marked marks begins closed j (start is) = begins j is
  all_marked marks begins closed j (called {i = i} s name reached there calls is) =
      closed i (slice_get_within ss i s there) (all_marked marks begins closed i reached) s there name calls j is

  step : (marks : ℕ → Bool) → ((k : ℕ) → marks k ≡ true → Reached ss k) → More marks ⊎ ((j : ℕ) → Reached ss j → marks j ≡ true)
  step marks reached = first (named marks sys_init (λ j is. start is))
    where
      last : ((j : ℕ) → IsFunction ss sys_init j → marks j ≡ true) → More marks ⊎ ((i : ℕ) → i < length ss → Closed marks i) → More marks ⊎ ((j : ℕ) → Reached ss j → marks j ≡ true)
      last begins (inl more) = inl more
      last begins (inr closed) = inr (all_marked marks begins closed)

      first : More marks ⊎ ((j : ℕ) → IsFunction ss sys_init j → marks j ≡ true) → More marks ⊎ ((j : ℕ) → Reached ss j → marks j ≡ true)
      first (inl more) = inl more
      first (inr begins) = last begins (called_below marks reached (length ss))

  -- each section is reached or not
  reached_or_not : (j : ℕ) → Reached ss j ⊎ (Reached ss j → ⊥)
  reached_or_not = decided (length ss) (Reached ss) step

-- so there is a list of those that are kept
kept_of : (P : ℕ → Type 0) → ((j : ℕ) → P j ⊎ (P j → ⊥)) → (i : ℕ) (ss : List Section) → (ks : List Section) × Keeps P i ss ks
kept_of P decide i [] = ([], none)
kept_of P decide i (s ∷ ss) = by (decide i) (kept_of P decide (suc i) ss)
  where
    by : P i ⊎ (P i → ⊥) → (ks : List Section) × Keeps P (suc i) ss ks → (ks : List Section) × Keeps P i (s ∷ ss) ks
    by (inl h) (ks, rest) = (s ∷ ks, kept h rest)
    by (inr never) (ks, rest) = (ks, dropped never rest)

some_kept : (bare : Bool) (ss : List Section) → (ks : List Section) × AreKept bare ss ks
some_kept true ss = (ss, refl)
some_kept false ss = kept_of (Reached ss) (reached_or_not ss) 0 ss

-- ---- the answer

-- what is reported of a fault, where there is one
abbrev IsTold : Option LinkFault → Type 0
IsTold None = Unit {0}
IsTold (Some f) = (told : Message) × (link_message f ≡ Some told)

told_or : (a b : Option LinkFault) → IsTold a → IsTold b → IsTold (option_or a b)
told_or None b h k = k
told_or (Some f) b h k = h

told_map : (fault : List ℕ → LinkFault) → ((name : List ℕ) → (told : Message) × (link_message (fault name) ≡ Some told)) → (o : Option (List ℕ)) → IsTold (option_map fault o)
told_map fault tells None = tt
told_map fault tells (Some name) = tells name

told_start : (b : Bool) → IsTold (cond b None (Some NoSysInit))
told_start true = tt
told_start false = (_, refl)

told_many : (b : Bool) (n : ℕ) → IsTold (cond b (Some (TooManyStatics n)) None)
told_many true n = (_, refl)
told_many false n = tt

told_text : (bare : Bool) (ss : List Section) → IsTold (text_fault bare ss)
told_text bare ss =
    told_or _ _ (told_map TwiceDefined (λ name. (_, refl)) (first_repeat (names ss)))
    (told_or _ _ (told_map LabelTwice (λ name. (_, refl)) (first_of label_twice ss))
    (told_or _ _ (told_map NoLabel (λ name. (_, refl)) (first_of no_label ss)) (told_start (bare || list_any (is_named sys_init) ss))))

told_kept : (files : ℕ) (ss ks : List Section) → IsTold (kept_fault files ss ks)
told_kept files ss ks =
    told_or _ _ (told_map NoFunction (λ name. (_, refl)) (first_of (no_function ss) ks)) (told_many (nat_lt 240 (words_before ks files)) (min (words_before ks files) (2 ^ 64 - 1)))

-- The program is linked, or it has a fault, of which this is reported.
abbrev pub IsLinkedOrTold : Bool → List File → Type 0
IsLinkedOrTold bare files = ((l : Linked) × Links bare files (Ok l)) ⊎ ((f : LinkFault) × (told : Message) × Links bare files (Err f) × (link_message f ≡ Some told))

pub linked_or_told : (bare : Bool) (files : List File) → IsLinkedOrTold bare files
linked_or_told bare files = by_text (text_fault bare (sections bare files)) refl
  where
    by_kept : text_fault bare (sections bare files) ≡ None → (ks : List Section) → AreKept bare (sections bare files) ks → (o : Option LinkFault) → kept_fault (length files) (sections bare files) ks ≡ o → IsLinkedOrTold bare files
    by_kept well ks are None e = inl (linked_of bare files ks, whole ks well are e refl)
    by_kept well ks are (Some f) e = let t = subst IsTold e (told_kept (length files) (sections bare files) ks) in inr (f, t.0, kept_faulty ks well are e, t.1)

    by_text : (o : Option LinkFault) → text_fault bare (sections bare files) ≡ o → IsLinkedOrTold bare files
    by_text (Some f) e = let t = subst IsTold e (told_text bare (sections bare files)) in inr (f, t.0, faulty e, t.1)
    by_text None e = let k = some_kept bare (sections bare files) in by_kept e k.0 k.1 (kept_fault (length files) (sections bare files) k.0) refl
