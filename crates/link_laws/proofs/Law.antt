-- What `link` answers, and the faults by themselves.
use Rattle.std.proofs.Common.{◌≡◌, ◌≤◌, ◌-◌, ◌^◌, ℕ, Bool, true, false, List, Option, Some, None, Result, length, refl, sym, ap, subst, ◌∙◌, ◌⊎◌, inl, inr, arith, if◌then◌else◌, ◌||◌}
use Rattle.std.specs.Prelude.{min, nat_lt, option_map}
use Rattle.std.specs.List.{list_any}
use Rattle.std.specs.Option.{option_or}
use Rattle.std.proofs.lemmas.Bool.{lt-ltb, ltb-true, ltb-false}
use Rattle.std.proofs.lemmas.Bool.Decides.{nat_tests}
use Rattle.vm_tree.specs.declared.program.File.{File}
use Rattle.vm_link.specs.declared.fault.LinkFault.{LinkFault}
use Rattle.vm_link.specs.declared.fault.LinkFault.TheVariants.{NoFunction, TwiceDefined, NoLabel, LabelTwice, NoSysInit, TooManyStatics}
use Rattle.vm_link.specs.declared.linked.Linked.{Linked}
use Rattle.vm_link.specs.Sections.{Section, is_named, sections}
use Rattle.vm_link.specs.Faults.{first_of, first_repeat, kept_fault, label_twice as twice_in, names, no_function as calls_none, no_label as goes_none, no_start as starts_not, sys_init, text_fault, too_many as above, words_before}
use Rattle.vm_link.specs.Links as links
use Rattle.vm_link.specs.Links.{Links}
use Rattle.link_laws.specs.First.{NoneIs}
use Rattle.link_laws.specs.Linking.{HasFunction, HasLabelTwice, HaveWords, IsDefinedBefore, IsFine, IsFineKept, KeptFault, LacksFunction, LacksLabel, Linking, LinkingLaw, TextFault, faulty, kept_faulty, label_twice, memory, no_function, no_label, no_start, too_many, twice_defined, whole}
use Rattle.link_laws.proofs.First.{Repeated, false_true, none_repeated, repeated}
use Rattle.link_laws.proofs.Statics.{have_words, words_are}
use Rattle.link_laws.proofs.Told.{Gone, Marked, Unmet, defined, defined_is, found_there, gone, gone_is, gone_of, is_there, mark_is, marked, marked_of, no_gone, no_mark, no_unmet, none_defined, none_gone, none_marked, none_unmet, unmet, unmet_is, unmet_of}

not_above : (a n : ℕ) → n ≤ a → nat_lt a n ≡ false
not_above a n h = grind (arith, nat_tests)

no_fault : (o : Option LinkFault) (f : LinkFault) → o ≡ None → o ≡ Some f → ⊥
no_fault o f e g = cc

one_fault : (o : Option LinkFault) (f g : LinkFault) → o ≡ Some f → o ≡ Some g → f ≡ g
one_fault o f g e h = let k : Some f ≡ Some g = sym e ∙ h in cc

-- ---- the text

pub data TextIs (bare : Bool) (ss : List Section) : Option LinkFault → Type 0 where
  fine : IsFine bare ss → TextIs bare ss None
  wrong : {f : LinkFault} → TextFault bare ss f → TextIs bare ss (Some f)

module _ (bare : Bool) (ss : List Section) where
  started : NoneIs IsDefinedBefore ss → NoneIs HasLabelTwice ss → NoneIs LacksLabel ss → TextIs bare ss (starts_not bare ss)
  started d m g = by bare refl (list_any (is_named sys_init) ss) refl
    where
      by : (b : Bool) → bare ≡ b → (c : Bool) → list_any (is_named sys_init) ss ≡ c → TextIs bare ss (if b || c then None else Some NoSysInit)
      by true e c h = fine (record { functions = d; labels = m; targets = g; start = inl e })
      by false e true h = fine (record { functions = d; labels = m; targets = g; start = inr (is_there sys_init ss h) })
      by false e false h = wrong (no_start d m g e (λ k. false_true (list_any (is_named sys_init) ss) h (found_there sys_init ss k)))

  going : NoneIs IsDefinedBefore ss → NoneIs HasLabelTwice ss → (o : Option (List ℕ)) → Gone ss o → TextIs bare ss (option_or (option_map NoLabel o) (starts_not bare ss))
  going d m None (none_gone g) = started d m g
  going d m (Some n) (gone s x k f h e) = wrong (no_label s x n d m f h e)

  marking : NoneIs IsDefinedBefore ss → (o : Option (List ℕ)) → Marked ss o → TextIs bare ss (option_or (option_map LabelTwice o) (option_or (option_map NoLabel (first_of goes_none ss)) (starts_not bare ss)))
  marking d None (none_marked m) = going d m (first_of goes_none ss) (gone_of ss)
  marking d (Some n) (marked s x k f h e) = wrong (label_twice s x n d f h e)

  defining : (o : Option (List ℕ)) → Repeated (λ (s : Section). s.name) ss o
      → TextIs bare ss (option_or (option_map TwiceDefined o) (option_or (option_map LabelTwice (first_of twice_in ss)) (option_or (option_map NoLabel (first_of goes_none ss)) (starts_not bare ss))))
  defining None (none_repeated d) = marking d (first_of twice_in ss) (marked_of ss)
  defining (Some n) (repeated s k f e) = wrong (twice_defined s n f e)

  pub text_is : TextIs bare ss (text_fault bare ss)
  text_is = defining (first_repeat (names ss)) (defined ss)

  -- and nothing else
  last : Option LinkFault
  last = starts_not bare ss

  by_names : (o : Option (List ℕ)) → first_repeat (names ss) ≡ o → text_fault bare ss ≡ option_or (option_map TwiceDefined o) (option_or (option_map LabelTwice (first_of twice_in ss)) (option_or (option_map NoLabel (first_of goes_none ss)) (starts_not bare ss)))
  by_names o e = ap (λ (p : Option (List ℕ)). option_or (option_map TwiceDefined p) (option_or (option_map LabelTwice (first_of twice_in ss)) (option_or (option_map NoLabel (first_of goes_none ss)) (starts_not bare ss)))) e

  by_marks : NoneIs IsDefinedBefore ss → (o : Option (List ℕ)) → first_of twice_in ss ≡ o → text_fault bare ss ≡ option_or (option_map LabelTwice o) (option_or (option_map NoLabel (first_of goes_none ss)) (starts_not bare ss))
  by_marks d o e = by_names None (none_defined ss d) ∙ ap (λ (p : Option (List ℕ)). option_or (option_map LabelTwice p) (option_or (option_map NoLabel (first_of goes_none ss)) (starts_not bare ss))) e

  by_goes : NoneIs IsDefinedBefore ss → NoneIs HasLabelTwice ss → (o : Option (List ℕ)) → first_of goes_none ss ≡ o → text_fault bare ss ≡ option_or (option_map NoLabel o) (starts_not bare ss)
  by_goes d m o e = by_marks d None (no_mark ss m) ∙ ap (λ (p : Option (List ℕ)). option_or (option_map NoLabel p) (starts_not bare ss)) e

  by_start : NoneIs IsDefinedBefore ss → NoneIs HasLabelTwice ss → NoneIs LacksLabel ss → text_fault bare ss ≡ starts_not bare ss
  by_start d m g = by_goes d m None (no_gone ss g)

  starting : (b c : Bool) → bare ≡ b → list_any (is_named sys_init) ss ≡ c → starts_not bare ss ≡ (if b || c then None else Some NoSysInit)
  starting b c e h = ap (λ (x : Bool). if x || list_any (is_named sys_init) ss then None else Some NoSysInit) e ∙ ap (λ (x : Bool). if b || x then None else Some NoSysInit) h

  pub fault_is : (f : LinkFault) → TextFault bare ss f → text_fault bare ss ≡ Some f
  fault_is f (twice_defined s n h e) = by_names (Some n) (defined_is ss s n h e)
  fault_is f (label_twice s x n d h g e) = by_marks d (Some n) (mark_is ss s x n h g e)
  fault_is f (no_label s x n d m h g e) = by_goes d m (Some n) (gone_is ss s x n h g e)
  fault_is f (no_start d m g e never) = by_start d m g ∙ starting false false e (untrue (list_any (is_named sys_init) ss) (λ t. never (is_there sys_init ss t)))
    where
      untrue : (b : Bool) → (b ≡ true → ⊥) → b ≡ false
      untrue true h = absurd (h refl)
      untrue false h = refl

  pub fine_is : IsFine bare ss → text_fault bare ss ≡ None
  fine_is h = by_start h.functions h.labels h.targets ∙ by h.start
    where
      by : (bare ≡ true) ⊎ HasFunction ss sys_init → starts_not bare ss ≡ None
      by (inl e) = starting true (list_any (is_named sys_init) ss) e refl
      by (inr k) = starting bare true refl (found_there sys_init ss k) ∙ either bare
        where
          either : (b : Bool) → (if b || true then None else Some NoSysInit) ≡ None
          either true = refl
          either false = refl

-- ---- what is kept

pub data KeptIs (files : ℕ) (ss kept : List Section) : Option LinkFault → Type 0 where
  fine_kept : IsFineKept files ss kept → KeptIs files ss kept None
  wrong_kept : {f : LinkFault} → KeptFault files ss kept f → KeptIs files ss kept (Some f)

module _ (files : ℕ) (ss kept : List Section) where
  counting : NoneIs (LacksFunction ss) kept → KeptIs files ss kept (above (words_before kept files))
  counting none = by (nat_lt 240 (words_before kept files)) refl
    where
      by : (b : Bool) → nat_lt 240 (words_before kept files) ≡ b → KeptIs files ss kept (if b then Some (TooManyStatics (min (words_before kept files) (2 ^ 64 - 1))) else None)
      by true e = wrong_kept (too_many (words_before kept files) none (have_words kept files) (ltb-true 240 (words_before kept files) e))
      by false e = fine_kept (record { calls = none; words = words_before kept files; count = have_words kept files; few = ltb-false 240 (words_before kept files) e })

  calling : (o : Option (List ℕ)) → Unmet ss kept o → KeptIs files ss kept (option_or (option_map NoFunction o) (above (words_before kept files)))
  calling None (none_unmet none) = counting none
  calling (Some n) (unmet s x k f g e) = wrong_kept (no_function s x n f g e)

  pub kept_is : KeptIs files ss kept (kept_fault files ss kept)
  kept_is = calling (first_of (calls_none ss) kept) (unmet_of ss kept)

  by_calls : (o : Option (List ℕ)) → first_of (calls_none ss) kept ≡ o → kept_fault files ss kept ≡ option_or (option_map NoFunction o) (above (words_before kept files))
  by_calls o e = ap (λ (p : Option (List ℕ)). option_or (option_map NoFunction p) (above (words_before kept files))) e

  by_words : NoneIs (LacksFunction ss) kept → (n : ℕ) → HaveWords kept files n → kept_fault files ss kept ≡ above n
  by_words none n h = by_calls None (no_unmet ss kept none) ∙ ap above (sym (words_are kept files n h))

  pub kept_fault_is : (f : LinkFault) → KeptFault files ss kept f → kept_fault files ss kept ≡ Some f
  kept_fault_is f (no_function s x n h g e) = by_calls (Some n) (unmet_is ss kept s x n h g e)
  kept_fault_is f (too_many n none h more) = by_words none n h ∙ ap (λ (b : Bool). if b then Some (TooManyStatics (min n (2 ^ 64 - 1))) else None) (lt-ltb 240 n more)

  pub fine_kept_is : IsFineKept files ss kept → kept_fault files ss kept ≡ None
  fine_kept_is h = by_words h.calls h.words h.count ∙ ap (λ (b : Bool). if b then Some (TooManyStatics (min h.words (2 ^ 64 - 1))) else None) (not_above 240 h.words h.few)

-- ---- the law

module _ (bare : Bool) (files : List File) where
  all : List Section
  all = sections bare files

  is_fine : text_fault bare (sections bare files) ≡ None → IsFine bare (sections bare files)
  is_fine e = by (text_fault bare (sections bare files)) e (text_is bare (sections bare files))
    where
      by : (o : Option LinkFault) → o ≡ None → TextIs bare (sections bare files) o → IsFine bare (sections bare files)
      by None e (fine h) = h
      by (Some g) e (wrong h) = absurd cc

  is_wrong : (f : LinkFault) → text_fault bare (sections bare files) ≡ Some f → TextFault bare (sections bare files) f
  is_wrong f e = by (text_fault bare (sections bare files)) e (text_is bare (sections bare files))
    where
      by : (o : Option LinkFault) → o ≡ Some f → TextIs bare (sections bare files) o → TextFault bare (sections bare files) f
      by None e (fine h) = absurd cc
      by (Some g) e (wrong h) = subst (TextFault bare (sections bare files)) (one_fault (Some g) g f refl e) h

  is_fine_kept : (kept : List Section) → kept_fault (length files) (sections bare files) kept ≡ None → IsFineKept (length files) (sections bare files) kept
  is_fine_kept kept e = by (kept_fault (length files) (sections bare files) kept) e (kept_is (length files) (sections bare files) kept)
    where
      by : (o : Option LinkFault) → o ≡ None → KeptIs (length files) (sections bare files) kept o → IsFineKept (length files) (sections bare files) kept
      by None e (fine_kept h) = h
      by (Some g) e (wrong_kept h) = absurd cc

  is_wrong_kept : (kept : List Section) (f : LinkFault) → kept_fault (length files) (sections bare files) kept ≡ Some f → KeptFault (length files) (sections bare files) kept f
  is_wrong_kept kept f e = by (kept_fault (length files) (sections bare files) kept) e (kept_is (length files) (sections bare files) kept)
    where
      by : (o : Option LinkFault) → o ≡ Some f → KeptIs (length files) (sections bare files) kept o → KeptFault (length files) (sections bare files) kept f
      by None e (fine_kept h) = absurd cc
      by (Some g) e (wrong_kept h) = subst (KeptFault (length files) (sections bare files) kept) (one_fault (Some g) g f refl e) h

  there : (r : Result Linked LinkFault) → Linking bare files r → Links bare files r
  there r memory = links.memory
  there r (faulty {f = f} h) = links.faulty (fault_is bare (sections bare files) f h)
  there r (kept_faulty {f = f} kept h k g) = links.kept_faulty kept (fine_is bare (sections bare files) h) k (kept_fault_is (length files) (sections bare files) kept f g)
  there r (whole {l = l} kept h k g e) = links.whole kept (fine_is bare (sections bare files) h) k (fine_kept_is (length files) (sections bare files) kept g) e

  back : (r : Result Linked LinkFault) → Links bare files r → Linking bare files r
  back r links.memory = memory
  back r (links.faulty {f = f} e) = faulty (is_wrong f e)
  back r (links.kept_faulty {f = f} kept e k g) = kept_faulty kept (is_fine e) k (is_wrong_kept kept f g)
  back r (links.whole {l = l} kept e k g h) = whole kept (is_fine e) k (is_fine_kept kept g) h

pub law : LinkingLaw
law bare files r = (there bare files r, back bare files r)
