-- The search over abstract syntax finds the first of all faults.
use Rattle.std.proofs.Common.{◌≡◌, ◌<◌, ◌↔◌, inl, inr, ℕ, zero, suc, Bool, true, false, not, ◌==◌, if◌then◌else◌, List, [], ◌∷◌, map, Option, Some, None, length, slice_get, codes, refl, sym, ap, subst, ◌∙◌, arith, lit<}
use Rattle.std.specs.Bool.{Decides}
use Rattle.std.proofs.lemmas.Bool.Decides.{Decides-eqb, Decides-like, Decides-not, Decides-and}
use Rattle.std.specs.Str.{bytes_eq}
use Rattle.std.proofs.lemmas.Slice.Eq.{bytes_eq-Decides}
use Rattle.jack_tree.specs.Syntax as tree
use Rattle.jack_names.specs.Tables.{is_among}
use Rattle.jack_names.specs.Faults.{NameDiagnostic}
use Rattle.jack_names.specs.Faults.{kind_number}
use Rattle.jack_names.specs.Using.{find_named, members, inner, source, Use, Body, File, file, files, system_files, classes}
use Rattle.jack_names.specs.NameFaults.{IsTwice, names, told_at, no_main, class_of, IsThere, Shipped, Earlier as EarlierClass, OfVariables, OfSubroutines, Misdeclared, FileName, ClassTwice, MemberTwice, VariableTwice, Misused, HasMain, Spot, spot, IsUsed, Fails, InDeclaration, NoMain, InUse, IsWellNamed, UnknownVariable, UnknownClass, UnknownSubroutine, ArgumentCount, MethodByClass, FunctionByObject, ThisInFunction, FieldInFunction, OwnInFunction}
use Rattle.jack_names.specs.FaultOrder.{IsLess, stage, order, IsFirstFault}
use Rattle.jack_names.specs.declared.fault.NameKind.{NameKind}
use Rattle.jack_names.specs.declared.fault.NameKind.TheVariants as kinds
use Rattle.jack_names.proofs.Finding.{less_trans, Faults, Finds, FindsNone, FindsSome, Either, finds_either, Under, finds_under, Each, each_numbers, each_at, at_each, One, fails_if}
use Rattle.jack_names.proofs.Searched.{is_function, is_plain, main_of, has_main, all_faults}
use Rattle.jack_names.proofs.Searching.{PointF, BodyF, FileF, FilesF, finds_files, function_is}
use Rattle.jack_names.proofs.Repeated.{by_true, true_first, true_second, seen, seen_to, seen_back, seen_before, the_text, the_title, class_title, TwiceF, OneSubroutineF, SubroutinesF, TitleF, DeclarationF, DeclarationsF, finds_declarations}

module _ (own os : List tree.ClassFile) where
  -- Main.main
  MainIs : Option tree.ClassFile → Type 0
  MainIs o = (c : tree.ClassFile) × (s : tree.Subroutine) × (o ≡ Some c) × (find_named (λ (z : tree.Subroutine). z.name.text) (codes "main") c.class.subroutines ≡ Some s) × (s.form ≡ tree.Function) × (s.parameters ≡ [])

  none_there : (ps : List tree.Parameter) → Decides (length ps == 0) (ps ≡ [])
  none_there [] = (λ e. refl, λ e. refl)
  none_there (p ∷ ps) = (λ e. let q : length (p ∷ ps) ≡ 0 = (Decides-eqb (length (p ∷ ps)) 0).0 e in absurd (omega arith), λ e. absurd cc)

  plain_is : (o : Option tree.Subroutine) → Decides (is_plain own os o) ((s : tree.Subroutine) × (o ≡ Some s) × (s.form ≡ tree.Function) × (s.parameters ≡ []))
  plain_is None = (λ e. absurd cc, λ p. let e = p.1 in absurd cc)
  plain_is (Some s) =
      Decides-like (is_plain own os (Some s)) (λ p. (s, refl, p.0, p.1))
      (λ p. let e : s ≡ p.0 = cc in (ap (λ (z : tree.Subroutine). z.form) e ∙ p.2, ap (λ (z : tree.Subroutine). z.parameters) e ∙ p.3))
      (Decides-and (is_function s.form) (length s.parameters == 0) (function_is s.form) (none_there s.parameters))

  main_by : (o : Option tree.ClassFile) → class_of own os (codes "Main") ≡ o → Decides (is_plain own os (main_of own os o)) (HasMain own os)
  main_by None e = (λ q. absurd cc, λ m. let d = m.class_is in absurd cc)
  main_by (Some c) e =
      Decides-like (is_plain own os (main_of own os (Some c))) (λ p. record { class = c; main = p.0; class_is = e; main_is = p.1; form = p.2; parameters = p.3 })
      (λ m. let d = m.class_is in let q : m.class ≡ c = cc in
      (m.main, subst (λ (z : tree.ClassFile). find_named (λ (y : tree.Subroutine). y.name.text) (codes "main") z.class.subroutines ≡ Some m.main) q m.main_is, m.form, m.parameters))
      (plain_is (main_of own os (Some c)))

  main_is : Decides (has_main own os) (HasMain own os)
  main_is = main_by (class_of own os (codes "Main")) refl

  abbrev MainF : Faults
  MainF k t = (k ≡ 1 ∷ 0 ∷ 0 ∷ 0 ∷ 0 ∷ 14 ∷ 0 ∷ []) × (t ≡ no_main) × (¬ (HasMain own os))

  finds_main_by : (b : Bool) → Decides b (¬ (HasMain own os)) → Finds MainF (fails_if b no_main)
  finds_main_by true d = FindsSome (1 ∷ 0 ∷ 0 ∷ 0 ∷ 0 ∷ 14 ∷ 0 ∷ []) (refl, refl, d.0 refl) (λ k t x. inl x.1)
  finds_main_by false d = FindsNone (λ k t x. let e : false ≡ true = d.1 x.2 in absurd cc)

  under_less : (F G : Faults) (n m : ℕ) → n < m → (k k' : List ℕ) (t t' : NameDiagnostic) → Under n F k t → Under m G k' t' → IsLess k k'
  under_less F G n m l [] k' t t' x y = absurd x
  under_less F G n m l (a ∷ k) [] t t' x y = absurd y
  under_less F G n m l (a ∷ k) (b ∷ k') t t' x y = let e = x.0 in let f = y.0 in inl (omega arith)

  main_less : (F : Faults) (k k' : List ℕ) (t t' : NameDiagnostic) → MainF k t → Under 2 F k' t' → IsLess k k'
  main_less F k [] t t' x y = absurd y
  main_less F k (b ∷ k') t t' x y = let f = y.0 in subst (λ (l : List ℕ). IsLess l (b ∷ k')) (sym x.0) (inl (omega arith))

  before_rest : (F G : Faults) (k k' : List ℕ) (t t' : NameDiagnostic) → Under 0 F k t → Either MainF (Under 2 G) k' t' → IsLess k k'
  before_rest F G [] k' t t' x y = absurd x
  before_rest F G (a ∷ k) k' t t' x (inl y) = let e = x.0 in subst (λ (l : List ℕ). IsLess (a ∷ k) l) (sym y.0) (inl (omega arith))
  before_rest F G (a ∷ k) k' t t' x (inr y) = under_less F G 0 2 (lit< tt) (a ∷ k) k' t t' x y

  abbrev DeclaredF : Faults
  DeclaredF = Either (Under 0 (DeclarationsF false (map class_title os) own)) (Under 1 (DeclarationsF true [] os))

  abbrev UsedF : Faults
  UsedF = Either (Under 0 (FilesF own os (map (file false) own))) (Under 1 (FilesF own os (system_files os)))

  abbrev AllF : Faults
  AllF = Either (Under 0 DeclaredF) (Either MainF (Under 2 UsedF))

  pub finds_all_faults : Finds AllF (all_faults own os)
  finds_all_faults =
      finds_either
      (finds_under 0 (finds_either (finds_under 0 (finds_declarations false (map class_title os) own)) (finds_under 1 (finds_declarations true [] os)) (under_less (DeclarationsF false (map class_title os) own) (DeclarationsF true [] os) 0 1 (lit< tt))))
      (finds_either (finds_main_by (not (has_main own os)) (Decides-not (has_main own os) main_is))
      (finds_under 2 (finds_either (finds_under 0 (finds_files own os (map (file false) own))) (finds_under 1 (finds_files own os (system_files os))) (under_less (FilesF own os (map (file false) own)) (FilesF own os (system_files os)) 0 1 (lit< tt)))) (main_less UsedF))
      (before_rest DeclaredF UsedF)

  -- each of them fails at a spot, which gives its order
  abbrev Told_at : List ℕ → NameDiagnostic → Type 0
  Told_at k t = (at : Spot) × (k ≡ order at t) × Fails own os at t

  -- a fault of a declaration, with its order in the file
  abbrev Wrong : Bool → ℕ → tree.ClassFile → List ℕ → NameDiagnostic → Type 0
  Wrong shipped i c k t = (part : ℕ) × (j : ℕ) × (kind : NameKind) × (x : tree.Name) × (k ≡ part ∷ j ∷ kind_number kind ∷ 0 ∷ []) × (t ≡ told_at (source shipped c) kind x) × Misdeclared own os shipped i c part j kind x

  -- what stands among the names before
  twice_is : (xs : List tree.Name) (j : ℕ) (x : tree.Name) → slice_get xs j ≡ Some x → is_among x.text (seen the_text [] xs j) ≡ true → IsTwice xs j x
  twice_is xs j x e h = elim (seen_to the_text [] xs j x.text h) [ inl f ↦ absurd cc | inr p ↦ record { here = e; before = p } ]

  title_twice : (ss : List tree.Subroutine) (n : ℕ) (s : tree.Subroutine) → slice_get ss n ≡ Some s → is_among s.name.text (seen the_title [] ss n) ≡ true → IsTwice (map (λ z. z.name) ss) n s.name
  title_twice ss n s e h =
      elim (seen_to the_title [] ss n s.name.text h) [
        | inl f ↦ absurd cc
        | inr p ↦ record { here = got ss n s e; before = (p.0, p.1.name, p.2, got ss p.0 p.1 p.3, p.4) }
      ]
    where
      got : (zs : List tree.Subroutine) (m : ℕ) (z : tree.Subroutine) → slice_get zs m ≡ Some z → slice_get (map (λ y. y.name) zs) m ≡ Some z.name
      got [] m z q = absurd cc
      got (y ∷ zs) zero z q = let r : y ≡ z = cc in ap (λ (w : tree.Subroutine). Some w.name) r
      got (y ∷ zs) (suc m) z q = got zs m z q

  pub got_back : (zs : List tree.Subroutine) (m : ℕ) (x : tree.Name) → slice_get (map (λ y. y.name) zs) m ≡ Some x → (z : tree.Subroutine) × (slice_get zs m ≡ Some z) × (z.name ≡ x)
  got_back [] m x q = absurd cc
  got_back (y ∷ zs) zero x q = (y, refl, (let r : y.name ≡ x = cc in r))
  got_back (y ∷ zs) (suc m) x q = got_back zs m x q

  wrong_twice : (shipped : Bool) (i : ℕ) (c : tree.ClassFile) (k : List ℕ) (t : NameDiagnostic) → TwiceF (source shipped c) kinds.MemberTwice [] (names (members c.class.variables)) k t → Wrong shipped i c (1 ∷ k) t
  wrong_twice shipped i c [] t h = absurd (each_numbers (λ j x. One kinds.MemberTwice 0 (told_at (source shipped c) kinds.MemberTwice x) (is_among x.text (seen the_text [] (names (members c.class.variables)) j) ≡ true)) (names (members c.class.variables)) t h)
  wrong_twice shipped i c (j ∷ k) t h =
      let xs : List tree.Name = names (members c.class.variables) in
      let p = each_at (λ j x. One kinds.MemberTwice 0 (told_at (source shipped c) kinds.MemberTwice x) (is_among x.text (seen the_text [] xs j) ≡ true)) xs j k t h in
      (1, j, kinds.MemberTwice, p.0, ap (λ (l : List ℕ). 1 ∷ j ∷ l) p.2.0, p.2.1, MemberTwice (OfVariables (twice_is xs j p.0 p.1 p.2.2)))

  wrong_variables : (shipped : Bool) (i : ℕ) (c : tree.ClassFile) (n : ℕ) (s : tree.Subroutine) → slice_get c.class.subroutines n ≡ Some s → (k : List ℕ) (t : NameDiagnostic)
      → OneSubroutineF (source shipped c) (seen the_title [] c.class.subroutines n) s k t → Wrong shipped i c (suc (suc n) ∷ k) t
  wrong_variables shipped i c n s e [] t h = absurd h
  wrong_variables shipped i c n s e (zero ∷ k) t h =
      (suc (suc n), 0, kinds.MemberTwice, s.name, ap (λ (l : List ℕ). suc (suc n) ∷ 0 ∷ l) h.0, h.1, MemberTwice (OfSubroutines (title_twice c.class.subroutines n s e h.2)))
  wrong_variables shipped i c n s e (suc j ∷ k) t h =
      let xs : List tree.Name = names (inner s) in
      let p = each_at (λ j x. One kinds.VariableTwice 0 (told_at (source shipped c) kinds.VariableTwice x) (is_among x.text (seen the_text [] xs j) ≡ true)) xs j k t h in
      (suc (suc n), suc j, kinds.VariableTwice, p.0, ap (λ (l : List ℕ). suc (suc n) ∷ suc j ∷ l) p.2.0, p.2.1, VariableTwice e (twice_is xs j p.0 p.1 p.2.2))

  wrong_subroutines : (shipped : Bool) (i : ℕ) (c : tree.ClassFile) (n : ℕ) (k : List ℕ) (t : NameDiagnostic) → SubroutinesF (source shipped c) [] c.class.subroutines (n ∷ k) t → Wrong shipped i c (suc (suc n) ∷ k) t
  wrong_subroutines shipped i c n k t h =
      let p = each_at (λ n s. OneSubroutineF (source shipped c) (seen the_title [] c.class.subroutines n) s) c.class.subroutines n k t h in
      wrong_variables shipped i c n p.0 p.1 k t p.2

  wrong_title : (shipped : Bool) (i : ℕ) (c : tree.ClassFile) (there : List (List ℕ)) → (is_among c.class.name.text there ≡ true → (d : tree.ClassFile) × IsThere own os shipped i d × (d.class.name.text ≡ c.class.name.text))
      → (k : List ℕ) (t : NameDiagnostic) → TitleF shipped there c k t → Wrong shipped i c (0 ∷ 0 ∷ k) t
  wrong_title shipped i c there h k t (inl x) = (0, 0, kinds.FileName, c.class.name, ap (λ (l : List ℕ). 0 ∷ 0 ∷ l) x.0, x.1, FileName x.2)
  wrong_title shipped i c there h k t (inr x) = let p = h x.2 in (0, 0, kinds.ClassTwice, c.class.name, ap (λ (l : List ℕ). 0 ∷ 0 ∷ l) x.0, x.1, ClassTwice p.1 p.2)

  wrong_at : (shipped : Bool) (i : ℕ) (c : tree.ClassFile) (there : List (List ℕ)) → (is_among c.class.name.text there ≡ true → (d : tree.ClassFile) × IsThere own os shipped i d × (d.class.name.text ≡ c.class.name.text))
      → (k : List ℕ) (t : NameDiagnostic) → DeclarationF shipped there c k t → Wrong shipped i c k t
  wrong_at shipped i c there h [] t x = absurd x
  wrong_at shipped i c there h (zero ∷ []) t x = absurd x
  wrong_at shipped i c there h (zero ∷ m ∷ k) t x = subst (λ (z : ℕ). Wrong shipped i c (0 ∷ z ∷ k) t) (sym x.0) (wrong_title shipped i c there h k t x.1)
  wrong_at shipped i c there h (suc zero ∷ k) t x = wrong_twice shipped i c k t x
  wrong_at shipped i c there h (suc (suc n) ∷ k) t x = wrong_subroutines shipped i c n k t x

  title_seen : (ss : List tree.Subroutine) (n : ℕ) (z : tree.Subroutine) (x : tree.Name) → z.name ≡ x → IsTwice (map (λ y. y.name) ss) n x → is_among z.name.text (seen the_title [] ss n) ≡ true
  title_seen ss n z x q w =
      let b = w.before in
      let g = got_back ss b.0 b.1 b.3 in
      seen_back the_title [] ss n z.name.text (b.0, g.0, b.2, g.1, ap the_text g.2 ∙ b.4 ∙ sym (ap the_text q))

  TitleThere : Bool → ℕ → tree.ClassFile → List (List ℕ) → Type 0
  TitleThere shipped i c there = (d : tree.ClassFile) → IsThere own os shipped i d → d.class.name.text ≡ c.class.name.text → is_among c.class.name.text there ≡ true

  right_back : (shipped : Bool) (i : ℕ) (c : tree.ClassFile) (there : List (List ℕ)) → TitleThere shipped i c there
      → (part j : ℕ) (kind : NameKind) (x : tree.Name) → Misdeclared own os shipped i c part j kind x → DeclarationF shipped there c (part ∷ j ∷ kind_number kind ∷ 0 ∷ []) (told_at (source shipped c) kind x)
  unfolding TitleThere
  right_back shipped i c there h _ _ _ _ (FileName never) = (refl, inl (refl, refl, never))
  right_back shipped i c there h _ _ _ _ (ClassTwice {d} e q) = (refl, inr (refl, refl, h d e q))
  right_back shipped i c there h _ j _ x (MemberTwice (OfVariables w)) =
      let xs : List tree.Name = names (members c.class.variables) in
      at_each (λ j x. One kinds.MemberTwice 0 (told_at (source shipped c) kinds.MemberTwice x) (is_among x.text (seen the_text [] xs j) ≡ true)) xs j x (3 ∷ 0 ∷ [])
      (told_at (source shipped c) kinds.MemberTwice x) w.here (refl, refl, seen_back the_text [] xs j x.text w.before)
  right_back shipped i c there h _ _ _ x (MemberTwice (OfSubroutines {n} w)) =
      let ss : List tree.Subroutine = c.class.subroutines in
      let g = got_back ss n x w.here in
      at_each (λ n s. OneSubroutineF (source shipped c) (seen the_title [] ss n) s) ss n g.0 (0 ∷ 3 ∷ 0 ∷ []) (told_at (source shipped c) kinds.MemberTwice x) g.1
      (refl, ap (told_at (source shipped c) kinds.MemberTwice) (sym g.2), title_seen ss n g.0 x g.2 w)
  right_back shipped i c there h _ _ _ x (VariableTwice {n} {j} {s} e w) =
      let ss : List tree.Subroutine = c.class.subroutines in
      let xs : List tree.Name = names (inner s) in
      at_each (λ n s. OneSubroutineF (source shipped c) (seen the_title [] ss n) s) ss n s (suc j ∷ 4 ∷ 0 ∷ []) (told_at (source shipped c) kinds.VariableTwice x) e
      (at_each (λ j x. One kinds.VariableTwice 0 (told_at (source shipped c) kinds.VariableTwice x) (is_among x.text (seen the_text [] xs j) ≡ true)) xs j x (4 ∷ 0 ∷ [])
      (told_at (source shipped c) kinds.VariableTwice x) w.here (refl, refl, seen_back the_text [] xs j x.text w.before))

  -- the classes that are there
  among_os : (z : List ℕ) (cs : List tree.ClassFile) → is_among z (map class_title cs) ≡ true → (k : ℕ) × (d : tree.ClassFile) × (slice_get cs k ≡ Some d) × (d.class.name.text ≡ z)
  among_os z [] h = absurd cc
  among_os z (c ∷ cs) h =
      elim (by_true (bytes_eq z c.class.name.text) (is_among z (map class_title cs)) h) [
        | inl e ↦ (0, c, refl, sym ((bytes_eq-Decides z c.class.name.text).0 e))
        | inr e ↦ let p = among_os z cs e in (suc p.0, p.1, p.2, p.3)
      ]

  os_among : (z : List ℕ) (cs : List tree.ClassFile) (k : ℕ) (d : tree.ClassFile) → slice_get cs k ≡ Some d → d.class.name.text ≡ z → is_among z (map class_title cs) ≡ true
  os_among z [] k d e q = absurd cc
  os_among z (c ∷ cs) zero d e q =
      let r : c ≡ d = cc in true_first (bytes_eq z c.class.name.text) (is_among z (map class_title cs)) ((bytes_eq-Decides z c.class.name.text).1 (sym q ∙ ap class_title (sym r)))
  os_among z (c ∷ cs) (suc k) d e q = true_second (bytes_eq z c.class.name.text) (is_among z (map class_title cs)) (os_among z cs k d e q)

  abbrev there_of : Bool → List (List ℕ)
  there_of false = map class_title os
  there_of true = []

  is_there : (shipped : Bool) (i : ℕ) (z : List ℕ) → is_among z (seen class_title (there_of shipped) (classes own os shipped) i) ≡ true → (d : tree.ClassFile) × IsThere own os shipped i d × (d.class.name.text ≡ z)
  is_there false i z h =
      elim (seen_to class_title (map class_title os) own i z h) [
        | inl e ↦ let p = among_os z os e in (p.1, Shipped p.0 p.2, p.3)
        | inr p ↦ (p.1, EarlierClass p.0 p.2 p.3, p.4)
      ]
  is_there true i z h = elim (seen_to class_title [] os i z h) [ inl e ↦ absurd cc | inr p ↦ (p.1, EarlierClass p.0 p.2 p.3, p.4) ]

  there_is : (shipped : Bool) (i : ℕ) (z : List ℕ) (d : tree.ClassFile) → IsThere own os shipped i d → d.class.name.text ≡ z → is_among z (seen class_title (there_of shipped) (classes own os shipped) i) ≡ true
  there_is _ i z d (Shipped k e) q = seen_before class_title (map class_title os) own i z (os_among z os k d e q)
  there_is shipped i z d (EarlierClass k l e) q = seen_back class_title (there_of shipped) (classes own os shipped) i z (k, d, l, e, q)

  each_any : {A : Type 0} (F : ℕ → A → List ℕ → NameDiagnostic → Type 0) (xs : List A) (k : List ℕ) (t : NameDiagnostic) → Each F xs k t → (i : ℕ) × (x : A) × (r : List ℕ) × (k ≡ i ∷ r) × (slice_get xs i ≡ Some x) × F i x r t
  each_any F xs [] t h = absurd (each_numbers F xs t h)
  each_any F xs (i ∷ r) t h = let p = each_at F xs i r t h in (i, p.0, r, refl, p.1, p.2)

  pub stage_declared : (shipped : Bool) (i : ℕ) (c : tree.ClassFile) (part j : ℕ) (kind : NameKind) (x : tree.Name) → Misdeclared own os shipped i c part j kind x → stage kind ≡ 0
  stage_declared shipped i c _ _ _ _ (FileName e) = refl
  stage_declared shipped i c _ _ _ _ (ClassTwice e q) = refl
  stage_declared shipped i c _ _ _ _ (MemberTwice e) = refl
  stage_declared shipped i c _ _ _ _ (VariableTwice e q) = refl

  pub stage_used : (b : Body) (u : Use) (k : ℕ) (kind : NameKind) (x : tree.Name) → Misused own os b u k kind x → stage kind ≡ 2
  stage_used b _ _ _ _ (UnknownVariable e) = refl
  stage_used b _ _ _ _ (UnknownClass e) = refl
  stage_used b _ _ _ _ (UnknownSubroutine e f) = refl
  stage_used b _ _ _ _ (ArgumentCount e f g) = refl
  stage_used b _ _ _ _ (MethodByClass e f g h) = refl
  stage_used b _ _ _ _ (FunctionByObject e f g h) = refl
  stage_used b _ _ _ _ (ThisInFunction e) = refl
  stage_used b _ _ _ _ (FieldInFunction e f g h) = refl
  stage_used b _ _ _ _ (OwnInFunction e) = refl

  abbrev shipped_number : Bool → ℕ
  shipped_number shipped = if shipped then 1 else 0

  declared_at : (shipped : Bool) (i part j : ℕ) (c : tree.ClassFile) (kind : NameKind) (x : tree.Name) (k : List ℕ) (t : NameDiagnostic) → slice_get (classes own os shipped) i ≡ Some c → Misdeclared own os shipped i c part j kind x
      → k ≡ i ∷ part ∷ j ∷ kind_number kind ∷ 0 ∷ [] → t ≡ told_at (source shipped c) kind x → Told_at (0 ∷ shipped_number shipped ∷ k) t
  declared_at shipped i part j c kind x k t e m ek et =
      let s : ℕ = shipped_number shipped in
      let told : NameDiagnostic = told_at (source shipped c) kind x in
      let exact : Told_at (0 ∷ s ∷ i ∷ part ∷ j ∷ kind_number kind ∷ 0 ∷ []) told =
      (spot shipped i part j 0, ap (λ (z : ℕ). z ∷ s ∷ i ∷ part ∷ j ∷ kind_number kind ∷ 0 ∷ []) (sym (stage_declared shipped i c part j kind x m)), InDeclaration e m) in
      subst (λ (l : List ℕ). Told_at (0 ∷ s ∷ l) t) (sym ek) (subst (λ (w : NameDiagnostic). Told_at (0 ∷ s ∷ i ∷ part ∷ j ∷ kind_number kind ∷ 0 ∷ []) w) (sym et) exact)

  used_at : (shipped : Bool) (i part j call : ℕ) (f : File) (b : Body) (u : Use) (kind : NameKind) (x : tree.Name) (k : List ℕ) (t : NameDiagnostic) → IsUsed own os shipped i part j f b u → Misused own os b u call kind x
      → k ≡ i ∷ part ∷ j ∷ kind_number kind ∷ call ∷ [] → t ≡ told_at f.source kind x → Told_at (2 ∷ shipped_number shipped ∷ k) t
  used_at shipped i part j call f b u kind x k t e m ek et =
      let s : ℕ = shipped_number shipped in
      let told : NameDiagnostic = told_at f.source kind x in
      let exact : Told_at (2 ∷ s ∷ i ∷ part ∷ j ∷ kind_number kind ∷ call ∷ []) told =
      (spot shipped i part j call, ap (λ (z : ℕ). z ∷ s ∷ i ∷ part ∷ j ∷ kind_number kind ∷ call ∷ []) (sym (stage_used b u call kind x m)), InUse e m) in
      subst (λ (l : List ℕ). Told_at (2 ∷ s ∷ l) t) (sym ek) (subst (λ (w : NameDiagnostic). Told_at (2 ∷ s ∷ i ∷ part ∷ j ∷ kind_number kind ∷ call ∷ []) w) (sym et) exact)

  declared_to : (shipped : Bool) (k : List ℕ) (t : NameDiagnostic) → DeclarationsF shipped (there_of shipped) (classes own os shipped) k t → Told_at (0 ∷ shipped_number shipped ∷ k) t
  declared_to shipped k t h =
      let cs : List tree.ClassFile = classes own os shipped in
      let p = each_any (λ i c. DeclarationF shipped (seen class_title (there_of shipped) cs i) c) cs k t h in
      let w = wrong_at shipped p.0 p.1 (seen class_title (there_of shipped) cs p.0) (λ e. is_there shipped p.0 p.1.class.name.text e) p.2 t p.5 in
      declared_at shipped p.0 w.0 w.1 p.1 w.2 w.3 k t p.4 w.6 (p.3 ∙ ap (λ (l : List ℕ). p.0 ∷ l) w.4) w.5

  declared_back : (shipped : Bool) (i part j : ℕ) (c : tree.ClassFile) (kind : NameKind) (x : tree.Name) → slice_get (classes own os shipped) i ≡ Some c → Misdeclared own os shipped i c part j kind x
      → DeclarationsF shipped (there_of shipped) (classes own os shipped) (i ∷ part ∷ j ∷ kind_number kind ∷ 0 ∷ []) (told_at (source shipped c) kind x)
  declared_back shipped i part j c kind x e m =
      let cs : List tree.ClassFile = classes own os shipped in
      at_each (λ i c. DeclarationF shipped (seen class_title (there_of shipped) cs i) c) cs i c (part ∷ j ∷ kind_number kind ∷ 0 ∷ []) (told_at (source shipped c) kind x) e
      (right_back shipped i c (seen class_title (there_of shipped) cs i) (unfold TitleThere in λ d r q. there_is shipped i c.class.name.text d r q) part j kind x m)

  used_to : (shipped : Bool) (k : List ℕ) (t : NameDiagnostic) → FilesF own os (files own os shipped) k t → Told_at (2 ∷ shipped_number shipped ∷ k) t
  used_to shipped k t h =
      let p = each_any (λ i f. FileF own os f) (files own os shipped) k t h in
      let q = each_any (λ n b. BodyF own os p.1.source b) p.1.bodies p.2 t p.5 in
      let r = each_any (λ j u. PointF own os p.1.source q.1 u) q.1.uses q.2 t q.5 in
      let o = r.5 in
      used_at shipped p.0 q.0 r.0 o.1 p.1 q.1 r.1 o.0 o.2 k t (record { file = p.4; body = q.4; name = r.4 }) o.5
      (p.3 ∙ ap (λ (l : List ℕ). p.0 ∷ l) q.3 ∙ ap (λ (l : List ℕ). p.0 ∷ q.0 ∷ l) r.3 ∙ ap (λ (l : List ℕ). p.0 ∷ q.0 ∷ r.0 ∷ l) o.3) o.4

  pub used_back : (shipped : Bool) (i part j call : ℕ) (f : File) (b : Body) (u : Use) (kind : NameKind) (x : tree.Name) → IsUsed own os shipped i part j f b u → Misused own os b u call kind x
      → FilesF own os (files own os shipped) (i ∷ part ∷ j ∷ kind_number kind ∷ call ∷ []) (told_at f.source kind x)
  used_back shipped i part j call f b u kind x e m =
      at_each (λ i f. FileF own os f) (files own os shipped) i f (part ∷ j ∷ kind_number kind ∷ call ∷ []) (told_at f.source kind x) e.file
      (at_each (λ n b. BodyF own os f.source b) f.bodies part b (j ∷ kind_number kind ∷ call ∷ []) (told_at f.source kind x) e.body
      (at_each (λ j u. PointF own os f.source b u) b.uses j u (kind_number kind ∷ call ∷ []) (told_at f.source kind x) e.name (kind, call, x, refl, refl, m)))

  under_to : (F : Faults) (n : ℕ) (k : List ℕ) (t : NameDiagnostic) → Under n F k t → (r : List ℕ) × (k ≡ n ∷ r) × F r t
  under_to F n [] t x = absurd x
  under_to F n (m ∷ r) t x = (r, ap (λ (z : ℕ). z ∷ r) x.0, x.1)

  declarations_to : (k : List ℕ) (t : NameDiagnostic) → DeclaredF k t → Told_at (0 ∷ k) t
  declarations_to k t (inl x) =
      let p = under_to (DeclarationsF false (map class_title os) own) 0 k t x in subst (λ (l : List ℕ). Told_at (0 ∷ l) t) (sym p.1) (declared_to false p.0 t p.2)
  declarations_to k t (inr x) =
      let p = under_to (DeclarationsF true [] os) 1 k t x in subst (λ (l : List ℕ). Told_at (0 ∷ l) t) (sym p.1) (declared_to true p.0 t p.2)

  uses_to : (k : List ℕ) (t : NameDiagnostic) → UsedF k t → Told_at (2 ∷ k) t
  uses_to k t (inl x) =
      let p = under_to (FilesF own os (map (file false) own)) 0 k t x in subst (λ (l : List ℕ). Told_at (2 ∷ l) t) (sym p.1) (used_to false p.0 t p.2)
  uses_to k t (inr x) =
      let p = under_to (FilesF own os (system_files os)) 1 k t x in subst (λ (l : List ℕ). Told_at (2 ∷ l) t) (sym p.1) (used_to true p.0 t p.2)

  all_to : (k : List ℕ) (t : NameDiagnostic) → AllF k t → Told_at k t
  all_to k t (inl x) = let p = under_to DeclaredF 0 k t x in subst (λ (l : List ℕ). Told_at l t) (sym p.1) (declarations_to p.0 t p.2)
  all_to k t (inr (inl x)) =
      subst (λ (l : List ℕ). Told_at l t) (sym x.0) (subst (λ (w : NameDiagnostic). Told_at (1 ∷ 0 ∷ 0 ∷ 0 ∷ 0 ∷ 14 ∷ 0 ∷ []) w) (sym x.1) (spot false 0 0 0 0, refl, NoMain x.2))
  all_to k t (inr (inr x)) = let p = under_to UsedF 2 k t x in subst (λ (l : List ℕ). Told_at l t) (sym p.1) (uses_to p.0 t p.2)

  all_back : (at : Spot) (t : NameDiagnostic) → Fails own os at t → AllF (order at t) t
  all_back _ _ (InDeclaration {shipped = false} {i} {part} {j} {c} {kind} {x} e m) = inl (stage_declared false i c part j kind x m, inl (refl, declared_back false i part j c kind x e m))
  all_back _ _ (InDeclaration {shipped = true} {i} {part} {j} {c} {kind} {x} e m) = inl (stage_declared true i c part j kind x m, inr (refl, declared_back true i part j c kind x e m))
  all_back _ _ (NoMain never) = inr (inl (refl, refl, never))
  all_back _ _ (InUse {shipped = false} {i} {part} {j} {k} {f} {b} {u} {kind} {x} e m) = inr (inr (stage_used b u k kind x m, inl (refl, used_back false i part j k f b u kind x e m)))
  all_back _ _ (InUse {shipped = true} {i} {part} {j} {k} {f} {b} {u} {kind} {x} e m) = inr (inr (stage_used b u k kind x m, inr (refl, used_back true i part j k f b u kind x e m)))

  -- what is found, of a program
  abbrev Answer : Option NameDiagnostic → Type 0
  Answer None = IsWellNamed own os
  Answer (Some t) = IsFirstFault own os t

  answers : {o : Option NameDiagnostic} → Finds AllF o → Answer o
  answers (FindsNone h) = λ at t f. h (order at t) t (all_back at t f)
  answers (FindsSome {t} k x first) =
      let p = all_to k t x in
      record { at = p.0; fails = p.2; first = λ at' t' f. elim (first (order at' t') t' (all_back at' t' f)) [ inl e ↦ inl e | inr l ↦ inr (subst (λ (z : List ℕ). IsLess z (order at' t')) p.1 l) ] }

  answer : Answer (all_faults own os)
  answer = answers finds_all_faults

  pub never_less : (k : List ℕ) → IsLess k k → ⊥
  never_less [] h = h
  never_less (n ∷ k) (inl h) = omega arith
  never_less (n ∷ k) (inr h) = never_less k h.1

  one_first : (t t' : NameDiagnostic) → IsFirstFault own os t → IsFirstFault own os t' → t' ≡ t
  one_first t t' f g =
      elim (f.first g.at t' g.fails) [
        | inl e ↦ e
        | inr l ↦ elim (g.first f.at t f.fails) [ inl e ↦ sym e | inr m ↦ absurd (never_less (order f.at t) (less_trans (order f.at t) (order g.at t') (order f.at t) l m)) ]
      ]

  first_by : (o : Option NameDiagnostic) → Answer o → (t : NameDiagnostic) → (o ≡ Some t) ↔ IsFirstFault own os t
  first_by None h t = (λ e. absurd cc, λ f. absurd (h f.at t f.fails))
  first_by (Some s) h t = (λ e. let q : s ≡ t = cc in subst (IsFirstFault own os) q h, λ f. ap (λ (z : NameDiagnostic). Some z) (one_first t s f h))

  none_by : (o : Option NameDiagnostic) → Answer o → (o ≡ None) ↔ IsWellNamed own os
  none_by None h = (λ e. h, λ w. refl)
  none_by (Some s) h = (λ e. absurd cc, λ w. absurd (w h.at s h.fails))

  pub finds_first : (t : NameDiagnostic) → (all_faults own os ≡ Some t) ↔ IsFirstFault own os t
  finds_first t = first_by (all_faults own os) answer t

  pub finds_none : (all_faults own os ≡ None) ↔ IsWellNamed own os
  finds_none = none_by (all_faults own os) answer
