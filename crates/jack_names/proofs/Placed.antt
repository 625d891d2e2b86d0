-- Where places rise in the text, the order of faults is that of their places.
use Rattle.std.proofs.Common.{◌≡◌, ◌∙◌, ◌++◌, inl, inr, ℕ, zero, suc, Bool, true, false, List, [], ◌∷◌, Option, Some, slice_get, if◌then◌else◌, refl, sym, ap, subst, arith}
use Rattle.scan_text.specs.declared.Place.{Place}
use Rattle.jack_tree.specs.Syntax as tree
use Rattle.jack_names.specs.Faults.{NameDiagnostic}
use Rattle.jack_names.specs.Faults.{kind_number}
use Rattle.jack_names.specs.Using.{members, inner, Made, filled_parts, made_calls, Use, OfVariable, OfFront, OfCall, OfThis, OfString, OfMade, Body, File, source, files, classes}
use Rattle.jack_names.specs.NameFaults.{OfVariables, OfSubroutines, Misdeclared, FileName, ClassTwice, MemberTwice, VariableTwice, Target, Calls, Written, ByItself, Front, Lacking, Alone, BeforeDot, Misused, UnknownVariable, UnknownClass, UnknownSubroutine, ArgumentCount, MethodByClass, FunctionByObject, ThisInFunction, FieldInFunction, OwnInFunction, names, told_at, Spot, spot, IsUsed, Fails, InDeclaration, NoMain, InUse}
use Rattle.jack_names.specs.FaultOrder.{IsLess, stage, order, Declares, Itself, AVariable, ASubroutine, AnInner, use_place, Uses, AUse, IsEarlier, Rise, PlacesRise, stands, place_order, IsFirstFault, IsFirstByPlace}
use Rattle.jack_names.specs.declared.fault.NameKind.{NameKind}
use Rattle.jack_names.proofs.Found.{got_back, never_less, stage_declared, stage_used}

abbrev folder_number : Bool → ℕ
folder_number shipped = if shipped then 1 else 0

same_some : {A : Type 0} (o : Option A) (a b : A) → o ≡ Some a → o ≡ Some b → a ≡ b
same_some o a b e f = cc

-- one place stands at a part and number
one_place : (c : tree.Class) (i j : ℕ) (p q : Place) → Declares c i j p → Declares c i j q → p ≡ q
one_place c _ _ _ _ Itself Itself = refl
one_place c _ _ _ _ (AVariable {j} {x} e) (AVariable {x = y} f) = ap (λ (z : tree.Name). z.place) (same_some (slice_get (names (members c.variables)) j) x y e f)
one_place c _ _ _ _ (ASubroutine {n} {s} e) (ASubroutine {s = t} f) = ap (λ (z : tree.Subroutine). z.name.place) (same_some (slice_get c.subroutines n) s t e f)
one_place c _ _ _ _ (AnInner {n} {j} {s} {x} e f) (AnInner {s = t} {x = y} g h) =
    let q : t ≡ s = same_some (slice_get c.subroutines n) t s g e in
    ap (λ (z : tree.Name). z.place) (same_some (slice_get (names (inner s)) j) x y f (subst (λ (z : tree.Subroutine). slice_get (names (inner z)) j ≡ Some y) q h))

one_use : (f : File) (i j : ℕ) (p q : Place) → Uses f i j p → Uses f i j q → p ≡ q
one_use f _ _ _ _ (AUse {n} {j} {b} {u} e g) (AUse {b = c} {u = v} h k) =
    let q : c ≡ b = same_some (slice_get f.bodies n) c b h e in
    ap use_place (same_some (slice_get b.uses j) u v g (subst (λ (z : Body). slice_get z.uses j ≡ Some v) q k))

made_place : (u : Use) (k : ℕ) (m : Made) → slice_get (made_calls u) k ≡ Some m → m.place ≡ use_place u
made_place (OfString t) zero m e = sym (ap (λ (z : Made). z.place) (same_some (Some m) _ m (sym e) refl))
made_place (OfString t) (suc k) m e = filled_place t.text t.place k m e
  where
    filled_place : (text : List ℕ) (at : Place) (k : ℕ) (m : Made) → slice_get (filled_parts text at) k ≡ Some m → m.place ≡ at
    filled_place [] at k m e = absurd cc
    filled_place (c ∷ text) at zero m e = sym (ap (λ (z : Made). z.place) (same_some (Some m) _ m (sym e) refl))
    filled_place (c ∷ text) at (suc k) m e = absurd cc
made_place (OfMade m') zero m e = sym (ap (λ (z : Made). z.place) (same_some (Some m) m' m (sym e) refl))
made_place (OfMade m') (suc k) m e = absurd cc
made_place (OfVariable x) k m e = absurd cc
made_place (OfFront x) k m e = absurd cc
made_place (OfCall o f n) k m e = absurd cc
made_place (OfThis at) k m e = absurd cc

module _ (own os : List tree.ClassFile) where
  declares : (shipped : Bool) (i : ℕ) (c : tree.ClassFile) (part j : ℕ) (kind : NameKind) (x : tree.Name) → Misdeclared own os shipped i c part j kind x → Declares c.class part j x.place
  declares shipped i c _ _ _ _ (FileName e) = Itself
  declares shipped i c _ _ _ _ (ClassTwice e q) = Itself
  declares shipped i c _ _ _ _ (MemberTwice (OfVariables w)) = AVariable w.here
  declares shipped i c _ _ _ x (MemberTwice (OfSubroutines {n} w)) =
      let g = got_back own os c.class.subroutines n x w.here in subst (λ (z : tree.Name). Declares c.class (suc (suc n)) 0 z.place) g.2 (ASubroutine g.1)
  declares shipped i c _ _ _ _ (VariableTwice e w) = AnInner e w.here

  call_place : (b : Body) (u : Use) (k : ℕ) (t : Target) (f : tree.Name) (n : ℕ) → Calls own os b u k t f n → f.place ≡ use_place u
  call_place b _ _ t _ _ (Written e) = refl
  call_place b u k t _ _ (ByItself {m} e q) = made_place u k m e

  used_place : (b : Body) (u : Use) (k : ℕ) (kind : NameKind) (x : tree.Name) → Misused own os b u k kind x → x.place ≡ use_place u
  used_place b _ _ _ _ (UnknownVariable e) = refl
  used_place b _ _ _ _ (UnknownClass (Front e)) = refl
  used_place b u k _ _ (UnknownClass (Lacking {m} e q)) = made_place u k m e
  used_place b u k _ f (UnknownSubroutine {n} {t} c e) = call_place b u k t f n c
  used_place b u k _ f (ArgumentCount {n} {t} c e g) = call_place b u k t f n c
  used_place b u k _ f (MethodByClass {n} {t} c e g h) = call_place b u k t f n c
  used_place b u k _ f (FunctionByObject {n} {t} c e g h) = call_place b u k t f n c
  used_place b _ _ _ _ (ThisInFunction e) = refl
  used_place b _ _ _ _ (FieldInFunction Alone e f g) = refl
  used_place b _ _ _ _ (FieldInFunction BeforeDot e f g) = refl
  used_place b _ _ _ _ (OwnInFunction e) = refl

  -- two faults of one stage and file: their places are as their names are
  pub record Alike (at : Spot) (t : NameDiagnostic) (at' : Spot) (t' : NameDiagnostic) : Type 0 where
    pub less : IsLess (at.part ∷ at.name ∷ []) (at'.part ∷ at'.name ∷ []) → IsEarlier t.place t'.place
    pub same : at.part ≡ at'.part → at.name ≡ at'.name → t.place ≡ t'.place

  from_rise : (At : ℕ → ℕ → Place → Type 0) → Rise At → ((i j : ℕ) (p q : Place) → At i j p → At i j q → p ≡ q)
      → (at : Spot) (t : NameDiagnostic) (at' : Spot) (t' : NameDiagnostic) → At at.part at.name t.place → At at'.part at'.name t'.place → Alike at t at' t'
  from_rise At rise one at t at' t' h k = record {
    less = λ l. rise at.part at.name at'.part at'.name t.place t'.place h k l;
    same = λ e f. one at'.part at'.name t.place t'.place (subst (λ (z : ℕ). At at'.part z t.place) f (subst (λ (z : ℕ). At z at.name t.place) e h)) k;
  }

  same_bool : (a b : Bool) → folder_number a ≡ folder_number b → a ≡ b
  same_bool true true e = refl
  same_bool true false e = absurd (omega arith)
  same_bool false true e = absurd (omega arith)
  same_bool false false e = refl

  declared_alike : PlacesRise own os → (shipped shipped' : Bool) (i i' part j part' j' : ℕ) (c c' : tree.ClassFile) (kind kind' : NameKind) (x x' : tree.Name) → shipped ≡ false → shipped ≡ shipped' → i ≡ i'
      → slice_get (classes own os shipped) i ≡ Some c → slice_get (classes own os shipped') i' ≡ Some c' → Misdeclared own os shipped i c part j kind x → Misdeclared own os shipped' i' c' part' j' kind' x'
      → Alike (spot shipped i part j 0) (told_at (source shipped c) kind x) (spot shipped' i' part' j' 0) (told_at (source shipped' c') kind' x')
  declared_alike rise shipped shipped' i i' part j part' j' c c' kind kind' x x' o p q e f m n =
      let same : c' ≡ c = same_some (slice_get (classes own os shipped') i') c' c f (subst (λ (z : ℕ). slice_get (classes own os shipped') z ≡ Some c) q (subst (λ (b : Bool). slice_get (classes own os b) i ≡ Some c) p e)) in
      from_rise (Declares c.class) (rise.declared i c (subst (λ (b : Bool). slice_get (classes own os b) i ≡ Some c) o e)) (one_place c.class) (spot shipped i part j 0) (told_at (source shipped c) kind x) (spot shipped' i' part' j' 0) (told_at (source shipped' c') kind' x')
      (declares shipped i c part j kind x m) (subst (λ (z : tree.ClassFile). Declares z.class part' j' x'.place) same (declares shipped' i' c' part' j' kind' x' n))

  uses : (shipped : Bool) (i part j k : ℕ) (f : File) (b : Body) (u : Use) (kind : NameKind) (x : tree.Name) → IsUsed own os shipped i part j f b u → Misused own os b u k kind x → Uses f part j x.place
  uses shipped i part j k f b u kind x e m = subst (Uses f part j) (sym (used_place b u k kind x m)) (AUse e.body e.name)

  used_alike : PlacesRise own os → (shipped shipped' : Bool) (i i' part j k part' j' k' : ℕ) (f f' : File) (b b' : Body) (u u' : Use) (kind kind' : NameKind) (x x' : tree.Name) → shipped ≡ false → shipped ≡ shipped' → i ≡ i'
      → IsUsed own os shipped i part j f b u → IsUsed own os shipped' i' part' j' f' b' u' → Misused own os b u k kind x → Misused own os b' u' k' kind' x'
      → Alike (spot shipped i part j k) (told_at f.source kind x) (spot shipped' i' part' j' k') (told_at f'.source kind' x')
  used_alike rise shipped shipped' i i' part j k part' j' k' f f' b b' u u' kind kind' x x' o p q e g m n =
      let same : f' ≡ f = same_some (slice_get (files own os shipped') i') f' f g.file (subst (λ (z : ℕ). slice_get (files own os shipped') z ≡ Some f) q (subst (λ (b : Bool). slice_get (files own os b) i ≡ Some f) p e.file)) in
      from_rise (Uses f) (rise.used i f (subst (λ (b : Bool). slice_get (files own os b) i ≡ Some f) o e.file)) (one_use f) (spot shipped i part j k) (told_at f.source kind x) (spot shipped' i' part' j' k') (told_at f'.source kind' x')
      (uses shipped i part j k f b u kind x e m) (subst (λ (z : File). Uses z part' j' x'.place) same (uses shipped' i' part' j' k' f' b' u' kind' x' g n))

  alike : PlacesRise own os → (at : Spot) (t : NameDiagnostic) (at' : Spot) (t' : NameDiagnostic) → Fails own os at t → Fails own os at' t' → at.shipped ≡ false → stage t.kind ≡ stage t'.kind → folder_number at.shipped ≡ folder_number at'.shipped → at.file ≡ at'.file → Alike at t at' t'
  alike rise _ _ _ _ (InDeclaration {shipped} {i} {part} {j} {c} {kind} {x} e m) (InDeclaration {shipped = b} {i = i'} {part = p'} {j = j'} {c = c'} {kind = kind'} {x = x'} f n) o s h q =
      declared_alike rise shipped b i i' part j p' j' c c' kind kind' x x' o (same_bool shipped b h) q e f m n
  alike rise _ _ _ _ (InDeclaration {shipped} {i} {part} {j} {c} {kind} {x} e m) (NoMain never) o s h q = let a = stage_declared own os shipped i c part j kind x m in absurd (omega arith)
  alike rise _ _ _ _ (InDeclaration {shipped} {i} {part} {j} {c} {kind} {x} e m) (InUse {k} {b} {u} {kind = kind'} {x = x'} f n) o s h q =
      let a = stage_declared own os shipped i c part j kind x m in let d = stage_used own os b u k kind' x' n in absurd (omega arith)
  alike rise _ _ _ _ (NoMain never) (NoMain never') o s h q = record { less = λ l. absurd (never_less own os (0 ∷ 0 ∷ []) l); same = λ e f. refl }
  alike rise _ _ _ _ (NoMain never) (InDeclaration {shipped} {i} {part} {j} {c} {kind} {x} e m) o s h q = let a = stage_declared own os shipped i c part j kind x m in absurd (omega arith)
  alike rise _ _ _ _ (NoMain never) (InUse {k} {b} {u} {kind = kind'} {x = x'} f n) o s h q = let d = stage_used own os b u k kind' x' n in absurd (omega arith)
  alike rise _ _ _ _ (InUse {shipped} {i} {part} {j} {k} {f} {b} {u} {kind} {x} e m) (InUse {shipped = b'} {i = i'} {part = p'} {j = j'} {k = k'} {f = f'} {b = c'} {u = u'} {kind = kind'} {x = x'} g n) o s h q =
      used_alike rise shipped b' i i' part j k p' j' k' f f' b c' u u' kind kind' x x' o (same_bool shipped b' h) q e g m n
  alike rise _ _ _ _ (InUse {k} {b} {u} {kind} {x} e m) (NoMain never) o s h q = let d = stage_used own os b u k kind x m in absurd (omega arith)
  alike rise _ _ _ _ (InUse {k} {b} {u} {kind} {x} e m) (InDeclaration {shipped} {i} {part} {j} {c} {kind = kind'} {x = x'} f n) o s h q =
      let a = stage_declared own os shipped i c part j kind' x' n in let d = stage_used own os b u k kind x m in absurd (omega arith)

  -- the rest of the order, of two faults of one stage and file
  lift : (p q : Place) (r r' : List ℕ) → IsEarlier p q → IsLess (p.line ∷ p.column ∷ r) (q.line ∷ q.column ∷ r')
  lift p q r r' (inl m) = inl m
  lift p q r r' (inr m) = inr (m.0, elim m.1 [ inl l ↦ inl l | inr x ↦ absurd x.1 ])

  tied : (p q : Place) (r r' : List ℕ) → p ≡ q → IsLess r r' → IsLess (p.line ∷ p.column ∷ r) (q.line ∷ q.column ∷ r')
  tied p q r r' e l = inr (ap (λ (z : Place). z.line) e, inr (ap (λ (z : Place). z.column) e, l))

  module _ (at : Spot) (t : NameDiagnostic) (at' : Spot) (t' : NameDiagnostic) where
    rest_by : Alike at t at' t' → at.part ≡ at'.part → IsLess (at.name ∷ kind_number t.kind ∷ at.call ∷ []) (at'.name ∷ kind_number t'.kind ∷ at'.call ∷ [])
        → IsLess (t.place.line ∷ t.place.column ∷ kind_number t.kind ∷ at.call ∷ []) (t'.place.line ∷ t'.place.column ∷ kind_number t'.kind ∷ at'.call ∷ [])
    rest_by h e (inl m) = lift t.place t'.place (kind_number t.kind ∷ at.call ∷ []) (kind_number t'.kind ∷ at'.call ∷ []) (h.less (inr (e, inl m)))
    rest_by h e (inr m) = tied t.place t'.place (kind_number t.kind ∷ at.call ∷ []) (kind_number t'.kind ∷ at'.call ∷ []) (h.same e m.0) m.1

    rest_less : Alike at t at' t' → IsLess (at.part ∷ at.name ∷ kind_number t.kind ∷ at.call ∷ []) (at'.part ∷ at'.name ∷ kind_number t'.kind ∷ at'.call ∷ [])
        → IsLess (t.place.line ∷ t.place.column ∷ kind_number t.kind ∷ at.call ∷ []) (t'.place.line ∷ t'.place.column ∷ kind_number t'.kind ∷ at'.call ∷ [])
    rest_less h (inl l) = lift t.place t'.place (kind_number t.kind ∷ at.call ∷ []) (kind_number t'.kind ∷ at'.call ∷ []) (h.less (inl l))
    rest_less h (inr l) = rest_by h l.0 l.1

    module _ (rise : PlacesRise own os) (f : Fails own os at t) (g : Fails own os at' t') where
      by_file : at.shipped ≡ false → at'.shipped ≡ false → stage t.kind ≡ stage t'.kind → IsLess (at.file ∷ at.part ∷ at.name ∷ kind_number t.kind ∷ at.call ∷ []) (at'.file ∷ at'.part ∷ at'.name ∷ kind_number t'.kind ∷ at'.call ∷ [])
          → IsLess (at.file ∷ t.place.line ∷ t.place.column ∷ kind_number t.kind ∷ at.call ∷ []) (at'.file ∷ t'.place.line ∷ t'.place.column ∷ kind_number t'.kind ∷ at'.call ∷ [])
      by_file o o' e (inl l) = inl l
      by_file o o' e (inr l) = inr (l.0, rest_less (alike rise at t at' t' f g o e (ap folder_number (o ∙ sym o')) l.0) l.1)

      abbrev ordered : Bool → Spot → NameDiagnostic → List ℕ
      ordered b at told = stage told.kind ∷ folder_number b ∷ at.file ∷ at.part ∷ at.name ∷ kind_number told.kind ∷ at.call ∷ []

      abbrev placed : Bool → Spot → NameDiagnostic → List ℕ
      placed b at told = stage told.kind ∷ folder_number b ∷ at.file ∷ (stands b at told ++ kind_number told.kind ∷ at.call ∷ [])

      less_by : (b b' : Bool) → at.shipped ≡ b → at'.shipped ≡ b' → IsLess (ordered b at t) (ordered b' at' t') → IsLess (placed b at t) (placed b' at' t')
      less_by true true o o' l = l
      less_by false false o o' (inl l) = inl l
      less_by false false o o' (inr (e, inl l)) = inr (e, inl l)
      less_by false false o o' (inr (e, inr l)) = inr (e, inr (l.0, by_file o o' e l.1))
      less_by true false o o' (inl l) = inl l
      less_by true false o o' (inr (e, inl l)) = absurd (omega (arith, l))
      less_by true false o o' (inr (e, inr l)) = absurd (omega (arith, l.0))
      less_by false true o o' (inl l) = inl l
      less_by false true o o' (inr (e, inl l)) = inr (e, inl l)
      less_by false true o o' (inr (e, inr l)) = absurd (omega (arith, l.0))

      place_less : IsLess (order at t) (order at' t') → IsLess (place_order at t) (place_order at' t')
      place_less l = less_by at.shipped at'.shipped refl refl l

  pub first_by_place : (told : NameDiagnostic) → PlacesRise own os → IsFirstFault own os told → IsFirstByPlace own os told
  first_by_place told rise f =
      record { at = f.at; fails = f.fails; first = λ at' t' g. elim (f.first at' t' g) [ inl e ↦ inl e | inr l ↦ inr (place_less f.at told at' t' rise f.fails g l) ] }
