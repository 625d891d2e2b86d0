-- The search over abstract syntax finds the first of the faults of uses.
use Rattle.std.proofs.Common.{◌≡◌, ◌<◌, ◌≤◌, ◌⊎◌, inl, inr, ℕ, zero, suc, Bool, true, false, not, ◌==◌, nat_lt, List, [], ◌∷◌, Option, Some, None, is_none, length, slice_get, codes, refl, sym, ap, subst, ◌∙◌, arith, lit<}
use Rattle.std.specs.Bool.{Decides}
use Rattle.std.proofs.lemmas.Bool.Decides.{Decides-eqb, Decides-ltb, Decides-like, Decides-not, Decides-and, not_from_Decides}
use Rattle.scan_text.specs.declared.Place.{Place}
use Rattle.jack_tree.specs.Syntax as tree
use Rattle.jack_names.specs.Faults.{NameDiagnostic, Source, first_in}
use Rattle.jack_names.specs.Faults.{kind_number}
use Rattle.jack_names.specs.Using.{Variable, Made, by_class, filled_parts, made_calls, Use, OfVariable, OfFront, OfCall, OfThis, OfString, OfMade, Body, File}
use Rattle.jack_names.specs.NameFaults.{told_at, made_name, class_of, variable_of, target, through, Target, subroutine_of, Calls, Written, ByItself, Front, Lacking, Alone, BeforeDot, Misused, UnknownVariable, UnknownClass, UnknownSubroutine, ArgumentCount, MethodByClass, FunctionByObject, ThisInFunction, FieldInFunction, OwnInFunction}
use Rattle.jack_names.specs.FaultOrder.{IsLess}
use Rattle.jack_names.specs.declared.fault.NameKind.{NameKind}
use Rattle.jack_names.specs.declared.fault.NameKind.TheVariants as kinds
use Rattle.jack_names.specs.declared.scope.Way.{Way}
use Rattle.jack_names.specs.declared.scope.Way.TheVariants as way
use Rattle.jack_names.proofs.Finding.{Faults, Finds, FindsNone, FindsSome, Either, finds_either, finds_as, Each, finds_all, One, finds_test, finds_before, AreAbove, above_one, above_either, less_trans}
use Rattle.jack_names.proofs.Searched.{is_function, is_method, is_unknown, miscounts, wrong_method, wrong_function, called, called_at, is_field_of, field_in, own_in, lesser_of, lesser, this_at, made, all_made, point, body_faults, file_faults}

none_decides : {A : Type 0} (o : Option A) → Decides (is_none o) (o ≡ None)
none_decides None = (λ e. refl, λ e. refl)
none_decides (Some a) = (λ e. absurd cc, λ e. absurd cc)

abbrev Counts : ℕ → Option tree.Subroutine → Type 0
Counts n o = (s : tree.Subroutine) × (o ≡ Some s) × (n ≡ length s.parameters → ⊥)

abbrev AMethod : Way → Option tree.Subroutine → Type 0
AMethod w o = (s : tree.Subroutine) × (o ≡ Some s) × (s.form ≡ tree.Method) × (w ≡ way.ByClass)

abbrev AFunction : Way → Option tree.Subroutine → Type 0
AFunction w o = (s : tree.Subroutine) × (o ≡ Some s) × (s.form ≡ tree.Method → ⊥) × (w ≡ way.ByClass → ⊥)

unknown_decides : (o : Option tree.Subroutine) → Decides (is_unknown o) (o ≡ None)
unknown_decides None = (λ e. refl, λ e. refl)
unknown_decides (Some a) = (λ e. absurd cc, λ e. absurd cc)

same_some : {A : Type 0} (a b : A) → Some a ≡ Some b → a ≡ b
same_some a b e = cc

count_decides : (n : ℕ) (o : Option tree.Subroutine) → Decides (miscounts n o) (Counts n o)
count_decides n None = (λ e. absurd cc, λ p. let e = p.1 in absurd cc)
count_decides n (Some s) =
    Decides-like (not (length s.parameters == n)) (λ never. (s, refl, λ q. never (sym q)))
    (λ p q. p.2 (sym q ∙ ap (λ (z : tree.Subroutine). length z.parameters) (same_some s p.0 p.1))) (Decides-not (length s.parameters == n) (Decides-eqb (length s.parameters) n))

method_is : (f : tree.Form) → Decides (is_method f) (f ≡ tree.Method)
method_is tree.Method = (λ e. refl, λ e. refl)
method_is tree.Function = (λ e. absurd cc, λ e. absurd cc)
method_is tree.Constructor = (λ e. absurd cc, λ e. absurd cc)

pub function_is : (f : tree.Form) → Decides (is_function f) (f ≡ tree.Function)
function_is tree.Function = (λ e. refl, λ e. refl)
function_is tree.Method = (λ e. absurd cc, λ e. absurd cc)
function_is tree.Constructor = (λ e. absurd cc, λ e. absurd cc)

form_of : (s z : tree.Subroutine) → Some s ≡ Some z → s.form ≡ z.form
form_of s z e = ap (λ (x : tree.Subroutine). x.form) (same_some s z e)

method_decides : (w : Way) (o : Option tree.Subroutine) → Decides (wrong_method w o) (AMethod w o)
method_decides w None = (λ e. absurd cc, λ p. let e = p.1 in absurd cc)
method_decides way.ByClass (Some s) = Decides-like (is_method s.form) (λ e. (s, refl, e, refl)) (λ p. form_of s p.0 p.1 ∙ p.2) (method_is s.form)
method_decides way.ByObject (Some s) = (λ e. absurd cc, λ p. let e = p.3 in absurd cc)
method_decides way.Own (Some s) = (λ e. absurd cc, λ p. let e = p.3 in absurd cc)

no_way : (w : Way) → (w ≡ way.ByClass → ⊥) → (s : tree.Subroutine) → Decides (not (is_method s.form)) (AFunction w (Some s))
no_way w never s = Decides-like (not (is_method s.form)) (λ e. (s, refl, e, never)) (λ p e. p.2 (sym (form_of s p.0 p.1) ∙ e)) (Decides-not (is_method s.form) (method_is s.form))

function_decides : (w : Way) (o : Option tree.Subroutine) → Decides (wrong_function w o) (AFunction w o)
function_decides w None = (λ e. absurd cc, λ p. let e = p.1 in absurd cc)
function_decides way.ByClass (Some s) = (λ e. absurd cc, λ p. absurd (p.3 refl))
function_decides way.ByObject (Some s) = no_way way.ByObject (λ e. absurd cc) s
function_decides way.Own (Some s) = no_way way.Own (λ e. absurd cc) s

-- What can be wrong with a call of a subroutine:
abbrev CallF : Source → tree.Name → ℕ → Way → ℕ → Option tree.Subroutine → Faults
CallF source f n w k o =
    Either (One kinds.UnknownSubroutine k (told_at source kinds.UnknownSubroutine f) (o ≡ None))
    (Either (One kinds.ArgumentCount k (told_at source kinds.ArgumentCount f) (Counts n o))
    (Either (One kinds.MethodByClass k (told_at source kinds.MethodByClass f) (AMethod w o)) (One kinds.FunctionByObject k (told_at source kinds.FunctionByObject f) (AFunction w o))))

finds_call : (source : Source) (f : tree.Name) (n : ℕ) (w : Way) (k : ℕ) (o : Option tree.Subroutine) → Finds (CallF source f n w k o) (called source f n w o)
finds_call source f n w k o =
    let last : AreAbove 9 (One kinds.FunctionByObject k (told_at source kinds.FunctionByObject f) (AFunction w o)) = above_one 9 kinds.FunctionByObject k _ (lit< tt) in
    let two : AreAbove 8 (Either (One kinds.MethodByClass k (told_at source kinds.MethodByClass f) (AMethod w o)) (One kinds.FunctionByObject k (told_at source kinds.FunctionByObject f) (AFunction w o))) =
    above_either 8 _ _ (above_one 8 kinds.MethodByClass k _ (lit< tt)) (above_one 8 kinds.FunctionByObject k _ (lit< tt)) in
    finds_before kinds.UnknownSubroutine k _ (is_unknown o) (unknown_decides o)
    (finds_before kinds.ArgumentCount k _ (miscounts n o) (count_decides n o)
    (finds_before kinds.MethodByClass k _ (wrong_method w o) (method_decides w o) (finds_test kinds.FunctionByObject k _ (wrong_function w o) (function_decides w o)) last) two)
    (above_either 7 _ _ (above_one 7 kinds.ArgumentCount k _ (lit< tt)) (above_either 7 _ _ (above_one 7 kinds.MethodByClass k _ (lit< tt)) (above_one 7 kinds.FunctionByObject k _ (lit< tt))))

abbrev TargetF : Source → tree.Name → ℕ → ℕ → Option Target → Faults
TargetF source f n k None = λ key t. ⊥
TargetF source f n k (Some t) = CallF source f n t.way k (subroutine_of t f)

finds_target : (source : Source) (f : tree.Name) (n k : ℕ) (o : Option Target) → Finds (TargetF source f n k o) (called_at source f n o)
finds_target source f n k None = FindsNone (λ key t x. x)
finds_target source f n k (Some t) = finds_call source f n t.way k (subroutine_of t f)

-- its kinds are 7 to 10
target_keys : (source : Source) (f : tree.Name) (n k : ℕ) (o : Option Target) (key : List ℕ) (t : NameDiagnostic) → TargetF source f n k o key t
    → (kind : NameKind) × (key ≡ kind_number kind ∷ k ∷ []) × (t ≡ told_at source kind f) × (6 < kind_number kind) × (kind_number kind < 11)
target_keys source f n k None key t x = absurd x
target_keys source f n k (Some g) key t (inl x) = (kinds.UnknownSubroutine, x.0, x.1, lit< tt, lit< tt)
target_keys source f n k (Some g) key t (inr (inl x)) = (kinds.ArgumentCount, x.0, x.1, lit< tt, lit< tt)
target_keys source f n k (Some g) key t (inr (inr (inl x))) = (kinds.MethodByClass, x.0, x.1, lit< tt, lit< tt)
target_keys source f n k (Some g) key t (inr (inr (inr x))) = (kinds.FunctionByObject, x.0, x.1, lit< tt, lit< tt)

target_above : (source : Source) (f : tree.Name) (n k : ℕ) (o : Option Target) → AreAbove 6 (TargetF source f n k o)
target_above source f n k o key t x = let p = target_keys source f n k o key t x in rw p.1 p.3

target_below : (source : Source) (f : tree.Name) (n k : ℕ) (o : Option Target) (key key' : List ℕ) (t told t' : NameDiagnostic) (P : Type 0) → TargetF source f n k o key t → One kinds.OwnInFunction 0 told P key' t' → IsLess key key'
target_below source f n k o key key' t told t' P x y = let p = target_keys source f n k o key t x in let e = y.0 in rw (p.1, e) (inl (omega arith))

abbrev FieldIn : Body → tree.Name → Option Variable → Type 0
FieldIn b x o = (v : Variable) × (o ≡ Some v) × (v.is_field ≡ true) × (b.form ≡ tree.Function)

is_field_decides : (o : Option Variable) → Decides (is_field_of o) ((v : Variable) × (o ≡ Some v) × (v.is_field ≡ true))
is_field_decides None = (λ e. absurd cc, λ p. let e = p.1 in absurd cc)
is_field_decides (Some v) = (λ e. (v, refl, e), λ p. ap (λ (z : Variable). z.is_field) (same_some v p.0 p.1) ∙ p.2)

field_decides : (b : Body) (x : tree.Name) (o : Option Variable) → Decides (field_in b o) (FieldIn b x o)
field_decides b x o =
    Decides-like (field_in b o) (λ p. (p.1.0, p.1.1, p.1.2, p.0)) (λ p. (p.3, (p.0, p.1, p.2)))
    (Decides-and (is_function b.form) (is_field_of o) (function_is b.form) (is_field_decides o))

own_decides : (b : Body) (o : Option tree.Name) → Decides (own_in b o) ((o ≡ None) × (b.form ≡ tree.Function))
own_decides b None = Decides-like (is_function b.form) (λ e. (refl, e)) (λ p. p.1) (function_is b.form)
own_decides b (Some x) = (λ e. absurd cc, λ p. let e = p.0 in absurd cc)

split : (m n : ℕ) → m ≤ n → (m < n) ⊎ (m ≡ n)
split m n h = grind arith

tie : (m n : ℕ) → nat_lt n m ≡ false → IsLess (m ∷ 0 ∷ []) (n ∷ 1 ∷ [])
tie m n e =
    let never : n < m → ⊥ = not_from_Decides (nat_lt n m) (Decides-ltb n m) e in
    elim (split m n (omega arith)) [ inl h ↦ inl h | inr q ↦ inr (q, inl (omega arith)) ]

-- two calls at one place: the lesser kind first, and of one kind the first call
module _ {F G : Faults} (first : (k : List ℕ) (t : NameDiagnostic) → F k t → k ≡ kind_number t.kind ∷ 0 ∷ []) (second : (k : List ℕ) (t : NameDiagnostic) → G k t → k ≡ kind_number t.kind ∷ 1 ∷ []) where
  key_at : NameDiagnostic → ℕ → List ℕ
  key_at t c = kind_number t.kind ∷ c ∷ []

  -- what comes after what is after
  behind : (k l k' : List ℕ) (t t' : NameDiagnostic) → IsLess k l → (t' ≡ t → k' ≡ l) → (t' ≡ t) ⊎ IsLess l k' → IsLess k k'
  behind k l k' t t' less same (inl e) = subst (IsLess k) (sym (same e)) less
  behind k l k' t t' less same (inr h) = less_trans k l k' less h

  pick : (t s : NameDiagnostic) (k l : List ℕ) (c : Bool) → nat_lt (kind_number s.kind) (kind_number t.kind) ≡ c → F k t → G l s
      → ((k' : List ℕ) (t' : NameDiagnostic) → F k' t' → (t' ≡ t) ⊎ IsLess k k') → ((k' : List ℕ) (t' : NameDiagnostic) → G k' t' → (t' ≡ s) ⊎ IsLess l k') → Finds (Either F G) (lesser_of c (Some t) (Some s))
  pick t s k l true e x y f g =
      let less : kind_number s.kind < kind_number t.kind = (Decides-ltb (kind_number s.kind) (kind_number t.kind)).0 e in
      let step : IsLess l k = rw (first k t x, second l s y) (inl less) in
      FindsSome l (inr y) (λ k' t'. elim [ inl z ↦ inr (behind l k k' t t' step (λ q. first k' t' z ∙ ap (λ (w : NameDiagnostic). kind_number w.kind ∷ 0 ∷ []) q ∙ sym (first k t x)) (f k' t' z)) | inr z ↦ g k' t' z ])
  pick t s k l false e x y f g =
      let step : IsLess k l = rw (first k t x, second l s y) (tie (kind_number t.kind) (kind_number s.kind) e) in
      FindsSome k (inl x) (λ k' t'. elim [ inl z ↦ f k' t' z | inr z ↦ inr (behind k l k' s t' step (λ q. second k' t' z ∙ ap (λ (w : NameDiagnostic). kind_number w.kind ∷ 1 ∷ []) q ∙ sym (second l s y)) (g k' t' z)) ])

  finds_lesser : {o p : Option NameDiagnostic} → Finds F o → Finds G p → Finds (Either F G) (lesser o p)
  finds_lesser (FindsNone f) (FindsNone g) = FindsNone (λ k t. elim [ inl x ↦ f k t x | inr x ↦ g k t x ])
  finds_lesser (FindsNone f) (FindsSome l y g) = FindsSome l (inr y) (λ k t. elim [ inl x ↦ absurd (f k t x) | inr x ↦ g k t x ])
  finds_lesser (FindsSome k x f) (FindsNone g) = FindsSome k (inl x) (λ k' t'. elim [ inl z ↦ f k' t' z | inr z ↦ absurd (g k' t' z) ])
  finds_lesser (FindsSome {t} k x f) (FindsSome {t = s} l y g) = pick t s k l (nat_lt (kind_number s.kind) (kind_number t.kind)) refl x y f g

module _ (own os : List tree.ClassFile) where
  abbrev MadeF : Source → Made → ℕ → Faults
  MadeF source m k =
      Either (One kinds.UnknownClass k (told_at source kinds.UnknownClass (made_name m.class m)) (class_of own os m.class ≡ None))
      (TargetF source (made_name m.name m) m.arguments k (through m.way (class_of own os m.class)))

  finds_made : (source : Source) (m : Made) (k : ℕ) → Finds (MadeF source m k) (made own os source m)
  finds_made source m k =
      let t : Option Target = through m.way (class_of own os m.class) in
      finds_before kinds.UnknownClass k _ (is_none (class_of own os m.class)) (none_decides (class_of own os m.class)) (finds_target source (made_name m.name m) m.arguments k t) (target_above source (made_name m.name m) m.arguments k t)

  made_keys : (source : Source) (m : Made) (c : ℕ) (k : List ℕ) (t : NameDiagnostic) → MadeF source m c k t → k ≡ kind_number t.kind ∷ c ∷ []
  made_keys source m c k t (inl x) = x.0 ∙ ap (λ (w : NameDiagnostic). kind_number w.kind ∷ c ∷ []) (sym x.1)
  made_keys source m c k t (inr x) =
      let p = target_keys source (made_name m.name m) m.arguments c (through m.way (class_of own os m.class)) k t x in p.1 ∙ ap (λ (w : NameDiagnostic). kind_number w.kind ∷ c ∷ []) (sym p.2)

  -- the second call of a string
  abbrev FilledF : Source → List Made → Faults
  FilledF source [] = λ k t. ⊥
  FilledF source (m ∷ ms) = MadeF source m 1

  finds_filled : (source : Source) (ms : List Made) → Finds (FilledF source ms) (all_made own os source ms)
  finds_filled source [] = FindsNone (λ k t x. x)
  finds_filled source (m ∷ ms) = finds_made source m 1

  filled_keys : (source : Source) (ms : List Made) (k : List ℕ) (t : NameDiagnostic) → FilledF source ms k t → k ≡ kind_number t.kind ∷ 1 ∷ []
  filled_keys source [] k t x = absurd x
  filled_keys source (m ∷ ms) k t x = made_keys source m 1 k t x

  abbrev string_made : tree.Name → Made
  string_made t = by_class (codes "String") (codes "new") 1 t.place

  abbrev UseF : Source → Body → Use → Faults
  UseF source b (OfVariable x) =
      Either (One kinds.UnknownVariable 0 (told_at source kinds.UnknownVariable x) (variable_of b x ≡ None)) (One kinds.FieldInFunction 0 (told_at source kinds.FieldInFunction x) (FieldIn b x (variable_of b x)))
  UseF source b (OfFront x) =
      Either (One kinds.UnknownClass 0 (told_at source kinds.UnknownClass x) (target own os b (Some x) ≡ None)) (One kinds.FieldInFunction 0 (told_at source kinds.FieldInFunction x) (FieldIn b x (variable_of b x)))
  UseF source b (OfCall o f n) = Either (TargetF source f n 0 (target own os b o)) (One kinds.OwnInFunction 0 (told_at source kinds.OwnInFunction f) ((o ≡ None) × (b.form ≡ tree.Function)))
  UseF source b (OfThis at) = One kinds.ThisInFunction 0 (told_at source kinds.ThisInFunction (this_at at)) (b.form ≡ tree.Function)
  UseF source b (OfString t) = Either (MadeF source (string_made t) 0) (FilledF source (filled_parts t.text t.place))
  UseF source b (OfMade m) = MadeF source m 0

  finds_use : (source : Source) (b : Body) (u : Use) → Finds (UseF source b u) (point own os source b u)
  finds_use source b (OfVariable x) =
      finds_before kinds.UnknownVariable 0 _ (is_none (variable_of b x)) (none_decides (variable_of b x)) (finds_test kinds.FieldInFunction 0 _ (field_in b (variable_of b x)) (field_decides b x (variable_of b x)))
      (above_one 5 kinds.FieldInFunction 0 _ (lit< tt))
  finds_use source b (OfFront x) =
      finds_before kinds.UnknownClass 0 _ (is_none (target own os b (Some x))) (none_decides (target own os b (Some x))) (finds_test kinds.FieldInFunction 0 _ (field_in b (variable_of b x)) (field_decides b x (variable_of b x)))
      (above_one 6 kinds.FieldInFunction 0 _ (lit< tt))
  finds_use source b (OfCall o f n) =
      finds_either (finds_target source f n 0 (target own os b o)) (finds_test kinds.OwnInFunction 0 _ (own_in b o) (own_decides b o))
      (λ k k' t t' x y. target_below source f n 0 (target own os b o) k k' t (told_at source kinds.OwnInFunction f) t' ((o ≡ None) × (b.form ≡ tree.Function)) x y)
  finds_use source b (OfThis at) = finds_test kinds.ThisInFunction 0 _ (is_function b.form) (function_is b.form)
  finds_use source b (OfString t) =
      finds_lesser (made_keys source (string_made t) 0) (filled_keys source (filled_parts t.text t.place)) (finds_made source (string_made t) 0) (finds_filled source (filled_parts t.text t.place))
  finds_use source b (OfMade m) = finds_made source m 0

  -- what is wrong with a use, with its order
  abbrev pub PointF : Source → Body → Use → Faults
  PointF source b u k t = (kind : NameKind) × (call : ℕ) × (x : tree.Name) × (k ≡ kind_number kind ∷ call ∷ []) × (t ≡ told_at source kind x) × Misused own os b u call kind x

  target_to : (source : Source) (b : Body) (u : Use) (f : tree.Name) (n k : ℕ) (o : Option Target) (key : List ℕ) (t : NameDiagnostic) → ((g : Target) → o ≡ Some g → Calls own os b u k g f n) → TargetF source f n k o key t → PointF source b u key t
  target_to source b u f n k None key t c x = absurd x
  target_to source b u f n k (Some g) key t c (inl x) = (kinds.UnknownSubroutine, k, f, x.0, x.1, UnknownSubroutine (c g refl) x.2)
  target_to source b u f n k (Some g) key t c (inr (inl x)) = (kinds.ArgumentCount, k, f, x.0, x.1, ArgumentCount (c g refl) x.2.1 x.2.2)
  target_to source b u f n k (Some g) key t c (inr (inr (inl x))) = (kinds.MethodByClass, k, f, x.0, x.1, MethodByClass (c g refl) x.2.1 x.2.2 x.2.3)
  target_to source b u f n k (Some g) key t c (inr (inr (inr x))) = (kinds.FunctionByObject, k, f, x.0, x.1, FunctionByObject (c g refl) x.2.1 x.2.2 x.2.3)

  made_to : (source : Source) (b : Body) (u : Use) (m : Made) (k : ℕ) (key : List ℕ) (t : NameDiagnostic) → slice_get (made_calls u) k ≡ Some m → MadeF source m k key t → PointF source b u key t
  made_to source b u m k key t e (inl x) = (kinds.UnknownClass, k, made_name m.class m, x.0, x.1, UnknownClass (Lacking e x.2))
  made_to source b u m k key t e (inr x) = target_to source b u (made_name m.name m) m.arguments k (through m.way (class_of own os m.class)) key t (λ g q. ByItself e q) x

  filled_to : (source : Source) (b : Body) (u : Use) (ms : List Made) (key : List ℕ) (t : NameDiagnostic) → ((m : Made) → slice_get ms 0 ≡ Some m → slice_get (made_calls u) 1 ≡ Some m) → FilledF source ms key t → PointF source b u key t
  filled_to source b u [] key t h x = absurd x
  filled_to source b u (m ∷ ms) key t h x = made_to source b u m 1 key t (h m refl) x

  use_to : (source : Source) (b : Body) (u : Use) (key : List ℕ) (t : NameDiagnostic) → UseF source b u key t → PointF source b u key t
  use_to source b (OfVariable x) key t (inl h) = (kinds.UnknownVariable, 0, x, h.0, h.1, UnknownVariable h.2)
  use_to source b (OfVariable x) key t (inr h) = (kinds.FieldInFunction, 0, x, h.0, h.1, FieldInFunction Alone h.2.1 h.2.2 h.2.3)
  use_to source b (OfFront x) key t (inl h) = (kinds.UnknownClass, 0, x, h.0, h.1, UnknownClass (Front h.2))
  use_to source b (OfFront x) key t (inr h) = (kinds.FieldInFunction, 0, x, h.0, h.1, FieldInFunction BeforeDot h.2.1 h.2.2 h.2.3)
  use_to source b (OfCall o f n) key t (inl h) = target_to source b (OfCall o f n) f n 0 (target own os b o) key t (λ g q. Written q) h
  use_to source b (OfCall None f n) key t (inr h) = (kinds.OwnInFunction, 0, f, h.0, h.1, OwnInFunction h.2.1)
  use_to source b (OfCall (Some x) f n) key t (inr h) = let e = h.2.0 in absurd cc
  use_to source b (OfThis at) key t h = (kinds.ThisInFunction, 0, this_at at, h.0, h.1, ThisInFunction h.2)
  use_to source b (OfString s) key t (inl h) = made_to source b (OfString s) (string_made s) 0 key t refl h
  use_to source b (OfString s) key t (inr h) = filled_to source b (OfString s) (filled_parts s.text s.place) key t (λ m q. q) h
  use_to source b (OfMade m) key t h = made_to source b (OfMade m) m 0 key t refl h

  same_made : (source : Source) (m m' : Made) (k : ℕ) (key : List ℕ) (t : NameDiagnostic) → Some m' ≡ Some m → MadeF source m k key t → MadeF source m' k key t
  same_made source m m' k key t e h = let q : m ≡ m' = cc in subst (λ (z : Made). MadeF source z k key t) q h

  filled_back : (source : Source) (text : List ℕ) (at : Place) (k : ℕ) (m : Made) (key : List ℕ) (t : NameDiagnostic) → slice_get (filled_parts text at) k ≡ Some m → MadeF source m (suc k) key t → FilledF source (filled_parts text at) key t
  filled_back source [] at k m key t e h = absurd cc
  filled_back source (c ∷ text) at zero m key t e h = same_made source m _ 1 key t e h
  filled_back source (c ∷ text) at (suc k) m key t e h = absurd cc

  made_back : (source : Source) (b : Body) (u : Use) (k : ℕ) (m : Made) (key : List ℕ) (t : NameDiagnostic) → slice_get (made_calls u) k ≡ Some m → MadeF source m k key t → UseF source b u key t
  made_back source b (OfString s) zero m key t e h = inl (same_made source m (string_made s) 0 key t e h)
  made_back source b (OfString s) (suc k) m key t e h = inr (filled_back source s.text s.place k m key t e h)
  made_back source b (OfMade m') zero m key t e h = same_made source m m' 0 key t e h
  made_back source b (OfMade m') (suc k) m key t e h = absurd cc
  made_back source b (OfVariable x) k m key t e h = absurd cc
  made_back source b (OfFront x) k m key t e h = absurd cc
  made_back source b (OfCall o f n) k m key t e h = absurd cc
  made_back source b (OfThis at) k m key t e h = absurd cc

  call_back : (source : Source) (b : Body) (u : Use) (k : ℕ) (g : Target) (f : tree.Name) (n : ℕ) (key : List ℕ) (t : NameDiagnostic) → Calls own os b u k g f n → CallF source f n g.way k (subroutine_of g f) key t → UseF source b u key t
  call_back source b _ _ g f n key t (Written e) h = inl (subst (λ (o : Option Target). TargetF source f n 0 o key t) (sym e) h)
  call_back source b u k g _ _ key t (ByItself {m} e q) h =
      made_back source b u k m key t e (inr (subst (λ (o : Option Target). TargetF source (made_name m.name m) m.arguments k o key t) (sym q) h))

  use_back : (source : Source) (b : Body) (u : Use) (call : ℕ) (kind : NameKind) (x : tree.Name) (key : List ℕ) (t : NameDiagnostic) → key ≡ kind_number kind ∷ call ∷ [] → t ≡ told_at source kind x → Misused own os b u call kind x → UseF source b u key t
  use_back source b _ _ _ _ key t p q (UnknownVariable e) = inl (p, q, e)
  use_back source b _ _ _ _ key t p q (UnknownClass (Front e)) = inl (p, q, e)
  use_back source b u k _ _ key t p q (UnknownClass (Lacking {m} e e')) = made_back source b u k m key t e (inl (p, q, e'))
  use_back source b u k _ _ key t p q (UnknownSubroutine c e) = call_back source b u k _ _ _ key t c (inl (p, q, e))
  use_back source b u k _ _ key t p q (ArgumentCount c e never) = call_back source b u k _ _ _ key t c (inr (inl (p, q, (_, e, never))))
  use_back source b u k _ _ key t p q (MethodByClass c e m w) = call_back source b u k _ _ _ key t c (inr (inr (inl (p, q, (_, e, m, w)))))
  use_back source b u k _ _ key t p q (FunctionByObject c e m w) = call_back source b u k _ _ _ key t c (inr (inr (inr (p, q, (_, e, m, w)))))
  use_back source b _ _ _ _ key t p q (ThisInFunction e) = (p, q, e)
  use_back source b _ _ _ _ key t p q (FieldInFunction Alone e f g) = inr (p, q, (_, e, f, g))
  use_back source b _ _ _ _ key t p q (FieldInFunction BeforeDot e f g) = inr (p, q, (_, e, f, g))
  use_back source b _ _ _ _ key t p q (OwnInFunction e) = inr (p, q, (refl, e))

  pub finds_point : (source : Source) (b : Body) (u : Use) → Finds (PointF source b u) (point own os source b u)
  finds_point source b u = finds_as (finds_use source b u) (use_to source b u) (λ k t p. use_back source b u p.1 p.0 p.2 k t p.3 p.4 p.5)

  -- those of a body, of a file and of files
  abbrev pub BodyF : Source → Body → Faults
  BodyF source b = Each (λ j u. PointF source b u) b.uses

  abbrev pub FileF : File → Faults
  FileF f = Each (λ n b. BodyF f.source b) f.bodies

  abbrev pub FilesF : List File → Faults
  FilesF fs = Each (λ i f. FileF f) fs

  finds_body : (source : Source) (b : Body) → Finds (BodyF source b) (body_faults own os source b)
  finds_body source b = finds_all (PointF source b) (point own os source b) (finds_point source b) b.uses

  finds_file : (f : File) → Finds (FileF f) (file_faults own os f)
  finds_file f = finds_all (BodyF f.source) (body_faults own os f.source) (finds_body f.source) f.bodies

  pub finds_files : (fs : List File) → Finds (FilesF fs) (first_in (file_faults own os) fs)
  finds_files fs = finds_all FileF (file_faults own os) finds_file fs
