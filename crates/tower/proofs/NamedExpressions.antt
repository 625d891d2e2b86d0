-- An expression without a name fault is whole: what it names is there.
use Rattle.std.proofs.Common.{◌≡◌, inl, inr, ◌<◌, ℕ, ◌+◌, ◌%◌, Bool, true, false, cond, List, [], ◌∷◌, ◌++◌, Option, Some, None, length, codes, refl, ◌∙◌, arith}
use Rattle.std.specs.List.{All}
use Rattle.std.proofs.lemmas.List.Elements.{All-head, All-tail}
use Rattle.scan_text.specs.declared.Place.{Place}
use Rattle.jack_meaning.specs.Text as meaning
use Rattle.jack_compiler.specs.Templates.{Numbers, count}
use Rattle.jack_compiler.specs.Fits.{Scope, IsWhole, AreWhole}
use Rattle.jack_tree.specs.declared.tree.Name.{Name}
use Rattle.jack_tree.specs.declared.tree.Operator.{Operator}
use Rattle.jack_tree.specs.declared.tree.Operator.TheVariants as operator
use Rattle.jack_tree.specs.declared.tree.Constant.{Constant}
use Rattle.jack_tree.specs.declared.tree.Constant.TheVariants as constant
use Rattle.jack_tree.specs.declared.tree.Call.{Call, Call', Row_of-Expression, end_of-Expression, more_of-Expression}
use Rattle.jack_tree.specs.declared.tree.Term as terms
use Rattle.jack_tree.specs.declared.tree.Expression.{Expression, Expression', Row_of-Operation, end_of-Operation, more_of-Operation}
use Rattle.name_table.specs.Names.{first_of}
use Rattle.jack_names.specs.Faults.{NameDiagnostic, Source, diagnostic_if}
use Rattle.jack_names.specs.Inner.Uses.{Variable, Calls, operator_uses, constant_uses, row_length, term_uses, call_uses, exp_uses, rest_uses, row_uses}
use Rattle.jack_names.specs.Inner.Scopes.{is_function, is_field, own_kind, way_kind, count_kind, field_kind, variable_kind, this_kind, through, callee_by, callee, front_by, front_fault, signature_kind, called_kind, made_kind, made_diagnostic, is_lesser, new_kind, append_kind, string_fault, call_fault, use_fault, first_fault}
use Rattle.jack_names.specs.Inner.Scopes.{Scope as Names}
use Rattle.jack_names.specs.Made.{slot_meant, declared_meant, with_variable, filled_characters, length_word}
use Rattle.jack_names.specs.Inner.Meant.{variable_meant, called_number, made_by, made_number, invocation, string_meant, constant_meant, binary_meant, term_meant, call_meant, exp_meant, rest_meant, row_meant}
use Rattle.jack_names.specs.declared.fault.NameKind.{NameKind}
use Rattle.jack_names.specs.declared.fault.NameKind.TheVariants as kinds
use Rattle.jack_names.specs.declared.scope.Slot.{Slot}
use Rattle.jack_names.specs.declared.scope.Slot.TheVariants as slot
use Rattle.jack_names.specs.declared.scope.Way.{Way}
use Rattle.jack_names.specs.declared.scope.Way.TheVariants as way
use Rattle.jack_names.specs.declared.scope.Declared.{Declared}
use Rattle.jack_names.specs.declared.scope.Signature.{Signature}
use Rattle.tower.specs.Read.{IsString, IsReadConstant, IsReadTerm, IsReadCall, IsRead, AreReadOperations, AreRead}
use Rattle.tower.proofs.NamedFaults.{none_both, uses_both, first_use, told_none, kind_none}
use Rattle.tower.proofs.NamedSound.{IsSlot, Takes, IsSound, field_free, before, signature_sound}

pub made_none : (source : Source) (c f : List ℕ) (at : Place) (k : Option NameKind) → made_diagnostic source c f at k ≡ None → k ≡ None
made_none source c f at None h = refl
made_none source c f at (Some k) h = absurd cc

one_of : (b : Bool) (x y : NameDiagnostic) → cond b (Some x) (Some y) ≡ None → ⊥
one_of true x y h = absurd cc
one_of false x y h = absurd cc

-- a string has no fault where neither of its calls has one
string_none : (source : Source) (c f g : List ℕ) (at : Place) (a b : Option NameKind) → cond (is_lesser a b) (made_diagnostic source c g at b) (made_diagnostic source c f at a) ≡ None
    → (a ≡ None) × (b ≡ None)
string_none source c f g at None None h = (refl, refl)
string_none source c f g at None (Some l) h = absurd cc
string_none source c f g at (Some k) None h = absurd cc
string_none source c f g at (Some k) (Some l) h = absurd (one_of (is_lesser (Some k) (Some l)) _ _ h)

module _ (subs : List meaning.Subroutine) (numbers : Numbers) (scope : Scope) (s : Names) (sound : IsSound subs numbers scope s) where
  abbrev pub W : meaning.Expression → Type 0
  W e = IsWhole subs numbers scope e

  abbrev pub Ws : meaning.Expressions → Type 0
  Ws es = AreWhole subs numbers scope es

  abbrev T : ℕ → ℕ → Type 0
  T g n = Takes subs numbers scope g n

  slot_whole : (v : Slot) → IsSlot subs numbers scope v → (is_field v ≡ true → is_function s.form ≡ false) → W (slot_meant v)
  slot_whole (slot.Argument k) h f = h
  slot_whole (slot.Local k) h f = h
  slot_whole (slot.Field k) h f = (sound.object (f refl), h)
  slot_whole (slot.Static k) h f = h

  pub declared_whole : (x : List ℕ) (v : Declared) → s.variable x ≡ Some v → field_kind s.form v ≡ None → W (slot_meant v.slot)
  declared_whole x v e h = slot_whole v.slot (sound.variable x v e) (field_free (is_function s.form) (is_field v.slot) kinds.FieldInFunction h)

  variable_by : (x : List ℕ) (o : Option Declared) → s.variable x ≡ o → variable_kind s.form o ≡ None → W (declared_meant o)
  variable_by x None e h = absurd cc
  variable_by x (Some v) e h = declared_whole x v e h

  pub variable_whole : (x : Name) → use_fault s (Variable x) ≡ None → W (variable_meant s x)
  variable_whole x h = variable_by x.text (s.variable x.text) refl (told_none s.source x.text x.place (variable_kind s.form (s.variable x.text)) h)

  -- a call that the meaning makes by itself
  pub made_takes : (w : Way) (f : List ℕ) (n : ℕ) (o : Option ℕ) → made_kind s w f n o ≡ None → T (made_by s f o) (before w + n)
  made_takes w f n None h = absurd cc
  made_takes w f n (Some k) h = signature_sound subs numbers scope s sound s.form w n k f (s.subroutine k f) refl h

  pub made_whole : (c f : List ℕ) (n : ℕ) (at : Place) → made_diagnostic s.source c f at (made_kind s way.ByClass f n (s.class c)) ≡ None → T (made_number s c f) n
  made_whole c f n at h =
      let t = made_takes way.ByClass f n (s.class c) (made_none s.source c f at (made_kind s way.ByClass f n (s.class c)) h) in
      let e : n ≡ 0 + n = omega arith in
      record { kept = t.kept; arguments = e ∙ t.arguments }

  filled_whole : (append : ℕ) (e : meaning.Expression) (bs : List ℕ) → T append 2 → All (λ b. b < 128) bs → W e → W (filled_characters append e bs)
  filled_whole append e [] t a h = h
  filled_whole append e (b ∷ bs) t a h =
      let low : b < 128 = All-head (λ b. b < 128) b bs a in
      filled_whole append (meaning.Call append (meaning.More e (meaning.More (meaning.Literal b) meaning.NoMore))) bs t (All-tail (λ b. b < 128) b bs a)
      ((t.kept, t.arguments), (h, (inl (omega arith), tt)))

  string_by : (text : List ℕ) (n : ℕ) → IsString text → T n 1 → append_kind s text ≡ None
      → W (filled_characters (made_number s (codes "String") (codes "appendChar")) (meaning.Call n (meaning.More (meaning.Literal (length_word text)) meaning.NoMore)) text)
  string_by [] n r t h = ((t.kept, t.arguments), (inl (omega arith), tt))
  string_by (b ∷ bs) n r t h =
      let short = r.short in
      let word : length (b ∷ bs) % 65536 < 32768 = omega (arith, short) in
      filled_whole (made_number s (codes "String") (codes "appendChar")) _ (b ∷ bs) (made_takes way.ByObject (codes "appendChar") 1 (s.class (codes "String")) h) r.ascii
      ((t.kept, t.arguments), (inl word, tt))

  string_whole : (text : List ℕ) (at : Place) → string_fault s text at ≡ None → IsString text → W (string_meant s text)
  string_whole text at h r =
      let k = string_none s.source (codes "String") (codes "new") (codes "appendChar") at (new_kind s) (append_kind s text) h in
      string_by text (made_number s (codes "String") (codes "new")) r (made_takes way.ByClass (codes "new") 1 (s.class (codes "String")) k.0) k.1

  this_whole : this_kind s.form ≡ None → scope.object ≡ true
  this_whole h = sound.object (kind_none (is_function s.form) kinds.ThisInFunction h)

  constant_whole : (c : Constant) → first_fault s (constant_uses c) ≡ None → IsReadConstant c → W (constant_meant s c)
  constant_whole (constant.Integer n) h r = inl (omega arith)
  constant_whole (constant.Text t) h r = string_whole t.text t.place (none_both (string_fault s t.text t.place) None h).0 r
  constant_whole constant.True h r = inr refl
  constant_whole constant.False h r = inl (omega arith)
  constant_whole constant.Null h r = inl (omega arith)
  constant_whole (constant.This at) h r = this_whole (told_none s.source (codes "this") at (this_kind s.form) (none_both (diagnostic_if s.source (codes "this") at (this_kind s.form)) None h).0)

  binary_whole : (o : Operator) (at : Place) (a b : meaning.Expression) → first_fault s (operator_uses o at) ≡ None → W a → W b → W (binary_meant s o a b)
  binary_whole operator.Plus at a b h x y = (x, y)
  binary_whole operator.Minus at a b h x y = (x, y)
  binary_whole operator.Times at a b h x y = let t = made_whole (codes "Math") (codes "multiply") 2 at (none_both _ None h).0 in ((t.kept, t.arguments), (x, (y, tt)))
  binary_whole operator.Divide at a b h x y = let t = made_whole (codes "Math") (codes "divide") 2 at (none_both _ None h).0 in ((t.kept, t.arguments), (x, (y, tt)))
  binary_whole operator.And at a b h x y = (x, y)
  binary_whole operator.Or at a b h x y = (x, y)
  binary_whole operator.Less at a b h x y = (x, y)
  binary_whole operator.Greater at a b h x y = (x, y)
  binary_whole operator.Equal at a b h x y = (x, y)

  -- calls: within the object's class, through a class, through a variable
  module _ (f : List ℕ) (n : ℕ) (es : meaning.Expressions) (counts : count es ≡ n) (whole : Ws es) where
    own_whole : signature_kind s.form way.Own n (s.subroutine s.own f) ≡ None → W (meaning.Call (called_number s f (callee s None)) (meaning.More meaning.This es))
    own_whole h =
        let t = signature_sound subs numbers scope s sound s.form way.Own n s.own f (s.subroutine s.own f) refl h in
        let one : count es + 1 ≡ 1 + n = omega arith in
        ((t.kept, one ∙ t.arguments), (own_object (s.subroutine s.own f) h, whole))
      where
        own_object : (o : Option Signature) → signature_kind s.form way.Own n o ≡ None → scope.object ≡ true
        own_object None k = absurd cc
        own_object (Some g) k =
            let a = none_both (count_kind n g) (first_of (way_kind way.Own g.form) (own_kind way.Own s.form)) k in
            let b = none_both (way_kind way.Own g.form) (own_kind way.Own s.form) a.1 in
            sound.object (kind_none (is_function s.form) kinds.OwnInFunction b.1)

    object_whole : (x : List ℕ) (v : Declared) (c : Option ℕ) → s.variable x ≡ Some v → front_by s.form (Some v) (through way.ByObject c) ≡ None → called_kind s f n (through way.ByObject c) ≡ None
        → W (meaning.Call (called_number s f (through way.ByObject c)) (meaning.More (slot_meant v.slot) es))
    object_whole x v None e h k = absurd cc
    object_whole x v (Some c) e h k =
        let t = signature_sound subs numbers scope s sound s.form way.ByObject n c f (s.subroutine c f) refl k in
        let one : count es + 1 ≡ 1 + n = omega arith in
        ((t.kept, one ∙ t.arguments), (declared_whole x v e h, whole))

    through_whole : (x : List ℕ) (v : Option Declared) (c : Option ℕ) → s.variable x ≡ v → front_by s.form v (callee_by v c) ≡ None → called_kind s f n (callee_by v c) ≡ None
        → W (meaning.Call (called_number s f (callee_by v c)) (with_variable v es))
    through_whole x None None e h k = absurd cc
    through_whole x None (Some c) e h k =
        let t = signature_sound subs numbers scope s sound s.form way.ByClass n c f (s.subroutine c f) refl k in
        let same : count es ≡ 0 + n = omega arith in
        ((t.kept, same ∙ t.arguments), whole)
    through_whole x (Some v) c e h k = object_whole x v v.class e h k

  invoked_whole : (o : Option Name) (f : Name) (n : ℕ) (es : meaning.Expressions) → call_fault s o f n ≡ None → count es ≡ n → Ws es → W (invocation s o f es)
  invoked_whole None f n es h c w =
      own_whole f.text n es c w (told_none s.source f.text f.place (called_kind s f.text n (callee s None)) h)
  invoked_whole (Some x) f n es h c w =
      let a = none_both (front_fault s (Some x)) (diagnostic_if s.source f.text f.place (called_kind s f.text n (callee s (Some x)))) h in
      through_whole f.text n es c w x.text (s.variable x.text) (s.class x.text) refl
      (told_none s.source x.text x.place (front_by s.form (s.variable x.text) (callee s (Some x))) a.0)
      (told_none s.source f.text f.place (called_kind s f.text n (callee s (Some x))) a.1)

  mutual
    term_whole : (t : terms.Term) → first_fault s (term_uses t) ≡ None → IsReadTerm t → W (term_meant s t)
    term_whole (terms.Constant c) h r = constant_whole c h r
    term_whole (terms.Variable x) h r = variable_whole x (none_both (use_fault s (Variable x)) None h).0
    term_whole (terms.Element' x p e) h r =
        let a = first_use s (Variable x) (exp_uses e) h in
        (variable_whole x a.0, exp_whole e a.1 r)
    term_whole (terms.Call' p c) h r = call_whole c h r
    term_whole (terms.Group' p e) h r = exp_whole e h r
    term_whole (terms.Unary' o p t) h r = term_whole t h r

    pub call_whole : (c : Call) → first_fault s (call_uses c) ≡ None → IsReadCall c → W (call_meant s c)
    call_whole (Call' o f p es) h r =
        let a = first_use s (Calls o f (row_length es)) (row_uses es) h in
        let b = row_whole _ es a.1 r in
        invoked_whole o f (row_length es) (row_meant s es) a.0 b.1 b.0

    pub exp_whole : (e : Expression) → first_fault s (exp_uses e) ≡ None → IsRead e → W (exp_meant s e)
    exp_whole (Expression' t p os) h r =
        let a = uses_both s (term_uses t) (rest_uses os) h in
        rest_whole (term_meant s t) _ os (term_whole t a.0 r.0) a.1 r.1

    rest_whole : (e : meaning.Expression) (n : _) (os : Row_of-Operation n) → W e → first_fault s (rest_uses os) ≡ None → AreReadOperations os → W (rest_meant s e os)
    rest_whole e n end_of-Operation w h r = w
    rest_whole e n (more_of-Operation o at t os) w h r =
        let a = uses_both s (operator_uses o at ++ term_uses t) (rest_uses os) h in
        let b = uses_both s (operator_uses o at) (term_uses t) a.0 in
        rest_whole (binary_meant s o e (term_meant s t)) _ os (binary_whole o at e (term_meant s t) b.0 w (term_whole t b.1 r.0)) a.1 r.1

    row_whole : (n : _) (es : Row_of-Expression n) → first_fault s (row_uses es) ≡ None → AreRead es → Ws (row_meant s es) × (count (row_meant s es) ≡ row_length es)
    row_whole n end_of-Expression h r = (tt, refl)
    row_whole n (more_of-Expression e es) h r =
        let a = uses_both s (exp_uses e) (row_uses es) h in
        let b = row_whole _ es a.1 r.1 in
        let c : count (row_meant s es) ≡ row_length es = b.1 in
        ((exp_whole e a.0 r.0, b.0), omega arith)
