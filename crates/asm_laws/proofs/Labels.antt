-- The first pass: labels.
use Rattle.std.proofs.Common.{◌≡◌, ℕ, ◌+◌, ◌++◌, Bool, true, false, List, [], ◌∷◌, Option, Some, None, Result, Ok, Err, refl, sym, ap, subst, ◌∙◌, ◌⊎◌, inl, inr, arith, append_assoc, append-nil, if◌then◌else◌}
use Rattle.std.specs.Prelude.{is_some}
use Rattle.std.specs.Str.{bytes_eq}
use Rattle.std.proofs.lemmas.Slice.Eq.{bytes_eq-Decides}
use Rattle.scan_text.specs.declared.Place.{Place}
use Rattle.hack_asm.specs.Faults.{Wrong, LabelTwice}
use Rattle.hack_asm.specs.Program.{Table, address_in, entry_of, is_instruction, labels, or_entry, predefined_value, size, with_entry}
use Rattle.hack_asm.specs.Trees.{Line, label, address, compute}
use Rattle.asm_laws.specs.Symbols.{HasLabel, StandsBehind, label_line}
use Rattle.asm_laws.specs.Assembly.{IsTaken, LabelsAreNew}
use Rattle.outer_world.proofs.Splits.{last, no_split, split_last, within}
use Rattle.asm_laws.proofs.Lists.{at, find, longer}

-- ---- lines

pub size_last : (ls : List Line) (l : Line) → size (ls ++ l ∷ []) ≡ size ls + (if is_instruction l then 1 else 0)
size_last [] l = omega arith
size_last (k ∷ ls) l = let h = size_last ls l in omega arith

-- the name that a line gives to a place
abbrev label_name : Line → List ℕ
label_name (Some (label s)) = s.name
label_name _ = []

pub same_label : (n m : List ℕ) (p q : Place) → label_line n p ≡ label_line m q → n ≡ m
same_label n m p q e = ap label_name e

-- ---- tables

entry_last : (t : Table) (name m : List ℕ) (k : ℕ) → entry_of (with_entry t name k) m ≡ or_entry (entry_of t m) (if bytes_eq m name then Some k else None)
entry_last [] name m k = refl
entry_last (e ∷ t) name m k = by (bytes_eq m e.0) (entry_last t name m k)
  where
    by : (b : Bool) → entry_of (with_entry t name k) m ≡ or_entry (entry_of t m) (if bytes_eq m name then Some k else None)
        → (if b then Some e.1 else entry_of (with_entry t name k) m) ≡ or_entry (if b then Some e.1 else entry_of t m) (if bytes_eq m name then Some k else None)
    by true h = refl
    by false h = h

pub entry_own : (t : Table) (name m : List ℕ) (k : ℕ) → m ≡ name → entry_of t m ≡ None → entry_of (with_entry t name k) m ≡ Some k
entry_own t name m k e none = entry_last t name m k ∙ ap (λ (o : Option ℕ). or_entry o (if bytes_eq m name then Some k else None)) none ∙ ap (λ (b : Bool). if b then Some k else None) ((bytes_eq-Decides m name).1 e)

pub entry_kept : (t : Table) (name m : List ℕ) (k v : ℕ) → entry_of t m ≡ Some v → entry_of (with_entry t name k) m ≡ Some v
entry_kept t name m k v e = entry_last t name m k ∙ ap (λ (o : Option ℕ). or_entry o (if bytes_eq m name then Some k else None)) e

-- an entry is an old one or that which was added
pub entry_cases : (t : Table) (name m : List ℕ) (k v : ℕ) → entry_of (with_entry t name k) m ≡ Some v → (entry_of t m ≡ Some v) ⊎ ((m ≡ name) × (v ≡ k))
entry_cases t name m k v e = by (entry_of t m) (bytes_eq m name) refl refl (sym (entry_last t name m k) ∙ e)
  where
    by : (o : Option ℕ) (b : Bool) → entry_of t m ≡ o → bytes_eq m name ≡ b → or_entry o (if b then Some k else None) ≡ Some v → (entry_of t m ≡ Some v) ⊎ ((m ≡ name) × (v ≡ k))
    by (Some w) b there test f = inl (there ∙ f)
    by None true there test f = let s : k ≡ v = cc in inr ((bytes_eq-Decides m name).0 test, sym s)
    by None false there test f = absurd (let bad : ⊥ = cc in bad)

-- ---- what is entered

-- the labels of some lines are new, and the table has them
pub record Entered (all : List Line) (t : Table) : Type 0 where
  pub new : LabelsAreNew all
  pub is : (name : List ℕ) (v : ℕ) → entry_of t name ≡ Some v → StandsBehind all name v
  pub has : (name : List ℕ) (v : ℕ) → StandsBehind all name v → entry_of t name ≡ Some v

pub labelled : (all : List Line) (name : List ℕ) (v : ℕ) → StandsBehind all name v → HasLabel all name
labelled all name v h = at (λ (l : Line). (p : Place) × (l ≡ label_line name p)) all h.before h.behind (label_line name h.at) h.here (h.at, refl)

-- which label it is
pub label_of : (all : List Line) (name : List ℕ) → HasLabel all name → (v : ℕ) × StandsBehind all name v
label_of all name h =
    let f = find (λ (l : Line). (p : Place) × (l ≡ label_line name p)) all h in
    (size f.before, record { before = f.before; behind = f.behind; at = f.is.0; here = f.here ∙ ap (λ (l : Line). f.before ++ l ∷ f.behind) f.is.1; count = refl })

pub stands_on : (all rest : List Line) (name : List ℕ) (v : ℕ) → StandsBehind all name v → StandsBehind (all ++ rest) name v
stands_on all rest name v h = record { before = h.before; behind = h.behind ++ rest; at = h.at; here = longer all rest h.before h.behind (label_line name h.at) h.here; count = h.count }

begun : Entered [] []
begun = record {
  new = λ before behind name p e taken. no_split before behind (label_line name p) e;
  is = λ name v e. absurd (let bad : ⊥ = cc in bad);
  has = λ name v h. absurd (no_split h.before h.behind (label_line name h.at) h.here);
}

-- a line that is no label
module _ (all : List Line) (t : Table) (h : Entered all t) (l : Line) (no_label : (name : List ℕ) (p : Place) → l ≡ label_line name p → ⊥) where
  other : Entered (all ++ l ∷ []) t
  other = record {
    new = λ before behind name p e taken. elim (split_last all before behind l (label_line name p) e) [ last b y ↦ absurd (no_label name p (sym y)) | within d f ↦ h.new before d name p f taken ];
    is = λ name v e. stands_on all (l ∷ []) name v (h.is name v e);
    has = λ name v s. elim (split_last all s.before s.behind l (label_line name s.at) s.here) [
      | last b y ↦ absurd (no_label name s.at (sym y))
      | within d f ↦ h.has name v (record { before = s.before; behind = d; at = s.at; here = f; count = s.count })
    ];
  }

-- a new label
module _ (all : List Line) (t : Table) (h : Entered all t) (name : List ℕ) (p : Place) (free : IsTaken all name → ⊥) (absent : entry_of t name ≡ None) where
  one_more : Entered (all ++ label_line name p ∷ []) (with_entry t name (size all))
  one_more = record {
    new = λ before behind m q e taken. elim (split_last all before behind (label_line name p) (label_line m q) e) [
      | last b y ↦ free (subst (λ (n : List ℕ). IsTaken all n) (same_label m name q p y) (subst (λ (ls : List Line). IsTaken ls m) b taken))
      | within d f ↦ h.new before d m q f taken
    ];
    is = λ m v e. elim (entry_cases t name m (size all) v e) [
      | inl k ↦ stands_on all (label_line name p ∷ []) m v (h.is m v k)
      | inr k ↦ record { before = all; behind = []; at = p; here = ap (λ (n : List ℕ). all ++ label_line n p ∷ []) (sym k.0); count = k.1 }
    ];
    has = λ m v s. elim (split_last all s.before s.behind (label_line name p) (label_line m s.at) s.here) [
      | last b y ↦
          let same = same_label m name s.at p y in
          entry_own t name m (size all) same (ap (entry_of t) same ∙ absent) ∙ ap Some (sym (s.count ∙ ap size b))
      | within d f ↦ entry_kept t name m (size all) v (h.has m v (record { before = s.before; behind = d; at = s.at; here = f; count = s.count }))
    ];
  }

-- ---- the walk

-- all labels are entered, or the first that is taken is reported
pub data Walked (all : List Line) : Result Table Wrong → Type 0 where
  entered : {t : Table} → Entered all t → Walked all (Ok t)
  repeated : (before behind : List Line) (name : List ℕ) (p : Place) → all ≡ before ++ label_line name p ∷ behind → LabelsAreNew before → IsTaken before name → Walked all (Err (LabelTwice name p))

-- a symbol that is predefined or entered is taken
taken_of : (all : List Line) (t : Table) (h : Entered all t) (name : List ℕ) → is_some (address_in t name) ≡ true → IsTaken all name
taken_of all t h name e = by (predefined_value name) (entry_of t name) refl refl e
  where
    by : (o r : Option ℕ) → predefined_value name ≡ o → entry_of t name ≡ r → is_some (or_entry o r) ≡ true → IsTaken all name
    by (Some n) r is there f = inl (n, is)
    by None (Some v) is there f = inr (labelled all name v (h.is name v there))
    by None None is there f = absurd (let bad : ⊥ = cc in bad)

pub record Free (t : Table) (name : List ℕ) : Type 0 where
  pub unlisted : predefined_value name ≡ None
  pub absent : entry_of t name ≡ None

pub free_of : (t : Table) (name : List ℕ) → is_some (address_in t name) ≡ false → Free t name
free_of t name e = by (predefined_value name) (entry_of t name) refl refl e
  where
    by : (o r : Option ℕ) → predefined_value name ≡ o → entry_of t name ≡ r → is_some (or_entry o r) ≡ false → Free t name
    by (Some n) r is there f = absurd (let bad : ⊥ = cc in bad)
    by None (Some v) is there f = absurd (let bad : ⊥ = cc in bad)
    by None None is there f = record { unlisted = is; absent = there }

no_value : (o : Option ℕ) (n : ℕ) → o ≡ None → o ≡ Some n → ⊥
no_value o n e f = cc

pub untaken : (all : List Line) (t : Table) → Entered all t → (name : List ℕ) → Free t name → IsTaken all name → ⊥
untaken all t h name free (inl k) = no_value (predefined_value name) k.0 free.unlisted k.1
untaken all t h name free (inr k) = let s = label_of all name k in no_value (entry_of t name) s.0 free.absent (h.has name s.0 s.1)

-- the step of a walk: the lines so far have one line more
on_with : (before rest : List Line) (l : Line) (n : ℕ) (t : Table) → n ≡ size before + (if is_instruction l then 1 else 0) → Walked ((before ++ l ∷ []) ++ rest) (labels (size (before ++ l ∷ [])) t rest) → Walked (before ++ l ∷ rest) (labels n t rest)
on_with before rest l n t e w =
    subst (λ (k : ℕ). Walked (before ++ l ∷ rest) (labels k t rest)) (size_last before l ∙ sym e)
    (subst (λ (ls : List Line). Walked ls (labels (size (before ++ l ∷ [])) t rest)) (append_assoc before (l ∷ []) rest) w)

walk : (before rest : List Line) (t : Table) → Entered before t → Walked (before ++ rest) (labels (size before) t rest)
walk before [] t h = subst (λ (ls : List Line). Walked ls (Ok t)) (sym (append-nil before)) (entered h)
walk before (None ∷ rest) t h =
    on_with before rest None (size before) t (omega arith) (walk (before ++ None ∷ []) rest t (other before t h None (λ name p e. cc)))
walk before (Some (address a) ∷ rest) t h =
    on_with before rest (Some (address a)) (size before + 1) t (omega arith) (walk (before ++ Some (address a) ∷ []) rest t (other before t h (Some (address a)) (λ name p e. cc)))
walk before (Some (compute c) ∷ rest) t h =
    on_with before rest (Some (compute c)) (size before + 1) t (omega arith) (walk (before ++ Some (compute c) ∷ []) rest t (other before t h (Some (compute c)) (λ name p e. cc)))
walk before (Some (label s) ∷ rest) t h = by (is_some (address_in t s.name)) refl (λ u k. walk (before ++ Some (label s) ∷ []) rest u k)
  where
    by : (b : Bool) → is_some (address_in t s.name) ≡ b → ((u : Table) → Entered (before ++ Some (label s) ∷ []) u → Walked ((before ++ Some (label s) ∷ []) ++ rest) (labels (size (before ++ Some (label s) ∷ [])) u rest))
        → Walked (before ++ Some (label s) ∷ rest) (if b then Err (LabelTwice s.name s.place) else labels (size before) (with_entry t s.name (size before)) rest)
    by true e go = repeated before rest s.name s.place refl h.new (taken_of before t h s.name e)
    by false e go =
        let free = free_of t s.name e in
        on_with before rest (Some (label s)) (size before) (with_entry t s.name (size before)) (omega arith)
        (go (with_entry t s.name (size before)) (one_more before t h s.name s.place (untaken before t h s.name free) free.absent))

pub walked : (all : List Line) → Walked all (labels 0 [] all)
unfolding begun
walked all = walk [] all [] begun
