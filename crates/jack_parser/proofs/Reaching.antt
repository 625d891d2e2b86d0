-- What is read by a rule is read by its parts.
use Rattle.std.proofs.Common.{◌≡◌, List, Result, Ok, refl}
use Rattle.scan_text.specs.declared.Place.{Place}
use Rattle.grammar.specs.declared.Fault.{Fault}
use Rattle.grammar.specs.Rules.{Rule, mark, word, seq, choice, option, repeat, name, within, Tree, Node, Leaf, Pair, Left, Right, Absent, Present, NoMore, More, Rules, Reads, marked, worded, at_end, both, left, right, passed, taken, ended, again, named, inside}

module _ (T S N V : Type 0) (g : Rules T S N V) where
  -- the rule reads some tokens, counting from one state to another
  abbrev pub Reaches : S → Rule T S N V → Tree V → S → Type 0
  Reaches s r x s' = (ts : List T) × (us : List T) × Reads T S N V g s r ts x s' us

  -- a token was counted, and it says this
  pub record IsCounted (s : S) (check : S → T → Result S Fault) (value : T → V) (v : V) (s' : S) : Type 0 where
    pub token : T
    pub counts : check s token ≡ Ok s'
    pub says : v ≡ value token

  pub record IsInside (s : S) (enter : S → Place → Result S Fault) (leave : S → S → S) (a : Rule T S N V) (x : Tree V) (s' : S) : Type 0 where
    pub at : Place
    pub inner : S
    pub outer : S
    pub enters : enter s at ≡ Ok inner
    pub reads : Reaches inner a x outer
    pub leaves : s' ≡ leave s outer

  -- the parts of what a rule reads
  abbrev pub Parts : S → Rule T S N V → Tree V → S → Type 0
  Parts s (mark v is) x s' = s' ≡ s
  Parts s (word is check value) (Leaf v) s' = IsCounted s check value v s'
  Parts s (seq a b) (Pair x y) s' = (s1 : S) × Reaches s a x s1 × Reaches s1 b y s'
  Parts s (choice a b) (Left x) s' = Reaches s a x s'
  Parts s (choice a b) (Right x) s' = Reaches s b x s'
  Parts s (option a) Absent s' = s' ≡ s
  Parts s (option a) (Present x) s' = Reaches s a x s'
  Parts s (repeat a) NoMore s' = s' ≡ s
  Parts s (repeat a) (More x y) s' = (s1 : S) × Reaches s a x s1 × Reaches s1 (repeat a) y s'
  Parts s (name n) (Node x) s' = Reaches s (g.body n) x s'
  Parts s (within enter leave a) (Node x) s' = IsInside s enter leave a x s'
  Parts s _ _ s' = Unit {0}

  parts_read : {s s' : S} {r : Rule T S N V} {ts us : List T} {x : Tree V} → Reads T S N V g s r ts x s' us → Parts s r x s'
  parts_read (marked e) = refl
  parts_read (worded {t = t} e c) = record { token = t; counts = c; says = refl }
  parts_read at_end = tt
  parts_read (both {s1 = s1} {ts = ts} {us = us} {vs = vs} p q) = (s1, (ts, us, p), (us, vs, q))
  parts_read (left {ts = ts} {us = us} e p) = (ts, us, p)
  parts_read (right {ts = ts} {us = us} e f p) = (ts, us, p)
  parts_read (passed e) = refl
  parts_read (taken {ts = ts} {us = us} e p) = (ts, us, p)
  parts_read (ended e) = refl
  parts_read (again {s1 = s1} {ts = ts} {us = us} {vs = vs} e p q) = (s1, (ts, us, p), (us, vs, q))
  parts_read (named {ts = ts} {us = us} p) = (ts, us, p)
  parts_read (inside {s1 = s1} {s2 = s2} {ts = ts} {us = us} e c p) = record { at = _; inner = s1; outer = s2; enters = c; reads = (ts, us, p); leaves = refl }

  pub parts : (s : S) (r : Rule T S N V) (x : Tree V) (s' : S) → Reaches s r x s' → Parts s r x s'
  parts s r x s' h = parts_read h.2
