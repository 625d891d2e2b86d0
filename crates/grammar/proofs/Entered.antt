-- Rules that begin with a token of their own are entered where they are read, and stop at the next token where they are not.
use Rattle.std.proofs.Common.{◌≡◌, Bool, true, false, cond, List, [], ◌∷◌, refl, sym, ap, subst, ◌∙◌}
use Rattle.std.specs.Prelude.{◌||◌, ◌&&◌}
use Rattle.grammar.specs.declared.Fault.{Fault}
use Rattle.grammar.specs.declared.Fault.TheVariants.{Grammar}
use Rattle.grammar.specs.declared.ReadError.{ReadError}
use Rattle.grammar.specs.Reading.{Halt}
use Rattle.grammar.specs.Rules.{Rule, mark, word, end, seq, choice, option, repeat, name, within, Tree, Right, Rules, is_empty, begins, enters, here, Reads, marked, worded, at_end, both, left, right, passed, taken, ended, again, named, inside, Stops, not_mark, not_word, past, not_end, first, second, in_left, in_right, neither, in_option, in_repeat, later, in_name, not_inside, too_far, in_within}
use Rattle.grammar.proofs.Steps.{halt, next_left, next_right}

abbrev pub firm : {T S N V : Type 0} → Rule T S N V → Bool
firm (mark v is) = true
firm (word is check value) = true
firm end = false
firm (seq a b) = firm a
firm (choice a b) = true
firm (option a) = false
firm (repeat a) = false
firm (name n) = false
firm (within enter leave a) = false

module _ (T S N V : Type 0) where
  solid : (r : Rule T S N V) → firm r ≡ true → is_empty r ≡ false
  solid (mark v is) e = refl
  solid (word is check value) e = refl
  solid end e = absurd cc
  solid (seq a b) e = ap (λ (x : Bool). x && is_empty b) (solid a e)
  solid (choice a b) e = refl
  solid (option a) e = absurd cc
  solid (repeat a) e = absurd cc
  solid (name n) e = absurd cc
  solid (within enter leave a) e = absurd cc

module _ (T S N V : Type 0) (g : Rules T S N V) where
  pub seq_enters : (a b : Rule T S N V) (ts : List T) → firm a ≡ true → enters g (seq a b) ts ≡ enters g a ts
  seq_enters a b [] e = refl
  seq_enters a b (t ∷ ts) e = ap (λ (x : Bool). cond x (begins g.opens a t || begins g.opens b t) (begins g.opens a t)) (solid T S N V a e)

  pub entered : {s s' : S} {r : Rule T S N V} {ts us : List T} {x : Tree V} → Reads T S N V g s r ts x s' us → firm r ≡ true → enters g r ts ≡ true
  entered (marked e) f = e
  entered (worded e c) f = e
  entered at_end f = absurd cc
  entered (both {a = a} {b = b} {ts = ts} p q) f = seq_enters a b ts f ∙ entered p f
  entered (left {a = a} {b = b} {ts = ts} e p) f = next_left (begins g.opens a) (begins g.opens b) ts e
  entered (right {a = a} {b = b} {ts = ts} e h p) f = next_right (begins g.opens a) (begins g.opens b) ts true e h
  entered (passed e) f = absurd cc
  entered (taken e p) f = absurd cc
  entered (ended e) f = absurd cc
  entered (again e p q) f = absurd cc
  entered (named p) f = absurd cc
  entered (inside e c p) f = absurd cc

  pub astray : {s : S} {r : Rule T S N V} {ts : List T} {f : Fault} → Stops T S N V g s r ts f → firm r ≡ true → enters g r ts ≡ false → f ≡ Grammar (here g ts)
  astray (not_mark e) h n = refl
  astray (not_word e) h n = refl
  astray (past e c) h n = absurd (cc (e, n))
  astray not_end h n = absurd cc
  astray (first {a = a} {b = b} {ts = ts} p) h n = astray p h (sym (seq_enters a b ts h) ∙ n)
  astray (second {a = a} {b = b} {ts = ts} p q) h n = let e = entered p h in let m = sym (seq_enters a b ts h) ∙ n in absurd (cc (e, m))
  astray (in_left {a = a} {b = b} {ts = ts} e p) h n = let m = next_left (begins g.opens a) (begins g.opens b) ts e in absurd (cc (m, n))
  astray (in_right {a = a} {b = b} {ts = ts} e i p) h n = let m = next_right (begins g.opens a) (begins g.opens b) ts true e i in absurd (cc (m, n))
  astray (neither e i) h n = refl
  astray (in_option e p) h n = absurd cc
  astray (in_repeat e p) h n = absurd cc
  astray (later e p q) h n = absurd cc
  astray (in_name p) h n = absurd cc
  astray (not_inside e) h n = absurd cc
  astray (too_far e c) h n = absurd cc
  astray (in_within e c p) h n = absurd cc

module _ {T S N V : Type 0} {g : Rules T S N V} where
  -- the later part of a choice, where the first one is not entered
  pub skip : {s s' : S} {a b : Rule T S N V} {ts us : List T} {x : Tree V} → enters g a ts ≡ false → firm b ≡ true → Reads T S N V g s b ts x s' us → Reads T S N V g s (choice a b) ts (Right x) s' us
  skip e h p = right e (entered T S N V g p h) p

  skip_by : (s : S) (a b : Rule T S N V) (ts : List T) (f : Fault) (c : Bool) → enters g b ts ≡ c → enters g a ts ≡ false → firm b ≡ true → Stops T S N V g s b ts f → Stops T S N V g s (choice a b) ts f
  skip_by s a b ts f true i e h p = in_right e i p
  skip_by s a b ts f false i e h p = subst (λ (d : Fault). Stops T S N V g s (choice a b) ts d) (sym (astray T S N V g p h i)) (neither e i)

  pub skip_stops : {s : S} {a b : Rule T S N V} {ts : List T} {f : Fault} → enters g a ts ≡ false → firm b ≡ true → Stops T S N V g s b ts f → Stops T S N V g s (choice a b) ts f
  skip_stops {s = s} {a = a} {b = b} {ts = ts} {f = f} e h p = skip_by s a b ts f (enters g b ts) refl e h p

  pub halt_skip : {s : S} {a b : Rule T S N V} {ts : List T} {e : ReadError} → enters g a ts ≡ false → firm b ≡ true → Halt (Stops T S N V g s b ts) e → Halt (Stops T S N V g s (choice a b) ts) e
  halt_skip i h p = halt (λ f q. skip_stops i h q) p
