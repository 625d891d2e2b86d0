-- What is left is no longer than what was there, and shorter after a rule that takes a token.
use Rattle.std.proofs.Common.{◌≡◌, ◌<◌, ◌≤◌, Bool, true, false, List, length, refl, arith, ◌⊎◌, inl, inr}
use Rattle.grammar.specs.Rules.{Rule, mark, word, end, seq, choice, option, repeat, name, within, Tree, Rules, Reads, marked, worded, at_end, both, left, right, passed, taken, ended, again, named, inside}

module _ (T S N V : Type 0) (g : Rules T S N V) where
  pub no_longer : {s s' : S} {r : Rule T S N V} {ts us : List T} {x : Tree V} → Reads T S N V g s r ts x s' us → length us ≤ length ts
  no_longer (marked e) = omega arith
  no_longer (worded e c) = omega arith
  no_longer at_end = omega arith
  no_longer (both p q) = omega (arith, no_longer p, no_longer q)
  no_longer (left e p) = no_longer p
  no_longer (right e f p) = no_longer p
  no_longer (passed e) = omega arith
  no_longer (taken e p) = no_longer p
  no_longer (ended e) = omega arith
  no_longer (again e p q) = omega (arith, no_longer p, no_longer q)
  no_longer (named p) = no_longer p
  no_longer (inside e c p) = no_longer p

abbrev or : Bool → Bool → Bool
or true b = true
or false b = b

abbrev and : Bool → Bool → Bool
and true b = b
and false b = false

or_cases : (a b : Bool) → or a b ≡ true → (a ≡ true) ⊎ (b ≡ true)
or_cases true b e = inl refl
or_cases false b e = inr e

and_left : (a b : Bool) → and a b ≡ true → a ≡ true
and_left true b e = refl
and_left false b e = absurd cc

and_right : (a b : Bool) → and a b ≡ true → b ≡ true
and_right true b e = e
and_right false b e = absurd cc

-- a rule takes a token
abbrev pub takes : {T S N V : Type 0} → Rule T S N V → Bool
takes (mark v is) = true
takes (word is check value) = true
takes end = false
takes (seq a b) = or (takes a) (takes b)
takes (choice a b) = and (takes a) (takes b)
takes (option a) = false
takes (repeat a) = false
takes (name n) = true
takes (within enter leave a) = takes a

module _ (T S N V : Type 0) (g : Rules T S N V) (all : (n : N) → takes (g.body n) ≡ true) where
  pub shorter : {s s' : S} {r : Rule T S N V} {ts us : List T} {x : Tree V} → Reads T S N V g s r ts x s' us → takes r ≡ true → length us < length ts
  shorter (marked e) t = omega arith
  shorter (worded e c) t = omega arith
  shorter at_end t = absurd cc
  shorter (both {a = a} {b = b} p q) t =
      elim (or_cases (takes a) (takes b) t) [
        | inl h ↦ omega (arith, shorter p h, no_longer T S N V g q)
        | inr h ↦ omega (arith, no_longer T S N V g p, shorter q h)
      ]
  shorter (left {a = a} {b = b} e p) t = shorter p (and_left (takes a) (takes b) t)
  shorter (right {a = a} {b = b} e f p) t = shorter p (and_right (takes a) (takes b) t)
  shorter (passed e) t = absurd cc
  shorter (taken e p) t = absurd cc
  shorter (ended e) t = absurd cc
  shorter (again e p q) t = absurd cc
  shorter (named {n = n} p) t = shorter p (all n)
  shorter (inside e c p) t = shorter p t
