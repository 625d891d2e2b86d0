-- The place where a text ends is looked at by no rule that is read.
use Rattle.std.proofs.Common.{◌≡◌, true, List, [], ◌∷◌, refl, sym, ap, ◌∙◌}
use Rattle.scan_text.specs.declared.Place.{Place}
use Rattle.grammar.specs.Rules.{Rule, Tree, Rules, enters, here, Reads, marked, worded, at_end, both, left, right, passed, taken, ended, again, named, inside}

-- the grammar for a text that ends at another place
abbrev pub ending_at : {T S N V : Type 0} → Place → Rules T S N V → Rules T S N V
ending_at q g = record { body = g.body; opens = g.opens; place = g.place; ending = q }

module _ {T S N V : Type 0} (g : Rules T S N V) (q : Place) where
  here_same : (a : Rule T S N V) (ts : List T) → enters g a ts ≡ true → here g ts ≡ here (ending_at q g) ts
  here_same a [] e = absurd cc
  here_same a (t ∷ ts) e = refl

  pub ends_anywhere : {s s' : S} {r : Rule T S N V} {ts us : List T} {x : Tree V} → Reads T S N V g s r ts x s' us → Reads T S N V (ending_at q g) s r ts x s' us
  ends_anywhere (marked e) = marked e
  ends_anywhere (worded e c) = worded e c
  ends_anywhere at_end = at_end
  ends_anywhere (both h k) = both (ends_anywhere h) (ends_anywhere k)
  ends_anywhere (left e h) = left e (ends_anywhere h)
  ends_anywhere (right e f h) = right e f (ends_anywhere h)
  ends_anywhere (passed e) = passed e
  ends_anywhere (taken e h) = taken e (ends_anywhere h)
  ends_anywhere (ended e) = ended e
  ends_anywhere (again e h k) = again e (ends_anywhere h) (ends_anywhere k)
  ends_anywhere (named h) = named (ends_anywhere h)
  ends_anywhere (inside {s = s} {s1 = s1} {enter = enter} {a = a} {ts = ts} e c h) = inside e (ap (enter s) (sym (here_same a ts e)) ∙ c) (ends_anywhere h)
