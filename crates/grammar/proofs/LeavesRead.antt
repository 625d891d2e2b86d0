-- The tokens of what was read are the tokens that were read, but for their places; and other tokens with the same text are read alike.
use Rattle.std.proofs.Common.{◌≡◌, true, List, ◌∷◌, ◌++◌, map, refl, sym, ap, ◌∙◌, append_assoc}
use Rattle.std.proofs.lemmas.List.{map-append}
use Rattle.grammar.specs.Rules.{Rule, mark, word, end, seq, choice, option, repeat, name, within, Tree, Rules, Reads, marked, worded, at_end, both, left, right, passed, taken, ended, again, named, inside}
use Rattle.grammar.specs.Leaves.{leaves}

-- W texts of tokens. Each mark says what its token is, each word says what its token is.
module _ (T S N V W : Type 0) (g : Rules T S N V) (text : T → W) (text_of : V → W) where
  abbrev pub Tells : Rule T S N V → Type 0
  Tells (mark v is) = (t : T) → is t ≡ true → text t ≡ text_of v
  Tells (word is check value) = (t : T) → is t ≡ true → text t ≡ text_of (value t)
  Tells end = Unit {0}
  Tells (seq a b) = Tells a × Tells b
  Tells (choice a b) = Tells a × Tells b
  Tells (option a) = Tells a
  Tells (repeat a) = Tells a
  Tells (name n) = Unit {0}
  Tells (within enter leave a) = Tells a

  two : (a b : List V) (us vs ts : List T) → map text ts ≡ map text_of a ++ map text us → map text us ≡ map text_of b ++ map text vs → map text ts ≡ map text_of (a ++ b) ++ map text vs
  two a b us vs ts e f =
      e ∙ ap (λ (l : List W). map text_of a ++ l) f ∙ sym (append_assoc (map text_of a) (map text_of b) (map text vs))
      ∙ ap (λ (l : List W). l ++ map text vs) (sym (map-append text_of a b))

  module _ (all : (n : N) → Tells (g.body n)) where
    pub tokens_are : {s s' : S} {r : Rule T S N V} {ts us : List T} {x : Tree V} → Tells r → Reads T S N V g s r ts x s' us → map text ts ≡ map text_of (leaves g x r) ++ map text us
    tokens_are h (marked {t = t} {ts = ts} e) = ap (λ (w : W). w ∷ map text ts) (h t e)
    tokens_are h (worded {t = t} {ts = ts} e c) = ap (λ (w : W). w ∷ map text ts) (h t e)
    tokens_are h at_end = refl
    tokens_are h (both {a = a} {b = b} {x = x} {y = y} {ts = ts} {us = us} {vs = vs} p q) = two (leaves g x a) (leaves g y b) us vs ts (tokens_are h.0 p) (tokens_are h.1 q)
    tokens_are h (left e p) = tokens_are h.0 p
    tokens_are h (right e f p) = tokens_are h.1 p
    tokens_are h (passed e) = refl
    tokens_are h (taken e p) = tokens_are h p
    tokens_are h (ended e) = refl
    tokens_are h (again {a = a} {x = x} {y = y} {ts = ts} {us = us} {vs = vs} e p q) = two (leaves g x a) (leaves g y (repeat a)) us vs ts (tokens_are h p) (tokens_are h q)
    tokens_are h (named {n = n} p) = tokens_are (all n) p
    tokens_are h (inside e c p) = tokens_are h p
