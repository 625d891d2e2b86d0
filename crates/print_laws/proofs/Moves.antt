-- Things whose tokens a text has, wherever they stand there: with the places of the text they have just these tokens.
use Rattle.std.proofs.Common.{◌≡◌, ℕ, List, [], ◌∷◌, ◌++◌, refl, sym, ap, subst, ◌∙◌, map}
use Rattle.std.specs.List.{flat_map}
use Rattle.scan_text.specs.declared.Place.{Place}
use Rattle.scan_text.specs.Text.{start}
use Rattle.jack_tree.specs.declared.token.Kind.{Kind}
use Rattle.jack_tree.specs.Tokens.{Word}
use Rattle.jack_parser.specs.Grammar.{Fixed, Placed}
use Rattle.jack_parser.specs.Spelling.{Tokens, Says, Say}
use Rattle.jack_parser.specs.PrintedClass.{Tells, Tell}

-- A front of some tokens tells this, or says it, and these are left.
abbrev pub TellFront : Tokens → List Word → List Word → Type 0
TellFront [] ts us = ts ≡ us
TellFront (v ∷ vs) [] us = ⊥
TellFront (v ∷ vs) (t ∷ ts) us = Tells t v × TellFront vs ts us

abbrev pub SayFront : Tokens → List Word → List Word → Type 0
SayFront [] ts us = ts ≡ us
SayFront (v ∷ vs) [] us = ⊥
SayFront (v ∷ vs) (t ∷ ts) us = Says t v × SayFront vs ts us

pub tell_front : (ts : List Word) (vs : Tokens) → Tell ts vs → TellFront vs ts []
tell_front [] [] h = refl
tell_front [] (v ∷ vs) h = absurd h
tell_front (t ∷ ts) [] h = absurd h
tell_front (t ∷ ts) (v ∷ vs) h = (h.0, tell_front ts vs h.1)

pub say_all : (vs : Tokens) (ts : List Word) → SayFront vs ts [] → Say ts vs
say_all [] [] h = tt
say_all [] (t ∷ ts) h = absurd cc
say_all (v ∷ vs) [] h = absurd h
say_all (v ∷ vs) (t ∷ ts) h = (h.0, say_all vs ts h.1)

-- a front that tells one after another
tell_two : (a b : Tokens) (ts us : List Word) → TellFront (a ++ b) ts us → (ms : List Word) × TellFront a ts ms × TellFront b ms us
tell_two [] b ts us h = (ts, refl, h)
tell_two (v ∷ a) b [] us h = absurd h
tell_two (v ∷ a) b (t ∷ ts) us h = let r = tell_two a b ts us h.1 in (r.0, (h.0, r.1), r.2)

say_two : (a b : Tokens) (ts ms us : List Word) → SayFront a ts ms → SayFront b ms us → SayFront (a ++ b) ts us
say_two [] b ts ms us h k = subst (λ (l : List Word). SayFront b l us) (sym h) k
say_two (v ∷ a) b [] ms us h k = absurd h
say_two (v ∷ a) b (t ∷ ts) ms us h k = (h.0, say_two a b ts ms us h.1 k)

-- a thing with the places of a text, equal to another but for places
pub record Moved {A : Type 0} (tokens : A → Tokens) (unplaced : A → A) (x : A) (ts us : List Word) : Type 0 where
  pub thing : A
  pub says : SayFront (tokens thing) ts us
  pub same : unplaced thing ≡ unplaced x

pub record Moves {A : Type 0} (tokens : A → Tokens) (unplaced : A → A) (x : A) : Type 0 where
  pub move : (ts us : List Word) → TellFront (tokens x) ts us → Moved tokens unplaced x ts us

-- ---- what has no place

abbrev pub still : Unit {0} → Unit {0}
still u = u

fixed_moved : (k : Kind) (ts us : List Word) → TellFront (Fixed k ∷ []) ts us → SayFront (Fixed k ∷ []) ts us
fixed_moved k [] us h = h
fixed_moved k (t ∷ ts) us h = h

pub fixed : (k : Kind) → Moves (λ (u : Unit {0}). Fixed k ∷ []) still tt
fixed k = record { move = λ ts us h. record { thing = tt; says = fixed_moved k ts us h; same = refl } }

pub nothing : Moves (λ (u : Unit {0}). []) still tt
nothing = record { move = λ ts us h. record { thing = tt; says = h; same = refl } }

-- ---- a place

placed_moved : (k : Kind) (x : List ℕ) (at : Place) (ts us : List Word) → TellFront (Placed k x at ∷ []) ts us → (p : Place) × SayFront (Placed k x p ∷ []) ts us
placed_moved k x at [] us h = absurd h
placed_moved k x at (t ∷ ts) us h = (t.place, ((h.0.0, h.0.1, refl), h.1))

pub placed : (k : Kind) (x : List ℕ) (at : Place) → Moves (λ (p : Place). Placed k x p ∷ []) (λ (p : Place). start) at
placed k x at = record { move = λ ts us h. let r = placed_moved k x at ts us h in record { thing = r.0; says = r.1; same = refl } }

-- ---- one after another

module _ {A B : Type 0} {ta : A → Tokens} {ua : A → A} {tb : B → Tokens} {ub : B → B} {a : A} where
  pub both : {b : B} → Moves ta ua a → Moves tb ub b → Moves (λ (p : A × B). ta p.0 ++ tb p.1) (λ (p : A × B). (ua p.0, ub p.1)) (a, b)
  both {b = b} m n = record {
    move = λ ts us h.
        let r = tell_two (ta a) (tb b) ts us h in
        let x = m.move ts r.0 r.1 in
        let y = n.move r.0 us r.2 in
        record { thing = (x.thing, y.thing); says = say_two (ta x.thing) (tb y.thing) ts r.0 us x.says y.says; same = λ i. (x.same i, y.same i) };
  }

  -- the same thing as part of another
  pub through : (f : A → B) → ((x : A) → tb (f x) ≡ ta x) → ((x : A) → ub (f x) ≡ f (ua x)) → Moves ta ua a → Moves tb ub (f a)
  through f e g m = record {
    move = λ ts us h.
        let x = m.move ts us (subst (λ (l : Tokens). TellFront l ts us) (e a) h) in
        record {
          thing = f x.thing;
          says = subst (λ (l : Tokens). SayFront l ts us) (sym (e x.thing)) x.says;
          same = g x.thing ∙ (ap f x.same ∙ sym (g a));
        };
  }

module _ {A : Type 0} {ta : A → Tokens} {ua : A → A} {a : A} where
  -- behind and before a token that has no place
  pub before : (k : Kind) → Moves ta ua a → Moves (λ (x : A). Fixed k ∷ ta x) ua a
  before k m = record {
    move = λ ts us h.
        let r = tell_two (Fixed k ∷ []) (ta a) ts us h in
        let x = m.move r.0 us r.2 in
        record { thing = x.thing; says = say_two (Fixed k ∷ []) (ta x.thing) ts r.0 us (fixed_moved k ts r.0 r.1) x.says; same = x.same };
  }

  pub after : (k : Kind) → Moves ta ua a → Moves (λ (x : A). ta x ++ Fixed k ∷ []) ua a
  after k m = record {
    move = λ ts us h.
        let r = tell_two (ta a) (Fixed k ∷ []) ts us h in
        let x = m.move ts r.0 r.1 in
        record { thing = x.thing; says = say_two (ta x.thing) (Fixed k ∷ []) ts r.0 us x.says (fixed_moved k r.0 us r.2); same = x.same };
  }

-- ---- many

module _ {A : Type 0} (ta : A → Tokens) (ua : A → A) (each : (x : A) → Moves ta ua x) where
  pub all : (xs : List A) → Moves (flat_map ta) (map ua) xs
  all [] = record { move = λ ts us h. record { thing = []; says = h; same = refl } }
  all (x ∷ xs) = through {tb = flat_map ta} {ub = map ua} (λ (p : A × List A). p.0 ∷ p.1) (λ p. refl) (λ p. refl) (both (each x) (all xs))
