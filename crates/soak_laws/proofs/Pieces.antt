-- Tokens that stand at places, and the text that is printed of them.
use Rattle.std.proofs.Common.{◌≡◌, ℕ, zero, suc, List, [], ◌∷◌, ◌++◌, map, refl, ap, ◌∙◌}
use Rattle.std.specs.List.{flat_map}
use Rattle.std.proofs.lemmas.List.{map-append}
use Rattle.std.proofs.lemmas.Grind.{flat_map-append}
use Rattle.scan_text.specs.declared.Place.{Place}
use Rattle.scan_text.specs.Text.{start}
use Rattle.grammar.specs.Printed.{set_off}
use Rattle.jack_tree.specs.declared.token.Kind.{Kind}
use Rattle.jack_tree.specs.Tokens.{Word}
use Rattle.jack_parser.specs.Grammar.{Said, Fixed, Placed}
use Rattle.jack_parser.specs.Spelling.{Tokens, Says, Say}
use Rattle.jack_parser.specs.Printed.{said_text}
use Rattle.jack_parser.specs.PrintedClass.{CanBe, CanAllSay, Tells, Tell}

-- ---- Places

-- the place of each token, by its number
abbrev pub Places : Type 0
Places = ℕ → Place

abbrev pub skip : ℕ → Places → Places
skip zero p = p
skip (suc n) p = skip n (λ i. p (suc i))

abbrev pub size_of : Tokens → ℕ
size_of [] = zero
size_of (v ∷ vs) = suc (size_of vs)

-- what a token says, at another place
abbrev pub moved : Place → Said → Said
moved at (Fixed k) = Fixed k
moved at (Placed k text from) = Placed k text at

abbrev pub located : Places → Tokens → Tokens
located p [] = []
located p (v ∷ vs) = moved (p 0) v ∷ located (λ i. p (suc i)) vs

located_two : (p : Places) (vs ws : Tokens) → located p (vs ++ ws) ≡ located p vs ++ located (skip (size_of vs) p) ws
located_two p [] ws = refl
located_two p (v ∷ vs) ws = ap (λ (l : Tokens). moved (p 0) v ∷ l) (located_two (λ i. p (suc i)) vs ws)

abbrev pub sum : ℕ → ℕ → ℕ
sum zero n = n
sum (suc m) n = suc (sum m n)

size_two : (vs ws : Tokens) (m n : ℕ) → size_of vs ≡ m → size_of ws ≡ n → size_of (vs ++ ws) ≡ sum m n
size_two vs ws m n h k = size_by vs ws ∙ (λ i. sum (h i) (k i))
  where
    size_by : (vs ws : Tokens) → size_of (vs ++ ws) ≡ sum (size_of vs) (size_of ws)
    size_by [] ws = refl
    size_by (v ∷ vs) ws = ap suc (size_by vs ws)

-- the places of the tokens of a text
abbrev pub places : List Word → Places
places [] i = start
places (t ∷ ts) zero = t.place
places (t ∷ ts) (suc i) = places ts i

one_says : (t : Word) (v : Said) → Tells t v → Says t (moved t.place v)
one_says t (Fixed k) h = h
one_says t (Placed k text at) h = (h.0, h.1, refl)

-- Tokens that stand for this say it at their places.
pub says_there : (ts : List Word) (vs : Tokens) → Tell ts vs → Say ts (located (places ts) vs)
says_there [] [] h = tt
says_there [] (v ∷ vs) h = absurd h
says_there (t ∷ ts) [] h = absurd h
says_there (t ∷ ts) (v ∷ vs) h = (one_says t v h.0, says_there ts vs h.1)

-- ---- Pieces

abbrev pub printed : Tokens → List ℕ
printed vs = flat_map set_off (map said_text vs)

printed_two : (vs ws : Tokens) → printed (vs ++ ws) ≡ printed vs ++ printed ws
printed_two vs ws = ap (flat_map set_off) (map-append said_text vs ws) ∙ flat_map-append set_off (map said_text vs) (map said_text ws)

can_two : (vs ws : Tokens) → CanAllSay vs → CanAllSay ws → CanAllSay (vs ++ ws)
can_two [] ws h k = k
can_two (v ∷ vs) ws h k = (h.0, can_two vs ws h.1 k)

-- These tokens, wherever they stand, are this many, can stand in a text, and this is printed of
-- them.
pub record Piece (size : ℕ) (f : Places → Tokens) (x : List ℕ) : Type 0 where
  pub long : (p : Places) → size_of (f p) ≡ size
  pub moves : (p q : Places) → located p (f q) ≡ f p
  pub text : (p : Places) → printed (f p) ≡ x
  pub can : (p : Places) → CanAllSay (f p)

pub both : {m n : ℕ} {f g : Places → Tokens} {x y : List ℕ} → Piece m f x → Piece n g y → Piece (sum m n) (λ p. f p ++ g (skip m p)) (x ++ y)
both {m} {n} {f} {g} {x} {y} a b = record {
  long = λ p. size_two (f p) (g (skip m p)) m n (a.long p) (b.long (skip m p));
  moves = λ p q.
      located_two p (f q) (g (skip m q)) ∙ (λ i. a.moves p q i ++ located (skip (a.long q i) p) (g (skip m q))) ∙ ap (λ (l : Tokens). f p ++ l) (b.moves (skip m p) (skip m q));
  text = λ p. printed_two (f p) (g (skip m p)) ∙ (λ i. a.text p i ++ b.text (skip m p) i);
  can = λ p. can_two (f p) (g (skip m p)) (a.can p) (b.can (skip m p));
}

-- one token, whose place is kept or not
pub placed : (k : Kind) (text x : List ℕ) → CanBe k text → printed (Placed k text start ∷ []) ≡ x → Piece 1 (λ p. Placed k text (p 0) ∷ []) x
placed k text x h e = record { long = λ p. refl; moves = λ p q. refl; text = λ p. e; can = λ p. (h, tt) }

pub fixed : (k : Kind) (x : List ℕ) → CanBe k [] → printed (Fixed k ∷ []) ≡ x → Piece 1 (λ p. Fixed k ∷ []) x
fixed k x h e = record { long = λ p. refl; moves = λ p q. refl; text = λ p. e; can = λ p. (h, tt) }

pub nothing : Piece 0 (λ p. []) []
nothing = record { long = λ p. refl; moves = λ p q. refl; text = λ p. refl; can = λ p. tt }
