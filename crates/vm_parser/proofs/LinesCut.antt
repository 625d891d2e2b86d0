-- The lines of a printed text are cut into the tokens of their words.
use Rattle.std.proofs.Common.{◌≡◌, ℕ, ◌-◌, ◌≤◌, false, List, [], ◌∷◌, ◌++◌, length, Option, Some, Result, Ok, Err, refl, sym, ap, ◌∙◌, arith, append_assoc}
use Rattle.scan_text.specs.declared.Place.{Place}
use Rattle.scan_text.specs.Text.{step, walk}
use Rattle.grammar.specs.declared.Fault.{Fault}
use Rattle.grammar.specs.Cutting.{Piece, Token, with_token, cut_by, cut}
use Rattle.grammar.specs.Lines.{is_open}
use Rattle.grammar.proofs.LinePieces.{cut_past}
use Rattle.grammar.proofs.Cuts.{with_front}
use Rattle.vm_parser.specs.declared.token.Kind.TheVariants as kind
use Rattle.vm_parser.specs.Tokens.{Word, made_word, piece, ends, close}
use Rattle.vm_parser.proofs.WordsCut.{Item, IsItem}

abbrev pub C : Option Word → Place → List ℕ → Result (List Word) Fault
C last at bs = cut piece close last 0 at bs

pub walk-append : (at : Place) (g h : List ℕ) → walk at (g ++ h) ≡ walk (walk at g) h
walk-append at [] h = refl
walk-append at (b ∷ g) h = walk-append (step at b) g h

one_front : (t : Word) (ts : List Word) (r : Result (List Word) Fault) → with_token t (with_front ts r) ≡ with_front (t ∷ ts) r
one_front t ts (Ok us) = refl
one_front t ts (Err f) = refl

no_front : (t : Word) (r : Result (List Word) Fault) → with_token t r ≡ with_front (t ∷ []) r
no_front t (Ok us) = refl
no_front t (Err f) = refl

two_fronts : (ts us : List Word) (r : Result (List Word) Fault) → with_front ts (with_front us r) ≡ with_front (ts ++ us) r
two_fronts ts us (Ok vs) = ap Ok (sym (append_assoc ts us vs))
two_fronts ts us (Err f) = refl

none_front : (r : Result (List Word) Fault) → r ≡ with_front [] r
none_front (Ok ts) = refl
none_front (Err f) = refl

token_cut : (last : Option Word) (at : Place) (x more : List ℕ) (t : Place → Word) → 1 ≤ length x → piece (x ++ more) ≡ Token t (length x - 1) → C last at (x ++ more) ≡ with_token (t at) (C (Some (t at)) (walk at x) more)
token_cut last at [] more t some e = absurd (omega arith)
token_cut last at (c ∷ w) more t some e =
    let n : length (c ∷ w) - 1 ≡ length w = omega arith in
    ap (λ (p : Piece Word). cut_by p last at (λ l n. cut piece close l n (step at c) (w ++ more))) (e ∙ ap (Token t) n)
    ∙ ap (with_token (t at)) (cut_past piece close w more (Some (t at)) (step at c))

-- These bytes, before others, are cut into these tokens, and a line is not open then.
pub record Cut (x : List ℕ) (at : Place) (ts : List Word) (last : Option Word) (rest : List ℕ) : Type 0 where
  pub then_last : Option Word
  pub closed : is_open ends then_last ≡ false
  pub cuts : C last at (x ++ rest) ≡ with_front ts (C then_last (walk at x) rest)

pub cut_none : (at : Place) (last : Option Word) (rest : List ℕ) → is_open ends last ≡ false → Cut [] at [] last rest
cut_none at last rest o = record { then_last = last; closed = o; cuts = none_front (C last at rest) }

pub cut_both : (x y : List ℕ) (at : Place) (ts us : List Word) (last : Option Word) (rest : List ℕ) → is_open ends last ≡ false → ((l : Option Word) → is_open ends l ≡ false → (r : List ℕ) → Cut x at ts l r) → ((l : Option Word) → is_open ends l ≡ false → (r : List ℕ) → Cut y (walk at x) us l r) → Cut (x ++ y) at (ts ++ us) last rest
cut_both x y at ts us last rest o a b =
    let p = a last o (y ++ rest) in
    let q = b p.then_last p.closed rest in
    record {
      then_last = q.then_last;
      closed = q.closed;
      cuts = ap (C last at) (append_assoc x y rest) ∙ p.cuts ∙ ap (with_front ts) q.cuts ∙ two_fronts ts us (C q.then_last (walk (walk at x) y) rest)
          ∙ ap (λ (p : Place). with_front (ts ++ us) (C q.then_last p rest)) (sym (walk-append at x y));
    }

abbrev pub tail_text : List Item → List ℕ
tail_text [] = 10 ∷ []
tail_text (i ∷ is) = 32 ∷ (i.text ++ tail_text is)

abbrev pub tail_tokens : Place → List Item → List Word
tail_tokens at [] = made_word kind.LineEnd at ∷ []
tail_tokens at (i ∷ is) = i.token (step at 32) ∷ tail_tokens (walk (step at 32) i.text) is

abbrev pub AreItems : List Item → Type 0
AreItems [] = Unit {0}
AreItems (i ∷ is) = IsItem i × AreItems is

item_cut : (last : Option Word) (at : Place) (i : Item) (is : List Item) (rest : List ℕ) → IsItem i → C last at (i.text ++ (tail_text is ++ rest)) ≡ with_token (i.token at) (C (Some (i.token at)) (walk at i.text) (tail_text is ++ rest))
item_cut last at i [] rest h = token_cut last at i.text (10 ∷ rest) i.token h.some (h.cuts 10 rest refl)
item_cut last at i (j ∷ is) rest h = token_cut last at i.text (32 ∷ ((j.text ++ tail_text is) ++ rest)) i.token h.some (h.cuts 32 ((j.text ++ tail_text is) ++ rest) refl)

line_ended : (last : Option Word) (at : Place) (rest : List ℕ) → C last at (10 ∷ rest) ≡ with_token (made_word kind.LineEnd at) (C (Some (made_word kind.LineEnd at)) (step at 10) rest)
line_ended last at rest = refl

tail_cut : (is : List Item) → AreItems is → (at : Place) (last : Option Word) (rest : List ℕ) → Cut (tail_text is) at (tail_tokens at is) last rest
tail_cut [] h at last rest = record {
  then_last = Some (made_word kind.LineEnd at);
  closed = refl;
  cuts = line_ended last at rest ∙ no_front (made_word kind.LineEnd at) (C (Some (made_word kind.LineEnd at)) (step at 10) rest);
}
tail_cut (i ∷ is) h at last rest =
    let p : Place = step at 32 in
    let q = tail_cut is h.1 (walk p i.text) (Some (i.token p)) rest in
    record {
      then_last = q.then_last;
      closed = q.closed;
      cuts = ap (C last p) (append_assoc i.text (tail_text is) rest) ∙ item_cut last p i is rest h.0 ∙ ap (with_token (i.token p)) q.cuts
          ∙ one_front (i.token p) (tail_tokens (walk p i.text) is) (C q.then_last (walk (walk p i.text) (tail_text is)) rest)
          ∙ ap (λ (z : Place). with_front (i.token p ∷ tail_tokens (walk p i.text) is) (C q.then_last z rest)) (sym (walk-append p i.text (tail_text is)));
    }

-- a line of words
abbrev pub line_text : Item → List Item → List ℕ
line_text i is = i.text ++ tail_text is

abbrev pub line_tokens : Place → Item → List Item → List Word
line_tokens at i is = i.token at ∷ tail_tokens (walk at i.text) is

pub line_cut : (i : Item) (is : List Item) → IsItem i → AreItems is → (at : Place) (last : Option Word) (rest : List ℕ) → Cut (line_text i is) at (line_tokens at i is) last rest
line_cut i is h hs at last rest =
    let q = tail_cut is hs (walk at i.text) (Some (i.token at)) rest in
    record {
      then_last = q.then_last;
      closed = q.closed;
      cuts = ap (C last at) (append_assoc i.text (tail_text is) rest) ∙ item_cut last at i is rest h ∙ ap (with_token (i.token at)) q.cuts
          ∙ one_front (i.token at) (tail_tokens (walk at i.text) is) (C q.then_last (walk (walk at i.text) (tail_text is)) rest)
          ∙ ap (λ (z : Place). with_front (line_tokens at i is) (C q.then_last z rest)) (sym (walk-append at i.text (tail_text is)));
    }
