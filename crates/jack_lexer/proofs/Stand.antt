-- The tokens that a text is cut into stand in it one after another.
use Rattle.std.proofs.Common.{◌≡◌, ℕ, zero, suc, ◌-◌, ◌+◌, Bool, true, false, cond, List, [], ◌∷◌, ◌++◌, length, take, drop, map, Result, Ok, Err, Option, None, refl, sym, ap, subst, ◌∙◌, append_assoc}
use Rattle.std.specs.Prelude.{IfOk, Vec, nat_lt, min, ◌==◌}
use Rattle.std.specs.Global.{Global}
use Rattle.scan_text.specs.declared.Place.{Place}
use Rattle.scan_text.specs.declared.Blank.{Blank}
use Rattle.scan_text.specs.declared.Blank.TheVariants.{Over, Unclosed, Other}
use Rattle.scan_text.specs.Text.{start, step, walk, front, is_digit, digits, decimal, capped_count}
use Rattle.scan_text.specs.Blanks.{blank, starts}
use Rattle.grammar.specs.declared.Fault.{Fault}
use Rattle.grammar.specs.declared.Fault.TheVariants.{Grammar, Range}
use Rattle.grammar.specs.declared.ReadError.{ReadError}
use Rattle.grammar.specs.Reading.{Gives}
use Rattle.grammar.specs.Cutting.{Piece, Passed, Token, Wrong, cut, cut_by, past_blank, past_blanks}
use Rattle.grammar.proofs.Cuts.{within_limit, followed_is, none_is}
use Rattle.jack_tree.specs.declared.token.Kind.TheVariants.{Integer, Text}
use Rattle.jack_tree.specs.declared.token.Token as declared
use Rattle.jack_tree.specs.Tokens.{Word, view, StandIn}
use Rattle.grammar.specs.Words.{is_letter}
use Rattle.jack_lexer.specs.Tokens.{piece, close, tokens_of, token_of, word_piece, symbol_piece, number_piece, text_piece, is_sign, is_text_byte}

walk-append : (at : Place) (g h : List ℕ) → walk (walk at g) h ≡ walk at (g ++ h)
walk-append at [] h = refl
walk-append at (b ∷ g) h = walk-append (step at b) g h

take-drop : (n : ℕ) (bs : List ℕ) → take n bs ++ drop n bs ≡ bs
take-drop zero [] = refl
take-drop zero (b ∷ bs) = refl
take-drop (suc n) [] = refl
take-drop (suc n) (b ∷ bs) = ap (λ (l : List ℕ). b ∷ l) (take-drop n bs)

-- more bytes before
behind : (gap rest : List ℕ) (at : Place) (ws : List Word) → StandIn (walk at gap) rest ws → StandIn at (gap ++ rest) ws
behind gap rest at [] h = tt
behind gap rest at (w ∷ ws) h = (gap ++ h.0, h.1, ap (λ (l : List ℕ). gap ++ l) h.2 ∙ sym (append_assoc gap h.0 (w.text ++ h.1)), h.3 ∙ walk-append at gap h.0, h.4)

-- a token is the bytes at the front, at their place
abbrev Tells : List ℕ → Piece Word → Type 0
Tells bs (Passed n) = Unit {0}
Tells bs (Token t n) = (at : Place) → ((t at).text ≡ take (suc n) bs) × ((t at).place ≡ at)
Tells bs (Wrong f) = Unit {0}

tells_if : (bs : List ℕ) (b : Bool) (p q : Piece Word) → Tells bs p → Tells bs q → Tells bs (cond b p q)
tells_if bs true p q x y = x
tells_if bs false p q x y = y

tells : (bs : List ℕ) → Tells bs (piece bs)
tells [] = tt
tells (b ∷ bs) =
    let all = b ∷ bs in
    let number = capped_count (decimal 0 (digits all)) in
    let word : Tells all (word_piece all) = λ at. (refl, refl) in
    let symbol : Tells all (symbol_piece b all) = λ at. (refl, refl) in
    let integer : Tells all (number_piece all) = tells_if all (nat_lt 32767 number) (Wrong (λ at. Range at (min number 1000000000))) (token_of (Integer number) (length (digits all) - 1) all) tt (λ at. (refl, refl)) in
    let quoted : Tells all (text_piece all) = tells_if all (starts 34 (drop (length (front is_text_byte (drop 1 all)) + 1) all)) (token_of Text (length (front is_text_byte (drop 1 all)) + 1) all) (Wrong Grammar) (λ at. (refl, refl)) tt in
    tells_if all (is_letter b) (word_piece all) _ word (tells_if all (is_sign b) (symbol_piece b all) _ symbol (tells_if all (is_digit b) (number_piece all) _ integer (tells_if all (b == 34) (text_piece all) (Wrong Grammar) quoted tt)))

tells_past : (bs : List ℕ) (k : Blank) → Tells bs (past_blank k (piece bs))
tells_past bs (Over n) = tt
tells_past bs Unclosed = tt
tells_past bs Other = tells bs

taken : (at : Place) (b n : ℕ) (bs : List ℕ) (w : Word) (us : List Word) → (w.text ≡ take (suc n) (b ∷ bs)) × (w.place ≡ at) → StandIn (walk (step at b) (take n bs)) (drop n bs) us → StandIn at (b ∷ bs) (w ∷ us)
taken at b n bs w us h rest = (
  [],
  drop n bs,
  sym (ap (λ (l : List ℕ). l ++ drop n bs) h.0 ∙ ap (λ (l : List ℕ). b ∷ l) (take-drop n bs)),
  h.1,
  subst (λ (p : Place). StandIn p (drop n bs) us) (sym (λ i. walk (h.1 i) (h.0 i))) rest,
)

module _ (last : Option Word) (at : Place) (b : ℕ) (bs : List ℕ) (go : Option Word → ℕ → Result (List Word) Fault) (behind_it : (l : Option Word) (n : ℕ) (us : List Word) → go l n ≡ Ok us → StandIn (walk (step at b) (take n bs)) (drop n bs) us) where
  stands_by : (p : Piece Word) (ts : List Word) → Tells (b ∷ bs) p → cut_by p last at go ≡ Ok ts → StandIn at (b ∷ bs) ts
  stands_by (Passed n) ts h e =
      subst (λ (l : List ℕ). StandIn at (b ∷ l) ts) (take-drop n bs) (behind (b ∷ take n bs) (drop n bs) at ts (behind_it last n ts e))
  stands_by (Token t n) ts h e =
      let f = followed_is (t at) _ ts e in
      subst (λ (l : List Word). StandIn at (b ∷ bs) l) f.2 (taken at b n bs (t at) f.0 (h at) (behind_it _ n f.0 f.1))
  stands_by (Wrong f) ts h e = absurd cc

stands : (last : Option Word) (n : ℕ) (at : Place) (bs : List ℕ) (ts : List Word) → cut (past_blanks piece) close last n at bs ≡ Ok ts → StandIn (walk at (take n bs)) (drop n bs) ts
stands last n at [] ts e = subst (λ (l : List Word). StandIn (walk at (take n [])) (drop n []) l) (none_is ts _ e refl) tt
stands last (suc n) at (b ∷ bs) ts e = stands last n (step at b) bs ts e
stands last zero at (b ∷ bs) ts e = stands_by last at b bs (λ l n. cut (past_blanks piece) close l n (step at b) bs) (λ l n us f. stands l n (step at b) bs us f) (past_blanks piece (b ∷ bs)) ts (tells_past (b ∷ bs) (blank (b ∷ bs))) e

all_stand : (text : List ℕ) (ts : List Word) → cut (past_blanks piece) close None 0 start text ≡ Ok ts → StandIn start text ts
all_stand [] ts e = stands None 0 start [] ts e
all_stand (b ∷ bs) ts e = stands None 0 start (b ∷ bs) ts e

pub tokens_stand : (text : List ℕ) (r : Result (Vec declared.Token Global × Place) ReadError) → Gives (λ x. map view x.0.items) r (tokens_of text) → IfOk r (λ x. StandIn start text (map view x.0.items))
tokens_stand text (Ok x) h = all_stand text (map view x.0.items) (within_limit (nat_lt 1048576 (length text)) _ _ _ h)
tokens_stand text (Err e) h = tt
