-- A text has no more words than bytes. A name among them is letters, digits and underscores, an integer is at most 32,767, and a string is ASCII.
use Rattle.std.proofs.Common.{◌≡◌, ℕ, zero, suc, ◌+◌, ◌-◌, ◌≤◌, ◌<◌, Bool, true, false, List, [], ◌∷◌, length, take, drop, Result, Ok, Err, Option, Some, None, refl, sym, subst, arith, cond, add-one}
use Rattle.std.proofs.lemmas.Bool.{ltb-false, eqb-true}
use Rattle.std.proofs.lemmas.List.Elements.{All-nil, All-cons}
use Rattle.std.specs.Prelude.{IfOk, nat_lt, ◌==◌}
use Rattle.std.specs.List.{All}
use Rattle.scan_text.specs.declared.Place.{Place}
use Rattle.scan_text.specs.declared.Blank.{Blank}
use Rattle.scan_text.specs.declared.Blank.TheVariants.{Over, Unclosed, Other}
use Rattle.scan_text.specs.Blanks.{blank, starts}
use Rattle.scan_text.specs.Text.{start, step, front, is_digit, digits, decimal, capped_count}
use Rattle.grammar.specs.declared.Fault.{Fault}
use Rattle.grammar.specs.declared.Fault.TheVariants.{Grammar}
use Rattle.grammar.specs.Cutting.{Piece, Passed, Token, Wrong, cut, cut_by, with_token, past_blank, past_blanks}
use Rattle.grammar.proofs.Runs.{run_text}
use Rattle.jack_tree.specs.declared.token.Keyword.{Keyword}
use Rattle.jack_tree.specs.declared.token.Kind.{Kind}
use Rattle.jack_tree.specs.declared.token.Kind.TheVariants as kind
use Rattle.jack_tree.specs.Tokens.{Word, keyword_of}
use Rattle.grammar.specs.Words.{is_letter, is_name_byte}
use Rattle.jack_lexer.specs.Tokens.{piece, close, tokens_of, token_of, kind_of, word_piece, number_piece, symbol_piece, text_piece, is_sign, is_text_byte}
use Rattle.tower.specs.Read.{IsName}

abbrev pub IsAsciiText : List ℕ → Type 0
IsAsciiText text = All (λ b. b < 128) text

abbrev pub IsReadText : Kind → List ℕ → Type 0
IsReadText (kind.Keyword k) text = Unit {0}
IsReadText (kind.Symbol b) text = Unit {0}
IsReadText (kind.Integer n) text = n ≤ 32767
IsReadText kind.Text text = IsAsciiText text
IsReadText kind.Identifier text = IsName text

abbrev pub IsReadWord : Word → Type 0
IsReadWord t = IsReadText t.kind t.text

abbrev pub AreReadWords : List Word → Type 0
AreReadWords [] = Unit {0}
AreReadWords (t ∷ ts) = IsReadWord t × AreReadWords ts

-- ---- what one piece of the text is

abbrev IsReadPiece : Piece Word → Type 0
IsReadPiece (Passed n) = Unit {0}
IsReadPiece (Token t n) = (at : Place) → IsReadWord (t at)
IsReadPiece (Wrong f) = Unit {0}

pick : (b : Bool) (x y : Piece Word) → (b ≡ true → IsReadPiece x) → IsReadPiece y → IsReadPiece (cond b x y)
pick true x y p q = p refl
pick false x y p q = q

-- a name or a keyword

front_by : (b : ℕ) (bs : List ℕ) (t : Bool) → is_name_byte b ≡ t → IsName (front is_name_byte bs) → IsName (cond t (b ∷ front is_name_byte bs) [])
front_by b bs true e h = All-cons (λ (c : ℕ). is_name_byte c ≡ true) b (front is_name_byte bs) e h
front_by b bs false e h = All-nil (λ (c : ℕ). is_name_byte c ≡ true)

front_name : (bs : List ℕ) → IsName (front is_name_byte bs)
front_name [] = All-nil (λ (c : ℕ). is_name_byte c ≡ true)
front_name (b ∷ bs) = front_by b bs (is_name_byte b) refl (front_name bs)

letter_names : (b : ℕ) → is_letter b ≡ true → is_name_byte b ≡ true
letter_names b e = rw e refl

word_name : (b : ℕ) (bs : List ℕ) → is_letter b ≡ true → IsName (take (suc (length (front is_name_byte (b ∷ bs)) - 1)) (b ∷ bs))
word_name b bs e = subst IsName (sym (run_text is_name_byte (b ∷ bs) b refl (letter_names b e))) (front_name (b ∷ bs))

by_keyword : (k : Option Keyword) (text : List ℕ) → IsName text → IsReadText (kind_of k) text
by_keyword None text h = h
by_keyword (Some k) text h = tt

word_read : (b : ℕ) (bs : List ℕ) → is_letter b ≡ true → IsReadPiece (word_piece (b ∷ bs))
word_read b bs e at = by_keyword (keyword_of (front is_name_byte (b ∷ bs))) _ (word_name b bs e)

-- an integer

number_by : (b : Bool) (n k : ℕ) (f : Place → Fault) (bs : List ℕ) → nat_lt 32767 n ≡ b → IsReadPiece (cond b (Wrong f) (token_of (kind.Integer n) k bs))
number_by true n k f bs e = tt
number_by false n k f bs e = λ at. ltb-false 32767 n e

number_read : (bs : List ℕ) → IsReadPiece (number_piece bs)
number_read bs = number_by _ (capped_count (decimal 0 (digits bs))) _ _ bs refl

-- a string

text_byte_small : (b : ℕ) → is_text_byte b ≡ true → b < 128
text_byte_small b e = grind (arith, e)

quote_small : (b : ℕ) → (b == 34) ≡ true → b < 128
quote_small b e = let same = eqb-true b 34 e in omega (arith, same)

run_by : (b : ℕ) (bs : List ℕ) (t : Bool) → is_text_byte b ≡ t → (starts 34 (drop (length (front is_text_byte bs)) bs) ≡ true → IsAsciiText (take (suc (length (front is_text_byte bs))) bs))
    → starts 34 (drop (length (cond t (b ∷ front is_text_byte bs) [])) (b ∷ bs)) ≡ true → IsAsciiText (take (suc (length (cond t (b ∷ front is_text_byte bs) []))) (b ∷ bs))
run_by b bs true e h q = All-cons (λ (c : ℕ). c < 128) b _ (text_byte_small b e) (h q)
run_by b bs false e h q = All-cons (λ (c : ℕ). c < 128) b [] (quote_small b q) (All-nil (λ (c : ℕ). c < 128))

-- bytes up to the quote that ends them
run_ascii : (bs : List ℕ) → starts 34 (drop (length (front is_text_byte bs)) bs) ≡ true → IsAsciiText (take (suc (length (front is_text_byte bs))) bs)
run_ascii [] q = All-nil (λ (c : ℕ). c < 128)
run_ascii (b ∷ bs) q = run_by b bs (is_text_byte b) refl (λ p. run_ascii bs p) q

quoted_ascii : (b : ℕ) (bs : List ℕ) (n : ℕ) → (b == 34) ≡ true → n ≡ suc (length (front is_text_byte bs)) → starts 34 (drop n (b ∷ bs)) ≡ true → IsAsciiText (take (suc n) (b ∷ bs))
quoted_ascii b bs n e same q =
    let ends : starts 34 (drop (suc (length (front is_text_byte bs))) (b ∷ bs)) ≡ true = subst (λ (k : ℕ). starts 34 (drop k (b ∷ bs)) ≡ true) same q in
    subst (λ (k : ℕ). IsAsciiText (take (suc k) (b ∷ bs))) (sym same) (All-cons (λ (c : ℕ). c < 128) b _ (quote_small b e) (run_ascii bs ends))

text_read : (b : ℕ) (bs : List ℕ) → (b == 34) ≡ true → IsReadPiece (text_piece (b ∷ bs))
text_read b bs e =
    let n = length (front is_text_byte bs) + 1 in
    pick (starts 34 (drop n (b ∷ bs))) (token_of kind.Text n (b ∷ bs)) (Wrong Grammar) (λ q at. quoted_ascii b bs n e (add-one (length (front is_text_byte bs))) q) tt

piece_read : (bs : List ℕ) → IsReadPiece (piece bs)
piece_read [] = tt
piece_read (b ∷ bs) =
    pick (is_letter b) (word_piece (b ∷ bs)) _ (word_read b bs)
    (pick (is_sign b) (symbol_piece b (b ∷ bs)) _ (λ e at. tt)
    (pick (is_digit b) (number_piece (b ∷ bs)) _ (λ e. number_read (b ∷ bs))
    (pick (b == 34) (text_piece (b ∷ bs)) (Wrong Grammar) (text_read b bs) tt)))

past_read : (b : Blank) (p : Piece Word) → IsReadPiece p → IsReadPiece (past_blank b p)
past_read (Over n) p h = tt
past_read Unclosed p h = tt
past_read Other p h = h

-- ---- all words of a text

abbrev AreFewRead : ℕ → Result (List Word) Fault → Type 0
AreFewRead n r = IfOk r (λ ts. (length ts ≤ n) × AreReadWords ts)

more_read : (n : ℕ) (r : Result (List Word) Fault) → AreFewRead n r → AreFewRead (suc n) r
more_read n (Ok ts) h = (omega (arith, h.0), h.1)
more_read n (Err f) h = tt

followed_read : (n : ℕ) (t : Word) (r : Result (List Word) Fault) → IsReadWord t → AreFewRead n r → AreFewRead (suc n) (with_token t r)
followed_read n t (Ok ts) l h = (omega (arith, h.0), (l, h.1))
followed_read n t (Err f) l h = tt

by_read : (n : ℕ) (p : Piece Word) → IsReadPiece p → (last : Option Word) (at : Place) (go : Option Word → ℕ → Result (List Word) Fault) → ((l : Option Word) (k : ℕ) → AreFewRead n (go l k)) → AreFewRead (suc n) (cut_by p last at go)
by_read n (Passed k) l last at go h = more_read n _ (h last k)
by_read n (Token t k) l last at go h = followed_read n (t at) _ (l at) (h (Some (t at)) k)
by_read n (Wrong f) l last at go h = tt

cut_read : (last : Option Word) (n : ℕ) (at : Place) (bs : List ℕ) → AreFewRead (length bs) (cut (past_blanks piece) close last n at bs)
cut_read last n at [] = (omega arith, tt)
cut_read last (suc n) at (b ∷ bs) = more_read (length bs) _ (cut_read last n (step at b) bs)
cut_read last zero at (b ∷ bs) =
    by_read (length bs) (past_blanks piece (b ∷ bs)) (past_read (blank (b ∷ bs)) _ (piece_read (b ∷ bs))) last at _ (λ l k. cut_read l k (step at b) bs)

ok_read : (n : ℕ) (r : Result (List Word) Fault) (ts : List Word) → AreFewRead n r → r ≡ Ok ts → (length ts ≤ n) × AreReadWords ts
ok_read n r ts h e = subst (λ (x : Result (List Word) Fault). AreFewRead n x) e h

abbrev cut_whole : List ℕ → Result (List Word) Fault
cut_whole text = cut (past_blanks piece) close None 0 start text

within_limit : (b : Bool) (text : List ℕ) (f : Fault) (ts : List Word) → nat_lt 1048576 (length text) ≡ b → cond b (Err f) (cut_whole text) ≡ Ok ts → (length ts ≤ 1048576) × AreReadWords ts
within_limit true text f ts e h = absurd cc
within_limit false text f ts e h =
    let told = ok_read (length text) (cut_whole text) ts (cut_read None 0 start text) h in
    (omega (arith, told.0, ltb-false 1048576 (length text) e), told.1)

pub words_read : (text : List ℕ) (ts : List Word) → tokens_of text ≡ Ok ts → (length ts ≤ 1048576) × AreReadWords ts
words_read text ts e = within_limit (nat_lt 1048576 (length text)) text _ ts refl e
