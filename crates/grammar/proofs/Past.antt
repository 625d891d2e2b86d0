-- Passing over blanks and comments at once is cutting them off one by one.
use Rattle.std.proofs.Common.{◌≡◌, ℕ, zero, suc, ◌<◌, ◌≤◌, List, [], ◌∷◌, ◌++◌, length, Result, Ok, Err, Option, Some, refl, sym, ap, subst, ◌∙◌, arith}
use Rattle.scan_text.specs.declared.Place.{Place}
use Rattle.scan_text.specs.declared.Scan.{Scan}
use Rattle.scan_text.specs.declared.Blank.{Blank}
use Rattle.scan_text.specs.declared.Blank.TheVariants.{Over, Unclosed, Other}
use Rattle.scan_text.specs.Text.{step, walk, first}
use Rattle.scan_text.specs.Blanks.{blank, blanks, blanks_by}
use Rattle.scan_text.specs.View.{left_bytes, place}
use Rattle.grammar.specs.declared.Fault.{Fault}
use Rattle.grammar.specs.declared.Fault.TheVariants.{Grammar}
use Rattle.grammar.specs.Cutting.{Piece, cut, cut_by, past_blank, past_blanks, PastBlanks, Next, TokenBy, last_of}
use Rattle.grammar.proofs.Cuts.{Cuts, Cuts-taken, Cuts-failed, goes_on, with_front}

-- what blanks leave: the text ends where it ended, is no longer, and does not begin with a blank
pub record Leaves (at : Place) (bs : List ℕ) (p : Place) (rest : List ℕ) : Type 0 where
  pub ends : walk p rest ≡ walk at bs
  pub no_longer : length rest ≤ length bs
  pub no_blank : blank rest ≡ Other

abbrev found : Place × List ℕ → Result (Place × List ℕ) (Place × List ℕ)
found x = Ok x

found_is : (x y : Place × List ℕ) → found x ≡ found y → x ≡ y
found_is x y e = cc

leaves_same : (at p : Place) (bs rest : List ℕ) → blank bs ≡ Other → found (at, bs) ≡ found (p, rest) → Leaves at bs p rest
leaves_same at p bs rest o e = let q = found_is (at, bs) (p, rest) e in let a : at ≡ p = ap (λ (x : Place × List ℕ). x.0) q in let b : bs ≡ rest = ap (λ (x : Place × List ℕ). x.1) q in record { ends = sym (λ i. walk (a i) (b i)); no_longer = omega (arith, ap length b); no_blank = ap blank (sym b) ∙ o }

leaves_one : (at p : Place) (b : ℕ) (bs rest : List ℕ) → Leaves (step at b) bs p rest → Leaves at (b ∷ bs) p rest
leaves_one at p b bs rest h = record { ends = h.ends; no_longer = omega (arith, h.no_longer); no_blank = h.no_blank }

leaves_by : (k : Blank) (at p : Place) (b : ℕ) (bs rest : List ℕ) → ((n : ℕ) → blanks n (step at b) bs ≡ Ok (p, rest) → Leaves (step at b) bs p rest) → blank (b ∷ bs) ≡ k → blanks_by k at (b ∷ bs) (λ n. blanks n (step at b) bs) ≡ Ok (p, rest) → Leaves at (b ∷ bs) p rest
leaves_by (Over n) at p b bs rest behind is e = leaves_one at p b bs rest (behind n e)
leaves_by Unclosed at p b bs rest behind is e = absurd cc
leaves_by Other at p b bs rest behind is e = leaves_same at p (b ∷ bs) rest is e

pub leaves_blanks : (n : ℕ) (at p : Place) (bs rest : List ℕ) → blanks n at bs ≡ Ok (p, rest) → Leaves at bs p rest
leaves_blanks n at p [] rest e = leaves_same at p [] rest refl e
leaves_blanks (suc n) at p (b ∷ bs) rest e = leaves_one at p b bs rest (leaves_blanks n (step at b) p bs rest e)
leaves_blanks zero at p (b ∷ bs) rest e = leaves_by (blank (b ∷ bs)) at p b bs rest (λ n q. leaves_blanks n (step at b) p bs rest q) refl e

-- the cutting of what was found after the blanks
abbrev cut_found : {T : Type 0} → (Place → List ℕ → Result (List T) Fault) → Result (Place × List ℕ) (Place × List ℕ) → Result (List T) Fault
cut_found go (Ok x) = go x.0 x.1
cut_found go (Err x) = Err (Grammar x.0)

module _ {T : Type 0} (piece : List ℕ → Piece T) (close : Option T → Place → List T) (last : Option T) where
  abbrev here : Result (Place × List ℕ) (Place × List ℕ) → Result (List T) Fault
  here r = cut_found (λ p rest. cut (past_blanks piece) close last 0 p rest) r

  cut-by : (k : Blank) (at : Place) (b : ℕ) (bs : List ℕ) → ((n : ℕ) → cut (past_blanks piece) close last n (step at b) bs ≡ here (blanks n (step at b) bs)) → blank (b ∷ bs) ≡ k → cut (past_blanks piece) close last 0 at (b ∷ bs) ≡ here (blanks 0 at (b ∷ bs))
  cut-by (Over n) at b bs behind is = ap (λ (k : Blank). cut_by (past_blank k (piece (b ∷ bs))) last at (λ l m. cut (past_blanks piece) close l m (step at b) bs)) is ∙ behind n ∙ ap (λ (k : Blank). here (blanks_by k at (b ∷ bs) (λ m. blanks m (step at b) bs))) (sym is)
  cut-by Unclosed at b bs behind is = ap (λ (k : Blank). cut_by (past_blank k (piece (b ∷ bs))) last at (λ l m. cut (past_blanks piece) close l m (step at b) bs)) is ∙ ap (λ (k : Blank). here (blanks_by k at (b ∷ bs) (λ m. blanks m (step at b) bs))) (sym is)
  cut-by Other at b bs behind is = ap (λ (k : Blank). here (blanks_by k at (b ∷ bs) (λ m. blanks m (step at b) bs))) (sym is)

  pub cut-blanks : (n : ℕ) (at : Place) (bs : List ℕ) → cut (past_blanks piece) close last n at bs ≡ cut_found (λ p rest. cut (past_blanks piece) close last 0 p rest) (blanks n at bs)
  cut-blanks n at [] = refl
  cut-blanks (suc n) at (b ∷ bs) = cut-blanks n (step at b) bs
  cut-blanks zero at (b ∷ bs) = cut-by (blank (b ∷ bs)) at b bs (λ n. cut-blanks n (step at b) bs) refl

module _ {T : Type 0} (piece : List ℕ → Piece T) (close : Option T → Place → List T) where
  -- the loop of a lexer, past blanks and comments
  pub Cuts-blanks : (front : List T) (old new : Scan) (all : Result (List T) Fault) (finish : Place) (u : Unit {0}) → PastBlanks old (Ok u) new → Cuts (past_blanks piece) close front old all finish → Cuts (past_blanks piece) close front new all finish
  Cuts-blanks front old new all finish u h so_far = record {
    tokens = ap (with_front front) (sym (cut-blanks piece close (last_of front) 0 (place old) (left_bytes old) ∙ ap (cut_found (λ p rest. cut (past_blanks piece) close (last_of front) 0 p rest)) h)) ∙ so_far.tokens;
    ends = (leaves_blanks 0 (place old) (place new) (left_bytes old) (left_bytes new) h).ends ∙ so_far.ends;
  }

  -- a comment that is not closed
  pub Cuts-unclosed : (front : List T) (old new : Scan) (all : Result (List T) Fault) (finish : Place) (f : Fault) → PastBlanks old (Err f) new → Cuts (past_blanks piece) close front old all finish → all ≡ Err f
  Cuts-unclosed front old new all finish f h so_far =
      sym so_far.tokens ∙ ap (with_front front) (cut-blanks piece close (last_of front) 0 (place old) (left_bytes old) ∙ ap (cut_found (λ p rest. cut (past_blanks piece) close (last_of front) 0 p rest)) h.0 ∙ ap Err (sym h.1))

  -- a piece that begins where no blank stands
  pub no_blank : (old new : Scan) (r : Result (Option T) Fault) → blank (left_bytes old) ≡ Other → Next (piece (left_bytes old)) old r new → Next (past_blanks piece (left_bytes old)) old r new
  no_blank old new r o h = subst (λ (k : Blank). Next (past_blank k (piece (left_bytes old))) old r new) (sym o) h

  pub first_past : (old new : Scan) (u : Unit {0}) → PastBlanks old (Ok u) new → blank (left_bytes new) ≡ Other
  first_past old new u h = (leaves_blanks 0 (place old) (place new) (left_bytes old) (left_bytes new) h).no_blank

  pub shorter_past : (old new : Scan) (u : Unit {0}) → PastBlanks old (Ok u) new → length (left_bytes new) ≤ length (left_bytes old)
  shorter_past old new u h = (leaves_blanks 0 (place old) (place new) (left_bytes old) (left_bytes new) h).no_longer

module _ {C T : Type 0} (view : C → T) (piece : List ℕ → Piece T) (close : Option T → Place → List T) where
  -- the loop of a lexer takes a token where no blank stands
  pub Cuts-token : (front : List T) (old new : Scan) (all : Result (List T) Fault) (finish : Place) (b : ℕ) (c : C) → blank (left_bytes old) ≡ Other → first (left_bytes old) ≡ Some b → TokenBy view (piece (left_bytes old)) old (Ok c) new → Cuts (past_blanks piece) close front old all finish → Cuts (past_blanks piece) close (front ++ view c ∷ []) new all finish
  Cuts-token front old new all finish b c o begun h so_far = Cuts-taken (past_blanks piece) close front old new all finish b (view c) begun (no_blank piece close old new (Ok (Some (view c))) o h) so_far

  -- or meets the fault of one
  pub Cuts-wrong : (front : List T) (old new : Scan) (all : Result (List T) Fault) (finish : Place) (b : ℕ) (f : Fault) → blank (left_bytes old) ≡ Other → first (left_bytes old) ≡ Some b → TokenBy view (piece (left_bytes old)) old (Err f) new → Cuts (past_blanks piece) close front old all finish → all ≡ Err f
  Cuts-wrong front old new all finish b f o begun h so_far = Cuts-failed (past_blanks piece) close front old new all finish b f begun (no_blank piece close old new (Err f) o h) so_far

  pub shorter_token : (old new : Scan) (b : ℕ) (c : C) → first (left_bytes old) ≡ Some b → TokenBy view (piece (left_bytes old)) old (Ok c) new → length (left_bytes new) < length (left_bytes old)
  shorter_token old new b c begun h = goes_on piece close old new (Some (view c)) b begun h
