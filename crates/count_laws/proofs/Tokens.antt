-- A text has at most one token more than bytes.
use Rattle.std.proofs.Common.{◌≡◌, ◌≤◌, ℕ, zero, suc, ◌+◌, Bool, true, false, cond, List, [], ◌∷◌, length, Option, Some, None, Result, Ok, Err, refl, subst, arith}
use Rattle.std.proofs.lemmas.Bool.{ltb-false}
use Rattle.std.specs.Prelude.{IfOk, nat_lt}
use Rattle.scan_text.specs.declared.Place.{Place}
use Rattle.scan_text.specs.Text.{start, step}
use Rattle.grammar.specs.declared.Fault.{Fault}
use Rattle.grammar.specs.Cutting.{Piece, Passed, Token, Wrong, cut, cut_by, cut_text, with_token}

module _ {T : Type 0} (piece : List ℕ → Piece T) (close : Option T → Place → List T) (closes : (last : Option T) (at : Place) → length (close last at) ≤ 1) where
  abbrev AreFew : ℕ → Result (List T) Fault → Type 0
  AreFew n r = IfOk r (λ ts. length ts ≤ n + 1)

  one_more : (n : ℕ) (r : Result (List T) Fault) → AreFew n r → AreFew (suc n) r
  one_more n (Ok ts) h = omega (arith, h)
  one_more n (Err f) h = tt

  followed : (n : ℕ) (t : T) (r : Result (List T) Fault) → AreFew n r → AreFew (suc n) (with_token t r)
  followed n t (Ok ts) h = omega (arith, h)
  followed n t (Err f) h = tt

  by_piece : (n : ℕ) (p : Piece T) (last : Option T) (at : Place) (go : Option T → ℕ → Result (List T) Fault) → ((l : Option T) (k : ℕ) → AreFew n (go l k)) → AreFew (suc n) (cut_by p last at go)
  by_piece n (Passed k) last at go h = one_more n _ (h last k)
  by_piece n (Token t k) last at go h = followed n (t at) _ (h (Some (t at)) k)
  by_piece n (Wrong f) last at go h = tt

  cut_few : (last : Option T) (n : ℕ) (at : Place) (bs : List ℕ) → AreFew (length bs) (cut piece close last n at bs)
  cut_few last n at [] = omega (arith, closes last at)
  cut_few last (suc n) at (b ∷ bs) = one_more (length bs) _ (cut_few last n (step at b) bs)
  cut_few last zero at (b ∷ bs) = by_piece (length bs) (piece (b ∷ bs)) last at _ (λ l k. cut_few l k (step at b) bs)

  ok_few : (n : ℕ) (r : Result (List T) Fault) (ts : List T) → AreFew n r → r ≡ Ok ts → length ts ≤ n + 1
  ok_few n r ts h e = subst (AreFew n) e h

  within : (b : Bool) (text : List ℕ) (f : Fault) (ts : List T) → nat_lt 1048576 (length text) ≡ b → cond b (Err f) (cut piece close None 0 start text) ≡ Ok ts → length ts ≤ 1048577
  within true text f ts e h = absurd cc
  within false text f ts e h =
      let told = ok_few (length text) (cut piece close None 0 start text) ts (cut_few None 0 start text) h in
      omega (arith, told, ltb-false 1048576 (length text) e)

  pub tokens_few : (text : List ℕ) (ts : List T) → cut_text piece close text ≡ Ok ts → length ts ≤ 1048577
  tokens_few text ts e = within (nat_lt 1048576 (length text)) text _ ts refl e
