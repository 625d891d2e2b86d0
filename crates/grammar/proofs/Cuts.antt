-- Going over the bytes of a piece at once is going over them one by one.
use Rattle.std.proofs.Common.{◌≡◌, Bool, true, false, cond, ℕ, zero, suc, ◌-◌, ◌<◌, List, [], ◌∷◌, ◌++◌, append_assoc, length-drop, length-append, slice_get, length, take, drop, Result, Ok, Err, Option, Some, None, refl, sym, ap, ◌∙◌, arith}
use Rattle.scan_text.specs.declared.Place.{Place}
use Rattle.scan_text.specs.declared.Scan.{Scan}
use Rattle.scan_text.specs.Text.{step, walk, first}
use Rattle.scan_text.specs.View.{left_bytes, place}
use Rattle.grammar.specs.declared.Fault.{Fault}
use Rattle.grammar.specs.Cutting.{Piece, Passed, Token, Wrong, with_token, cut_by, cut, Next, last_of}

-- a text that is cut is within the limit of its length
pub within_limit : {T : Type 0} (t : Bool) (f : Fault) (r : Result (List T) Fault) (ts : List T) → cond t (Err f) r ≡ Ok ts → r ≡ Ok ts
within_limit true f r ts e = absurd cc
within_limit false f r ts e = e

pub followed_is : {T : Type 0} (t : T) (r : Result (List T) Fault) (ts : List T) → with_token t r ≡ Ok ts → (us : List T) × (r ≡ Ok us) × (t ∷ us ≡ ts)
followed_is t (Ok us) ts e = (us, refl, cc)
followed_is t (Err f) ts e = absurd cc

pub none_is : {T : Type 0} (ts : List T) (l : Result (List T) Fault) → l ≡ Ok ts → l ≡ Ok [] → [] ≡ ts
none_is ts l e f = cc

module _ {T : Type 0} (piece : List ℕ → Piece T) (close : Option T → Place → List T) where
  pub pending : (last : Option T) (n : ℕ) (at : Place) (bs : List ℕ) → cut piece close last n at bs ≡ cut piece close last 0 (walk at (take n bs)) (drop n bs)
  pending last zero at [] = refl
  pending last zero at (b ∷ bs) = refl
  pending last (suc n) at [] = refl
  pending last (suc n) at (b ∷ bs) = pending last n (step at b) bs

-- some tokens before others
abbrev pub with_front : {T : Type 0} → List T → Result (List T) Fault → Result (List T) Fault
with_front front (Ok ts) = Ok (front ++ ts)
with_front front (Err f) = Err f

last_at : {T : Type 0} (ts : List T) (t : T) → slice_get (ts ++ t ∷ []) (length ts) ≡ Some t
last_at [] t = refl
last_at (x ∷ ts) t = last_at ts t

last_of-push : {T : Type 0} (ts : List T) (t : T) → last_of (ts ++ t ∷ []) ≡ Some t
last_of-push ts t =
    let k : length (ts ++ t ∷ []) - 1 ≡ length ts = omega (arith, length-append ts (t ∷ [])) in
    ap (slice_get (ts ++ t ∷ [])) k ∙ last_at ts t

with_front-push : {T : Type 0} (front : List T) (t : T) (r : Result (List T) Fault) → with_front front (with_token t r) ≡ with_front (front ++ t ∷ []) r
with_front-push front t (Ok ts) = ap Ok (sym (append_assoc front (t ∷ []) ts))
with_front-push front t (Err f) = refl

module _ {T : Type 0} (piece : List ℕ → Piece T) (close : Option T → Place → List T) where
  at_first : (last : Option T) (at : Place) (b : ℕ) (bs : List ℕ) → cut piece close last 0 at (b ∷ bs) ≡ cut_by (piece (b ∷ bs)) last at (λ l n. cut piece close l 0 (walk at (take (suc n) (b ∷ bs))) (drop (suc n) (b ∷ bs)))
  at_first last at b bs = elim (piece (b ∷ bs)) as (λ p. cut_by p last at (λ l n. cut piece close l n (step at b) bs) ≡ cut_by p last at (λ l n. cut piece close l 0 (walk at (take (suc n) (b ∷ bs))) (drop (suc n) (b ∷ bs)))) [
    | Passed n ↦ pending piece close last n (step at b) bs
    | Token t n ↦ ap (with_token (t at)) (pending piece close (Some (t at)) n (step at b) bs)
    | Wrong f ↦ refl
  ]

  at_any : (last : Option T) (at : Place) (bs : List ℕ) (b : ℕ) → first bs ≡ Some b → cut piece close last 0 at bs ≡ cut_by (piece bs) last at (λ l n. cut piece close l 0 (walk at (take (suc n) bs)) (drop (suc n) bs))
  at_any last at [] b e = absurd cc
  at_any last at (c ∷ bs) b e = at_first last at c bs

  passes_by : (p : Piece T) (last : Option T) (old new : Scan) (r : Result (Option T) Fault) → Next p old r new → r ≡ Ok None → cut_by p last (place old) (λ l n. cut piece close l 0 (walk (place old) (take (suc n) (left_bytes old))) (drop (suc n) (left_bytes old))) ≡ cut piece close last 0 (place new) (left_bytes new)
  passes_by (Passed n) last old new r h e = λ i. cut piece close last 0 (sym h.1.at i) (sym h.1.rest i)
  passes_by (Token t n) last old new r h e = absurd cc
  passes_by (Wrong f) last old new r h e = absurd cc

  takes_by : (p : Piece T) (last : Option T) (old new : Scan) (r : Result (Option T) Fault) (t : T) → Next p old r new → r ≡ Ok (Some t) → cut_by p last (place old) (λ l n. cut piece close l 0 (walk (place old) (take (suc n) (left_bytes old))) (drop (suc n) (left_bytes old))) ≡ with_token t (cut piece close (Some t) 0 (place new) (left_bytes new))
  takes_by (Passed n) last old new r t h e = absurd cc
  takes_by (Token u n) last old new r t h e =
      let same : u (place old) ≡ t = cc in
      (λ i. with_token (same i) (cut piece close (Some (same i)) 0 (sym h.1.at i) (sym h.1.rest i)))
  takes_by (Wrong f) last old new r t h e = absurd cc

  fails_by : (p : Piece T) (last : Option T) (old new : Scan) (r : Result (Option T) Fault) (f : Fault) → Next p old r new → r ≡ Err f → cut_by p last (place old) (λ l n. cut piece close l 0 (walk (place old) (take (suc n) (left_bytes old))) (drop (suc n) (left_bytes old))) ≡ Err f
  fails_by (Passed n) last old new r f h e = absurd cc
  fails_by (Token u n) last old new r f h e = absurd cc
  fails_by (Wrong g) last old new r f h e = let same : g (place old) ≡ f = cc in ap Err same

  walk-go : (n : ℕ) (at : Place) (bs : List ℕ) → walk (walk at (take n bs)) (drop n bs) ≡ walk at bs
  walk-go zero at [] = refl
  walk-go zero at (b ∷ bs) = refl
  walk-go (suc n) at [] = refl
  walk-go (suc n) at (b ∷ bs) = walk-go n (step at b) bs

  stays : (p : Piece T) (old new : Scan) (r : Option T) → Next p old (Ok r) new → walk (place new) (left_bytes new) ≡ walk (place old) (left_bytes old)
  stays (Passed n) old new r h = (λ i. walk (h.1.at i) (h.1.rest i)) ∙ walk-go (suc n) (place old) (left_bytes old)
  stays (Token t n) old new r h = (λ i. walk (h.1.at i) (h.1.rest i)) ∙ walk-go (suc n) (place old) (left_bytes old)
  stays (Wrong f) old new r h = absurd cc

  -- what a loop of a lexer keeps: the tokens so far and those to come are the tokens of the text, which ends where it ends
  pub record Cuts (front : List T) (scan : Scan) (all : Result (List T) Fault) (finish : Place) : Type 0 where
    pub tokens : with_front front (cut piece close (last_of front) 0 (place scan) (left_bytes scan)) ≡ all
    pub ends : walk (place scan) (left_bytes scan) ≡ finish

  with_none : (r : Result (List T) Fault) → with_front [] r ≡ r
  with_none (Ok ts) = refl
  with_none (Err f) = refl

  pub Cuts-begun : (front : List T) (scan : Scan) (text : List ℕ) (at : Place) → front ≡ [] → left_bytes scan ≡ text → place scan ≡ at → Cuts front scan (cut piece close None 0 at text) (walk at text)
  Cuts-begun front scan text at e l p = record {
    tokens = (λ i. with_front (e i) (cut piece close (last_of (e i)) 0 (p i) (l i))) ∙ with_none (cut piece close None 0 at text);
    ends = λ i. walk (p i) (l i);
  }

  pub Cuts-passed : (front : List T) (old new : Scan) (all : Result (List T) Fault) (finish : Place) (b : ℕ) → first (left_bytes old) ≡ Some b → Next (piece (left_bytes old)) old (Ok None) new → Cuts front old all finish → Cuts front new all finish
  Cuts-passed front old new all finish b begun h so_far = record {
    tokens = ap (with_front front) (sym (at_any (last_of front) (place old) (left_bytes old) b begun ∙ passes_by (piece (left_bytes old)) (last_of front) old new (Ok None) h refl)) ∙ so_far.tokens;
    ends = stays (piece (left_bytes old)) old new None h ∙ so_far.ends;
  }

  pub Cuts-taken : (front : List T) (old new : Scan) (all : Result (List T) Fault) (finish : Place) (b : ℕ) (t : T) → first (left_bytes old) ≡ Some b → Next (piece (left_bytes old)) old (Ok (Some t)) new → Cuts front old all finish → Cuts (front ++ t ∷ []) new all finish
  Cuts-taken front old new all finish b t begun h so_far = record {
    tokens = ap (λ (l : Option T). with_front (front ++ t ∷ []) (cut piece close l 0 (place new) (left_bytes new))) (last_of-push front t)
        ∙ sym (with_front-push front t (cut piece close (Some t) 0 (place new) (left_bytes new)))
        ∙ ap (with_front front) (sym (at_any (last_of front) (place old) (left_bytes old) b begun ∙ takes_by (piece (left_bytes old)) (last_of front) old new (Ok (Some t)) t h refl)) ∙ so_far.tokens;
    ends = stays (piece (left_bytes old)) old new (Some t) h ∙ so_far.ends;
  }

  pub Cuts-failed : (front : List T) (old new : Scan) (all : Result (List T) Fault) (finish : Place) (b : ℕ) (f : Fault) → first (left_bytes old) ≡ Some b → Next (piece (left_bytes old)) old (Err f) new → Cuts front old all finish → all ≡ Err f
  Cuts-failed front old new all finish b f begun h so_far =
      sym so_far.tokens ∙ ap (with_front front) (at_any (last_of front) (place old) (left_bytes old) b begun ∙ fails_by (piece (left_bytes old)) (last_of front) old new (Err f) f h refl)

  none_left : (bs : List ℕ) → first bs ≡ None → bs ≡ []
  none_left [] e = refl
  none_left (b ∷ bs) e = absurd cc

  pub Cuts-ended : (front : List T) (scan : Scan) (all : Result (List T) Fault) (finish : Place) → first (left_bytes scan) ≡ None → Cuts front scan all finish → all ≡ Ok (front ++ close (last_of front) finish)
  Cuts-ended front scan all finish e so_far =
      let empty = none_left (left_bytes scan) e in
      sym so_far.tokens ∙ ap (λ (l : List ℕ). with_front front (cut piece close (last_of front) 0 (place scan) l)) empty
      ∙ ap (λ (at : Place). Ok (front ++ close (last_of front) at)) (ap (walk (place scan)) (sym empty) ∙ so_far.ends)

  pub Cuts-finish : (front : List T) (scan : Scan) (all : Result (List T) Fault) (finish : Place) → first (left_bytes scan) ≡ None → Cuts front scan all finish → place scan ≡ finish
  Cuts-finish front scan all finish e so_far = ap (walk (place scan)) (sym (none_left (left_bytes scan) e)) ∙ so_far.ends

  shorter : (bs : List ℕ) (b n : ℕ) → first bs ≡ Some b → length (drop (suc n) bs) < length bs
  shorter [] b n e = absurd cc
  shorter (c ∷ bs) b n e = omega (arith, length-drop n bs)

  goes_by : (p : Piece T) (old new : Scan) (r : Option T) (b : ℕ) → first (left_bytes old) ≡ Some b → Next p old (Ok r) new → length (left_bytes new) < length (left_bytes old)
  goes_by (Passed n) old new r b begun h = rw h.1.rest (shorter (left_bytes old) b n begun)
  goes_by (Token t n) old new r b begun h = rw h.1.rest (shorter (left_bytes old) b n begun)
  goes_by (Wrong f) old new r b begun h = absurd cc

  pub goes_on : (old new : Scan) (r : Option T) (b : ℕ) → first (left_bytes old) ≡ Some b → Next (piece (left_bytes old)) old (Ok r) new → length (left_bytes new) < length (left_bytes old)
  goes_on old new r b begun h = goes_by (piece (left_bytes old)) old new r b begun h
