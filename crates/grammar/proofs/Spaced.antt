-- The text of a token with a blank after it is cut as that token again: what is so in each language.
use Rattle.std.proofs.Common.{◌≡◌, ℕ, zero, suc, ◌+◌, ◌-◌, ◌*◌, ◌/◌, ◌%◌, ◌^◌, ◌<◌, ◌≤◌, Bool, true, false, cond, List, [], ◌∷◌, ◌++◌, map, length, take, drop, append_assoc, length-append, Result, Ok, Err, Option, Some, None, refl, sym, ap, subst, ◌∙◌, arith, eqb-true}
use Rattle.std.specs.Prelude as prelude
use Rattle.std.specs.Prelude.{nat_lt, ◌==◌, ◌||◌, if◌then◌else◌}
use Rattle.std.specs.List.{flat_map}
use Rattle.std.proofs.lemmas.Bool.{le-ltb}
use Rattle.std.proofs.lemmas.Fmt.{decimal_by_steps}
use Rattle.scan_text.specs.declared.Place.{Place}
use Rattle.scan_text.specs.declared.Blank.{Blank}
use Rattle.scan_text.specs.declared.Blank.TheVariants.{Over, Unclosed, Other}
use Rattle.scan_text.specs.Text.{start, step, walk, front, is_digit, decimal}
use Rattle.scan_text.specs.Blanks.{blank, comment, is_blank}
use Rattle.grammar.specs.declared.Fault.{Fault}
use Rattle.grammar.specs.Cutting.{Piece, Passed, Token, Wrong, closes_with_nothing, cut, cut_by, with_token, past_blank, past_blanks, tokens_between_blanks, too_long}
use Rattle.grammar.specs.Words.{is_letter, is_name_byte, token_of, word_of}
use Rattle.grammar.proofs.Cuts.{pending, within_limit, followed_is, none_is}
use Rattle.grammar.proofs.Runs.{run_text}

-- lists

take_length : (w r : List ℕ) → take (length w) (w ++ r) ≡ w
take_length [] [] = refl
take_length [] (c ∷ r) = refl
take_length (b ∷ w) r = ap (λ (l : List ℕ). b ∷ l) (take_length w r)

pub take_none : (w : List ℕ) → take 0 w ≡ []
take_none [] = refl
take_none (b ∷ w) = refl

pub drop_none : (w : List ℕ) → drop 0 w ≡ w
drop_none [] = refl
drop_none (b ∷ w) = refl

pub drop_length : (w r : List ℕ) → drop (length w) (w ++ r) ≡ r
drop_length [] r = drop_none r
drop_length (b ∷ w) r = drop_length w r

pub front_taken : (b : ℕ) (w rest : List ℕ) → take (suc (length w)) (b ∷ (w ++ rest)) ≡ b ∷ w
front_taken b w rest = ap (λ (l : List ℕ). b ∷ l) (take_length w rest)

pub less_one : (b : ℕ) (w : List ℕ) → length (b ∷ w) - 1 ≡ length w
less_one b w = omega arith

-- runs of bytes

abbrev pub All : (ℕ → Bool) → List ℕ → Type 0
All is [] = Unit {0}
All is (b ∷ bs) = (is b ≡ true) × All is bs

abbrev pub every : (ℕ → Bool) → List ℕ → Bool
every is [] = true
every is (b ∷ bs) = if is b then every is bs else false

every_by : (is : ℕ → Bool) (b : ℕ) (bs : List ℕ) (t : Bool) → is b ≡ t → (every is bs ≡ true → All is bs) → cond t (every is bs) false ≡ true → All is (b ∷ bs)
every_by is b bs true h go d = (h, go d)
every_by is b bs false h go d = absurd cc

pub all_every : (is : ℕ → Bool) (bs : List ℕ) → every is bs ≡ true → All is bs
all_every is [] e = tt
all_every is (b ∷ bs) e = every_by is b bs (is b) refl (λ d. all_every is bs d) e

front_by : (is : ℕ → Bool) (b : ℕ) (l : List ℕ) (t : Bool) → is b ≡ t → All is l → All is (cond t (b ∷ l) [])
front_by is b l true h a = (h, a)
front_by is b l false h a = tt

pub all_front : (is : ℕ → Bool) (bs : List ℕ) → All is (front is bs)
all_front is [] = tt
all_front is (b ∷ bs) = front_by is b (front is bs) (is b) refl (all_front is bs)

pub front_all : (is : ℕ → Bool) (w : List ℕ) (c : ℕ) (rest : List ℕ) → All is w → is c ≡ false → front is (w ++ c ∷ rest) ≡ w
front_all is [] c rest a e = ap (λ (t : Bool). cond t (c ∷ front is rest) []) e
front_all is (b ∷ w) c rest a e = ap (λ (t : Bool). cond t (b ∷ front is (w ++ c ∷ rest)) []) a.0 ∙ ap (λ (l : List ℕ). b ∷ l) (front_all is w c rest a.1 e)

all_last : (is : ℕ → Bool) (ds : List ℕ) (d : ℕ) → All is ds → is d ≡ true → All is (ds ++ d ∷ [])
all_last is [] d a e = (e, tt)
all_last is (c ∷ ds) d a e = (a.0, all_last is ds d a.1 e)

-- a byte that passes a test is no other that doesn't
differs_by : (is : ℕ → Bool) (b n : ℕ) (t : Bool) → (b == n) ≡ t → is b ≡ true → is n ≡ false → (b == n) ≡ false
differs_by is b n true e h k = absurd (let same : b ≡ n = eqb-true b n e in let bad : true ≡ false = sym h ∙ ap is same ∙ k in let none : ⊥ = cc in none)
differs_by is b n false e h k = e

pub differs : (is : ℕ → Bool) (b n : ℕ) → is b ≡ true → is n ≡ false → (b == n) ≡ false
differs is b n h k = differs_by is b n (b == n) refl h k

pub no_blank : (is : ℕ → Bool) (b : ℕ) → is b ≡ true → is 32 ≡ false → is 9 ≡ false → is 10 ≡ false → is 13 ≡ false → is_blank b ≡ false
no_blank is b h p q r s =
    let e32 = differs is b 32 h p in
    let e9 = differs is b 9 h q in
    let e10 = differs is b 10 h r in
    let e13 = differs is b 13 h s in
    λ i. e32 i || e9 i || e10 i || e13 i

-- what is after a token
abbrev pub gap : Bool → ℕ
gap t = cond t 10 32

-- neither of the two blanks passes the test
pub gap_fails : (is : ℕ → Bool) → is 10 ≡ false → is 32 ≡ false → (t : Bool) → is (gap t) ≡ false
gap_fails is e f true = e
gap_fails is e f false = f

pub gap_no_comment : (t : Bool) (rest : List ℕ) → comment (gap t ∷ rest) ≡ Other
gap_no_comment true rest = refl
gap_no_comment false rest = refl

pub no_comment : (b : ℕ) (l : List ℕ) → is_blank b ≡ false → (b == 47) ≡ false → blank (b ∷ l) ≡ Other
no_comment b l e f = ap (λ (t : Bool). cond t (Over 0) (cond (b == 47) (comment l) Other)) e ∙ ap (λ (t : Bool). cond t (comment l) Other) f

either_other : (t : Bool) → cond t Other Other ≡ Other
either_other true = refl
either_other false = refl

-- a symbol before a blank begins no comment
pub symbol_alone : (b : ℕ) (t : Bool) (rest : List ℕ) → is_blank b ≡ false → blank (b ∷ gap t ∷ rest) ≡ Other
symbol_alone b t rest e =
    ap (λ (x : Bool). cond x (Over 0) (cond (b == 47) (comment (gap t ∷ rest)) Other)) e
    ∙ ap (λ (x : Blank). cond (b == 47) x Other) (gap_no_comment t rest) ∙ either_other (b == 47)

-- numbers, whose digits pass a test

abbrev pub ten_digits : List ℕ
ten_digits = 48 ∷ 49 ∷ 50 ∷ 51 ∷ 52 ∷ 53 ∷ 54 ∷ 55 ∷ 56 ∷ 57 ∷ []

pub digit_by : (is : ℕ → Bool) (d : ℕ) → All is ten_digits → d < 10 → is (48 + d) ≡ true
digit_by is zero a h = a.0
digit_by is (suc zero) a h = a.1.0
digit_by is (suc (suc zero)) a h = a.1.1.0
digit_by is (suc (suc (suc zero))) a h = a.1.1.1.0
digit_by is (suc (suc (suc (suc zero)))) a h = a.1.1.1.1.0
digit_by is (suc (suc (suc (suc (suc zero))))) a h = a.1.1.1.1.1.0
digit_by is (suc (suc (suc (suc (suc (suc zero)))))) a h = a.1.1.1.1.1.1.0
digit_by is (suc (suc (suc (suc (suc (suc (suc zero))))))) a h = a.1.1.1.1.1.1.1.0
digit_by is (suc (suc (suc (suc (suc (suc (suc (suc zero)))))))) a h = a.1.1.1.1.1.1.1.1.0
digit_by is (suc (suc (suc (suc (suc (suc (suc (suc (suc zero))))))))) a h = a.1.1.1.1.1.1.1.1.1.0
digit_by is (suc (suc (suc (suc (suc (suc (suc (suc (suc (suc d)))))))))) a h = absurd (omega arith)

decimal_last : (n : ℕ) (ds : List ℕ) (d : ℕ) → decimal n (ds ++ d ∷ []) ≡ decimal n ds * 10 + (d - 48)
decimal_last n [] d = refl
decimal_last n (c ∷ ds) d = decimal_last (n * 10 + (c - 48)) ds d

module _ (plain : ℕ → Bool) where
  pub record Digits (n : ℕ) (ds : List ℕ) : Type 0 where
    pub some : 1 ≤ length ds
    pub all : All plain ds
    pub value : decimal 0 ds ≡ n

  module _ (ten : every plain ten_digits ≡ true) where
    plain_digit : (d : ℕ) → d < 10 → plain (48 + d) ≡ true
    plain_digit d h = digit_by plain d (all_every plain ten_digits ten) h

    digits_one : (n : ℕ) → n < 10 → Digits n ((48 + n) ∷ [])
    digits_one n h = record { some = omega arith; all = (plain_digit n h, tt); value = omega arith }

    digits_more : (n : ℕ) (ds : List ℕ) → 10 ≤ n → Digits (n / 10) ds → Digits n (ds ++ (48 + n % 10) ∷ [])
    digits_more n ds h d =
        let last : n % 10 < 10 = omega arith in
        let value : decimal 0 ds ≡ n / 10 = d.value in
        record {
          some = omega (arith, length-append ds ((48 + n % 10) ∷ []));
          all = all_last plain ds (48 + n % 10) d.all (plain_digit (n % 10) last);
          value = decimal_last 0 ds (48 + n % 10) ∙ omega (arith, value);
        }

    pub digits_of : (n : ℕ) → n < 2 ^ 64 → Digits n (prelude.decimal n)
    digits_of n h = decimal_by_steps Digits digits_one digits_more n h

-- each of some tokens is so
abbrev pub Each : {T : Type 0} → (T → Type 0) → List T → Type 0
Each is [] = Unit {0}
Each is (t ∷ ts) = is t × Each is ts

-- tokens that are cut again

module _ {T : Type 0} (piece : List ℕ → Piece T) where
  -- How a text stands before a blank: it is cut as this token.
  pub record Stands (made : Place → T) (text : List ℕ) (t : Bool) (rest : List ℕ) : Type 0 where
    pub first : ℕ
    pub more : List ℕ
    pub is : text ≡ first ∷ more
    pub cut_so : past_blanks piece (first ∷ (more ++ gap t ∷ rest)) ≡ Token made (length more)

  abbrev C : Option T → Place → List ℕ → Result (List T) Fault
  C last at bs = cut (past_blanks piece) closes_with_nothing last 0 at bs

  gap_passed : (t : Bool) (last : Option T) (at : Place) (rest : List ℕ) → C last at (gap t ∷ rest) ≡ C last (step at (gap t)) rest
  gap_passed true last at rest = refl
  gap_passed false last at rest = refl

  token_cut : (made : Place → T) (text : List ℕ) (t : Bool) (rest : List ℕ) (last : Option T) (at : Place) → (c : Stands made text t rest)
      → C last at (text ++ gap t ∷ rest) ≡ with_token (made at) (C (Some (made at)) (step (walk (step at c.first) (take (length c.more) (c.more ++ gap t ∷ rest))) (gap t)) rest)
  token_cut made text t rest last at c =
      let token = made at in
      let tail = c.more ++ gap t ∷ rest in
      let here = walk (step at c.first) (take (length c.more) tail) in
      ap (λ (l : List ℕ). C last at (l ++ gap t ∷ rest)) c.is
      ∙ ap (λ (p : Piece T). cut_by p last at (λ l n. cut (past_blanks piece) closes_with_nothing l n (step at c.first) tail)) c.cut_so
      ∙ ap (with_token token) (pending (past_blanks piece) closes_with_nothing (Some token) (length c.more) (step at c.first) tail ∙ ap (C (Some token) here) (drop_length c.more (gap t ∷ rest)) ∙ gap_passed t (Some token) here rest)

  -- Good tokens stand so before a blank that their text, shown, is cut as a token that says the same.
  module _ {W : Type 0} (Good : T → Type 0) (shown : T → List ℕ) (ends_line : List ℕ → Bool) (again : T → Place → T) (told : T → W) where
    abbrev set_off : List ℕ → List ℕ
    set_off w = w ++ gap (ends_line w) ∷ []

    pub record Recut (ts : List T) (last : Option T) (at : Place) : Type 0 where
      pub tokens : List T
      pub cut : C last at (flat_map set_off (map shown ts)) ≡ Ok tokens
      pub same : map told tokens ≡ map told ts

    module _ (spaced : (w : T) → Good w → (t : Bool) (rest : List ℕ) → Stands (again w) (shown w) t rest) (told_again : (w : T) (at : Place) → told (again w at) ≡ told w) where
      recut : (ts : List T) → Each Good ts → (last : Option T) (at : Place) → Recut ts last at
      recut [] g last at = record { tokens = []; cut = refl; same = refl }
      recut (w ∷ ws) g last at =
          let text = shown w in
          let t = ends_line text in
          let rest = flat_map set_off (map shown ws) in
          let c : Stands (again w) text t rest = spaced w g.0 t rest in
          let token = again w at in
          let next = recut ws g.1 (Some token) (step (walk (step at c.first) (take (length c.more) (c.more ++ gap t ∷ rest))) (gap t)) in
          record {
            tokens = token ∷ next.tokens;
            cut = ap (C last at) (append_assoc text (gap t ∷ []) rest) ∙ token_cut (again w) text t rest last at c ∙ ap (with_token token) next.cut;
            same = λ i. told_again w at i ∷ next.same i;
          }

      -- the printed form of such tokens
      pub printed_good : (ts : List T) → Each Good ts → length (flat_map set_off (map shown ts)) ≤ 1048576 → (us : List T) × (tokens_between_blanks piece (flat_map set_off (map shown ts)) ≡ Ok us) × (map told us ≡ map told ts)
      printed_good ts good small =
          let all = recut ts good None start in
          let out = flat_map set_off (map shown ts) in
          let fits : nat_lt 1048576 (length out) ≡ false = le-ltb _ _ small in
          (all.tokens, ap (λ (t : Bool). cond t (Err too_long) (C None start out)) fits ∙ all.cut, all.same)

-- words, symbols and numbers, whose tokens are a kind, a text and a place

module _ {K T : Type 0} (made : K → List ℕ → Place → T) where
  pub token_is : (k k' : K) (n n' : ℕ) (bs text : List ℕ) → k ≡ k' → n ≡ n' → take (suc n') bs ≡ text → token_of made k n bs ≡ Token (made k' text) n'
  token_is k k' n n' bs text ek en et = (λ i. token_of made (ek i) (en i) bs) ∙ (λ i. Token (made k' (et i)) n')

-- a word whose text has a kind
pub record Named {K : Type 0} (word_kind : List ℕ → K) (text : List ℕ) (k : K) : Type 0 where
  pub first : ℕ
  pub more : List ℕ
  pub is : text ≡ first ∷ more
  pub letter : is_letter first ≡ true
  pub names : All is_name_byte more
  pub kind : word_kind text ≡ k

pub letter_names : (b : ℕ) → is_letter b ≡ true → is_name_byte b ≡ true
letter_names b e = rw e refl

-- the word at the front of a text that begins with a letter
pub named_front : {K : Type 0} (word_kind : List ℕ → K) (b : ℕ) (bs : List ℕ) → is_letter b ≡ true → Named word_kind (front is_name_byte (b ∷ bs)) (word_kind (front is_name_byte (b ∷ bs)))
named_front word_kind b bs l =
    record { first = b; more = front is_name_byte bs; is = ap (λ (t : Bool). cond t (b ∷ front is_name_byte bs) []) (letter_names b l); letter = l; names = all_front is_name_byte bs; kind = refl }

-- what holds of the word at the front holds of the text that its token takes
pub word_taken : (P : List ℕ → Type 0) (b : ℕ) (bs : List ℕ) → is_letter b ≡ true → P (front is_name_byte (b ∷ bs)) → P (take (suc (length (front is_name_byte (b ∷ bs)) - 1)) (b ∷ bs))
word_taken P b bs l h = subst P (sym (run_text is_name_byte (b ∷ bs) b refl (letter_names b l))) h

module _ {K T : Type 0} (piece : List ℕ → Piece T) (made : K → List ℕ → Place → T) where
  -- a word is cut before a blank
  pub named_cut : (word_kind : List ℕ → K) → ((b : ℕ) (bs : List ℕ) → is_letter b ≡ true → piece (b ∷ bs) ≡ word_of made word_kind (b ∷ bs))
      → (k : K) (text : List ℕ) → Named word_kind text k → (t : Bool) (rest : List ℕ) → Stands piece (made k text) text t rest
  named_cut word_kind words k text h t rest =
      let b = h.first in
      let w = h.more in
      let all = b ∷ (w ++ gap t ∷ rest) in
      let run : front is_name_byte all ≡ b ∷ w = front_all is_name_byte (b ∷ w) (gap t) rest (letter_names b h.letter, h.names) (gap_fails is_name_byte refl refl t) in
      let other : blank all ≡ Other = no_comment b (w ++ gap t ∷ rest) (no_blank is_letter b h.letter refl refl refl refl) (differs is_letter b 47 h.letter refl) in
      let token : word_of made word_kind all ≡ Token (made k text) (length w) =
      token_is made (word_kind (front is_name_byte all)) k (length (front is_name_byte all) - 1) (length w) all text
      (ap word_kind (run ∙ sym h.is) ∙ h.kind) (ap (λ (l : List ℕ). length l - 1) run ∙ less_one b w) (front_taken b w (gap t ∷ rest) ∙ sym h.is) in
      record { first = b; more = w; is = h.is; cut_so = ap (λ (x : Blank). past_blank x (piece all)) other ∙ words b (w ++ gap t ∷ rest) h.letter ∙ token }

  -- a symbol is cut before a blank
  pub symbol_cut : (k : K) (b : ℕ) → is_blank b ≡ false → ((bs : List ℕ) → piece (b ∷ bs) ≡ token_of made k 0 (b ∷ bs)) → (t : Bool) (rest : List ℕ) → Stands piece (made k (b ∷ [])) (b ∷ []) t rest
  symbol_cut k b bare symbols t rest =
      record { first = b; more = []; is = refl; cut_so = ap (λ (x : Blank). past_blank x (piece (b ∷ gap t ∷ rest))) (symbol_alone b t rest bare) ∙ symbols (gap t ∷ rest) }

plain_by : (x y z : Bool) → cond x false (cond y false z) ≡ true → (x ≡ false) × (y ≡ false) × (z ≡ true)
plain_by true y z e = absurd cc
plain_by false true z e = absurd cc
plain_by false false z e = (refl, refl, e)

-- digits, which are no signs
module _ (is_sign : ℕ → Bool) where
  abbrev pub plain : ℕ → Bool
  plain b = if is_letter b then false else (if is_sign b then false else is_digit b)

  pub plain_is : (b : ℕ) → plain b ≡ true → (is_letter b ≡ false) × (is_sign b ≡ false) × (is_digit b ≡ true)
  plain_is b e = plain_by (is_letter b) (is_sign b) (is_digit b) e

  pub plain_digits : (ds : List ℕ) → All plain ds → All is_digit ds
  plain_digits [] a = tt
  plain_digits (d ∷ ds) a = ((plain_is d a.0).2, plain_digits ds a.1)

-- what all tokens of a text are

module _ {T : Type 0} (Good : T → Type 0) where
  abbrev pub GoodPiece : Piece T → Type 0
  GoodPiece (Passed n) = Unit {0}
  GoodPiece (Token t n) = (at : Place) → Good (t at)
  GoodPiece (Wrong f) = Unit {0}

  pub good_if : (t : Bool) (p q : Piece T) → (t ≡ true → GoodPiece p) → (t ≡ false → GoodPiece q) → GoodPiece (cond t p q)
  good_if true p q x y = x refl
  good_if false p q x y = y refl

  good_by : (last : Option T) (at : Place) (go : Option T → ℕ → Result (List T) Fault) → ((l : Option T) (n : ℕ) (us : List T) → go l n ≡ Ok us → Each Good us) → (p : Piece T) (ts : List T) → GoodPiece p → cut_by p last at go ≡ Ok ts → Each Good ts
  good_by last at go h (Passed n) ts g e = h last n ts e
  good_by last at go h (Token t n) ts g e = let f = followed_is (t at) _ ts e in subst (Each Good) f.2 (g at, h _ n f.0 f.1)
  good_by last at go h (Wrong f) ts g e = absurd cc

  module _ (piece : List ℕ → Piece T) (good_piece : (bs : List ℕ) → GoodPiece (piece bs)) where
    good_past : (bs : List ℕ) (k : Blank) → GoodPiece (past_blank k (piece bs))
    good_past bs (Over n) = tt
    good_past bs Unclosed = tt
    good_past bs Other = good_piece bs

    good_cut : (last : Option T) (n : ℕ) (at : Place) (bs : List ℕ) (ts : List T) → cut (past_blanks piece) closes_with_nothing last n at bs ≡ Ok ts → Each Good ts
    good_cut last n at [] ts e = subst (Each Good) (none_is ts _ e refl) tt
    good_cut last (suc n) at (b ∷ bs) ts e = good_cut last n (step at b) bs ts e
    good_cut last zero at (b ∷ bs) ts e = good_by last at (λ l n. cut (past_blanks piece) closes_with_nothing l n (step at b) bs) (λ l n us f. good_cut l n (step at b) bs us f) (past_blanks piece (b ∷ bs)) ts (good_past (b ∷ bs) (blank (b ∷ bs))) e

    pub good_tokens : (text : List ℕ) (ts : List T) → tokens_between_blanks piece text ≡ Ok ts → Each Good ts
    good_tokens text ts e = good_cut None 0 start text ts (within_limit (nat_lt 1048576 (length text)) _ _ ts e)
