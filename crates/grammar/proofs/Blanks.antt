-- Languages where blanks and comments may stand between tokens: what is passed over there, and from the pieces between to the longest
-- match.
use Rattle.std.proofs.Common.{◌≡◌, ℕ, zero, suc, ◌≤◌, ◌⊎◌, inl, inr, Bool, true, false, cond, List, [], ◌∷◌, ◌++◌, length, take, drop, get_or, refl, sym, ap, subst, ◌∙◌, arith, eqb-true, Option, Some, None}
use Rattle.std.specs.Prelude.{◌==◌, ◌||◌}
use Rattle.std.specs.List.{All}
use Rattle.std.specs.Char.{is_ascii_alphabetic, is_ascii_digit}
use Rattle.std.proofs.lemmas.List.Elements.{All-cons, All-head, All-tail, All-weaker}
use Rattle.std.proofs.lemmas.Bool.{and_parts, and_from, or_cases, or_left, or_right, eq-eqb, false_from_ne_true, true≢false}
use Rattle.scan_text.specs.declared.Blank.{Blank}
use Rattle.scan_text.specs.declared.Blank.TheVariants.{Over, Unclosed, Other}
use Rattle.scan_text.specs.Text.{front, rest_behind}
use Rattle.scan_text.specs.Blanks.{starts, is_blank, blank, comment, closed_comment, and_one, block, ends_block, in_line}
use Rattle.scan_text.proofs.Texts.{take_front, drop_front}
use Rattle.scan_text.specs.declared.Place.{Place}
use Rattle.grammar.specs.declared.Fault.{Fault}
use Rattle.grammar.specs.Cutting.{Piece, Passed, Wrong, past_blank, past_blanks}
use Rattle.grammar.specs.Between.{OpensComment, OfALine, OfABlock, EndsAtFeed, AtEndOfText, AtLineFeed, HasNoEnd, IsBetween, ABlank, ALineComment, ABlockComment}
use Rattle.grammar.specs.Longest.{IsLongestMatch}
use Rattle.grammar.proofs.Bytes.{contained, contains, or_is, is_or}
use Rattle.grammar.proofs.Longest.{IsCut, Reaches, Passes, Run, longest_match, front_run, front_within}
use Rattle.grammar.proofs.Spaced.{take_none, no_blank, no_comment, differs}

-- names: letters, digits and underscores, of which the first is no digit

abbrev pub letter : ℕ → Bool
letter b = is_ascii_alphabetic b || b == 95

abbrev pub name_byte : ℕ → Bool
name_byte b = letter b || is_ascii_digit b

abbrev pub IsLetter : ℕ → Type 0
IsLetter b = (is_ascii_alphabetic b ≡ true) ⊎ (b ≡ 95)

abbrev pub IsNameByte : ℕ → Type 0
IsNameByte b = IsLetter b ⊎ (is_ascii_digit b ≡ true)

pub letter_is : (b : ℕ) → letter b ≡ true → IsLetter b
letter_is b e = or_is (is_ascii_alphabetic b) b 95 e

pub is_letter : (b : ℕ) → IsLetter b → letter b ≡ true
is_letter b h = is_or (is_ascii_alphabetic b) b 95 h

name_byte_is : (b : ℕ) → name_byte b ≡ true → IsNameByte b
name_byte_is b e = elim (or_cases (letter b) (is_ascii_digit b) e) [
  | inl h ↦ inl (letter_is b h)
  | inr h ↦ inr h
]

is_name_byte : (b : ℕ) → IsNameByte b → name_byte b ≡ true
is_name_byte b (inl h) = or_left (letter b) (is_ascii_digit b) (is_letter b h)
is_name_byte b (inr h) = or_right (letter b) (is_ascii_digit b) h

pub name_run : (bs : List ℕ) → All IsNameByte (front name_byte bs)
name_run bs = All-weaker (λ c. name_byte c ≡ true) IsNameByte name_byte_is (front name_byte bs) (front_run name_byte bs)

-- a name that stands there
pub is_name_run : (b : ℕ) (bs : List ℕ) → IsLetter b → All IsNameByte bs → Run name_byte (b ∷ bs)
is_name_run b bs h a = All-cons (λ c. name_byte c ≡ true) b bs (is_name_byte b (inl h)) (All-weaker IsNameByte (λ c. name_byte c ≡ true) is_name_byte bs a)

-- what begins no comment

closed_not : (o : Option ℕ) → closed_comment o ≡ Other → ⊥
closed_not None e = absurd cc
closed_not (Some n) e = absurd cc

opens_not : (bs : List ℕ) → comment bs ≡ Other → OpensComment bs → ⊥
opens_not bs e OfALine = absurd cc
opens_not bs e (OfABlock {bs = cs}) = closed_not (and_one (block cs)) e

-- nothing that is passed over begins there
abbrev pub BeginsNone : ℕ → List ℕ → Type 0
BeginsNone b bs = (is_blank b ≡ false) × (b ≡ 47 → OpensComment bs → ⊥)

none_by : (b : ℕ) (bs : List ℕ) (x y : Bool) → (b == 47) ≡ y → cond x (Over 0) (cond y (comment bs) Other) ≡ Other → (x ≡ false) × (b ≡ 47 → OpensComment bs → ⊥)
none_by b bs true y f e = absurd cc
none_by b bs false true f e = (refl, λ s. opens_not bs e)
none_by b bs false false f e = (refl, λ s. absurd (true≢false (sym (eq-eqb b 47 s) ∙ f)))

pub begins_none : (b : ℕ) (bs : List ℕ) → blank (b ∷ bs) ≡ Other → BeginsNone b bs
begins_none b bs e = none_by b bs (is_blank b) (b == 47) refl e

other_by : (c : ℕ) (cs : List ℕ) (x y : Bool) → (c == 47) ≡ x → (c == 42) ≡ y → (OpensComment (c ∷ cs) → ⊥) → cond x (Over (length (front in_line (c ∷ cs)))) (cond y (closed_comment (and_one (block cs))) Other) ≡ Other
other_by c cs true y e f none = absurd (none (subst (λ (k : ℕ). OpensComment (k ∷ cs)) (sym (eqb-true c 47 e)) OfALine))
other_by c cs false true e f none = absurd (none (subst (λ (k : ℕ). OpensComment (k ∷ cs)) (sym (eqb-true c 42 f)) OfABlock))
other_by c cs false false e f none = refl

no_comment_there : (bs : List ℕ) → (OpensComment bs → ⊥) → comment bs ≡ Other
no_comment_there [] none = refl
no_comment_there (c ∷ cs) none = other_by c cs (c == 47) (c == 42) refl refl none

none_begins_by : (b : ℕ) (bs : List ℕ) (x y : Bool) → (b == 47) ≡ y → x ≡ false → (b ≡ 47 → OpensComment bs → ⊥) → cond x (Over 0) (cond y (comment bs) Other) ≡ Other
none_begins_by b bs true y f e none = absurd cc
none_begins_by b bs false true f e none = no_comment_there bs (none (eqb-true b 47 f))
none_begins_by b bs false false f e none = refl

pub none_begins : (b : ℕ) (bs : List ℕ) → BeginsNone b bs → blank (b ∷ bs) ≡ Other
none_begins b bs h = none_begins_by b bs (is_blank b) (b == 47) refl h.0 h.1

-- a byte that passes a test of neither blanks nor the slash
pub passing_begins : (is : ℕ → Bool) (b : ℕ) (bs : List ℕ) → is b ≡ true → is 32 ≡ false → is 9 ≡ false → is 10 ≡ false → is 13 ≡ false → is 47 ≡ false → blank (b ∷ bs) ≡ Other
passing_begins is b bs e p q r s t = no_comment b bs (no_blank is b e p q r s) (differs is b 47 e t)

-- comments up to the end of a line

in_line_by : (x : Bool) → cond x false true ≡ true → x ≡ false
in_line_by true e = absurd cc
in_line_by false e = refl

no_feed : (c : ℕ) → in_line c ≡ true → c ≡ 10 → ⊥
no_feed c e f = true≢false (sym (eq-eqb c 10 f) ∙ in_line_by (c == 10) e)

stands_in_line : (c : ℕ) → (c ≡ 10 → ⊥) → in_line c ≡ true
stands_in_line c none = let no : (c == 10) ≡ false = false_from_ne_true (c == 10) (λ e. none (eqb-true c 10 e)) in rw no refl

feed_by : (b : ℕ) (bs : List ℕ) (x : Bool) → (b == 10) ≡ x → EndsAtFeed (rest_behind in_line bs) → EndsAtFeed (cond (cond x false true) (rest_behind in_line bs) (b ∷ bs))
feed_by b bs true e h = subst (λ (k : ℕ). EndsAtFeed (k ∷ bs)) (sym (eqb-true b 10 e)) AtLineFeed
feed_by b bs false e h = h

feed_behind : (bs : List ℕ) → EndsAtFeed (rest_behind in_line bs)
feed_behind [] = AtEndOfText
feed_behind (b ∷ bs) = feed_by b bs (b == 10) refl (feed_behind bs)

line_front : (bs rest : List ℕ) → All (λ c. c ≡ 10 → ⊥) bs → EndsAtFeed rest → front in_line (bs ++ rest) ≡ bs
line_front [] rest a AtEndOfText = refl
line_front [] rest a AtLineFeed = refl
line_front (b ∷ bs) rest a h =
    ap (λ (t : Bool). cond t (b ∷ front in_line (bs ++ rest)) []) (stands_in_line b (All-head (λ c. c ≡ 10 → ⊥) b bs a))
    ∙ ap (λ (l : List ℕ). b ∷ l) (line_front bs rest (All-tail (λ c. c ≡ 10 → ⊥) b bs a) h)

line_comment : (cs : List ℕ) → Passes IsBetween (suc (length (front in_line cs))) (47 ∷ 47 ∷ cs)
line_comment cs =
    let run = front in_line cs in
    let taken : take (length run) cs ≡ run = take_front in_line cs in
    let few : length run ≤ length cs = front_within in_line cs in (
      omega (arith, few),
      subst (λ (l : List ℕ). IsBetween (47 ∷ 47 ∷ l) (drop (length run) cs)) (sym taken)
          (ALineComment (All-weaker (λ c. in_line c ≡ true) (λ c. c ≡ 10 → ⊥) no_feed run (front_run in_line cs)) (subst EndsAtFeed (sym (drop_front in_line cs)) (feed_behind cs))),
    )

-- comments up to their end

-- what a block has, where its end is found: the bytes before, in which none is, and the end
pub record Block (bs : List ℕ) (n : ℕ) : Type 0 where
  pub inside : List ℕ
  pub within : n ≤ length bs
  pub taken : take n bs ≡ inside ++ 42 ∷ 47 ∷ []
  pub no_end : HasNoEnd (inside ++ 42 ∷ [])

block_here : (b : ℕ) (bs : List ℕ) (n : ℕ) → ends_block (b ∷ bs) ≡ true → Some 2 ≡ Some n → Block (b ∷ bs) n
block_here b [] n e f = absurd (true≢false (sym (and_parts (b == 42) false e).1))
block_here b (c ∷ cs) n e f =
    let first : b ≡ 42 = eqb-true b 42 (and_parts (b == 42) (c == 47) e).0 in
    let second : c ≡ 47 = eqb-true c 47 (and_parts (b == 42) (c == 47) e).1 in
    let two : 2 ≡ n = cc in
    subst (Block (b ∷ c ∷ cs)) two (record { inside = []; within = omega arith; taken = λ i. first i ∷ second i ∷ take_none cs i; no_end = (λ e. cc, tt) })

-- a star before what begins with a slash

starts_taken : (bs : List ℕ) (n : ℕ) → starts 47 (take n bs) ≡ true → starts 47 bs ≡ true
starts_taken [] zero e = e
starts_taken [] (suc n) e = e
starts_taken (b ∷ bs) zero e = absurd cc
starts_taken (b ∷ bs) (suc n) e = e

second_is : (b c : ℕ) (l : List ℕ) → b ∷ c ∷ l ≡ 42 ∷ 47 ∷ [] → (c == 47) ≡ true
second_is b c l f = eq-eqb c 47 (ap (λ (m : List ℕ). get_or m 1 0) f)

slash_second : (b : ℕ) (inside : List ℕ) → take 2 (b ∷ (inside ++ 42 ∷ [])) ≡ 42 ∷ 47 ∷ [] → starts 47 (inside ++ 42 ∷ 47 ∷ []) ≡ true
slash_second b [] f = second_is b 42 [] f
slash_second b (c ∷ inside) f = second_is b c (take 0 (inside ++ 42 ∷ [])) f

closes_block : (b : ℕ) (inside bs : List ℕ) (n : ℕ) → take n bs ≡ inside ++ 42 ∷ 47 ∷ [] → take 2 (b ∷ (inside ++ 42 ∷ [])) ≡ 42 ∷ 47 ∷ [] → ends_block (b ∷ bs) ≡ true
closes_block b inside bs n e f =
    let second : starts 47 (take n bs) ≡ true = ap (starts 47) e ∙ slash_second b inside f in
    and_from (b == 42) (starts 47 bs) (eq-eqb b 42 (ap (λ (l : List ℕ). get_or l 0 0) f)) (starts_taken bs n second)

block_later : (b : ℕ) (bs : List ℕ) (n : ℕ) → ends_block (b ∷ bs) ≡ false → (o : Option ℕ) → and_one o ≡ Some n → ((k : ℕ) → o ≡ Some k → Block bs k) → Block (b ∷ bs) n
block_later b bs n none None e go = absurd cc
block_later b bs n none (Some k) e go =
    let more = go k refl in
    let next : suc k ≡ n = cc in
    let few = more.within in
    subst (Block (b ∷ bs)) next (record {
      inside = b ∷ more.inside;
      within = omega (arith, few);
      taken = ap (λ (l : List ℕ). b ∷ l) more.taken;
      no_end = (λ f. true≢false (sym (closes_block b more.inside bs k more.taken f) ∙ none), more.no_end);
    })

block_by : (b : ℕ) (bs : List ℕ) (n : ℕ) (x : Bool) → ends_block (b ∷ bs) ≡ x → cond x (Some 2) (and_one (block bs)) ≡ Some n → ((k : ℕ) → block bs ≡ Some k → Block bs k) → Block (b ∷ bs) n
block_by b bs n true e f go = block_here b bs n e f
block_by b bs n false e f go = block_later b bs n e (block bs) f go

block_found : (bs : List ℕ) (n : ℕ) → block bs ≡ Some n → Block bs n
block_found [] n e = absurd cc
block_found (b ∷ bs) n e = block_by b bs n (ends_block (b ∷ bs)) refl e (block_found bs)

block_goes : (b : ℕ) (inside rest : List ℕ) → (take 2 (b ∷ (inside ++ 42 ∷ [])) ≡ 42 ∷ 47 ∷ [] → ⊥) → ends_block (b ∷ ((inside ++ 42 ∷ 47 ∷ []) ++ rest)) ≡ true → ⊥
block_goes b [] rest none e = true≢false (sym (and_parts (b == 42) false e).1)
block_goes b (c ∷ inside) rest none e =
    let first : b ≡ 42 = eqb-true b 42 (and_parts (b == 42) (c == 47) e).0 in
    let second : c ≡ 47 = eqb-true c 47 (and_parts (b == 42) (c == 47) e).1 in
    none (λ i. first i ∷ second i ∷ take_none (inside ++ 42 ∷ []) i)

block_is : (inside rest : List ℕ) → HasNoEnd (inside ++ 42 ∷ []) → block ((inside ++ 42 ∷ 47 ∷ []) ++ rest) ≡ Some (length (inside ++ 42 ∷ 47 ∷ []))
block_is [] rest h = refl
block_is (b ∷ inside) rest h =
    let all = (inside ++ 42 ∷ 47 ∷ []) ++ rest in
    ap (λ (t : Bool). cond t (Some 2) (and_one (block all))) (false_from_ne_true (ends_block (b ∷ all)) (block_goes b inside rest h.0)) ∙ ap and_one (block_is inside rest h.1)

block_closed : (cs : List ℕ) (n : ℕ) (o : Option ℕ) → block cs ≡ o → closed_comment (and_one o) ≡ Over n → Passes IsBetween n (47 ∷ 42 ∷ cs)
block_closed cs n None f e = absurd cc
block_closed cs n (Some k) f e =
    let found = block_found cs k f in
    let few = found.within in
    let next : suc k ≡ n = cc in
    subst (λ (m : ℕ). Passes IsBetween m (47 ∷ 42 ∷ cs)) next
    (omega (arith, few), subst (λ (l : List ℕ). IsBetween (47 ∷ 42 ∷ l) (drop k cs)) (sym found.taken) (ABlockComment found.inside found.no_end))

-- what is passed over may stand between tokens

comment_by : (c : ℕ) (cs : List ℕ) (n : ℕ) (x y : Bool) → (c == 47) ≡ x → (c == 42) ≡ y → cond x (Over (length (front in_line (c ∷ cs)))) (cond y (closed_comment (and_one (block cs))) Other) ≡ Over n → Passes IsBetween n (47 ∷ c ∷ cs)
comment_by c cs n true y e f h =
    let same = eqb-true c 47 e in
    let long : length (front in_line (c ∷ cs)) ≡ n = cc in
    subst (λ (m : ℕ). Passes IsBetween m (47 ∷ c ∷ cs)) long (subst (λ (k : ℕ). Passes IsBetween (length (front in_line (k ∷ cs))) (47 ∷ k ∷ cs)) (sym same) (line_comment cs))
comment_by c cs n false true e f h = subst (λ (k : ℕ). Passes IsBetween n (47 ∷ k ∷ cs)) (sym (eqb-true c 42 f)) (block_closed cs n (block cs) refl h)
comment_by c cs n false false e f h = absurd cc

comment_passes : (bs : List ℕ) (n : ℕ) → comment bs ≡ Over n → Passes IsBetween n (47 ∷ bs)
comment_passes [] n h = absurd cc
comment_passes (c ∷ cs) n h = comment_by c cs n (c == 47) (c == 42) refl refl h

blank_passes : (b : ℕ) (bs : List ℕ) → is_blank b ≡ true → Passes IsBetween 0 (b ∷ bs)
blank_passes b bs e = (omega arith, subst (λ (l : List ℕ). IsBetween (b ∷ l) (drop 0 bs)) (sym (take_none bs)) (ABlank (contains (32 ∷ 9 ∷ 10 ∷ 13 ∷ []) b e)))

passes_by : (b : ℕ) (bs : List ℕ) (n : ℕ) (x y : Bool) → is_blank b ≡ x → (b == 47) ≡ y → cond x (Over 0) (cond y (comment bs) Other) ≡ Over n → Passes IsBetween n (b ∷ bs)
passes_by b bs n true y e f h = let none : 0 ≡ n = cc in subst (λ (m : ℕ). Passes IsBetween m (b ∷ bs)) none (blank_passes b bs e)
passes_by b bs n false true e f h = subst (λ (k : ℕ). Passes IsBetween n (k ∷ bs)) (sym (eqb-true b 47 f)) (comment_passes bs n h)
passes_by b bs n false false e f h = absurd cc

pub over_passes : (bs : List ℕ) (n : ℕ) → blank bs ≡ Over n → Passes IsBetween n bs
over_passes [] n h = tt
over_passes (b ∷ bs) n h = passes_by b bs n (is_blank b) (b == 47) refl refl h

-- and what may stand there is passed over
pub between_over : (b : ℕ) (bs rest : List ℕ) → IsBetween (b ∷ bs) rest → blank (b ∷ (bs ++ rest)) ≡ Over (length bs)
between_over b bs rest (ABlank c) = ap (λ (t : Bool). cond t (Over 0) (cond (b == 47) (comment rest) Other)) (contained (32 ∷ 9 ∷ 10 ∷ 13 ∷ []) b c)
between_over b bs rest (ALineComment {bs = cs} a h) = ap (λ (l : List ℕ). Over (suc (length l))) (line_front cs rest a h)
between_over b bs rest (ABlockComment inside h) = ap (λ (o : Option ℕ). closed_comment (and_one o)) (block_is inside rest h)

-- from the pieces between to the longest match
module _ {T : Type 0} (IsOne : List ℕ → List ℕ → Type 0) (Past : List ℕ → (Place → Fault) → Type 0) (piece : List ℕ → Piece T) (cut : (bs : List ℕ) → blank bs ≡ Other → IsCut IsOne IsBetween Past bs (piece bs)) (reaches : (xs rest : List ℕ) → IsOne xs rest → (blank (xs ++ rest) ≡ Other) × Reaches (length xs) (piece (xs ++ rest))) (refuses : (bs : List ℕ) (f : Place → Fault) → Past bs f → (blank bs ≡ Other) × (piece bs ≡ Wrong f)) where
  past_cut : (bs : List ℕ) (k : Blank) → blank bs ≡ k → IsCut IsOne IsBetween Past bs (past_blank k (piece bs))
  past_cut bs (Over n) e = over_passes bs n e
  past_cut bs Unclosed e = inl refl
  past_cut bs Other e = cut bs e

  past_reaches : (xs rest : List ℕ) → IsOne xs rest → Reaches (length xs) (past_blanks piece (xs ++ rest))
  past_reaches xs rest one = let h = reaches xs rest one in subst (λ (k : Blank). Reaches (length xs) (past_blank k (piece (xs ++ rest)))) (sym h.0) h.1

  past_between : (b : ℕ) (bs rest : List ℕ) → IsBetween (b ∷ bs) rest → past_blanks piece (b ∷ (bs ++ rest)) ≡ Passed (length bs)
  past_between b bs rest between = ap (λ (k : Blank). past_blank k (piece (b ∷ (bs ++ rest)))) (between_over b bs rest between)

  past_refuses : (bs : List ℕ) (f : Place → Fault) → Past bs f → past_blanks piece bs ≡ Wrong f
  past_refuses bs f past = let h = refuses bs f past in ap (λ (k : Blank). past_blank k (piece bs)) h.0 ∙ h.1

  pub longest_past_blanks : IsLongestMatch IsOne IsBetween Past (past_blanks piece)
  longest_past_blanks = longest_match IsOne IsBetween Past (past_blanks piece) (λ bs. past_cut bs (blank bs) refl) past_reaches past_between past_refuses
