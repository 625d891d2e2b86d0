-- The text of a token with a blank after it is cut as that token again.
use Rattle.std.proofs.Common.{◌≡◌, ℕ, ◌-◌, ◌≤◌, Bool, true, false, cond, List, [], ◌∷◌, ◌++◌, map, length, Ok, Option, Some, None, refl, sym, ap, ◌∙◌, arith}
use Rattle.std.specs.Prelude as prelude
use Rattle.std.specs.Prelude.{not, ◌||◌, ◌&&◌, codes}
use Rattle.std.specs.List.{flat_map}
use Rattle.std.specs.Str.{bytes_eq}
use Rattle.std.proofs.Math.Nat.{min-eq_left}
use Rattle.scan_text.specs.declared.Place.{Place}
use Rattle.scan_text.specs.declared.Blank.{Blank}
use Rattle.scan_text.specs.declared.Blank.TheVariants.{Other}
use Rattle.scan_text.specs.Text.{front, is_digit, digits, decimal, capped_count}
use Rattle.scan_text.specs.Blanks.{blank}
use Rattle.grammar.specs.declared.Fault.TheVariants.{Grammar}
use Rattle.grammar.specs.Cutting.{Piece, Token, Wrong, past_blank}
use Rattle.grammar.proofs.Spaced as spaced
use Rattle.grammar.proofs.Spaced.{All, all_every, front_all, differs, no_blank, no_comment, gap, gap_fails, take_none, front_taken, less_one, Digits, digits_of, plain, plain_is, plain_digits, named_front, word_taken, Each, GoodPiece, good_if}
use Rattle.hdl_tree.specs.Writable.{all, is_letter, is_name_byte, reserved_names, is_among, name_can}
use Rattle.hdl_parser.specs.declared.token.Keyword.{Keyword}
use Rattle.hdl_parser.specs.declared.token.Keyword.TheVariants as keyword
use Rattle.hdl_parser.specs.declared.token.Kind.{Kind}
use Rattle.hdl_parser.specs.declared.token.Kind.TheVariants as kind
use Rattle.hdl_parser.specs.Tokens.{Word, keyword_text, keyword_of, keywords, keyword_spelled, piece, made_word, tokens_of, token_of, number_piece, word_piece, symbol_piece, dots_piece, begins_dots, is_sign, kind_of, word_kind}
use Rattle.grammar.specs.Printed.{set_off}
use Rattle.hdl_parser.specs.Printed.{shown_word}

abbrev piece_is : ℕ → List ℕ → Bool → Bool → Bool → Piece Word
piece_is b all letter sign digit = cond letter (word_piece all) (cond sign (symbol_piece b all) (cond digit (number_piece all) (dots_piece all)))

-- names and keywords
abbrev pub Named : List ℕ → Kind → Type 0
Named = spaced.Named word_kind

-- how a token's text stands before a blank
abbrev Cut : Kind → List ℕ → Bool → List ℕ → Type 0
Cut k text t rest = spaced.Stands piece (made_word k text) text t rest

named_cut : (k : Kind) (text : List ℕ) → Named text k → (t : Bool) (rest : List ℕ) → Cut k text t rest
named_cut = spaced.named_cut piece made_word word_kind (λ b bs letter. ap (λ (x : Bool). piece_is b (b ∷ bs) x (is_sign b) (is_digit b)) letter)

keyword_named : (k : Keyword) → Named (keyword_text k) (kind.Keyword k)
keyword_named keyword.Chip = record { first = 67; more = codes "HIP"; is = refl; letter = refl; names = all_every is_name_byte (codes "HIP") refl; kind = refl }
keyword_named keyword.In = record { first = 73; more = codes "N"; is = refl; letter = refl; names = all_every is_name_byte (codes "N") refl; kind = refl }
keyword_named keyword.Out = record { first = 79; more = codes "UT"; is = refl; letter = refl; names = all_every is_name_byte (codes "UT") refl; kind = refl }
keyword_named keyword.Parts = record { first = 80; more = codes "ARTS"; is = refl; letter = refl; names = all_every is_name_byte (codes "ARTS") refl; kind = refl }
keyword_named keyword.Builtin = record { first = 66; more = codes "UILTIN"; is = refl; letter = refl; names = all_every is_name_byte (codes "UILTIN") refl; kind = refl }
keyword_named keyword.Clocked = record { first = 67; more = codes "LOCKED"; is = refl; letter = refl; names = all_every is_name_byte (codes "LOCKED") refl; kind = refl }
keyword_named keyword.True = record { first = 116; more = codes "rue"; is = refl; letter = refl; names = all_every is_name_byte (codes "rue") refl; kind = refl }
keyword_named keyword.False = record { first = 102; more = codes "alse"; is = refl; letter = refl; names = all_every is_name_byte (codes "alse") refl; kind = refl }

-- symbols
symbol_cut : (b : ℕ) → is_letter b ≡ false → is_sign b ≡ true → (t : Bool) (rest : List ℕ) → Cut (kind.Symbol b) (b ∷ []) t rest
symbol_cut b l s =
    spaced.symbol_cut piece made_word (kind.Symbol b) b (no_blank is_sign b s refl refl refl refl)
    (λ bs. ap (λ (x : Bool). piece_is b (b ∷ bs) x (is_sign b) (is_digit b)) l ∙ ap (λ (x : Bool). piece_is b (b ∷ bs) false x (is_digit b)) s)

-- two dots
dots_cut : (t : Bool) (rest : List ℕ) → Cut kind.Dots (codes "..") t rest
dots_cut t rest = record { first = 46; more = codes "."; is = refl; cut_so = ap (λ (l : List ℕ). Token (made_word kind.Dots (46 ∷ 46 ∷ l)) 1) (take_none (gap t ∷ rest)) }

-- numbers
digits_cut : (n : ℕ) → n ≤ 1000000001 → (ds : List ℕ) → Digits (plain is_sign) n ds → (t : Bool) (rest : List ℕ) → Cut (kind.Number n) ds t rest
digits_cut n h [] d t rest = absurd (let some = d.some in omega (arith, some))
digits_cut n h (b ∷ w) d t rest =
    let all = b ∷ (w ++ gap t ∷ rest) in
    let facts = plain_is is_sign b d.all.0 in
    let run : digits all ≡ b ∷ w = front_all is_digit (b ∷ w) (gap t) rest (plain_digits is_sign (b ∷ w) d.all) (gap_fails is_digit refl refl t) in
    let value : capped_count (decimal 0 (digits all)) ≡ n = ap (λ (l : List ℕ). capped_count (decimal 0 l)) run ∙ ap capped_count d.value ∙ min-eq_left (omega arith) in
    let other : blank all ≡ Other = no_comment b (w ++ gap t ∷ rest) (no_blank (plain is_sign) b d.all.0 refl refl refl refl) (differs (plain is_sign) b 47 d.all.0 refl) in
    let number : number_piece all ≡ Token (made_word (kind.Number n) (b ∷ w)) (length w) =
    spaced.token_is made_word (kind.Number (capped_count (decimal 0 (digits all)))) (kind.Number n) (length (digits all) - 1) (length w) all (b ∷ w) (ap kind.Number value) (ap (λ (l : List ℕ). length l - 1) run ∙ less_one b w) (front_taken b w (gap t ∷ rest)) in
    record {
      first = b;
      more = w;
      is = refl;
      cut_so = ap (λ (x : Blank). past_blank x (piece all)) other
          ∙ (λ i. piece_is b all (facts.0 i) (facts.1 i) (facts.2 i)) ∙ number;
    }

-- What is known of a token of a text.
abbrev pub Good : Kind → List ℕ → Type 0
Good (kind.Keyword k) text = Unit {0}
Good (kind.Symbol b) text = (is_letter b ≡ false) × (is_sign b ≡ true)
Good kind.Dots text = Unit {0}
Good (kind.Number n) text = n ≤ 1000000001
Good kind.Name text = Named text kind.Name

cut_again : (k : Kind) (text : List ℕ) (at : Place) → Good k text → (t : Bool) (rest : List ℕ) → Cut k (shown_word (made_word k text at)) t rest
cut_again (kind.Keyword k) text at g t rest = named_cut (kind.Keyword k) (keyword_text k) (keyword_named k) t rest
cut_again (kind.Symbol b) text at g t rest = symbol_cut b g.0 g.1 t rest
cut_again (kind.Number n) text at g t rest = digits_cut n g (prelude.decimal n) (digits_of (plain is_sign) refl n (omega (arith, g))) t rest
cut_again kind.Dots text at g t rest = dots_cut t rest
cut_again kind.Name text at g t rest = named_cut kind.Name text g t rest

-- what a token says, but for its place
abbrev pub told_by : Kind → List ℕ → List ℕ
told_by kind.Name text = text
told_by k text = []

abbrev pub told : Word → Kind × List ℕ
told w = (w.kind, told_by w.kind w.text)

told_again : (k : Kind) (text : List ℕ) (at : Place) → told_by k (shown_word (made_word k text at)) ≡ told_by k text
told_again (kind.Keyword k) text at = refl
told_again (kind.Symbol b) text at = refl
told_again (kind.Number n) text at = refl
told_again kind.Dots text at = refl
told_again kind.Name text at = refl

abbrev GoodWord : Word → Type 0
GoodWord w = Good w.kind w.text

abbrev pub AllGood : List Word → Type 0
AllGood ws = Each GoodWord ws

-- the tokens of a text are such tokens

good_kind : (text : List ℕ) → Named text (word_kind text) → (o : Option Keyword) → keyword_of text ≡ o → Good (kind_of o) text
good_kind text n None k = record { first = n.first; more = n.more; is = n.is; letter = n.letter; names = n.names; kind = ap kind_of k }
good_kind text n (Some w) k = tt

good_word : (b : ℕ) (bs : List ℕ) → is_letter b ≡ true → GoodPiece GoodWord (word_piece (b ∷ bs))
good_word b bs l at =
    let text = front is_name_byte (b ∷ bs) in
    word_taken (Good (word_kind text)) b bs l (good_kind text (named_front word_kind b bs l) (keyword_of text) refl)

capped_within : (n : ℕ) → capped_count n ≤ 1000000001
capped_within n = omega arith

good_number : (all : List ℕ) → GoodPiece GoodWord (number_piece all)
good_number all at = capped_within (decimal 0 (digits all))

good_dots : (all : List ℕ) → GoodPiece GoodWord (dots_piece all)
good_dots all = good_if GoodWord (begins_dots all) (token_of kind.Dots 1 all) (Wrong Grammar) (λ e at. tt) (λ e. tt)

good_piece : (bs : List ℕ) → GoodPiece GoodWord (piece bs)
good_piece [] = tt
good_piece (b ∷ bs) =
    let all = b ∷ bs in
    good_if GoodWord (is_letter b) (word_piece all) (piece_is b all false (is_sign b) (is_digit b)) (λ l. good_word b bs l)
    (λ l. good_if GoodWord (is_sign b) (symbol_piece b all) (piece_is b all false false (is_digit b)) (λ s at. (l, s))
    (λ s. good_if GoodWord (is_digit b) (number_piece all) (dots_piece all) (λ d. good_number all) (λ d. good_dots all)))

pub good_tokens : (text : List ℕ) (ts : List Word) → tokens_of text ≡ Ok ts → AllGood ts
good_tokens text ts e = spaced.good_tokens GoodWord piece good_piece text ts e

-- a name that a text can have
pub first_of : (a b : Bool) → (a && b) ≡ true → a ≡ true
first_of true b e = refl
first_of false b e = absurd cc

pub second_of : (a b : Bool) → (a && b) ≡ true → b ≡ true
second_of true b e = e
second_of false b e = absurd cc

all_are : (is : ℕ → Bool) (bs : List ℕ) → all is bs ≡ true → All is bs
all_are is [] h = tt
all_are is (b ∷ bs) h = (first_of (is b) (all is bs) h, all_are is bs (second_of (is b) (all is bs) h))

-- a word is reserved if it is a keyword
abbrev pub is_one : Option Keyword → Bool
is_one None = false
is_one (Some k) = true

among_by : (k : Keyword) (o : Option Keyword) (b t : Bool) → b ≡ is_one o → (t || b) ≡ is_one (cond t (Some k) o)
among_by k o b true e = refl
among_by k o b false e = e

among : (ks : List Keyword) (text : List ℕ) → is_among text (map keyword_text ks) ≡ is_one (keyword_spelled ks text)
among [] text = refl
among (k ∷ ks) text = among_by k (keyword_spelled ks text) (is_among text (map keyword_text ks)) (bytes_eq text (keyword_text k)) (among ks text)

pub reserved_is : (text : List ℕ) → is_among text reserved_names ≡ is_one (keyword_of text)
reserved_is text = among keywords text

free_by : (o : Option Keyword) → not (is_one o) ≡ true → kind_of o ≡ kind.Name
free_by None h = refl
free_by (Some k) h = absurd cc

free_kind : (text : List ℕ) → not (is_among text reserved_names) ≡ true → word_kind text ≡ kind.Name
free_kind text h = free_by (keyword_of text) (ap not (sym (reserved_is text)) ∙ h)

pub name_good : (text : List ℕ) → name_can text ≡ true → Good kind.Name text
name_good [] h = absurd cc
name_good (b ∷ bs) h =
    let free = not (is_among (b ∷ bs) reserved_names) in
    let r = second_of (is_letter b) (all is_name_byte bs && free) h in
    record {
      first = b;
      more = bs;
      is = refl;
      letter = first_of (is_letter b) (all is_name_byte bs && free) h;
      names = all_are is_name_byte bs (first_of (all is_name_byte bs) free r);
      kind = free_kind (b ∷ bs) (second_of (all is_name_byte bs) free r);
    }

-- the printed form of such tokens
pub printed_good : (ts : List Word) → AllGood ts → length (flat_map set_off (map shown_word ts)) ≤ 1048576 → (us : List Word) × (tokens_of (flat_map set_off (map shown_word ts)) ≡ Ok us) × (map told us ≡ map told ts)
printed_good ts good small =
    spaced.printed_good piece GoodWord shown_word (λ text. bytes_eq text (codes "{") || (bytes_eq text (codes "}") || bytes_eq text (codes ";"))) (λ w at. made_word w.kind (shown_word w) at) told
    (λ w g t rest. cut_again w.kind w.text w.place g t rest) (λ w at. ap (λ (x : List ℕ). (w.kind, x)) (told_again w.kind w.text at)) ts good small
