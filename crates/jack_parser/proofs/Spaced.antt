-- The text of a token with a blank after it is cut as that token again.
use Rattle.std.proofs.Common.{◌≡◌, ℕ, zero, suc, ◌+◌, ◌-◌, ◌≤◌, Bool, true, false, cond, List, [], ◌∷◌, ◌++◌, map, length, take, drop, append_assoc, length-append, Ok, Option, Some, None, refl, sym, ap, subst, ◌∙◌, arith}
use Rattle.std.specs.Prelude as prelude
use Rattle.std.specs.Prelude.{min, nat_lt, ◌==◌, ◌||◌, codes}
use Rattle.std.specs.List.{flat_map}
use Rattle.std.specs.Str.{bytes_eq}
use Rattle.std.proofs.lemmas.Bool.{le-ltb, ltb-false}
use Rattle.std.proofs.lemmas.List.{length-take, take_at}
use Rattle.std.proofs.Math.Nat.{min-eq_left}
use Rattle.scan_text.specs.declared.Place.{Place}
use Rattle.scan_text.specs.declared.Blank.{Blank}
use Rattle.scan_text.specs.declared.Blank.TheVariants.{Other}
use Rattle.scan_text.specs.Text.{front, is_digit, digits, decimal, capped_count}
use Rattle.scan_text.specs.Blanks.{blank, starts}
use Rattle.grammar.specs.declared.Fault.TheVariants.{Grammar, Range}
use Rattle.grammar.specs.Cutting.{Piece, Token, Wrong, past_blank}
use Rattle.grammar.proofs.Spaced as spaced
use Rattle.grammar.proofs.Spaced.{All, all_every, front_all, differs, no_blank, no_comment, gap, gap_fails, drop_none, drop_length, front_taken, less_one, Digits, digits_of, plain, plain_is, plain_digits, named_front, word_taken, Each, GoodPiece, good_if}
use Rattle.jack_tree.specs.declared.token.Keyword.{Keyword}
use Rattle.jack_tree.specs.declared.token.Keyword.TheVariants as keyword
use Rattle.jack_tree.specs.declared.token.Kind.{Kind}
use Rattle.jack_tree.specs.declared.token.Kind.TheVariants as kind
use Rattle.jack_tree.specs.Tokens.{Word, keyword_text, keyword_of}
use Rattle.grammar.specs.Words.{is_letter, is_name_byte}
use Rattle.jack_lexer.specs.Tokens.{piece, made_word, tokens_of, token_of, number_piece, word_piece, symbol_piece, text_piece, is_text_byte, is_sign, kind_of, word_kind}
use Rattle.jack_parser.specs.Grammar.{without_quotes}
use Rattle.grammar.specs.Printed.{set_off}
use Rattle.jack_parser.specs.Printed.{shown_word}

taken_by : (is : ℕ → Bool) (b : ℕ) (m k : ℕ) (bs : List ℕ) (t : Bool) → is b ≡ t → ((n : ℕ) → n ≤ length (front is bs) → All is (take n (take k bs))) → m ≤ length (cond t (b ∷ front is bs) []) → All is (take m (take (suc k) (b ∷ bs)))
taken_by is b zero k bs t h go le = tt
taken_by is b (suc m) k bs true h go le = (h, go m (omega arith))
taken_by is b (suc m) k bs false h go le = absurd (omega arith)

-- a front of a run
all_taken : (is : ℕ → Bool) (k : ℕ) (bs : List ℕ) (m : ℕ) → m ≤ length (front is bs) → All is (take m (take k bs))
all_taken is zero [] zero le = tt
all_taken is zero [] (suc m) le = tt
all_taken is zero (b ∷ bs) zero le = tt
all_taken is zero (b ∷ bs) (suc m) le = tt
all_taken is (suc k) [] zero le = tt
all_taken is (suc k) [] (suc m) le = tt
all_taken is (suc k) (b ∷ bs) m le = taken_by is b m k bs (is b) refl (λ n h. all_taken is k bs n h) le

abbrev piece_is : ℕ → List ℕ → Bool → Bool → Bool → Bool → Piece Word
piece_is b all letter sign digit quote = cond letter (word_piece all) (cond sign (symbol_piece b all) (cond digit (number_piece all) (cond quote (text_piece all) (Wrong Grammar))))

-- names and keywords
abbrev pub Named : List ℕ → Kind → Type 0
Named = spaced.Named word_kind

-- how a token's text stands before a blank
abbrev Cut : Kind → List ℕ → Bool → List ℕ → Type 0
Cut k text t rest = spaced.Stands piece (made_word k text) text t rest

named_cut : (k : Kind) (text : List ℕ) → Named text k → (t : Bool) (rest : List ℕ) → Cut k text t rest
named_cut = spaced.named_cut piece made_word word_kind (λ b bs letter. ap (λ (x : Bool). piece_is b (b ∷ bs) x (is_sign b) (is_digit b) (b == 34)) letter)

keyword_named : (k : Keyword) → Named (keyword_text k) (kind.Keyword k)
keyword_named keyword.Class = record { first = 99; more = codes "lass"; is = refl; letter = refl; names = all_every is_name_byte (codes "lass") refl; kind = refl }
keyword_named keyword.Constructor = record { first = 99; more = codes "onstructor"; is = refl; letter = refl; names = all_every is_name_byte (codes "onstructor") refl; kind = refl }
keyword_named keyword.Function = record { first = 102; more = codes "unction"; is = refl; letter = refl; names = all_every is_name_byte (codes "unction") refl; kind = refl }
keyword_named keyword.Method = record { first = 109; more = codes "ethod"; is = refl; letter = refl; names = all_every is_name_byte (codes "ethod") refl; kind = refl }
keyword_named keyword.Field = record { first = 102; more = codes "ield"; is = refl; letter = refl; names = all_every is_name_byte (codes "ield") refl; kind = refl }
keyword_named keyword.Static = record { first = 115; more = codes "tatic"; is = refl; letter = refl; names = all_every is_name_byte (codes "tatic") refl; kind = refl }
keyword_named keyword.Var = record { first = 118; more = codes "ar"; is = refl; letter = refl; names = all_every is_name_byte (codes "ar") refl; kind = refl }
keyword_named keyword.Int = record { first = 105; more = codes "nt"; is = refl; letter = refl; names = all_every is_name_byte (codes "nt") refl; kind = refl }
keyword_named keyword.Char = record { first = 99; more = codes "har"; is = refl; letter = refl; names = all_every is_name_byte (codes "har") refl; kind = refl }
keyword_named keyword.Boolean = record { first = 98; more = codes "oolean"; is = refl; letter = refl; names = all_every is_name_byte (codes "oolean") refl; kind = refl }
keyword_named keyword.Void = record { first = 118; more = codes "oid"; is = refl; letter = refl; names = all_every is_name_byte (codes "oid") refl; kind = refl }
keyword_named keyword.True = record { first = 116; more = codes "rue"; is = refl; letter = refl; names = all_every is_name_byte (codes "rue") refl; kind = refl }
keyword_named keyword.False = record { first = 102; more = codes "alse"; is = refl; letter = refl; names = all_every is_name_byte (codes "alse") refl; kind = refl }
keyword_named keyword.Null = record { first = 110; more = codes "ull"; is = refl; letter = refl; names = all_every is_name_byte (codes "ull") refl; kind = refl }
keyword_named keyword.This = record { first = 116; more = codes "his"; is = refl; letter = refl; names = all_every is_name_byte (codes "his") refl; kind = refl }
keyword_named keyword.Let = record { first = 108; more = codes "et"; is = refl; letter = refl; names = all_every is_name_byte (codes "et") refl; kind = refl }
keyword_named keyword.Do = record { first = 100; more = codes "o"; is = refl; letter = refl; names = all_every is_name_byte (codes "o") refl; kind = refl }
keyword_named keyword.If = record { first = 105; more = codes "f"; is = refl; letter = refl; names = all_every is_name_byte (codes "f") refl; kind = refl }
keyword_named keyword.Else = record { first = 101; more = codes "lse"; is = refl; letter = refl; names = all_every is_name_byte (codes "lse") refl; kind = refl }
keyword_named keyword.While = record { first = 119; more = codes "hile"; is = refl; letter = refl; names = all_every is_name_byte (codes "hile") refl; kind = refl }
keyword_named keyword.Return = record { first = 114; more = codes "eturn"; is = refl; letter = refl; names = all_every is_name_byte (codes "eturn") refl; kind = refl }

-- symbols
symbol_cut : (b : ℕ) → is_letter b ≡ false → is_sign b ≡ true → (t : Bool) (rest : List ℕ) → Cut (kind.Symbol b) (b ∷ []) t rest
symbol_cut b l s =
    spaced.symbol_cut piece made_word (kind.Symbol b) b (no_blank is_sign b s refl refl refl refl)
    (λ bs. ap (λ (x : Bool). piece_is b (b ∷ bs) x (is_sign b) (is_digit b) (b == 34)) l ∙ ap (λ (x : Bool). piece_is b (b ∷ bs) false x (is_digit b) (b == 34)) s)

-- integers
digits_cut : (n : ℕ) → n ≤ 32767 → (ds : List ℕ) → Digits (plain is_sign) n ds → (t : Bool) (rest : List ℕ) → Cut (kind.Integer n) ds t rest
digits_cut n h [] d t rest = absurd (let some = d.some in omega (arith, some))
digits_cut n h (b ∷ w) d t rest =
    let all = b ∷ (w ++ gap t ∷ rest) in
    let facts = plain_is is_sign b d.all.0 in
    let run : digits all ≡ b ∷ w = front_all is_digit (b ∷ w) (gap t) rest (plain_digits is_sign (b ∷ w) d.all) (gap_fails is_digit refl refl t) in
    let value : capped_count (decimal 0 (digits all)) ≡ n = ap (λ (l : List ℕ). capped_count (decimal 0 l)) run ∙ ap capped_count d.value ∙ min-eq_left (omega arith) in
    let other : blank all ≡ Other = no_comment b (w ++ gap t ∷ rest) (no_blank (plain is_sign) b d.all.0 refl refl refl refl) (differs (plain is_sign) b 47 d.all.0 refl) in
    let fits : nat_lt 32767 n ≡ false = le-ltb _ _ h in
    let token : token_of (kind.Integer n) (length (digits all) - 1) all ≡ Token (made_word (kind.Integer n) (b ∷ w)) (length w) =
    spaced.token_is made_word (kind.Integer n) (kind.Integer n) (length (digits all) - 1) (length w) all (b ∷ w) refl (ap (λ (l : List ℕ). length l - 1) run ∙ less_one b w) (front_taken b w (gap t ∷ rest)) in
    let number : number_piece all ≡ Token (made_word (kind.Integer n) (b ∷ w)) (length w) =
    (λ i. cond (nat_lt 32767 (value i)) (Wrong (λ at. Range at (min (value i) 1000000000))) (token_of (kind.Integer (value i)) (length (digits all) - 1) all))
    ∙ ap (λ (x : Bool). cond x (Wrong (λ at. Range at (min n 1000000000))) (token_of (kind.Integer n) (length (digits all) - 1) all)) fits ∙ token in
    record {
      first = b;
      more = w;
      is = refl;
      cut_so = ap (λ (x : Blank). past_blank x (piece all)) other
          ∙ (λ i. piece_is b all (facts.0 i) (facts.1 i) (facts.2 i) (b == 34)) ∙ number;
    }

-- strings
abbrev pub quoted : List ℕ → List ℕ
quoted u = 34 ∷ (u ++ 34 ∷ [])

string_cut : (u : List ℕ) → All is_text_byte u → (t : Bool) (rest : List ℕ) → Cut kind.Text (quoted u) t rest
string_cut u a t rest =
    let w = u ++ 34 ∷ [] in
    let all = 34 ∷ (w ++ gap t ∷ rest) in
    let behind = 34 ∷ gap t ∷ rest in
    let same : w ++ gap t ∷ rest ≡ u ++ behind = append_assoc u (34 ∷ []) (gap t ∷ rest) in
    let run : front is_text_byte (drop 1 all) ≡ u = ap (front is_text_byte) (drop_none (w ++ gap t ∷ rest) ∙ same) ∙ front_all is_text_byte u 34 (gap t ∷ rest) a refl in
    let long : length (front is_text_byte (drop 1 all)) + 1 ≡ length w = ap (λ (l : List ℕ). length l + 1) run ∙ omega (arith, length-append u (34 ∷ [])) in
    let size : length w ≡ suc (length u) = omega (arith, length-append u (34 ∷ [])) in
    let closes : starts 34 (drop (length w) all) ≡ true = ap (starts 34) ((λ i. drop (size i) (34 ∷ same i)) ∙ drop_length u behind) in
    record {
      first = 34;
      more = w;
      is = refl;
      cut_so = (λ i. cond (starts 34 (drop (long i) all)) (token_of kind.Text (long i) all) (Wrong Grammar))
          ∙ ap (λ (x : Bool). cond x (token_of kind.Text (length w) all) (Wrong Grammar)) closes
          ∙ spaced.token_is made_word kind.Text kind.Text (length w) (length w) all (quoted u) refl refl (front_taken 34 w (gap t ∷ rest));
    }

pub unquoted_quoted : (u : List ℕ) → without_quotes (quoted u) ≡ u
unquoted_quoted u =
    let size : length (quoted u) - 2 ≡ length u = omega (arith, length-append u (34 ∷ [])) in
    (λ i. take (size i) (drop_none (u ++ 34 ∷ []) i)) ∙ take_at u (34 ∷ []) (length u) refl

-- What is known of a token of a text.
abbrev pub Good : Kind → List ℕ → Type 0
Good (kind.Keyword k) text = Unit {0}
Good (kind.Symbol b) text = (is_letter b ≡ false) × (is_sign b ≡ true)
Good (kind.Integer n) text = n ≤ 32767
Good kind.Text text = All is_text_byte (without_quotes text)
Good kind.Identifier text = Named text kind.Identifier

cut_again : (k : Kind) (text : List ℕ) (at : Place) → Good k text → (t : Bool) (rest : List ℕ) → Cut k (shown_word (made_word k text at)) t rest
cut_again (kind.Keyword k) text at g t rest = named_cut (kind.Keyword k) (keyword_text k) (keyword_named k) t rest
cut_again (kind.Symbol b) text at g t rest = symbol_cut b g.0 g.1 t rest
cut_again (kind.Integer n) text at g t rest = digits_cut n g (prelude.decimal n) (digits_of (plain is_sign) refl n (omega (arith, g))) t rest
cut_again kind.Text text at g t rest = string_cut (without_quotes text) g t rest
cut_again kind.Identifier text at g t rest = named_cut kind.Identifier text g t rest

-- what a token says, but for its place
abbrev pub told_by : Kind → List ℕ → List ℕ
told_by kind.Text text = without_quotes text
told_by kind.Identifier text = text
told_by k text = []

abbrev pub told : Word → Kind × List ℕ
told w = (w.kind, told_by w.kind w.text)

told_again : (k : Kind) (text : List ℕ) (at : Place) → told_by k (shown_word (made_word k text at)) ≡ told_by k text
told_again (kind.Keyword k) text at = refl
told_again (kind.Symbol b) text at = refl
told_again (kind.Integer n) text at = refl
told_again kind.Text text at = unquoted_quoted (without_quotes text)
told_again kind.Identifier text at = refl

abbrev GoodWord : Word → Type 0
GoodWord w = Good w.kind w.text

abbrev pub AllGood : List Word → Type 0
AllGood ws = Each GoodWord ws

-- the tokens of a text are such tokens

good_kind : (text : List ℕ) → Named text (word_kind text) → (o : Option Keyword) → keyword_of text ≡ o → Good (kind_of o) text
good_kind text n None k = record { first = n.first; more = n.more; is = n.is; letter = n.letter; names = n.names; kind = ap kind_of k }
good_kind text n (Some w) k = tt

good_word : (b : ℕ) (bs : List ℕ) → is_letter b ≡ true → GoodPiece GoodWord (word_piece (b ∷ bs))
good_word b bs l at =
    let text = front is_name_byte (b ∷ bs) in
    word_taken (Good (word_kind text)) b bs l (good_kind text (named_front word_kind b bs l) (keyword_of text) refl)

good_string : (b : ℕ) (bs : List ℕ) → GoodPiece GoodWord (text_piece (b ∷ bs))
good_string b bs =
    let all = b ∷ bs in
    let run = length (front is_text_byte (drop 1 all)) in
    let text = take (suc (run + 1)) all in
    good_if GoodWord (starts 34 (drop (run + 1) all)) (token_of kind.Text (run + 1) all) (Wrong Grammar)
    (λ e at.
    let size : length text - 2 ≤ length (front is_text_byte bs) =
    let some : length (take (run + 1) bs) ≤ run + 1 = omega (arith, length-take (run + 1) bs) in
    let same : run ≡ length (front is_text_byte bs) = ap (λ (l : List ℕ). length (front is_text_byte l)) (drop_none bs) in
    omega (arith, some, same) in
    subst (λ (l : List ℕ). All is_text_byte (take (length text - 2) l)) (sym (drop_none (take (run + 1) bs))) (all_taken is_text_byte (run + 1) bs (length text - 2) size))
    (λ e. tt)

good_number : (all : List ℕ) → GoodPiece GoodWord (number_piece all)
good_number all =
    let n = capped_count (decimal 0 (digits all)) in
    good_if GoodWord (nat_lt 32767 n) (Wrong (λ at. Range at (min n 1000000000))) (token_of (kind.Integer n) (length (digits all) - 1) all) (λ e. tt) (λ e at. ltb-false 32767 n e)

good_piece : (bs : List ℕ) → GoodPiece GoodWord (piece bs)
good_piece [] = tt
good_piece (b ∷ bs) =
    let all = b ∷ bs in
    good_if GoodWord (is_letter b) (word_piece all) (piece_is b all false (is_sign b) (is_digit b) (b == 34)) (λ l. good_word b bs l)
    (λ l. good_if GoodWord (is_sign b) (symbol_piece b all) (piece_is b all false false (is_digit b) (b == 34)) (λ s at. (l, s))
    (λ s. good_if GoodWord (is_digit b) (number_piece all) (piece_is b all false false false (b == 34)) (λ d. good_number all)
    (λ d. good_if GoodWord (b == 34) (text_piece all) (Wrong Grammar) (λ q. good_string b bs) (λ q. tt))))

pub good_tokens : (text : List ℕ) (ts : List Word) → tokens_of text ≡ Ok ts → AllGood ts
good_tokens text ts e = spaced.good_tokens GoodWord piece good_piece text ts e

-- the printed form of such tokens
pub printed_good : (ts : List Word) → AllGood ts → length (flat_map set_off (map shown_word ts)) ≤ 1048576 → (us : List Word) × (tokens_of (flat_map set_off (map shown_word ts)) ≡ Ok us) × (map told us ≡ map told ts)
printed_good ts good small =
    spaced.printed_good piece GoodWord shown_word (λ text. bytes_eq text (codes "{") || (bytes_eq text (codes "}") || bytes_eq text (codes ";"))) (λ w at. made_word w.kind (shown_word w) at) told
    (λ w g t rest. cut_again w.kind w.text w.place g t rest) (λ w at. ap (λ (x : List ℕ). (w.kind, x)) (told_again w.kind w.text at)) ts good small
