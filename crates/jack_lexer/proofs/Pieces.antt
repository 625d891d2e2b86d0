-- The pieces of a Jack text that are runs of bytes.
use Rattle.std.proofs.Common.{◌≡◌, ℕ, ◌-◌, ◌≤◌, Bool, true, false, cond, length, Option, None, Some, Ok, sym, ap, subst, ◌∙◌, arith, refl}
use Rattle.std.specs.Prelude.{min, nat_lt}
use Rattle.std.proofs.lemmas.Bool.{le-ltb}
use Rattle.std.specs.Option.{MatchOption}
use Rattle.scan_text.specs.declared.Scan.{Scan}
use Rattle.scan_text.specs.Text.{first, front, rest_behind, walk, is_digit, digits, decimal, capped_count}
use Rattle.scan_text.specs.View.{left_bytes, place}
use Rattle.grammar.specs.declared.Fault.TheVariants.{Range}
use Rattle.grammar.specs.Cutting.{Piece, Wrong, Next}
use Rattle.grammar.proofs.Runs.{run_text, run_moved}
use Rattle.jack_tree.specs.declared.token.Keyword as keywords
use Rattle.jack_tree.specs.declared.token.Kind.{Kind}
use Rattle.jack_tree.specs.declared.token.Kind.TheVariants.{Identifier, Integer, Keyword}
use Rattle.jack_tree.specs.Tokens.{Word}
use Rattle.grammar.specs.Words.{is_letter, is_name_byte}
use Rattle.jack_lexer.specs.Tokens.{token_of, number_piece, word_piece, kind_of, word_kind}

-- a token of a whole run
run_taken : (test : ℕ → Bool) (kind : Kind) (old new : Scan) (b : ℕ) (w : Word) → first (left_bytes old) ≡ Some b → test b ≡ true → left_bytes new ≡ rest_behind test (left_bytes old) → place new ≡ walk (place old) (front test (left_bytes old)) → w.kind ≡ kind → w.text ≡ front test (left_bytes old) → w.place ≡ place old → Next (token_of kind (length (front test (left_bytes old)) - 1) (left_bytes old)) old (Ok (Some w)) new
run_taken test kind old new b w e d l p k t at =
    let text = t ∙ sym (run_text test (left_bytes old) b e d) in
    ((λ i. Ok (Some (record { kind = k i; text = text i; place = at i }))), run_moved test old new b e d l p)

pub number_taken : (old new : Scan) (b n : ℕ) (w : Word) → first (left_bytes old) ≡ Some b → is_digit b ≡ true → n ≡ capped_count (decimal 0 (digits (left_bytes old))) → n ≤ 32767 → left_bytes new ≡ rest_behind is_digit (left_bytes old) → place new ≡ walk (place old) (front is_digit (left_bytes old)) → w.kind ≡ Integer n → w.text ≡ front is_digit (left_bytes old) → w.place ≡ place old → Next (number_piece (left_bytes old)) old (Ok (Some w)) new
number_taken old new b n w e d v small l p k t at =
    let fits : nat_lt 32767 (capped_count (decimal 0 (digits (left_bytes old)))) ≡ false = le-ltb _ _ (omega (arith, v)) in
    subst (λ (q : Piece Word). Next q old (Ok (Some w)) new)
    (ap (λ (x : Bool). cond x (Wrong (λ a. Range a (min (capped_count (decimal 0 (digits (left_bytes old)))) 1000000000))) (token_of (Integer (capped_count (decimal 0 (digits (left_bytes old))))) (length (digits (left_bytes old)) - 1) (left_bytes old))) (sym fits))
    (run_taken is_digit (Integer (capped_count (decimal 0 (digits (left_bytes old))))) old new b w e d l p (k ∙ ap Integer v) t at)

name_begins : (b : ℕ) → is_letter b ≡ true → is_name_byte b ≡ true
name_begins b e = rw e refl

pub word_taken : (old new : Scan) (b : ℕ) (w : Word) → first (left_bytes old) ≡ Some b → is_letter b ≡ true → left_bytes new ≡ rest_behind is_name_byte (left_bytes old) → place new ≡ walk (place old) (front is_name_byte (left_bytes old)) → w.kind ≡ word_kind (front is_name_byte (left_bytes old)) → w.text ≡ front is_name_byte (left_bytes old) → w.place ≡ place old → Next (word_piece (left_bytes old)) old (Ok (Some w)) new
word_taken old new b w e d l p k t at = run_taken is_name_byte (word_kind (front is_name_byte (left_bytes old))) old new b w e (name_begins b d) l p k t at

-- the kind of a word, by the keyword that it spells
pub kind_told : (spelled : Option keywords.Keyword) (kind : Kind) → MatchOption spelled (kind ≡ Identifier) (λ k. kind ≡ Keyword k) → kind ≡ kind_of spelled
kind_told None kind told = told
kind_told (Some k) kind told = told
