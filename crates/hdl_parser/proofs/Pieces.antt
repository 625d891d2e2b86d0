-- The pieces of an HDL text that are runs of bytes.
use Rattle.std.proofs.Common.{◌≡◌, ℕ, ◌-◌, Bool, true, length, Option, None, Some, Ok, sym, ap, ◌∙◌, refl}
use Rattle.std.specs.Option.{MatchOption}
use Rattle.scan_text.specs.declared.Scan.{Scan}
use Rattle.scan_text.specs.Text.{first, front, rest_behind, walk, is_digit, digits, decimal, capped_count}
use Rattle.scan_text.specs.View.{left_bytes, place}
use Rattle.grammar.specs.Cutting.{Next}
use Rattle.grammar.proofs.Runs.{run_text, run_moved}
use Rattle.hdl_tree.specs.Writable.{is_letter, is_name_byte}
use Rattle.hdl_parser.specs.declared.token.Keyword as keywords
use Rattle.hdl_parser.specs.declared.token.Kind.{Kind}
use Rattle.hdl_parser.specs.declared.token.Kind.TheVariants.{Name, Number, Keyword}
use Rattle.hdl_parser.specs.Tokens.{Word, token_of, number_piece, word_piece, kind_of, word_kind}

-- a token of a whole run
run_taken : (test : ℕ → Bool) (kind : Kind) (old new : Scan) (b : ℕ) (w : Word) → first (left_bytes old) ≡ Some b → test b ≡ true → left_bytes new ≡ rest_behind test (left_bytes old) → place new ≡ walk (place old) (front test (left_bytes old)) → w.kind ≡ kind → w.text ≡ front test (left_bytes old) → w.place ≡ place old → Next (token_of kind (length (front test (left_bytes old)) - 1) (left_bytes old)) old (Ok (Some w)) new
run_taken test kind old new b w e d l p k t at =
    let text = t ∙ sym (run_text test (left_bytes old) b e d) in
    ((λ i. Ok (Some (record { kind = k i; text = text i; place = at i }))), run_moved test old new b e d l p)

pub number_taken : (old new : Scan) (b n : ℕ) (w : Word) → first (left_bytes old) ≡ Some b → is_digit b ≡ true → n ≡ capped_count (decimal 0 (digits (left_bytes old))) → left_bytes new ≡ rest_behind is_digit (left_bytes old) → place new ≡ walk (place old) (front is_digit (left_bytes old)) → w.kind ≡ Number n → w.text ≡ front is_digit (left_bytes old) → w.place ≡ place old → Next (number_piece (left_bytes old)) old (Ok (Some w)) new
number_taken old new b n w e d v l p k t at =
    run_taken is_digit (Number (capped_count (decimal 0 (digits (left_bytes old))))) old new b w e d l p (k ∙ ap Number v) t at

name_begins : (b : ℕ) → is_letter b ≡ true → is_name_byte b ≡ true
name_begins b e = rw e refl

pub word_taken : (old new : Scan) (b : ℕ) (w : Word) → first (left_bytes old) ≡ Some b → is_letter b ≡ true → left_bytes new ≡ rest_behind is_name_byte (left_bytes old) → place new ≡ walk (place old) (front is_name_byte (left_bytes old)) → w.kind ≡ word_kind (front is_name_byte (left_bytes old)) → w.text ≡ front is_name_byte (left_bytes old) → w.place ≡ place old → Next (word_piece (left_bytes old)) old (Ok (Some w)) new
word_taken old new b w e d l p k t at = run_taken is_name_byte (word_kind (front is_name_byte (left_bytes old))) old new b w e (name_begins b d) l p k t at

-- the kind of a word, by the keyword that it spells
pub kind_told : (spelled : Option keywords.Keyword) (kind : Kind) → MatchOption spelled (kind ≡ Name) (λ k. kind ≡ Keyword k) → kind ≡ kind_of spelled
kind_told None kind told = told
kind_told (Some k) kind told = told
