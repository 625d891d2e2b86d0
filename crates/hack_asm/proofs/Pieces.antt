-- The pieces of an assembly text that are runs of bytes.
use Rattle.std.proofs.Common.{◌≡◌, ℕ, ◌-◌, ◌≤◌, Bool, true, false, cond, length, Some, Ok, refl, sym, ap, subst, ◌∙◌, arith}
use Rattle.std.specs.Prelude.{min, nat_lt}
use Rattle.std.proofs.lemmas.Bool.{le-ltb}
use Rattle.scan_text.specs.declared.Scan.{Scan}
use Rattle.scan_text.specs.Text.{first, front, rest_behind, walk, is_digit, digits, decimal, capped_count, number_of}
use Rattle.scan_text.specs.View.{left_bytes, place}
use Rattle.grammar.specs.declared.Fault.TheVariants.{Range}
use Rattle.grammar.specs.Cutting.{Piece, Wrong, Next}
use Rattle.grammar.proofs.Runs.{run_text, run_moved, number_stands}
use Rattle.hack_asm.specs.declared.token.Kind.{Kind}
use Rattle.hack_asm.specs.declared.token.Kind.TheVariants.{Number, Symbol}
use Rattle.hack_asm.specs.Roles.{role_of}
use Rattle.hack_asm.specs.Tokens.{Word, word_of, number_piece, symbol_piece, is_letter, is_symbol_byte}

-- a token of a whole run
run_taken : (test : ℕ → Bool) (kind : Kind) (old new : Scan) (b : ℕ) (w : Word) → first (left_bytes old) ≡ Some b → test b ≡ true → left_bytes new ≡ rest_behind test (left_bytes old) → place new ≡ walk (place old) (front test (left_bytes old)) → w.kind ≡ kind → w.role ≡ role_of w.text → w.text ≡ front test (left_bytes old) → w.place ≡ place old → Next (word_of kind (length (front test (left_bytes old)) - 1) (left_bytes old)) old (Ok (Some w)) new
run_taken test kind old new b w e d l p k r t at =
    let text = t ∙ sym (run_text test (left_bytes old) b e d) in
    let role = r ∙ ap role_of text in
    ((λ i. Ok (Some (record { kind = k i; role = role i; text = text i; place = at i }))), run_moved test old new b e d l p)

pub number_taken : (old new : Scan) (b n : ℕ) (w : Word) → first (left_bytes old) ≡ Some b → is_digit b ≡ true → Some n ≡ number_of (left_bytes old) → n ≤ 32767 → left_bytes new ≡ rest_behind is_digit (left_bytes old) → place new ≡ walk (place old) (front is_digit (left_bytes old)) → w.kind ≡ Number n → w.role ≡ role_of w.text → w.text ≡ front is_digit (left_bytes old) → w.place ≡ place old → Next (number_piece (left_bytes old)) old (Ok (Some w)) new
number_taken old new b n w e d v small l p k r t at =
    let told = number_stands (left_bytes old) b e d in
    let value : capped_count (decimal 0 (digits (left_bytes old))) ≡ n = cc (v, told) in
    let fits : nat_lt 32767 (capped_count (decimal 0 (digits (left_bytes old)))) ≡ false = le-ltb _ _ (omega (arith, value)) in
    subst (λ (q : Piece Word). Next q old (Ok (Some w)) new)
    (ap (λ (x : Bool). cond x (Wrong (λ a. Range a (min (capped_count (decimal 0 (digits (left_bytes old)))) 1000000000))) (word_of (Number (capped_count (decimal 0 (digits (left_bytes old))))) (length (digits (left_bytes old)) - 1) (left_bytes old))) (sym fits))
    (run_taken is_digit (Number (capped_count (decimal 0 (digits (left_bytes old))))) old new b w e d l p (k ∙ ap Number (sym value)) r t at)

symbol_begins : (b : ℕ) → is_letter b ≡ true → is_symbol_byte b ≡ true
symbol_begins b e = rw e refl

pub symbol_taken : (old new : Scan) (b : ℕ) (w : Word) → first (left_bytes old) ≡ Some b → is_letter b ≡ true → left_bytes new ≡ rest_behind is_symbol_byte (left_bytes old) → place new ≡ walk (place old) (front is_symbol_byte (left_bytes old)) → w.kind ≡ Symbol → w.role ≡ role_of w.text → w.text ≡ front is_symbol_byte (left_bytes old) → w.place ≡ place old → Next (symbol_piece (left_bytes old)) old (Ok (Some w)) new
symbol_taken old new b w e d l p k r t at = run_taken is_symbol_byte Symbol old new b w e (symbol_begins b d) l p k r t at
