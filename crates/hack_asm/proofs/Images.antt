-- The text of an image holds its words.
use Rattle.std.proofs.Common.{◌≡◌, ℕ, ◌+◌, ◌*◌, ◌≤◌, Bool, true, false, List, [], ◌∷◌, ◌++◌, Option, Some, None, Result, Ok, Err, cond, map, length, refl, sym, ap, ◌∙◌, inl, arith, length-append}
use Rattle.std.specs.Prelude.{if◌then◌else◌}
use Rattle.std.proofs.lemmas.Bool.{le-ltb}
use Rattle.scan_text.specs.declared.Place.{Place}
use Rattle.scan_text.specs.Text.{start}
use Rattle.grammar.specs.declared.Fault.{Fault}
use Rattle.grammar.specs.Cutting.{cut, with_token}
use Rattle.grammar.specs.Lines.{is_open}
use Rattle.grammar.proofs.LinePieces.{close_none, cut_within}
use Rattle.grammar.specs.Rules.{Reads, marked, worded, at_end, both, right, ended, again}
use Rattle.word16.specs.Words.{has_bit}
use Rattle.hack_asm.specs.declared.hack_tokens.Kind.{Kind}
use Rattle.hack_asm.specs.declared.hack_tokens.Kind.TheVariants.{Digit, LineEnd}
use Rattle.grammar.specs.Placed.{token_at}
use Rattle.hack_asm.specs.HackTokens.{Word as Token}
use Rattle.hack_asm.specs.Faults.{TooLarge}
use Rattle.hack_asm.specs.Image.{image_text, word_line}
use Rattle.hack_asm.specs.HackTokens.{piece, line_end_token, ends_line, close, finish}
use Rattle.hack_asm.specs.HackText.{Part, HackTree, hack, four, sixteen, lines, four_tree, word_tree, lines_tree, AreLines, AreWords, within_limit, words_of, Holds}

abbrev R : Place → Part → List Token → HackTree → List Token → Type 0
R end r ts x us = Reads Token (Unit {0}) (Unit {0}) Kind (hack end) tt r ts x tt us

abbrev the_cut : Option Token → Place → List ℕ → Result (List Token) Fault
the_cut last at bs = cut piece close last 0 at bs

abbrev byte : Bool → ℕ
byte b = if b then 49 else 48

-- the places after a digit, after four, and on the next line

abbrev on : Place → Place
on at = record { line = at.line; column = at.column + 1 }

abbrev on_four : Place → Place
on_four at = on (on (on (on at)))

abbrev below : Place → Place
below at = record { line = at.line + 1; column = 1 }

digit_cut : (b : Bool) (last : Option Token) (at : Place) (bs : List ℕ) (ts : List Token) → the_cut (Some (token_at (Digit b) at)) (on at) bs ≡ Ok ts → the_cut last at (byte b ∷ bs) ≡ Ok (token_at (Digit b) at ∷ ts)
digit_cut true last at bs ts e = ap (with_token (token_at (Digit true) at)) e
digit_cut false last at bs ts e = ap (with_token (token_at (Digit false) at)) e

abbrev four_tokens : Bool → Bool → Bool → Bool → Place → List Token → List Token
four_tokens a b c d at ts = token_at (Digit a) at ∷ token_at (Digit b) (on at) ∷ token_at (Digit c) (on (on at)) ∷ token_at (Digit d) (on (on (on at))) ∷ ts

abbrev fourth : Bool → Place → Option Token
fourth d at = Some (token_at (Digit d) (on (on (on at))))

four_cut : (a b c d : Bool) (last : Option Token) (at : Place) (bs : List ℕ) (ts : List Token) → the_cut (fourth d at) (on_four at) bs ≡ Ok ts → the_cut last at (byte a ∷ byte b ∷ byte c ∷ byte d ∷ bs) ≡ Ok (four_tokens a b c d at ts)
four_cut a b c d last at bs ts e =
    digit_cut a last at (byte b ∷ byte c ∷ byte d ∷ bs) _
    (digit_cut b (Some (token_at (Digit a) at)) (on at) (byte c ∷ byte d ∷ bs) _
    (digit_cut c (Some (token_at (Digit b) (on at))) (on (on at)) (byte d ∷ bs) _
    (digit_cut d (Some (token_at (Digit c) (on (on at)))) (on (on (on at))) bs ts e)))

four_read : (end : Place) (a b c d : Bool) (at : Place) (us : List Token) → R end four (four_tokens a b c d at us) (four_tree a b c d) us
four_read end a b c d at us = both (worded refl refl) (both (worded refl refl) (both (worded refl refl) (worded refl refl)))

-- four bits of a word, from bit k on
abbrev part_tokens : ℕ → ℕ → Place → List Token → List Token
part_tokens w k at ts = four_tokens (has_bit w (k + 3)) (has_bit w (k + 2)) (has_bit w (k + 1)) (has_bit w k) at ts

-- the places of the four fours, and of the line end
abbrev second : Place → Place
second at = on_four at

abbrev third : Place → Place
third at = on_four (second at)

abbrev last_four : Place → Place
last_four at = on_four (third at)

abbrev behind : Place → Place
behind at = on_four (last_four at)

abbrev word_tokens : ℕ → Place → List Token → List Token
word_tokens w at ts = part_tokens w 12 at (part_tokens w 8 (second at) (part_tokens w 4 (third at) (part_tokens w 0 (last_four at) (token_at LineEnd (behind at) ∷ ts))))

-- the bytes of four bits of a word, from bit k on, and those after the first four, the second four, and the third four
abbrev part_bytes : ℕ → ℕ → List ℕ → List ℕ
part_bytes w k bs = byte (has_bit w (k + 3)) ∷ byte (has_bit w (k + 2)) ∷ byte (has_bit w (k + 1)) ∷ byte (has_bit w k) ∷ bs

abbrev last_bytes : ℕ → List ℕ → List ℕ
last_bytes w bs = part_bytes w 0 (10 ∷ bs)

abbrev third_bytes : ℕ → List ℕ → List ℕ
third_bytes w bs = part_bytes w 4 (last_bytes w bs)

abbrev second_bytes : ℕ → List ℕ → List ℕ
second_bytes w bs = part_bytes w 8 (third_bytes w bs)

word_cut : (w : ℕ) (last : Option Token) (at : Place) (bs : List ℕ) (ts : List Token) → the_cut (Some (token_at LineEnd (behind at))) (below (behind at)) bs ≡ Ok ts → the_cut last at (word_line w ++ bs) ≡ Ok (word_tokens w at ts)
word_cut w last at bs ts e =
    let ended : the_cut (fourth (has_bit w 0) (last_four at)) (behind at) (10 ∷ bs) ≡ Ok (token_at LineEnd (behind at) ∷ ts) = ap (with_token (token_at LineEnd (behind at))) e in
    four_cut (has_bit w 15) (has_bit w 14) (has_bit w 13) (has_bit w 12) last at (second_bytes w bs) _
    (four_cut (has_bit w 11) (has_bit w 10) (has_bit w 9) (has_bit w 8) (fourth (has_bit w 12) at) (second at) (third_bytes w bs) _
    (four_cut (has_bit w 7) (has_bit w 6) (has_bit w 5) (has_bit w 4) (fourth (has_bit w 8) (second at)) (third at) (last_bytes w bs) _
    (four_cut (has_bit w 3) (has_bit w 2) (has_bit w 1) (has_bit w 0) (fourth (has_bit w 4) (third at)) (last_four at) (10 ∷ bs) _ ended)))

word_read : (end : Place) (w : ℕ) (at : Place) (ts : List Token) → R end sixteen (word_tokens w at ts) (word_tree w) (token_at LineEnd (behind at) ∷ ts)
word_read end w at ts =
    both (four_read end (has_bit w 15) (has_bit w 14) (has_bit w 13) (has_bit w 12) at _)
    (both (four_read end (has_bit w 11) (has_bit w 10) (has_bit w 9) (has_bit w 8) (second at) _)
    (both (four_read end (has_bit w 7) (has_bit w 6) (has_bit w 5) (has_bit w 4) (third at) _)
    (four_read end (has_bit w 3) (has_bit w 2) (has_bit w 1) (has_bit w 0) (last_four at) _)))

-- some words on their lines
abbrev on_lines : List ℕ → List (Option ℕ)
on_lines ws = map (λ w. Some w) ws

words_read : (ws : List ℕ) (last : Option Token) (at : Place) → is_open ends_line last ≡ false → (ts : List Token) × (the_cut last at (image_text ws) ≡ Ok ts) × ((end : Place) → R end lines ts (lines_tree (on_lines ws)) [])
words_read [] last at shut = ([], ap Ok (close_none line_end_token ends_line last at shut), λ end. ended refl)
words_read (w ∷ ws) last at shut =
    let rest = words_read ws (Some (token_at LineEnd (behind at))) (below (behind at)) refl in (
      word_tokens w at rest.0,
      word_cut w last at (image_text ws) rest.0 rest.1,
      λ end. again refl (right refl refl (both (word_read end w at rest.0) (marked refl))) (rest.2 end),
    )

text_length : (ws : List ℕ) → length (image_text ws) ≡ 17 * length ws
text_length [] = refl
text_length (w ∷ ws) = omega (arith, text_length ws, length-append (word_line w) (image_text ws))

words_back : (ws : List ℕ) → words_of (on_lines ws) ≡ ws
words_back [] = refl
words_back (w ∷ ws) = ap (λ (vs : List ℕ). w ∷ vs) (words_back ws)

are_lines : (ws : List ℕ) → AreWords ws → AreLines (on_lines ws)
are_lines [] h = tt
are_lines (w ∷ ws) h = (h.0, are_lines ws h.1)

small : (ws : List ℕ) → length ws ≤ 32768 → within_limit ws ≡ Ok ws
small ws h = ap (λ (b : Bool). cond b (Err (TooLarge (length ws))) (Ok ws)) (le-ltb 32768 (length ws) h)

pub reads_back : (ws : List ℕ) → AreWords ws → length ws ≤ 32768 → Holds (image_text ws) (Ok ws)
reads_back ws words few =
    let read = words_read ws None start refl in
    let fits : length (image_text ws) ≤ 1048576 = omega (arith, text_length ws, few) in
    inl (
      on_lines ws,
      (are_lines ws words, (read.0, tt, cut_within piece close (image_text ws) read.0 fits read.1, both (read.2 (finish (image_text ws))) at_end)),
      sym (ap within_limit (words_back ws) ∙ small ws few),
    )
