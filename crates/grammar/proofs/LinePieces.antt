-- Pieces and texts of a language that is read by lines.
use Rattle.std.proofs.Common.{◌≡◌, ℕ, suc, ◌-◌, ◌≤◌, Bool, true, false, cond, List, [], ◌∷◌, ◌++◌, length, take, drop, map, Option, Some, None, Result, Ok, Err, refl, sym, ap, subst, ◌∙◌, arith, map-id}
use Rattle.std.proofs.lemmas.Bool.{le-ltb}
use Rattle.scan_text.specs.declared.Place.{Place}
use Rattle.scan_text.specs.declared.Scan.{Scan}
use Rattle.scan_text.specs.Text.{first, start, step, walk}
use Rattle.scan_text.specs.Blanks.{starts, line}
use Rattle.scan_text.proofs.Gone.{take_line}
use Rattle.scan_text.specs.View.{left_bytes, place}
use Rattle.grammar.specs.declared.Fault.{Fault}
use Rattle.grammar.specs.declared.Fault.TheVariants.{Grammar, Range}
use Rattle.grammar.specs.declared.ReadError.{ReadError}
use Rattle.grammar.specs.Cutting.{Piece, Passed, Wrong, Next, cut, cut_text}
use Rattle.grammar.specs.Lines.{comment_piece, is_open, close}
use Rattle.grammar.specs.Reading.{Gives}

starts_by : (bs : List ℕ) → first bs ≡ Some 47 → starts 47 bs ≡ true
starts_by [] e = absurd cc
starts_by (b ∷ bs) e = let same : b ≡ 47 = cc in rw same refl

line_stands : (bs : List ℕ) → first bs ≡ Some 47 → 1 ≤ length (line bs)
line_stands [] e = absurd cc
line_stands (b ∷ bs) e = let same : b ≡ 47 = cc in rw same (omega arith)

line_passed : (bs : List ℕ) → first bs ≡ Some 47 → suc (length (line bs) - 1) ≡ length (line bs)
line_passed bs e = let h = line_stands bs e in omega arith

-- a comment up to the end of the line
pub comment_passed : (T : Type 0) (old new : Scan) → first (left_bytes old) ≡ Some 47 → first (drop 1 (left_bytes old)) ≡ Some 47 → left_bytes new ≡ drop (length (line (left_bytes old))) (left_bytes old) → place new ≡ walk (place old) (line (left_bytes old)) → Next (comment_piece {T = T} (left_bytes old)) old (Ok None) new
comment_passed T old new e f l p =
    let n = line_passed (left_bytes old) e in
    subst (λ (q : Piece T). Next q old (Ok None) new)
    (ap (λ (x : Bool). cond x (Passed (length (line (left_bytes old)) - 1)) (Wrong Grammar)) (sym (starts_by (drop 1 (left_bytes old)) f))) (
      refl,
      record {
        rest = l ∙ ap (λ (k : ℕ). drop k (left_bytes old)) (sym n);
        at = p ∙ ap (walk (place old)) (sym (take_line (left_bytes old)) ∙ ap (λ (k : ℕ). take k (left_bytes old)) (sym n));
      },
    )

module _ {T : Type 0} (piece : List ℕ → Piece T) (close : Option T → Place → List T) where
  -- bytes that belong to a token that has begun
  pub cut_past : (xs rest : List ℕ) (last : Option T) (at : Place) → cut piece close last (length xs) at (xs ++ rest) ≡ cut piece close last 0 (walk at xs) rest
  cut_past [] [] last at = refl
  cut_past [] (b ∷ rest) last at = refl
  cut_past (x ∷ xs) rest last at = cut_past xs rest last (step at x)

  -- a text that is not too long
  pub cut_within : (text : List ℕ) (ts : List T) → length text ≤ 1048576 → cut piece close None 0 start text ≡ Ok ts → cut_text piece close text ≡ Ok ts
  cut_within text ts h e =
      ap (λ (b : Bool). cond b (Err (Range (record { line = 0; column = 0 }) 1048577)) (cut piece close None 0 start text)) (le-ltb 1048576 (length text) h) ∙ e

-- a last line that is ended
pub close_none : {T : Type 0} (ended : Place → T) (ends : T → Bool) (last : Option T) (at : Place) → is_open ends last ≡ false → close ended ends last at ≡ []
close_none ended ends last at shut = ap (λ (b : Bool). cond b (ended at ∷ []) []) shut

-- what is returned, where the tokens of the code are those of the definition
pub gives_same : {X T : Type 0} (items : X → List T) (r : Result X ReadError) (found : Result (List T) Fault) → Gives (λ x. map (λ t. t) (items x)) r found → Gives items r found
gives_same items (Ok x) found h = h ∙ ap Ok (map-id (items x))
gives_same items (Err e) found h = h
