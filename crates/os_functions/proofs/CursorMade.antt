-- The cursor moved: calls of Math.multiply and Math.divide within a call.
use Rattle.std.proofs.Common.{◌≡◌, ◌⊎◌, inl, inr, ⊎_elim, ℕ, suc, ◌+◌, ◌*◌, ◌/◌, ◌%◌, ◌<◌, ◌≤◌, true, nat_lt, bit_and, bit_or, List, [], ◌∷◌, length, Some, codes, refl, sym, ap, ◌∙◌, subst, arith}
use Rattle.std.specs.Prelude.{slice_set}
use Rattle.std.proofs.lemmas.Bool.{cases_lt}
use Rattle.std.proofs.lemmas.Bool.Decides.{nat_tests}
use Rattle.std.proofs.lemmas.Nat.{and_mask, le_or_l, le_or_r}
use Rattle.word16.specs.Words.{word_add, word_eq, word_lt, word_gt}
use Rattle.jack_core.specs.declared.program.Core.{Core}
use Rattle.jack_core.specs.Texts.{the_subroutines}
use Rattle.jack_meaning.specs.Text.{Argument, Static, Plus, Equal, And, Expression, Literal, Value, Name, Binary, Open, Call as Calling, NoMore, More, Let, Return, Text, End, Next, Subroutine}
use Rattle.jack_meaning.specs.Meaning.{Frame, State, subroutine_at, new_frame}
use Rattle.os_laws.specs.Kernel.{multiply_meaning, divide_meaning}
use Rattle.os_laws.specs.KernelCalls.{Multiplying, Dividing}
use Rattle.os_laws.specs.Names.{IsShipped}
use Rattle.os_laws.specs.Numbers.{product, quotient, multiply_steps}
use Rattle.os_laws.proofs.Basics.{enters}
use Rattle.os_laws.proofs.Comparing.{less, not_less, negative, not_negative}
use Rattle.os_laws.proofs.Multiplying as multiplying
use Rattle.os_laws.proofs.Quotients as quotients
use Rattle.os_laws.proofs.Runs.{Call, over, run}
use Rattle.os_functions.specs.Calls.{routine_number, HasStatics, CallsNext, Leaves}
use Rattle.os_functions.specs.CursorLaws.{cell_address, with_cursor, MoveErrorLaw, CursorLaws}
use Rattle.os_functions.proofs.Named.{numbered, is_error, system_error, number_of, own_number, first_static}
use Rattle.os_functions.proofs.Pieces.{in_call, tail, returns_value, erring, refuses_by}
use Rattle.os_functions.proofs.PixelFacts.{in_cells, off_cells, one_more}
use Rattle.os_functions.proofs.OutputRoutines.{is_cursor, is_multiply, is_divide}
use Rattle.os_functions.proofs.Statics.{same_place, same_right}
use Rattle.os_functions.proofs.Texts.{cursor_body}
use Rattle.os_functions.proofs.Ways.{Way, way_then, way_of_run, way_of_call, returns, opened, returns_by}

module _ (subs : List Subroutine) (g : ℕ) (ws : List ℕ) (place right row column : ℕ) where
  abbrev at_text : List ℕ → Text → Call
  at_text ss t = in_call g 0 ss ws t (row ∷ column ∷ []) []

  abbrev sides : Text
  sides = Next (Let 4 (Static right) (Binary Equal (Binary And (Name (Argument 1)) (Literal 1)) (Literal 1))) (Next (Return 5 (Literal 0)) End)

  abbrev sets_place : Expression → Expression → Text
  sets_place a b = Next (Let 3 (Static place) (Binary Plus a b)) sides

  abbrev halves : ℕ → Expression → Expression
  halves divide a = Calling divide (More a (More (Literal 2) NoMore))

  abbrev column_halved : ℕ → Expression
  column_halved divide = halves divide (Name (Argument 1))

  abbrev halving : ℕ → Expression
  halving divide = Calling divide (More (Value column) (More (Value 2) NoMore))

  abbrev times : ℕ → Expression
  times multiply = Calling multiply (More (Value row) (More (Value 352) NoMore))

  cursor_begins : (ss : List ℕ) (error multiply divide : ℕ) → word_lt row 0 ≡ 0 → word_gt row 22 ≡ 0 → bit_and column 65472 ≡ 0
      → run subs 16 (at_text ss (cursor_body error multiply divide place right)) ≡ Some (at_text ss (sets_place (Binary Plus (Value 16384) (times multiply)) (column_halved divide)))
  cursor_begins ss error multiply divide a b h = rw (a, b, h) refl

  cursor_middle : (ss : List ℕ) (divide v w : ℕ) → word_add 16384 v ≡ w → run subs 3 (at_text ss (sets_place (Binary Plus (Value 16384) (Value v)) (column_halved divide))) ≡ Some (at_text ss (sets_place (Value w) (halving divide)))
  cursor_middle ss divide v w e = rw e refl

  cursor_ends : (ss : List ℕ) (v w a k : ℕ) → word_add v w ≡ a → bit_and column 1 ≡ k
      → run subs 9 (at_text ss (sets_place (Value v) (Value w))) ≡ Some (at_text (slice_set (slice_set ss place a) right (word_eq k 1)) (returns_value 5 0 End))
  cursor_ends ss v w a k e h = rw (e, h) refl

  cursor_refused : (ss : List ℕ) (error multiply divide a b d m : ℕ) → word_lt row 0 ≡ a → word_gt row 22 ≡ b → bit_and column 65472 ≡ d → bit_or (bit_or a b) d ≡ suc m
      → run subs 14 (at_text ss (cursor_body error multiply divide place right)) ≡ Some (at_text ss (erring error 20 (tail (cursor_body error multiply divide place right))))
  cursor_refused ss error multiply divide a b d m ha hb hd h = rw (ha, hb, hd, h) refl

-- ---- the numbers

product_of : (row : ℕ) → row < 23 → product row 352 ≡ 352 * row
product_of row h = omega (arith, h)

quotient_of : (column : ℕ) → column < 64 → quotient column 2 ≡ column / 2
quotient_of column h =
    let n : nat_lt column 32768 ≡ true = grind (arith, nat_tests) in
    let e : quotient column 2 ≡ column / 2 % 65536 = rw n refl in
    e ∙ (let m : column / 2 % 65536 ≡ column / 2 = omega (arith, h) in m)

module _ {core : Core} (p : IsShipped core) (s : State) (row column : ℕ) (hr : row < 23) (hc : column < 64) (c : CallsNext p (codes "Output") (codes "moveCursor") s (row ∷ column ∷ [])) where
  abbrev subs : List Subroutine
  subs = the_subroutines core

  abbrev g : ℕ
  g = routine_number p (codes "Output") (codes "moveCursor")

  abbrev multiply : ℕ
  multiply = number_of core p (codes "Math") (codes "multiply")

  abbrev divide : ℕ
  divide = number_of core p (codes "Math") (codes "divide")

  abbrev place : ℕ
  place = first_static core p 4 + 1

  abbrev right : ℕ
  right = first_static core p 4 + 1 + 1

  abbrev below : List Frame
  below = c.caller ∷ c.below

  abbrev ss : List ℕ
  ss = s.statics

  abbrev here_at : Text → State
  here_at t = over below (at_text subs g s.words place right row column ss t)

  abbrev frame_at : Text → Frame
  frame_at t = (at_text subs g s.words place right row column ss t).frame

  abbrev sets : Expression → Expression → Text
  sets a b = sets_place subs g s.words place right row column a b

  abbrev halved : Expression
  halved = column_halved subs g s.words place right row column divide

  abbrev asks_product : Text
  asks_product = sets (Binary Plus (Value 16384) (times subs g s.words place right row column multiply)) halved

  abbrev has_product : Text
  has_product = sets (Binary Plus (Value 16384) (Value (product row 352))) halved

  abbrev asks_quotient : Text
  asks_quotient = sets (Value (16384 + 352 * row)) (halving subs g s.words place right row column divide)

  abbrev has_quotient : Text
  has_quotient = sets (Value (16384 + 352 * row)) (Value (quotient column 2))

  abbrev after : List ℕ
  after = slice_set (slice_set ss place (cell_address row column)) right (word_eq (column % 2) 1)

  row_at_most : word_gt row 22 ≡ 0
  row_at_most = not_less 22 row (omega (arith, hr)) (omega arith)

  begins : Way subs (suc (length below)) 16 (opened subs s g (row ∷ column ∷ []) c) (here_at asks_product)
  begins =
      way_of_run subs below 16 (record { frame = new_frame subs g (row ∷ column ∷ []); statics = ss; words = s.words }) (at_text subs g s.words place right row column ss asks_product)
      (ap (λ (z : Frame). run subs 16 (record { frame = z; statics = ss; words = s.words })) (enters subs g _ (row ∷ column ∷ []) (is_cursor core p))
      ∙ cursor_begins subs g s.words place right row column ss (system_error p) multiply divide (not_negative row (omega (arith, hr))) row_at_most (in_cells column hc))

  multiplies : Way subs (suc (length below)) (multiply_steps 352) (here_at asks_product) (here_at has_product)
  multiplies =
      let waits : Text = sets (Binary Plus (Value 16384) Open) halved in
      let call : Multiplying subs (here_at asks_product) multiply = record {
        x = row;
        y = 352;
        word_x = omega (arith, hr);
        word_y = omega arith;
        call = record { top = frame_at asks_product; caller = frame_at waits; below = below; frames = refl; calls = refl };
      } in
      let is : subroutine_at subs multiply ≡ multiply_meaning (own_number core p 2) = ap (subroutine_at subs) (sym (numbered core p (codes "Math") (codes "multiply"))) ∙ is_multiply core p in
      way_of_call subs (suc (length below)) (multiply_steps 352) (here_at asks_product) (here_at has_product) (omega arith)
      (returns subs (multiply_steps 352) (here_at asks_product) (here_at has_product) (multiplying.law subs (here_at asks_product) multiply (own_number core p 2) is call))

  to_quotient : Way subs (suc (length below)) 3 (here_at has_product) (here_at asks_quotient)
  to_quotient =
      let sum : word_add 16384 (product row 352) ≡ 16384 + 352 * row = ap (word_add 16384) (product_of row hr) ∙ (let e : word_add 16384 (352 * row) ≡ 16384 + 352 * row = omega (arith, hr) in e) in
      way_of_run subs below 3 (at_text subs g s.words place right row column ss has_product) (at_text subs g s.words place right row column ss asks_quotient)
      (cursor_middle subs g s.words place right row column ss divide (product row 352) (16384 + 352 * row) sum)

  divides : (n : ℕ) × (n ≤ 800) × Way subs (suc (length below)) n (here_at asks_quotient) (here_at has_quotient)
  divides =
      let waits : Text = sets (Value (16384 + 352 * row)) Open in
      let call : Dividing subs (here_at asks_quotient) divide = record {
        x = column;
        y = 2;
        word_x = omega (arith, hc);
        word_y = omega arith;
        some = omega arith;
        call = record { top = frame_at asks_quotient; caller = frame_at waits; below = below; frames = refl; calls = refl };
      } in
      let is : subroutine_at subs divide ≡ divide_meaning (own_number core p 2) (system_error p) = ap (subroutine_at subs) (sym (numbered core p (codes "Math") (codes "divide"))) ∙ is_divide core p in
      let (n, few, back) = quotients.law subs (here_at asks_quotient) divide (own_number core p 2) (system_error p) is call in
      (n, few, way_of_call subs (suc (length below)) n (here_at asks_quotient) (here_at has_quotient) (omega arith) (returns subs n (here_at asks_quotient) (here_at has_quotient) back))

  ends : Way subs (suc (length below)) 9 (here_at has_quotient) (over below (at_text subs g s.words place right row column after (returns_value 5 0 End)))
  ends =
      let sum : word_add (16384 + 352 * row) (quotient column 2) ≡ cell_address row column =
      ap (word_add (16384 + 352 * row)) (quotient_of column hc) ∙ (let e : word_add (16384 + 352 * row) (column / 2) ≡ cell_address row column = omega (arith, hr, hc) in e) in
      way_of_run subs below 9 (at_text subs g s.words place right row column ss has_quotient) (at_text subs g s.words place right row column after (returns_value 5 0 End))
      (cursor_ends subs g s.words place right row column ss (16384 + 352 * row) (quotient column 2) (cell_address row column) (column % 2) sum (and_mask column 1))

  moved : Leaves c 1300 0 after s.words
  moved =
      let (n, few, quotient_way) = divides in
      let d = suc (length below) in
      let m = multiply_steps 352 in
      let first = opened subs s g (row ∷ column ∷ []) c in
      let last = over below (at_text subs g s.words place right row column after (returns_value 5 0 End)) in
      let whole =
      way_then subs d 16 (m + (3 + (n + 9))) first (here_at asks_product) last begins
      (way_then subs d m (3 + (n + 9)) (here_at asks_product) (here_at has_product) last multiplies
      (way_then subs d 3 (n + 9) (here_at has_product) (here_at asks_quotient) last to_quotient
      (way_then subs d n 9 (here_at asks_quotient) (here_at has_quotient) last quotient_way ends))) in
      let most : m ≤ 420 = omega arith in (
        suc (suc (16 + (m + (3 + (n + 9))))),
        omega (arith, few, most),
        returns_by subs s g (row ∷ column ∷ []) c (16 + (m + (3 + (n + 9)))) (at_text subs g s.words place right row column after End).frame after s.words 5 0 End whole,
      )

  same_cursor : (h : HasStatics p) → after ≡ with_cursor h ss row column
  same_cursor h =
      ap (λ k. slice_set (slice_set ss k (cell_address row column)) right (word_eq (column % 2) 1)) (same_place h)
      ∙ ap (λ k. slice_set (slice_set ss h.place (cell_address row column)) k (word_eq (column % 2) 1)) (same_right h)

  pub move_law : (h : HasStatics p) → Leaves c 1300 0 (with_cursor h s.statics row column) s.words
  move_law h = subst (λ statics. Leaves c 1300 0 statics s.words) (same_cursor h) moved

-- ---- no cell

no_cell : (row column : ℕ) → row < 65536 → column < 65536 → (23 ≤ row) ⊎ (64 ≤ column) → (m : ℕ) × (bit_or (bit_or (word_lt row 0) (word_gt row 22)) (bit_and column 65472) ≡ suc m)
no_cell row column wr wc (inr h) = one_more _ (omega (arith, off_cells column h wc, le_or_r (bit_or (word_lt row 0) (word_gt row 22)) (bit_and column 65472)))
no_cell row column wr wc (inl h) =
    let outer = le_or_l (bit_or (word_lt row 0) (word_gt row 22)) (bit_and column 65472) in
    ⊎_elim
    (λ (l : row < 32768). one_more _ (omega (arith, outer, le_or_r (word_lt row 0) (word_gt row 22), less 22 row h l)))
    (λ (k : 32768 ≤ row). one_more _ (omega (arith, outer, le_or_l (word_lt row 0) (word_gt row 22), negative row k)))
    (cases_lt row 32768)

module _ {core : Core} (p : IsShipped core) (s : State) where
  pub move_error_law : MoveErrorLaw p s
  move_error_law row column wr wc h c =
      let subs = the_subroutines core in
      let g = routine_number p (codes "Output") (codes "moveCursor") in
      let error = system_error p in
      let multiply = number_of core p (codes "Math") (codes "multiply") in
      let divide = number_of core p (codes "Math") (codes "divide") in
      let place = first_static core p 4 + 1 in
      let right = first_static core p 4 + 1 + 1 in
      let (m, off) = no_cell row column wr wc h in
      refuses_by p s (codes "Output") (codes "moveCursor") (row ∷ column ∷ []) c 14 16 (omega arith) _ (is_cursor core p) error (is_error core p) 0 20 (tail (cursor_body error multiply divide place right)) (row ∷ column ∷ []) []
      (cursor_refused subs g s.words place right row column s.statics error multiply divide (word_lt row 0) (word_gt row 22) (bit_and column 65472) m refl refl refl off)

pub law : CursorLaws
law = record {
  move = λ p s h row column hr hc c. move_law p s row column hr hc c h;
  move_error = λ p s. move_error_law p s;
}
