-- Characters printed: calls of Output's own routines within a call.
use Rattle.std.proofs.Common.{◌≡◌, ◌≢◌, ◌⊎◌, inl, inr, ⊎_elim, ℕ, suc, ◌+◌, ◌-◌, ◌*◌, ◌/◌, ◌%◌, ◌<◌, ◌≤◌, true, false, nat_eq, bit_and, List, [], ◌∷◌, length, Some, codes, refl, sym, ap, ◌∙◌, subst, arith}
use Rattle.std.specs.Prelude.{slice_index, slice_set}
use Rattle.std.proofs.lemmas.Bool.{cases_lt}
use Rattle.std.proofs.lemmas.Bool.Decides.{nat_tests}
use Rattle.std.proofs.lemmas.List.{get_or-set_same, get_or-set_other, length-set, set-set, set_comm, set-get_or}
use Rattle.std.proofs.lemmas.Nat.{and_mask}
use Rattle.word16.specs.Words.{word_add, word_sub, word_gt, truth}
use Rattle.jack_core.specs.declared.program.Core.{Core}
use Rattle.jack_core.specs.Texts.{the_subroutines}
use Rattle.jack_meaning.specs.Text.{Value, Literal, Open, Call as Calling, NoMore, Do, Return, Text, End, Next, Function, Subroutine}
use Rattle.jack_meaning.specs.Meaning.{Frame, State, Acts, step, subroutine_at, new_frame, filled_text, with_top}
use Rattle.os_laws.specs.Heap.{word_at}
use Rattle.os_laws.specs.Names.{IsShipped}
use Rattle.os_laws.proofs.Basics.{enters}
use Rattle.os_laws.proofs.Comparing.{less, not_less}
use Rattle.os_laws.proofs.Runs.{Call, over, run}
use Rattle.os_functions.specs.Calls.{routine_number, HasStatics, CallsNext, Leaves}
use Rattle.os_functions.specs.CursorLaws.{cell_address, with_cursor}
use Rattle.os_functions.specs.PrintLaws.{IsCursorAt, HasGlyph, IsDrawn, row_after, column_after, row_before, column_before, shown_code, PrintLaw, LineLaw, PrintLineLaw, BackLaw, PrintBackLaw, PixelBehindLaw, PrintLaws}
use Rattle.os_functions.specs.ScreenLaws.{pixel_address, IsPainted, colour}
use Rattle.os_functions.proofs.DrawLoops.{drawn}
use Rattle.os_functions.proofs.DrawPixels.{even_or_odd, cell_of, is_drawn}
use Rattle.os_functions.proofs.Named.{numbered, number_of, own_number, first_static}
use Rattle.os_functions.proofs.OutputRoutines.{is_draw, is_line, is_back, is_print}
use Rattle.os_functions.proofs.Pieces.{in_call, returns_value, leaves_by}
use Rattle.os_functions.proofs.PixelFacts.{and_rows}
use Rattle.os_functions.proofs.PrintRuns.{line_at, line_ends, line_turns, print_at, print_end, draws, has_drawn, to_draw, moves_right, moves_next, to_line, line_done, to_new_line, to_back, back_at, draws_space, space_done, back_left, back_stays, back_word, back_row}
use Rattle.os_functions.proofs.ScreenMade.{pixel_law}
use Rattle.os_functions.proofs.Statics.{same_font, same_place, same_right, apart}
use Rattle.os_functions.proofs.Texts.{routine, draw_body, line_body, back_body, print_body, moves_on}
use Rattle.os_functions.proofs.Ways.{Way, way_then, way_of_run, way_of_call, opened, returns_by, inner_leaf}

-- ---- the cursor's statics

module _ {core : Core} (p : IsShipped core) (h : HasStatics p) (ss : List ℕ) where
  not_right : h.place ≢ h.right
  not_right e = let a = apart h in omega (arith, e, a)

  module _ (row column : ℕ) (room : (h.place < length ss) × (h.right < length ss)) where
    place_in : slice_index (with_cursor h ss row column) h.place ≡ cell_address row column
    place_in =
        get_or-set_other (slice_set ss h.place (cell_address row column)) h.right h.place (truth (nat_eq (column % 2) 1)) 0 not_right ∙ get_or-set_same ss h.place (cell_address row column) 0 room.0

    right_in : slice_index (with_cursor h ss row column) h.right ≡ truth (nat_eq (column % 2) 1)
    right_in =
        get_or-set_same (slice_set ss h.place (cell_address row column)) h.right (truth (nat_eq (column % 2) 1)) 0
        (omega (arith, length-set ss h.place (cell_address row column), room))

    same_room : length (with_cursor h ss row column) ≡ length ss
    same_room = length-set (slice_set ss h.place (cell_address row column)) h.right (truth (nat_eq (column % 2) 1)) ∙ length-set ss h.place (cell_address row column)

    pub stands : row < 23 → column < 64 → IsCursorAt h (with_cursor h ss row column) row column
    stands hr hc = record { rows = hr; columns = hc; room = (omega (arith, same_room, room), omega (arith, same_room, room)); place = place_in; right = right_in }

    -- and no other is
    pub font_kept : slice_index (with_cursor h ss row column) h.font ≡ slice_index ss h.font
    font_kept =
        let a = apart h in
        get_or-set_other (slice_set ss h.place (cell_address row column)) h.right h.font (truth (nat_eq (column % 2) 1)) 0 (λ e. omega (arith, e, a))
        ∙ get_or-set_other ss h.place h.font (cell_address row column) 0 (λ e. omega (arith, e, a))

  left_truth : (column : ℕ) → column % 2 ≡ 0 → truth (nat_eq (column % 2) 1) ≡ 0
  left_truth column e = ap (λ z. truth (nat_eq z 1)) e

  right_truth : (column : ℕ) → column % 2 ≡ 1 → truth (nat_eq (column % 2) 1) ≡ 65535
  right_truth column e = ap (λ z. truth (nat_eq z 1)) e

  -- the statics that are set to what they are
  kept_place : (v a : ℕ) → slice_index ss h.place ≡ a → slice_set (slice_set ss h.place a) h.right v ≡ slice_set ss h.right v
  kept_place v a e = ap (λ (l : List ℕ). slice_set l h.right v) (ap (slice_set ss h.place) (sym e) ∙ set-get_or ss h.place 0)

  -- set in the other order
  pub turned : (a v : ℕ) → slice_set (slice_set ss h.right v) h.place a ≡ slice_set (slice_set ss h.place a) h.right v
  turned a v = set_comm ss h.right h.place v a (λ e. not_right (sym e))

-- ---- the system's routines, by the numbers that a law has of the statics

module _ {core : Core} (p : IsShipped core) (h : HasStatics p) where
  abbrev subs : List Subroutine
  subs = the_subroutines core

  abbrev output_number : List ℕ → ℕ
  output_number name = number_of core p (codes "Output") name

  abbrev draw_at : ℕ
  draw_at = output_number (codes "draw")

  abbrev own_class : ℕ
  own_class = own_number core p 4

  called_at : (name : List ℕ) → subroutine_at subs (output_number name) ≡ subroutine_at subs (routine_number p (codes "Output") name)
  called_at name = ap (subroutine_at subs) (sym (numbered core p (codes "Output") name))

  has_draw : subroutine_at subs draw_at ≡ routine Function own_class 1 8 (draw_body h.font h.place h.right)
  has_draw =
      called_at (codes "draw") ∙ is_draw core p
      ∙ ap (λ (k : ℕ). routine Function own_class 1 8 (draw_body k (first_static core p 4 + 1) (first_static core p 4 + 1 + 1))) (same_font h)
      ∙ ap (λ (k : ℕ). routine Function own_class 1 8 (draw_body h.font k (first_static core p 4 + 1 + 1))) (same_place h)
      ∙ ap (λ (k : ℕ). routine Function own_class 1 8 (draw_body h.font h.place k)) (same_right h)

  has_line : subroutine_at subs (routine_number p (codes "Output") (codes "println")) ≡ routine Function own_class 0 0 (line_body h.place h.right)
  has_line =
      is_line core p
      ∙ ap (λ (k : ℕ). routine Function own_class 0 0 (line_body k (first_static core p 4 + 1 + 1))) (same_place h)
      ∙ ap (λ (k : ℕ). routine Function own_class 0 0 (line_body h.place k)) (same_right h)

  has_back : subroutine_at subs (routine_number p (codes "Output") (codes "backSpace")) ≡ routine Function own_class 0 0 (back_body draw_at h.place h.right)
  has_back =
      is_back core p
      ∙ ap (λ (k : ℕ). routine Function own_class 0 0 (back_body draw_at k (first_static core p 4 + 1 + 1))) (same_place h)
      ∙ ap (λ (k : ℕ). routine Function own_class 0 0 (back_body draw_at h.place k)) (same_right h)

  abbrev line_number : ℕ
  line_number = output_number (codes "println")

  abbrev back_number : ℕ
  back_number = output_number (codes "backSpace")

  has_print : subroutine_at subs (routine_number p (codes "Output") (codes "printChar")) ≡ routine Function own_class 1 0 (print_body line_number back_number draw_at h.place h.right)
  has_print =
      is_print core p
      ∙ ap (λ (k : ℕ). routine Function own_class 1 0 (print_body line_number back_number draw_at k (first_static core p 4 + 1 + 1))) (same_place h)
      ∙ ap (λ (k : ℕ). routine Function own_class 1 0 (print_body line_number back_number draw_at h.place k)) (same_right h)

  -- ---- println, by itself

  module _ (g : ℕ) (ss ws : List ℕ) (row column : ℕ) (hr : row < 23) (hc : column < 64) (room : h.place < length ss) (at : slice_index ss h.place ≡ cell_address row column) where
    abbrev lined : List ℕ
    lined = slice_set (slice_set ss h.place (cell_address ((row + 1) % 23) 0)) h.right 0

    abbrev next : ℕ
    next = 16384 + 352 * (row + 1)

    row_begin : bit_and (cell_address row column) 65504 ≡ 16384 + 352 * row
    row_begin = let m = and_rows (cell_address row column) (omega (arith, hr, hc)) in omega (arith, m, hc)

    sum : word_add (16384 + 352 * row) 352 ≡ next
    sum = omega (arith, hr)

    place_next : slice_index (slice_set (slice_set ss h.place next) h.right 0) h.place ≡ next
    place_next = get_or-set_other (slice_set ss h.place next) h.right h.place 0 0 (not_right p h ss) ∙ get_or-set_same ss h.place next 0 room

    pub line_run : (n : ℕ) × (n ≤ 16) × (run subs n (line_at subs g ws h.place h.right ss (line_body h.place h.right)) ≡ Some (in_call g 0 lined ws (returns_value 5 0 End) [] []))
    line_run =
        ⊎_elim
        (λ (l : row < 22).
        let same : next ≡ cell_address ((row + 1) % 23) 0 = omega (arith, l) in (
          14,
          omega arith,
          line_ends subs g ws h.place h.right ss (cell_address row column) (16384 + 352 * row) next at row_begin sum place_next (not_less 24479 next (omega (arith, l)) (omega arith))
              ∙ ap (λ (z : ℕ). Some (in_call g 0 (slice_set (slice_set ss h.place z) h.right 0) ws (returns_value 5 0 End) [] [])) same,
        ))
        (λ (k : 22 ≤ row).
        let same : 16384 ≡ cell_address ((row + 1) % 23) 0 = omega (arith, k, hr) in
        let shorter : slice_set (slice_set (slice_set ss h.place next) h.right 0) h.place 16384 ≡ slice_set (slice_set ss h.place 16384) h.right 0 =
        turned p h (slice_set ss h.place next) 16384 0 ∙ ap (λ (l : List ℕ). slice_set l h.right 0) (set-set ss h.place next 16384) in (
          16,
          omega arith,
          line_turns subs g ws h.place h.right ss (cell_address row column) (16384 + 352 * row) next at row_begin sum place_next (less 24479 next (omega (arith, k)) (omega (arith, hr)))
              ∙ ap (λ (l : List ℕ). Some (in_call g 0 l ws (returns_value 5 0 End) [] [])) shorter
              ∙ ap (λ (z : ℕ). Some (in_call g 0 (slice_set (slice_set ss h.place z) h.right 0) ws (returns_value 5 0 End) [] [])) same,
        ))
        (cases_lt row 22)

  -- ---- a call of draw within a call

  module _ (below : List Frame) (f waits : Frame) (ss ws : List ℕ) (row column k glyph : ℕ) (small : k < 65536) (at : IsCursorAt h ss row column) (font : slice_index ss h.font + 3 * shown_code k ≡ glyph) (inside : (2048 ≤ glyph) × (glyph + 3 ≤ 16384)) (long : length ws ≡ 22528) where
    half : ((slice_index ss h.right ≡ 0) × (8 * (column % 2) ≡ 0)) ⊎ ((m : ℕ) × (slice_index ss h.right ≡ suc m) × (8 * (column % 2) ≡ 8))
    half =
        ⊎_elim
        (λ (e : column % 2 ≡ 0). inl (at.right ∙ left_truth p h ss column e, (let z : 8 * (column % 2) ≡ 0 = omega (arith, e) in z)))
        (λ (e : column % 2 ≡ 1). inr (65534, at.right ∙ right_truth p h ss column e, (let z : 8 * (column % 2) ≡ 8 = omega (arith, e) in z)))
        (even_or_odd column)

    draw_way : step subs 0 (record { frames = f ∷ below; statics = ss; words = ws }) ≡ Acts false (record { frames = new_frame subs draw_at (k ∷ []) ∷ waits ∷ below; statics = ss; words = ws })
        → (n : ℕ) × (n ≤ 1315) × (ws' : List ℕ) × IsDrawn ws row column glyph ws'
        × Way subs (suc (length below)) n (record { frames = f ∷ below; statics = ss; words = ws }) (record { frames = record waits { text = filled_text 0 waits.text } ∷ below; statics = ss; words = ws' })
    draw_way calls =
        let cell = cell_of row column glyph at.rows at.columns inside.0 inside.1 in
        let (n, few, ws', done, k', ls, ran) = drawn subs draw_at ss h.font h.place h.right ws long (cell_address row column) (8 * (column % 2)) glyph cell at.place half k small (slice_index ss h.font) refl font in
        let end : Frame = (in_call draw_at 0 ss ws' End (k' ∷ []) ls).frame in (
          suc (suc n),
          omega (arith, few),
          ws',
          is_drawn row column glyph at.rows at.columns inside.0 inside.1 ws ws' long done,
          inner_leaf subs below f waits ss ws ss ws' draw_at (k ∷ []) (routine Function own_class 1 8 (draw_body h.font h.place h.right)) n 32 0 End end has_draw calls ran,
        )

  -- a call of println within a call
  line_way : (below : List Frame) (f waits : Frame) (ss ws : List ℕ) (row column : ℕ) → row < 23 → column < 64 → h.place < length ss → slice_index ss h.place ≡ cell_address row column
      → step subs 0 (record { frames = f ∷ below; statics = ss; words = ws }) ≡ Acts false (record { frames = new_frame subs line_number [] ∷ waits ∷ below; statics = ss; words = ws })
      → (n : ℕ) × (n ≤ 18) × Way subs (suc (length below)) n (record { frames = f ∷ below; statics = ss; words = ws })
      (record { frames = record waits { text = filled_text 0 waits.text } ∷ below; statics = slice_set (slice_set ss h.place (cell_address ((row + 1) % 23) 0)) h.right 0; words = ws })
  line_way below f waits ss ws row column hr hc room at calls =
      let (n, few, ran) = line_run line_number ss ws row column hr hc room at in
      let after : List ℕ = slice_set (slice_set ss h.place (cell_address ((row + 1) % 23) 0)) h.right 0 in (
        suc (suc n),
        omega (arith, few),
        inner_leaf subs below f waits ss ws after ws line_number [] (routine Function own_class 0 0 (line_body h.place h.right)) n 5 0 End (in_call line_number 0 after ws End [] []).frame (called_at (codes "println") ∙ has_line) calls ran,
      )

-- ---- println

module _ {core : Core} (p : IsShipped core) (s : State) where
  pub line_law : LineLaw p s
  line_law h row column at c =
      let subs = the_subroutines core in
      let g = routine_number p (codes "Output") (codes "println") in
      let (n, few, ran) = line_run p h g s.statics s.words row column at.rows at.columns at.room.0 at.place in
      leaves_by p s (codes "Output") (codes "println") [] c n 20 (omega (arith, few)) _ (has_line p h) 0 (with_cursor h s.statics ((row + 1) % 23) 0) s.words 5 0 End [] [] ran

  pub print_line_law : PrintLineLaw p s
  print_line_law h row column at c =
      let subs = the_subroutines core in
      let g = routine_number p (codes "Output") (codes "printChar") in
      let line = line_number p h in
      let below : List Frame = c.caller ∷ c.below in
      let d = suc (length below) in
      let first = opened subs s g (128 ∷ []) c in
      let ss' = with_cursor h s.statics ((row + 1) % 23) 0 in
      let asks : Call = print_at subs g s.words h.place h.right 128 line s.statics (Next (Do 2 (Calling line NoMore)) (print_end subs g s.words h.place h.right 128 line)) in
      let waits : Call = print_at subs g s.words h.place h.right 128 line s.statics (Next (Do 2 Open) (print_end subs g s.words h.place h.right 128 line)) in
      let has : Call = print_at subs g s.words h.place h.right 128 line ss' (Next (Do 2 (Value 0)) (print_end subs g s.words h.place h.right 128 line)) in
      let last : Call = print_at subs g s.words h.place h.right 128 line ss' (returns_value 11 0 End) in
      let begins : Way subs d 4 first (over below asks) =
      way_of_run subs below 4 (record { frame = new_frame subs g (128 ∷ []); statics = s.statics; words = s.words }) asks
      (ap (λ (z : Frame). run subs 4 (record { frame = z; statics = s.statics; words = s.words })) (enters subs g _ (128 ∷ []) (has_print p h)) ∙ to_new_line subs g s.words h.place h.right s.statics line (back_number p h) (draw_at p h)) in
      let (n, few, way) = line_way p h below asks.frame waits.frame s.statics s.words row column at.rows at.columns at.room.0 at.place refl in
      let ends : Way subs d 2 (over below has) (over below last) = way_of_run subs below 2 has last (line_done subs g s.words h.place h.right 128 line ss' 2) in
      let whole = way_then subs d 4 (n + 2) first (over below asks) (over below last) begins (way_then subs d n 2 (over below asks) (over below has) (over below last) way ends) in
      (suc (suc (4 + (n + 2))), omega (arith, few), returns_by subs s g (128 ∷ []) c (4 + (n + 2)) (print_at subs g s.words h.place h.right 128 line ss' End).frame ss' s.words 11 0 End whole)

-- ---- printChar

module _ {core : Core} (p : IsShipped core) (h : HasStatics p) (g : ℕ) (below : List Frame) (ss ws : List ℕ) (k row column : ℕ) (at : IsCursorAt h ss row column) where
  abbrev print_subs : List Subroutine
  print_subs = the_subroutines core

  abbrev line : ℕ
  line = line_number p h

  abbrev at_print : List ℕ → Text → Call
  at_print ss' t = print_at print_subs g ws h.place h.right k line ss' t

  abbrev here : ℕ
  here = cell_address row column

  abbrev after : List ℕ
  after = with_cursor h ss (row_after row column) (column_after column)

  abbrev last : Call
  last = at_print after (returns_value 11 0 End)

  abbrev Moves : Type 0
  Moves = (n : ℕ) × (n ≤ 40) × Way print_subs (suc (length below)) n (over below (at_print ss (has_drawn print_subs g ws h.place h.right k line))) (over below last)

  -- the cell that comes next
  set_to : (a v : ℕ) → a ≡ cell_address (row_after row column) (column_after column) → v ≡ truth (nat_eq (column_after column % 2) 1) → slice_set (slice_set ss h.place a) h.right v ≡ after
  set_to a v ea ev = ap (λ (z : ℕ). slice_set (slice_set ss h.place z) h.right v) ea ∙ ap (λ (z : ℕ). slice_set (slice_set ss h.place (cell_address (row_after row column) (column_after column))) h.right z) ev

  place_behind : slice_index (slice_set ss h.right 0) h.place ≡ here
  place_behind = get_or-set_other ss h.right h.place 0 0 (not_right p h ss) ∙ at.place

  low_bits : bit_and here 31 ≡ column / 2
  low_bits = and_mask here 5 ∙ (let hr = at.rows in let hc = at.columns in let e : here % 32 ≡ column / 2 = omega (arith, hr, hc) in e)

  from_left : column % 2 ≡ 0 → Moves
  from_left e =
      let hc = at.columns in
      let hr = at.rows in
      let to : slice_set ss h.right 65535 ≡ after =
      sym (kept_place p h ss 65535 here at.place)
      ∙ set_to here 65535 (let a : here ≡ cell_address (row_after row column) (column_after column) = omega (arith, e, hc, hr) in a)
      (sym (right_truth p h ss (column_after column) (let o : column_after column % 2 ≡ 1 = omega (arith, e, hc) in o))) in (
        8,
        omega arith,
        way_of_run print_subs below 8 (at_print ss (has_drawn print_subs g ws h.place h.right k line)) last
            (moves_right print_subs g ws h.place h.right k line ss (at.right ∙ left_truth p h ss column e) (get_or-set_same ss h.right 65535 0 at.room.1) ∙ ap (λ (l : List ℕ). Some (at_print l (returns_value 11 0 End))) to),
      )

  from_right : column % 2 ≡ 1 → column < 63 → Moves
  from_right e l =
      let hr = at.rows in
      let to : slice_set (slice_set ss h.right 0) h.place (here + 1) ≡ after =
      turned p h ss (here + 1) 0
      ∙ set_to (here + 1) 0 (let a : here + 1 ≡ cell_address (row_after row column) (column_after column) = omega (arith, e, l, hr) in a)
      (sym (left_truth p h ss (column_after column) (let o : column_after column % 2 ≡ 0 = omega (arith, e, l) in o))) in
      let other : nat_eq (column / 2) 31 ≡ false = (let m : column / 2 < 31 = omega (arith, e, l) in grind (arith, nat_tests)) in (
        18,
        omega arith,
        way_of_run print_subs below 18 (at_print ss (has_drawn print_subs g ws h.place h.right k line)) last
            (moves_next print_subs g ws h.place h.right k line ss here (column / 2) (here + 1) (at.right ∙ right_truth p h ss column e) (get_or-set_same ss h.right 0 0 at.room.1) place_behind low_bits other
            (let a : word_add here 1 ≡ here + 1 = omega (arith, hr, l) in a)
            ∙ ap (λ (z : List ℕ). Some (at_print z (returns_value 11 0 End))) to),
      )

  from_last : column % 2 ≡ 1 → 63 ≤ column → Moves
  from_last e l =
      let hc = at.columns in
      let hr = at.rows in
      let ss' = slice_set ss h.right 0 in
      let there = cell_address ((row + 1) % 23) 0 in
      let asks : Call = at_print ss' (Next (Do 9 (Calling line NoMore)) (print_end print_subs g ws h.place h.right k line)) in
      let waits : Call = at_print ss' (Next (Do 9 Open) (print_end print_subs g ws h.place h.right k line)) in
      let lined : List ℕ = slice_set (slice_set ss' h.place there) h.right 0 in
      let has : Call = at_print lined (Next (Do 9 (Value 0)) (print_end print_subs g ws h.place h.right k line)) in
      let first = at_print ss (has_drawn print_subs g ws h.place h.right k line) in
      let is_31 : nat_eq (column / 2) 31 ≡ true = ap (λ z. nat_eq z 31) (let m : column / 2 ≡ 31 = omega (arith, l, hc) in m) in
      let to : lined ≡ after =
      ap (λ (z : List ℕ). slice_set z h.right 0) (turned p h ss there 0) ∙ set-set (slice_set ss h.place there) h.right 0 0
      ∙ set_to there 0 (let a : there ≡ cell_address (row_after row column) (column_after column) = omega (arith, l, hc, hr) in a)
      (sym (left_truth p h ss (column_after column) (let o : column_after column % 2 ≡ 0 = omega (arith, l, hc) in o))) in
      let begins = way_of_run print_subs below 13 first asks (to_line print_subs g ws h.place h.right k line ss here (column / 2) (at.right ∙ right_truth p h ss column e) (get_or-set_same ss h.right 0 0 at.room.1) place_behind low_bits is_31) in
      let (n, few, way) =
      line_way p h below asks.frame waits.frame ss' ws row column hr hc (let m = length-set ss h.right 0 in let r = at.room in omega (arith, m, r)) place_behind refl in
      let ends = way_of_run print_subs below 2 has last (line_done print_subs g ws h.place h.right k line lined 9 ∙ ap (λ (z : List ℕ). Some (at_print z (returns_value 11 0 End))) to) in
      let d = suc (length below) in
      (13 + (n + 2), omega (arith, few), way_then print_subs d 13 (n + 2) (over below first) (over below asks) (over below last) begins (way_then print_subs d n 2 (over below asks) (over below has) (over below last) way ends))

  moves : Moves
  moves =
      ⊎_elim from_left (λ (e : column % 2 ≡ 1). ⊎_elim (λ (l : column < 63). from_right e l) (λ (g : 63 ≤ column). from_last e g) (cases_lt column 63)) (even_or_odd column)

differs : (k n : ℕ) → k ≢ n → nat_eq k n ≡ false
differs k n d = grind (arith, nat_tests)

module _ {core : Core} (p : IsShipped core) (s : State) where
  pub print_law : PrintLaw p s
  print_law h row column k glyph small no_line no_back at has c =
      let subs = the_subroutines core in
      let g = routine_number p (codes "Output") (codes "printChar") in
      let line = line_number p h in
      let below : List Frame = c.caller ∷ c.below in
      let d = suc (length below) in
      let first = opened subs s g (k ∷ []) c in
      let ss' = with_cursor h s.statics (row_after row column) (column_after column) in
      let asks : Call = print_at subs g s.words h.place h.right k line s.statics (draws subs g s.words h.place h.right k line (draw_at p h)) in
      let waits : Call = print_at subs g s.words h.place h.right k line s.statics (Next (Do 5 Open) (moves_on line h.place h.right)) in
      let begins : Way subs d 9 first (over below asks) =
      way_of_run subs below 9 (record { frame = new_frame subs g (k ∷ []); statics = s.statics; words = s.words }) asks
      (ap (λ (z : Frame). run subs 9 (record { frame = z; statics = s.statics; words = s.words })) (enters subs g _ (k ∷ []) (has_print p h))
      ∙ to_draw subs g s.words h.place h.right k line s.statics (back_number p h) (draw_at p h) (differs k 128 no_line) (differs k 129 no_back)) in
      let (n, few, ws, is, way) = draw_way p h below asks.frame waits.frame s.statics s.words row column k glyph small at has.place has.inside has.words refl in
      let drawn_at : Call = print_at subs g ws h.place h.right k line s.statics (has_drawn subs g ws h.place h.right k line) in
      let last : Call = print_at subs g ws h.place h.right k line ss' (returns_value 11 0 End) in
      let (m, short, on) = moves p h g below s.statics ws k row column at in
      let whole = way_then subs d 9 (n + m) first (over below asks) (over below last) begins (way_then subs d n m (over below asks) (over below drawn_at) (over below last) way on) in
      (ws, is, (suc (suc (9 + (n + m))), omega (arith, few, short), returns_by subs s g (k ∷ []) c (9 + (n + m)) (print_at subs g ws h.place h.right k line ss' End).frame ss' ws 11 0 End whole))

-- ---- backSpace

module _ {core : Core} (p : IsShipped core) (h : HasStatics p) (g : ℕ) (ss ws : List ℕ) (row column : ℕ) (at : IsCursorAt h ss row column) where
  abbrev back_subs : List Subroutine
  back_subs = the_subroutines core

  abbrev back_here : ℕ
  back_here = cell_address row column

  abbrev draw : ℕ
  draw = draw_at p h

  abbrev at_back : List ℕ → Text → Call
  at_back ss' t = back_at back_subs g ws h.place h.right ss' t

  abbrev before : List ℕ
  before = with_cursor h ss (row_before row column) (column_before row column)

  abbrev Goes : Type 0
  Goes = (n : ℕ) × (n ≤ 23) × (run back_subs n (at_back ss (back_body draw h.place h.right)) ≡ Some (at_back before (draws_space back_subs g ws h.place h.right draw)))

  set_back : (a v : ℕ) → a ≡ cell_address (row_before row column) (column_before row column) → v ≡ truth (nat_eq (column_before row column % 2) 1) → slice_set (slice_set ss h.place a) h.right v ≡ before
  set_back a v ea ev = ap (λ (z : ℕ). slice_set (slice_set ss h.place z) h.right v) ea ∙ ap (λ (z : ℕ). slice_set (slice_set ss h.place (cell_address (row_before row column) (column_before row column))) h.right z) ev

  abbrev shows : (z z' : List ℕ) → z ≡ z' → Some (at_back z (draws_space back_subs g ws h.place h.right draw)) ≡ Some (at_back z' (draws_space back_subs g ws h.place h.right draw))
  shows z z' e = ap (λ (l : List ℕ). Some (at_back l (draws_space back_subs g ws h.place h.right draw))) e

  back_from_right : column % 2 ≡ 1 → Goes
  back_from_right e =
      let hc = at.columns in
      let to : slice_set ss h.right 0 ≡ before =
      sym (kept_place p h ss 0 back_here at.place)
      ∙ set_back back_here 0 (let a : back_here ≡ cell_address (row_before row column) (column_before row column) = omega (arith, e, hc) in a)
      (sym (left_truth p h ss (column_before row column) (let o : column_before row column % 2 ≡ 0 = omega (arith, e, hc) in o))) in
      (5, omega arith, back_left back_subs g ws h.place h.right ss draw (at.right ∙ right_truth p h ss column e) ∙ shows (slice_set ss h.right 0) before to)

  -- the first cell of all
  back_from_first : column ≡ 0 → row ≡ 0 → Goes
  back_from_first ec er =
      let even : truth (nat_eq (column % 2) 1) ≡ 0 = ap (λ z. truth (nat_eq (z % 2) 1)) ec in
      let same : ss ≡ slice_set (slice_set ss h.place back_here) h.right 0 =
      sym (kept_place p h ss 0 back_here at.place ∙ ap (slice_set ss h.right) (sym (at.right ∙ even)) ∙ set-get_or ss h.right 0) in
      let to : ss ≡ before =
      same
      ∙ set_back back_here 0 (let a : back_here ≡ cell_address (row_before row column) (column_before row column) = omega (arith, ec, er) in a)
      (sym (left_truth p h ss (column_before row column) (let o : column_before row column % 2 ≡ 0 = omega (arith, ec, er) in o))) in (
        7,
        omega arith,
        back_stays back_subs g ws h.place h.right ss draw back_here (at.right ∙ even) at.place (not_less 16384 back_here (let l : back_here ≤ 16384 = omega (arith, ec, er) in l) (omega arith)) ∙ shows ss before to,
      )

  module _ (e : column % 2 ≡ 0) (some : 0 < 64 * row + column) where
    zero_right : slice_index ss h.right ≡ 0
    zero_right = at.right ∙ left_truth p h ss column e

    above : word_gt back_here 16384 ≡ 65535
    above = let hr = at.rows in let hc = at.columns in less 16384 back_here (let l : 16384 < back_here = omega (arith, e, some) in l) (omega (arith, hr, hc))

    place_kept : slice_index (slice_set ss h.right 65535) h.place ≡ back_here
    place_kept = get_or-set_other ss h.right h.place 65535 0 (not_right p h ss) ∙ at.place

    place_set : (a : ℕ) → slice_index (slice_set (slice_set ss h.right 65535) h.place a) h.place ≡ a
    place_set a = get_or-set_same (slice_set ss h.right 65535) h.place a 0 (let m = length-set ss h.right 65535 in let r = at.room in omega (arith, m, r))

    odd_before : 65535 ≡ truth (nat_eq (column_before row column % 2) 1)
    odd_before = sym (right_truth p h ss (column_before row column) (let o : column_before row column % 2 ≡ 1 = omega (arith, e, some) in o))

    less_one : word_sub back_here 1 ≡ back_here - 1
    less_one = let hr = at.rows in let hc = at.columns in omega (arith, hr, hc)

    back_from_left : 0 < column → Goes
    back_from_left l =
        let hc = at.columns in
        let hr = at.rows in
        let to : slice_set (slice_set ss h.right 65535) h.place (back_here - 1) ≡ before =
        turned p h ss (back_here - 1) 65535 ∙ set_back (back_here - 1) 65535 (let a : back_here - 1 ≡ cell_address (row_before row column) (column_before row column) = omega (arith, e, l, hc) in a) odd_before in
        let low : bit_and (back_here - 1) 31 ≡ column / 2 - 1 = and_mask (back_here - 1) 5 ∙ (let m : (back_here - 1) % 32 ≡ column / 2 - 1 = omega (arith, e, l, hc) in m) in
        let other : nat_eq (column / 2 - 1) 31 ≡ false = (let m : column / 2 - 1 < 31 = omega (arith, hc) in grind (arith, nat_tests)) in
        (19, omega arith, back_word back_subs g ws h.place h.right ss draw back_here (back_here - 1) (column / 2 - 1) zero_right at.place above place_kept less_one (place_set (back_here - 1)) low other ∙ shows _ before to)

    back_from_row : column ≡ 0 → Goes
    back_from_row ec =
        let hr = at.rows in
        let d = back_here - 1 - 320 in
        let shorter : slice_set (slice_set (slice_set ss h.right 65535) h.place (back_here - 1)) h.place d ≡ slice_set (slice_set ss h.right 65535) h.place d = set-set (slice_set ss h.right 65535) h.place (back_here - 1) d in
        let to : slice_set (slice_set (slice_set ss h.right 65535) h.place (back_here - 1)) h.place d ≡ before =
        shorter ∙ turned p h ss d 65535 ∙ set_back d 65535 (let a : d ≡ cell_address (row_before row column) (column_before row column) = omega (arith, ec, some) in a) odd_before in
        let low : bit_and (back_here - 1) 31 ≡ 31 = and_mask (back_here - 1) 5 ∙ (let m : (back_here - 1) % 32 ≡ 31 = omega (arith, ec, some) in m) in
        let sub : word_sub (back_here - 1) 320 ≡ d = omega (arith, ec, some, hr) in
        (23, omega arith, back_row back_subs g ws h.place h.right ss draw back_here (back_here - 1) 31 d zero_right at.place above place_kept less_one (place_set (back_here - 1)) low refl sub ∙ shows _ before to)

  goes : Goes
  goes =
      ⊎_elim
      (λ (e : column % 2 ≡ 0).
      ⊎_elim
      (λ (l : column < 1).
      let ec : column ≡ 0 = omega (arith, l) in
      ⊎_elim (λ (z : row < 1). back_from_first ec (let er : row ≡ 0 = omega (arith, z) in er)) (λ (s : 1 ≤ row). back_from_row e (omega (arith, s)) ec) (cases_lt row 1))
      (λ (s : 1 ≤ column). back_from_left e (omega (arith, s)) (omega (arith, s)))
      (cases_lt column 1))
      back_from_right
      (even_or_odd column)

module _ {core : Core} (p : IsShipped core) (s : State) where
  back_drawn : (h : HasStatics p) (row column glyph : ℕ) → IsCursorAt h s.statics row column → HasGlyph h s 32 glyph → (c : CallsNext p (codes "Output") (codes "backSpace") s [])
      → (words : List ℕ) × IsDrawn s.words (row_before row column) (column_before row column) glyph words × Leaves c 1400 0 (with_cursor h s.statics (row_before row column) (column_before row column)) words
  back_drawn h row column glyph at has c =
      let subs = the_subroutines core in
      let g = routine_number p (codes "Output") (codes "backSpace") in
      let below : List Frame = c.caller ∷ c.below in
      let d = suc (length below) in
      let first = opened subs s g [] c in
      let row' = row_before row column in
      let column' = column_before row column in
      let ss' = with_cursor h s.statics row' column' in
      let hr = at.rows in
      let hc = at.columns in
      let asks : Call = back_at subs g s.words h.place h.right ss' (draws_space subs g s.words h.place h.right (draw_at p h)) in
      let waits : Call = back_at subs g s.words h.place h.right ss' (Next (Do 8 Open) (Next (Return 9 (Literal 0)) End)) in
      let (n, few, ran) = goes p h g s.statics s.words row column at in
      let begins : Way subs d n first (over below asks) =
      way_of_run subs below n (record { frame = new_frame subs g []; statics = s.statics; words = s.words }) asks
      (ap (λ (z : Frame). run subs n (record { frame = z; statics = s.statics; words = s.words })) (enters subs g _ [] (has_back p h)) ∙ ran) in
      let there = stands p h s.statics row' column' at.room (let l : row' < 23 = omega (arith, hr, hc) in l) (let l : column' < 64 = omega arith in l) in
      let (m, short, ws, is, way) =
      draw_way p h below asks.frame waits.frame ss' s.words row' column' 32 glyph (omega arith) there (ap (λ z. z + 3 * 32) (font_kept p h s.statics row' column' at.room) ∙ has.place) has.inside has.words refl in
      let done : Call = back_at subs g ws h.place h.right ss' (Next (Do 8 (Value 0)) (Next (Return 9 (Literal 0)) End)) in
      let last : Call = back_at subs g ws h.place h.right ss' (returns_value 9 0 End) in
      let ends : Way subs d 2 (over below done) (over below last) = way_of_run subs below 2 done last (space_done subs g ws h.place h.right ss') in
      let whole = way_then subs d n (m + 2) first (over below asks) (over below last) begins (way_then subs d m 2 (over below asks) (over below done) (over below last) way ends) in
      (ws, is, (suc (suc (n + (m + 2))), omega (arith, few, short), returns_by subs s g [] c (n + (m + 2)) (back_at subs g ws h.place h.right ss' End).frame ss' ws 9 0 End whole))

  pub back_law : BackLaw p s
  back_law h row column glyph at has c = let (ws, is, (n, few, back)) = back_drawn h row column glyph at has c in (ws, is, (n, omega (arith, few), back))

module _ {core : Core} (p : IsShipped core) (s : State) where
  print_back_law : PrintBackLaw p s
  print_back_law h row column glyph at has c =
      let subs = the_subroutines core in
      let g = routine_number p (codes "Output") (codes "printChar") in
      let line = line_number p h in
      let back = back_number p h in
      let below : List Frame = c.caller ∷ c.below in
      let d = suc (length below) in
      let first = opened subs s g (129 ∷ []) c in
      let ss' = with_cursor h s.statics (row_before row column) (column_before row column) in
      let end = print_end subs g s.words h.place h.right 129 line in
      let asks : Call = print_at subs g s.words h.place h.right 129 line s.statics (Next (Do 4 (Calling back NoMore)) end) in
      let waits : Call = print_at subs g s.words h.place h.right 129 line s.statics (Next (Do 4 Open) end) in
      let begins : Way subs d 8 first (over below asks) =
      way_of_run subs below 8 (record { frame = new_frame subs g (129 ∷ []); statics = s.statics; words = s.words }) asks
      (ap (λ (z : Frame). run subs 8 (record { frame = z; statics = s.statics; words = s.words })) (enters subs g _ (129 ∷ []) (has_print p h)) ∙ to_back subs g s.words h.place h.right s.statics line back (draw_at p h)) in
      let s1 : State = over below asks in
      let c1 : CallsNext p (codes "Output") (codes "backSpace") s1 [] = record {
        top = asks.frame;
        caller = waits.frame;
        below = below;
        frames = refl;
        calls = ap (λ (k : ℕ). Acts false (with_top s1 (waits.frame ∷ below) (new_frame subs k []))) (sym (numbered core p (codes "Output") (codes "backSpace")));
      } in
      let has1 : HasGlyph h s1 32 glyph = record { place = has.place; inside = has.inside; words = has.words } in
      let (ws, is, (n, few, returns)) = back_drawn p s1 h row column glyph at has1 c1 in
      let done : Call = print_at subs g ws h.place h.right 129 line ss' (Next (Do 4 (Value 0)) (print_end subs g ws h.place h.right 129 line)) in
      let last : Call = print_at subs g ws h.place h.right 129 line ss' (returns_value 11 0 End) in
      let way : Way subs d n s1 (over below done) = way_of_call subs d n s1 (over below done) (omega arith) returns in
      let ends : Way subs d 2 (over below done) (over below last) = way_of_run subs below 2 done last (line_done subs g ws h.place h.right 129 line ss' 4) in
      let whole = way_then subs d 8 (n + 2) first s1 (over below last) begins (way_then subs d n 2 s1 (over below done) (over below last) way ends) in
      (ws, is, (suc (suc (8 + (n + 2))), omega (arith, few), returns_by subs s g (129 ∷ []) c (8 + (n + 2)) (print_at subs g ws h.place h.right 129 line ss' End).frame ss' ws 11 0 End whole))

  pixel_behind_law : PixelBehindLaw p s
  pixel_behind_law h row column k glyph x y small no_line no_back at has hx hy word c =
      let (ws, is, leaves) = print_law p s h row column k glyph small no_line no_back at has c in (
        ws,
        is,
        leaves,
        λ t same d.
            let there : word_at ws (pixel_address x y) < 65536 = is.each (pixel_address x y) (omega arith) word in
            let at_t : word_at t.words (pixel_address x y) ≡ word_at ws (pixel_address x y) = ap (λ (l : List ℕ). word_at l (pixel_address x y)) same in
            subst (λ (l : List ℕ). (words' : List ℕ) × IsPainted l x y (colour p t h) words' × Leaves d 320 0 t.statics words') same
            (pixel_law p t x y hx hy (ap length same ∙ is.same_length ∙ has.words) (omega (arith, at_t, there)) d h),
      )

pub law : PrintLaws
law = record {
  stands = λ p h statics row column hr hc room. stands p h statics row column room hr hc;
  print = λ p s. print_law p s;
  line = λ p s. line_law p s;
  print_line = λ p s. print_line_law p s;
  back = λ p s. back_law p s;
  print_back = λ p s. print_back_law p s;
  pixel_behind = λ p s. pixel_behind_law p s;
}
