-- A pixel drawn: calls of Screen's own routines within a call.
use Rattle.std.proofs.Common.{◌≡◌, ℕ, zero, suc, ◌+◌, ◌-◌, ◌*◌, ◌/◌, ◌%◌, ◌^◌, ◌<◌, ◌≤◌, Bool, false, nat_eq, bit_and, bit_or, List, [], ◌∷◌, length, Some, codes, refl, sym, ap, ◌∙◌, subst, arith}
use Rattle.std.specs.Prelude.{slice_index, slice_set, if◌then◌else◌}
use Rattle.std.proofs.lemmas.Bool.Decides.{nat_tests}
use Rattle.std.proofs.lemmas.Nat.{pow_below}
use Rattle.word16.specs.Words.{word_not}
use Rattle.jack_core.specs.declared.program.Core.{Core}
use Rattle.jack_core.specs.Texts.{the_subroutines}
use Rattle.jack_meaning.specs.Text.{Argument, Value, Name, Open, Do, Text, End, Next, Function, Subroutine}
use Rattle.jack_meaning.specs.Meaning.{Frame, State, subroutine_at, new_frame}
use Rattle.os_laws.specs.Heap.{word_at}
use Rattle.os_laws.specs.Names.{IsShipped}
use Rattle.os_laws.proofs.Basics.{enters}
use Rattle.os_laws.proofs.Runs.{over, run}
use Rattle.os_laws.proofs.Searching.{Reaches}
use Rattle.os_laws.proofs.Walking.{here}
use Rattle.os_functions.specs.Calls.{routine_number, HasStatics, CallsNext, Leaves}
use Rattle.os_functions.specs.ScreenLaws.{pixel_address, IsPainted, colour, InitLaw, ColourLaw, PixelErrorLaw, ScreenLaws}
use Rattle.os_functions.proofs.Named.{numbered, is_error, system_error, number_of, own_number, first_static}
use Rattle.os_functions.proofs.Pieces.{in_call, tail, returns_value, leaves_by, refuses_by}
use Rattle.os_functions.proofs.PixelFacts.{painted_black, painted_white, low_address, high_address, in_columns, in_rows, off_screen}
use Rattle.os_functions.proofs.ScreenRoutines.{is_pixel, is_paint, is_place, is_bit, is_init, is_set_colour}
use Rattle.os_functions.proofs.ScreenRuns.{places, bits, paints_black, paints_white, painted, colour_begun, colour_set, paint_call, bit_call, place_call, pixel_begins, pixel_middle, pixel_done, pixel_ends, pixel_refused}
use Rattle.os_functions.proofs.Statics.{same_black}
use Rattle.os_functions.proofs.Texts.{routine, pixel_body, paint_body, place_body, bit_body}
use Rattle.os_functions.proofs.Ways.{Way, way_then, way_of_run, opened, returns_by, inner_leaf}

abbrev colour_by : Bool → ℕ
colour_by b = if b then 0 else 1

-- a static that is not 0 is black
is_one : (m : ℕ) → 1 ≡ colour_by (nat_eq (suc m) 0)
is_one m = let e : nat_eq (suc m) 0 ≡ false = grind (arith, nat_tests) in sym (ap colour_by e)

module _ {core : Core} (p : IsShipped core) (s : State) (x y : ℕ) (hx : x < 512) (hy : y < 256) (long : length s.words ≡ 22528) (word : word_at s.words (pixel_address x y) < 65536) (c : CallsNext p (codes "Screen") (codes "drawPixel") s (x ∷ y ∷ [])) where
  abbrev subs : List Subroutine
  subs = the_subroutines core

  abbrev g : ℕ
  g = routine_number p (codes "Screen") (codes "drawPixel")

  abbrev screen_number : List ℕ → ℕ
  screen_number name = number_of core p (codes "Screen") name

  abbrev paint_at : ℕ
  paint_at = screen_number (codes "paint")

  abbrev place_at : ℕ
  place_at = screen_number (codes "place")

  abbrev bit_at : ℕ
  bit_at = screen_number (codes "bit")

  abbrev below : List Frame
  below = c.caller ∷ c.below

  abbrev a : ℕ
  a = pixel_address x y

  abbrev b : ℕ
  b = 2 ^ (x % 16)

  abbrev ss : List ℕ
  ss = s.statics

  abbrev ws : List ℕ
  ws = s.words

  -- the call itself, with these words
  abbrev here_with : List ℕ → Text → State
  here_with ws' t = over below (in_call g 0 ss ws' t (x ∷ y ∷ []) [])

  abbrev frame_at : Text → Frame
  frame_at t = (in_call g 0 ss ws t (x ∷ y ∷ []) []).frame

  abbrev asks_place : Text
  asks_place = paint_call subs g ss ws paint_at (place_call subs g ss ws place_at x y) (bit_call subs g ss ws bit_at (Name (Argument 0)))

  abbrev waits_place : Text
  waits_place = paint_call subs g ss ws paint_at Open (bit_call subs g ss ws bit_at (Name (Argument 0)))

  abbrev has_place : Text
  has_place = paint_call subs g ss ws paint_at (Value a) (bit_call subs g ss ws bit_at (Name (Argument 0)))

  abbrev asks_bit : Text
  asks_bit = paint_call subs g ss ws paint_at (Value a) (bit_call subs g ss ws bit_at (Value x))

  abbrev waits_bit : Text
  waits_bit = paint_call subs g ss ws paint_at (Value a) Open

  abbrev asks_paint : Text
  asks_paint = paint_call subs g ss ws paint_at (Value a) (Value b)

  abbrev waits_paint : Text
  waits_paint = Next (Do 3 Open) (pixel_ends subs g ss ws)

  abbrev is_done : Text
  is_done = Next (Do 3 (Value 0)) (pixel_ends subs g ss ws)

  called_at : (name : List ℕ) → subroutine_at subs (screen_number name) ≡ subroutine_at subs (routine_number p (codes "Screen") name)
  called_at name = ap (subroutine_at subs) (sym (numbered core p (codes "Screen") name))

  begins : Way subs (suc (length below)) 12 (opened subs s g (x ∷ y ∷ []) c) (here_with ws asks_place)
  begins =
      way_of_run subs below 12 (record { frame = new_frame subs g (x ∷ y ∷ []); statics = ss; words = ws }) (in_call g 0 ss ws asks_place (x ∷ y ∷ []) [])
      (ap (λ (z : Frame). run subs 12 (record { frame = z; statics = ss; words = ws })) (enters subs g _ (x ∷ y ∷ []) (is_pixel core p))
      ∙ pixel_begins subs g ss ws (system_error p) paint_at place_at bit_at x y (in_columns x hx) (in_rows y hy))

  gets_place : (n : ℕ) × (n ≤ 119) × Way subs (suc (length below)) n (here_with ws asks_place) (here_with ws has_place)
  gets_place =
      let r = places subs place_at ss ws x y hx hy in
      let end : Frame = (in_call place_at 0 ss ws End (r.2 ∷ (32 * y + x / 16) ∷ []) (0 ∷ [])).frame in (
        suc (suc r.0),
        (let few = r.1 in omega (arith, few)),
        inner_leaf subs below (frame_at asks_place) (frame_at waits_place) ss ws ss ws place_at (x ∷ y ∷ []) (routine Function (own_number core p 5) 2 1 place_body) r.0 8 a End end (called_at (codes "place") ∙ is_place core p) refl r.3,
      )

  to_bit : Way subs (suc (length below)) 1 (here_with ws has_place) (here_with ws asks_bit)
  to_bit = way_of_run subs below 1 (in_call g 0 ss ws has_place (x ∷ y ∷ []) []) (in_call g 0 ss ws asks_bit (x ∷ y ∷ []) []) (pixel_middle subs g ss ws paint_at bit_at a x y)

  small_bit : b < 65536
  small_bit = pow_below (x % 16) 16 (let e : x % 16 < 16 = omega arith in e)

  gets_bit : Way subs (suc (length below)) (suc (suc (6 + (10 * (x % 16) + 3)))) (here_with ws asks_bit) (here_with ws asks_paint)
  gets_bit =
      let end : Frame = (in_call bit_at 0 ss ws End (0 ∷ []) (b ∷ [])).frame in
      inner_leaf subs below (frame_at asks_bit) (frame_at waits_bit) ss ws ss ws bit_at (x ∷ []) (routine Function (own_number core p 5) 1 1 bit_body) (6 + (10 * (x % 16) + 3)) 6 b End end (called_at (codes "bit") ∙ is_bit core p) refl
      (bits subs bit_at ss ws x b refl small_bit)

  ends : (ws' : List ℕ) → Way subs (suc (length below)) 2 (here_with ws' is_done) (here_with ws' (returns_value 4 0 End))
  ends ws' = way_of_run subs below 2 (in_call g 0 ss ws' is_done (x ∷ y ∷ []) []) (in_call g 0 ss ws' (returns_value 4 0 End) (x ∷ y ∷ []) []) (pixel_done subs g ss ws' x y)

  -- the whole, where painting leaves these words
  drawn : (ws' : List ℕ) (n : ℕ) → n ≤ 14 → Way subs (suc (length below)) n (here_with ws asks_paint) (here_with ws' is_done) → Leaves c 320 0 ss ws'
  drawn ws' n few paints =
      let m = suc (suc (6 + (10 * (x % 16) + 3))) in
      let d = suc (length below) in
      let first = opened subs s g (x ∷ y ∷ []) c in
      let last = here_with ws' (returns_value 4 0 End) in
      let (k, most, place_way) = gets_place in
      let whole =
      way_then subs d 12 (k + (1 + (m + (n + 2)))) first (here_with ws asks_place) last begins
      (way_then subs d k (1 + (m + (n + 2))) (here_with ws asks_place) (here_with ws has_place) last place_way
      (way_then subs d 1 (m + (n + 2)) (here_with ws has_place) (here_with ws asks_bit) last to_bit
      (way_then subs d m (n + 2) (here_with ws asks_bit) (here_with ws asks_paint) last gets_bit
      (way_then subs d n 2 (here_with ws asks_paint) (here_with ws' is_done) last paints (ends ws'))))) in
      let low : x % 16 < 16 = omega arith in (
        suc (suc (12 + (k + (1 + (m + (n + 2)))))),
        omega (arith, most, few, low),
        returns_by subs s g (x ∷ y ∷ []) c (12 + (k + (1 + (m + (n + 2))))) (in_call g 0 ss ws' End (x ∷ y ∷ []) []).frame ss ws' 4 0 End whole,
      )

  abbrev black : ℕ
  black = first_static core p 5

  abbrev reached : Reaches a 0 a
  reached = here a (low_address s.words x y hx hy long word) (high_address s.words x y hx hy long word)

  paints_by : (ws' : List ℕ) (n : ℕ) → run subs n (in_call paint_at 0 ss ws (paint_body black) (a ∷ b ∷ []) []) ≡ Some (painted subs paint_at ss ws ws' a b)
      → Way subs (suc (length below)) (suc (suc n)) (here_with ws asks_paint) (here_with ws' is_done)
  paints_by ws' n ran =
      let end : Frame = (in_call paint_at 0 ss ws' End (a ∷ b ∷ []) []).frame in
      inner_leaf subs below (frame_at asks_paint) (frame_at waits_paint) ss ws ss ws' paint_at (a ∷ b ∷ []) (routine Function (own_number core p 5) 2 0 (paint_body black)) n 4 0 End end (called_at (codes "paint") ∙ is_paint core p) refl ran

  -- the colour, by the static
  by_colour : (v : ℕ) → slice_index ss black ≡ v → (words : List ℕ) × IsPainted s.words x y (if nat_eq v 0 then 0 else 1) words × Leaves c 320 0 s.statics words
  by_colour zero e =
      let ws' = slice_set ws (a - 2048) (bit_and (word_at ws a) (word_not b)) in
      (ws', painted_white s.words x y hx hy long word, drawn ws' 14 (omega arith) (paints_by ws' 12 (paints_white subs paint_at ss ws black a b e reached)))
  by_colour (suc m) e =
      let ws' = slice_set ws (a - 2048) (bit_or (word_at ws a) b) in
      (ws', subst (λ v. IsPainted s.words x y v ws') (is_one m) (painted_black s.words x y hx hy long word), drawn ws' 13 (omega arith) (paints_by ws' 11 (paints_black subs paint_at ss ws black a b m e reached)))

  pub pixel_law : (h : HasStatics p) → (words : List ℕ) × IsPainted s.words x y (colour p s h) words × Leaves c 320 0 s.statics words
  pixel_law h = by_colour (slice_index s.statics h.black) (ap (slice_index s.statics) (same_black h))

module _ {core : Core} (p : IsShipped core) (s : State) where
  pub init_law : InitLaw p s
  init_law h c =
      subst (λ k. Leaves c 5 0 (slice_set s.statics k 65535) s.words) (same_black h)
      (leaves_by p s (codes "Screen") (codes "init") [] c 3 5 (omega arith) _ (is_init core p) 0 (slice_set s.statics (first_static core p 5) 65535) s.words 2 0 End [] []
      (colour_begun (the_subroutines core) (routine_number p (codes "Screen") (codes "init")) s.statics s.words (first_static core p 5)))

  pub colour_law : ColourLaw p s
  colour_law h v c =
      subst (λ k. Leaves c 5 0 (slice_set s.statics k v) s.words) (same_black h)
      (leaves_by p s (codes "Screen") (codes "setColor") (v ∷ []) c 3 5 (omega arith) _ (is_set_colour core p) 0 (slice_set s.statics (first_static core p 5) v) s.words 2 0 End (v ∷ []) []
      (colour_set (the_subroutines core) (routine_number p (codes "Screen") (codes "setColor")) s.statics s.words (first_static core p 5) v))

  pub pixel_error_law : PixelErrorLaw p s
  pixel_error_law x y wx wy h c =
      let subs = the_subroutines core in
      let g = routine_number p (codes "Screen") (codes "drawPixel") in
      let error = system_error p in
      let paint_at = number_of core p (codes "Screen") (codes "paint") in
      let place_at = number_of core p (codes "Screen") (codes "place") in
      let bit_at = number_of core p (codes "Screen") (codes "bit") in
      let (m, off) = off_screen x y wx wy h in
      refuses_by p s (codes "Screen") (codes "drawPixel") (x ∷ y ∷ []) c 11 13 (omega arith) _ (is_pixel core p) error (is_error core p) 0 7 (tail (pixel_body error paint_at place_at bit_at)) (x ∷ y ∷ []) []
      (pixel_refused subs g s.statics s.words error paint_at place_at bit_at x y (bit_and x 65024) (bit_and y 65280) m refl refl off)

pub law : ScreenLaws
law = record {
  init = λ p s. init_law p s;
  set_colour = λ p s. colour_law p s;
  pixel = λ p s h x y hx hy long word c. pixel_law p s x y hx hy long word c h;
  pixel_error = λ p s. pixel_error_law p s;
}
