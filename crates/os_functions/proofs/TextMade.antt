-- A string printed: its characters one after the other, by calls within a call.
use Rattle.std.proofs.Common.{◌≡◌, ℕ, suc, ◌+◌, ◌*◌, ◌<◌, ◌≤◌, false, List, [], ◌∷◌, length, Some, codes, refl, sym, ap, ◌∙◌, subst, arith}
use Rattle.std.specs.Prelude.{slice_index}
use Rattle.std.specs.List.{AllByRecursion}
use Rattle.word16.specs.Words.{word_add, word_lt}
use Rattle.jack_core.specs.declared.program.Core.{Core}
use Rattle.jack_core.specs.Texts.{the_subroutines}
use Rattle.jack_meaning.specs.Text.{Argument, Local, Less, Binary, Plus, Value, Literal, Name, Open, Expression, Call as Calling, NoMore, More, Let, Do, If, While, Return, Text, End, Next, text_of, Function, Subroutine}
use Rattle.jack_meaning.specs.Meaning.{Frame, State, Acts, subroutine_at, new_frame, turn_of, with_top}
use Rattle.os_laws.specs.Heap.{word_at}
use Rattle.os_laws.specs.Names.{IsShipped}
use Rattle.os_laws.proofs.Basics.{enters}
use Rattle.os_laws.proofs.Comparing.{less, not_less}
use Rattle.os_laws.proofs.Runs.{Call, over, run}
use Rattle.os_functions.specs.Calls.{routine_number, HasStatics}
use Rattle.os_functions.specs.CursorLaws.{with_cursor}
use Rattle.os_functions.specs.ErrorLaws.{IsCharacter, TextLaw, ShowsText, ErrorLaws}
use Rattle.os_functions.specs.StringLaws.{StringAt, CallsString}
use Rattle.os_functions.proofs.ErrorMade.{halt_law, int_law, error_law, print_at, print_any, Shows, joined_at, cursor, unmoved}
use Rattle.os_functions.proofs.Named.{leads, numbered, number_of, own_number}
use Rattle.os_functions.proofs.Pieces.{in_call, returns_value}
use Rattle.os_functions.proofs.StringMade.{length_law, char_law}
use Rattle.os_functions.proofs.Texts.{routine}
use Rattle.os_functions.proofs.WaitMade.{wait_law, wait_error_law}
use Rattle.os_functions.proofs.Ways.{Way, way_then, way_of_run, way_of_call, opened, returns_by}

-- ---- the text of printString

abbrev says : ℕ → ℕ → ℕ → Expression → Expression → Expression
says print char n o j = Calling print (More (Calling char (More o (More j NoMore))) NoMore)

abbrev is_more : ℕ → Expression
is_more size = Binary Less (Name (Local 0)) (Calling size (More (Name (Argument 0)) NoMore))

abbrev text_turn : ℕ → ℕ → Text
text_turn print char = text_of (Do 2 (says print char 0 (Name (Argument 0)) (Name (Local 0))) ∷ Let 3 (Local 0) (Binary Plus (Name (Local 0)) (Literal 1)) ∷ [])

abbrev text_end : Text
text_end = text_of (Return 4 (Literal 0) ∷ [])

abbrev text_loop : ℕ → ℕ → ℕ → Text
text_loop print char size = Next (While 1 (is_more size) (text_turn print char)) text_end

abbrev behind_print : ℕ → ℕ → ℕ → Text
behind_print print char size = Next (Let 3 (Local 0) (Binary Plus (Name (Local 0)) (Literal 1))) (text_loop print char size)

-- the test, where this stands for the length
abbrev tests : ℕ → ℕ → ℕ → ℕ → Expression → Text
tests print char size j e = Next (If 1 false (Binary Less (Value j) e) (turn_of 1 (is_more size) (text_turn print char)) End) text_end

-- ---- its runs

module _ (subs : List Subroutine) (g print char size : ℕ) (ss ws : List ℕ) (o : ℕ) where
  abbrev at_string : Text → ℕ → Call
  at_string t j = in_call g 0 ss ws t (o ∷ []) (j ∷ [])

  abbrev asks_size : ℕ → Text
  asks_size j = tests print char size j (Calling size (More (Value o) NoMore))

  abbrev asks_char : ℕ → Text
  asks_char j = Next (Do 2 (says print char 0 (Value o) (Value j))) (behind_print print char size)

  abbrev asks_print : ℕ → Text
  asks_print k = Next (Do 2 (Calling print (More (Value k) NoMore))) (behind_print print char size)

  to_size : (j : ℕ) → run subs 2 (at_string (text_loop print char size) j) ≡ Some (at_string (asks_size j) j)
  to_size j = refl

  to_char : (j n : ℕ) → word_lt j n ≡ 65535 → run subs 4 (at_string (tests print char size j (Value n)) j) ≡ Some (at_string (asks_char j) j)
  to_char j n h = rw h refl

  to_end : (j n : ℕ) → word_lt j n ≡ 0 → run subs 3 (at_string (tests print char size j (Value n)) j) ≡ Some (at_string (returns_value 4 0 End) j)
  to_end j n h = rw h refl

  to_next : (j j' : ℕ) → word_add j 1 ≡ j' → run subs 5 (at_string (Next (Do 2 (Value 0)) (behind_print print char size)) j) ≡ Some (at_string (text_loop print char size) j')
  to_next j j' h = rw h refl

-- ---- the string stays while the heap does

string_kept : (ws ws' : List ℕ) (o : ℕ) (text : List ℕ) (room : ℕ) → ((a : ℕ) → 2048 ≤ a → a < 16384 → word_at ws' a ≡ word_at ws a) → StringAt ws o text room → StringAt ws' o text room
string_kept ws ws' o text room same t =
    let object = t.object in
    let few = t.few in
    record {
      place = t.place;
      characters = same o object.0 (omega (arith, object)) ∙ t.characters;
      count = same (o + 1) (omega (arith, object)) (omega (arith, object)) ∙ t.count;
      most = same (o + 2) (omega (arith, object)) (omega (arith, object)) ∙ t.most;
      object = t.object;
      few = t.few;
      small = t.small;
      inside = t.inside;
      apart = t.apart;
      each = λ j h.
          let some : 0 < room = omega (arith, h, few) in
          let inside = t.inside some in
          same (t.place + j) (omega (arith, inside)) (omega (arith, inside, h, few)) ∙ t.each j h;
    }

module _ {core : Core} (p : IsShipped core) (h : HasStatics p) (base : List ℕ) (room : (h.place < length base) × (h.right < length base)) (font_in : (2048 ≤ slice_index base h.font + 3 * 32) × (slice_index base h.font + 3 * 128 ≤ 16384)) where
  abbrev subs : List Subroutine
  subs = the_subroutines core

  abbrev print : ℕ
  print = print_at core p

  abbrev char : ℕ
  char = number_of core p (codes "String") (codes "charAt")

  abbrev size : ℕ
  size = number_of core p (codes "String") (codes "length")

  abbrev g : ℕ
  g = number_of core p (codes "Output") (codes "printString")

  is_string : subroutine_at subs g ≡ routine Function (own_number core p 4) 1 1 (text_loop print char size)
  is_string = ap (subroutine_at subs) (sym (numbered core p (codes "Output") (codes "printString"))) ∙ leads core p 4 4 (refl, refl)

  abbrev cursor_at : ℕ → ℕ → List ℕ
  cursor_at row column = cursor p h base room font_in row column

  module _ (below : List Frame) (o places : ℕ) (text : List ℕ) where
    abbrev least : ℕ
    least = suc (length below)

    abbrev stands : Text → ℕ → List ℕ → ℕ → ℕ → State
    stands t j ws row column = over below (at_string subs g print char size (cursor_at row column) ws o t j)

    abbrev ends : List ℕ → ℕ → ℕ → State
    ends = stands (returns_value 4 0 End) (length text)

    -- the test up to its value
    size_way : (ws : List ℕ) (row column j : ℕ) → length ws ≡ 22528 → StringAt ws o text places
        → (n : ℕ) × (n ≤ 5) × Way subs least n (stands (text_loop print char size) j ws row column) (stands (tests print char size j (Value (length text))) j ws row column)
    size_way ws row column j long t =
        let ss = cursor_at row column in
        let asks = at_string subs g print char size ss ws o (asks_size subs g print char size ss ws o j) j in
        let waits = at_string subs g print char size ss ws o (tests print char size j Open) j in
        let has = at_string subs g print char size ss ws o (tests print char size j (Value (length text))) j in
        let s1 : State = over below asks in
        let c1 : CallsString p s1 (codes "length") o [] text places = record {
          words = long;
          string = t;
          call = record {
            top = asks.frame;
            caller = waits.frame;
            below = below;
            frames = refl;
            calls = ap (λ (k : ℕ). Acts false (with_top s1 (waits.frame ∷ below) (new_frame subs k (o ∷ [])))) (sym (numbered core p (codes "String") (codes "length")));
          };
        } in
        let (n, few, back) = length_law p s1 o text places c1 in (
          2 + n,
          omega (arith, few),
          way_then subs least 2 n (stands (text_loop print char size) j ws row column) s1 (over below has)
              (way_of_run subs below 2 _ asks (to_size subs g print char size ss ws o j))
              (way_of_call subs least n s1 (over below has) (omega arith) back),
        )

    one_shown : (ws : List ℕ) (row column j k : ℕ) → row < 23 → column < 64 → length ws ≡ 22528 → StringAt ws o text places → j < length text → slice_index text j ≡ k → IsCharacter k
        → Shows p h base room font_in 1850 least (stands (text_loop print char size) j ws row column) (stands (text_loop print char size) (j + 1)) (k ∷ []) ws row column
    one_shown ws row column j k hr hc long t low is good =
        let ss = cursor_at row column in
        let few_t = t.few in
        let small_t = t.small in
        let (n1, few1, way1) = size_way ws row column j long t in
        let has_size = at_string subs g print char size ss ws o (tests print char size j (Value (length text))) j in
        let asks = at_string subs g print char size ss ws o (asks_char subs g print char size ss ws o j) j in
        let waits = at_string subs g print char size ss ws o (Next (Do 2 (Calling print (More Open NoMore))) (behind_print print char size)) j in
        let says_it = at_string subs g print char size ss ws o (asks_print subs g print char size ss ws o k) j in
        let s1 : State = over below asks in
        let c1 : CallsString p s1 (codes "charAt") o (j ∷ []) text places = record {
          words = long;
          string = t;
          call = record {
            top = asks.frame;
            caller = waits.frame;
            below = below;
            frames = refl;
            calls = ap (λ (f : ℕ). Acts false (with_top s1 (waits.frame ∷ below) (new_frame subs f (o ∷ j ∷ [])))) (sym (numbered core p (codes "String") (codes "charAt")));
          };
        } in
        let (n2, few2, back) = char_law p s1 o text places j low c1 in
        let got = at_string subs g print char size ss ws o (asks_print subs g print char size ss ws o (slice_index text j)) j in
        let way2 : Way subs least n2 s1 (over below says_it) =
        subst (λ (v : ℕ). Way subs least n2 s1 (over below (at_string subs g print char size ss ws o (asks_print subs g print char size ss ws o v) j))) is (way_of_call subs least n2 s1 (over below got) (omega arith) back) in
        let printing = at_string subs g print char size ss ws o (Next (Do 2 Open) (behind_print print char size)) j in
        let shows = print_any p h base room font_in below says_it.frame printing.frame ws row column k hr hc good.0 good.1 good.2 long refl in
        let ws' = shows.ws' in
        let row' = shows.row' in
        let column' = shows.column' in
        let ss' = cursor_at row' column' in
        let has = at_string subs g print char size ss' ws' o (Next (Do 2 (Value 0)) (behind_print print char size)) j in
        let last = at_string subs g print char size ss' ws' o (text_loop print char size) (j + 1) in
        let next : word_add j 1 ≡ j + 1 = omega (arith, low, few_t, small_t) in
        let few3 = shows.few in
        let m3 = shows.n + 5 in
        let m2 = n2 + m3 in
        let m1 = 4 + m2 in
        record {
          n = n1 + m1;
          few = omega (arith, few1, few2, few3);
          ws' = ws';
          row' = row';
          column' = column';
          behind = shows.behind;
          shown = shows.shown;
          rows = shows.rows;
          columns = shows.columns;
          long = shows.long;
          way = way_then subs least n1 m1 (stands (text_loop print char size) j ws row column) (over below has_size) (over below last) way1
              (way_then subs least 4 m2 (over below has_size) s1 (over below last) (way_of_run subs below 4 has_size asks (to_char subs g print char size ss ws o j (length text) (less j (length text) low (omega (arith, few_t, small_t)))))
              (way_then subs least n2 m3 s1 (over below says_it) (over below last) way2
              (way_then subs least shows.n 5 (over below says_it) (over below has) (over below last) shows.way (way_of_run subs below 5 has last (to_next subs g print char size ss' ws' o j (j + 1) next)))));
        }

    -- the heap is as it was where texts are shown
    heap_kept : (font : ℕ) (ks ws : List ℕ) (row column : ℕ) (ws' : List ℕ) → ShowsText font ws row column ks ws' → (a : ℕ) → 2048 ≤ a → a < 16384 → word_at ws' a ≡ word_at ws a
    heap_kept font [] ws row column ws' s a low high = ap (λ (l : List ℕ). word_at l a) s
    heap_kept font (k ∷ ks) ws row column ws' s a low high = heap_kept font ks s.0 _ _ ws' s.2 a low high ∙ s.1.heap a low high

    all_shown : (ks : List ℕ) (ws : List ℕ) (row column j : ℕ) → row < 23 → column < 64 → length ws ≡ 22528 → StringAt ws o text places → j + length ks ≡ length text
        → ((i : ℕ) → i < length ks → slice_index text (j + i) ≡ slice_index ks i) → AllByRecursion IsCharacter ks
        → Shows p h base room font_in (8 + 1850 * length ks) least (stands (text_loop print char size) j ws row column) ends ks ws row column
    all_shown [] ws row column j hr hc long t e same good =
        let ss = cursor_at row column in
        let few_t = t.few in
        let small_t = t.small in
        let at : j ≡ length text = omega (arith, e) in
        let (n1, few1, way1) = size_way ws row column j long t in
        let has_size = at_string subs g print char size ss ws o (tests print char size j (Value (length text))) j in
        let last = at_string subs g print char size ss ws o (returns_value 4 0 End) j in
        let whole : Way subs least (n1 + 3) (stands (text_loop print char size) j ws row column) (over below last) =
        way_then subs least n1 3 (stands (text_loop print char size) j ws row column) (over below has_size) (over below last) way1
        (way_of_run subs below 3 has_size last (to_end subs g print char size ss ws o j (length text) (not_less j (length text) (omega (arith, at)) (omega (arith, at, few_t, small_t))))) in
        record {
          n = n1 + 3;
          few = omega (arith, few1);
          ws' = ws;
          row' = row;
          column' = column;
          behind = (refl, refl);
          shown = refl;
          rows = hr;
          columns = hc;
          long = long;
          way = subst (λ (k : ℕ). Way subs least (n1 + 3) (stands (text_loop print char size) j ws row column) (stands (returns_value 4 0 End) k ws row column)) at whole;
        }
    all_shown (k ∷ ks) ws row column j hr hc long t e same good =
        let is : slice_index text j ≡ k = ap (slice_index text) (let f : j ≡ j + 0 = omega arith in f) ∙ same 0 (omega arith) in
        let first = one_shown ws row column j k hr hc long t (omega (arith, e)) is good.0 in
        let count : 1850 + (8 + 1850 * length ks) ≡ 8 + 1850 * length (k ∷ ks) = omega arith in
        let begin = stands (text_loop print char size) j ws row column in
        let t' = string_kept ws first.ws' o text places (heap_kept _ (k ∷ []) ws row column first.ws' first.shown) t in
        let rest = all_shown ks first.ws' first.row' first.column' (j + 1) first.rows first.columns first.long t' (omega (arith, e)) (λ i l. ap (slice_index text) (let f : j + 1 + i ≡ j + suc i = omega arith in f) ∙ same (suc i) (omega (arith, l))) good.1 in
        subst (λ (m : ℕ). Shows p h base room font_in m least begin ends (k ∷ ks) ws row column) count
        (joined_at p h base room font_in 1850 (8 + 1850 * length ks) least begin (stands (text_loop print char size) (j + 1)) ends (k ∷ []) ks ws row column first rest)

module _ {core : Core} (p : IsShipped core) (s : State) where
  pub text_law : TextLaw p s
  text_law h row column o text places at has t good c =
      let subs = the_subroutines core in
      let g' = routine_number p (codes "Output") (codes "printString") in
      let base = s.statics in
      let inside = has.inside in
      let f = g p h base at.room inside in
      let below : List Frame = c.caller ∷ c.below in
      let d = suc (length below) in
      let shows = all_shown p h base at.room inside below o places text text s.words row column 0 at.rows at.columns has.words t (omega arith) (λ i l. ap (slice_index text) (let e : 0 + i ≡ i = omega arith in e)) good in
      let few = shows.few in
      let first = stands p h base at.room inside below o places text (text_loop (print p h base at.room inside) (char p h base at.room inside) (size p h base at.room inside)) 0 s.words row column in
      let last = ends p h base at.room inside below o places text shows.ws' shows.row' shows.column' in
      let ss' = with_cursor h base shows.row' shows.column' in
      let same : g' ≡ f = numbered core p (codes "Output") (codes "printString") in
      let start : opened subs s g' (o ∷ []) c ≡ first =
      ap (λ (k : ℕ). record { frames = new_frame subs k (o ∷ []) ∷ below; statics = base; words = s.words }) same
      ∙ ap (λ (z : Frame). record { frames = z ∷ below; statics = base; words = s.words }) (enters subs f _ (o ∷ []) (is_string p h base at.room inside))
      ∙ ap (λ (ss : List ℕ). record { frames = first.frames; statics = ss; words = s.words }) (sym (unmoved p h base row column at)) in
      let whole = subst (λ (z : State). Way subs d shows.n z last) (sym start) shows.way in (
        shows.ws',
        shows.row',
        shows.column',
        shows.behind,
        shows.shown,
        (suc (suc shows.n), omega (arith, few), returns_by subs s g' (o ∷ []) c shows.n (in_call f 0 ss' shows.ws' End (o ∷ []) (length text ∷ [])).frame ss' shows.ws' 4 0 End whole),
      )

pub law : ErrorLaws
law = record { halt = λ p s. halt_law p s; wait = λ p s. wait_law p s; wait_error = λ p s. wait_error_law p s; text = λ p s. text_law p s; int = λ p s. int_law p s; error = λ p s. error_law p s }
