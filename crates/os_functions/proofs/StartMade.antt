-- From the start to Main.main: the calls of Sys.init, one after the other.
use Rattle.std.proofs.Common.{◌≡◌, ℕ, ◌+◌, ◌*◌, ◌<◌, ◌≤◌, List, [], ◌∷◌, length, Some, codes, refl, sym, ap, ◌∙◌, subst, arith}
use Rattle.std.specs.Prelude.{slice_index, slice_set}
use Rattle.std.proofs.lemmas.List.{get_or-set_same, get_or-set_other, length-set, set-set}
use Rattle.word16.specs.Words.{word_lt, word_sub}
use Rattle.jack_core.specs.declared.program.Core.{Core}
use Rattle.jack_core.specs.Texts.{the_subroutines}
use Rattle.jack_meaning.specs.Text.{Static, Value, Open, Call as Calling, NoMore, More, Literal, Let, Do, Return, Text, End, Next, Function, Subroutine}
use Rattle.jack_meaning.specs.Meaning.{Frame, State, subroutine_at, new_frame}
use Rattle.os_laws.specs.Kernel.{init_meaning, alloc_meaning, alloc_body}
use Rattle.os_laws.specs.Names.{IsShipped}
use Rattle.os_laws.proofs.Basics.{frame_with, enters}
use Rattle.os_laws.proofs.Returns.{returning}
use Rattle.os_laws.proofs.Runs.{over, run, run_then}
use Rattle.os_laws.proofs.Searching as searching
use Rattle.os_laws.proofs.Searching.{Reaches, at_loop}
use Rattle.os_functions.specs.Calls.{routine_number, HasStatics}
use Rattle.os_functions.proofs.MemoryRoutines.{is_alloc}
use Rattle.os_functions.proofs.Named.{numbered, number_of, own_number, first_static, system_error}
use Rattle.os_functions.proofs.Pieces.{in_call, returns_value}
use Rattle.os_functions.proofs.Quiet.{Quiet, one, quiet_then, quiet_run, quiet_call}
use Rattle.os_functions.proofs.ScreenRoutines.{is_init}
use Rattle.os_functions.proofs.ScreenRuns.{colour_begun}
use Rattle.os_functions.proofs.StartRoutines.{is_memory, is_math, is_keyboard, is_four, is_output}
use Rattle.os_functions.proofs.StartRuns.{laid, four_run, asks_heap, has_heap, asks_four, passes, output_ends, does_nothing}
use Rattle.os_functions.proofs.StartTexts.{Row, words_of, all_words, font_table, four_body, literals, values, fours, output_end, output_body, nothing_body, does}
use Rattle.os_functions.proofs.FontMade.{laid_join, font_words}
use Rattle.os_functions.proofs.Statics.{same_free, same_font, same_place, same_right, same_black, apart}
use Rattle.os_functions.proofs.Texts.{routine, init_body}

-- ---- a call without values in a text, whose callee calls nothing

module _ (subs : List Subroutine) (below : List Frame) (g : ℕ) where
  -- the text over these frames
  abbrev pub at : Text → List ℕ → List ℕ → State
  at t ss ws = over below (in_call g 0 ss ws t [] [])

  pub does_leaf : (n g' m k : ℕ) (rest more : Text) (sub : Subroutine) (end : Frame) (ss ws ss' ws' : List ℕ) → subroutine_at subs g' ≡ sub
      → run subs m (record { frame = frame_with g' sub []; statics = ss; words = ws }) ≡ Some (record { frame = returning end k 0 more; statics = ss'; words = ws' })
      → Quiet subs ((1 + (m + 1)) + 1) (at (does n g' rest) ss ws) (at rest ss' ws')
  does_leaf n g' m k rest more sub end ss ws ss' ws' is ran =
      let asks : Frame = (in_call g 0 ss ws (does n g' rest) [] []).frame in
      let waits : Frame = (in_call g 0 ss ws (Next (Do n Open) rest) [] []).frame in
      quiet_then subs (1 + (m + 1)) 1 (at (does n g' rest) ss ws) (at (Next (Do n (Value 0)) rest) ss' ws') (at rest ss' ws')
      (quiet_call subs below asks waits ss ws ss' ws' g' [] sub m k 0 more end is refl ran)
      (quiet_run subs below 1 (in_call g 0 ss' ws' (Next (Do n (Value 0)) rest) [] []) (in_call g 0 ss' ws' rest [] []) (passes subs g ss' ws' n rest))

-- ---- the fours of characters

module _ (subs : List Subroutine) (below : List Frame) (g four class font : ℕ) (is : subroutine_at subs four ≡ routine Function class 12 0 (four_body font)) (ss : List ℕ) (there : font < length ss) where
  abbrev with_font : ℕ → List ℕ
  with_font f = slice_set ss font f

  one_four : (n i : ℕ) (r : Row) (rest : Text) (ws : List ℕ) → i + 12 ≤ 14336
      → Quiet subs 68 (at subs below g (Next (Do n (Calling four (literals r))) rest) (with_font (i + 2048)) ws) (at subs below g rest (with_font (i + 12 + 2048)) (laid ws i (words_of r)))
  one_four n i r rest ws room =
      let ss1 = with_font (i + 2048) in
      let ss2 = with_font (i + 12 + 2048) in
      let ws' = laid ws i (words_of r) in
      let asks : Text = Next (Do n (Calling four (values r))) rest in
      let has : Text = Next (Do n (Value 0)) rest in
      let waits : Text = Next (Do n Open) rest in
      let set : slice_set ss1 font (i + 12 + 2048) ≡ ss2 = set-set ss font (i + 2048) (i + 12 + 2048) in
      let ran = four_run subs four r ss1 ws font i (get_or-set_same ss font (i + 2048) 0 there) room ∙ ap (λ (l : List ℕ). Some (in_call four 0 l ws' (returns_value 14 0 End) (words_of r) [])) set in
      quiet_then subs 12 56 (at subs below g (Next (Do n (Calling four (literals r))) rest) ss1 ws) (at subs below g asks ss1 ws) (at subs below g rest ss2 ws')
      (quiet_run subs below 12 (in_call g 0 ss1 ws (Next (Do n (Calling four (literals r))) rest) [] []) (in_call g 0 ss1 ws asks [] []) (asks_four subs g ss1 ws n four r rest))
      (quiet_then subs 55 1 (at subs below g asks ss1 ws) (at subs below g has ss2 ws') (at subs below g rest ss2 ws')
      (quiet_call subs below (in_call g 0 ss1 ws asks [] []).frame (in_call g 0 ss1 ws waits [] []).frame ss1 ws ss2 ws' four (words_of r) (routine Function class 12 0 (four_body font)) 53 14 0 End (in_call four 0 ss2 ws' End (words_of r) []).frame is refl ran)
      (quiet_run subs below 1 (in_call g 0 ss2 ws' has [] []) (in_call g 0 ss2 ws' rest [] []) (passes subs g ss2 ws' n rest)))

  abbrev after_rows : ℕ → List Row → ℕ
  after_rows i [] = i
  after_rows i (r ∷ rs) = after_rows (i + 12) rs

  pub all_fours : (rs : List Row) (n i : ℕ) (rest : Text) (ws : List ℕ) → i + 12 * length rs ≤ 14336
      → Quiet subs (68 * length rs) (at subs below g (fours four n rs rest) (with_font (i + 2048)) ws) (at subs below g rest (with_font (after_rows i rs + 2048)) (laid ws i (all_words rs)))
  all_fours [] n i rest ws room = record { leads = λ keys. refl }
  all_fours (r ∷ rs) n i rest ws room =
      let count : 68 + 68 * length rs ≡ 68 * length (r ∷ rs) = omega arith in
      let last = at subs below g rest (with_font (after_rows (i + 12) rs + 2048)) (laid (laid ws i (words_of r)) (i + 12) (all_words rs)) in
      let joined : laid (laid ws i (words_of r)) (i + 12) (all_words rs) ≡ laid ws i (all_words (r ∷ rs)) = sym (laid_join (words_of r) (all_words rs) ws i) in
      let start = at subs below g (fours four n (r ∷ rs) rest) (with_font (i + 2048)) ws in
      let whole : Quiet subs (68 + 68 * length rs) start last =
      quiet_then subs 68 (68 * length rs) start (at subs below g (fours four (n + 1) rs rest) (with_font (i + 12 + 2048)) (laid ws i (words_of r))) last
      (one_four n i r (fours four (n + 1) rs rest) ws (omega (arith, room))) (all_fours rs (n + 1) (i + 12) rest (laid ws i (words_of r)) (omega (arith, room))) in
      subst (λ (m : ℕ). Quiet subs m start (at subs below g rest (with_font (after_rows i (r ∷ rs) + 2048)) (laid ws i (all_words (r ∷ rs))))) count
      (subst (λ (l : List ℕ). Quiet subs (68 + 68 * length rs) start (at subs below g rest (with_font (after_rows (i + 12) rs + 2048)) l)) joined whole)

-- ---- Memory.alloc on the first heap

module _ (subs : List Subroutine) (g error free : ℕ) (ss ws : List ℕ) (long : length ws ≡ 22528) (first : slice_index ss free ≡ 2048) (size : slice_index ws 0 ≡ 14336) where
  abbrev pub given : List ℕ
  given = slice_set (slice_set ws 0 14047) 14047 289

  pub alloc_run : run subs 55 (searching.at_text subs g error free ss ws (alloc_body error free) ss ws 288 0 0 0)
      ≡ Some (searching.at_text subs g error free ss ws (Next (Return 17 (Value 16096)) (searching.behind subs g error free ss ws)) ss given 288 16095 0 289)
  alloc_run =
      let begin = searching.at_text subs g error free ss ws (alloc_body error free) ss ws 288 0 0 0 in
      let loop = at_loop subs g error free ss ws 288 2048 0 289 in
      let last = searching.at_text subs g error free ss ws (Next (Return 17 (Value 16096)) (searching.behind subs g error free ss ws)) ss given 288 16095 0 289 in
      let low : word_lt (slice_index ws 0) 289 ≡ 0 = ap (λ w. word_lt w 289) size in
      let left : word_sub (slice_index ws 0) 289 ≡ 14047 = ap (λ w. word_sub w 289) size in
      let kept : slice_index (slice_set ws 0 14047) 0 ≡ 14047 = get_or-set_same ws 0 14047 0 (omega (arith, long)) in
      let here : Reaches 2048 0 2048 = record { at = refl; low = refl; high = refl } in
      let there : Reaches 16095 0 16095 = record { at = refl; low = refl; high = refl } in
      run_then subs 14 41 begin loop last
      (searching.begins subs g error free ss ws 288 refl refl ∙ ap (λ (c : ℕ). Some (at_loop subs g error free ss ws 288 c 0 289)) first)
      (searching.takes_end subs g error free ss ws 288 2048 0 289 14047 16095 16096 refl here low left refl kept refl there refl)

-- ---- the calls of Sys.init

module _ {core : Core} (p : IsShipped core) where
  abbrev pub number : List ℕ → List ℕ → ℕ
  number class name = number_of core p class name

  abbrev pub init_at : List ℕ → ℕ
  init_at class = number class (codes "init")

  abbrev pub alloc_at : ℕ
  alloc_at = number (codes "Memory") (codes "alloc")

  abbrev pub four_at : ℕ
  four_at = number (codes "Output") (codes "four")

  abbrev pub main_at : ℕ
  main_at = number (codes "Main") (codes "main")

  abbrev pub error_at : ℕ
  error_at = system_error p

  -- ---- the text of Sys.init, from each call on

  abbrev pub halt_at : ℕ
  halt_at = number (codes "Sys") (codes "halt")

  abbrev pub halts : Text
  halts = does 7 halt_at (Next (Return 8 (Literal 0)) End)

  abbrev pub main_text : Text
  main_text = does 6 main_at halts

  abbrev pub keyboard_text : Text
  keyboard_text = does 5 (init_at (codes "Keyboard")) main_text

  abbrev pub output_text : Text
  output_text = does 4 (init_at (codes "Output")) keyboard_text

  abbrev pub screen_text : Text
  screen_text = does 3 (init_at (codes "Screen")) output_text

  abbrev pub math_text : Text
  math_text = does 2 (init_at (codes "Math")) screen_text

  abbrev pub memory_text : Text
  memory_text = does 1 (init_at (codes "Memory")) math_text

  pub called_at : (class name : List ℕ) → subroutine_at (the_subroutines core) (number class name) ≡ subroutine_at (the_subroutines core) (routine_number p class name)
  called_at class name = ap (subroutine_at (the_subroutines core)) (sym (numbered core p class name))

  module _ (h : HasStatics p) where
    pub has_memory : subroutine_at (the_subroutines core) (init_at (codes "Memory")) ≡ init_meaning (own_number core p 3) h.free
    has_memory = called_at (codes "Memory") (codes "init") ∙ is_memory core p ∙ ap (λ (k : ℕ). init_meaning (own_number core p 3) k) (same_free h)

    pub has_alloc : subroutine_at (the_subroutines core) alloc_at ≡ alloc_meaning (own_number core p 3) error_at h.free
    has_alloc = called_at (codes "Memory") (codes "alloc") ∙ is_alloc core p ∙ ap (λ (k : ℕ). alloc_meaning (own_number core p 3) error_at k) (same_free h)

    pub has_screen : subroutine_at (the_subroutines core) (init_at (codes "Screen")) ≡ routine Function (own_number core p 5) 0 0 (init_body h.black)
    has_screen = called_at (codes "Screen") (codes "init") ∙ is_init core p ∙ ap (λ (k : ℕ). routine Function (own_number core p 5) 0 0 (init_body k)) (same_black h)

    pub has_four : subroutine_at (the_subroutines core) four_at ≡ routine Function (own_number core p 4) 12 0 (four_body h.font)
    has_four = called_at (codes "Output") (codes "four") ∙ is_four core p ∙ ap (λ (k : ℕ). routine Function (own_number core p 4) 12 0 (four_body k)) (same_font h)

    pub has_output : subroutine_at (the_subroutines core) (init_at (codes "Output")) ≡ routine Function (own_number core p 4) 0 0 (output_body alloc_at four_at h.font h.place h.right)
    has_output =
        called_at (codes "Output") (codes "init") ∙ is_output core p
        ∙ ap (λ (k : ℕ). routine Function (own_number core p 4) 0 0 (output_body alloc_at four_at k (first_static core p 4 + 1) (first_static core p 4 + 1 + 1))) (same_font h)
        ∙ ap (λ (k : ℕ). routine Function (own_number core p 4) 0 0 (output_body alloc_at four_at h.font k (first_static core p 4 + 1 + 1))) (same_place h)
        ∙ ap (λ (k : ℕ). routine Function (own_number core p 4) 0 0 (output_body alloc_at four_at h.font h.place k)) (same_right h)

module _ {core : Core} (p : IsShipped core) (h : HasStatics p) (ss0 ws0 : List ℕ) (long : length ws0 ≡ 22528) (room : h.black < length ss0) where
  abbrev subs : List Subroutine
  subs = the_subroutines core

  -- ---- statics and words on the way

  abbrev pub ss1 : List ℕ
  ss1 = slice_set ss0 h.free 2048

  abbrev pub ws1 : List ℕ
  ws1 = slice_set (slice_set ws0 0 14336) 1 0

  abbrev pub ss2 : List ℕ
  ss2 = slice_set ss1 h.black 65535

  abbrev pub ws2 : List ℕ
  ws2 = slice_set (slice_set ws1 0 14047) 14047 289

  abbrev pub ss3 : List ℕ
  ss3 = slice_set (slice_set (slice_set ss2 h.font 16000) h.place 16384) h.right 0

  abbrev pub ws3 : List ℕ
  ws3 = laid ws2 14048 font_words

  room_free : h.free < length ss0
  room_free = let a = apart h in omega (arith, a, room)

  pub free_set : slice_index ss1 h.free ≡ 2048
  free_set = get_or-set_same ss0 h.free 2048 0 room_free

  pub free_kept : slice_index ss2 h.free ≡ 2048
  free_kept = let a = apart h in get_or-set_other ss1 h.black h.free 65535 0 (λ e. omega (arith, e, a)) ∙ free_set

  room_font : h.font < length ss2
  room_font = let a = apart h in omega (arith, a, room, length-set ss1 h.black 65535, length-set ss0 h.free 2048)

  pub size_set : slice_index ws1 0 ≡ 14336
  size_set = get_or-set_other (slice_set ws0 0 14336) 1 0 0 0 (λ e. omega (arith, e)) ∙ get_or-set_same ws0 0 14336 0 (omega (arith, long))

  pub long1 : length ws1 ≡ 22528
  long1 = length-set (slice_set ws0 0 14336) 1 0 ∙ length-set ws0 0 14336 ∙ long

  module _ (below : List Frame) (g : ℕ) where
    -- Memory.init
    memory_done : (n : ℕ) (rest : Text) → Quiet subs 16 (at subs below g (does n (init_at p (codes "Memory")) rest) ss0 ws0) (at subs below g rest ss1 ws1)
    memory_done n rest =
        let f = init_at p (codes "Memory") in
        does_leaf subs below g n f 13 5 rest End (init_meaning (own_number core p 3) h.free) (searching.in_call subs f 0 h.free ss0 ws0 End ss1 ws1 [] (2048 ∷ [])).frame ss0 ws0 ss1 ws1 (has_memory p h)
        (searching.lays subs f 0 h.free ss0 ws0 free_set)

    -- Math.init, Keyboard.init
    nothing_done : (n f class : ℕ) (rest : Text) (ss ws : List ℕ) → subroutine_at subs f ≡ routine Function class 0 0 nothing_body → Quiet subs 4 (at subs below g (does n f rest) ss ws) (at subs below g rest ss ws)
    nothing_done n f class rest ss ws is =
        does_leaf subs below g n f 1 1 rest End (routine Function class 0 0 nothing_body) (in_call f 0 ss ws End [] []).frame ss ws ss ws is (does_nothing subs f ss ws)

    -- Screen.init
    screen_done : (n : ℕ) (rest : Text) (ws : List ℕ) → Quiet subs 6 (at subs below g (does n (init_at p (codes "Screen")) rest) ss1 ws) (at subs below g rest ss2 ws)
    screen_done n rest ws =
        let f = init_at p (codes "Screen") in
        does_leaf subs below g n f 3 2 rest End (routine Function (own_number core p 5) 0 0 (init_body h.black)) (in_call f 0 ss2 ws End [] []).frame ss1 ws ss2 ws (has_screen p h) (colour_begun subs f ss1 ws h.black)

    -- ---- Output.init

    abbrev f : ℕ
    f = init_at p (codes "Output")

    module _ (n : ℕ) (rest : Text) where
      abbrev waits : List Frame
      waits = (in_call g 0 ss2 ws1 (Next (Do n Open) rest) [] []).frame ∷ below

      abbrev out : Text → List ℕ → List ℕ → State
      out t ss ws = at subs waits f t ss ws

      abbrev table_text : Text
      table_text = fours (four_at p) 2 font_table (output_end h.font h.place h.right)

      abbrev asks : Text
      asks = Next (Let 1 (Static h.font) (Calling (alloc_at p) (More (Value 288) NoMore))) table_text

      abbrev has : Text
      has = Next (Let 1 (Static h.font) (Value 16096)) table_text

      abbrev with_place : ℕ → List ℕ
      with_place v = slice_set ss2 h.font v

      entered : Quiet subs 1 (at subs below g (does n f rest) ss2 ws1) (out (output_body (alloc_at p) (four_at p) h.font h.place h.right) ss2 ws1)
      entered =
          subst (λ (z : Frame). Quiet subs 1 (at subs below g (does n f rest) ss2 ws1) (record { frames = z ∷ waits; statics = ss2; words = ws1 })) (enters subs f _ [] (has_output p h))
          (one subs (at subs below g (does n f rest) ss2 ws1) (record { frames = new_frame subs f [] ∷ waits; statics = ss2; words = ws1 }) refl)

      asked : Quiet subs 1 (out (output_body (alloc_at p) (four_at p) h.font h.place h.right) ss2 ws1) (out asks ss2 ws1)
      asked = quiet_run subs waits 1 _ _ (asks_heap subs f ss2 ws1 h.font (alloc_at p) table_text)

      given_block : Quiet subs 57 (out asks ss2 ws1) (out has ss2 ws2)
      given_block =
          quiet_call subs waits (in_call f 0 ss2 ws1 asks [] []).frame (in_call f 0 ss2 ws1 (Next (Let 1 (Static h.font) Open) table_text) [] []).frame ss2 ws1 ss2 ws2 (alloc_at p) (288 ∷ []) (alloc_meaning (own_number core p 3) (error_at p) h.free) 55 17 16096
          (searching.behind subs (alloc_at p) (error_at p) h.free ss2 ws1) (searching.at_text subs (alloc_at p) (error_at p) h.free ss2 ws1 End ss2 ws2 288 16095 0 289).frame (has_alloc p h) refl (alloc_run subs (alloc_at p) (error_at p) h.free ss2 ws1 long1 free_kept size_set)

      placed : Quiet subs 1 (out has ss2 ws2) (out table_text (with_place 16096) ws2)
      placed = quiet_run subs waits 1 _ _ (has_heap subs f ss2 ws2 h.font 16096 table_text)

      drawn : Quiet subs 1632 (out table_text (with_place 16096) ws2) (out (output_end h.font h.place h.right) (with_place 16384) ws3)
      drawn = all_fours subs waits f (four_at p) (own_number core p 4) h.font (has_four p h) ss2 room_font font_table 2 14048 (output_end h.font h.place h.right) ws2 (omega arith)

      shorter : slice_set (slice_set (slice_set (with_place 16384) h.font 16000) h.place 16384) h.right 0 ≡ ss3
      shorter = ap (λ (l : List ℕ). slice_set (slice_set l h.place 16384) h.right 0) (set-set ss2 h.font 16384 16000)

      ended : Quiet subs 9 (out (output_end h.font h.place h.right) (with_place 16384) ws3) (out (returns_value 29 0 End) ss3 ws3)
      ended =
          subst (λ (l : List ℕ). Quiet subs 9 (out (output_end h.font h.place h.right) (with_place 16384) ws3) (out (returns_value 29 0 End) l ws3)) shorter
          (quiet_run subs waits 9 _ _ (output_ends subs f (with_place 16384) ws3 h.font h.place h.right 16384 16000 (get_or-set_same ss2 h.font 16384 0 room_font) refl))

      left : Quiet subs 2 (out (returns_value 29 0 End) ss3 ws3) (at subs below g rest ss3 ws3)
      left =
          quiet_then subs 1 1 (out (returns_value 29 0 End) ss3 ws3) (at subs below g (Next (Do n (Value 0)) rest) ss3 ws3) (at subs below g rest ss3 ws3)
          (one subs (out (returns_value 29 0 End) ss3 ws3) (at subs below g (Next (Do n (Value 0)) rest) ss3 ws3) refl)
          (quiet_run subs below 1 (in_call g 0 ss3 ws3 (Next (Do n (Value 0)) rest) [] []) (in_call g 0 ss3 ws3 rest [] []) (passes subs g ss3 ws3 n rest))

      output_done : Quiet subs 1703 (at subs below g (does n f rest) ss2 ws1) (at subs below g rest ss3 ws3)
      output_done =
          let s0 = at subs below g (does n f rest) ss2 ws1 in
          let s1 = out (output_body (alloc_at p) (four_at p) h.font h.place h.right) ss2 ws1 in
          let s2 = out asks ss2 ws1 in
          let s3 = out has ss2 ws2 in
          let s4 = out table_text (with_place 16096) ws2 in
          let s5 = out (output_end h.font h.place h.right) (with_place 16384) ws3 in
          let s6 = out (returns_value 29 0 End) ss3 ws3 in
          let s7 = at subs below g rest ss3 ws3 in
          quiet_then subs 1 1702 s0 s1 s7 entered
          (quiet_then subs 1 1701 s1 s2 s7 asked
          (quiet_then subs 57 1644 s2 s3 s7 given_block
          (quiet_then subs 1 1643 s3 s4 s7 placed (quiet_then subs 1632 11 s4 s5 s7 drawn (quiet_then subs 9 2 s5 s6 s7 ended left)))))

    -- ---- the whole of Sys.init up to Main.main

    abbrev pub main_waits : Frame
    main_waits = (in_call g 0 ss3 ws3 (Next (Do 6 Open) (halts p)) [] []).frame

    pub started : Quiet subs 1734 (at subs below g (memory_text p) ss0 ws0) (record { frames = new_frame subs (main_at p) [] ∷ main_waits ∷ below; statics = ss3; words = ws3 })
    started =
        let last : State = record { frames = new_frame subs (main_at p) [] ∷ main_waits ∷ below; statics = ss3; words = ws3 } in
        let s0 = at subs below g (memory_text p) ss0 ws0 in
        let s1 = at subs below g (math_text p) ss1 ws1 in
        let s2 = at subs below g (screen_text p) ss1 ws1 in
        let s3 = at subs below g (output_text p) ss2 ws1 in
        let s4 = at subs below g (keyboard_text p) ss3 ws3 in
        let s5 = at subs below g (main_text p) ss3 ws3 in
        quiet_then subs 16 1718 s0 s1 last (memory_done 1 (math_text p))
        (quiet_then subs 4 1714 s1 s2 last (nothing_done 2 (init_at p (codes "Math")) (own_number core p 2) (screen_text p) ss1 ws1 (called_at p (codes "Math") (codes "init") ∙ is_math core p))
        (quiet_then subs 6 1708 s2 s3 last (screen_done 3 (output_text p) ws1)
        (quiet_then subs 1703 5 s3 s4 last (output_done 4 (keyboard_text p))
        (quiet_then subs 4 1 s4 s5 last (nothing_done 5 (init_at p (codes "Keyboard")) (own_number core p 1) (main_text p) ss3 ws3 (called_at p (codes "Keyboard") (codes "init") ∙ is_keyboard core p)) (one subs s5 last refl)))))
