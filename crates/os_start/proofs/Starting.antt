-- From the start to Main.main, step by step: in each state a plain routine runs, and the stack has room.
use Rattle.std.proofs.Common.{◌≡◌, ℕ, ◌+◌, ◌*◌, ◌<◌, ◌≤◌, max, true, List, [], ◌∷◌, length, Some, codes, refl, sym, ap, ◌∙◌, subst, arith}
use Rattle.std.specs.Prelude.{slice_set}
use Rattle.std.proofs.lemmas.List.{get_or-set_same, length-set, set-set}
use Rattle.jack_core.specs.declared.program.Core.{Core}
use Rattle.jack_core.specs.Texts.{the_subroutines}
use Rattle.jack_meaning.specs.Text.{Static, Value, Open, Call as Calling, NoMore, More, Let, Do, Text, End, Next, Function, Subroutine}
use Rattle.jack_meaning.specs.Meaning.{Frame, State, subroutine_at, new_frame}
use Rattle.jack_meaning.specs.StackWords.{stack_words, standing_first}
use Rattle.os_laws.specs.Kernel.{init_meaning, alloc_meaning}
use Rattle.os_laws.specs.Names.{IsShipped}
use Rattle.os_laws.proofs.Basics.{frame_with, enters}
use Rattle.os_laws.proofs.Returns.{returning}
use Rattle.os_laws.proofs.Runs.{run}
use Rattle.os_laws.proofs.Searching as searching
use Rattle.os_functions.specs.Calls.{HasStatics}
use Rattle.os_functions.proofs.FontMade.{laid_join}
use Rattle.os_functions.proofs.Named.{own_number}
use Rattle.os_functions.proofs.Pieces.{in_call, returns_value}
use Rattle.os_functions.proofs.Quiet.{one, quiet_run}
use Rattle.os_functions.proofs.ScreenRuns.{colour_begun}
use Rattle.os_functions.proofs.StartMade.{at, alloc_run, init_at, alloc_at, four_at, main_at, error_at, halts, main_text, keyboard_text, output_text, screen_text, math_text, memory_text, called_at, has_memory, has_alloc, has_screen, has_four, has_output, ss1, ws1, ss2, ws2, ss3, ws3, free_set, free_kept, size_set, long1}
use Rattle.os_functions.proofs.StartRoutines.{is_math, is_keyboard}
use Rattle.os_functions.proofs.StartRuns.{laid, four_run, asks_heap, has_heap, asks_four, passes, output_ends, does_nothing}
use Rattle.os_functions.proofs.StartTexts.{Row, words_of, all_words, font_table, four_body, literals, values, fours, output_end, output_body, nothing_body, does}
use Rattle.os_functions.proofs.Statics.{apart}
use Rattle.os_functions.proofs.Texts.{routine, init_body}
use Rattle.os_start.proofs.Narrow.{wide_text}
use Rattle.os_start.proofs.Plain.{is_plain}
use Rattle.os_start.proofs.Calm.{Calm, Path, path_one, path_then, path_run, path_call, calm_here, here}

-- ---- a call without values in a text, whose callee calls nothing

module _ (subs : List Subroutine) (b : Frame) (bs : List Frame) (deep : stack_words (b ∷ bs) ≤ 100) (g : ℕ) (plain : is_plain (subroutine_at subs g) ≡ true) where
  abbrev at_text : Text → List ℕ → List ℕ → State
  at_text t ss ws = at subs (b ∷ bs) g t ss ws

  -- one step of the text
  calm_at : (t : Text) (ss ws : List ℕ) → standing_first t ≤ 20 → Calm subs (at_text t ss ws)
  calm_at t ss ws few = calm_here subs b bs (in_call g 0 ss ws t [] []).frame ss ws plain (omega (arith, deep, few))

  passed : (n : ℕ) (rest : Text) (ss ws : List ℕ) → Path subs 1 (at_text (Next (Do n (Value 0)) rest) ss ws) (at_text rest ss ws)
  passed n rest ss ws =
      path_one subs (at_text (Next (Do n (Value 0)) rest) ss ws) (at_text rest ss ws) (calm_at (Next (Do n (Value 0)) rest) ss ws (omega arith))
      (quiet_run subs (b ∷ bs) 1 (in_call g 0 ss ws (Next (Do n (Value 0)) rest) [] []) (in_call g 0 ss ws rest [] []) (passes subs g ss ws n rest))

  does_leaf : (n g' m k : ℕ) (rest more : Text) (sub : Subroutine) (end : Frame) (ss ws ss' ws' : List ℕ) → subroutine_at subs g' ≡ sub → is_plain sub ≡ true
      → length (frame_with g' sub []).locals + wide_text sub.body ≤ 100
      → run subs m (record { frame = frame_with g' sub []; statics = ss; words = ws }) ≡ Some (record { frame = returning end k 0 more; statics = ss'; words = ws' })
      → Path subs ((1 + (m + 1)) + 1) (at_text (does n g' rest) ss ws) (at_text rest ss' ws')
  does_leaf n g' m k rest more sub end ss ws ss' ws' is callee small ran =
      let asks : Frame = (in_call g 0 ss ws (does n g' rest) [] []).frame in
      let waits : Frame = (in_call g 0 ss ws (Next (Do n Open) rest) [] []).frame in
      path_then subs (1 + (m + 1)) 1 (at_text (does n g' rest) ss ws) (at_text (Next (Do n (Value 0)) rest) ss' ws') (at_text rest ss' ws')
      (path_call subs b bs asks waits ss ws ss' ws' g' [] sub m k 0 more end is callee (calm_at (does n g' rest) ss ws (omega arith)) (omega (arith, deep, small)) refl ran)
      (passed n rest ss' ws')

-- ---- the fours of characters

wide_fours : (four n : ℕ) (rs : List Row) (rest : Text) → wide_text (fours four n rs rest) ≤ max 13 (wide_text rest)
wide_fours four n [] rest = omega arith
wide_fours four n (r ∷ rs) rest = omega (arith, wide_fours four (n + 1) rs rest)

module _ (subs : List Subroutine) (b : Frame) (bs : List Frame) (deep : stack_words (b ∷ bs) ≤ 100) (g : ℕ) (plain : is_plain (subroutine_at subs g) ≡ true)
    (four class font : ℕ) (is : subroutine_at subs four ≡ routine Function class 12 0 (four_body font)) (ss : List ℕ) (there : font < length ss) where
  abbrev with_font : ℕ → List ℕ
  with_font f = slice_set ss font f

  abbrev at_row : Text → List ℕ → List ℕ → State
  at_row t ss' ws = at subs (b ∷ bs) g t ss' ws

  one_four : (n i : ℕ) (r : Row) (rest : Text) (ws : List ℕ) → wide_text rest ≤ 20 → i + 12 ≤ 14336
      → Path subs 68 (at_row (Next (Do n (Calling four (literals r))) rest) (with_font (i + 2048)) ws) (at_row rest (with_font (i + 12 + 2048)) (laid ws i (words_of r)))
  one_four n i r rest ws few room =
      let ss1 = with_font (i + 2048) in
      let ss2 = with_font (i + 12 + 2048) in
      let ws' = laid ws i (words_of r) in
      let first : Text = Next (Do n (Calling four (literals r))) rest in
      let asks : Text = Next (Do n (Calling four (values r))) rest in
      let has : Text = Next (Do n (Value 0)) rest in
      let waits : Text = Next (Do n Open) rest in
      let set : slice_set ss1 font (i + 12 + 2048) ≡ ss2 = set-set ss font (i + 2048) (i + 12 + 2048) in
      let ran = four_run subs four r ss1 ws font i (get_or-set_same ss font (i + 2048) 0 there) room ∙ ap (λ (l : List ℕ). Some (in_call four 0 l ws' (returns_value 14 0 End) (words_of r) [])) set in
      path_then subs 12 56 (at_row first ss1 ws) (at_row asks ss1 ws) (at_row rest ss2 ws')
      (path_run subs b bs 12 (in_call g 0 ss1 ws first [] []) (in_call g 0 ss1 ws asks [] []) plain (omega (arith, deep, few)) (asks_four subs g ss1 ws n four r rest))
      (path_then subs 55 1 (at_row asks ss1 ws) (at_row has ss2 ws') (at_row rest ss2 ws')
      (path_call subs b bs (in_call g 0 ss1 ws asks [] []).frame (in_call g 0 ss1 ws waits [] []).frame ss1 ws ss2 ws' four (words_of r) (routine Function class 12 0 (four_body font)) 53 14 0 End (in_call four 0 ss2 ws' End (words_of r) []).frame is refl
      (calm_at subs b bs deep g plain asks ss1 ws (omega arith)) (omega (arith, deep)) refl ran)
      (passed subs b bs deep g plain n rest ss2 ws'))

  abbrev after_rows : ℕ → List Row → ℕ
  after_rows i [] = i
  after_rows i (r ∷ rs) = after_rows (i + 12) rs

  pub all_fours : (rs : List Row) (n i : ℕ) (rest : Text) (ws : List ℕ) → wide_text rest ≤ 20 → i + 12 * length rs ≤ 14336
      → Path subs (68 * length rs) (at_row (fours four n rs rest) (with_font (i + 2048)) ws) (at_row rest (with_font (after_rows i rs + 2048)) (laid ws i (all_words rs)))
  all_fours [] n i rest ws few room = here (at_row rest (with_font (i + 2048)) ws)
  all_fours (r ∷ rs) n i rest ws few room =
      let count : 68 + 68 * length rs ≡ 68 * length (r ∷ rs) = omega arith in
      let last = at_row rest (with_font (after_rows (i + 12) rs + 2048)) (laid (laid ws i (words_of r)) (i + 12) (all_words rs)) in
      let joined : laid (laid ws i (words_of r)) (i + 12) (all_words rs) ≡ laid ws i (all_words (r ∷ rs)) = sym (laid_join (words_of r) (all_words rs) ws i) in
      let start = at_row (fours four n (r ∷ rs) rest) (with_font (i + 2048)) ws in
      let whole : Path subs (68 + 68 * length rs) start last =
      path_then subs 68 (68 * length rs) start (at_row (fours four (n + 1) rs rest) (with_font (i + 12 + 2048)) (laid ws i (words_of r))) last
      (one_four n i r (fours four (n + 1) rs rest) ws (omega (arith, few, wide_fours four (n + 1) rs rest)) (omega (arith, room))) (all_fours rs (n + 1) (i + 12) rest (laid ws i (words_of r)) few (omega (arith, room))) in
      subst (λ (m : ℕ). Path subs m start (at_row rest (with_font (after_rows i (r ∷ rs) + 2048)) (laid ws i (all_words (r ∷ rs))))) count
      (subst (λ (l : List ℕ). Path subs (68 + 68 * length rs) start (at_row rest (with_font (after_rows i (r ∷ rs) + 2048)) l)) joined whole)

-- ---- the calls of Sys.init

module _ {core : Core} (p : IsShipped core) (h : HasStatics p) (ss0 ws0 : List ℕ) (long : length ws0 ≡ 22528) (room : h.black < length ss0) where
  abbrev subs : List Subroutine
  subs = the_subroutines core

  -- ---- statics and words on the way

  abbrev sa : List ℕ
  sa = ss1 p h ss0 ws0 long room

  abbrev wa : List ℕ
  wa = ws1 p h ss0 ws0 long room

  abbrev sb : List ℕ
  sb = ss2 p h ss0 ws0 long room

  abbrev wb : List ℕ
  wb = ws2 p h ss0 ws0 long room

  abbrev pub sc : List ℕ
  sc = ss3 p h ss0 ws0 long room

  abbrev pub wc : List ℕ
  wc = ws3 p h ss0 ws0 long room

  room_font : h.font < length sb
  room_font = let a = apart h in omega (arith, a, room, length-set sa h.black 65535, length-set ss0 h.free 2048)

  module _ (b : Frame) (bs : List Frame) (deep : stack_words (b ∷ bs) ≤ 60) (g : ℕ) (plain : is_plain (subroutine_at subs g) ≡ true) where
    abbrev here_at : Text → List ℕ → List ℕ → State
    here_at t ss ws = at subs (b ∷ bs) g t ss ws

    deeper : stack_words (b ∷ bs) ≤ 100
    deeper = omega (arith, deep)

    -- Memory.init
    memory_done : (n : ℕ) (rest : Text) → Path subs 16 (here_at (does n (init_at p (codes "Memory")) rest) ss0 ws0) (here_at rest sa wa)
    memory_done n rest =
        let f = init_at p (codes "Memory") in
        does_leaf subs b bs deeper g plain n f 13 5 rest End (init_meaning (own_number core p 3) h.free) (searching.in_call subs f 0 h.free ss0 ws0 End sa wa [] (2048 ∷ [])).frame ss0 ws0 sa wa (has_memory p h) refl (omega arith)
        (searching.lays subs f 0 h.free ss0 ws0 (free_set p h ss0 ws0 long room))

    -- Math.init, Keyboard.init
    nothing_done : (n f class : ℕ) (rest : Text) (ss ws : List ℕ) → subroutine_at subs f ≡ routine Function class 0 0 nothing_body → Path subs 4 (here_at (does n f rest) ss ws) (here_at rest ss ws)
    nothing_done n f class rest ss ws is =
        does_leaf subs b bs deeper g plain n f 1 1 rest End (routine Function class 0 0 nothing_body) (in_call f 0 ss ws End [] []).frame ss ws ss ws is refl (omega arith) (does_nothing subs f ss ws)

    -- Screen.init
    screen_done : (n : ℕ) (rest : Text) (ws : List ℕ) → Path subs 6 (here_at (does n (init_at p (codes "Screen")) rest) sa ws) (here_at rest sb ws)
    screen_done n rest ws =
        let f = init_at p (codes "Screen") in
        does_leaf subs b bs deeper g plain n f 3 2 rest End (routine Function (own_number core p 5) 0 0 (init_body h.black)) (in_call f 0 sb ws End [] []).frame sa ws sb ws (has_screen p h) refl (omega arith) (colour_begun subs f sa ws h.black)

    -- ---- Output.init

    abbrev f : ℕ
    f = init_at p (codes "Output")

    plain_output : is_plain (subroutine_at subs f) ≡ true
    plain_output = ap is_plain (has_output p h)

    module _ (n : ℕ) (rest : Text) where
      abbrev waits : Frame
      waits = (in_call g 0 sb wa (Next (Do n Open) rest) [] []).frame

      abbrev out : Text → List ℕ → List ℕ → State
      out t ss ws = at subs (waits ∷ b ∷ bs) f t ss ws

      below_output : stack_words (waits ∷ b ∷ bs) ≤ 100
      below_output = omega (arith, deep)

      abbrev table_text : Text
      table_text = fours (four_at p) 2 font_table (output_end h.font h.place h.right)

      abbrev begin_text : Text
      begin_text = output_body (alloc_at p) (four_at p) h.font h.place h.right

      abbrev asks : Text
      asks = Next (Let 1 (Static h.font) (Calling (alloc_at p) (More (Value 288) NoMore))) table_text

      abbrev has : Text
      has = Next (Let 1 (Static h.font) (Value 16096)) table_text

      abbrev with_place : ℕ → List ℕ
      with_place v = slice_set sb h.font v

      -- one step of Output.init's text
      out_calm : (t : Text) (ss ws : List ℕ) → standing_first t ≤ 20 → Calm subs (out t ss ws)
      out_calm t ss ws few = calm_at subs waits (b ∷ bs) below_output f plain_output t ss ws few

      out_one : (t t' : Text) (ss ws ss' ws' : List ℕ) → standing_first t ≤ 20 → run subs 1 (in_call f 0 ss ws t [] []) ≡ Some (in_call f 0 ss' ws' t' [] []) → Path subs 1 (out t ss ws) (out t' ss' ws')
      out_one t t' ss ws ss' ws' few ran = path_one subs (out t ss ws) (out t' ss' ws') (out_calm t ss ws few) (quiet_run subs (waits ∷ b ∷ bs) 1 (in_call f 0 ss ws t [] []) (in_call f 0 ss' ws' t' [] []) ran)

      entered : Path subs 1 (here_at (does n f rest) sb wa) (out begin_text sb wa)
      entered =
          subst (λ (z : Frame). Path subs 1 (here_at (does n f rest) sb wa) (record { frames = z ∷ waits ∷ b ∷ bs; statics = sb; words = wa })) (enters subs f _ [] (has_output p h))
          (path_one subs (here_at (does n f rest) sb wa) (record { frames = new_frame subs f [] ∷ waits ∷ b ∷ bs; statics = sb; words = wa }) (calm_at subs b bs deeper g plain (does n f rest) sb wa (omega arith))
          (one subs (here_at (does n f rest) sb wa) (record { frames = new_frame subs f [] ∷ waits ∷ b ∷ bs; statics = sb; words = wa }) refl))

      asked : Path subs 1 (out begin_text sb wa) (out asks sb wa)
      asked = out_one begin_text asks sb wa sb wa (omega arith) (asks_heap subs f sb wa h.font (alloc_at p) table_text)

      given_block : Path subs 57 (out asks sb wa) (out has sb wb)
      given_block =
          path_call subs waits (b ∷ bs) (in_call f 0 sb wa asks [] []).frame (in_call f 0 sb wa (Next (Let 1 (Static h.font) Open) table_text) [] []).frame sb wa sb wb (alloc_at p) (288 ∷ []) (alloc_meaning (own_number core p 3) (error_at p) h.free) 55 17 16096
          (searching.behind subs (alloc_at p) (error_at p) h.free sb wa) (searching.at_text subs (alloc_at p) (error_at p) h.free sb wa End sb wb 288 16095 0 289).frame (has_alloc p h) refl
          (out_calm asks sb wa (omega arith)) (omega (arith, below_output)) refl
          (alloc_run subs (alloc_at p) (error_at p) h.free sb wa (long1 p h ss0 ws0 long room) (free_kept p h ss0 ws0 long room) (size_set p h ss0 ws0 long room))

      placed : Path subs 1 (out has sb wb) (out table_text (with_place 16096) wb)
      placed = out_one has table_text sb wb (with_place 16096) wb (omega arith) (has_heap subs f sb wb h.font 16096 table_text)

      drawn : Path subs 1632 (out table_text (with_place 16096) wb) (out (output_end h.font h.place h.right) (with_place 16384) wc)
      drawn = all_fours subs waits (b ∷ bs) below_output f plain_output (four_at p) (own_number core p 4) h.font (has_four p h) sb room_font font_table 2 14048 (output_end h.font h.place h.right) wb (omega arith) (omega arith)

      shorter : slice_set (slice_set (slice_set (with_place 16384) h.font 16000) h.place 16384) h.right 0 ≡ sc
      shorter = ap (λ (l : List ℕ). slice_set (slice_set l h.place 16384) h.right 0) (set-set sb h.font 16384 16000)

      ended : Path subs 9 (out (output_end h.font h.place h.right) (with_place 16384) wc) (out (returns_value 29 0 End) sc wc)
      ended =
          subst (λ (l : List ℕ). Path subs 9 (out (output_end h.font h.place h.right) (with_place 16384) wc) (out (returns_value 29 0 End) l wc)) shorter
          (path_run subs waits (b ∷ bs) 9 (in_call f 0 (with_place 16384) wc (output_end h.font h.place h.right) [] [])
          (in_call f 0 (slice_set (slice_set (slice_set (with_place 16384) h.font 16000) h.place 16384) h.right 0) wc (returns_value 29 0 End) [] []) plain_output (omega (arith, below_output)) (output_ends subs f (with_place 16384) wc h.font h.place h.right 16384 16000 (get_or-set_same sb h.font 16384 0 room_font) refl))

      left : Path subs 2 (out (returns_value 29 0 End) sc wc) (here_at rest sc wc)
      left =
          path_then subs 1 1 (out (returns_value 29 0 End) sc wc) (here_at (Next (Do n (Value 0)) rest) sc wc) (here_at rest sc wc)
          (path_one subs (out (returns_value 29 0 End) sc wc) (here_at (Next (Do n (Value 0)) rest) sc wc) (out_calm (returns_value 29 0 End) sc wc (omega arith)) (one subs (out (returns_value 29 0 End) sc wc) (here_at (Next (Do n (Value 0)) rest) sc wc) refl))
          (passed subs b bs deeper g plain n rest sc wc)

      output_done : Path subs 1703 (here_at (does n f rest) sb wa) (here_at rest sc wc)
      output_done =
          let s0 = here_at (does n f rest) sb wa in
          let s1 = out begin_text sb wa in
          let s2 = out asks sb wa in
          let s3 = out has sb wb in
          let s4 = out table_text (with_place 16096) wb in
          let s5 = out (output_end h.font h.place h.right) (with_place 16384) wc in
          let s6 = out (returns_value 29 0 End) sc wc in
          let s7 = here_at rest sc wc in
          path_then subs 1 1702 s0 s1 s7 entered
          (path_then subs 1 1701 s1 s2 s7 asked
          (path_then subs 57 1644 s2 s3 s7 given_block
          (path_then subs 1 1643 s3 s4 s7 placed (path_then subs 1632 11 s4 s5 s7 drawn (path_then subs 9 2 s5 s6 s7 ended left)))))

    -- ---- the whole of Sys.init up to Main.main

    abbrev pub main_waits : Frame
    main_waits = (in_call g 0 sc wc (Next (Do 6 Open) (halts p)) [] []).frame

    pub started : Path subs 1734 (here_at (memory_text p) ss0 ws0) (record { frames = new_frame subs (main_at p) [] ∷ main_waits ∷ b ∷ bs; statics = sc; words = wc })
    started =
        let last : State = record { frames = new_frame subs (main_at p) [] ∷ main_waits ∷ b ∷ bs; statics = sc; words = wc } in
        let s0 = here_at (memory_text p) ss0 ws0 in
        let s1 = here_at (math_text p) sa wa in
        let s2 = here_at (screen_text p) sa wa in
        let s3 = here_at (output_text p) sb wa in
        let s4 = here_at (keyboard_text p) sc wc in
        let s5 = here_at (main_text p) sc wc in
        path_then subs 16 1718 s0 s1 last (memory_done 1 (math_text p))
        (path_then subs 4 1714 s1 s2 last (nothing_done 2 (init_at p (codes "Math")) (own_number core p 2) (screen_text p) sa wa (called_at p (codes "Math") (codes "init") ∙ is_math core p))
        (path_then subs 6 1708 s2 s3 last (screen_done 3 (output_text p) wa)
        (path_then subs 1703 5 s3 s4 last (output_done 4 (keyboard_text p))
        (path_then subs 4 1 s4 s5 last (nothing_done 5 (init_at p (codes "Keyboard")) (own_number core p 1) (main_text p) sc wc (called_at p (codes "Keyboard") (codes "init") ∙ is_keyboard core p))
        (path_one subs s5 last (calm_at subs b bs deeper g plain (main_text p) sc wc (omega arith)) (one subs s5 last refl))))))
