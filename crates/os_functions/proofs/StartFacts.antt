-- What stands at Main.main.
use Rattle.std.proofs.Common.{◌≡◌, ◌≢◌, ◌⊎◌, inl, inr, ⊎_elim, ℕ, zero, suc, ◌+◌, ◌-◌, ◌<◌, ◌≤◌, List, [], ◌∷◌, ◌++◌, length, map, fold, codes, refl, sym, ap, ◌∙◌, subst, arith}
use Rattle.std.specs.Prelude.{replicate, take, slice_index, slice_set}
use Rattle.std.proofs.lemmas.Bool.{cases_lt}
use Rattle.std.proofs.lemmas.List.{get_or-set_same, get_or-set_other, length-set, length-replicate}
use Rattle.word16.specs.Memory.{heap_and_screen_size}
use Rattle.jack_core.specs.declared.program.Core.{Core}
use Rattle.jack_core.specs.Texts.{the_program, the_subroutines}
use Rattle.jack_meaning.specs.Text.{Literal, Value, Open, Call as Calling, NoMore, Do, Return, Text, End, Next, Function, Subroutine, Program}
use Rattle.jack_meaning.specs.Meaning.{Frame, State, subroutine_at, new_frame, statics_of, start_text, filled_text}
use Rattle.jack_names.specs.Meaning.{class_meaning}
use Rattle.jack_os.proofs.SystemTexts.{system_classes}
use Rattle.jack_tree.specs.Syntax.{ClassFile}
use Rattle.os_laws.specs.Heap.{word_at, HeapOf}
use Rattle.os_laws.specs.Names.{IsShipped, statics_in}
use Rattle.os_laws.proofs.Basics.{enters}
use Rattle.os_laws.proofs.KeepingStores as keeping
use Rattle.os_laws.proofs.Taking.{split}
use Rattle.os_functions.specs.Calls.{routine_number, HasStatics, CallsNext}
use Rattle.os_functions.specs.ErrorLaws.{StandsStill}
use Rattle.os_functions.specs.StartLaws.{HasShapes, IsAtMain, StartLaw, EndLaw, MathInitLaw, KeyboardInitLaw, StartLaws}
use Rattle.os_functions.proofs.ErrorMade.{still_behind, halt_law}
use Rattle.os_functions.proofs.FontMade.{laid_length, laid_other, laid_here, font_words, font_length, shapes}
use Rattle.os_functions.proofs.Named.{numbered, number_of, own_number, shipped, statics_joined}
use Rattle.os_functions.proofs.Pieces.{in_call, gives_by}
use Rattle.os_functions.proofs.Quiet.{Quiet, one, quiet_then}
use Rattle.os_functions.proofs.StartMade.{at, ss1, ws1, ss2, ws2, ss3, ws3, free_kept, size_set, long1, main_waits, started}
use Rattle.os_functions.proofs.StartRoutines.{is_math, is_keyboard, is_start}
use Rattle.os_functions.proofs.StartRuns.{laid, does_nothing}
use Rattle.os_functions.proofs.StartTexts.{start_body}
use Rattle.os_functions.proofs.Statics.{same_black, apart}
use Rattle.os_functions.proofs.Texts.{routine}

-- ---- how many statics a program has

summed : (a : ℕ) (cs : List ClassFile) → fold (λ n c. n + c.statics) a (map class_meaning cs) ≡ a + statics_in cs
summed a [] = omega arith
summed a (c ∷ cs) = summed (a + (class_meaning c).statics) cs ∙ (let e : a + (class_meaning c).statics + statics_in cs ≡ a + statics_in (c ∷ cs) = omega arith in e)

module _ {core : Core} (p : IsShipped core) (h : HasStatics p) where
  all_statics : statics_of (the_program core) ≡ statics_in (p.own ++ p.os)
  all_statics = ap statics_of p.program ∙ summed 0 (p.own ++ p.os) ∙ (let e : 0 + statics_in (p.own ++ p.os) ≡ statics_in (p.own ++ p.os) = omega arith in e)

  room : h.black < statics_of (the_program core)
  room =
      let all = all_statics ∙ ap (λ (os : List ClassFile). statics_in (p.own ++ os)) (shipped core p) ∙ statics_joined p.own system_classes in
      let five : statics_in system_classes ≡ 5 = refl in
      let first = statics_joined p.own (take 5 system_classes) in
      let four : statics_in (take 5 system_classes) ≡ 4 = refl in
      omega (arith, all, five, first, four, same_black h)

-- ---- a heap whose block gets words

laid_heap : (vs ws : List ℕ) (i : ℕ) → 14048 ≤ i → i + length vs ≤ 14336 → HeapOf ws 2048 (2048 ∷ []) (record { place = 16096; words = 288 } ∷ []) → HeapOf (laid ws i vs) 2048 (2048 ∷ []) (record { place = 16096; words = 288 } ∷ [])
laid_heap [] ws i low high heap = heap
laid_heap (v ∷ vs) ws i low high heap =
    laid_heap vs (slice_set ws i v) (i + 1) (omega (arith, low)) (omega (arith, high))
    (subst (λ (k : ℕ). HeapOf (slice_set ws k v) 2048 (2048 ∷ []) (record { place = 16096; words = 288 } ∷ [])) (let e : i + 2048 - 2048 ≡ i = omega arith in e)
    (keeping.law ws 2048 (2048 ∷ []) (record { place = 16096; words = 288 } ∷ []) (i + 2048) v heap (inl (inl (omega (arith, low), omega (arith, high))))))

module _ {core : Core} (p : IsShipped core) (h : HasStatics p) (zs zw : List ℕ) (long : length zw ≡ 22528) (there : h.black < length zs) (no_static : (k : ℕ) → slice_index zs k ≡ 0) (no_word : (k : ℕ) → slice_index zw k ≡ 0) where
  abbrev ssa : List ℕ
  ssa = ss1 p h zs zw long there

  abbrev wsa : List ℕ
  wsa = ws1 p h zs zw long there

  abbrev ssb : List ℕ
  ssb = ss2 p h zs zw long there

  abbrev wsb : List ℕ
  wsb = ws2 p h zs zw long there

  abbrev ssc : List ℕ
  ssc = ss3 p h zs zw long there

  abbrev wsc : List ℕ
  wsc = ws3 p h zs zw long there

  -- ---- the words

  word_other : (j : ℕ) → (j < 14048) ⊎ (14336 ≤ j) → slice_index wsc j ≡ slice_index wsb j
  word_other j o = laid_other font_words wsb 14048 j (⊎_elim (λ (l : j < 14048). inl l) (λ (g : 14336 ≤ j). inr (omega (arith, g, font_length))) o)

  word_unset : (j : ℕ) → 0 < j → j ≢ 14047 → slice_index wsb j ≡ 0
  word_unset j low d =
      get_or-set_other (slice_set wsa 0 14047) 14047 j 289 0 d ∙ get_or-set_other wsa 0 j 14047 0 (λ e. omega (arith, e, low))
      ∙ ⊎_elim
      (λ (l : j < 2). ap (slice_index wsa) (let e : j ≡ 1 = omega (arith, l, low) in e) ∙ get_or-set_same (slice_set zw 0 14336) 1 0 0 (omega (arith, length-set zw 0 14336, long)))
      (λ (g : 2 ≤ j). get_or-set_other (slice_set zw 0 14336) 1 j 0 0 (λ e. omega (arith, e, g)) ∙ get_or-set_other zw 0 j 14336 0 (λ e. omega (arith, e, g)) ∙ no_word j)
      (cases_lt j 2)

  word_free : slice_index wsc 0 ≡ 14047
  word_free = word_other 0 (inl (omega arith)) ∙ get_or-set_other (slice_set wsa 0 14047) 14047 0 289 0 (λ e. omega (arith, e)) ∙ get_or-set_same wsa 0 14047 0 (let l = long1 p h zs zw long there in omega (arith, l))

  long_b : length wsb ≡ 22528
  long_b = length-set (slice_set wsa 0 14047) 14047 289 ∙ length-set wsa 0 14047 ∙ long1 p h zs zw long there

  long_c : length wsc ≡ 22528
  long_c = laid_length font_words wsb 14048 ∙ long_b

  of_font : (q : ℕ) → q < 288 → word_at wsc (16096 + q) ≡ slice_index font_words q
  of_font q few =
      ap (slice_index wsc) (let e : 16096 + q - 2048 ≡ 14048 + q = omega arith in e) ∙ laid_here font_words wsb 14048 q (omega (arith, few, font_length)) (omega (arith, long_b, font_length))

  -- ---- the heap

  first_heap : HeapOf wsa 2048 (2048 ∷ []) []
  first_heap =
      let size = size_set p h zs zw long there in
      let link : slice_index wsa 1 ≡ 0 = get_or-set_same (slice_set zw 0 14336) 1 0 0 (omega (arith, length-set zw 0 14336, long)) in
      record { links = (refl, link); long = (omega (arith, size), tt); blocks = tt; inside = ((omega arith, omega (arith, size)), tt); apart = (tt, tt) }

  second_heap : HeapOf wsb 2048 (2048 ∷ []) (record { place = 16096; words = 288 } ∷ [])
  second_heap = split wsa 2048 [] [] [] 2048 first_heap 14047 289 288 (size_set p h zs zw long there) (omega arith) (omega arith) refl (long1 p h zs zw long there)

  last_heap : HeapOf wsc 2048 (2048 ∷ []) (record { place = 16096; words = 288 } ∷ [])
  last_heap = laid_heap font_words wsb 14048 (omega arith) (omega (arith, font_length)) second_heap

  -- ---- the statics

  as_many : length ssc ≡ length zs
  as_many =
      length-set (slice_set (slice_set ssb h.font 16000) h.place 16384) h.right 0 ∙ length-set (slice_set ssb h.font 16000) h.place 16384 ∙ length-set ssb h.font 16000 ∙ length-set ssa h.black 65535 ∙ length-set zs h.free 2048

  many_b : length ssb ≡ length zs
  many_b = length-set ssa h.black 65535 ∙ length-set zs h.free 2048

  -- up to the statics of Output
  before_output : (k : ℕ) → k ≢ h.font → k ≢ h.place → k ≢ h.right → slice_index ssc k ≡ slice_index ssb k
  before_output k f l r =
      get_or-set_other (slice_set (slice_set ssb h.font 16000) h.place 16384) h.right k 0 0 r ∙ get_or-set_other (slice_set ssb h.font 16000) h.place k 16384 0 l ∙ get_or-set_other ssb h.font k 16000 0 f

  static_free : slice_index ssc h.free ≡ 2048
  static_free = let a = apart h in before_output h.free (λ e. omega (arith, e, a)) (λ e. omega (arith, e, a)) (λ e. omega (arith, e, a)) ∙ free_kept p h zs zw long there

  static_black : slice_index ssc h.black ≡ 65535
  static_black =
      let a = apart h in
      before_output h.black (λ e. omega (arith, e, a)) (λ e. omega (arith, e, a)) (λ e. omega (arith, e, a)) ∙ get_or-set_same ssa h.black 65535 0 (omega (arith, there, length-set zs h.free 2048))

  static_font : slice_index ssc h.font ≡ 16000
  static_font =
      let a = apart h in
      get_or-set_other (slice_set (slice_set ssb h.font 16000) h.place 16384) h.right h.font 0 0 (λ e. omega (arith, e, a))
      ∙ get_or-set_other (slice_set ssb h.font 16000) h.place h.font 16384 0 (λ e. omega (arith, e, a))
      ∙ get_or-set_same ssb h.font 16000 0 (omega (arith, a, there, many_b))

  static_place : slice_index ssc h.place ≡ 16384
  static_place =
      let a = apart h in
      get_or-set_other (slice_set (slice_set ssb h.font 16000) h.place 16384) h.right h.place 0 0 (λ e. omega (arith, e, a))
      ∙ get_or-set_same (slice_set ssb h.font 16000) h.place 16384 0 (omega (arith, a, there, many_b, length-set ssb h.font 16000))

  static_right : slice_index ssc h.right ≡ 0
  static_right =
      let a = apart h in
      get_or-set_same (slice_set (slice_set ssb h.font 16000) h.place 16384) h.right 0 0 (omega (arith, a, there, many_b, length-set ssb h.font 16000, length-set (slice_set ssb h.font 16000) h.place 16384))

  static_other : (k : ℕ) → k ≢ h.free → k ≢ h.font → k ≢ h.place → k ≢ h.right → k ≢ h.black → slice_index ssc k ≡ 0
  static_other k e f l r b = before_output k f l r ∙ get_or-set_other ssa h.black k 65535 0 b ∙ get_or-set_other zs h.free k 2048 0 e ∙ no_static k

  -- ---- all of it

  pub at_main : (init first : Frame) → init.subroutine ≡ routine_number p (codes "Sys") (codes "init") → (first.subroutine ≡ 0) × (first.text ≡ Next (Do 1 Open) End)
      → init.text ≡ Next (Do 6 Open) (Next (Do 7 (Calling (routine_number p (codes "Sys") (codes "halt")) NoMore)) (Next (Return 8 (Literal 0)) End)) → length zs ≡ statics_of (the_program core)
      → IsAtMain p h (record { frames = new_frame (the_subroutines core) (routine_number p (codes "Main") (codes "main")) [] ∷ init ∷ first ∷ []; statics = ssc; words = wsc })
  at_main init first init_is start_is waits many =
      let a = apart h in
      record {
        init = init;
        start = first;
        init_is = init_is;
        start_is = start_is;
        waits = waits;
        frames = refl;
        blocks = record {
          room = record { static = omega (arith, a, there, as_many); words = long_c };
          heap = subst (λ (v : ℕ). HeapOf wsc v (2048 ∷ []) (record { place = 16096; words = 288 } ∷ [])) (sym static_free) last_heap;
        };
        free = word_free;
        unset = λ b low high. word_other (b - 2048) (inl (omega (arith, high))) ∙ word_unset (b - 2048) (omega (arith, low)) (λ e. omega (arith, e, high));
        font = omega (arith, static_font);
        shapes = subst (λ (v : ℕ). HasShapes wsc v) (sym static_font) (shapes wsc of_font);
        white = λ b low high. word_other (b - 2048) (inr (omega (arith, low))) ∙ word_unset (b - 2048) (omega (arith, low)) (λ e. omega (arith, e, low));
        cursor = record { rows = omega arith; columns = omega arith; room = (omega (arith, a, there, as_many), omega (arith, a, there, as_many)); place = static_place; right = static_right };
        black = static_black;
        statics = as_many ∙ many;
        others = λ k e f l r b. static_other k e f l r b;
      }

-- ---- from the start

zeros : (n k : ℕ) → slice_index (replicate n 0) k ≡ 0
zeros zero k = refl
zeros (suc n) zero = refl
zeros (suc n) (suc k) = zeros n k

module _ {core : Core} (p : IsShipped core) (h : HasStatics p) (zs zw : List ℕ) (long : length zw ≡ 22528) (there : h.black < length zs) where
  abbrev subs : List Subroutine
  subs = the_subroutines core

  abbrev init_at : ℕ
  init_at = (the_program core).init

  -- the frame of `start`, whose call waits
  abbrev start_waits : Frame
  start_waits = (in_call 0 0 zs zw (Next (Do 1 Open) End) [] []).frame

  abbrev begin : State
  begin = record { frames = (in_call 0 0 zs zw (start_text init_at) [] []).frame ∷ []; statics = zs; words = zw }

  abbrev at_begin : Text
  at_begin =
      start_body (number_of core p (codes "Memory") (codes "init")) (number_of core p (codes "Math") (codes "init")) (number_of core p (codes "Screen") (codes "init")) (number_of core p (codes "Output") (codes "init"))
      (number_of core p (codes "Keyboard") (codes "init")) (number_of core p (codes "Main") (codes "main")) (number_of core p (codes "Sys") (codes "halt"))

  is_init_at : init_at ≡ routine_number p (codes "Sys") (codes "init")
  is_init_at = ap (λ (q : Program). q.init) p.program

  has_start : subroutine_at subs init_at ≡ routine Function (own_number core p 7) 0 0 at_begin
  has_start = ap (subroutine_at subs) is_init_at ∙ is_start core p

  abbrev init_waits : Frame
  init_waits = main_waits p h zs zw long there (start_waits ∷ []) init_at

  abbrev at_end : ℕ → State
  at_end main = record { frames = new_frame subs main [] ∷ init_waits ∷ start_waits ∷ []; statics = ss3 p h zs zw long there; words = ws3 p h zs zw long there }

  whole : Quiet subs 1735 begin (at_end (routine_number p (codes "Main") (codes "main")))
  whole =
      let first : State = record { frames = new_frame subs init_at [] ∷ start_waits ∷ []; statics = zs; words = zw } in
      let in_init = at subs (start_waits ∷ []) init_at at_begin zs zw in
      let last = at_end (number_of core p (codes "Main") (codes "main")) in
      let entered : Quiet subs 1 begin in_init =
      subst (λ (z : Frame). Quiet subs 1 begin (record { frames = z ∷ start_waits ∷ []; statics = zs; words = zw })) (enters subs init_at _ [] has_start) (one subs begin first refl) in
      subst (λ (k : ℕ). Quiet subs 1735 begin (at_end k)) (sym (numbered core p (codes "Main") (codes "main")))
      (quiet_then subs 1 1734 begin in_init last entered (started p h zs zw long there (start_waits ∷ []) init_at))

  halt_waits : init_waits.text ≡ Next (Do 6 Open) (Next (Do 7 (Calling (routine_number p (codes "Sys") (codes "halt")) NoMore)) (Next (Return 8 (Literal 0)) End))
  halt_waits = ap (λ (k : ℕ). Next (Do 6 Open) (Next (Do 7 (Calling k NoMore)) (Next (Return 8 (Literal 0)) End))) (sym (numbered core p (codes "Sys") (codes "halt")))

  -- for every list of words and of statics that are 0
  pub reached : length zs ≡ statics_of (the_program core) → ((k : ℕ) → slice_index zs k ≡ 0) → ((k : ℕ) → slice_index zw k ≡ 0)
      → (s : State) × IsAtMain p h s × Quiet subs 1735 begin s
  reached many no_static no_word =
      (at_end (routine_number p (codes "Main") (codes "main")), at_main p h zs zw long there no_static no_word init_waits start_waits is_init_at (refl, refl) halt_waits many, whole)

module _ {core : Core} (p : IsShipped core) where
  start_law : StartLaw p
  start_law h =
      let n = statics_of (the_program core) in
      let r = room p h in
      let many : length (replicate n 0) ≡ n = length-replicate {A = ℕ} n 0 in
      let (s, there, quiet) = reached p h (replicate n 0) (replicate heap_and_screen_size 0) (length-replicate {A = ℕ} heap_and_screen_size 0) (omega (arith, r, many)) many (zeros n) (zeros heap_and_screen_size) in
      (s, there, λ keys. quiet.leads keys)

module _ {core : Core} (p : IsShipped core) where
  -- Sys.init after the call of Main.main, and at that of Sys.halt
  end_law : EndLaw p
  end_law h s a t w e =
      let subs = the_subroutines core in
      let halt = routine_number p (codes "Sys") (codes "halt") in
      let rest : Text = Next (Do 7 (Calling halt NoMore)) (Next (Return 8 (Literal 0)) End) in
      let done : Frame = record (a.init) { text = Next (Do 6 (Value w)) rest } in
      let asks : Frame = record (a.init) { text = rest } in
      let waits : Frame = record (a.init) { text = Next (Do 7 Open) (Next (Return 8 (Literal 0)) End) } in
      let below : List Frame = a.start ∷ [] in
      let is : t.frames ≡ done ∷ below = e ∙ ap (λ (x : Text). record (a.init) { text = filled_text w x } ∷ below) a.waits in
      let from : State = record { frames = done ∷ below; statics = t.statics; words = t.words } in
      let to : State = record { frames = asks ∷ below; statics = t.statics; words = t.words } in
      let same : t ≡ from = ap (λ (fs : List Frame). record { frames = fs; statics = t.statics; words = t.words }) is in
      let halts : CallsNext p (codes "Sys") (codes "halt") to [] = record { top = asks; caller = waits; below = below; frames = refl; calls = refl } in
      subst (λ (z : State). StandsStill subs z 2 t.statics t.words) (sym same)
      (still_behind subs from to 1 2 t.statics t.words (λ keys. refl) (omega arith) (halt_law p to halts) (omega arith))

module _ {core : Core} (p : IsShipped core) (s : State) where
  math_law : MathInitLaw p s
  math_law c =
      gives_by p s (codes "Math") (codes "init") [] c 1 3 (omega arith) _ (is_math core p) 0 1 0 0 refl End [] [] (does_nothing (the_subroutines core) (routine_number p (codes "Math") (codes "init")) s.statics s.words)

  keyboard_law : KeyboardInitLaw p s
  keyboard_law c =
      gives_by p s (codes "Keyboard") (codes "init") [] c 1 3 (omega arith) _ (is_keyboard core p) 0 1 0 0 refl End [] [] (does_nothing (the_subroutines core) (routine_number p (codes "Keyboard") (codes "init")) s.statics s.words)

pub law : StartLaws
law = record { start = λ p h. start_law p h; end = λ p. end_law p; math = λ p s. math_law p s; keyboard = λ p s. keyboard_law p s }
