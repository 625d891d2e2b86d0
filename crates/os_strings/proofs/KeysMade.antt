-- The keyboard: loops of calls, under given keys.
use Rattle.std.proofs.Common.{◌≡◌, ℕ, zero, suc, ◌+◌, ◌*◌, ◌%◌, ◌<◌, ◌≤◌, false, nat_eq, List, [], ◌∷◌, length, Some, codes, refl, sym, ap, ◌∙◌, subst, arith}
use Rattle.std.proofs.lemmas.Bool.Decides.{nat_tests}
use Rattle.jack_core.specs.declared.program.Core.{Core}
use Rattle.jack_core.specs.Texts.{the_subroutines}
use Rattle.jack_meaning.specs.Text.{Argument, Local, Equal, Expression, Literal, Value, Name, Binary, Load, Open, Call as Calling, NoMore, More, Let, Do, If, While, Return, Text, End, Next, Function, Subroutine}
use Rattle.jack_meaning.specs.Meaning.{Frame, State, subroutine_at, new_frame}
use Rattle.os_laws.specs.Calls.{NextCall, given_back}
use Rattle.os_laws.specs.Names.{IsShipped}
use Rattle.os_laws.proofs.Basics.{enters, frame_with}
use Rattle.os_laws.proofs.Runs.{Call, over, run}
use Rattle.os_functions.specs.Calls.{routine_number, CallsNext, Returns}
use Rattle.os_functions.specs.CursorLaws.{with_cursor}
use Rattle.os_functions.specs.PrintLaws.{PrintLaws, row_after, column_after, row_before, column_before}
use Rattle.os_functions.proofs.MemoryRoutines.{is_peek}
use Rattle.os_functions.proofs.Named.{leads, number_of, own_number}
use Rattle.os_functions.proofs.Pieces.{in_call, returns_value}
use Rattle.os_functions.proofs.PrintMade as printing
use Rattle.os_functions.proofs.Texts.{routine}
use Rattle.os_functions.proofs.Ways.{Way, way_of_run, way_of_call, opened, keys_behind}
use Rattle.os_strings.specs.KeyLaws.{ReturnsUnder, IsPressed, PressedLaw, Reads, ReadLaw, ReadLineLaw, ReadBackLaw, KeyLaws}
use Rattle.os_strings.proofs.Allocations.{same_number}
use Rattle.os_strings.proofs.Failing.{way_opens}
use Rattle.os_strings.proofs.Paths.{Path, path_of_way, path_one, path_then, path_weaker, behind_at, returns_under}

-- ---- the texts

abbrev asks : ℕ → Expression
asks g = Calling g NoMore

abbrev pressed_body : ℕ → Text
pressed_body peek = Next (Return 1 (Calling peek (More (Literal 24576) NoMore))) End

abbrev loads : Expression → Expression → Text
loads a i = Next (Return 1 (Load a i)) End

abbrev key_end : Text
key_end = Next (Return 4 (Name (Local 0))) End

abbrev held_loop : ℕ → Text
held_loop pressed = Next (While 3 (asks pressed) End) key_end

abbrev first_loop : ℕ → Text
first_loop pressed = Next (While 1 (Binary Equal (Name (Local 0)) (Literal 0)) (Next (Let 2 (Local 0) (asks pressed)) End)) (held_loop pressed)

abbrev looks : Expression → ℕ → Text
looks e pressed = Next (Let 2 (Local 0) e) (first_loop pressed)

abbrev is_held : Expression → ℕ → Text
is_held e pressed = Next (If 3 false e (Next (While 3 (asks pressed) End) End) End) key_end

abbrev shows : Expression → Text
shows e = Next (Do 2 e) (Next (Return 3 (Name (Local 0))) End)

abbrev prints : ℕ → Expression → Expression
prints print e = Calling print (More e NoMore)

abbrev read_from : Expression → ℕ → Text
read_from e print = Next (Let 1 (Local 0) e) (shows (prints print (Name (Local 0))))

module _ (subs : List Subroutine) (g : ℕ) (ss ws : List ℕ) where
  abbrev at_text : Text → List ℕ → List ℕ → Call
  at_text t xs ls = in_call g 0 ss ws t xs ls

  to_peek : (peek : ℕ) → run subs 1 (at_text (pressed_body peek) [] []) ≡ Some (at_text (Next (Return 1 (Calling peek (More (Value 24576) NoMore))) End) [] [])
  to_peek peek = refl

  to_load : run subs 2 (at_text (loads (Name (Argument 0)) (Literal 0)) (24576 ∷ []) []) ≡ Some (at_text (loads (Value 24576) (Value 0)) (24576 ∷ []) [])
  to_load = refl

  to_look : (pressed : ℕ) → run subs 4 (at_text (first_loop pressed) [] (0 ∷ [])) ≡ Some (at_text (looks (asks pressed) pressed) [] (0 ∷ []))
  to_look pressed = refl

  looked : (pressed k : ℕ) → run subs 1 (at_text (looks (Value k) pressed) [] (0 ∷ [])) ≡ Some (at_text (first_loop pressed) [] (k ∷ []))
  looked pressed k = refl

  leaves : (pressed k : ℕ) → nat_eq k 0 ≡ false → run subs 4 (at_text (first_loop pressed) [] (k ∷ [])) ≡ Some (at_text (held_loop pressed) [] (k ∷ []))
  leaves pressed k h = rw h refl

  still_held : (pressed k m : ℕ) → run subs 1 (at_text (is_held (Value (suc m)) pressed) [] (k ∷ [])) ≡ Some (at_text (held_loop pressed) [] (k ∷ []))
  still_held pressed k m = refl

  is_up : (pressed k : ℕ) → run subs 2 (at_text (is_held (Value 0) pressed) [] (k ∷ [])) ≡ Some (at_text (returns_value 4 k End) [] (k ∷ []))
  is_up pressed k = refl

  to_print : (print k : ℕ) → run subs 2 (at_text (read_from (Value k) print) [] (0 ∷ [])) ≡ Some (at_text (shows (prints print (Value k))) [] (k ∷ []))
  to_print print k = refl

  printed : (k : ℕ) → run subs 2 (at_text (shows (Value 0)) [] (k ∷ [])) ≡ Some (at_text (returns_value 3 k End) [] (k ∷ []))
  printed k = refl

-- ---- the routines

module _ {core : Core} (p : IsShipped core) where
  abbrev peek_at : ℕ
  peek_at = routine_number p (codes "Memory") (codes "peek")

  abbrev pressed_at : ℕ
  pressed_at = routine_number p (codes "Keyboard") (codes "keyPressed")

  abbrev key_at : ℕ
  key_at = routine_number p (codes "Keyboard") (codes "key")

  abbrev read_at : ℕ
  read_at = routine_number p (codes "Keyboard") (codes "readChar")

  abbrev print_at : ℕ
  print_at = routine_number p (codes "Output") (codes "printChar")

  is_pressed : subroutine_at (the_subroutines core) pressed_at ≡ routine Function (own_number core p 1) 0 0 (pressed_body peek_at)
  is_pressed = leads core p 1 1 (refl, refl) ∙ ap (λ (k : ℕ). routine Function (own_number core p 1) 0 0 (pressed_body k)) (same_number p (codes "Memory") (codes "peek"))

  is_key : subroutine_at (the_subroutines core) key_at ≡ routine Function (own_number core p 1) 0 1 (first_loop pressed_at)
  is_key = leads core p 1 5 (refl, refl) ∙ ap (λ (k : ℕ). routine Function (own_number core p 1) 0 1 (first_loop k)) (same_number p (codes "Keyboard") (codes "keyPressed"))

  is_read : subroutine_at (the_subroutines core) read_at ≡ routine Function (own_number core p 1) 0 1 (read_from (asks key_at) print_at)
  is_read =
      leads core p 1 2 (refl, refl) ∙ ap (λ (k : ℕ). routine Function (own_number core p 1) 0 1 (read_from (asks k) (number_of core p (codes "Output") (codes "printChar")))) (same_number p (codes "Keyboard") (codes "key"))
      ∙ ap (λ (k : ℕ). routine Function (own_number core p 1) 0 1 (read_from (asks key_at) k)) (same_number p (codes "Output") (codes "printChar"))

-- the step that makes a call, and a run of the routine that is called
module _ (subs : List Subroutine) (s : State) (g : ℕ) (values : List ℕ) (c : NextCall subs s g values) (sub : Subroutine) (is : subroutine_at subs g ≡ sub) where
  enters_by : (n : ℕ) (end : Call) → run subs n (record { frame = frame_with g sub values; statics = s.statics; words = s.words }) ≡ Some end → Way subs (suc (suc (length c.below))) n (opened subs s g values c) (over (c.caller ∷ c.below) end)
  enters_by n end ran =
      way_of_run subs (c.caller ∷ c.below) n (record { frame = new_frame subs g values; statics = s.statics; words = s.words }) end
      (ap (λ (z : Frame). run subs n (record { frame = z; statics = s.statics; words = s.words })) (enters subs g sub values is) ∙ ran)

-- ---- keyPressed

module _ {core : Core} (p : IsShipped core) (s : State) (c : CallsNext p (codes "Keyboard") (codes "keyPressed") s []) (keys : ℕ → ℕ) where
  abbrev subs : List Subroutine
  subs = the_subroutines core

  abbrev below : List Frame
  below = c.caller ∷ c.below

  abbrev here_at : Text → Call
  here_at t = at_text subs (pressed_at p) s.statics s.words t [] []

  abbrev peeks : Call
  peeks = here_at (Next (Return 1 (Calling (peek_at p) (More (Value 24576) NoMore))) End)

  abbrev waits : Call
  waits = here_at (Next (Return 1 Open) End)

  abbrev peek_call : NextCall subs (over below peeks) (peek_at p) (24576 ∷ [])
  peek_call = record { top = peeks.frame; caller = waits.frame; below = below; frames = refl; calls = refl }

  abbrev inner : Text → Call
  inner t = at_text subs (peek_at p) s.statics s.words t (24576 ∷ []) []

  abbrev last : State
  last = given_back s c.caller c.below (keys 5)

  -- after the step that makes the call
  abbrev first : State
  first = opened subs s (pressed_at p) [] c

  inside : Path subs (keys_behind 1 keys) (suc (suc (length c.below))) 7 first last
  inside =
      let k1 = keys_behind 1 keys in
      let deep = suc (suc (length c.below)) in
      let loading = over (waits.frame ∷ below) (inner (loads (Value 24576) (Value 0))) in
      let loaded = over (waits.frame ∷ below) (inner (returns_value 1 (keys 5) End)) in
      let back = over below (here_at (returns_value 1 (keys 5) End)) in
      let peeked = opened subs (over below peeks) (peek_at p) (24576 ∷ []) peek_call in
      path_then subs k1 deep 1 6 first (over below peeks) last (path_of_way subs k1 deep 1 first (over below peeks) (enters_by subs s (pressed_at p) [] c _ (is_pressed p) 1 peeks (to_peek subs (pressed_at p) s.statics s.words (peek_at p))))
      (path_then subs (keys_behind 1 k1) deep 1 5 (over below peeks) peeked last (path_of_way subs (keys_behind 1 k1) deep 1 (over below peeks) peeked (way_opens subs (over below peeks) (peek_at p) (24576 ∷ []) peek_call))
      (path_then subs (keys_behind 2 k1) deep 2 3 peeked loading last
      (path_weaker subs (keys_behind 2 k1) deep (suc deep) 2 peeked loading (omega arith)
      (path_of_way subs (keys_behind 2 k1) (suc deep) 2 peeked loading (enters_by subs (over below peeks) (peek_at p) (24576 ∷ []) peek_call _ (is_peek core p) 2 (inner (loads (Value 24576) (Value 0))) (to_load subs (peek_at p) s.statics s.words))))
      (path_then subs (keys_behind 4 k1) deep 1 2 loading loaded last (path_one subs (keys_behind 4 k1) deep loading loaded (omega arith) refl)
      (path_then subs (keys_behind 5 k1) deep 1 1 loaded back last (path_one subs (keys_behind 5 k1) deep loaded back (omega arith) refl) (path_one subs (keys_behind 6 k1) deep back last (omega arith) refl)))))

  pub pressed_path : Path subs keys (suc (length c.below)) 8 s last
  pressed_path =
      path_then subs keys (suc (length c.below)) 1 7 s first last (path_of_way subs keys (suc (length c.below)) 1 s first (way_opens subs s (pressed_at p) [] c))
      (path_weaker subs (keys_behind 1 keys) (suc (length c.below)) (suc (suc (length c.below))) 7 first last (omega arith) inside)

  pressed_returns : ReturnsUnder subs keys s 8 last
  pressed_returns =
      let deep : suc (length c.below) ≡ length s.frames = sym (ap length c.frames) in
      returns_under subs keys 7 s first last
      (subst (λ d. Path subs keys d 1 s first) deep (path_of_way subs keys (suc (length c.below)) 1 s first (way_opens subs s (pressed_at p) [] c)))
      (subst (λ d. Path subs (keys_behind 1 keys) (suc d) 7 first last) deep inside) deep

-- ---- key: it waits until a key is down and up again

not_zero : (k : ℕ) → 0 < k → nat_eq k 0 ≡ false
not_zero k h = grind (arith, nat_tests)

one_less : (k : ℕ) → 0 < k → (m : ℕ) × (k ≡ suc m)
one_less zero h = absurd (omega (arith, h))
one_less (suc m) h = (m, refl)

module _ {core : Core} (p : IsShipped core) (under : List Frame) (ss ws : List ℕ) where
  abbrev all : List Subroutine
  all = the_subroutines core

  abbrev least : ℕ
  least = suc (length under)

  abbrev stands : Text → ℕ → State
  stands t k = over under (at_text all (key_at p) ss ws t [] (k ∷ []))

  abbrev first_state : ℕ → State
  first_state k = stands (first_loop (pressed_at p)) k

  abbrev held_state : ℕ → State
  held_state k = stands (held_loop (pressed_at p)) k

  abbrev look_call : NextCall all (stands (looks (asks (pressed_at p)) (pressed_at p)) 0) (pressed_at p) []
  look_call = record {
    top = (at_text all (key_at p) ss ws (looks (asks (pressed_at p)) (pressed_at p)) [] (0 ∷ [])).frame;
    caller = (at_text all (key_at p) ss ws (looks Open (pressed_at p)) [] (0 ∷ [])).frame;
    below = under;
    frames = refl;
    calls = refl;
  }

  abbrev held_call : (k : ℕ) → NextCall all (held_state k) (pressed_at p) []
  held_call k = record {
    top = (at_text all (key_at p) ss ws (held_loop (pressed_at p)) [] (k ∷ [])).frame;
    caller = (at_text all (key_at p) ss ws (is_held Open (pressed_at p)) [] (k ∷ [])).frame;
    below = under;
    frames = refl;
    calls = refl;
  }

  ran : (keys : ℕ → ℕ) (n : ℕ) (a b : Call) → run all n a ≡ Some b → Path all keys least n (over under a) (over under b)
  ran keys n a b e = path_of_way all keys least n (over under a) (over under b) (way_of_run all under n a b e)

  -- a look at the key
  look_path : (keys : ℕ → ℕ) → Path all keys least 13 (first_state 0) (first_state (keys 9))
  look_path keys =
      let asked = stands (looks (asks (pressed_at p)) (pressed_at p)) 0 in
      let seen = stands (looks (Value (keys 9)) (pressed_at p)) 0 in
      path_then all keys least 4 9 (first_state 0) asked (first_state (keys 9))
      (ran keys 4 (at_text all (key_at p) ss ws (first_loop (pressed_at p)) [] (0 ∷ [])) (at_text all (key_at p) ss ws (looks (asks (pressed_at p)) (pressed_at p)) [] (0 ∷ [])) (to_look all (key_at p) ss ws (pressed_at p)))
      (path_then all (keys_behind 4 keys) least 8 1 asked seen (first_state (keys 9)) (pressed_path p asked look_call (keys_behind 4 keys))
      (ran (keys_behind 12 keys) 1 (at_text all (key_at p) ss ws (looks (Value (keys 9)) (pressed_at p)) [] (0 ∷ [])) (at_text all (key_at p) ss ws (first_loop (pressed_at p)) [] (keys 9 ∷ [])) (looked all (key_at p) ss ws (pressed_at p) (keys 9))))

  -- looks at which no key is down
  waits_path : (m : ℕ) (keys : ℕ → ℕ) → ((j : ℕ) → j < m → keys (9 + 13 * j) ≡ 0) → Path all keys least (13 * m) (first_state 0) (first_state 0)
  waits_path zero keys none = record { leads = refl; each = λ j h. absurd (omega (arith, h)) }
  waits_path (suc m) keys none =
      let count : 13 + 13 * m ≡ 13 * suc m = omega arith in
      let up : keys 9 ≡ 0 = none 0 (omega arith) in
      let once = subst (λ z. Path all keys least 13 (first_state 0) (first_state z)) up (look_path keys) in
      let rest = waits_path m (keys_behind 13 keys) (λ j h. behind_at 13 (9 + 13 * j) keys ∙ ap keys (let e : 13 + (9 + 13 * j) ≡ 9 + 13 * suc j = omega arith in e) ∙ none (suc j) (omega (arith, h))) in
      subst (λ n. Path all keys least n (first_state 0) (first_state 0)) count (path_then all keys least 13 (13 * m) (first_state 0) (first_state 0) (first_state 0) once rest)

  module _ (k : ℕ) where
    abbrev up_text : Expression → Call
    up_text e = at_text all (key_at p) ss ws (is_held e (pressed_at p)) [] (k ∷ [])

    -- looks at which it is down still
    held_path : (l : ℕ) (keys : ℕ → ℕ) → ((i : ℕ) → i < l → 0 < keys (5 + 9 * i)) → Path all keys least (9 * l) (held_state k) (held_state k)
    held_path zero keys down = record { leads = refl; each = λ j h. absurd (omega (arith, h)) }
    held_path (suc l) keys down =
        let count : 9 + 9 * l ≡ 9 * suc l = omega arith in
        let (x, is) = one_less (keys 5) (down 0 (omega arith)) in
        let seen = subst (λ z. Path all keys least 8 (held_state k) (over under (up_text (Value z)))) is (pressed_path p (held_state k) (held_call k) keys) in
        let once = path_then all keys least 8 1 (held_state k) (over under (up_text (Value (suc x)))) (held_state k) seen
        (ran (keys_behind 8 keys) 1 (up_text (Value (suc x))) (at_text all (key_at p) ss ws (held_loop (pressed_at p)) [] (k ∷ [])) (still_held all (key_at p) ss ws (pressed_at p) k x)) in
        let rest = held_path l (keys_behind 9 keys) (λ i h. subst (λ z. 0 < z) (sym (behind_at 9 (5 + 9 * i) keys ∙ ap keys (let e : 9 + (5 + 9 * i) ≡ 5 + 9 * suc i = omega arith in e))) (down (suc i) (omega (arith, h)))) in
        subst (λ n. Path all keys least n (held_state k) (held_state k)) count (path_then all keys least 9 (9 * l) (held_state k) (held_state k) (held_state k) once rest)

    abbrev given : Call
    given = at_text all (key_at p) ss ws (returns_value 4 k End) [] (k ∷ [])

    -- the look at which it is up
    up_path : (keys : ℕ → ℕ) → keys 5 ≡ 0 → Path all keys least 10 (held_state k) (over under given)
    up_path keys is =
        let seen = subst (λ z. Path all keys least 8 (held_state k) (over under (up_text (Value z)))) is (pressed_path p (held_state k) (held_call k) keys) in
        path_then all keys least 8 2 (held_state k) (over under (up_text (Value 0))) (over under given) seen (ran (keys_behind 8 keys) 2 (up_text (Value 0)) given (is_up all (key_at p) ss ws (pressed_at p) k))

  -- the whole: the steps are counted from the first one of the routine's own text
  module _ (keys : ℕ → ℕ) (m l k : ℕ) (none : (j : ℕ) → j < m → keys (9 + 13 * j) ≡ 0) (pressed : keys (9 + 13 * m) ≡ k) (some : 0 < k) (down : (i : ℕ) → i < l → 0 < keys (22 + 13 * m + 9 * i)) (up : keys (22 + 13 * m + 9 * l) ≡ 0) where
    abbrev keys1 : ℕ → ℕ
    keys1 = keys_behind (13 * m) keys

    abbrev keys2 : ℕ → ℕ
    keys2 = keys_behind 17 keys1

    at_look : (i : ℕ) → keys2 i ≡ keys (17 + 13 * m + i)
    at_look i = behind_at 17 i keys1 ∙ behind_at (13 * m) (17 + i) keys ∙ ap keys (let e : 13 * m + (17 + i) ≡ 17 + 13 * m + i = omega arith in e)

    key_path : Path all keys least (13 * m + (17 + (9 * l + 10))) (first_state 0) (over under (given k))
    key_path =
        let is : keys1 9 ≡ k = behind_at (13 * m) 9 keys ∙ ap keys (let e : 13 * m + 9 ≡ 9 + 13 * m = omega arith in e) ∙ pressed in
        let seen = subst (λ z. Path all keys1 least 13 (first_state 0) (first_state z)) is (look_path keys1) in
        let left = ran (keys_behind 13 keys1) 4 (at_text all (key_at p) ss ws (first_loop (pressed_at p)) [] (k ∷ [])) (at_text all (key_at p) ss ws (held_loop (pressed_at p)) [] (k ∷ [])) (leaves all (key_at p) ss ws (pressed_at p) k (not_zero k some)) in
        let held = held_path k l keys2 (λ i h. subst (λ z. 0 < z) (sym (at_look (5 + 9 * i) ∙ ap keys (let e : 17 + 13 * m + (5 + 9 * i) ≡ 22 + 13 * m + 9 * i = omega arith in e))) (down i h)) in
        let over_now : keys_behind (9 * l) keys2 5 ≡ 0 = behind_at (9 * l) 5 keys2 ∙ at_look (9 * l + 5) ∙ ap keys (let e : 17 + 13 * m + (9 * l + 5) ≡ 22 + 13 * m + 9 * l = omega arith in e) ∙ up in
        path_then all keys least (13 * m) (17 + (9 * l + 10)) (first_state 0) (first_state 0) (over under (given k)) (waits_path m keys none)
        (path_then all keys1 least 17 (9 * l + 10) (first_state 0) (held_state k) (over under (given k)) (path_then all keys1 least 13 4 (first_state 0) (first_state k) (held_state k) seen left)
        (path_then all keys2 least (9 * l) 10 (held_state k) (held_state k) (over under (given k)) held (up_path k (keys_behind (9 * l) keys2) over_now)))

-- ---- readChar

module _ {core : Core} (p : IsShipped core) (s : State) (c : CallsNext p (codes "Keyboard") (codes "readChar") s []) (keys : ℕ → ℕ) (m l k : ℕ) (is : IsPressed keys m l k) where
  abbrev subs' : List Subroutine
  subs' = the_subroutines core

  abbrev frames_below : List Frame
  frames_below = c.caller ∷ c.below

  abbrev deep : ℕ
  deep = suc (length frames_below)

  abbrev reads_at : Text → List ℕ → List ℕ → ℕ → Call
  reads_at t ss ws v = at_text subs' (read_at p) ss ws t [] (v ∷ [])

  abbrev opening : State
  opening = opened subs' s (read_at p) [] c

  abbrev asks_key : Call
  asks_key = reads_at (read_from (asks (key_at p)) (print_at p)) s.statics s.words 0

  abbrev key_waits : Call
  key_waits = reads_at (read_from Open (print_at p)) s.statics s.words 0

  abbrev key_call : NextCall subs' (over frames_below asks_key) (key_at p) []
  key_call = record { top = asks_key.frame; caller = key_waits.frame; below = frames_below; frames = refl; calls = refl }

  -- the state at the call of printChar
  abbrev asks_print : Call
  asks_print = reads_at (shows (prints (print_at p) (Value k))) s.statics s.words k

  abbrev at_print : State
  at_print = over frames_below asks_print

  abbrev print_call : NextCall subs' at_print (print_at p) (k ∷ [])
  print_call = record { top = asks_print.frame; caller = (reads_at (shows Open) s.statics s.words k).frame; below = frames_below; frames = refl; calls = refl }

  abbrev keys_two : ℕ → ℕ
  keys_two = keys_behind 2 keys

  abbrev key_steps : ℕ
  key_steps = 13 * m + (17 + (9 * l + 10))

  to_print_call : Path subs' (keys_behind 1 keys) deep (1 + (key_steps + (1 + 2))) opening at_print
  to_print_call =
      let entered : opening ≡ over frames_below asks_key = ap (λ (f : Frame). over frames_below (record { frame = f; statics = s.statics; words = s.words })) (enters subs' (read_at p) _ [] (is_read p)) in
      let in_key = key_waits.frame ∷ frames_below in
      let began = opened subs' (over frames_below asks_key) (key_at p) [] key_call in
      let inside : began ≡ first_state p in_key s.statics s.words 0 = ap (λ (f : Frame). over in_key (record { frame = f; statics = s.statics; words = s.words })) (enters subs' (key_at p) _ [] (is_key p)) in
      let ended = over in_key (given p in_key s.statics s.words k) in
      let has = reads_at (read_from (Value k) (print_at p)) s.statics s.words 0 in
      let calls = subst (λ z. Path subs' (keys_behind 1 keys) deep 1 (over frames_below asks_key) z) inside (path_of_way subs' (keys_behind 1 keys) deep 1 (over frames_below asks_key) began (way_opens subs' (over frames_below asks_key) (key_at p) [] key_call)) in
      let shift : (i : ℕ) → keys_two i ≡ keys (2 + i) = λ i. behind_at 2 i keys in
      let waited = path_weaker subs' keys_two deep (suc deep) key_steps (first_state p in_key s.statics s.words 0) ended (omega arith)
      (key_path p in_key s.statics s.words keys_two m l k (λ j h. shift (9 + 13 * j) ∙ ap keys (let e : 2 + (9 + 13 * j) ≡ 11 + 13 * j = omega arith in e) ∙ is.none j h)
      (shift (9 + 13 * m) ∙ ap keys (let e : 2 + (9 + 13 * m) ≡ 11 + 13 * m = omega arith in e) ∙ is.pressed) is.some
      (λ i h. subst (λ z. 0 < z) (sym (shift (22 + 13 * m + 9 * i) ∙ ap keys (let e : 2 + (22 + 13 * m + 9 * i) ≡ 24 + 13 * m + 9 * i = omega arith in e))) (is.held i h))
      (shift (22 + 13 * m + 9 * l) ∙ ap keys (let e : 2 + (22 + 13 * m + 9 * l) ≡ 24 + 13 * m + 9 * l = omega arith in e) ∙ is.released)) in
      let keys3 = keys_behind key_steps keys_two in
      let back = path_one subs' keys3 deep ended (over frames_below has) (omega arith) refl in
      let shown = path_of_way subs' (keys_behind 1 keys3) deep 2 (over frames_below has) at_print (way_of_run subs' frames_below 2 has asks_print (to_print subs' (read_at p) s.statics s.words (print_at p) k)) in
      subst (λ z. Path subs' (keys_behind 1 keys) deep (1 + (key_steps + (1 + 2))) z at_print) (sym entered)
      (path_then subs' (keys_behind 1 keys) deep 1 (key_steps + (1 + 2)) (over frames_below asks_key) (first_state p in_key s.statics s.words 0) at_print calls
      (path_then subs' keys_two deep key_steps (1 + 2) (first_state p in_key s.statics s.words 0) ended at_print waited (path_then subs' keys3 deep 1 2 ended (over frames_below has) at_print back shown)))

  -- the call of printChar comes back, and then this call
  pub reads_by : (n : ℕ) → n ≤ 1800 → (ss ws : List ℕ) → Returns subs' at_print n (record (given_back at_print print_call.caller print_call.below 0) { statics = ss; words = ws }) → Reads p s c keys m l k ss ws
  reads_by n few ss ws printed_back =
      let shown = reads_at (shows (Value 0)) ss ws k in
      let end = reads_at (returns_value 3 k End) ss ws k in
      let last : State = record (given_back s c.caller c.below k) { statics = ss; words = ws } in
      let begin = 1 + (key_steps + (1 + 2)) in
      let keys4 = keys_behind begin (keys_behind 1 keys) in
      let printing_path = path_of_way subs' keys4 deep n at_print (over frames_below shown) (way_of_call subs' deep n at_print (over frames_below shown) (omega arith) printed_back) in
      let keys5 = keys_behind n keys4 in
      let ending = path_of_way subs' keys5 deep 2 (over frames_below shown) (over frames_below end) (way_of_run subs' frames_below 2 shown end (printed subs' (read_at p) ss ws k)) in
      let whole : Path subs' (keys_behind 1 keys) deep (begin + (n + (2 + 1))) opening last =
      path_then subs' (keys_behind 1 keys) deep begin (n + (2 + 1)) opening at_print last to_print_call
      (path_then subs' keys4 deep n (2 + 1) at_print (over frames_below shown) last printing_path
      (path_then subs' keys5 deep 2 1 (over frames_below shown) (over frames_below end) last ending (path_one subs' (keys_behind 2 keys5) deep (over frames_below end) last (omega arith) refl))) in
      let frames : suc (length c.below) ≡ length s.frames = sym (ap length c.frames) in
      let opens = path_of_way subs' keys (suc (length c.below)) 1 s opening (way_opens subs' s (read_at p) [] c) in (
        1 + (begin + (n + (2 + 1))),
        omega (arith, few),
        returns_under subs' keys (begin + (n + (2 + 1))) s opening last (subst (λ d. Path subs' keys d 1 s opening) frames opens) (subst (λ d. Path subs' (keys_behind 1 keys) (suc d) (begin + (n + (2 + 1))) opening last) frames whole) frames,
      )

module _ {core : Core} (p : IsShipped core) (s : State) where
  pressed_law : PressedLaw p s
  pressed_law c keys = pressed_returns p s c keys

  read_law : ReadLaw p s
  read_law h row column k glyph word line back cursor has c keys m l is =
      let printed_now = printing.print_law p (at_print p s c keys m l k is) h row column k glyph word line back cursor (record { place = has.place; inside = has.inside; words = has.words }) (print_call p s c keys m l k is) in
      let words = printed_now.0 in
      let (n, few, returned) = printed_now.2 in
      (words, printed_now.1, reads_by p s c keys m l k is n few (with_cursor h s.statics (row_after row column) (column_after column)) words returned)

  read_line_law : ReadLineLaw p s
  read_line_law h row column cursor c keys m l is =
      let (n, few, returned) = printing.print_line_law p (at_print p s c keys m l 128 is) h row column cursor (print_call p s c keys m l 128 is) in
      reads_by p s c keys m l 128 is n (omega (arith, few)) (with_cursor h s.statics ((row + 1) % 23) 0) s.words returned

  read_back_law : ReadBackLaw p s
  read_back_law h row column glyph cursor has c keys m l is =
      let printings : PrintLaws = printing.law in
      let printed_now =
      printings.print_back p (at_print p s c keys m l 129 is) h row column glyph cursor (record { place = has.place; inside = has.inside; words = has.words }) (print_call p s c keys m l 129 is) in
      let words = printed_now.0 in
      let (n, few, returned) = printed_now.2 in
      (words, printed_now.1, reads_by p s c keys m l 129 is n few (with_cursor h s.statics (row_before row column) (column_before row column)) words returned)

pub law : KeyLaws
law = record { pressed = λ p s. pressed_law p s; read = λ p s. read_law p s; read_line = λ p s. read_line_law p s; read_back = λ p s. read_back_law p s }
