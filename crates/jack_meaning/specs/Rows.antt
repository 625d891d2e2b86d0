-- Small programs and where their steps lead, and what the bounds of a run and of a program are for small ones, by computation.
use Rattle.std.specs.Prelude.{◌≡◌, ℕ, ◌-◌, true, false, List, [], ◌∷◌, slice_index, Some, option_map}
use Rattle.jack_meaning.specs.Text.{Argument, Local, Static, Minus, Complement, ShiftLeft, ShiftRight, Plus, Subtract, Less, Expression, Literal, Value, Name, This, Unary, Binary, Load, Call, Open, NoMore, More, Statement, Let, LetField, LetThis, Store, Do, If, While, Return, text_of, Constructor, Function, Method, Subroutine, Class, Program}
use Rattle.jack_meaning.specs.Meaning.{Frame, State, Outcome, Stray, Done, step, point_of}
use Rattle.jack_meaning.specs.StackWords.{stack_words}
use Rattle.jack_meaning.specs.Linked.{IsLinked}
use Rattle.jack_meaning.specs.Gap.{nest_in, IsGap}
use Rattle.simulation.specs.System.{Listening, first_key}
use Rattle.jack_meaning.specs.Level.{run, IsTame}

-- the point, and the word at an address
abbrev pub state_seen : ℕ → Listening State → (ℕ × ℕ) × ℕ
state_seen a l = (point_of l.state.frames, slice_index l.state.words (a - 2048))

-- After m steps over these keys, the program is at this point, and the word at an address is this one.
abbrev pub IsAt : Program → List ℕ → ℕ → ℕ × ℕ → ℕ → ℕ → Type 0
IsAt program keys m point a w = option_map (state_seen a) (run program keys m) ≡ Some (point, w)

-- After m steps over these keys there is no further one, for this reason.
abbrev pub IsLast : Program → List ℕ → ℕ → Outcome → Type 0
IsLast program keys m o = option_map (λ l. step program.subroutines (first_key l.keys) l.state) (run program keys m) ≡ Some o

-- a function without arguments
abbrev pub function : ℕ → ℕ → List Statement → Subroutine
function class locals ss = record { kind = Function; class = class; arguments = 0; locals = locals; body = text_of ss }

abbrev pub class_of : ℕ → ℕ → Class
class_of fields statics = record { fields = fields; statics = statics }

-- `Sys.init` is `do Main.main(); return;`, and the other subroutines are given: 2 is `Main.main`.
abbrev pub small : List Class → List Subroutine → Program
small classes others = record {
  classes = classes;
  subroutines = function 0 0 [] ∷ function 0 0 (Do 1 (Call 2 NoMore) ∷ Return 2 (Literal 0) ∷ []) ∷ others;
  init = 1;
}

-- `Main.main` is `var Array s; var int i; let s = a; ..`
abbrev pub main : ℕ → List Statement → Program
main a ss = small (class_of 0 0 ∷ class_of 0 0 ∷ []) (function 1 2 (Let 1 (Local 0) (Literal a) ∷ ss) ∷ [])

abbrev pub s_at : ℕ → ℕ → Expression → Statement
s_at n k e = Store n (Name (Local 0)) (Literal k) e

-- let s[0] = 1; return;
abbrev pub stores_one : ℕ → Program
stores_one a = main a (s_at 2 0 (Literal 1) ∷ Return 3 (Literal 0) ∷ [])

-- class Memory { function int alloc(int n) { return 2048; } }
-- class Main { field int x; constructor Main new() { let x = 5; return this; } function void main() { var Main m; let m = Main.new(); return; } }
abbrev pub makes_one : Program
makes_one =
    small (class_of 0 0 ∷ class_of 0 0 ∷ class_of 1 0 ∷ []) (
    function 2 1 (Let 1 (Local 0) (Call 3 NoMore) ∷ Return 2 (Literal 0) ∷ [])
    ∷ record { kind = Constructor; class = 2; arguments = 0; locals = 0; body = text_of (LetThis 0 (Call 4 (More (Literal 1) NoMore)) ∷ LetField 1 0 (Literal 5) ∷ Return 2 This ∷ []) }
    ∷ record { kind = Function; class = 1; arguments = 1; locals = 0; body = text_of (Return 1 (Literal 2048) ∷ []) }
    ∷ []
    )

-- `Sys.init` begins `do Memory.init();`, which is let free = 2048; let h = free; let h[0] = 14336; let h[1] = 0; return;
abbrev pub lays_heap : Program
lays_heap = record {
  classes = class_of 0 0 ∷ class_of 0 1 ∷ [];
  subroutines =
      function 0 0 []
      ∷ function 0 0 (Do 1 (Call 2 NoMore) ∷ Return 2 (Literal 0) ∷ [])
      ∷ function 1 1 (Let 1 (Static 0) (Literal 2048) ∷ Let 2 (Local 0) (Name (Static 0)) ∷ s_at 3 0 (Literal 14336) ∷ s_at 4 1 (Literal 0) ∷ Return 5 (Literal 0) ∷ [])
      ∷ [];
  init = 1;
}

-- if (2) { let s[0] = 1; } else { let s[0] = 2; } if (~2) { let s[1] = 1; } else { let s[1] = 2; }
abbrev pub chooses : Program
chooses =
    main 16384 (
    If 2 true (Literal 2) (text_of (s_at 3 0 (Literal 1) ∷ [])) (text_of (s_at 4 0 (Literal 2) ∷ []))
    ∷ If 5 true (Unary Complement (Literal 2)) (text_of (s_at 6 1 (Literal 1) ∷ [])) (text_of (s_at 7 1 (Literal 2) ∷ []))
    ∷ Return 8 (Literal 0)
    ∷ []
    )

-- let s[0] = ~32767;
abbrev pub inverts : Program
inverts = main 16384 (s_at 2 0 (Unary Complement (Literal 32767)) ∷ Return 3 (Literal 0) ∷ [])

-- let s[0] = ^5; let s[1] = #(-5);
abbrev pub shifts : Program
shifts = main 16384 (s_at 2 0 (Unary ShiftLeft (Literal 5)) ∷ s_at 3 1 (Unary ShiftRight (Unary Minus (Literal 5))) ∷ Return 4 (Literal 0) ∷ [])

-- let s[0] = 20000 < (-20000); let s[1] = (-20000) < 20000;
abbrev pub compares : Program
compares =
    main 16384 (
    s_at 2 0 (Binary Less (Literal 20000) (Unary Minus (Literal 20000)))
    ∷ s_at 3 1 (Binary Less (Unary Minus (Literal 20000)) (Literal 20000))
    ∷ Return 4 (Literal 0)
    ∷ []
    )

-- let i = 3; while (i) { let s[i] = 7; let i = i - 1; }
abbrev pub loops : Program
loops =
    main 16384 (
    Let 2 (Local 1) (Literal 3)
    ∷ While 3 (Name (Local 1)) (text_of (Store 4 (Name (Local 0)) (Name (Local 1)) (Literal 7) ∷ Let 5 (Local 1) (Binary Subtract (Name (Local 1)) (Literal 1)) ∷ []))
    ∷ Return 6 (Literal 0)
    ∷ []
    )

-- let i = 24576; let s[0] = i[0]; let s[1] = i[0];
abbrev pub listens : Program
listens =
    main 16384 (
    Let 2 (Local 1) (Literal 24576)
    ∷ s_at 3 0 (Load (Name (Local 1)) (Literal 0))
    ∷ s_at 4 1 (Load (Name (Local 1)) (Literal 0))
    ∷ Return 5 (Literal 0)
    ∷ []
    )

-- a method `get(x)` is `return this - x;`, and `Main.main` does let s[0] = get(58) on the object 100
abbrev pub asks : Program
asks =
    small (class_of 0 0 ∷ class_of 0 0 ∷ []) (
    function 1 1 (Let 1 (Local 0) (Literal 16384) ∷ s_at 2 0 (Call 3 (More (Literal 100) (More (Literal 58) NoMore))) ∷ Return 3 (Literal 0) ∷ [])
    ∷ record { kind = Method; class = 1; arguments = 2; locals = 0; body = text_of (Return 1 (Binary Subtract This (Name (Argument 1))) ∷ []) }
    ∷ []
    )

-- After m steps over these keys, the frames may want this many words of the stack.
abbrev pub Wants : Program → List ℕ → ℕ → ℕ → Type 0
Wants program keys m w = option_map (λ l. stack_words l.state.frames) (run program keys m) ≡ Some w

-- After m steps over these keys, those are still to be heard.
abbrev pub Leaves : Program → List ℕ → ℕ → List ℕ → Type 0
Leaves program keys m left = option_map (λ l. l.keys) (run program keys m) ≡ Some left

-- class Main { function void main() { do Main.main(); return; } }, where `Sys.init` has this many
-- locals
abbrev pub calls_itself : ℕ → Program
calls_itself locals = record {
  classes = class_of 0 0 ∷ class_of 0 0 ∷ [];
  subroutines =
      function 0 0 []
      ∷ function 0 locals (Do 1 (Call 2 NoMore) ∷ Return 2 (Literal 0) ∷ [])
      ∷ function 1 0 (Do 1 (Call 2 NoMore) ∷ Return 2 (Literal 0) ∷ [])
      ∷ [];
  init = 1;
}

-- a frame with this text, and with as many arguments and locals as these lists have words
abbrev pub frame_of : List ℕ → List ℕ → List Statement → Frame
frame_of arguments locals ss = record { subroutine = 2; arguments = arguments; locals = locals; this = 0; text = text_of ss }

-- 2 arguments, 3 locals, and the text let x = 3 + (4 + 5), of which 3 and 4 are values already
abbrev pub adding : Frame
adding = frame_of (1 ∷ 2 ∷ []) (0 ∷ 0 ∷ 0 ∷ []) (Let 1 (Local 0) (Binary Plus (Value 3) (Binary Plus (Value 4) (Literal 5))) ∷ Return 2 (Literal 0) ∷ [])

-- no arguments, 1 local, and the text do f(8, g()), where 8 is a value and the call of g is open
abbrev pub calling : Frame
calling = frame_of [] (0 ∷ []) (Do 1 (Call 3 (More (Value 8) (More Open NoMore))) ∷ Return 2 (Literal 0) ∷ [])

-- neither arguments nor locals, and the text let 100[0] = -1, of which 100, 0 and 1 are values
abbrev pub storing : Frame
storing = frame_of [] [] (Store 1 (Value 100) (Value 0) (Unary Minus (Value 1)) ∷ Return 2 (Value 7) ∷ [])

-- the frame `start`: its call is open, or has returned 7
abbrev pub open_start : Frame
open_start = frame_of [] [] (Do 1 Open ∷ [])

abbrev pub closed_start : Frame
closed_start = frame_of [] [] (Do 1 (Value 7) ∷ [])

-- while (x) { if (x) { do Main.f(Main.g()); } }
abbrev pub loop_with_choice : Statement
loop_with_choice = While 1 (Name (Local 0)) (text_of (If 2 false (Name (Local 0)) (text_of (Do 3 (Call 3 (More (Call 4 NoMore) NoMore)) ∷ [])) (text_of []) ∷ []))

-- if (1) { } else { while (1) { } } while (1) { }
abbrev pub in_else : List Statement
in_else = If 1 true (Literal 1) (text_of []) (text_of (While 2 (Literal 1) (text_of []) ∷ [])) ∷ While 3 (Literal 1) (text_of []) ∷ []

-- `Main.main` is `var int x;` and the loop above, `Main.f` has three locals, and `Main.g` none. Nothing calls the last subroutine, which has nine
-- locals, deeper loops, and a call of its own.
abbrev pub calls_some : Program
calls_some =
    small (class_of 0 0 ∷ class_of 0 0 ∷ []) (
    function 1 1 (loop_with_choice ∷ Return 4 (Literal 0) ∷ [])
    ∷ record { kind = Function; class = 1; arguments = 1; locals = 3; body = text_of (Return 1 (Literal 0) ∷ []) }
    ∷ function 1 0 (Return 1 (Literal 1) ∷ [])
    ∷ function 1 9 (While 1 (Literal 1) (text_of (loop_with_choice ∷ [])) ∷ Do 5 (Call 5 NoMore) ∷ Return 6 (Literal 0) ∷ [])
    ∷ []
    )

pub record RowsLaw : Type 0 where
  -- 14 steps, and `start` has no statement left
  pub store : IsAt (stores_one 16384) [] 14 (0, 2) 16384 1
  pub store_done : IsLast (stores_one 16384) [] 14 Done
  -- 100 is no address of heap or screen: the store makes no step
  pub outside : IsAt (stores_one 100) [] 7 (2, 2) 16384 0
  pub outside_stray : IsLast (stores_one 100) [] 7 (Stray 100)
  -- a constructor takes its memory by a call, as its statement 0
  pub taking : IsAt makes_one [] 3 (3, 0) 2048 0
  pub making : IsAt makes_one [] 19 (0, 2) 2048 5
  pub making_done : IsLast makes_one [] 19 Done
  -- the first steps of the operating system
  pub first : IsAt lays_heap [] 1 (1, 1) 2048 0
  pub second : IsAt lays_heap [] 2 (2, 1) 2048 0
  pub ninth : IsAt lays_heap [] 9 (2, 3) 2048 0
  pub tenth : IsAt lays_heap [] 10 (2, 4) 2048 14336
  -- any value but 0 is true, also where its complement is true as well
  pub choice : IsAt chooses [] 23 (0, 2) 16384 1
  pub complement_choice : IsAt chooses [] 23 (0, 2) 16385 1
  pub inverse : IsAt inverts [] 15 (0, 2) 16384 32768
  -- half of -5 is rounded down to -3
  pub shifted_left : IsAt shifts [] 21 (0, 2) 16384 10
  pub shifted_right : IsAt shifts [] 21 (0, 2) 16385 65533
  -- -20000 is below 20000, though their difference is not a word
  pub not_less : IsAt compares [] 24 (0, 2) 16384 0
  pub less : IsAt compares [] 24 (0, 2) 16385 65535
  -- three turns
  pub last_turn : IsAt loops [] 44 (0, 2) 16385 7
  pub first_turn : IsAt loops [] 44 (0, 2) 16387 7
  pub no_turn : IsAt loops [] 44 (0, 2) 16384 0
  -- each load at 24576 takes a key; past the last key it is 0
  pub key : IsAt listens (65 ∷ []) 24 (0, 2) 16384 65
  pub no_key : IsAt listens (65 ∷ []) 24 (0, 2) 16385 0
  pub two_keys : IsAt listens (65 ∷ 66 ∷ []) 24 (0, 2) 16385 66
  -- a method's object is its first argument
  pub method : IsAt asks [] 20 (0, 2) 16384 42
  -- What is heard: a key goes with the step that loads it, and not before.
  pub unheard : Leaves listens (65 ∷ 66 ∷ 67 ∷ []) 10 (65 ∷ 66 ∷ 67 ∷ [])
  pub one_heard : Leaves listens (65 ∷ 66 ∷ 67 ∷ []) 11 (66 ∷ 67 ∷ [])
  pub still_one : Leaves listens (65 ∷ 66 ∷ 67 ∷ []) 16 (66 ∷ 67 ∷ [])
  pub two_heard : Leaves listens (65 ∷ 66 ∷ 67 ∷ []) 17 (67 ∷ [])
  pub heard_in_all : Leaves listens (65 ∷ 66 ∷ 67 ∷ []) 24 (67 ∷ [])
  -- The words of the stack: 2 arguments, 3 locals, two values and five words for the call; an open call is no value, and `start` is no call.
  pub words_of_adding : stack_words (adding ∷ open_start ∷ []) ≡ 12
  pub words_of_both : stack_words (adding ∷ calling ∷ open_start ∷ []) ≡ 19
  pub words_of_storing : stack_words (storing ∷ open_start ∷ []) ≡ 8
  pub words_of_start : stack_words (closed_start ∷ []) ≡ 1
  -- A run is tame as long as it goes on and eight words are to spare: 1,784 words are tame, and 1,785 are not.
  pub tame_store : IsTame (stores_one 16384) [] 14
  pub no_further : IsTame (stores_one 16384) [] 15 → ⊥
  pub tame_before_stray : IsTame (stores_one 100) [] 7
  pub stray_not_tame : IsTame (stores_one 100) [] 8 → ⊥
  pub wants_much : Wants (calls_itself 0) [] 356 1780
  pub tame_still : IsTame (calls_itself 0) [] 356
  pub wants_too_much : Wants (calls_itself 0) [] 357 1785
  pub tame_no_more : IsTame (calls_itself 0) [] 357 → ⊥
  pub wants_most : Wants (calls_itself 4) [] 356 1784
  pub tame_at_most : IsTame (calls_itself 4) [] 356
  -- An `if` in a `while` is nested two deep, and so is a `while` in an `else`; what follows it is not deeper.
  pub depth_of_choice : nest_in (text_of (loop_with_choice ∷ [])) ≡ 2
  pub depth_in_else : nest_in (text_of in_else) ≡ 2
  pub depth_of_none : nest_in (text_of (Return 1 (Literal 0) ∷ [])) ≡ 0
  -- What is linked: `Sys.init`, what it calls, and what that calls, as an argument of a call too; not `start`, and not what nothing linked calls.
  pub linked_init : IsLinked calls_some 1
  pub linked_main : IsLinked calls_some 2
  pub linked_outer : IsLinked calls_some 3
  pub linked_inner : IsLinked calls_some 4
  pub not_start : IsLinked calls_some 0 → ⊥
  pub not_last : IsLinked calls_some 5 → ⊥
  -- The gap is that of the linked ones: three locals and two deep.
  pub gap_of_linked : IsGap calls_some 148
