-- The meaning of a program: each step rewrites the text of the top frame. (The language of chapter 9, as the compiler of
-- chapters 10 and 11 reads it.) There is no stack of words and no address of code or of a variable.
use Rattle.std.specs.Prelude.{ℕ, zero, suc, ◌-◌, Bool, false, nat_lt, if◌then◌else◌, List, [], ◌∷◌, replicate, get_or, slice_index, slice_set, sum_by}
use Rattle.word16.specs.Memory.{heap, keyboard, heap_and_screen_size}
use Rattle.word16.specs.Words.{word_add}
use Rattle.jack_meaning.specs.Text.{Variable, Argument, Local, Static, Expression, Call, NoMore, Statement, Let, LetField, LetThis, Store, Do, If, While, Return, Text, End, Next, joined_text, number_of, Kind, Constructor, Function, Method, Subroutine, Program}
use Rattle.jack_meaning.specs.Expressions.{Move, Stands, Rewrites, Calls, Strays, View, value_of, rewrite, filled}

-- a call that was made and has not returned: its variables, its object, and the rest of its text
pub record Frame : Type 0 where
  pub subroutine : ℕ
  pub arguments : List ℕ
  pub locals : List ℕ
  pub this : ℕ
  pub text : Text

-- the frames, the top one first; the statics; the words of heap and screen
pub record State : Type 0 where
  pub frames : List Frame
  pub statics : List ℕ
  pub words : List ℕ

-- what a step comes to
pub data Outcome : Type 0 where
  -- the next state; whether the key was heard
  Acts : Bool → State → Outcome
  -- there is no step: an address outside the memory
  Stray : ℕ → Outcome
  -- there is no step: no statement is left
  Done : Outcome

abbrev pub view_of : ℕ → State → Frame → View
view_of key s f = record { arguments = f.arguments; locals = f.locals; this = f.this; statics = s.statics; words = s.words; key = key }

-- the state with this top frame over those below
abbrev pub with_top : State → List Frame → Frame → State
with_top s below f = record s { frames = f ∷ below }

-- the subroutine of a number
abbrev pub subroutine_at : List Subroutine → ℕ → Subroutine
subroutine_at subs g = get_or subs g (record { kind = Function; class = 0; arguments = 0; locals = 0; body = End })

-- `this` of a new frame: a method's object is its first argument
abbrev pub this_of : Kind → List ℕ → ℕ
this_of Method xs = slice_index xs 0
this_of Function xs = 0
this_of Constructor xs = 0

-- the frame of a call: its arguments, and locals that are 0
abbrev pub new_frame : List Subroutine → ℕ → List ℕ → Frame
new_frame subs g xs = record {
  subroutine = g;
  arguments = xs;
  locals = replicate (subroutine_at subs g).locals 0;
  this = this_of (subroutine_at subs g).kind xs;
  text = (subroutine_at subs g).body;
}

-- only the first statement of a text can have an open call
abbrev pub filled_first : ℕ → Statement → Statement
filled_first w (Let n x e) = Let n x (filled w e)
filled_first w (LetField n k e) = LetField n k (filled w e)
filled_first w (LetThis n e) = LetThis n (filled w e)
filled_first w (Store n a i e) = Store n (filled w a) (filled w i) (filled w e)
filled_first w (Do n e) = Do n (filled w e)
filled_first w (If n o c a b) = If n o (filled w c) a b
filled_first w (While n c s) = While n c s
filled_first w (Return n e) = Return n (filled w e)

abbrev pub filled_text : ℕ → Text → Text
filled_text w End = End
filled_text w (Next s rest) = Next (filled_first w s) rest

-- A part of the first statement moves, and the statement with it. Where the part is a value already, it is the turn of what comes after it.
abbrev pub step_part : {A : Type 0} → List Subroutine → State → Frame → List Frame → Move A → (A → Text) → Outcome → Outcome
step_part subs s f below Stands whole after = after
step_part subs s f below (Rewrites heard a) whole after = Acts heard (with_top s below (record f { text = whole a }))
step_part subs s f below (Calls g xs a) whole after =
    Acts false (with_top s (record f { text = whole a } ∷ below) (new_frame subs g xs))
step_part subs s f below (Strays a) whole after = Stray a

-- the first statement is done, and nothing else changes
abbrev pub passed_over : State → Frame → List Frame → Text → Outcome
passed_over s f below rest = Acts false (with_top s below (record f { text = rest }))

-- a variable gets a value
abbrev pub after_assignment : State → Frame → List Frame → Text → Variable → ℕ → Outcome
after_assignment s f below rest (Argument k) w = Acts false (with_top s below (record f { text = rest; arguments = slice_set f.arguments k w }))
after_assignment s f below rest (Local k) w = Acts false (with_top s below (record f { text = rest; locals = slice_set f.locals k w }))
after_assignment s f below rest (Static k) w = passed_over (record s { statics = slice_set s.statics k w }) f below rest

-- the word at an address of heap or screen is replaced
abbrev pub after_store : State → Frame → List Frame → Text → ℕ → ℕ → Outcome
after_store s f below rest a w =
    if nat_lt a heap then Stray a
    else (if nat_lt a keyboard then passed_over (record s { words = slice_set s.words (a - heap) w }) f below rest
    else Stray a)

-- the top frame is taken off, and its value stands in place of the caller's open call
abbrev pub after_return : State → List Frame → ℕ → Outcome
after_return s [] w = Done
after_return s (f ∷ below) w = Acts false (with_top s below (record f { text = filled_text w f.text }))

-- any value but 0 takes the first branch
abbrev pub text_chosen : ℕ → Text → Text → Text
text_chosen zero a b = b
text_chosen (suc w) a b = a

-- a loop, read as a choice: its statements and then the loop again, or nothing
abbrev pub turn_of : ℕ → Expression → Text → Text
turn_of n c s = joined_text s (Next (While n c s) End)

-- One step of the frame `f` over the frames `below`, by its first statement. Its leftmost innermost part that is no value moves, or
-- where all its parts are values it acts.
abbrev pub step_first : List Subroutine → ℕ → State → Frame → List Frame → Text → Outcome
step_first subs key s f below End = Done
step_first subs key s f below (Next (Let n x e) rest) =
    step_part subs s f below (rewrite (view_of key s f) e) (λ e'. Next (Let n x e') rest)
    (after_assignment s f below rest x (value_of e))
step_first subs key s f below (Next (LetField n k e) rest) =
    step_part subs s f below (rewrite (view_of key s f) e) (λ e'. Next (LetField n k e') rest)
    (after_store s f below rest (word_add f.this k) (value_of e))
step_first subs key s f below (Next (LetThis n e) rest) =
    step_part subs s f below (rewrite (view_of key s f) e) (λ e'. Next (LetThis n e') rest)
    (passed_over s (record f { this = value_of e }) below rest)
step_first subs key s f below (Next (Store n a i e) rest) =
    step_part subs s f below (rewrite (view_of key s f) a) (λ a'. Next (Store n a' i e) rest)
    (step_part subs s f below (rewrite (view_of key s f) i) (λ i'. Next (Store n a i' e) rest)
    (step_part subs s f below (rewrite (view_of key s f) e) (λ e'. Next (Store n a i e') rest)
    (after_store s f below rest (word_add (value_of a) (value_of i)) (value_of e))))
step_first subs key s f below (Next (Do n e) rest) =
    step_part subs s f below (rewrite (view_of key s f) e) (λ e'. Next (Do n e') rest)
    (passed_over s f below rest)
step_first subs key s f below (Next (If n o c a b) rest) =
    step_part subs s f below (rewrite (view_of key s f) c) (λ c'. Next (If n o c' a b) rest)
    (passed_over s f below (joined_text (text_chosen (value_of c) a b) rest))
step_first subs key s f below (Next (While n c a) rest) =
    step_part subs s f below (rewrite (view_of key s f) c) (λ c'. Next (If n false c' (turn_of n c a) End) rest)
    (passed_over s f below (joined_text (text_chosen (value_of c) (turn_of n c a) End) rest))
step_first subs key s f below (Next (Return n e) rest) =
    step_part subs s f below (rewrite (view_of key s f) e) (λ e'. Next (Return n e') rest)
    (after_return s below (value_of e))

abbrev pub step_frames : List Subroutine → ℕ → State → List Frame → Outcome
step_frames subs key s [] = Done
step_frames subs key s (f ∷ below) = step_first subs key s f below f.text

-- One step under a key, which a load at the keyboard's address hears.
abbrev pub step : List Subroutine → ℕ → State → Outcome
step subs key s = step_frames subs key s s.frames

-- the statics of all classes
abbrev pub statics_of : Program → ℕ
statics_of program = sum_by (λ c. c.statics) program.classes

-- The start: the one frame `start` with the text `do Sys.init();`, and every word 0.
abbrev pub start_text : ℕ → Text
start_text init = Next (Do 1 (Call init NoMore)) End

abbrev pub start : Program → State
start program = record {
  frames = record { subroutine = 0; arguments = []; locals = []; this = 0; text = start_text program.init } ∷ [];
  statics = replicate (statics_of program) 0;
  words = replicate heap_and_screen_size 0;
}

-- The control point: the top frame's subroutine and the number of its first statement. `start` with no statement left is at 2.
abbrev pub text_point : Text → ℕ
text_point End = 2
text_point (Next s rest) = number_of s

abbrev pub point_of : List Frame → ℕ × ℕ
point_of [] = (0, 2)
point_of (f ∷ below) = (f.subroutine, text_point f.text)
