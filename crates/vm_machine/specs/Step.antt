-- What each command does. (The book, chapters 7 and 8.)
use Rattle.std.specs.Prelude.{ℕ, ◌+◌, ◌-◌, Bool, true, false, nat_lt, nat_eq, if◌then◌else◌, List, [], ◌∷◌, length, Option, Some, None, slice_get, slice_index, slice_set, take, drop, reverse, replicate, unwrap_or, bit_and, bit_or}
use Rattle.word16.specs.Memory.{heap, keyboard, heap_and_screen_size}
use Rattle.word16.specs.Words.{word_add, word_sub, word_neg, word_not, word_shl, word_shr, word_eq, word_lt, word_gt}
use Rattle.vm_tree.specs.declared.command.Operation.{Operation}
use Rattle.vm_tree.specs.declared.command.Operation.TheVariants.{Add, Sub, Neg, Eq, Gt, Lt, And, Or, Not, ShiftLeft, ShiftRight}
use Rattle.vm_tree.specs.declared.command.Segment.{Segment}
use Rattle.vm_tree.specs.declared.command.Segment.TheVariants as segment
use Rattle.vm_link.specs.declared.linked.Step.{Step}
use Rattle.vm_link.specs.declared.linked.Step.TheVariants as command
use Rattle.vm_link.specs.declared.linked.Code.{Code}
use Rattle.vm_link.specs.declared.linked.LinkedFunction.{LinkedFunction}
use Rattle.vm_link.specs.declared.linked.Linked.{Linked}
use Rattle.machine_io.specs.declared.machine.Stray.{Stray}
use Rattle.machine_io.specs.declared.machine.Stray.TheVariants as stray
use Rattle.vm_machine.specs.State.{Frame, State, words_in_use}

-- what a step comes to
pub data Outcome : Type 0 where
  -- the next state; whether the key was heard
  Acts : Bool → State → Outcome
  -- there is no step, and why
  Strays : Stray → Outcome
  -- there is no step: the stack would have this many words
  Full : ℕ → Outcome
  -- there is no step: `start` has no command left
  Done : Outcome

-- the innermost frame goes on as f
abbrev pub goes : State → List Frame → Frame → Outcome
goes s below f = Acts false (record s { frames = f ∷ below })

-- the next command, over these values
abbrev pub after : Frame → List ℕ → Frame
after f values = record f { place = f.place + 1; values = values }

-- one more value
abbrev pub push_outcome : Bool → State → Frame → List Frame → ℕ → Outcome
push_outcome heard s f below w = Acts heard (record s { frames = after f (w ∷ f.values) ∷ below })

-- what is done with the topmost value and those below it
abbrev pub on_top : List ℕ → (ℕ → List ℕ → Outcome) → Outcome
on_top [] act = Strays stray.Values
on_top (w ∷ values) act = act w values

-- what is done with the two topmost values, x below y
abbrev pub on_two : List ℕ → (ℕ → ℕ → List ℕ → Outcome) → Outcome
on_two [] act = Strays stray.Values
on_two (y ∷ []) act = Strays stray.Values
on_two (y ∷ x ∷ values) act = act x y values

-- what is done with a word that may not be there
abbrev pub on_word : Stray → Option ℕ → (ℕ → Outcome) → Outcome
on_word why None act = Strays why
on_word why (Some w) act = act w

-- the topmost value becomes another
abbrev pub unary_outcome : (ℕ → ℕ) → State → Frame → List Frame → Outcome
unary_outcome op s f below = on_top f.values (λ x values. goes s below (after f (op x ∷ values)))

-- the two topmost values become one
abbrev pub binary_outcome : (ℕ → ℕ → ℕ) → State → Frame → List Frame → Outcome
binary_outcome op s f below = on_two f.values (λ x y values. goes s below (after f (op x y ∷ values)))

-- an operation makes a word of the topmost value, or of the two topmost, x below y
pub data Combination : Type 0 where
  Unary : (ℕ → ℕ) → Combination
  Binary : (ℕ → ℕ → ℕ) → Combination

-- Sums, differences and negation modulo 65,536. Words are compared by their signed readings, and true is -1. (Shifts are not the book's.)
abbrev pub combination_of : Operation → Combination
combination_of Add = Binary word_add
combination_of Sub = Binary word_sub
combination_of Neg = Unary word_neg
combination_of Eq = Binary word_eq
combination_of Gt = Binary word_gt
combination_of Lt = Binary word_lt
combination_of And = Binary bit_and
combination_of Or = Binary bit_or
combination_of Not = Unary word_not
combination_of ShiftLeft = Unary word_shl
combination_of ShiftRight = Unary word_shr

abbrev pub combined_outcome : Combination → State → Frame → List Frame → Outcome
combined_outcome (Unary op) s f below = unary_outcome op s f below
combined_outcome (Binary op) s f below = binary_outcome op s f below

abbrev pub operate : Operation → State → Frame → List Frame → Outcome
operate o s f below = combined_outcome (combination_of o) s f below

-- the word at an address is pushed: that of heap or screen, and at the keyboard's address the key
abbrev pub load : ℕ → ℕ → State → Frame → List Frame → Outcome
load key a s f below =
    if nat_lt a heap then Strays (stray.Address a)
    else (if nat_lt a keyboard then push_outcome false s f below (slice_index s.words (a - heap))
    else (if nat_eq a keyboard then push_outcome true s f below key else Strays (stray.Address a)))

-- the word at an address of heap or screen is replaced
abbrev pub store : ℕ → ℕ → List ℕ → State → Frame → List Frame → Outcome
store a w values s f below =
    if nat_lt a heap then Strays (stray.Address a)
    else (if nat_lt a keyboard then goes (record s { words = slice_set s.words (a - heap) w }) below (after f values)
    else Strays (stray.Address a))

-- No text has a number over 32,767, a pointer but 0 and 1, a temp word but 0 to 7, or a pop to constant. Such a command is no
-- command of the machine.
abbrev pub write_outcome : ℕ → Outcome → Outcome
write_outcome i outcome = if nat_lt i 32768 then outcome else Strays stray.Code

abbrev pub push : ℕ → Segment → ℕ → State → Frame → List Frame → Outcome
push key segment.Constant i s f below = write_outcome i (push_outcome false s f below i)
push key segment.Argument i s f below = on_word stray.Argument (slice_get f.arguments i) (push_outcome false s f below)
push key segment.Local i s f below = on_word stray.Local (slice_get f.locals i) (push_outcome false s f below)
push key segment.Static i s f below = on_word stray.Code (slice_get s.statics i) (push_outcome false s f below)
push key segment.Temp i s f below = on_word stray.Code (slice_get s.temps i) (push_outcome false s f below)
push key segment.Pointer i s f below = on_word stray.Code (slice_get (f.this ∷ f.that ∷ []) i) (push_outcome false s f below)
push key segment.This i s f below = write_outcome i (load key (word_add f.this i) s f below)
push key segment.That i s f below = write_outcome i (load key (word_add f.that i) s f below)

-- the word w goes to a segment, and these values are left
abbrev pub pop : Segment → ℕ → State → Frame → List Frame → ℕ → List ℕ → Outcome
pop segment.Constant i s f below w values = Strays stray.Code
pop segment.Argument i s f below w values =
    if nat_lt i (length f.arguments) then goes s below (record (after f values) { arguments = slice_set f.arguments i w }) else Strays stray.Argument
pop segment.Local i s f below w values =
    if nat_lt i (length f.locals) then goes s below (record (after f values) { locals = slice_set f.locals i w }) else Strays stray.Local
pop segment.Static i s f below w values =
    if nat_lt i (length s.statics) then goes (record s { statics = slice_set s.statics i w }) below (after f values) else Strays stray.Code
pop segment.Temp i s f below w values =
    if nat_lt i (length s.temps) then goes (record s { temps = slice_set s.temps i w }) below (after f values) else Strays stray.Code
pop segment.Pointer i s f below w values =
    if nat_eq i 0 then goes s below (record (after f values) { this = w })
    else (if nat_eq i 1 then goes s below (record (after f values) { that = w }) else Strays stray.Code)
pop segment.This i s f below w values = write_outcome i (store (word_add f.this i) w values s f below)
pop segment.That i s f below w values = write_outcome i (store (word_add f.that i) w values s f below)

-- the frame of a call: the n topmost values are its arguments, and its pointers are the caller's
abbrev pub called_frame : ℕ → ℕ → Frame → Frame
called_frame g n f = record {
  function = Some g;
  place = 0;
  arguments = reverse (take n f.values);
  locals = [];
  values = [];
  this = f.this;
  that = f.that;
}

abbrev pub call : ℕ → ℕ → State → Frame → List Frame → Outcome
call g n s f below =
    if nat_lt (length f.values) n then Strays stray.Values
    else goes s (after f (drop n f.values) ∷ below) (called_frame g n f)

-- The start of a function makes its locals. A call alone leads there, so that the frame has no locals and no values yet. (`start` has
-- no such command.)
abbrev pub begin : ℕ → List ℕ → List ℕ → State → Frame → List Frame → Outcome
begin n [] [] s f (g ∷ below) = goes s (g ∷ below) (record f { place = f.place + 1; locals = replicate n 0 })
begin n _ _ s f _ = Strays stray.Code

-- The frame is taken off, and its value goes to the caller, whose pointers are its own. (`start` has no return.)
abbrev pub return : List Frame → State → ℕ → List ℕ → Outcome
return [] s w values = Strays stray.Code
return (f ∷ below) s w values = goes s below (record f { values = w ∷ f.values })

-- what a command does, where this key is held
abbrev pub act : ℕ → Step → State → Frame → List Frame → Outcome
act key (command.Operate o) s f below = operate o s f below
act key (command.Push g i) s f below = push key g i s f below
act key (command.Pop g i) s f below = on_top f.values (pop g i s f below)
act key (command.Goto p) s f below = goes s below (record f { place = p })
act key (command.IfGoto p) s f below = on_top f.values (λ w values. goes s below (record f { place = if nat_eq w 0 then f.place + 1 else p; values = values }))
act key (command.Function n) s f below = begin n f.locals f.values s f below
act key (command.Call g n) s f below = call g n s f below
act key command.Return s f below = on_top f.values (return below s)

-- The stack has 1,792 words. Any other cause comes first.
abbrev pub fit_outcome : Outcome → Outcome
fit_outcome (Acts heard s) = if nat_lt 1792 (words_in_use s.frames) then Full (words_in_use s.frames) else Acts heard s
fit_outcome (Strays why) = Strays why
fit_outcome (Full w) = Full w
fit_outcome Done = Done

-- The code of `start`: a call of Sys.init, whose value is dropped. With that the statement `do Sys.init();` is done. Both commands are
-- commits where the program has some: the call and the end of the statement are steps of its meaning.
abbrev pub start_code : Bool → ℕ → List Code
start_code marked init =
    record { step = command.Call init 0; statement = 1; commit = marked }
    ∷ record { step = command.Pop segment.Temp 0; statement = 1; commit = marked } ∷ []

abbrev pub code_of : Option LinkedFunction → List Code
code_of None = []
code_of (Some f) = f.code

-- the code that a frame runs
abbrev pub code_in : Linked → Option ℕ → List Code
code_in l None = start_code l.marked (unwrap_or l.start 0)
code_in l (Some k) = code_of (slice_get l.functions k)

-- where no command is left
abbrev pub end_outcome : Option ℕ → Outcome
end_outcome None = Done
end_outcome (Some k) = Strays stray.Code

abbrev pub perform : ℕ → State → Frame → List Frame → Option Code → Outcome
perform key s f below None = end_outcome f.function
perform key s f below (Some c) = act key c.step s f below

abbrev pub step_frames : Linked → ℕ → State → List Frame → Outcome
step_frames l key s [] = Done
step_frames l key s (f ∷ below) = perform key s f below (slice_get (code_in l f.function) f.place)

-- One step under a key, which a load at the keyboard's address hears.
unfoldable pub step : Linked → ℕ → State → Outcome
step l key s = fit_outcome (step_frames l key s s.frames)

-- the start: one frame without a command done, and every word 0
abbrev pub start_frame : Frame
start_frame = record { function = None; place = 0; arguments = []; locals = []; values = []; this = 0; that = 0 }

abbrev pub start : State
start = record {
  frames = start_frame ∷ [];
  statics = replicate 240 0;
  temps = replicate 8 0;
  words = replicate heap_and_screen_size 0;
}
