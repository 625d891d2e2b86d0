-- Worked calls: how many steps they take, and what they give, by computation.
use Rattle.std.specs.Prelude.{◌≡◌, ℕ, List, [], ◌∷◌, replicate, Option, Some, option_map, option_and_then}
use Rattle.jack_meaning.specs.Text.{Local, Expressions, NoMore, More, Value, Call, Let, Text, End, Next, Return, Literal, Function, Subroutine}
use Rattle.jack_meaning.specs.Meaning.{Frame, State, point_of}
use Rattle.os_laws.specs.Calls.{NextCall, after, no_key}
use Rattle.os_laws.specs.Kernel.{multiply_meaning, divide_meaning, init_meaning, alloc_meaning, deAlloc_meaning}
use Rattle.os_laws.specs.Numbers.{multiply_steps}

-- the kernel by itself: multiplication is 1, division 2, init 3, alloc 4, deAlloc 5, and error 6
abbrev pub kernel : List Subroutine
kernel =
    record { kind = Function; class = 0; arguments = 0; locals = 0; body = End } ∷ multiply_meaning 1 ∷ divide_meaning 1 6 ∷ init_meaning 2 0 ∷ alloc_meaning 2 6 0 ∷ deAlloc_meaning 2 0
    ∷ record { kind = Function; class = 3; arguments = 1; locals = 0; body = Next (Return 1 (Literal 0)) End } ∷ []

abbrev pub values : List ℕ → Expressions
values [] = NoMore
values (w ∷ ws) = More (Value w) (values ws)

-- a frame whose next step is a call
abbrev pub calls : ℕ → List ℕ → List ℕ → List ℕ → State
calls g ws statics words = record {
  frames = record { subroutine = 0; arguments = []; locals = 0 ∷ []; this = 0; text = Next (Let 1 (Local 0) (Call g (values ws))) End } ∷ [];
  statics = statics;
  words = words;
}

-- the value in the call's place, where it is one
abbrev pub value_in : Text → ℕ
value_in (Next (Let n x (Value w)) rest) = w
value_in _ = 70000

abbrev pub value_on_top : List Frame → ℕ
value_on_top [] = 70000
value_on_top (f ∷ fs) = value_in f.text

abbrev pub value_back : State → ℕ
value_back s = value_on_top s.frames

-- after this many steps the call has given this value
abbrev pub GivesIn : ℕ → State → ℕ → Type 0
GivesIn n s w = option_map value_back (after kernel no_key n s) ≡ Some w

abbrev pub no_words : List ℕ
no_words = []

-- another call, over the statics and words that a state has
abbrev pub then_call : ℕ → ℕ → List ℕ → Option State → Option State
then_call n g ws o = option_and_then (λ s. after kernel no_key n (calls g ws s.statics s.words)) o

-- after Memory.init; then alloc(3), alloc(1), deAlloc(16381), alloc(3)
abbrev pub state_after_init : Option State
state_after_init = after kernel no_key 15 (calls 3 [] (0 ∷ []) (replicate 22528 0))

abbrev pub first_block : Option State
first_block = then_call 57 4 (3 ∷ []) state_after_init

abbrev pub second_block : Option State
second_block = then_call 57 4 (1 ∷ []) first_block

abbrev pub state_after_free : Option State
state_after_free = then_call 13 5 (16381 ∷ []) second_block

abbrev pub third_block : Option State
third_block = then_call 47 4 (3 ∷ []) state_after_free

pub record StepRows : Type 0 where
  -- the next step is a call, with a frame that waits
  pub next : NextCall kernel (calls 1 (65533 ∷ 5 ∷ []) [] no_words) 1 (65533 ∷ 5 ∷ [])
  pub first : option_map value_back first_block ≡ Some 16381
  pub second : option_map value_back second_block ≡ Some 16379
  pub third : option_map value_back third_block ≡ Some 16381
  pub few_bits : GivesIn 404 (calls 1 (65533 ∷ 5 ∷ []) [] no_words) 65521
  pub no_bit : GivesIn 396 (calls 1 (1234 ∷ 0 ∷ []) [] no_words) 0
  pub all_bits : GivesIn 460 (calls 1 (1 ∷ 65535 ∷ []) [] no_words) 65535
  pub counted : multiply_steps 5 ≡ 404
  pub three : GivesIn 597 (calls 2 (7 ∷ 2 ∷ []) [] no_words) 3
  pub least : GivesIn 593 (calls 2 (32768 ∷ 65535 ∷ []) [] no_words) 32768
  pub by_zero : option_map (λ s. point_of s.frames)
      (after kernel no_key 7 (calls 2 (1 ∷ 0 ∷ []) [] no_words)) ≡ Some (6, 1)
