-- What the first statement of a text does once its parts are values, by the meaning.
use Rattle.std.specs.Prelude.{◌≡◌, ℕ, List}
use Rattle.word16.specs.Words.{word_add}
use Rattle.jack_meaning.specs.Text.{Statement, Let, LetField, LetThis, Store, Do, If, While, Return, Text, Next, joined_text}
use Rattle.jack_meaning.specs.Expressions.{value_of}
use Rattle.jack_meaning.specs.Meaning.{Frame, State, Outcome, Done, after_assignment, after_store, passed_over, after_return, text_chosen}
use Rattle.jack_core.specs.Reading.{the_variable}
use Rattle.jack_machine.specs.Texts.{chosen_text, text_tail}
use Rattle.jack_machine.specs.declared.effects.Effect.{Effect}

-- what the meaning makes of a statement whose parts are values; a loop is a choice by then
abbrev pub act_of : State → Frame → List Frame → Statement → Text → Outcome
act_of s f below (Let n x e) rest = after_assignment s f below rest x (value_of e)
act_of s f below (LetField n k e) rest = after_store s f below rest (word_add f.this k) (value_of e)
act_of s f below (LetThis n e) rest = passed_over s (record f { this = value_of e }) below rest
act_of s f below (Store n a i e) rest = after_store s f below rest (word_add (value_of a) (value_of i)) (value_of e)
act_of s f below (Do n e) rest = passed_over s f below rest
act_of s f below (If n o c a b) rest = passed_over s f below (joined_text (text_chosen (value_of c) a b) rest)
act_of s f below (While n c a) rest = Done
act_of s f below (Return n e) rest = after_return s below (value_of e)

-- the same, by its effect on a text
abbrev pub outcome_on : State → Frame → List Frame → Text → Effect → Outcome
outcome_on s f below text (Effect.Assigns x w) = after_assignment s f below (text_tail text) (the_variable x) w
outcome_on s f below text (Effect.Stores a w) = after_store s f below (text_tail text) a w
outcome_on s f below text (Effect.SetsThis w) = passed_over s (record f { this = w }) below (text_tail text)
outcome_on s f below text Effect.Drops = passed_over s f below (text_tail text)
outcome_on s f below text (Effect.Chooses w) = passed_over s f below (chosen_text w text)
outcome_on s f below text (Effect.Returns w) = after_return s below w

abbrev pub HasEffect : ℕ → Statement → Effect → Type 0
HasEffect this t effect =
    (s : State) (f : Frame) (below : List Frame) (rest : Text) → f.this ≡ this → act_of s f below t rest ≡ outcome_on s f below (Next t rest) effect
