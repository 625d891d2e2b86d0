-- What a part makes of its operands, by the meaning.
use Rattle.std.specs.Prelude.{◌≡◌, ℕ, ◌-◌, List, Bool, true, false, length, drop, take, map}
use Rattle.jack_meaning.specs.Text.{Expression, Value, Open}
use Rattle.jack_meaning.specs.Expressions.{View, Move, Rewrites, Calls, Strays, rewrite, loaded_word}
use Rattle.jack_core.specs.declared.tree.Part.{Part}
use Rattle.jack_core.specs.declared.tree.Part.TheVariants as part
use Rattle.jack_core.specs.Heights.{takes}
use Rattle.jack_core.specs.Reading.{make_expression}
use Rattle.jack_machine.specs.declared.looking.Variables.{Variables}
use Rattle.jack_machine.specs.declared.looking.Memory.{Memory}
use Rattle.jack_machine.specs.declared.looking.Sight.{Sight}

-- what a frame's expressions can read
abbrev pub the_view : Variables → Memory → ℕ → View
the_view f m key = record { arguments = f.arguments.items; locals = f.locals.items; this = f.this; statics = m.statics.items; words = m.words.items; key = key }

-- the operands of a part: the last of the values, in order
abbrev pub passed_values : Part → List ℕ → List ℕ
passed_values p ws = drop (length ws - takes p) ws

-- the values before them
abbrev pub spared_values : Part → List ℕ → List ℕ
spared_values p ws = take (length ws - takes p) ws

-- the move that a sight asks for, where these values are passed to a call
abbrev pub move_of : ℕ → List ℕ → Sight → Move Expression
move_of key ws (Sight.Puts w) = Rewrites false (Value w)
move_of key ws Sight.Hears = Rewrites true (Value key)
move_of key ws (Sight.Calls g) = Calls g ws Open
move_of key ws (Sight.Strays a) = Strays a

-- a part over the last of these values makes this move
abbrev pub Sees : View → Part → List ℕ → Sight → Type 0
Sees v p ws sight = rewrite v (make_expression p (map Value (passed_values p ws))) ≡ move_of v.key (passed_values p ws) sight

-- a call is seen where the part is one
abbrev pub IsOfCall : Part → Sight → Type 0
IsOfCall p (Sight.Calls g) = p ≡ part.Call (takes p) g
IsOfCall p _ = Unit {0}

-- a look at an address calls nothing
abbrev pub is_of_load : Sight → Bool
is_of_load (Sight.Calls g) = false
is_of_load _ = true

pub record Loads (v : View) (a : ℕ) (sight : Sight) : Type 0 where
  pub move : (ws : List ℕ) → loaded_word v a ≡ move_of v.key ws sight
  pub moves : is_of_load sight ≡ true
