-- The printed form of a tree: its tokens with one space between them, and a line feed in its place after `{`, `}` and `;`. The book
-- lays down no layout; this one is the project's own.
use Rattle.std.specs.Prelude.{◌≡◌, ◌||◌, ◌++◌, ◌∷◌, [], ℕ, Bool, List, map, codes, if◌then◌else◌}
use Rattle.std.specs.List.{flat_map}
use Rattle.std.specs.Str.{bytes_eq}
use Rattle.outer_world.specs.declared.pieces.Pieces.{Pieces}
use Rattle.outer_world.specs.declared.sink.Put.{Put}
use Rattle.outer_world.specs.declared.sink.Put.TheVariants as put
use Rattle.outer_world.specs.declared.sink.Sink.{Ghosts}
use Rattle.outer_world.specs.Held.{HaveSameSink, pending, sink_of}
use Rattle.outer_world.specs.State.{SinkState}
use Rattle.outer_world.specs.Written.{Passes, Puts}
use Rattle.grammar.specs.Rules.{Rule, Rules, Tree}
use Rattle.grammar.specs.Leaves.{leaves}

-- a line feed stands after the token
abbrev pub ends_line : List ℕ → Bool
ends_line w = bytes_eq w (codes "{") || (bytes_eq w (codes "}") || bytes_eq w (codes ";"))

-- a token with what is after it
abbrev pub set_off : List ℕ → List ℕ
set_off w = w ++ (if ends_line w then 10 else 32) ∷ []

-- the printed form of a tree, by the rule that it is of, where a token that says so much is written so
abbrev pub printed_by : {T S N V : Type 0} → Rules T S N V → (V → List ℕ) → Tree V → Rule T S N V → List ℕ
printed_by g said x rule = flat_map set_off (map said (leaves g x rule))

-- The answer so far, the sink and the bytes pending, before and after a text: after a failure nothing more is put.
abbrev pub Wrote : List ℕ → Put → SinkState → List ℕ → Put → SinkState → List ℕ → Type 0
Wrote text put.Done before pending answer now pending' = Passes before pending now pending' text answer
Wrote text put.Failed before pending answer now pending' = (answer ≡ put.Failed) × (now ≡ before)

-- how that ends: what is pending is put
abbrev pub Ended : Put → SinkState → List ℕ → Put → SinkState → Type 0
Ended put.Done before pending answer now = Puts before now pending answer
Ended put.Failed before pending answer now = (answer ≡ put.Failed) × (now ≡ before)

module _ {S : Type 0} {told : Ghosts S} where
  -- A text was put after what was put before, where the answer so far is handed on.
  pub record Writes (text : List ℕ) (status : Put) (before : Pieces S told) (answer : Put) (after : Pieces S told) : Type 0 where
    pub same_sink : HaveSameSink before after
    pub wrote : Wrote text status (told.state (sink_of before)) (pending before) answer (told.state (sink_of after)) (pending after)

  -- What was pending was put, unless something had failed before.
  pub record Finishes (status : Put) (before : Pieces S told) (answer : Put) (after : Pieces S told) : Type 0 where
    pub same_sink : HaveSameSink before after
    pub ended : Ended status (told.state (sink_of before)) (pending before) answer (told.state (sink_of after))

-- The printed form of a tree was put so.
pub record Shows {T S N V K : Type 0} {told : Ghosts K} (g : Rules T S N V) (said : V → List ℕ) (x : Tree V) (rule : Rule T S N V) (status : Put) (before : Pieces K told) (answer : Put) (after : Pieces K told) : Type 0 where
  pub writes : Writes (printed_by g said x rule) status before answer after
