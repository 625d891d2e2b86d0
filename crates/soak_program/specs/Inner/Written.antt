-- What the code has drawn and written.
use Rattle.std.specs.Prelude.{◌≡◌, ℕ, List, ◌++◌}
use Rattle.soak_program.specs.declared.generator.Generator.{Generator}
use Rattle.soak_program.specs.Generator.{IsDraw}

-- a number was drawn, and the text stayed as it was
pub record Draws (k : ℕ) (before : Generator) (n : ℕ) (after : Generator) : Type 0 where
  pub drawn : IsDraw k before.state n after.state
  pub text : after.text ≡ before.text

-- a piece was written, and the state stayed as it was
pub record Adds (piece : List ℕ) (before after : Generator) : Type 0 where
  pub text : after.text.items ≡ before.text.items ++ piece
  pub state : after.state ≡ before.state

-- a piece was written that a rule has
pub record Writes (Rule : ℕ → List ℕ → ℕ → Type 0) (before after : Generator) : Type 0 where
  pub piece : List ℕ
  pub text : after.text.items ≡ before.text.items ++ piece
  pub rule : Rule before.state piece after.state
