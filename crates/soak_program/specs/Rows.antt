-- The first draws of the first program of seed 1, by computation.
use Rattle.std.specs.Prelude.{◌≡◌}
use Rattle.soak_program.specs.Generator.{first_state, IsDraw}

pub record RowsLaw : Type 0 where
  pub begins : first_state 1 1 ≡ 1001
  -- two statements after the first one
  pub count : IsDraw 6 1001 2 812177518
  -- of which the first is a choice
  pub kind : IsDraw 3 812177518 2 1638521615
