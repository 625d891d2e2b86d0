-- The places of a subroutine's statements, in the order of their numbers. (The book, chapter 10: the syntax of statements.)
use Rattle.std.specs.Prelude.{ℕ, List, [], ◌∷◌, ◌++◌, slice_get, unwrap_or}
use Rattle.scan_text.specs.declared.Place.{Place}
use Rattle.jack_tree.specs.Syntax.{Statement, Let, If, IfElse, While, Do, Return, Statements, End, Next, Subroutine}

-- a statement is at its first token; the statements in it come after it
abbrev mutual
  pub statement_places : Statement → List Place
  statement_places (Let at x i e) = at ∷ []
  statement_places (If at e body) = at ∷ block_places body
  statement_places (IfElse at e body other) = at ∷ (block_places body ++ block_places other)
  statement_places (While at e body) = at ∷ block_places body
  statement_places (Do at c) = at ∷ []
  statement_places (Return at v) = at ∷ []

  pub block_places : Statements → List Place
  block_places End = []
  block_places (Next s ss) = statement_places s ++ block_places ss

-- Number 0 is the statement by which a constructor takes the memory of its object: it is at the subroutine's name. The last is the `return` that is
-- added to a body without one at its end: it is at the brace that closes the body.
abbrev pub subroutine_places : Subroutine → List Place
subroutine_places t = t.name.place ∷ (block_places t.statements ++ t.close ∷ [])

-- the place of what a text does not have
abbrev pub no_place : Place
no_place = record { line = 0; column = 0 }

-- the place of the statement of this number
abbrev pub place_of : Subroutine → ℕ → Place
place_of t n = unwrap_or (slice_get (subroutine_places t) n) no_place
