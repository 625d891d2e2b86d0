-- The numbers of statements: which statement of a body has a number, and where the statements of its meaning stand in the source. (The book, chapter
-- 10: the syntax of statements.)
use Rattle.std.specs.Prelude.{◌≡◌, ◌⊎◌, ℕ, ◌+◌, false, List, ◌++◌, map, Some}
use Rattle.scan_text.specs.declared.Place.{Place}
use Rattle.jack_tree.specs.Syntax.{Expression, Statement, Let, If, IfElse, While, Do, Return, Statements, Next, Subroutine, Constructor}
use Rattle.jack_tree.specs.Seen.{the_file, the_subroutine}
use Rattle.jack_tree.specs.declared.tree.Class.{Class}
use Rattle.jack_tree.specs.declared.tree.Subroutine as trees
use Rattle.image_map.specs.declared.map.PointRange.{PointRange}
use Rattle.jack_meaning.specs.Text as meaning
use Rattle.jack_meaning.specs.Meaning.{subroutine_at}
use Rattle.jack_names.specs.Meaning.{size, sizes, statement_meaning, block_meaning, body_meaning, program_meaning, returns, subroutine_meaning}
use Rattle.jack_names.specs.Numbers.{Standing}
use Rattle.jack_debug.specs.Statements.{place_of}
use Rattle.vm_debug.specs.Places.{placed_range, tree_at, trees_of}

-- Statements have numbers in the order of the text, and those in a statement come after it. In statements the first of which has number n, number k
-- is this statement's.
mutual
  pub data HasNumber : ℕ → Statements → ℕ → Statement → Type 0 where
    first : (n : ℕ) (t : Statement) (ts : Statements) → HasNumber n (Next t ts) n t
    inside : (n : ℕ) (t : Statement) (ts : Statements) (k : ℕ) (u : Statement) → IsWithin n t k u → HasNumber n (Next t ts) k u
    later : (n : ℕ) (t : Statement) (ts : Statements) (k : ℕ) (u : Statement) → HasNumber (n + size t) ts k u → HasNumber n (Next t ts) k u

  -- the same in a statement whose number is n
  pub data IsWithin : ℕ → Statement → ℕ → Statement → Type 0 where
    in_if : (n : ℕ) (at : Place) (e : Expression) (a : Statements) (k : ℕ) (u : Statement) → HasNumber (n + 1) a k u → IsWithin n (If at e a) k u
    in_then : (n : ℕ) (at : Place) (e : Expression) (a b : Statements) (k : ℕ) (u : Statement) → HasNumber (n + 1) a k u → IsWithin n (IfElse at e a b) k u
    in_else : (n : ℕ) (at : Place) (e : Expression) (a b : Statements) (k : ℕ) (u : Statement) → HasNumber (n + 1 + sizes a) b k u → IsWithin n (IfElse at e a b) k u
    in_while : (n : ℕ) (at : Place) (e : Expression) (a : Statements) (k : ℕ) (u : Statement) → HasNumber (n + 1) a k u → IsWithin n (While at e a) k u

-- the place of a statement's first token
abbrev pub first_place : Statement → Place
first_place (Let at x i e) = at
first_place (If at e a) = at
first_place (IfElse at e a b) = at
first_place (While at e a) = at
first_place (Do at c) = at
first_place (Return at v) = at

-- a statement is one of a text, or in one of it
abbrev mutual
  pub IsIn : meaning.Text → meaning.Statement → Type 0
  IsIn meaning.End w = ⊥
  IsIn (meaning.Next s rest) w = (w ≡ s) ⊎ (IsPart s w ⊎ IsIn rest w)

  pub IsPart : meaning.Statement → meaning.Statement → Type 0
  IsPart (meaning.Let n x e) w = ⊥
  IsPart (meaning.LetField n k e) w = ⊥
  IsPart (meaning.LetThis n e) w = ⊥
  IsPart (meaning.Store n a i e) w = ⊥
  IsPart (meaning.Do n e) w = ⊥
  IsPart (meaning.If n o c a b) w = IsIn a w ⊎ IsIn b w
  IsPart (meaning.While n c a) w = IsIn a w
  IsPart (meaning.Return n e) w = ⊥

-- Where a statement of the meaning of a body stands. It is at the first token of the statement that it means, or at the name of a constructor, whose
-- object's memory it takes. If it is the `return` that is added, it is at the brace that closes the body.
pub data StandsAt (s : Standing) (t : Subroutine) : meaning.Statement → Place → Type 0 where
  of_text : (k : ℕ) (u : Statement) → HasNumber 1 t.statements k u → StandsAt s t (statement_meaning s k u) (first_place u)
  of_object : (e : meaning.Expression) → t.form ≡ Constructor → StandsAt s t (meaning.LetThis 0 e) t.name.place
  of_return : (e : meaning.Expression) → returns t.statements ≡ false → StandsAt s t (meaning.Return (1 + sizes t.statements) e) t.close

pub record NumbersLaw : Type 0 where
  -- a number is one statement's, and at its place that statement begins
  pub one : (n : ℕ) (ts : Statements) (k : ℕ) (u v : Statement) → HasNumber n ts k u
      → HasNumber n ts k v → u ≡ v
  pub place : (t : Subroutine) (k : ℕ) (u : Statement) → HasNumber 1 t.statements k u
      → place_of t k ≡ first_place u
  -- what it means has this number, and is in what all mean
  pub number : (s : Standing) (k : ℕ) (u : Statement)
      → meaning.number_of (statement_meaning s k u) ≡ k
  pub meant : (s : Standing) (n : ℕ) (ts : Statements) (k : ℕ) (u : Statement) → HasNumber n ts k u
      → IsIn (block_meaning s n ts) (statement_meaning s k u)
  -- each statement of the meaning of a body stands at the place of its number
  pub body : (s : Standing) (fields : ℕ) (t : Subroutine) (w : meaning.Statement)
      → IsIn (body_meaning s fields t) w → StandsAt s t w (place_of t (meaning.number_of w))

-- the tree of the subroutine of a number, which means what the program has of this number
pub record HasTree (classes : List Class) (program : meaning.Program) (g : ℕ) : Type 0 where
  pub tree : trees.Subroutine
  pub there : tree_at (trees_of classes) g ≡ Some tree
  pub standing : Standing
  pub fields : ℕ
  pub means : subroutine_at program.subroutines g
      ≡ subroutine_meaning standing fields (the_subroutine tree)

-- A range is at the place where the statement of its number stands, in the meaning of its subroutine.
abbrev pub StandingLaw : Type 0
StandingLaw = (own system : List Class) (program : meaning.Program) → program ≡ program_meaning (map the_file own) (map the_file system)
    → (r : PointRange) (w : meaning.Statement) → IsIn (subroutine_at program.subroutines r.point.sub).body w → meaning.number_of w ≡ r.point.number
    → (h : HasTree (own ++ system) program r.point.sub) × StandsAt h.standing (the_subroutine h.tree) w (placed_range (trees_of (own ++ system)) r).place
