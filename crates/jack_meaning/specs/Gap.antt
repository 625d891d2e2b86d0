-- How many instructions of machine code a program may take for one step.
use Rattle.std.specs.Prelude.{◌≡◌, ◌≤◌, ℕ, suc, ◌+◌, ◌*◌, max}
use Rattle.jack_meaning.specs.Text.{Statement, If, While, Text, End, Next, Program}
use Rattle.jack_meaning.specs.Meaning.{subroutine_at}
use Rattle.jack_meaning.specs.Linked.{IsLinked}

-- how deep the choices and loops of a text are nested
abbrev mutual
  pub nest : Statement → ℕ
  nest (If n o c a b) = suc (max (nest_in a) (nest_in b))
  nest (While n c s) = suc (nest_in s)
  nest _ = 0

  pub nest_in : Text → ℕ
  nest_in End = 0
  nest_in (Next s rest) = max (nest s) (nest_in rest)

-- The most that a count comes to over the linked subroutines of a program: none has more, and one has as many.
pub record IsMost (program : Program) (count : ℕ → ℕ) (most : ℕ) : Type 0 where
  pub bounds : (g : ℕ) → IsLinked program g → count g ≤ most
  pub reached : (g : ℕ) × IsLinked program g × (count g ≡ most)

-- the locals of a subroutine, and how deep its statements are nested
abbrev pub locals_of : Program → ℕ → ℕ
locals_of program g = (subroutine_at program.subroutines g).locals

abbrev pub depth_of : Program → ℕ → ℕ
depth_of program g = nest_in (subroutine_at program.subroutines g).body

-- the most words that a step and its start may take in machine code
abbrev pub gap : ℕ → ℕ → ℕ
gap depth most_locals = 128 + 4 * most_locals + 4 * depth

-- the gap of a program, over its linked subroutines
pub record IsGap (program : Program) (words : ℕ) : Type 0 where
  pub depth : ℕ
  pub most_locals : ℕ
  pub deepest : IsMost program (depth_of program) depth
  pub most : IsMost program (locals_of program) most_locals
  pub sum : words ≡ gap depth most_locals
