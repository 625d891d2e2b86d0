-- How many words the commands of a compiled program's pieces have together. (The book, chapter 11: the commands of each piece of a program.)
use Rattle.std.specs.Prelude.{◌≡◌, ℕ, ◌+◌, ◌*◌, ◌≤◌, List, [], ◌∷◌}
use Rattle.vm_tree.specs.declared.command.Operation.{Operation}
use Rattle.vm_tree.specs.declared.command.Operation.TheVariants as operation
use Rattle.vm_tree.specs.declared.command.Segment.{Segment}
use Rattle.vm_tree.specs.declared.command.Segment.TheVariants as segment
use Rattle.vm_link.specs.declared.linked.Step.{Step}
use Rattle.vm_link.specs.declared.linked.Step.TheVariants as step
use Rattle.vm_link.specs.Uniform.{is_shared}
use Rattle.vm_templates.specs.Budgets.{most_words, most_steps}
use Rattle.vm_templates.specs.Commands.{cycles}
use Rattle.vm_templates.specs.Templates.{operation_words, routine_of, size, start_size}
use Rattle.vm_translator.specs.Shapes.{shape_of, step_size}
use Rattle.vm_translator.specs.Shared.{all_routines, has_routine, routine_for, words_shared}

-- the instructions of commands that follow one another
abbrev pub words : List Step → ℕ
words [] = 0
words (c ∷ cs) = step_size c + words cs

pub record PiecesFit : Type 0 where
  -- no command has more instructions than it may have words
  pub each : (to : ℕ) (c : Step) → size (shape_of to c) ≤ most_words c
  -- nor does it take more steps of the computer than it may, those of its routine among them
  pub quick : (to : ℕ) (c : Step) → cycles (shape_of to c) ≤ most_steps c
  -- calls, returns and comparisons go through a routine, each through that of its shape, and nothing else does
  pub shared : (c : Step) → is_shared c ≡ has_routine (routine_for c)
  pub routine : (to : ℕ) (c : Step) → routine_of (shape_of to c) ≡ routine_for c
  -- a literal, and `true`
  pub literal : (n : ℕ) → words (step.Push segment.Constant n ∷ []) ≤ 9
  pub all_ones : words (step.Push segment.Constant 0 ∷ step.Operate operation.Not ∷ []) ≤ 9
  -- a name or `this`
  pub name : (g : Segment) (i : ℕ) → words (step.Push g i ∷ []) ≤ 9
  -- the sign or the operator of an expression
  pub operator : (o : Operation) → words (step.Operate o ∷ []) ≤ operation_words o
  -- `a[i]`, after the code of a and i
  pub load : words
      (step.Operate operation.Add ∷ step.Pop segment.Pointer 1 ∷ step.Push segment.That 0 ∷ []) ≤ 18
  -- `let a[i] = e`, beside the code of a, i and e
  pub store : words (step.Operate operation.Add ∷ step.Pop segment.Temp 0
      ∷ step.Pop segment.Pointer 1 ∷ step.Push segment.Temp 0 ∷ step.Pop segment.That 0 ∷ []) ≤ 28
  -- `let x = e`, after the code of e
  pub assignment : (g : Segment) (i : ℕ) → words (step.Pop g i ∷ []) ≤ 12
  -- a call, after the code of its arguments, and `do`, after its call
  pub call : (f n : ℕ) → words (step.Call f n ∷ []) ≤ 12
  pub dropped : words (step.Pop segment.Temp 0 ∷ []) ≤ 5
  -- `if` and `while`, beside the code of the condition and of the statements
  pub branches : (p q r : ℕ) → words (step.IfGoto p ∷ step.Goto q ∷ step.Goto r ∷ []) ≤ 9
  pub return : words (step.Return ∷ []) ≤ 8
  -- the entry of a subroutine, also that of a method, which sets `this`
  pub entry : (n : ℕ) → words (step.Function n ∷ step.Push segment.Argument 0
      ∷ step.Pop segment.Pointer 0 ∷ []) ≤ 14 + 4 * n
  -- the start code, all routines, and the word that may be added after the functions
  pub start : start_size + words_shared all_routines + 1 ≤ 256
