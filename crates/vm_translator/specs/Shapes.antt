-- The shape of each step of linked code: which words of memory its segments and registers are. (The book, chapters 7 and 8.)
use Rattle.std.specs.Prelude.{ℕ, zero, suc, ◌+◌, min}
use Rattle.vm_tree.specs.declared.command.Segment.{Segment}
use Rattle.vm_tree.specs.declared.command.Segment.TheVariants as segment
use Rattle.vm_link.specs.declared.linked.Step.{Step}
use Rattle.vm_link.specs.declared.linked.Step.TheVariants as step
use Rattle.vm_templates.specs.declared.shape.Shape.{Shape}
use Rattle.vm_templates.specs.declared.shape.Shape.TheVariants as shape
use Rattle.vm_templates.specs.Templates.{size}

-- The greatest number that an instruction names stands for each that no text has: those commands never act.
abbrev pub named_index : ℕ → ℕ
named_index n = min n 32767

-- of a segment that begins where a register points: its first word has instructions of its own
abbrev pub push_from : ℕ → ℕ → Shape
push_from base zero = shape.PushFirst base
push_from base (suc i) = shape.PushAt base (named_index (suc i))

abbrev pub pop_to : ℕ → ℕ → Shape
pop_to base zero = shape.PopFirst base
pop_to base (suc i) = shape.PopAt base (named_index (suc i))

-- LCL, ARG, THIS and THAT are the words 1 to 4, temp is 5 to 12, and the static word k of all files is 16 + k.
abbrev pub push_shape : Segment → ℕ → Shape
push_shape segment.Argument i = push_from 2 i
push_shape segment.Local i = push_from 1 i
push_shape segment.Static i = shape.PushWord (named_index (16 + i))
push_shape segment.Constant i = shape.PushConstant (named_index i)
push_shape segment.This i = push_from 3 i
push_shape segment.That i = push_from 4 i
push_shape segment.Pointer i = shape.PushWord (named_index (3 + i))
push_shape segment.Temp i = shape.PushWord (named_index (5 + i))

-- A value that is popped to a constant goes to the word 13, which is free.
abbrev pub pop_shape : Segment → ℕ → Shape
pop_shape segment.Argument i = pop_to 2 i
pop_shape segment.Local i = pop_to 1 i
pop_shape segment.Static i = shape.PopWord (named_index (16 + i))
pop_shape segment.Constant i = shape.PopWord 13
pop_shape segment.This i = pop_to 3 i
pop_shape segment.That i = pop_to 4 i
pop_shape segment.Pointer i = shape.PopWord (named_index (3 + i))
pop_shape segment.Temp i = shape.PopWord (named_index (5 + i))

-- The shape of a step that leads to this address, where it leads anywhere.
abbrev pub shape_of : ℕ → Step → Shape
shape_of to (step.Operate o) = shape.Operate o
shape_of to (step.Push g i) = push_shape g i
shape_of to (step.Pop g i) = pop_shape g i
shape_of to (step.Goto p) = shape.Goto to
shape_of to (step.IfGoto p) = shape.IfGoto to
shape_of to (step.Function n) = shape.Function n
shape_of to (step.Call f n) = shape.Call to (named_index n)
shape_of to step.Return = shape.Return

-- how many instructions a step has; where it leads makes no difference
abbrev pub step_size : Step → ℕ
step_size s = size (shape_of 0 s)
