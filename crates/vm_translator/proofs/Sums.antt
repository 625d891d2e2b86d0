-- Sums of words, over code and functions and their parts.
use Rattle.std.proofs.Common.{◌≡◌, ◌+◌, ◌<◌, ◌≤◌, ℕ, zero, suc, List, [], ◌∷◌, length, take, drop, Option, Some, None, refl, ap, sym, subst, arith, add-one}
use Rattle.vm_tree.specs.declared.command.Operation.{Operation}
use Rattle.vm_tree.specs.declared.command.Operation.TheVariants as operation
use Rattle.vm_tree.specs.declared.command.Segment.{Segment}
use Rattle.vm_tree.specs.declared.command.Segment.TheVariants as segment
use Rattle.vm_link.specs.declared.linked.Step.{Step}
use Rattle.vm_link.specs.declared.linked.Step.TheVariants as step
use Rattle.vm_link.specs.declared.linked.Code.{Code}
use Rattle.vm_link.specs.declared.linked.LinkedFunction.{LinkedFunction}
use Rattle.vm_link.specs.Uniform.{is_comparison, is_shared}
use Rattle.vm_templates.specs.declared.routines.Routine.{Routine}
use Rattle.vm_templates.specs.declared.shape.Shape.{Shape}
use Rattle.vm_templates.specs.Templates.{compared_by, operation_words, size, routine_of}
use Rattle.vm_templates.specs.Commands.{cycles, cycles_of}
use Rattle.vm_templates.specs.Budgets.{operation_steps, most_words, most_steps}
use Rattle.vm_templates.proofs.Placed.{operation_some}
use Rattle.vm_translator.specs.Shared.{routine_for, has_routine}
use Rattle.vm_translator.specs.Shapes.{push_from, pop_to, push_shape, pop_shape, shape_of, step_size}
use Rattle.vm_translator.specs.Places.{words_of, words_in, code_at, address}
use Rattle.vm_translator.specs.Image.{budget_in, budget_from}

-- a size between one and the most
record IsBetween (n m : ℕ) : Type 0 where
  some : 0 < n
  within : n ≤ m

from_between : (base i : ℕ) → IsBetween (size (push_from base i)) 9
from_between base zero = record { some = omega arith; within = omega arith }
from_between base (suc i) = record { some = omega arith; within = omega arith }

to_between : (base i : ℕ) → IsBetween (size (pop_to base i)) 12
to_between base zero = record { some = omega arith; within = omega arith }
to_between base (suc i) = record { some = omega arith; within = omega arith }

push_between : (g : Segment) (i : ℕ) → IsBetween (size (push_shape g i)) 9
push_between segment.Argument i = from_between 2 i
push_between segment.Local i = from_between 1 i
push_between segment.Static i = record { some = omega arith; within = omega arith }
push_between segment.Constant i = record { some = omega arith; within = omega arith }
push_between segment.This i = from_between 3 i
push_between segment.That i = from_between 4 i
push_between segment.Pointer i = record { some = omega arith; within = omega arith }
push_between segment.Temp i = record { some = omega arith; within = omega arith }

pop_between : (g : Segment) (i : ℕ) → IsBetween (size (pop_shape g i)) 12
pop_between segment.Argument i = to_between 2 i
pop_between segment.Local i = to_between 1 i
pop_between segment.Static i = record { some = omega arith; within = omega arith }
pop_between segment.Constant i = record { some = omega arith; within = omega arith }
pop_between segment.This i = to_between 3 i
pop_between segment.That i = to_between 4 i
pop_between segment.Pointer i = record { some = omega arith; within = omega arith }
pop_between segment.Temp i = record { some = omega arith; within = omega arith }

step_between : (s : Step) → IsBetween (step_size s) (most_words s)
step_between (step.Operate o) = record { some = operation_some o; within = omega arith }
step_between (step.Push g i) = push_between g i
step_between (step.Pop g i) = pop_between g i
step_between (step.Goto p) = record { some = omega arith; within = omega arith }
step_between (step.IfGoto p) = record { some = omega arith; within = omega arith }
step_between (step.Function n) = record { some = omega arith; within = omega arith }
step_between (step.Call f n) = record { some = omega arith; within = omega arith }
step_between step.Return = record { some = omega arith; within = omega arith }

pub size_some : (s : Step) → 0 < step_size s
size_some s = let b = step_between s in b.some

-- where a step leads makes no difference to its size
pub size_to : (to : ℕ) (s : Step) → size (shape_of to s) ≡ step_size s
size_to to (step.Operate o) = refl
size_to to (step.Push g i) = refl
size_to to (step.Pop g i) = refl
size_to to (step.Goto p) = refl
size_to to (step.IfGoto p) = refl
size_to to (step.Function n) = refl
size_to to (step.Call f n) = refl
size_to to step.Return = refl

pub size_one : (to : ℕ) (s : Step) → 1 ≤ size (shape_of to s)
size_one to s = let b = size_some s in let e = size_to to s in omega arith

-- the instructions of a step are at most as many as it may have words, and as it may take steps
pub size_few : (to : ℕ) (s : Step) → size (shape_of to s) ≤ most_words s
size_few to s = let b = step_between s in let w = b.within in let e = size_to to s in omega arith

-- the routine of a step's shape, wherever the step leads
pub routine_to : (to : ℕ) (s : Step) → routine_of (shape_of to s) ≡ routine_for s
routine_to to (step.Operate o) = refl
routine_to to (step.Push g i) = pushed_none g i
  where
    from_none : (base i : ℕ) → routine_of (push_from base i) ≡ None
    from_none base zero = refl
    from_none base (suc i) = refl

    pushed_none : (g : Segment) (i : ℕ) → routine_of (push_shape g i) ≡ None
    pushed_none segment.Argument i = from_none 2 i
    pushed_none segment.Local i = from_none 1 i
    pushed_none segment.Static i = refl
    pushed_none segment.Constant i = refl
    pushed_none segment.This i = from_none 3 i
    pushed_none segment.That i = from_none 4 i
    pushed_none segment.Pointer i = refl
    pushed_none segment.Temp i = refl
routine_to to (step.Pop g i) = popped_none g i
  where
    to_none : (base i : ℕ) → routine_of (pop_to base i) ≡ None
    to_none base zero = refl
    to_none base (suc i) = refl

    popped_none : (g : Segment) (i : ℕ) → routine_of (pop_shape g i) ≡ None
    popped_none segment.Argument i = to_none 2 i
    popped_none segment.Local i = to_none 1 i
    popped_none segment.Static i = refl
    popped_none segment.Constant i = refl
    popped_none segment.This i = to_none 3 i
    popped_none segment.That i = to_none 4 i
    popped_none segment.Pointer i = refl
    popped_none segment.Temp i = refl
routine_to to (step.Goto p) = refl
routine_to to (step.IfGoto p) = refl
routine_to to (step.Function n) = refl
routine_to to (step.Call f n) = refl
routine_to to step.Return = refl

-- a step goes through a routine where it is a call, a return or a comparison
pub shared_is : (s : Step) → is_shared s ≡ has_routine (routine_for s)
shared_is (step.Operate o) = compared o
  where
    compared : (o : Operation) → is_comparison o ≡ has_routine (compared_by o)
    compared operation.Add = refl
    compared operation.Sub = refl
    compared operation.Neg = refl
    compared operation.Eq = refl
    compared operation.Gt = refl
    compared operation.Lt = refl
    compared operation.And = refl
    compared operation.Or = refl
    compared operation.Not = refl
    compared operation.ShiftLeft = refl
    compared operation.ShiftRight = refl
shared_is (step.Push g i) = refl
shared_is (step.Pop g i) = refl
shared_is (step.Goto p) = refl
shared_is (step.IfGoto p) = refl
shared_is (step.Function n) = refl
shared_is (step.Call f n) = refl
shared_is step.Return = refl

-- the steps of the computer that a step may take
operation_cycles : (o : Operation) → cycles_of (operation_words o) (compared_by o) ≤ operation_steps o
operation_cycles operation.Add = omega arith
operation_cycles operation.Sub = omega arith
operation_cycles operation.Neg = omega arith
operation_cycles operation.Eq = omega arith
operation_cycles operation.Gt = omega arith
operation_cycles operation.Lt = omega arith
operation_cycles operation.And = omega arith
operation_cycles operation.Or = omega arith
operation_cycles operation.Not = omega arith
operation_cycles operation.ShiftLeft = omega arith
operation_cycles operation.ShiftRight = omega arith

cycles_for : (to : ℕ) (s : Step) → cycles_of (size (shape_of to s)) (routine_for s) ≤ most_steps s
cycles_for to (step.Operate o) = operation_cycles o
cycles_for to (step.Push g i) = size_few to (step.Push g i)
cycles_for to (step.Pop g i) = size_few to (step.Pop g i)
cycles_for to (step.Goto p) = omega arith
cycles_for to (step.IfGoto p) = omega arith
cycles_for to (step.Function n) = omega arith
cycles_for to (step.Call f n) = omega arith
cycles_for to step.Return = omega arith

pub cycles_quick : (to : ℕ) (s : Step) → cycles (shape_of to s) ≤ most_steps s
cycles_quick to s = subst (λ o. cycles_of (size (shape_of to s)) o ≤ most_steps s) (sym (routine_to to s)) (cycles_for to s)

size_within : (n : ℕ) (o : Option Routine) → n ≤ cycles_of n o
size_within n None = omega arith
size_within n (Some r) = omega arith

pub size_cycles : (c : Shape) → size c ≤ cycles c
size_cycles c = size_within (size c) (routine_of c)

pub size_quick : (to : ℕ) (s : Step) → size (shape_of to s) ≤ most_steps s
size_quick to s = let a = size_within (size (shape_of to s)) (routine_of (shape_of to s)) in let b = cycles_quick to s in omega arith

pub cycles_some : (to : ℕ) (s : Step) → 1 ≤ cycles (shape_of to s)
cycles_some to s = let a = size_within (size (shape_of to s)) (routine_of (shape_of to s)) in let b = size_one to s in omega arith

pub words_within : (cs : List Code) → words_of cs ≤ budget_in cs
words_within [] = omega arith
words_within (c ∷ cs) = let b = step_between c.step in let h = b.within in let r = words_within cs in omega arith

pub words_in_within : (fs : List LinkedFunction) → words_in fs ≤ budget_from fs
words_in_within [] = omega arith
words_in_within (f ∷ fs) = let h = words_within f.code in let r = words_in_within fs in omega arith

pub words_some : (cs : List Code) → 0 < length cs → 0 < words_of cs
words_some [] h = absurd (omega arith)
words_some (c ∷ cs) h = let s = size_some c.step in omega arith

-- code is what stands before a place and what stands after it
pub words_parts : (cs : List Code) (p : ℕ) → words_of cs ≡ words_of (take p cs) + words_of (drop p cs)
words_parts [] zero = refl
words_parts [] (suc p) = refl
words_parts (c ∷ cs) zero = omega arith
words_parts (c ∷ cs) (suc p) = let e = words_parts cs p in omega arith

pub words_all : (cs : List Code) (p : ℕ) → length cs ≤ p → words_of (take p cs) ≡ words_of cs
words_all [] zero h = refl
words_all [] (suc p) h = refl
words_all (c ∷ cs) zero h = absurd (omega arith)
words_all (c ∷ cs) (suc p) h = ap (λ n. step_size c.step + n) (words_all cs p (omega arith))

pub words_less : (cs : List Code) (p : ℕ) → p < length cs → words_of (take p cs) < words_of cs
words_less [] p h = absurd (omega arith)
words_less (c ∷ cs) zero h = let s = size_some c.step in omega arith
words_less (c ∷ cs) (suc p) h = let r = words_less cs p (omega arith) in omega arith

-- functions are those before one, its code, and those after it
pub words_in_parts : (fs : List LinkedFunction) (k : ℕ) → words_in fs ≡ words_in (take k fs) + (words_of (code_at fs k) + words_in (drop (suc k) fs))
words_in_parts [] zero = refl
words_in_parts [] (suc k) = refl
words_in_parts (f ∷ fs) zero = omega arith
words_in_parts (f ∷ fs) (suc k) = let e = words_in_parts fs k in omega arith

pub words_in_take : (fs : List LinkedFunction) (k : ℕ) → words_in (take (k + 1) fs) ≡ words_in (take k fs) + words_of (code_at fs k)
words_in_take fs k = rw add-one (one_more fs k)
  where
    one_more : (fs : List LinkedFunction) (k : ℕ) → words_in (take (suc k) fs) ≡ words_in (take k fs) + words_of (code_at fs k)
    one_more [] zero = refl
    one_more [] (suc k) = refl
    one_more (f ∷ fs) zero = omega arith
    one_more (f ∷ fs) (suc k) = let e = one_more fs k in omega arith

-- the place after one
pub address_next : (base : ℕ) (fs : List LinkedFunction) (k p : ℕ) (c : Code) (cs : List Code) → drop p (code_at fs k) ≡ c ∷ cs
    → address base fs k (p + 1) ≡ address base fs k p + step_size c.step
address_next base fs k p c cs e = rw add-one (let w = next (code_at fs k) p e in omega arith)
  where
    next : (ds : List Code) (p : ℕ) → drop p ds ≡ c ∷ cs → words_of (take (suc p) ds) ≡ words_of (take p ds) + step_size c.step
    next [] zero e = cc
    next [] (suc p) e = cc
    next (d ∷ ds) zero e = let f : d ≡ c = cc in rw f (omega arith)
    next (d ∷ ds) (suc p) e = let r = next ds p e in omega arith
