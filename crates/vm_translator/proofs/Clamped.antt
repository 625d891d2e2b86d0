-- Where the numbers of a step are such that an instruction can name them, its shape has these numbers.
use Rattle.std.proofs.Common.{◌≡◌, ℕ, zero, suc, ◌+◌, ◌<◌, ◌≤◌, ◌%◌, refl, ap, ◌∙◌, sym, subst, arith}
use Rattle.vm_tree.specs.declared.command.Segment.{Segment}
use Rattle.vm_tree.specs.declared.command.Segment.TheVariants as segment
use Rattle.vm_link.specs.declared.linked.Step.{Step}
use Rattle.vm_link.specs.declared.linked.Step.TheVariants as step
use Rattle.vm_templates.specs.declared.shape.Shape.{Shape}
use Rattle.vm_templates.specs.declared.shape.Shape.TheVariants as shape
use Rattle.simulation.specs.System.{IsData}
use Rattle.vm_templates.specs.Templates.{size}
use Rattle.vm_templates.specs.Effects.{Pushed, Stored}
use Rattle.vm_templates.specs.Commands.{IsShape, HasRoom, HasValues, address_at, Ready, Effect, MayStore, PushesFrom, PopsTo, next}
use Rattle.vm_translator.specs.Shapes as table
use Rattle.vm_translator.specs.Shapes.{shape_of}

-- the shapes with the numbers that the step has
abbrev pub push_from : ℕ → ℕ → Shape
push_from base zero = shape.PushFirst base
push_from base (suc i) = shape.PushAt base (suc i)

abbrev pub pop_to : ℕ → ℕ → Shape
pop_to base zero = shape.PopFirst base
pop_to base (suc i) = shape.PopAt base (suc i)

abbrev pub pushed : Segment → ℕ → Shape
pushed segment.Argument i = push_from 2 i
pushed segment.Local i = push_from 1 i
pushed segment.Static i = shape.PushWord (16 + i)
pushed segment.Constant i = shape.PushConstant i
pushed segment.This i = push_from 3 i
pushed segment.That i = push_from 4 i
pushed segment.Pointer i = shape.PushWord (3 + i)
pushed segment.Temp i = shape.PushWord (5 + i)

abbrev pub popped : Segment → ℕ → Shape
popped segment.Argument i = pop_to 2 i
popped segment.Local i = pop_to 1 i
popped segment.Static i = shape.PopWord (16 + i)
popped segment.Constant i = shape.PopWord 13
popped segment.This i = pop_to 3 i
popped segment.That i = pop_to 4 i
popped segment.Pointer i = shape.PopWord (3 + i)
popped segment.Temp i = shape.PopWord (5 + i)

abbrev pub plain_of : ℕ → Step → Shape
plain_of to (step.Operate o) = shape.Operate o
plain_of to (step.Push g i) = pushed g i
plain_of to (step.Pop g i) = popped g i
plain_of to (step.Goto p) = shape.Goto to
plain_of to (step.IfGoto p) = shape.IfGoto to
plain_of to (step.Function n) = shape.Function n
plain_of to (step.Call f n) = shape.Call to n
plain_of to step.Return = shape.Return

pub named_is : (i : ℕ) → i < 32768 → table.named_index i ≡ i
named_is i h = omega arith

from_same : (base i : ℕ) → IsShape (push_from base i) → table.push_from base i ≡ push_from base i
from_same base zero h = refl
from_same base (suc i) h = ap (shape.PushAt base) (named_is (suc i) h.2)

to_same : (base i : ℕ) → IsShape (pop_to base i) → table.pop_to base i ≡ pop_to base i
to_same base zero h = refl
to_same base (suc i) h = ap (shape.PopAt base) (named_is (suc i) h.2)

push_same : (g : Segment) (i : ℕ) → IsShape (pushed g i) → table.push_shape g i ≡ pushed g i
push_same segment.Argument i h = from_same 2 i h
push_same segment.Local i h = from_same 1 i h
push_same segment.Static i h = ap shape.PushWord (named_is (16 + i) (let k = h.1 in omega arith))
push_same segment.Constant i h = ap shape.PushConstant (named_is i h)
push_same segment.This i h = from_same 3 i h
push_same segment.That i h = from_same 4 i h
push_same segment.Pointer i h = ap shape.PushWord (named_is (3 + i) (let k = h.1 in omega arith))
push_same segment.Temp i h = ap shape.PushWord (named_is (5 + i) (let k = h.1 in omega arith))

pop_same : (g : Segment) (i : ℕ) → IsShape (popped g i) → table.pop_shape g i ≡ popped g i
pop_same segment.Argument i h = to_same 2 i h
pop_same segment.Local i h = to_same 1 i h
pop_same segment.Static i h = ap shape.PopWord (named_is (16 + i) (let k = h.1 in omega arith))
pop_same segment.Constant i h = refl
pop_same segment.This i h = to_same 3 i h
pop_same segment.That i h = to_same 4 i h
pop_same segment.Pointer i h = ap shape.PopWord (named_is (3 + i) (let k = h.1 in omega arith))
pop_same segment.Temp i h = ap shape.PopWord (named_is (5 + i) (let k = h.1 in omega arith))

pub plain_same : (to : ℕ) (c : Step) → IsShape (plain_of to c) → shape_of to c ≡ plain_of to c
plain_same to (step.Operate o) h = refl
plain_same to (step.Push g i) h = push_same g i h
plain_same to (step.Pop g i) h = pop_same g i h
plain_same to (step.Goto p) h = refl
plain_same to (step.IfGoto p) h = refl
plain_same to (step.Function n) h = refl
plain_same to (step.Call f n) h = ap (shape.Call to) (named_is n h.1)
plain_same to step.Return h = refl

-- where a push and a pop lead: after as many instructions as their shapes have in the table
from_next : (base i here : ℕ) (m : ℕ → ℕ) → (here + size (table.push_from base i)) % 32768 ≡ next (push_from base i) here m
from_next base zero here m = refl
from_next base (suc i) here m = refl

to_next : (base i here : ℕ) (m : ℕ → ℕ) → (here + size (table.pop_to base i)) % 32768 ≡ next (pop_to base i) here m
to_next base zero here m = refl
to_next base (suc i) here m = refl

pub push_next : (g : Segment) (i here : ℕ) (m : ℕ → ℕ) → (here + size (table.push_shape g i)) % 32768 ≡ next (pushed g i) here m
push_next segment.Argument i here m = from_next 2 i here m
push_next segment.Local i here m = from_next 1 i here m
push_next segment.Static i here m = refl
push_next segment.Constant i here m = refl
push_next segment.This i here m = from_next 3 i here m
push_next segment.That i here m = from_next 4 i here m
push_next segment.Pointer i here m = refl
push_next segment.Temp i here m = refl

pub pop_next : (g : Segment) (i here : ℕ) (m : ℕ → ℕ) → (here + size (table.pop_shape g i)) % 32768 ≡ next (popped g i) here m
pop_next segment.Argument i here m = to_next 2 i here m
pop_next segment.Local i here m = to_next 1 i here m
pop_next segment.Static i here m = refl
pop_next segment.Constant i here m = refl
pop_next segment.This i here m = to_next 3 i here m
pop_next segment.That i here m = to_next 4 i here m
pop_next segment.Pointer i here m = refl
pop_next segment.Temp i here m = refl

-- A segment's first word, like the others, is at its index from where the register points.
module _ (base : ℕ) (m : ℕ → ℕ) (words : (k : ℕ) → m k < 65536) where
  at_zero : address_at m base 0 ≡ m base
  at_zero = let w = words base in omega arith

  pub push_shape : (i : ℕ) → 1 ≤ base → base ≤ 4 → i < 32768 → IsShape (push_from base i)
  push_shape zero one four small = (one, four)
  push_shape (suc i) one four small = (one, four, small)

  pub push_ready : (i : ℕ) → HasRoom 1 m → address_at m base i < 24576 → Ready (push_from base i) m
  push_ready zero room low = (room, omega (arith, at_zero, low))
  push_ready (suc i) room low = (room, low)

  pub push_effect : (i here : ℕ) (t : ℕ → ℕ) → Effect (push_from base i) here m t → Pushed m t (m (address_at m base i))
  push_effect zero here t p = subst (λ k. Pushed m t (m k)) (sym at_zero) p
  push_effect (suc i) here t p = p

  pub push_reads : (i a : ℕ) → address_at m base i ≡ a → PushesFrom (push_from base i) m a
  push_reads zero a e = sym at_zero ∙ e
  push_reads (suc i) a e = e

  pub pop_shape : (i : ℕ) → 1 ≤ base → base ≤ 4 → i < 32768 → IsShape (pop_to base i)
  pop_shape zero one four small = (one, four)
  pop_shape (suc i) one four small = (one, four, small)

  pub pop_ready : (i : ℕ) → HasValues 1 m → 256 ≤ address_at m base i → address_at m base i < 24576 → Ready (pop_to base i) m
  pop_ready zero some high low = (some, omega (arith, at_zero, high), omega (arith, at_zero, low))
  pop_ready (suc i) some high low = (some, high, low)

  pub pop_effect : (i here : ℕ) (t : ℕ → ℕ) → Effect (pop_to base i) here m t → Stored m t (address_at m base i)
  pop_effect zero here t p = subst (Stored m t) (sym at_zero) p
  pop_effect (suc i) here t p = p

  pub pop_goes : (i a : ℕ) → address_at m base i ≡ a → PopsTo (pop_to base i) m a
  pop_goes zero a e = sym at_zero ∙ e
  pop_goes (suc i) a e = e

  -- where the table's pop may write data
  pub pop_data : (i : ℕ) → i < 32768 → MayStore (table.pop_to base i) m → IsData (address_at m base i)
  pop_data zero small h = subst IsData (sym at_zero) h
  pop_data (suc i) small h = subst (λ k. IsData (address_at m base k)) (named_is (suc i) small) h

-- the instructions of a push by a register are seven or nine
pub push_size : (c : Shape) (m : ℕ → ℕ) (a : ℕ) → PushesFrom c m a → 7 ≤ size c
push_size (shape.PushAt base index) m a h = omega arith
push_size (shape.PushFirst base) m a h = omega arith
push_size _ m a h = absurd h
