-- What linked code promises to those that run or translate it: its calls, places and statics are there.
use Rattle.std.specs.Prelude.{◌≡◌, ◌<◌, ◌≤◌, ℕ, false, All, IsSomeAnd, length}
use Rattle.vm_tree.specs.declared.command.Segment.{Segment}
use Rattle.vm_tree.specs.declared.command.Segment.TheVariants as segment
use Rattle.vm_link.specs.declared.linked.Step.{Step}
use Rattle.vm_link.specs.declared.linked.Step.TheVariants as step
use Rattle.vm_link.specs.declared.linked.Linked.{Linked}
use Rattle.vm_link.specs.declared.linked.LinkedFunction.{LinkedFunction}

-- a static is one of the 240 words
abbrev pub IsIndex : Segment → ℕ → Type 0
IsIndex segment.Static i = i < 240
IsIndex segment.Argument i = Unit {0}
IsIndex segment.Local i = Unit {0}
IsIndex segment.Constant i = Unit {0}
IsIndex segment.This i = Unit {0}
IsIndex segment.That i = Unit {0}
IsIndex segment.Pointer i = Unit {0}
IsIndex segment.Temp i = Unit {0}

-- a step of a function with this many places, where there are this many functions
abbrev pub IsSoundStep : ℕ → ℕ → Step → Type 0
IsSoundStep functions places (step.Operate o) = Unit {0}
IsSoundStep functions places (step.Push g i) = IsIndex g i
IsSoundStep functions places (step.Pop g i) = IsIndex g i
IsSoundStep functions places (step.Goto p) = p ≤ places
IsSoundStep functions places (step.IfGoto p) = p ≤ places
IsSoundStep functions places (step.Function n) = Unit {0}
IsSoundStep functions places (step.Call f n) = f < functions
IsSoundStep functions places step.Return = Unit {0}

abbrev pub IsSoundFunction : ℕ → LinkedFunction → Type 0
IsSoundFunction functions f = All (λ c. IsSoundStep functions (length f.code) c.step) f.code

pub record IsSound (l : Linked) : Type 0 where
  pub each : All (IsSoundFunction (length l.functions)) l.functions
  pub start : l.bare ≡ false → IsSomeAnd l.start (λ k. k < length l.functions)
