-- The tables that the translator makes of a program.
use Rattle.std.specs.Prelude.{◌≡◌, ◌<◌, ◌≤◌, ◌+◌, ◌-◌, ◌&&◌, ℕ, List, [], ◌∷◌, length, nat_eq, nat_le, ◌||◌, Bool, false, if◌then◌else◌}
use Rattle.vm_link.specs.declared.linked.LinkedFunction.{LinkedFunction}
use Rattle.vm_link.specs.declared.linked.Code.{Code}
use Rattle.vm_link.specs.declared.linked.Step.{Step}
use Rattle.vm_link.specs.declared.linked.Step.TheVariants as step
use Rattle.vm_translator.specs.declared.layout.Placed.{Placed}
use Rattle.vm_translator.specs.Shapes.{step_size}
use Rattle.vm_templates.specs.declared.shape.Shape.{Shape}
use Rattle.vm_templates.specs.declared.shape.Shape.TheVariants as shape
use Rattle.image_map.specs.declared.map.PointRange.{PointRange}
use Rattle.vm_translator.specs.declared.layout.Layout.{Layout}
use Rattle.vm_translator.specs.Places.{code_at, placed_from, words_in}
use Rattle.vm_translator.specs.Image.{same_point}

-- the number of each function's first step among all steps, the first of which has the number n
abbrev pub firsts_from : ℕ → List LinkedFunction → List ℕ
firsts_from n [] = []
firsts_from n (f ∷ fs) = n ∷ firsts_from (n + length f.code) fs

-- The layout has all steps with their addresses, each function's first step, and the address of the end.
pub record IsLayout (base : ℕ) (fs : List LinkedFunction) (layout : Layout) : Type 0 where
  pub placed : layout.placed.items ≡ placed_from 0 base fs
  pub firsts : layout.firsts.items ≡ firsts_from 0 fs
  pub ends : layout.end ≡ base + words_in fs

-- What a step of a function leads to is there.
abbrev pub LeadsWithin : List LinkedFunction → ℕ → Step → Type 0
LeadsWithin fs k (step.Goto p) = (k < length fs) × (p ≤ length (code_at fs k))
LeadsWithin fs k (step.IfGoto p) = (k < length fs) × (p ≤ length (code_at fs k))
LeadsWithin fs k (step.Call f n) = f < length fs
LeadsWithin fs k (step.Operate o) = Unit {0}
LeadsWithin fs k (step.Push g i) = Unit {0}
LeadsWithin fs k (step.Pop g i) = Unit {0}
LeadsWithin fs k (step.Function n) = Unit {0}
LeadsWithin fs k step.Return = Unit {0}

-- The number of a call's arguments is one that a text can have.
abbrev pub IsInLimit : Shape → Type 0
IsInLimit (shape.Call target arguments) = arguments ≤ 32767
IsInLimit _ = Unit {0}

-- A placed step can be written.
pub record IsReady (fs : List LinkedFunction) (c : Placed) : Type 0 where
  pub fits : c.at + step_size c.code.step ≤ 32768
  pub leads : LeadsWithin fs c.function c.code.step

-- After the first n functions there is no code, and the last of these has some.
pub record IsFilled (fs : List LinkedFunction) (n : ℕ) : Type 0 where
  pub within : n ≤ length fs
  pub rest : (k : ℕ) → n ≤ k → code_at fs k ≡ []
  pub last : 0 < n → 0 < length (code_at fs (n - 1))

-- the place is at the end of the code, where n functions are filled
abbrev pub is_end : ℕ → List LinkedFunction → ℕ → ℕ → Bool
is_end n fs k p = nat_le n k || (nat_eq (k + 1) n && nat_le (length (code_at fs k)) p)

-- a step of the function k names the end of the code, where the place after it is `next`
abbrev pub step_names_end : ℕ → List LinkedFunction → ℕ → ℕ → Step → Bool
step_names_end n fs k next (step.Goto p) = is_end n fs k p
step_names_end n fs k next (step.IfGoto p) = is_end n fs k p
step_names_end n fs k next (step.Call f m) = is_end n fs f 0 || is_end n fs k next
step_names_end n fs k next (step.Operate o) = false
step_names_end n fs k next (step.Push g i) = false
step_names_end n fs k next (step.Pop g i) = false
step_names_end n fs k next (step.Function m) = false
step_names_end n fs k next step.Return = false

-- some step of this code, which begins at the place p
abbrev pub code_names_end : ℕ → List LinkedFunction → ℕ → ℕ → List Code → Bool
code_names_end n fs k p [] = false
code_names_end n fs k p (c ∷ cs) = step_names_end n fs k (p + 1) c.step || code_names_end n fs k (p + 1) cs

-- some step of these functions, the first of which has the number k
abbrev pub functions_name_end : ℕ → List LinkedFunction → ℕ → List LinkedFunction → Bool
functions_name_end n fs k [] = false
functions_name_end n fs k (g ∷ gs) = code_names_end n fs k 0 g.code || functions_name_end n fs (k + 1) gs

-- one more range, which is one with the last where they have one point
abbrev pub added_range : List PointRange → PointRange → List PointRange
added_range [] r = r ∷ []
added_range (x ∷ []) r = if same_point x.point r.point then record { from = x.from; to = r.to; point = x.point } ∷ [] else x ∷ r ∷ []
added_range (x ∷ y ∷ ys) r = x ∷ added_range (y ∷ ys) r
