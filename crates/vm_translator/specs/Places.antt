-- Where each step of a linked program stands.
use Rattle.std.specs.Prelude.{ℕ, ◌+◌, List, [], ◌∷◌, ◌++◌, option_map, slice_get, take, unwrap_or, if◌then◌else◌}
use Rattle.vm_templates.specs.Templates.{start_size}
use Rattle.vm_link.specs.declared.linked.Code.{Code}
use Rattle.vm_link.specs.declared.linked.LinkedFunction.{LinkedFunction}
use Rattle.vm_link.specs.declared.linked.Linked.{Linked}
use Rattle.vm_link.specs.declared.linked.Step.{Step}
use Rattle.vm_link.specs.declared.linked.Step.TheVariants as step
use Rattle.vm_translator.specs.declared.layout.Placed.{Placed}
use Rattle.vm_translator.specs.Shapes.{step_size}

-- the instructions of some code, and of functions
abbrev pub words_of : List Code → ℕ
words_of [] = 0
words_of (c ∷ cs) = step_size c.step + words_of cs

abbrev pub words_in : List LinkedFunction → ℕ
words_in [] = 0
words_in (f ∷ fs) = words_of f.code + words_in fs

-- the code of a function by its number, none where there is no such function
abbrev pub code_at : List LinkedFunction → ℕ → List Code
code_at fs k = unwrap_or (option_map (λ f. f.code) (slice_get fs k)) []

-- The address of a place in a function, where the functions begin at an address: before it are the functions before, and the code before it
-- in its own. A place after all code of its function is that of what comes next.
abbrev pub address : ℕ → List LinkedFunction → ℕ → ℕ → ℕ
address base fs k p = base + (words_in (take k fs) + words_of (take p (code_at fs k)))

-- the steps of a function with their addresses, the first at this address
abbrev pub placed_code : ℕ → ℕ → ℕ → List Code → List Placed
placed_code k sub at [] = []
placed_code k sub at (c ∷ cs) =
    record { at = at; function = k; point = record { sub = sub; number = c.statement }; code = c } ∷ placed_code k sub (at + step_size c.step) cs

-- the steps of functions, the first of which is number k of what is linked; their points have their numbers in the program
abbrev pub placed_from : ℕ → ℕ → List LinkedFunction → List Placed
placed_from k at [] = []
placed_from k at (f ∷ fs) = placed_code k f.number at f.code ++ placed_from (k + 1) (at + words_of f.code) fs

-- where a step leads; 0 where it leads nowhere
abbrev pub target_of : ℕ → List LinkedFunction → ℕ → Step → ℕ
target_of base fs k (step.Goto p) = address base fs k p
target_of base fs k (step.IfGoto p) = address base fs k p
target_of base fs k (step.Call f n) = address base fs f 0
target_of base fs k (step.Operate o) = 0
target_of base fs k (step.Push g i) = 0
target_of base fs k (step.Pop g i) = 0
target_of base fs k (step.Function n) = 0
target_of base fs k step.Return = 0

-- The addresses that a step names, where the step after it is at `next`: those of its label or function, and the return address of a call.
abbrev pub named_symbol : ℕ → List LinkedFunction → ℕ → ℕ → Step → List ℕ
named_symbol base fs k next (step.Goto p) = address base fs k p ∷ []
named_symbol base fs k next (step.IfGoto p) = address base fs k p ∷ []
named_symbol base fs k next (step.Call f n) = address base fs f 0 ∷ next ∷ []
named_symbol base fs k next (step.Operate o) = []
named_symbol base fs k next (step.Push g i) = []
named_symbol base fs k next (step.Pop g i) = []
named_symbol base fs k next (step.Function n) = []
named_symbol base fs k next step.Return = []

-- The functions come after the start code; a program that keeps its opening texts has none.
abbrev pub base_of : Linked → ℕ
base_of l = if l.bare then 0 else start_size

abbrev pub program : Linked → List Placed
program l = placed_from 0 (base_of l) l.functions

abbrev pub address_of : Linked → ℕ → ℕ → ℕ
address_of l k p = address (base_of l) l.functions k p

-- the address after the last instruction of a step
abbrev pub end_of : Linked → ℕ
end_of l = base_of l + words_in l.functions
