-- The part of an image that commands share: the routines that some command goes through, one after another.
use Rattle.std.specs.Prelude.{ℕ, ◌+◌, ◌-◌, ◌++◌, Bool, true, false, List, [], ◌∷◌, Option, Some, None, ◌&&◌, ◌||◌, not, filter, if◌then◌else◌}
use Rattle.std.specs.List.{list_any}
use Rattle.hack_isa.specs.declared.Instr.{Instr}
use Rattle.vm_link.specs.declared.linked.Step.{Step}
use Rattle.vm_link.specs.declared.linked.Step.TheVariants as step
use Rattle.vm_link.specs.declared.linked.Linked.{Linked}
use Rattle.vm_templates.specs.declared.routines.Routine.{Routine}
use Rattle.vm_templates.specs.declared.routines.Routine.TheVariants as routine
use Rattle.vm_templates.specs.declared.routines.Routines.{Routines}
use Rattle.vm_templates.specs.Templates.{compared_by, routine_code, routine_size}

abbrev pub same_routine : Routine → Routine → Bool
same_routine routine.Call routine.Call = true
same_routine routine.Back routine.Back = true
same_routine routine.Equal routine.Equal = true
same_routine routine.Greater routine.Greater = true
same_routine routine.Less routine.Less = true
same_routine q r = false

-- the routine that a step goes through
abbrev pub routine_for : Step → Option Routine
routine_for (step.Operate o) = compared_by o
routine_for (step.Call f n) = Some routine.Call
routine_for step.Return = Some routine.Back
routine_for s = None

-- whether there is one
abbrev pub has_routine : Option Routine → Bool
has_routine None = false
has_routine (Some r) = true

abbrev pub is_routine : Routine → Option Routine → Bool
is_routine r None = false
is_routine r (Some q) = same_routine q r

-- a step of the program goes through it, or the start code's call does
abbrev pub uses : Linked → Routine → Bool
uses l r = (not l.bare && same_routine r routine.Call) || list_any (λ f. list_any (λ c. is_routine r (routine_for c.step)) f.code) l.functions

abbrev pub all_routines : List Routine
all_routines = routine.Call ∷ routine.Back ∷ routine.Equal ∷ routine.Greater ∷ routine.Less ∷ []

-- the routines that an image has
abbrev pub used_routines : Linked → List Routine
used_routines l = filter (uses l) all_routines

-- how many instructions routines have
abbrev pub words_shared : List Routine → ℕ
words_shared [] = 0
words_shared (r ∷ rs) = routine_size r + words_shared rs

-- their instructions, the first at this address
abbrev pub shared_from : ℕ → List Routine → List Instr
shared_from at [] = []
shared_from at (r ∷ rs) = routine_code r at ++ shared_from (at + routine_size r) rs

-- the address of each one's last instruction
abbrev pub lasts_from : ℕ → List Routine → List ℕ
lasts_from at [] = []
lasts_from at (r ∷ rs) = (at + routine_size r - 1) ∷ lasts_from (at + routine_size r) rs

-- the addresses of each, from its first up to and without the address after its last
abbrev pub ranges_from : ℕ → List Routine → List (ℕ × ℕ)
ranges_from at [] = []
ranges_from at (r ∷ rs) = (at, at + routine_size r) ∷ ranges_from (at + routine_size r) rs

-- the address of one of them; the address after all where it is not among them
abbrev pub place_from : ℕ → List Routine → Routine → ℕ
place_from at [] r = at
place_from at (q ∷ rs) r = if same_routine q r then at else place_from (at + routine_size q) rs r

abbrev pub routines_from : ℕ → List Routine → Routines
routines_from at rs = record {
  call = place_from at rs routine.Call;
  back = place_from at rs routine.Back;
  equal = place_from at rs routine.Equal;
  greater = place_from at rs routine.Greater;
  less = place_from at rs routine.Less;
}
