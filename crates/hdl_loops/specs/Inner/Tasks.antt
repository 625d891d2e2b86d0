-- What is still to be reported of a circle, in order.
use Rattle.std.specs.Prelude.{◌≡◌, ℕ, zero, suc, ◌+◌, ◌<◌, true, List, [], ◌∷◌, length, Option, Some, None, slice_get}
use Rattle.hdl_tree.specs.declared.library.Entry.{Entry}
use Rattle.hdl_tree.specs.Chips.{Chips}
use Rattle.hdl_plans.specs.Loops.{IsLoop}
use Rattle.hdl_loops.specs.Inner.Hops.{input_of, output_of}
use Rattle.hdl_loops.specs.Inner.Knowing.{crosses, hops_of, NestsAt}
use Rattle.hdl_loops.specs.Inner.Stacked.{power}
use Rattle.hdl_loops.specs.Inner.Report.{Trip, TripAmong, add_name, add_names}
use Rattle.hdl_loops.specs.declared.hops.Hop.{Hop}
use Rattle.hdl_loops.specs.declared.report.Passage.{Passage}
use Rattle.hdl_loops.specs.declared.names.Task.{Task}
use Rattle.hdl_loops.specs.declared.names.Task.TheVariants as tasks
use Rattle.hdl_loops.specs.declared.known.Known.{Known}

abbrev pub passage_of : Hop → Passage
passage_of h = record { chip = h.chip; through = h.through }

-- the nets that hops begin at, each before what its hop passes
abbrev pub net_tasks : ℕ → List Hop → List Task
net_tasks d [] = []
net_tasks d (h ∷ ws) = tasks.Net h.from.name ∷ tasks.Pass (passage_of h) d ∷ net_tasks d ws

-- the same of a way, without the net that it begins at
abbrev pub way_tasks : ℕ → List Hop → List Task
way_tasks d [] = []
way_tasks d (h ∷ ws) = tasks.Pass (passage_of h) d ∷ net_tasks d ws

-- there is a way through the chip that passes these nets
pub record TripThrough (chips : Chips) (p : Passage) (names : List (List ℕ)) : Type 0 where
  pub chip : Entry
  pub there : slice_get chips.entries p.chip ≡ Some chip
  pub trip : Trip chips chip (input_of p.through) (output_of p.through) names

-- there is one all of whose nets are reported
abbrev pub PassTold : Chips → Passage → List (List ℕ) → Type 0
PassTold chips p told = (chip : Entry) → slice_get chips.entries p.chip ≡ Some chip → TripAmong chips chip p.through.input.now p.through.bit p.through.output.now p.through.out told

-- whichever ways are reported, what is reported in the end is right
abbrev pub Goes : (chips : Chips) (right : List (List ℕ) → Type 0) → List Task → List (List ℕ) → Type 0
Goes chips right [] told = right told
Goes chips right (tasks.Net n ∷ ts) told = Goes chips right ts (add_name told n.now)
Goes chips right (tasks.Pass p d ∷ ts) told = (names : List (List ℕ)) → TripThrough chips p names → Goes chips right ts (add_names told names)
Goes chips right (tasks.Passed p ∷ ts) told = PassTold chips p told × Goes chips right ts told

-- what comes next is reported, if nothing more of a way is
abbrev pub IsSure : Chips → List Task → List (List ℕ) → Type 0
IsSure chips [] told = Unit {0}
IsSure chips (tasks.Net n ∷ ts) told = Unit {0}
IsSure chips (tasks.Pass p d ∷ ts) told = Unit {0}
IsSure chips (tasks.Passed p ∷ ts) told = PassTold chips p told

-- a step on: what is reported in the end is those of a loop, if it was before
abbrev pub GoesOn : Chips → List Task → List (List ℕ) → List Task → List (List ℕ) → Type 0
GoesOn chips ts told us more = (chip : Entry) → Goes chips (IsLoop chips chip) ts told → Goes chips (IsLoop chips chip) us more

abbrev pub pass_task : Passage → ℕ → Task
pass_task p d = tasks.Pass p d

-- a way leads through the chip, in which chips nest less deep than this
abbrev pub IsTask : Chips → List (Option Known) → Task → Type 0
IsTask chips known (tasks.Net n) = Unit {0}
IsTask chips known (tasks.Pass p d) = (p.chip < length chips.entries) × (crosses chips known p.chip (input_of p.through) (output_of p.through) ≡ true) × NestsAt d chips p.chip
IsTask chips known (tasks.Passed p) = Unit {0}

abbrev pub AreTasks : Chips → List (Option Known) → List Task → Type 0
AreTasks chips known [] = Unit {0}
AreTasks chips known (t ∷ ts) = IsTask chips known t × AreTasks chips known ts

-- ---- the steps that are left

abbrev pub twice : ℕ → ℕ
twice zero = 0
twice (suc n) = suc (suc (twice n))

abbrev pub hop_count : Option Known → ℕ
hop_count None = 0
hop_count (Some inside) = length (hops_of inside)

-- more than twice the hops of any chip
abbrev pub room : List (Option Known) → ℕ
room [] = 2
room (k ∷ ks) = twice (hop_count k) + room ks

abbrev pub task_weight : ℕ → Task → ℕ
task_weight b (tasks.Net n) = 1
task_weight b (tasks.Pass p d) = power b d
task_weight b (tasks.Passed p) = 1

abbrev pub tasks_weight : ℕ → List Task → ℕ
tasks_weight b [] = 0
tasks_weight b (t ∷ ts) = task_weight b t + tasks_weight b ts
