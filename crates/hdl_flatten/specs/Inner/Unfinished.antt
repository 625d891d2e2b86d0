-- The stack of chips with some of their parts put, each for a part of the next.
use Rattle.std.specs.Prelude.{◌≡◌, ℕ, zero, suc, ◌+◌, ◌≤◌, List, [], ◌∷◌, ◌++◌, sum_by, Option, Some, None, length, slice_get}
use Rattle.hdl_tree.specs.declared.ends.End.{End}
use Rattle.hdl_tree.specs.Chips.{Chips}
use Rattle.hdl_check.specs.Inner.Stacks.{from_bottom}
use Rattle.hdl_flatten.specs.declared.plan.Plan.{Plan}
use Rattle.hdl_flatten.specs.declared.plan.PartPlan.{PartPlan}
use Rattle.hdl_flatten.specs.declared.flat.Growing.{Growing}
use Rattle.hdl_flatten.specs.declared.flat.Unfinished.{Unfinished}
use Rattle.hdl_flatten.specs.Inner.Plans.{places}
use Rattle.hdl_flatten.specs.Inner.Fed.{nodes_in}
use Rattle.hdl_flatten.specs.Inner.Putting.{IsPut, IsGoing, IsEndFed, end_puts, end_blocks}

-- a chip that is to be put, by the place of its plan
pub record Task : Type 0 where
  pub place : ℕ
  pub inputs : List ℕ
  pub old : Growing

-- the chip at its place is put
abbrev pub IsDone : Chips → List Plan → Task → Growing → Type 0
IsDone chips plans task new = (plan : Plan) → slice_get plans task.place ≡ Some plan → IsPut chips plan task.inputs task.old new

-- some parts of the chip of a plan are put
pub record IsUnfinished (chips : Chips) (plans : List Plan) (flat : Growing) (chip : Unfinished) : Type 0 where
  pub place : ℕ
  pub plan : Plan
  pub old : Growing
  pub there : slice_get plans place ≡ Some plan
  pub none : plan.end ≡ None
  pub long : length (nodes_in chip.inputs) ≡ length plan.inputs.items
  pub room : length old.nodes.items + plan.size.nodes ≤ 16777216
  pub base_is : chip.base ≡ length old.nodes.items
  pub going : IsGoing chips plans place plan (nodes_in chip.inputs) old flat chip.rest.now

-- from the top on: once the chip is put, the next goes on
abbrev pub IsPending : Chips → List Plan → Task → List Unfinished → Growing → Type 0
IsPending chips plans task [] flat = IsDone chips plans task flat
IsPending chips plans task (u ∷ us) flat = (o : IsUnfinished chips plans flat u) × ((new : Growing) → IsPut chips o.plan (nodes_in u.inputs) o.old new → IsPending chips plans task us new)

-- the stack, as the code holds it
pub record ArePending (chips : Chips) (plans : List Plan) (task : Task) (items : List Unfinished) (flat : Growing) : Type 0 where
  pub stack : List Unfinished
  pub items_are : items ≡ from_bottom stack
  pub pending : IsPending chips plans task stack flat

-- ---- a chip is begun

-- an end may be put, if the chip is one
pub record CanBegin (plan : Plan) (inputs : List ℕ) (flat : Growing) : Type 0 where
  pub fed : (e : End) → plan.end ≡ Some e → IsEndFed e (length inputs)
  pub few : length flat.blocks.items ≤ 16777216

-- the end is put
pub record EndStands (e : End) (inputs : List ℕ) (old new : Growing) : Type 0 where
  pub nodes : new.nodes.items ≡ old.nodes.items ++ end_puts e inputs (length old.blocks.items)
  pub blocks : new.blocks.items ≡ old.blocks.items ++ end_blocks e inputs
  pub parts : new.parts ≡ old.parts

-- the chip of the plan is on top, and none of its parts is put
pub record IsOnStack (plan : Plan) (inputs : List ℕ) (old : Growing) (before after : List Unfinished) : Type 0 where
  pub chip : Unfinished
  pub base_is : chip.base ≡ length old.nodes.items
  pub inputs_are : nodes_in chip.inputs ≡ inputs
  pub rest_is : chip.rest.now ≡ plan.parts.items
  pub longer : after ≡ before ++ chip ∷ []

-- by whether the chip is an end
abbrev pub IsBegunBy : Option End → Plan → List ℕ → Growing → Growing → List Unfinished → List Unfinished → Type 0
IsBegunBy (Some e) plan inputs old new before after = EndStands e inputs old new × (after ≡ before)
IsBegunBy None plan inputs old new before after = (new ≡ old) × IsOnStack plan inputs old before after

-- an end is put, a chip with parts is on the stack
abbrev pub IsBegun : Plan → List ℕ → Growing → Growing → List Unfinished → List Unfinished → Type 0
IsBegun plan inputs old new before after = IsBegunBy plan.end plan inputs old new before after

-- ---- how many steps it takes

-- the parts of the chip of a plan, if there is one
abbrev pub parts_planned : Option Plan → List PartPlan
parts_planned None = []
parts_planned (Some plan) = plan.parts.items

-- how many steps the chip of a plan takes, whose parts nest at most so deep
abbrev pub steps_of : ℕ → List Plan → ℕ → ℕ
steps_of zero plans place = 0
steps_of (suc depth) plans place = 2 + sum_by (steps_of depth plans) (places (parts_planned (slice_get plans place)))

-- how many steps these parts take
abbrev pub steps_left : ℕ → List Plan → List PartPlan → ℕ
steps_left depth plans rest = sum_by (steps_of depth plans) (places rest)

-- how many steps the whole stack takes: for each chip one more than its parts
abbrev pub all_steps : List Plan → List Unfinished → ℕ
all_steps plans [] = 0
all_steps plans (u ∷ us) = (1 + steps_left (length plans) plans u.rest.now) + all_steps plans us
