-- The image of a linked program and its map: for each instruction the control point, and the instructions that end a step of the program's
-- meaning. (The book, chapters 7 and 8.)
use Rattle.std.specs.Prelude.{◌≡◌, ◌<◌, ◌≤◌, ◌^◌, min, length, ℕ, ◌+◌, ◌-◌, ◌++◌, Bool, true, false, List, [], ◌∷◌, Option, Some, None, nat_eq, ◌&&◌, ◌||◌, not, map, unwrap_or, if◌then◌else◌}
use Rattle.std.specs.List.{flat_map, filter_map, list_any}
use Rattle.hack_isa.specs.Machine.{image_words}
use Rattle.hack_isa.specs.declared.Instr.{Instr}
use Rattle.hack_isa.specs.declared.Instr.TheVariants.{Address}
use Rattle.outer_world.specs.declared.point.Point.{Point}
use Rattle.vm_link.specs.declared.linked.Linked.{Linked}
use Rattle.vm_link.specs.declared.linked.Code.{Code}
use Rattle.vm_link.specs.declared.linked.Step.{Step}
use Rattle.vm_link.specs.declared.linked.Step.TheVariants as step
use Rattle.vm_link.specs.declared.linked.LinkedFunction.{LinkedFunction}
use Rattle.vm_templates.specs.Budgets.{most_words}
use Rattle.vm_templates.specs.Templates.{template, start_code, endless, start_size}
use Rattle.image_map.specs.Computer.{endless_loop}
use Rattle.vm_translator.specs.declared.ends.Closing.{Closing}
use Rattle.vm_translator.specs.declared.ends.Closing.TheVariants as closes
use Rattle.image_map.specs.declared.map.PointRange.{PointRange}
use Rattle.image_map.specs.declared.map.ImageMap.{ImageMap}
use Rattle.vm_translator.specs.declared.layout.Placed.{Placed}
use Rattle.vm_templates.specs.declared.routines.Routines.{Routines}
use Rattle.vm_link.specs.Uniform.{is_shared}
use Rattle.vm_translator.specs.Shapes.{shape_of, step_size}
use Rattle.vm_translator.specs.Shared.{used_routines, shared_from, lasts_from, ranges_from, routines_from}
use Rattle.vm_translator.specs.Statics.{statics_of}
use Rattle.vm_translator.specs.Places.{address_of, base_of, end_of, named_symbol, program, target_of}

-- the instructions of a placed step
abbrev pub piece : Routines → ℕ → List LinkedFunction → Placed → List Instr
piece rs base fs c = template rs c.at (shape_of (target_of base fs c.function c.code.step) c.code.step)

-- where the start code calls
abbrev pub entry_of : Linked → ℕ
entry_of l = address_of l (unwrap_or l.start 0) 0

-- a placed step names this address
abbrev pub names : ℕ → List LinkedFunction → ℕ → Placed → Bool
names base fs at c = list_any (nat_eq at) (named_symbol base fs c.function (c.at + step_size c.code.step) c.code.step)

-- Some label that is gone to, some return address, or a function that is called stands at the end of the code.
abbrev pub names_end : Linked → Bool
names_end l = (not l.bare && nat_eq (end_of l) (entry_of l)) || list_any (names (base_of l) l.functions (end_of l)) (program l)

-- What closes the code. Where the end is named it is one word 0, so that each address that is named has a word. A program without start code may go
-- past its last command; where it has routines, an endless loop keeps it from the first of them.
abbrev pub closing_of : Linked → Closing
closing_of l = if l.bare && not (nat_eq (length (used_routines l)) 0) then closes.Loop else if names_end l then closes.Word else closes.Nothing

-- its instructions at an address, and how many they are
abbrev pub closing_code : ℕ → Closing → List Instr
closing_code at closes.Nothing = []
closing_code at closes.Word = Address 0 ∷ []
closing_code at closes.Loop = endless at

abbrev pub closing_size : Closing → ℕ
closing_size closes.Nothing = 0
closing_size closes.Word = 1
closing_size closes.Loop = 2

abbrev pub closing : Linked → List Instr
closing l = closing_code (end_of l) (closing_of l)

-- the address after it: there the part begins that commands share
abbrev pub shared_at : Linked → ℕ
shared_at l = end_of l + closing_size (closing_of l)

abbrev pub routines : Linked → Routines
routines l = routines_from (shared_at l) (used_routines l)

-- the start code, which a program that keeps its opening texts has not
abbrev pub opening : Linked → List Instr
opening l = if l.bare then [] else start_code (routines l) (entry_of l)

abbrev pub image_of : Linked → List Instr
image_of l = opening l ++ (flat_map (piece (routines l) (base_of l) l.functions) (program l) ++ (closing l ++ shared_from (shared_at l) (used_routines l)))

-- The last address of a placed step that is a commit. One that goes through a routine ends at the routine's last address.
abbrev pub commit_of : Placed → Option ℕ
commit_of c = if c.code.commit && not (is_shared c.code.step) then Some (c.at + step_size c.code.step - 1) else None

-- the last address of the start code's `pop temp 0`, and those of the routines, which are commits where the program has some
abbrev pub start_commits : Linked → List ℕ
start_commits l = if not l.bare && l.marked then 20 ∷ [] else []

abbrev pub shared_commits : Linked → List ℕ
shared_commits l = if l.marked then lasts_from (shared_at l) (used_routines l) else []

abbrev pub commits_of : Linked → List ℕ
commits_of l = start_commits l ++ (filter_map commit_of (program l) ++ shared_commits l)

-- the addresses of the routines, which have no point
abbrev pub shared_ranges : Linked → List (ℕ × ℕ)
shared_ranges l = ranges_from (shared_at l) (used_routines l)

-- the addresses of a placed step, which have its point
abbrev pub range_of : Placed → PointRange
range_of c = record { from = c.at; to = c.at + step_size c.code.step; point = c.point }

-- the addresses of the instructions by which a function is entered, from the first up to and without the address after the last
abbrev pub is_entry : Step → Bool
is_entry (step.Function n) = true
is_entry s = false

abbrev pub entry_range : Placed → Option (ℕ × ℕ)
entry_range c = if is_entry c.code.step then Some (c.at, c.at + step_size c.code.step) else None

abbrev pub entries_of : Linked → List (ℕ × ℕ)
entries_of l = filter_map entry_range (program l)

-- The start code up to its endless loop has the point 1 of the subroutine 0, the loop has the point 2.
abbrev pub start_ranges : Linked → List PointRange
start_ranges l =
    if l.bare then [] else record { from = 0; to = endless_loop; point = record { sub = 0; number = 1 } }
    ∷ record { from = endless_loop; to = start_size; point = record { sub = 0; number = 2 } } ∷ []

abbrev pub same_point : Point → Point → Bool
same_point p q = nat_eq p.sub q.sub && nat_eq p.number q.number

-- a range before others, which is one with the next where they have one point
abbrev pub join : PointRange → List PointRange → List PointRange
join r [] = r ∷ []
join r (s ∷ ss) = if same_point r.point s.point then record { from = r.from; to = s.to; point = r.point } ∷ ss else r ∷ s ∷ ss

-- ranges one after another, where neighbours that have one point are one
abbrev pub merged_ranges : List PointRange → List PointRange
merged_ranges [] = []
merged_ranges (r ∷ rs) = join r (merged_ranges rs)

-- the last range goes to this address
abbrev pub stretched_ranges : ℕ → List PointRange → List PointRange
stretched_ranges to [] = []
stretched_ranges to (r ∷ []) = record { from = r.from; to = to; point = r.point } ∷ []
stretched_ranges to (r ∷ s ∷ rs) = r ∷ stretched_ranges to (s ∷ rs)

-- what closes the code has the point of what stands before it
abbrev pub points_of : Linked → List PointRange
points_of l = stretched_ranges (shared_at l) (merged_ranges (start_ranges l ++ map range_of (program l)))

-- the map of the image
abbrev pub image_map_of : Linked → ImageMap
image_map_of l = record { points = points_of l; commits = commits_of l; shared = shared_ranges l; entries = entries_of l; statics = statics_of l }

-- The budget by commands: 256 for the start and what is shared, and for each step the most words that it may have.
abbrev pub budget_in : List Code → ℕ
budget_in [] = 0
budget_in (c ∷ cs) = most_words c.step + budget_in cs

abbrev pub budget_from : List LinkedFunction → ℕ
budget_from [] = 0
budget_from (f ∷ fs) = budget_in f.code + budget_from fs

abbrev pub budget_of : Linked → ℕ
budget_of l = 256 + budget_from l.functions

-- The image has this many words, or 2^64 - 1 where it has more, and they are more than there is room
-- for.
pub record IsTooLarge (l : Linked) (w : ℕ) : Type 0 where
  pub words : w ≡ min (length (image_of l)) (2 ^ 64 - 1)
  pub over : image_words < length (image_of l)
  pub within : w ≤ budget_of l
