use Rattle.std.proofs.Common.{◌≡◌, ◌-◌, ◌++◌, ◌∷◌, reverse, List, sym, ap, subst, ◌∙◌, arith}
use Rattle.hdl_check.specs.Whole.{chips_in}
use Rattle.hdl_check.proofs.Stages.{entry_there}
use Rattle.hdl_tree.specs.Chips.{end_of}
use Rattle.hdl_plans.specs.Loops.{IsLoop}
use Rattle.hdl_loops.specs.Inner.Hops.{input_of, output_of}
use Rattle.hdl_loops.specs.Inner.Report.{names_of}
use Rattle.hdl_loops.specs.Inner.Tasks.{way_tasks, AreTasks, Goes, room, tasks_weight}
use Rattle.hdl_loops.specs.declared.names.Task.{Task}
use Rattle.hdl_loops.specs.declared.names.Task.TheVariants as tasks
use Rattle.hdl_loops.proofs.Growing.{some_of}
use Rattle.hdl_loops.proofs.Leaping.{end_trip}
use Rattle.hdl_loops.proofs.Nesting.{not_zero}
use Rattle.hdl_loops.proofs.Tasking.{told_goes, end_goes, pass_pos, passed_over, over_tasks, over_goes, over_less}
use Rattle.hdl_loops.proofs.Through.{cross_end}
use Rattle.hdl_loops.proofs.names.pass.Goals as goal

pub returns-then-has_passed-clause-goes : goal.returns-then-has_passed-clause-goes
returns-then-has_passed-clause-goes c = λ chip goes.
    let chips = chips_in c.args.entries.now c.args.memories in
    let e = entry_there chips.entries c.args.passage.chip c.requires.task.0 in
    told_goes chips c.args.told.now c.args.passage c.args.depth (reverse c.args.tasks.now.items) (IsLoop chips chip) e.0 e.1 c.requires.right (sym c.has_passed.ensures ∙ c.if-has_passed.true) goes

pub returns-then-has_passed-clause-less : goal.returns-then-has_passed-clause-less
returns-then-has_passed-clause-less c = pass_pos c.args.known.now c.args.passage c.args.depth (reverse c.args.tasks.now.items)

pub returns-then-is_end-clause-goes : goal.returns-then-is_end-clause-goes
returns-then-is_end-clause-goes c = λ chip goes.
    let chips = chips_in c.args.entries.now c.args.memories in
    let p = c.args.passage in
    let e = entry_there chips.entries p.chip c.requires.task.0 in
    let x = some_of (end_of c.args.memories e.0) (sym (c.is_end.ensures e.0 e.1) ∙ c.if-is_end.true) in
    end_goes chips e.0 p c.args.depth (reverse c.args.tasks.now.items) (IsLoop chips chip) (names_of c.args.told.now) e.1
    (end_trip chips e.0 x.0 p.through x.1 (cross_end chips c.args.known.now p.chip e.0 e.1 (input_of p.through) (output_of p.through) x.0 x.1 c.requires.task.1)) goes

pub returns-then-is_end-clause-less : goal.returns-then-is_end-clause-less
returns-then-is_end-clause-less c = pass_pos c.args.known.now c.args.passage c.args.depth (reverse c.args.tasks.now.items)

pub overflow_sub-depth : goal.overflow_sub-depth
overflow_sub-depth c =
    let chips = chips_in c.args.entries.now c.args.memories in
    let e = entry_there chips.entries c.args.passage.chip c.requires.task.0 in
    let pos = not_zero c.args.depth chips e.0 (c.requires.task.2 e.0 e.1) in
    omega (arith, pos)

pub way_through-requires-clause-right : goal.way_through-requires-clause-right
way_through-requires-clause-right c = λ inside at.
    let chips = chips_in c.args.entries.now c.args.memories in
    let e = entry_there chips.entries c.args.passage.chip c.requires.task.0 in
    let right = c.requires.known c.args.passage.chip e.0 inside e.1 at in
    (right.linked, right.sound)

pub returns-clause-tasks : goal.returns-clause-tasks
returns-clause-tasks c =
    let chips = chips_in c.args.entries.now c.args.memories in
    let ws = c.in_ok-way.way.items in
    let all : reverse c.put_way.new.tasks.items ≡ way_tasks (c.args.depth - 1) ws ++ tasks.Passed c.args.passage ∷ reverse c.args.tasks.now.items =
    passed_over (c.args.depth - 1) c.args.passage ws c.as_slice.result.now c.args.tasks.now.items c.push.new.self.items c.put_way.new.tasks.items c.as_slice.ensures.value c.in_ok-push.ensures.items c.in_ok-put_way.ensures in
    subst (AreTasks chips c.args.known.now) (sym all) (over_tasks chips c.args.known.now c.args.passage c.args.depth ws c.requires.known c.requires.task c.in_ok-way.ensures (reverse c.args.tasks.now.items) c.requires.tasks)

pub returns-clause-goes : goal.returns-clause-goes
returns-clause-goes c = λ chip goes.
    let chips = chips_in c.args.entries.now c.args.memories in
    let ws = c.in_ok-way.way.items in
    let told = names_of c.args.told.now in
    let all : reverse c.put_way.new.tasks.items ≡ way_tasks (c.args.depth - 1) ws ++ tasks.Passed c.args.passage ∷ reverse c.args.tasks.now.items =
    passed_over (c.args.depth - 1) c.args.passage ws c.as_slice.result.now c.args.tasks.now.items c.push.new.self.items c.put_way.new.tasks.items c.as_slice.ensures.value c.in_ok-push.ensures.items c.in_ok-put_way.ensures in
    subst (λ (v : List Task). Goes chips (IsLoop chips chip) v told) (sym all) (over_goes chips c.args.known.now c.args.passage c.args.depth ws c.requires.known c.requires.task c.in_ok-way.ensures (IsLoop chips chip) (reverse c.args.tasks.now.items) told goes)

pub returns-clause-less : goal.returns-clause-less
returns-clause-less c =
    let chips = chips_in c.args.entries.now c.args.memories in
    let ws = c.in_ok-way.way.items in
    let all : reverse c.put_way.new.tasks.items ≡ way_tasks (c.args.depth - 1) ws ++ tasks.Passed c.args.passage ∷ reverse c.args.tasks.now.items =
    passed_over (c.args.depth - 1) c.args.passage ws c.as_slice.result.now c.args.tasks.now.items c.push.new.self.items c.put_way.new.tasks.items c.as_slice.ensures.value c.in_ok-push.ensures.items c.in_ok-put_way.ensures in
    let less = over_less chips c.args.known.now c.args.passage c.args.depth ws c.requires.known c.requires.task c.in_ok-way.ensures (reverse c.args.tasks.now.items) in
    let same = ap (tasks_weight (room c.args.known.now)) all in
    omega (arith, less, same)
