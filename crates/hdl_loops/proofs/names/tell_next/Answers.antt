use Rattle.std.proofs.Common.{◌≡◌, ◌++◌, ◌∷◌, [], List, subst}
use Rattle.hdl_check.specs.Whole.{chips_in}
use Rattle.hdl_loops.specs.Inner.Report.{names_of}
use Rattle.hdl_loops.specs.Inner.Tasks.{IsSure}
use Rattle.hdl_loops.specs.declared.names.Task.{Task}
use Rattle.hdl_loops.specs.declared.names.Task.TheVariants as tasks
use Rattle.hdl_loops.proofs.Passing.{still_told, noted_told}
use Rattle.hdl_loops.proofs.Tasking.{from_top}
use Rattle.hdl_loops.proofs.names.tell_next.Goals as goal

pub returns-in_ok-add-in-Some-Net-clause-right : goal.returns-in_ok-add-in-Some-Net-clause-right
returns-in_ok-add-in-Some-Net-clause-right c =
    still_told (chips_in c.args.entries.now c.args.memories) c.args.told.now c.add.new.self (c.in-Some-Net.name.now ∷ []) c.requires.right c.in_ok-add-in-Some-Net.ensures.passed c.in_ok-add-in-Some-Net.ensures.names

pub returns-in_ok-note-in-Some-Passed-clause-right : goal.returns-in_ok-note-in-Some-Passed-clause-right
returns-in_ok-note-in-Some-Passed-clause-right c =
    let chips = chips_in c.args.entries.now c.args.memories in
    let p = c.in-Some-Passed.passage in
    let e : c.args.tasks.now.items ≡ c.pop.new.self.items ++ tasks.Passed p ∷ [] = (rw c.in-Some-Passed.field-0-is at c.in-Some-Passed.ensures.items) in
    let top = from_top c.args.tasks.now.items c.pop.new.self.items (tasks.Passed p) e in
    noted_told chips c.args.told.now c.note.new.self p c.requires.right c.in_ok-note-in-Some-Passed.ensures.names c.in_ok-note-in-Some-Passed.ensures.passed
    (subst (λ (v : List Task). IsSure chips v (names_of c.args.told.now)) top c.requires.sure)
