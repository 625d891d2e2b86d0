use Rattle.std.proofs.Common.{◌≡◌, ℕ, ◌-◌, ◌++◌, ◌∷◌, [], suc, length, reverse, List, refl, sym, ap, subst, ◌∙◌, arith}
use Rattle.std.proofs.lemmas.Bool.Decides.{Decides-eqb}
use Rattle.std.proofs.lemmas.Result.{IfOk-weaker}
use Rattle.hdl_check.specs.Whole.{chips_in}
use Rattle.hdl_plans.specs.Loops.{IsLoop}
use Rattle.hdl_loops.specs.Inner.Tasks.{AreTasks, Goes, way_tasks}
use Rattle.hdl_loops.specs.Inner.Report.{names_of, add_name}
use Rattle.hdl_loops.specs.declared.hops.Hop.{Hop}
use Rattle.hdl_loops.specs.declared.names.Task.{Task}
use Rattle.hdl_loops.proofs.Nesting.{not_zero, nests_fit}
use Rattle.hdl_loops.proofs.Passing.{start_told, still_told}
use Rattle.hdl_loops.proofs.Tasking.{circle_goes, way_are_tasks, goes_sure, goes_end}
use Rattle.hdl_loops.proofs.names.nets_of.Goals as goal

pub tell_next-requires-clause-sure : goal.tell_next-requires-clause-sure
tell_next-requires-clause-sure c =
    let chips = chips_in c.args.entries.now c.args.memories in
    goes_sure chips (IsLoop chips c.args.entry.now) (reverse c.loop-memories.tasks.items) (names_of c.loop-memories.told) c.loop-memories.invariant.goes

pub loop-memories-preserved : goal.loop-memories-preserved
loop-memories-preserved c =
    let e = c.in_ok-tell_next.ensures in
    record { right = e.right; tasks = e.tasks; goes = e.goes c.args.entry.now c.loop-memories.invariant.goes }

pub loop-memories-init : goal.loop-memories-init
loop-memories-init c =
    let chips = chips_in c.args.entries.now c.args.memories in
    let ks = c.args.known.now in
    let chip = c.args.entry.now in
    let d = c.args.depth in
    let at = c.args.circle.now.at in
    let way = c.args.circle.now.way.items in
    let pos = not_zero d chips chip c.requires.nests in
    let deep : suc (d - 1) ≡ d = omega (arith, pos) in
    let all : reverse c.put_way.new.tasks.items ≡ way_tasks (d - 1) way ++ [] =
    c.in_ok-put_way.ensures ∙ (ap (λ (v : List Hop). way_tasks (d - 1) v ++ reverse c.new-tasks.result.items) c.as_slice.ensures.value ∙ ap (λ (v : List Task). way_tasks (d - 1) way ++ reverse v) c.new-tasks.ensures.items) in
    let told : names_of c.add.new.self ≡ add_name [] at.name.now = c.in_ok-add.ensures.names ∙ ap (λ (v : List (List ℕ)). add_name v at.name.now) c.new-told.ensures.names in
    record {
      right = still_told chips c.new-told.result c.add.new.self (at.name.now ∷ []) (start_told chips c.new-told.result c.new-told.ensures.passed) c.in_ok-add.ensures.passed c.in_ok-add.ensures.names;
      tasks = subst (AreTasks chips ks) (sym all) (way_are_tasks chips ks chip d (d - 1) [] way c.requires.hops c.requires.nests deep tt);
      goes =
          subst (λ (v : List Task). Goes chips (IsLoop chips chip) v (names_of c.add.new.self)) (sym all)
          (circle_goes chips ks chip at.name.now at.bit (d - 1) way (names_of c.add.new.self) told c.requires.round.0 c.requires.round.1 c.requires.hops c.requires.straight (nests_fit d chips chip c.requires.nests [] chip refl));
    }

pub returns : goal.returns
returns c =
    let chips = chips_in c.args.entries.now c.args.memories in
    let right = IsLoop chips c.args.entry.now in
    let told = names_of c.loop-memories.told in
    let empty : c.loop-memories.tasks.len ≡ 0 = (Decides-eqb c.loop-memories.tasks.len 0).0 (sym c.loop-memories-test.ensures) in
    let none : length c.loop-memories.tasks.items ≡ 0 = omega (arith, empty) in
    IfOk-weaker c.copied.result _ _ (λ nets is. subst right (sym is) (goes_end chips right c.loop-memories.tasks.items told none c.loop-memories.invariant.goes)) c.copied.ensures
