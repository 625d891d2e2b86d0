use Rattle.std.proofs.Common.{refl, sym, subst, List, ℕ}
use Rattle.script_parser.specs.declared.tree.Act.{Act}
use Rattle.script_parser.specs.declared.tree.Act.TheVariants as acts
use Rattle.script_parser.specs.declared.tree.Item.{Item}
use Rattle.tst_runner.specs.Setting.{setting_of}
use Rattle.outer_world.specs.Held.{pending, sink_of}
use Rattle.tst_runner.specs.Inner.States.{Misses, Performs}
use Rattle.tst_runner.proofs.Performed.{CountsStop-quietly, Performs-echo, Performs-quietly, Performs-silent}
use Rattle.tst_runner.proofs.acts.perform.Goals as goal

pub returns-in-Step-clause-does : goal.returns-in-Step-clause-does
returns-in-Step-clause-does g c w e s h stays =
    let setting = setting_of c.args.script.path.now (g.F.Shelf.state c.args.shelf.now).files c.args.script.memories in
    let there = (g.F.Shelf.state c.args.shelf.now).there in
    let unfailing = (g.F.Shelf.state c.args.shelf.now).unfailing in
    let err = (g.E.Sink.state c.args.err.now).written in
    let put = (g.O.Sink.state (sink_of c.do_step.new.out)).written in
    let left = pending c.do_step.new.out in
    let P : Act → Type 0 = λ act. Performs setting there unfailing w put e err left s act c.do_step.new.state c.do_step.result in
    subst P (sym c.in-Step.is) (Performs-silent setting there unfailing w put e err left s (acts.Step c.in-Step.step) c.do_step.new.state c.do_step.result (λ no. no) (c.do_step.ensures.does setting there w e err s h stays))

pub returns-in-Step-clause-counts : goal.returns-in-Step-clause-counts
returns-in-Step-clause-counts g c = c.do_step.ensures.counts (g.F.Shelf.faults c.args.shelf.now) (g.E.Sink.state c.args.err.now).faults

pub returns-in-Load-clause-does : goal.returns-in-Load-clause-does
returns-in-Load-clause-does g c w e s h stays =
    let setting = setting_of c.args.script.path.now (g.F.Shelf.state c.args.shelf.now).files c.args.script.memories in
    let there = (g.F.Shelf.state c.args.shelf.now).there in
    let unfailing = (g.F.Shelf.state c.args.shelf.now).unfailing in
    let err = (g.E.Sink.state c.args.err.now).written in
    let put = (g.O.Sink.state (sink_of c.args.out.now)).written in
    let left = pending c.args.out.now in
    let act = acts.Load c.in-Load.file in
    let P : Act → Type 0 = λ x. Performs setting there unfailing w put e err left s x c.do_load.new.state c.do_load.result in
    subst P (sym c.in-Load.is) (Performs-quietly setting there unfailing w put e err left s act c.do_load.new.state (Misses setting there unfailing s act) c.do_load.result (λ m. m) stays (c.do_load.ensures.does s h))

pub returns-in-Load-clause-counts : goal.returns-in-Load-clause-counts
returns-in-Load-clause-counts g c = c.do_load.ensures.counts (g.O.Sink.state (sink_of c.args.out.now)).faults (g.E.Sink.state c.args.err.now).faults

pub returns-in-CompareTo-clause-does : goal.returns-in-CompareTo-clause-does
returns-in-CompareTo-clause-does g c w e s h stays =
    let setting = setting_of c.args.script.path.now (g.F.Shelf.state c.args.shelf.now).files c.args.script.memories in
    let there = (g.F.Shelf.state c.args.shelf.now).there in
    let unfailing = (g.F.Shelf.state c.args.shelf.now).unfailing in
    let err = (g.E.Sink.state c.args.err.now).written in
    let put = (g.O.Sink.state (sink_of c.args.out.now)).written in
    let left = pending c.args.out.now in
    let act = acts.CompareTo c.in-CompareTo.file in
    let P : Act → Type 0 = λ x. Performs setting there unfailing w put e err left s x c.do_compare.new.state c.do_compare.result in
    subst P (sym c.in-CompareTo.is) (Performs-quietly setting there unfailing w put e err left s act c.do_compare.new.state (Misses setting there unfailing s act) c.do_compare.result (λ m. m) stays (c.do_compare.ensures.does s h))

pub returns-in-CompareTo-clause-counts : goal.returns-in-CompareTo-clause-counts
returns-in-CompareTo-clause-counts g c = c.do_compare.ensures.counts (g.O.Sink.state (sink_of c.args.out.now)).faults (g.E.Sink.state c.args.err.now).faults

pub returns-in-LoadRom-clause-does : goal.returns-in-LoadRom-clause-does
returns-in-LoadRom-clause-does g c w e s h stays =
    let setting = setting_of c.args.script.path.now (g.F.Shelf.state c.args.shelf.now).files c.args.script.memories in
    let there = (g.F.Shelf.state c.args.shelf.now).there in
    let unfailing = (g.F.Shelf.state c.args.shelf.now).unfailing in
    let err = (g.E.Sink.state c.args.err.now).written in
    let put = (g.O.Sink.state (sink_of c.args.out.now)).written in
    let left = pending c.args.out.now in
    let act = acts.LoadRom c.in-LoadRom.word c.in-LoadRom.file in
    let P : Act → Type 0 = λ x. Performs setting there unfailing w put e err left s x c.do_rom.new.state c.do_rom.result in
    subst P (sym c.in-LoadRom.is) (Performs-quietly setting there unfailing w put e err left s act c.do_rom.new.state (Misses setting there unfailing s act) c.do_rom.result (λ m. m) stays (c.do_rom.ensures.does s h))

pub returns-in-LoadRom-clause-counts : goal.returns-in-LoadRom-clause-counts
returns-in-LoadRom-clause-counts g c = c.do_rom.ensures.counts (g.O.Sink.state (sink_of c.args.out.now)).faults (g.E.Sink.state c.args.err.now).faults

pub returns-in-OutputList-clause-does : goal.returns-in-OutputList-clause-does
returns-in-OutputList-clause-does g c w e s h stays =
    let setting = setting_of c.args.script.path.now (g.F.Shelf.state c.args.shelf.now).files c.args.script.memories in
    let there = (g.F.Shelf.state c.args.shelf.now).there in
    let unfailing = (g.F.Shelf.state c.args.shelf.now).unfailing in
    let err = (g.E.Sink.state c.args.err.now).written in
    let put = (g.O.Sink.state (sink_of c.do_list.new.out)).written in
    let left = pending c.do_list.new.out in
    let Q : List Item → Type 0 = λ items. Performs setting there ⊥ w put e err left s (acts.OutputList items) c.do_list.new.state c.do_list.result in
    let P : Act → Type 0 = λ act. Performs setting there unfailing w put e err left s act c.do_list.new.state c.do_list.result in
    subst P (sym c.in-OutputList.is) (Performs-silent setting there unfailing w put e err left s (acts.OutputList c.in-OutputList.items) c.do_list.new.state c.do_list.result (λ no. no) (subst Q c.as_slice.ensures (c.do_list.ensures.does setting there w e err s refl h stays)))

pub returns-in-OutputList-clause-counts : goal.returns-in-OutputList-clause-counts
returns-in-OutputList-clause-counts g c = c.do_list.ensures.counts (g.F.Shelf.faults c.args.shelf.now) (g.E.Sink.state c.args.err.now).faults

pub returns-in-Set-clause-does : goal.returns-in-Set-clause-does
returns-in-Set-clause-does g c w e s h stays =
    let setting = setting_of c.args.script.path.now (g.F.Shelf.state c.args.shelf.now).files c.args.script.memories in
    let there = (g.F.Shelf.state c.args.shelf.now).there in
    let unfailing = (g.F.Shelf.state c.args.shelf.now).unfailing in
    let err = (g.E.Sink.state c.args.err.now).written in
    let put = (g.O.Sink.state (sink_of c.args.out.now)).written in
    let left = pending c.args.out.now in
    let act = acts.Set c.in-Set.variable c.in-Set.word in
    let P : Act → Type 0 = λ x. Performs setting there unfailing w put e err left s x c.do_set.new.state c.do_set.result in
    subst P (sym c.in-Set.is) (Performs-quietly setting there unfailing w put e err left s act c.do_set.new.state ⊥ c.do_set.result (λ no. absurd no) stays (c.do_set.ensures setting s refl h))

pub returns-in-Set-clause-counts : goal.returns-in-Set-clause-counts
returns-in-Set-clause-counts g c =
    let setting = setting_of c.args.script.path.now (g.F.Shelf.state c.args.shelf.now).files c.args.script.memories in
    let r = c.requires.2 in
    CountsStop-quietly setting r.0 (acts.Set c.in-Set.variable c.in-Set.word) c.do_set.new.state c.do_set.result (g.F.Shelf.faults c.args.shelf.now) (g.O.Sink.state (sink_of c.args.out.now)).faults (g.E.Sink.state c.args.err.now).faults
    (c.do_set.ensures setting r.0 refl r.1)

pub returns-in-Echo-clause-does : goal.returns-in-Echo-clause-does
returns-in-Echo-clause-does g c w e s h stays =
    let setting = setting_of c.args.script.path.now (g.F.Shelf.state c.args.shelf.now).files c.args.script.memories in
    let there = (g.F.Shelf.state c.args.shelf.now).there in
    let unfailing = (g.F.Shelf.state c.args.shelf.now).unfailing in
    let err = (g.E.Sink.state c.args.err.now).written in
    let err' = (g.E.Sink.state c.do_echo.new.err).written in
    let put = (g.O.Sink.state (sink_of c.args.out.now)).written in
    let left = pending c.args.out.now in
    let Q : List ℕ → Type 0 = λ text. Performs setting there unfailing w put e err' left s (acts.Echo text) c.args.state.now c.do_echo.result in
    let P : Act → Type 0 = λ x. Performs setting there unfailing w put e err' left s x c.args.state.now c.do_echo.result in
    subst P (sym c.in-Echo.is) (subst Q c.as_slice-in-Echo.ensures (Performs-echo setting there unfailing w put e err err' left s c.as_slice-in-Echo.result.now c.args.state.now c.do_echo.result h stays c.do_echo.ensures.puts))

pub returns-in-Echo-clause-counts : goal.returns-in-Echo-clause-counts
returns-in-Echo-clause-counts g c = c.do_echo.ensures.counts (g.F.Shelf.faults c.args.shelf.now) (g.O.Sink.state (sink_of c.args.out.now)).faults
