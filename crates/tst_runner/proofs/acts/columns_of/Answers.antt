use Rattle.std.proofs.Common.{◌++◌, ◌∷◌, [], ℕ, List, None, take, refl, sym, subst, inr}
use Rattle.script_device.specs.Devices.{Denotes}
use Rattle.script_device.specs.Running.{Finds, probe_source}
use Rattle.script_parser.specs.declared.tree.Item.{Item}
use Rattle.tst_runner.specs.declared.lines.Column.{Column}
use Rattle.tst_runner.specs.Inner.Columns.{AreColumns}
use Rattle.tst_runner.proofs.Lined.{column_behind, nameless_at, next}
use Rattle.tst_runner.proofs.acts.columns_of.Goals as goal

pub returns-in_default : goal.returns-in_default
returns-in_default c = λ d s.
    let item = c.item-item.result in
    let text = c.as_slice.result.now in
    let none : Finds d text None = subst (Finds d text) c.in_default.is (c.in_ok-probe.ensures d s) in
    let P : List ℕ → Type 0 = λ t. Finds d t None in
    inr (item, nameless_at d c.args.items.now c.loop-item.columns.items c.loop-item.item-index item c.loop-item-test.true c.item-item.is (c.loop-item.invariant d s) (subst P c.as_slice.ensures none), c.no_name.ensures)

pub loop-item-preserved : goal.loop-item-preserved
loop-item-preserved c = λ d s.
    let item = c.item-item.result in
    let items = c.args.items.now in
    let i = c.loop-item.item-index in
    let text = c.as_slice.result.now in
    let probe = c.in-Some.probe in
    let column : Column = record { layout = item.layout; probe = probe } in
    let P : List ℕ → Type 0 = λ t. Denotes d t (probe_source probe) in
    let Q : List Column → Type 0 = λ columns. AreColumns d (take i items ++ item ∷ []) columns in
    let R : List Item → Type 0 = λ its. AreColumns d its c.push.new.self.items in
    let means = subst P c.as_slice.ensures (subst (Finds d text) c.in-Some.is (c.in_ok-probe.ensures d s)) in
    let more = column_behind d (take i items) c.loop-item.columns.items item column (c.loop-item.invariant d s) (refl, means) in
    subst R (next items i item c.loop-item-test.true c.item-item.is) (subst Q (sym {A = List Column} c.in_ok-push.ensures.items) more)
