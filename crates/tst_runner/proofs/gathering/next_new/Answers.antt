use Rattle.std.proofs.Common.{◌≡◌, length, sym, ap, ◌∙◌, arith}
use Rattle.std.specs.Prelude.{reverse}
use Rattle.hdl_tree.specs.Chips.{find_entry}
use Rattle.tst_runner.specs.Inner.Gathered.{sources_of}
use Rattle.tst_runner.proofs.Leading.{at_bottom, on_pop, past_known, past_nowhere}
use Rattle.hdl_names.proofs.Tabling.{none_found, some_found}
use Rattle.tst_runner.proofs.gathering.next_new.Goals as goal

pub names-preserved-then-has : goal.names-preserved-then-has
names-preserved-then-has c = λ files.
    let entries = c.args.gathered.now.entries.items in
    let leads = on_pop (sources_of c.args.places.now files) (reverse c.args.stack.now.items) entries entries c.names.stack.items c.pop.new.self.items c.in-Some.name c.in-Some.ensures.items (c.names.invariant files) in
    let known = some_found (find_entry entries c.as_bytes.result.now) (sym c.has.ensures ∙ c.if-has.true) in
    past_known known.0 (ap (find_entry entries) (sym c.as_bytes.ensures) ∙ known.1) leads

pub returns-in-Some-find_origin : goal.returns-in-Some-find_origin
returns-in-Some-find_origin c = λ files.
    let entries = c.args.gathered.now.entries.items in
    let leads = on_pop (sources_of c.args.places.now files) (reverse c.args.stack.now.items) entries entries c.names.stack.items c.pop.new.self.items c.in-Some.name c.in-Some.ensures.items (c.names.invariant files) in
    let none = none_found (find_entry entries c.as_bytes.result.now) (sym c.has.ensures ∙ c.if-has.false) in
    record {
      leads = leads;
      new = ap (find_entry entries) (sym c.as_bytes.ensures) ∙ none;
      at = rw c.as_bytes-in-Some.ensures at (c.in-Some-find_origin.ensures files);
    }

pub names-preserved : goal.names-preserved
names-preserved c = λ files.
    let entries = c.args.gathered.now.entries.items in
    let from = sources_of c.args.places.now files in
    let leads = on_pop from (reverse c.args.stack.now.items) entries entries c.names.stack.items c.pop.new.self.items c.in-Some.name c.in-Some.ensures.items (c.names.invariant files) in
    let none = none_found (find_entry entries c.as_bytes.result.now) (sym c.has.ensures ∙ c.if-has.false) in
    past_nowhere (ap (find_entry entries) (sym c.as_bytes.ensures) ∙ none) (rw c.as_bytes-in-Some.ensures at (c.in_default-find_origin.ensures files)) leads

pub returns : goal.returns
returns c = λ files.
    let entries = c.args.gathered.now.entries.items in
    let none : length c.pop.new.self.items ≡ 0 = omega (arith, c.pop.new.self.ok.0, c.in_default.ensures.cases.1) in
    at_bottom (sources_of c.args.places.now files) (reverse c.args.stack.now.items) entries entries c.names.stack.items c.pop.new.self.items c.in_default.ensures.items none (c.names.invariant files)
