use Rattle.std.proofs.Common.{is_some, ap, sym, ◌∙◌, map, not}
use Rattle.name_table.specs.Tables.{seen_entry, table_of}
use Rattle.name_table.proofs.Entries.{entered_at, stays, grows}
use Rattle.name_table.proofs.Table.enter.Goals as goal

pub returns-in-Some-clause-new : goal.returns-in-Some-clause-new
returns-in-Some-clause-new g c = ap not (ap is_some (sym c.in-Some.is ∙ c.find.ensures))

pub returns-in-Some-clause-entered : goal.returns-in-Some-clause-entered
returns-in-Some-clause-entered g c = stays c.args.name.now (table_of c.args.self.now) c.args.value (ap is_some (sym c.find.ensures ∙ c.in-Some.is))

pub returns-in-Ok-clause-new : goal.returns-in-Ok-clause-new
returns-in-Ok-clause-new g c = ap not (ap is_some (sym c.in-None.is ∙ c.find.ensures))

pub returns-in-Ok-clause-entered : goal.returns-in-Ok-clause-entered
returns-in-Ok-clause-entered g c =
    let absent = sym c.find.ensures ∙ c.in-None.is in
    ap (map seen_entry) c.in-Ok.ensures.entries ∙ entered_at c.args.name c.args.value c.args.self.now.entries.entries absent
    ∙ grows c.args.name.now (table_of c.args.self.now) c.args.value (ap is_some absent)
