use Rattle.std.proofs.Common.{◌∙◌, Some, rules}
use Rattle.std.proofs.lemmas.Map.Text.{btree_map_updates_str}
use Rattle.vm_link.proofs.Notes.{noted}
use Rattle.vm_link.proofs.numbers.note.Goals as goal

pub returns-in-Ok-clause-numbers : goal.returns-in-Ok-clause-numbers
returns-in-Ok-clause-numbers c = λ q.
    btree_map_updates_str c.args.name.now c.args.numbers.now c.insert.new.self (Some c.args.value) c.in-Ok.ensures.updates q
    ∙ noted c.args.numbers.now c.args.name.now q c.args.value (search rules)
