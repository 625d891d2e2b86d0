use Rattle.std.proofs.Common.{map, ◌∙◌}
use Rattle.jack_tree.specs.Seen.{the_file}
use Rattle.tower.proofs.Beside.{any_seen, by_names}
use Rattle.tower.proofs.sources.is_replaced.Goals as goal

pub returns-then-ne : goal.returns-then-ne
returns-then-ne c =
    let file = c.args.file.now in
    let own = c.args.own.now in
    c.any_named_for.ensures ∙ (any_seen file own ∙ by_names c.ne.result file c.as_slice.result.now (map the_file own) c.if-ne.true c.ne.ensures c.as_slice.ensures)
