use Rattle.std.proofs.Common.{ap, ◌∙◌}
use Rattle.name_table.specs.Names.{find_value}
use Rattle.jack_names.specs.Symbols.{member_entries}
use Rattle.jack_names.specs.Inner.Named.{with_all, the_symbols}
use Rattle.jack_names.proofs.Naming.{found_filled}
use Rattle.jack_names.proofs.variables.members_of.Goals as goal

pub returns : goal.returns
returns c = λ x.
    let entries = member_entries (the_symbols c.args.names.now) 0 c.args.statics c.args.variables.now in
    ap (find_value x) (c.in_ok-enter_members.ensures ∙ ap (λ t. with_all t entries) c.new-table.ensures) ∙ found_filled x entries
