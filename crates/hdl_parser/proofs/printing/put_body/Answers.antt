use Rattle.hdl_parser.specs.Grammar.{parts, builtin}
use Rattle.grammar.proofs.Shown.{shows_left, shows_right}
use Rattle.hdl_parser.proofs.printing.put_body.Goals as goal

pub returns-in-Parts : goal.returns-in-Parts
returns-in-Parts g c = rw c.in-Parts.is (shows_left {m = parts} {n = builtin} (rw c.as_slice.ensures at c.put_parts.ensures))

pub returns-in-Builtin : goal.returns-in-Builtin
returns-in-Builtin g c = rw c.in-Builtin.is (shows_right {m = parts} {n = builtin} (rw c.as_slice-in-Builtin.ensures at c.put_builtin.ensures))
