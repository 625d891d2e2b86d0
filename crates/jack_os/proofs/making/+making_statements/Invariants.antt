use Rattle.std.proofs.Common.{◌≡◌, map, take}
use Rattle.jack_parser.specs.StatementTrees.{statement_tree}
use Rattle.jack_os.specs.Inner.Sketched as sketched
use Rattle.jack_os.proofs.making.+making_statements.Given as goal

abbrev pub invariant-statements-loop-one : goal.invariant-statements-loop-one
invariant-statements-loop-one l = map statement_tree l.all.items ≡ map sketched.statement (take l.one-index l.sketches)
