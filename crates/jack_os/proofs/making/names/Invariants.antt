use Rattle.std.proofs.Common.{◌≡◌, map, take}
use Rattle.std.proofs.Common.{Bor, List, ℕ}
use Rattle.jack_parser.specs.Trees.{name_leaf}
use Rattle.jack_os.specs.Inner.Made as made
use Rattle.jack_os.proofs.making.names.Given as goal

abbrev pub invariant-loop-text : goal.invariant-loop-text
invariant-loop-text l = map name_leaf l.all.items ≡ map (λ (t : Bor (List ℕ)). made.name_of t.now) (take l.text-index l.texts)
