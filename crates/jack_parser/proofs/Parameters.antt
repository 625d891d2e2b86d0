-- Parameters as a list that grows.
use Rattle.std.proofs.Common.{◌≡◌, ◌≤◌, List, [], ◌∷◌, ◌++◌, length, refl, ap, arith}
use Rattle.grammar.specs.Rules.{Tree, Pair, Present, NoMore, More}
use Rattle.grammar.proofs.Repeats.{listed-push}
use Rattle.jack_tree.specs.declared.tree.Parameter.{Parameter}
use Rattle.jack_parser.specs.Grammar.{Said}
use Rattle.jack_parser.specs.ClassTrees.{parameter_tree, next_parameter_tree, parameters_with, parameters_tree}

pub parameters_with-push : (ps : List Parameter) (p : Parameter) (x : Tree Said) → 1 ≤ length ps → parameters_with (ps ++ p ∷ []) x ≡ parameters_with ps (More (next_parameter_tree p) x)
parameters_with-push [] p x h = absurd (omega arith)
parameters_with-push (q ∷ ps) p x h = ap (λ (t : Tree Said). Pair (parameter_tree q) t) (listed-push next_parameter_tree ps p x)

pub parameters_tree-some : (ps : List Parameter) → 1 ≤ length ps → parameters_tree ps ≡ Present (parameters_with ps NoMore)
parameters_tree-some [] h = absurd (omega arith)
parameters_tree-some (p ∷ ps) h = refl
