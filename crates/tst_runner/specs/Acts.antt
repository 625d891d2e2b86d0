-- The acts that the commands of a script come to, one after another. (The book, appendix 3.)
use Rattle.std.specs.Prelude.{ℕ, zero, suc, List, [], ◌∷◌, ◌++◌}
use Rattle.script_parser.specs.declared.tree.Act.{Act}
use Rattle.script_parser.specs.Trees.{Commands}
use Rattle.script_parser.specs.Trees.Commands.{End, Then, Repeat}

abbrev pub times : ℕ → List Act → List Act
times zero acts = []
times (suc n) acts = acts ++ times n acts

-- acts in braces are repeated as often as their number says
abbrev pub acts_of : Commands → List Act
acts_of End = []
acts_of (Then act rest) = act ∷ acts_of rest
acts_of (Repeat count body rest) = times count (acts_of body) ++ acts_of rest
