use Rattle.std.proofs.Common.{ℕ, Bool, false, List, ap, get_or}
use Rattle.grammar.specs.Rules.{Pair}
use Rattle.hack_asm.specs.HackText.{HackTree, four_tree}
use Rattle.hack_asm.proofs.hack_lines.word.Goals as goal

-- the tree of sixteen bits, the lowest first
abbrev bit : List Bool → ℕ → Bool
bit bits k = get_or bits k false

abbrev tree_of : List Bool → HackTree
tree_of bits =
    Pair (four_tree (bit bits 15) (bit bits 14) (bit bits 13) (bit bits 12))
    (Pair (four_tree (bit bits 11) (bit bits 10) (bit bits 9) (bit bits 8))
    (Pair (four_tree (bit bits 7) (bit bits 6) (bit bits 5) (bit bits 4))
    (four_tree (bit bits 3) (bit bits 2) (bit bits 1) (bit bits 0))))

pub returns : goal.returns
returns c = ap tree_of c.word_of.ensures.back
