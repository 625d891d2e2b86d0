-- The trees of a computation by its first letter and what stands after it.
use Rattle.std.proofs.Common.{◌≡◌, None, refl}
use Rattle.grammar.specs.Rules.{Right, Present}
use Rattle.hack_asm.specs.declared.token.Letter.{Letter}
use Rattle.hack_asm.specs.declared.lines.Behind.{Behind}
use Rattle.hack_asm.specs.declared.lines.Behind.TheVariants as behinds
use Rattle.hack_asm.specs.Trees.{branch, behind_tree, comp_of, comp_tree, bare_tree}

pub comp_tree_of : (x : Letter) (b : Behind) → comp_tree (comp_of x b) ≡ branch x (Present (behind_tree b))
comp_tree_of x (behinds.Operation op y) = refl
comp_tree_of x (behinds.Shift left) = refl

pub bare_tree_of : (x : Letter) (b : Behind) → bare_tree None (comp_of x b) ≡ branch x (Present (Right (behind_tree b)))
bare_tree_of x (behinds.Operation op y) = refl
bare_tree_of x (behinds.Shift left) = refl
