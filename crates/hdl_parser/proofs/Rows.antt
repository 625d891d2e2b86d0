-- Things with commas between them, as a list that grows.
use Rattle.std.proofs.Common.{◌≡◌, ◌≤◌, List, [], ◌∷◌, ◌++◌, length, refl, ap, arith}
use Rattle.grammar.specs.Rules.{Tree, Skip, Pair, Present, NoMore, More}
use Rattle.grammar.proofs.Repeats.{listed-push}
use Rattle.hdl_parser.specs.Grammar.{Said}
use Rattle.hdl_parser.specs.Trees.{next_tree, row_with, listing_tree}

module _ {X : Type 0} (tree : X → Tree Said) where
  pub row_with-push : (xs : List X) (x : X) (more : Tree Said) → 1 ≤ length xs → row_with tree (xs ++ x ∷ []) more ≡ row_with tree xs (More (next_tree tree x) more)
  row_with-push [] x more h = absurd (omega arith)
  row_with-push (y ∷ xs) x more h = ap (λ (t : Tree Said). Pair (tree y) t) (listed-push (next_tree tree) xs x more)

  pub listing_tree-some : (xs : List X) → 1 ≤ length xs → listing_tree tree xs ≡ Present (Pair Skip (Pair (row_with tree xs NoMore) Skip))
  listing_tree-some [] h = absurd (omega arith)
  listing_tree-some (x ∷ xs) h = refl
