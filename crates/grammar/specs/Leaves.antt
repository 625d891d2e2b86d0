-- What the tokens of a tree say, and trees but for places.
use Rattle.std.specs.Prelude.{List, [], ◌∷◌, ◌++◌}
use Rattle.grammar.specs.Rules.{Rule, mark, seq, choice, option, repeat, name, within, Tree, Skip, Node, Leaf, Pair, Left, Right, Absent, Present, NoMore, More, Rules}

-- What the tokens of a tree say, by the rule that it was read by. A tree that doesn't fit the rule has no list. body gives the rules
-- that have names.
abbrev pub leaves_by : {T S N V : Type 0} → (N → Rule T S N V) → Tree V → Rule T S N V → List V
leaves_by body Skip (mark v is) = v ∷ []
leaves_by body Skip r = []
leaves_by body (Leaf v) r = v ∷ []
leaves_by body (Pair x y) (seq a b) = leaves_by body x a ++ leaves_by body y b
leaves_by body (Pair x y) r = []
leaves_by body (Left x) (choice a b) = leaves_by body x a
leaves_by body (Left x) r = []
leaves_by body (Right x) (choice a b) = leaves_by body x b
leaves_by body (Right x) r = []
leaves_by body Absent r = []
leaves_by body (Present x) (option a) = leaves_by body x a
leaves_by body (Present x) r = []
leaves_by body NoMore r = []
leaves_by body (More x y) (repeat a) = leaves_by body x a ++ leaves_by body y (repeat a)
leaves_by body (More x y) r = []
leaves_by body (Node x) (name n) = leaves_by body x (body n)
leaves_by body (Node x) (within enter leave a) = leaves_by body x a
leaves_by body (Node x) r = []

abbrev pub leaves : {T S N V : Type 0} → Rules T S N V → Tree V → Rule T S N V → List V
leaves g x r = leaves_by g.body x r

-- a tree with other things said
abbrev pub seen_by : {V Y : Type 0} → (V → Y) → Tree V → Tree Y
seen_by f Skip = Skip
seen_by f (Node x) = Node (seen_by f x)
seen_by f (Leaf v) = Leaf (f v)
seen_by f (Pair x y) = Pair (seen_by f x) (seen_by f y)
seen_by f (Left x) = Left (seen_by f x)
seen_by f (Right x) = Right (seen_by f x)
seen_by f Absent = Absent
seen_by f (Present x) = Present (seen_by f x)
seen_by f NoMore = NoMore
seen_by f (More x y) = More (seen_by f x) (seen_by f y)
