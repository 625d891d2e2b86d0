use Rattle.std.proofs.Common.{◌≡◌, ℕ, true, List, [], ◌∷◌, refl, ap, subst, inl, inr}
use Rattle.scan_text.specs.declared.Place.{Place}
use Rattle.grammar.specs.Rules.{repeat, name, Tree, Skip, Node, Leaf, Pair, Left, Right, NoMore, More, tree_of_list, Reads, marked, worded, at_end, both, left, right, ended, again, named, inside}
use Rattle.grammar.specs.Texts.{Spelled, SomeReading}
use Rattle.grammar.proofs.Totals.{total}
use Rattle.script_parser.specs.declared.tree.Step.{Step}
use Rattle.script_parser.specs.declared.tree.Step.TheVariants as step
use Rattle.script_parser.specs.declared.tree.Item.{Item}
use Rattle.script_parser.specs.declared.tree.Act.{Act}
use Rattle.script_parser.specs.declared.tree.Act.TheVariants as act
use Rattle.script_parser.specs.declared.nesting.Nesting.{Nesting}
use Rattle.script_parser.specs.declared.token.Role.{Role}
use Rattle.script_parser.specs.declared.token.Role.TheVariants as role
use Rattle.script_parser.specs.declared.token.Kind.{Kind}
use Rattle.script_parser.specs.declared.token.Kind.TheVariants as kind
use Rattle.script_parser.specs.Tokens.{Word, tokens_of, finish}
use Rattle.script_parser.specs.Grammar as grammar
use Rattle.script_parser.specs.Grammar.{Part, Said, Fixed, ScriptRule, script, command, whole, outermost, steps, role_in, placed_of, count_of, number_in, layout_in, item_laid}
use Rattle.script_parser.specs.Numbers.{value_of}
use Rattle.script_parser.specs.Trees.{Commands, End, Then, Repeat, step_said, item_leaf, act_tree, repeat_tree, commands_tree, whole_tree, Spells, Refuses}
use Rattle.script_parser.proofs.Lawful.{lawful}
use Rattle.script_parser.proofs.laws.total_law.Goals as goal

step_by : (r : Role) → steps r ≡ true → (s : Step) × (Fixed (kind.Word r) ≡ step_said s)
step_by role.Eval e = (step.Eval, refl)
step_by role.Tick e = (step.Tick, refl)
step_by role.Tock e = (step.Tock, refl)
step_by role.TickTock e = (step.TickTock, refl)
step_by role.Output e = (step.Output, refl)
step_by r e = absurd cc

step_is : (k : Kind) → steps (role_in k) ≡ true → (s : Step) × (Fixed k ≡ step_said s)
step_is (kind.Word r) e = step_by r e
step_is k e = absurd cc

module _ (at : Place) where
  abbrev Rd : Nesting → ScriptRule → List Word → Tree Said → Nesting → List Word → Type 0
  Rd s r ts x s' us = Reads Word Nesting Part Said (script at) s r ts x s' us

  items_of : {s s' : Nesting} {ts us : List Word} {x : Tree Said} → Rd s (repeat grammar.item) ts x s' us → (is : List Item) × (x ≡ tree_of_list item_leaf is NoMore)
  items_of (ended e) = ([], refl)
  items_of (again e (worded {t = t} f c) q) = let is = items_of q in (item_laid t (layout_in t) ∷ is.0, ap (More (item_leaf (item_laid t (layout_in t)))) is.1)

  act_of : {s s' : Nesting} {ts us : List Word} {x : Tree Said} → Rd s grammar.act ts x s' us → (a : Act) × (x ≡ act_tree a)
  act_of (left e (worded {t = t} f c)) = let k = step_is t.kind f in (act.Step k.0, ap (λ (v : Said). Left (Leaf v)) k.1)
  act_of (right e f (left g (both (marked h) (worded {t = t} i c)))) = (act.Load (placed_of t), refl)
  act_of (right e f (right g h (left i (both (marked j) (worded {t = t} k c))))) = (act.OutputFile (placed_of t), refl)
  act_of (right e f (right g h (right i j (left k (both (marked l) (worded {t = t} m c)))))) = (act.CompareTo (placed_of t), refl)
  act_of (right e f (right g h (right i j (right k l (left m (both (marked n) (both (worded {t = t} o c) q))))))) =
      let is = items_of q in
      (act.OutputList (item_laid t (layout_in t) ∷ is.0), ap (λ (x : Tree Said). Right (Right (Right (Right (Left (Pair Skip (Pair (item_leaf (item_laid t (layout_in t))) x))))))) is.1)
  act_of (right e f (right g h (right i j (right k l (right m n (left o (both (marked q) (both (worded {t = t} r c) (worded {t = u} v d))))))))) = (act.Set (placed_of t) (value_of (number_in u)), refl)
  act_of (right e f (right g h (right i j (right k l (right m n (right o q (left r (both (marked v) (worded {t = t} w c))))))))) = (act.Echo t.text, refl)
  act_of (right e f (right g h (right i j (right k l (right m n (right o q (right r v (both (worded {t = t} w c) (both (marked y) (worded {t = u} z d)))))))))) = (act.LoadRom (placed_of t) (placed_of u), refl)

  commands_of : {s s' : Nesting} {ts us : List Word} {x : Tree Said} → Rd s (repeat (name command)) ts x s' us → (c : Commands) × (x ≡ commands_tree c)
  commands_of (ended e) = (End, refl)
  commands_of (again e (named (left f (inside g o (both (marked h) (both (worded {t = t} i c) (both (marked j) (both p (marked k)))))))) q) =
      let body = commands_of p in
      let rest = commands_of q in
      (Repeat (count_of t) body.0 rest.0, λ z. More (repeat_tree (count_of t) (body.1 z)) (rest.1 z))
  commands_of (again e (named (right f g (both p (marked h)))) q) =
      let a = act_of p in
      let rest = commands_of q in
      (Then a.0 rest.0, λ z. More (Node (Right (Pair (a.1 z) Skip))) (rest.1 z))

  whole_of : {s s' : Nesting} {ts us : List Word} {x : Tree Said} → Rd s whole ts x s' us → (c : Commands) × (x ≡ whole_tree c)
  whole_of (both p at_end) = let c = commands_of p in (c.0, ap (λ (t : Tree Said). Pair t Skip) c.1)

abbrev SpellsTree : List ℕ → Tree Said → Type 0
SpellsTree text t = Spelled (script (finish text)) whole outermost (tokens_of text) t

-- the tree that is read is that of a script
some_script : (text : List ℕ) → SomeReading (Tree Said) (SpellsTree text) (Refuses text) → SomeReading Commands (Spells text) (Refuses text)
some_script text (inl t) = let c = whole_of (finish text) t.1.3 in inl (c.0, subst (SpellsTree text) c.1 t.1)
some_script text (inr f) = inr f

pub returns : goal.returns
returns c text = some_script text ((total Word Nesting Part Said).texts (script (finish text)) (lawful (finish text)) whole refl outermost (tokens_of text))
