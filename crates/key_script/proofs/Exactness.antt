-- Lines are determined by their text.
use Rattle.std.proofs.Common.{◌≡◌, ℕ, List, [], ◌∷◌, refl}
use Rattle.grammar.specs.Rules.{Pair, Skip, More}
use Rattle.grammar.proofs.Wholes.{one_tree}
use Rattle.key_script.specs.declared.lines.Line.{Line}
use Rattle.key_script.specs.declared.token.Kind.TheVariants.{Number}
use Rattle.key_script.specs.Tokens.{tokens_of, finish}
use Rattle.key_script.specs.Grammar.{KeyTree, script, whole, line_tree, lines_tree, script_tree, Spells}

same_line : (l m : Line) → l.moment ≡ m.moment → l.code ≡ m.code → l ≡ m
same_line l m a b = λ i. record { moment = a i; code = b i }

line_is : (l m : Line) (t u : KeyTree) → More (line_tree l) t ≡ More (line_tree m) u → (l ≡ m) × (t ≡ u)
line_is l m t u e = let n : Number l.moment ≡ Number m.moment = cc in let k : Number l.code ≡ Number m.code = cc in let a : l.moment ≡ m.moment = cc in let b : l.code ≡ m.code = cc in (same_line l m a b, cc)

pub lines_are : (ls ms : List Line) → lines_tree ls ≡ lines_tree ms → ls ≡ ms
lines_are [] [] e = refl
lines_are [] (m ∷ ms) e = absurd cc
lines_are (l ∷ ls) [] e = absurd cc
lines_are (l ∷ ls) (m ∷ ms) e =
    let p = line_is l m (lines_tree ls) (lines_tree ms) e in
    let rest = lines_are ls ms p.1 in
    λ i. p.0 i ∷ rest i

pair_is : (t u : KeyTree) → Pair t Skip ≡ Pair u Skip → t ≡ u
pair_is t u e = cc

pub spelled_once : (text : List ℕ) (ls ms : List Line) → Spells text ls → Spells text ms → ls ≡ ms
spelled_once text ls ms a b = lines_are ls ms (pair_is (lines_tree ls) (lines_tree ms) (one_tree (script (finish text)) whole 0 (tokens_of text) (script_tree ls) (script_tree ms) a b))
