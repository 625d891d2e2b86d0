-- A text that the grammar reads spells the class.
use Rattle.std.proofs.Common.{ℕ, List, [], Result, Ok, Err, subst}
use Rattle.std.specs.Prelude.{IfOk}
use Rattle.grammar.specs.declared.ReadError.{ReadError}
use Rattle.grammar.specs.Rules.{Tree}
use Rattle.grammar.specs.Leaves.{leaves}
use Rattle.jack_tree.specs.declared.tree.Class as code
use Rattle.jack_tree.specs.Seen.{the_class}
use Rattle.jack_lexer.specs.Tokens.{finish}
use Rattle.jack_parser.specs.Grammar.{jack, Said, fresh, whole}
use Rattle.jack_parser.specs.Spelling.{Tokens}
use Rattle.jack_parser.specs.Spelled.{SpellsClass}
use Rattle.jack_parser.specs.Spells.{Spells, whole_tree}
use Rattle.jack_parser.proofs.Saying.{SayFront, told_leaves, told_says, say_all, whole_tells}
use Rattle.jack_parser.proofs.SeenTokens.{class_seen}
use Rattle.jack_parser.proofs.SameTrees.{class_same}
use Rattle.jack_parser.proofs.Kept.{Reach, class_kept}

pub found : (text : List ℕ) (c : code.Class) → Spells text (whole_tree c) → SpellsClass text (the_class c)
found text c s =
    let at = finish text in
    let front = subst (λ (l : Tokens). SayFront l s.0 []) (class_seen at c) (told_says (leaves (jack at) (whole_tree c) whole) s.0 [] (told_leaves whole_tells s.3)) in
    let read = subst (λ (t : Tree Said). Reach at (fresh 0) whole t s.1) (class_same c) (s.0, [], s.3) in
    record { tokens = s.0; cut = s.2; say = say_all _ s.0 front; limits = class_kept at (the_class c) s.1 read }

pub if_found : (text : List ℕ) (r : Result code.Class ReadError) → IfOk r (λ c. Spells text (whole_tree c)) → IfOk r (λ c. SpellsClass text (the_class c))
if_found text (Ok c) h = found text c h
if_found text (Err e) h = h
