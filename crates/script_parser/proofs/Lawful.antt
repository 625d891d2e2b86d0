-- The rules of scripts are lawful.
use Rattle.std.proofs.Common.{◌≡◌, false, true, refl}
use Rattle.scan_text.specs.declared.Place.{Place}
use Rattle.grammar.specs.Rules.{begins, is_empty, falls_below, IsLawful}
use Rattle.script_parser.specs.declared.nesting.Nesting.{Nesting}
use Rattle.script_parser.specs.Tokens.{Word}
use Rattle.script_parser.specs.Grammar.{Part, Said, command, rule_of, opens, script}

firsts : (n : Part) (t : Word) → opens n t ≡ begins opens (rule_of n) t
firsts command t = refl

takes_one : (n : Part) → is_empty (rule_of n) ≡ false
takes_one command = refl

falls : (n : Part) → falls_below (λ m. 0) 0 (rule_of n) ≡ true
falls command = refl

pub lawful : (end : Place) → IsLawful Word Nesting Part Said (script end)
lawful end = record { opens = firsts; takes_one = takes_one; rank = λ n. 0; falls = falls }
