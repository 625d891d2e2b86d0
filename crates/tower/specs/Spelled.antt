-- Each class that some text spells keeps to the limits of the language (book, chapter 10).
use Rattle.std.specs.Prelude.{ℕ, List, [], ◌∷◌}
use Rattle.jack_tree.specs.declared.tree.Class.{Class}
use Rattle.jack_tree.specs.Seen.{the_class}
use Rattle.jack_parser.specs.Spelled.{SpellsClass}
use Rattle.tower.specs.Read.{IsReadClass}

-- some text spells the class
abbrev pub IsSpelled : Class → Type 0
IsSpelled c = (text : List ℕ) × SpellsClass text (the_class c)

abbrev pub AreSpelled : List Class → Type 0
AreSpelled [] = Unit {0}
AreSpelled (c ∷ cs) = IsSpelled c × AreSpelled cs

abbrev pub ReadLaw : Type 0
ReadLaw = (c : Class) → IsSpelled c → IsReadClass c
