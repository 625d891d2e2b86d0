-- Each generated text spells a class (book, chapter 10).
use Rattle.std.specs.Prelude.{ℕ, List}
use Rattle.jack_tree.specs.Syntax.{Class}
use Rattle.jack_parser.specs.Spelled.{SpellsClass}
use Rattle.soak_program.specs.Generator.{IsProgramText}

abbrev pub SpelledLaw : Type 0
SpelledLaw = (s t : ℕ) (text : List ℕ) → IsProgramText s text t → (c : Class) × SpellsClass text c
