-- The printed form of a class spells that class but for places.
use Rattle.std.specs.Prelude.{◌≤◌, length}
use Rattle.jack_tree.specs.declared.tree.Class as code
use Rattle.jack_tree.specs.Syntax.{Class}
use Rattle.jack_tree.specs.Seen.{the_class}
use Rattle.jack_parser.specs.Spelling.{class_tokens}
use Rattle.jack_parser.specs.Limits.{KeepsLimits}
use Rattle.jack_parser.specs.Spelled.{SpellsClass}
use Rattle.jack_parser.specs.Spells.{Spells, whole_tree}
use Rattle.jack_parser.specs.Printed.{class_text}
use Rattle.jack_parser.specs.PrintedClass.{CanAllSay, printed_class}
use Rattle.print_laws.specs.Unplaced.{IsEqualButForPlaces}

-- A text can hold the class: it keeps the limits, and its tokens are such as can stand in a text. Its printed form is
-- no longer than a file may be.
pub record IsPrintable (c : Class) : Type 0 where
  pub limits : KeepsLimits c
  pub tokens : CanAllSay (class_tokens c)
  pub size : length (printed_class c) ≤ 1048576

pub record PrintLaw : Type 0 where
  -- The printed form of such a class spells a class that is equal to it but for places.
  pub spelled : (c : Class) → IsPrintable c
      → (d : Class) × SpellsClass (printed_class c) d × IsEqualButForPlaces c d
  -- It spells no other.
  pub only : (c d : Class) → IsPrintable c → SpellsClass (printed_class c) d
      → IsEqualButForPlaces c d
  -- Of trees of the code the second half: a tree that the printed text of a tree spells is equal to it but for places.
  pub tree : (c d : code.Class) → IsPrintable (the_class c) → Spells (class_text c) (whole_tree d)
      → IsEqualButForPlaces (the_class c) (the_class d)
