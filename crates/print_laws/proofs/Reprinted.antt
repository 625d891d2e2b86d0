-- The printed form of a class spells that class but for places.
use Rattle.std.proofs.Common.{ℕ, List, [], sym, subst}
use Rattle.jack_tree.specs.declared.tree.Class as code
use Rattle.jack_tree.specs.Syntax.{Class}
use Rattle.jack_tree.specs.Seen.{the_class}
use Rattle.jack_parser.specs.Spelling.{class_tokens}
use Rattle.jack_parser.specs.Spelled.{SpellsClass, SpelledLaw, ClassLaw}
use Rattle.jack_parser.specs.Spells.{Spells, whole_tree}
use Rattle.jack_parser.specs.Printed.{class_text}
use Rattle.jack_parser.specs.PrintedClass.{printed_class, PrintedClassLaw}
use Rattle.print_laws.specs.Unplaced.{unplaced_class, IsEqualButForPlaces}
use Rattle.print_laws.specs.Reprinted.{IsPrintable, PrintLaw}
use Rattle.print_laws.proofs.Moves.{Moved, tell_front, say_all}
use Rattle.print_laws.proofs.Classes.{class_moves}
use Rattle.print_laws.proofs.Limits.{limits_moved}

module _ (one : ClassLaw) (spelled_so : SpelledLaw) (printed : PrintedClassLaw) where
  spelled : (c : Class) → IsPrintable c → (d : Class) × SpellsClass (printed_class c) d × IsEqualButForPlaces c d
  spelled c p =
      let h = printed.again c p.limits p.tokens p.size in
      let m : Moved class_tokens unplaced_class c h.tokens [] = (class_moves c).move h.tokens [] (tell_front h.tokens (class_tokens c) h.tell) in (
        m.thing,
        record { tokens = h.tokens; cut = h.cut; say = say_all (class_tokens m.thing) h.tokens m.says; limits = limits_moved c m.thing m.same p.limits },
        record { same = sym m.same },
      )

  only : (c d : Class) → IsPrintable c → SpellsClass (printed_class c) d → IsEqualButForPlaces c d
  only c d p s =
      let r = spelled c p in
      subst (IsEqualButForPlaces c) ((one (printed_class c)).one r.0 d r.1 s) r.2

  tree : (c d : code.Class) → IsPrintable (the_class c) → Spells (class_text c) (whole_tree d) → IsEqualButForPlaces (the_class c) (the_class d)
  tree c d p s = only (the_class c) (the_class d) p (subst (λ (t : List ℕ). SpellsClass t (the_class d)) (printed.form c) ((spelled_so (class_text c) d).0 s))

  pub law : PrintLaw
  law = record { spelled = spelled; only = only; tree = tree }
