-- A text spells at most one chip.
use Rattle.std.proofs.Common.{◌≡◌, ℕ, List}
use Rattle.grammar.specs.declared.Fault.{Fault}
use Rattle.grammar.specs.Texts.{OneReading}
use Rattle.grammar.proofs.Wholes.{one_tree, not_both, first_fault}
use Rattle.hdl_tree.specs.declared.tree.Chip.{Chip}
use Rattle.hdl_parser.specs.Tokens.{tokens_of, finish}
use Rattle.hdl_parser.specs.Grammar.{hdl, whole}
use Rattle.hdl_parser.specs.Spells.{whole_tree, Spells, Refuses}
use Rattle.hdl_parser.proofs.Apart.{apart}

module _ (text : List ℕ) where
  pub one_chip : (c d : Chip) → Spells text c → Spells text d → c ≡ d
  one_chip c d p q = apart c d (one_tree (hdl (finish text)) whole 0 (tokens_of text) (whole_tree c) (whole_tree d) p q)

  pub no_fault : (c : Chip) (f : Fault) → Spells text c → Refuses text f → ⊥
  no_fault c f p q = not_both (hdl (finish text)) whole 0 (tokens_of text) (whole_tree c) f p q

  pub one_fault : (f h : Fault) → Refuses text f → Refuses text h → f ≡ h
  one_fault = first_fault (hdl (finish text)) whole 0 (tokens_of text)

  pub one_reading : OneReading Chip (Spells text) (Refuses text)
  one_reading = record { one = one_chip; one_fault = one_fault; not_both = no_fault }
