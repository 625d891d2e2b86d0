-- The pins of the chips that have no parts, as they are shipped. (The book, chapters 1, 3 and 5, and appendix 2.)
use Rattle.std.specs.Prelude.{◌≡◌, ℕ, List, [], ◌∷◌, Some, map, codes}
use Rattle.hdl_tree.specs.declared.tree.Pin.{Pin}
use Rattle.hdl_tree.specs.declared.library.Entry.{Entry}
use Rattle.hdl_tree.specs.declared.ends.End.{End}
use Rattle.hdl_tree.specs.declared.ends.End.TheVariants as ends
use Rattle.hdl_tree.specs.Chips.{Chips, end_of, find_chip, pin_width}

-- names and widths
abbrev pub named_pins : List Pin → List (List ℕ × ℕ)
named_pins pins = map (λ p. (p.name, pin_width p)) pins

abbrev pub end_inputs : End → List (List ℕ × ℕ)
end_inputs ends.Nand = (codes "a", 1) ∷ (codes "b", 1) ∷ []
end_inputs ends.Dff = (codes "in", 1) ∷ []
end_inputs ends.Keyboard = []
end_inputs ends.Rom = (codes "address", 15) ∷ []
end_inputs (ends.Block bits) = (codes "in", 16) ∷ (codes "load", 1) ∷ (codes "address", bits) ∷ []

abbrev pub end_outputs : End → List (List ℕ × ℕ)
end_outputs ends.Nand = (codes "out", 1) ∷ []
end_outputs ends.Dff = (codes "out", 1) ∷ []
end_outputs ends.Keyboard = (codes "out", 16) ∷ []
end_outputs ends.Rom = (codes "out", 16) ∷ []
end_outputs (ends.Block bits) = (codes "out", 16) ∷ []

pub record HasPins (chip : Entry) (e : End) : Type 0 where
  pub inputs : named_pins chip.chip.inputs ≡ end_inputs e
  pub outputs : named_pins chip.chip.outputs ≡ end_outputs e

-- each end of the library has the pins that it is shipped with
abbrev pub EndsHavePins : Chips → Type 0
EndsHavePins chips = (name : List ℕ) (chip : Entry) (e : End) → find_chip chips name ≡ Some chip → end_of chips.memories chip ≡ Some e → HasPins chip e
