-- What calls of a shelf keep, one after another.
use Rattle.std.proofs.Common.{refl, ◌∙◌}
use Rattle.outer_world.specs.State.{Keeps, ShelfState}

pub keeps_all : (shelf : ShelfState) → Keeps shelf shelf
keeps_all shelf = record { files = refl; there = refl; unfailing = λ u. u }

pub keeps_then : (a b c : ShelfState) → Keeps a b → Keeps b c → Keeps a c
keeps_then a b c h k = record { files = k.files ∙ h.files; there = k.there ∙ h.there; unfailing = λ u. k.unfailing (h.unfailing u) }
