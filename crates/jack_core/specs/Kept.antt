-- The parts of an expression, in postfix order (book, chapter 11). The two ways in which they are kept are the project's own: a single part stands in the
-- value itself, and any other list is a vector outside it. Contracts see the list of parts alone.
use Rattle.std.specs.Prelude.{List, [], ◌∷◌}
use Rattle.jack_core.specs.declared.tree.Part.{Part}
use Rattle.jack_core.specs.declared.parts.Kept.{Kept}
use Rattle.jack_core.specs.declared.parts.Kept.TheVariants as kept

-- the parts in their order, whichever way they are kept
abbrev pub kept_parts : Kept → List Part
kept_parts (kept.One p) = p ∷ []
kept_parts (kept.Many ps) = ps.value.items
