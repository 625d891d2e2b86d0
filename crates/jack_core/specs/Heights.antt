-- How many values the parts of an expression take and leave, in postfix order.
use Rattle.std.specs.Prelude.{ℕ, ◌+◌, ◌-◌, nat_le, if◌then◌else◌, List, [], ◌∷◌, Option, Some, None}
use Rattle.jack_core.specs.declared.tree.Part.{Part}
use Rattle.jack_core.specs.declared.tree.Part.TheVariants as part

-- how many operands a part has
abbrev pub takes : Part → ℕ
takes (part.Literal n) = 0
takes (part.Argument k) = 0
takes (part.Local k) = 0
takes (part.Static k) = 0
takes part.This = 0
takes (part.Field k) = 0
takes (part.Unary o) = 1
takes (part.Binary o) = 2
takes part.Load = 2
takes (part.Call n g) = n

-- How many expressions there are after these parts, over this many before them: each part makes one of its operands. None where a part has
-- too few of them.
abbrev pub height : ℕ → List Part → Option ℕ
height h [] = Some h
height h (p ∷ ps) = if nat_le (takes p) h then height (h - takes p + 1) ps else None
