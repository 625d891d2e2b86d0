-- What parts in postfix order leave, and what pushing further parts does to that.
use Rattle.std.specs.Prelude.{◌≡◌, ◌≤◌, List, [], ◌∷◌, ◌++◌, Option, Some, None, length, reverse}
use Rattle.jack_meaning.specs.Text as meaning
use Rattle.jack_core.specs.declared.tree.Part.{Part}
use Rattle.jack_core.specs.Heights.{takes, height}
use Rattle.jack_core.specs.Reading.{put, build_expressions}
use Rattle.jack_tree.specs.declared.tree.Name.{Name}
use Rattle.jack_names.specs.Inner.Scopes.{Scope}
use Rattle.jack_names.specs.Made.{slot_meant}
use Rattle.jack_names.specs.declared.scope.Declared.{Declared}

-- These parts leave these expressions, the last of which comes first, and each part finds its operands.
pub record Leaves (es : List meaning.Expression) (parts : List Part) : Type 0 where
  pub built_is : build_expressions [] parts ≡ es
  pub height_is : height 0 parts ≡ Some (length es)

-- An expression is added to those that the old parts leave,
abbrev pub Adds : meaning.Expression → List Part → List Part → Type 0
Adds e old new = (es : List meaning.Expression) → Leaves es old → Leaves (e ∷ es) new

-- or several, in order.
abbrev pub AddsAll : List meaning.Expression → List Part → List Part → Type 0
AddsAll all old new = (es : List meaning.Expression) → Leaves es old → Leaves (reverse all ++ es) new

-- The last expression becomes another,
abbrev pub Turns : (meaning.Expression → meaning.Expression) → List Part → List Part → Type 0
Turns f old new = (e : meaning.Expression) (es : List meaning.Expression) → Leaves (e ∷ es) old → Leaves (f e ∷ es) new

-- or the last two become one.
abbrev pub Joins : (meaning.Expression → meaning.Expression → meaning.Expression) → List Part → List Part → Type 0
Joins f old new = (a b : meaning.Expression) (es : List meaning.Expression) → Leaves (b ∷ a ∷ es) old → Leaves (f a b ∷ es) new

-- A part comes last, whose operands are there.
abbrev pub Puts : Part → List Part → List Part → Type 0
Puts p old new = (es : List meaning.Expression) → takes p ≤ length es → Leaves es old → Leaves (put p es) new

-- the object that a call has as its first argument, where it has one
abbrev pub object_by : Option Declared → List meaning.Expression
object_by None = []
object_by (Some v) = slot_meant v.slot ∷ []

abbrev pub object_meant : Scope → Option Name → List meaning.Expression
object_meant s None = meaning.This ∷ []
object_meant s (Some x) = object_by (s.variable x.text)
