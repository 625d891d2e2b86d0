-- The text of a view.
use Rattle.std.specs.Prelude.{ℕ, Bool, if◌then◌else◌, List, [], ◌∷◌, ◌++◌, codes, decimal, Option, Some, None}
use Rattle.std.specs.List.{flat_map}
use Rattle.outer_world.specs.Texts.{signed_text}
use Rattle.jack_debug.specs.declared.seen.Caller.{Caller}
use Rattle.jack_debug.specs.declared.seen.Variable.{Variable}
use Rattle.jack_debug.specs.declared.seen.View.{View}

abbrev pub this_line : ℕ → List ℕ
this_line w = codes "this " ++ (signed_text w ++ 10 ∷ [])

abbrev pub this_lines : Option ℕ → List ℕ
this_lines None = []
this_lines (Some w) = this_line w

-- a variable: what it is, its name, and its word by the signed reading
abbrev pub variable_line : List ℕ → Variable → List ℕ
variable_line what s = what ++ 32 ∷ (s.name ++ 32 ∷ (signed_text s.word ++ 10 ∷ []))

abbrev pub caller_line : Caller → List ℕ
caller_line c = codes "from " ++ (c.sub ++ 32 ∷ (decimal c.number ++ 10 ∷ []))

abbrev pub lost_line : Bool → List ℕ
lost_line lost = if lost then codes "from ?\n" else []

abbrev pub variables_text : View → List ℕ
variables_text v =
    this_lines v.this
    ++ (flat_map (variable_line (codes "argument")) v.arguments ++ (flat_map (variable_line (codes "local")) v.locals ++ flat_map (variable_line (codes "static")) v.statics))

abbrev pub callers_text : View → List ℕ
callers_text v = flat_map caller_line v.callers ++ lost_line v.lost

-- `this`, the arguments, the locals and the statics in order of declaration, then the callers from the innermost
abbrev pub view_text : View → List ℕ
view_text v = variables_text v ++ callers_text v
