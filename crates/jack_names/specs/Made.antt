-- What both accounts of a program's meaning share (book, chapters 10 and 11): the part that a variable becomes, arguments, and strings.
use Rattle.std.specs.Prelude.{ℕ, ◌%◌, List, [], ◌∷◌, Option, Some, None, length}
use Rattle.jack_meaning.specs.Text as meaning
use Rattle.jack_names.specs.declared.scope.Slot.{Slot}
use Rattle.jack_names.specs.declared.scope.Slot.TheVariants as slot
use Rattle.jack_names.specs.declared.scope.Declared.{Declared}

-- a variable, by where it is
abbrev pub slot_meant : Slot → meaning.Expression
slot_meant (slot.Argument k) = meaning.Name (meaning.Argument k)
slot_meant (slot.Local k) = meaning.Name (meaning.Local k)
slot_meant (slot.Field k) = meaning.Field k
slot_meant (slot.Static k) = meaning.Name (meaning.Static k)

-- Here and below, where nothing is declared, any number will do: there is a fault then.
abbrev pub declared_meant : Option Declared → meaning.Expression
declared_meant None = meaning.Literal 0
declared_meant (Some v) = slot_meant v.slot

-- A call's object comes first: a variable, or `this` where nothing stands before the name; a class is no object.
abbrev pub with_variable : Option Declared → meaning.Expressions → meaning.Expressions
with_variable None es = es
with_variable (Some v) es = meaning.More (slot_meant v.slot) es

-- one argument and two
abbrev pub one : meaning.Expression → meaning.Expressions
one e = meaning.More e meaning.NoMore

abbrev pub two : meaning.Expression → meaning.Expression → meaning.Expressions
two a b = meaning.More a (one b)

-- a string is filled byte by byte
abbrev pub filled_characters : ℕ → meaning.Expression → List ℕ → meaning.Expression
filled_characters append e [] = e
filled_characters append e (b ∷ bs) = filled_characters append (meaning.Call append (two e (meaning.Literal b))) bs

-- the length of a string, as a word
abbrev pub length_word : List ℕ → ℕ
length_word text = length text % 65536

abbrev pub assignment : Slot → ℕ → meaning.Expression → meaning.Statement
assignment (slot.Argument k) n e = meaning.Let n (meaning.Argument k) e
assignment (slot.Local k) n e = meaning.Let n (meaning.Local k) e
assignment (slot.Field k) n e = meaning.LetField n k e
assignment (slot.Static k) n e = meaning.Let n (meaning.Static k) e

abbrev pub let_by : Option Declared → ℕ → meaning.Expression → meaning.Statement
let_by None n e = meaning.Let n (meaning.Local 0) e
let_by (Some v) n e = assignment v.slot n e
