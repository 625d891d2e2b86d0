-- The diagnostic of a fault of a name, beside the path of its file: the word of its kind, and the
-- name.
use Rattle.std.specs.Prelude.{ℕ, List, codes}
use Rattle.outer_world.specs.Refusals.{Message, message}
use Rattle.jack_names.specs.declared.fault.NameFault.{NameFault}
use Rattle.jack_names.specs.declared.fault.NameKind.{NameKind}
use Rattle.jack_names.specs.declared.fault.NameKind.TheVariants as kind

abbrev pub kind_word : NameKind → List ℕ
kind_word kind.FileName = codes "FileName"
kind_word kind.ClassTwice = codes "ClassTwice"
kind_word kind.MemberTwice = codes "MemberTwice"
kind_word kind.VariableTwice = codes "VariableTwice"
kind_word kind.UnknownVariable = codes "UnknownVariable"
kind_word kind.UnknownClass = codes "UnknownClass"
kind_word kind.UnknownSubroutine = codes "UnknownSubroutine"
kind_word kind.ArgumentCount = codes "ArgumentCount"
kind_word kind.MethodByClass = codes "MethodByClass"
kind_word kind.FunctionByObject = codes "FunctionByObject"
kind_word kind.ThisInFunction = codes "ThisInFunction"
kind_word kind.FieldInFunction = codes "FieldInFunction"
kind_word kind.OwnInFunction = codes "OwnInFunction"
kind_word kind.NoMain = codes "NoMain"

abbrev pub name_message : NameFault → Message
name_message fault = message fault.place.line fault.place.column (kind_word fault.kind) fault.name.items
