-- The search for name faults over abstract syntax, as tests in their order.
use Rattle.std.proofs.Common.{ℕ, Bool, true, false, not, ◌&&◌, ◌==◌, List, [], ◌∷◌, ◌++◌, map, Option, Some, None, is_none, length, codes}
use Rattle.std.specs.Str.{bytes_eq}
use Rattle.scan_text.specs.declared.Place.{Place}
use Rattle.jack_tree.specs.Syntax as tree
use Rattle.name_table.specs.Names.{first_of}
use Rattle.jack_names.specs.Tables.{is_among}
use Rattle.jack_names.specs.Faults.{NameDiagnostic, Source, first_in}
use Rattle.jack_names.specs.Inner.Scopes.{is_lesser}
use Rattle.jack_names.specs.Using.{find_named, Variable, members, inner, Made, by_class, filled_parts, Use, OfVariable, OfFront, OfCall, OfThis, OfString, OfMade, Body, File, source, system_files, file}
use Rattle.jack_names.specs.NameFaults.{names, told_at, no_main, made_name, class_of, variable_of, target, through, Target, subroutine_of}
use Rattle.jack_names.specs.declared.fault.NameKind.{NameKind}
use Rattle.jack_names.specs.declared.fault.NameKind.TheVariants as kinds
use Rattle.jack_names.specs.declared.scope.Way.{Way}
use Rattle.jack_names.specs.declared.scope.Way.TheVariants as way
use Rattle.jack_names.proofs.Finding.{fails_if}

-- names that stand before, or among those before
abbrev pub twice : Source → NameKind → List (List ℕ) → List tree.Name → Option NameDiagnostic
twice source kind before [] = None
twice source kind before (x ∷ xs) = first_of (fails_if (is_among x.text before) (told_at source kind x)) (twice source kind (before ++ x.text ∷ []) xs)

abbrev pub subroutines_twice : Source → List (List ℕ) → List tree.Subroutine → Option NameDiagnostic
subroutines_twice source before [] = None
subroutines_twice source before (s ∷ ss) =
    first_of (first_of (fails_if (is_among s.name.text before) (told_at source kinds.MemberTwice s.name)) (twice source kinds.VariableTwice [] (names (inner s))))
    (subroutines_twice source (before ++ s.name.text ∷ []) ss)

abbrev pub declaration : Bool → List (List ℕ) → tree.ClassFile → Option NameDiagnostic
declaration shipped there c =
    first_of
    (first_of (fails_if (not (bytes_eq (c.class.name.text ++ codes ".jack") c.file)) (told_at (source shipped c) kinds.FileName c.class.name))
    (fails_if (is_among c.class.name.text there) (told_at (source shipped c) kinds.ClassTwice c.class.name)))
    (first_of (twice (source shipped c) kinds.MemberTwice [] (names (members c.class.variables))) (subroutines_twice (source shipped c) [] c.class.subroutines))

abbrev pub declarations : Bool → List (List ℕ) → List tree.ClassFile → Option NameDiagnostic
declarations shipped there [] = None
declarations shipped there (c ∷ cs) = first_of (declaration shipped there c) (declarations shipped (there ++ c.class.name.text ∷ []) cs)

abbrev pub is_function : tree.Form → Bool
is_function tree.Function = true
is_function _ = false

abbrev pub is_method : tree.Form → Bool
is_method tree.Method = true
is_method _ = false

-- What is wrong with a call of a subroutine:
abbrev pub is_unknown : Option tree.Subroutine → Bool
is_unknown None = true
is_unknown (Some s) = false

abbrev pub miscounts : ℕ → Option tree.Subroutine → Bool
miscounts n None = false
miscounts n (Some s) = not (length s.parameters == n)

abbrev pub wrong_method : Way → Option tree.Subroutine → Bool
wrong_method w None = false
wrong_method way.ByClass (Some s) = is_method s.form
wrong_method _ (Some s) = false

abbrev pub wrong_function : Way → Option tree.Subroutine → Bool
wrong_function w None = false
wrong_function way.ByClass (Some s) = false
wrong_function _ (Some s) = not (is_method s.form)

abbrev pub called : Source → tree.Name → ℕ → Way → Option tree.Subroutine → Option NameDiagnostic
called source f n w o =
    first_of (fails_if (is_unknown o) (told_at source kinds.UnknownSubroutine f))
    (first_of (fails_if (miscounts n o) (told_at source kinds.ArgumentCount f))
    (first_of (fails_if (wrong_method w o) (told_at source kinds.MethodByClass f)) (fails_if (wrong_function w o) (told_at source kinds.FunctionByObject f))))

abbrev pub called_at : Source → tree.Name → ℕ → Option Target → Option NameDiagnostic
called_at source f n None = None
called_at source f n (Some t) = called source f n t.way (subroutine_of t f)

abbrev pub is_field_of : Option Variable → Bool
is_field_of None = false
is_field_of (Some v) = v.is_field

abbrev pub field_in : Body → Option Variable → Bool
field_in b v = is_function b.form && is_field_of v

abbrev pub own_in : Body → Option tree.Name → Bool
own_in b None = is_function b.form
own_in b (Some x) = false

-- the lesser kind of two
abbrev pub lesser_of : Bool → Option NameDiagnostic → Option NameDiagnostic → Option NameDiagnostic
lesser_of true a b = b
lesser_of false a b = a

abbrev pub kind_of : Option NameDiagnostic → Option NameKind
kind_of None = None
kind_of (Some t) = Some t.kind

abbrev pub lesser : Option NameDiagnostic → Option NameDiagnostic → Option NameDiagnostic
lesser a b = lesser_of (is_lesser (kind_of a) (kind_of b)) a b

abbrev pub this_at : Place → tree.Name
this_at at = record { text = codes "this"; place = at }

module _ (own os : List tree.ClassFile) where
  abbrev pub made : Source → Made → Option NameDiagnostic
  made source m =
      first_of (fails_if (is_none (class_of own os m.class)) (told_at source kinds.UnknownClass (made_name m.class m)))
      (called_at source (made_name m.name m) m.arguments (through m.way (class_of own os m.class)))

  abbrev pub all_made : Source → List Made → Option NameDiagnostic
  all_made source [] = None
  all_made source (m ∷ ms) = made source m

  abbrev pub point : Source → Body → Use → Option NameDiagnostic
  point source b (OfVariable x) =
      first_of (fails_if (is_none (variable_of b x)) (told_at source kinds.UnknownVariable x)) (fails_if (field_in b (variable_of b x)) (told_at source kinds.FieldInFunction x))
  point source b (OfFront x) =
      first_of (fails_if (is_none (target own os b (Some x))) (told_at source kinds.UnknownClass x)) (fails_if (field_in b (variable_of b x)) (told_at source kinds.FieldInFunction x))
  point source b (OfCall o f n) = first_of (called_at source f n (target own os b o)) (fails_if (own_in b o) (told_at source kinds.OwnInFunction f))
  point source b (OfThis at) = fails_if (is_function b.form) (told_at source kinds.ThisInFunction (this_at at))
  point source b (OfString t) = lesser (made source (by_class (codes "String") (codes "new") 1 t.place)) (all_made source (filled_parts t.text t.place))
  point source b (OfMade m) = made source m

  abbrev pub body_faults : Source → Body → Option NameDiagnostic
  body_faults source b = first_in (point source b) b.uses

  abbrev pub file_faults : File → Option NameDiagnostic
  file_faults f = first_in (body_faults f.source) f.bodies

  abbrev pub is_plain : Option tree.Subroutine → Bool
  is_plain None = false
  is_plain (Some s) = is_function s.form && (length s.parameters == 0)

  abbrev pub main_of : Option tree.ClassFile → Option tree.Subroutine
  main_of None = None
  main_of (Some c) = find_named (λ s. s.name.text) (codes "main") c.class.subroutines

  abbrev pub has_main : Bool
  has_main = is_plain (main_of (class_of own os (codes "Main")))

  abbrev pub all_faults : Option NameDiagnostic
  all_faults =
      first_of (first_of (declarations false (map (λ c. c.class.name.text) os) own) (declarations true [] os))
      (first_of (fails_if (not has_main) no_main) (first_of (first_in file_faults (map (file false) own)) (first_in file_faults (system_files os))))
