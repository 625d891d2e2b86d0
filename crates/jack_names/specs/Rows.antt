-- Small programs: one that is well named, and for each kind of name fault one whose first fault it is.
use Rattle.std.specs.Prelude.{ℕ, false, List, [], ◌∷◌, Some, None, codes}
use Rattle.scan_text.specs.declared.Place.{Place}
use Rattle.jack_tree.specs.Syntax as tree
use Rattle.jack_names.specs.Faults.{NameDiagnostic}
use Rattle.jack_names.specs.NameFaults.{IsWellNamed, no_main, told_at}
use Rattle.jack_names.specs.FaultOrder.{IsFirstFault}
use Rattle.jack_names.specs.declared.fault.NameKind.{NameKind}
use Rattle.jack_names.specs.declared.fault.NameKind.TheVariants as kinds

abbrev pub at : ℕ → ℕ → Place
at line column = record { line = line; column = column }

abbrev pub name : List ℕ → ℕ → ℕ → tree.Name
name text line column = record { text = text; place = at line column }

-- a subroutine of a form with these locals and one statement
abbrev pub with_body : tree.Form → tree.Name → List tree.Locals → tree.Statement → tree.Subroutine
with_body f x vs s = record { form = f; result = None; name = x; parameters = []; locals = vs; statements = tree.Next s tree.End; close = at 7 3 }

abbrev pub back : tree.Statement
back = tree.Return (at 6 5) None

abbrev pub class_file : List ℕ → List ℕ → List tree.ClassVariables → List tree.Subroutine → tree.ClassFile
class_file file title vs ss = record { file = file; class = record { name = name title 1 7; variables = vs; subroutines = ss } }

-- class Sys { function void init() { return; } }
abbrev pub sys : List tree.ClassFile
sys = class_file (codes "Sys.jack") (codes "Sys") [] (with_body tree.Function (name (codes "init") 4 19) [] back ∷ []) ∷ []

-- class Main { .. function void main() { .. } method void m() { return; } }
abbrev pub main_with : List tree.ClassVariables → List tree.Locals → tree.Statement → tree.ClassFile
main_with vs ls s = class_file (codes "Main.jack") (codes "Main") vs (with_body tree.Function (name (codes "main") 4 19) ls s ∷ with_body tree.Method (name (codes "m") 8 17) [] back ∷ [])

abbrev pub main : tree.ClassFile
main = main_with [] [] back

-- the statement alone
abbrev pub main_of : tree.Statement → tree.ClassFile
main_of s = main_with [] [] s

abbrev pub member : tree.Scope → tree.Name → tree.ClassVariables
member s x = record { scope = s; type = tree.Int; names = record { first = x; more = [] } }

abbrev pub one : tree.Expression
one = tree.Terms (tree.Value (tree.Integer 1)) tree.NoOperation

abbrev pub no_arguments : tree.Expressions
no_arguments = tree.NoExpression

-- do x.f(..); and do f();
abbrev pub calls : tree.Name → tree.Name → tree.Expressions → tree.Statement
calls x f es = tree.Do (at 6 5) (tree.Calls (Some x) f es)

abbrev pub calls_own : tree.Name → tree.Statement
calls_own f = tree.Do (at 6 5) (tree.Calls None f tree.NoExpression)

abbrev pub in_main : NameKind → tree.Name → NameDiagnostic
in_main kind x = told_at (record { shipped = false; file = codes "Main.jack" }) kind x

abbrev pub other : tree.ClassFile
other = class_file (codes "Other.jack") (codes "Main") [] []

abbrev pub in_other : NameDiagnostic
in_other = told_at (record { shipped = false; file = codes "Other.jack" }) kinds.FileName (name (codes "Main") 1 7)

-- the first fault of one class
abbrev pub Tells : tree.ClassFile → NameKind → tree.Name → Type 0
Tells c kind x = IsFirstFault (c ∷ []) sys (in_main kind x)

pub record NameRows : Type 0 where
  pub well_named : IsWellNamed (main ∷ []) sys
  pub file_name : IsFirstFault (main ∷ other ∷ []) sys in_other
  pub class_twice : IsFirstFault (main ∷ main ∷ []) sys
      (in_main kinds.ClassTwice (name (codes "Main") 1 7))
  pub member_twice : Tells (main_with (member tree.Field (name (codes "x") 2 13)
      ∷ member tree.Static (name (codes "x") 3 14) ∷ []) [] back)
      kinds.MemberTwice (name (codes "x") 3 14)
  pub variable_twice : Tells
      (main_with [] (record {
        type = tree.Int;
        names = record { first = name (codes "a") 5 11; more = name (codes "a") 5 14 ∷ [] };
      } ∷ []) back)
      kinds.VariableTwice (name (codes "a") 5 14)
  pub unknown_variable : Tells (main_of (tree.Let (at 6 5) (name (codes "y") 6 9) None one))
      kinds.UnknownVariable (name (codes "y") 6 9)
  pub unknown_class : Tells
      (main_of (calls (name (codes "Foo") 6 8) (name (codes "f") 6 12) no_arguments))
      kinds.UnknownClass (name (codes "Foo") 6 8)
  pub unknown_subroutine : Tells
      (main_of (calls (name (codes "Sys") 6 8) (name (codes "halt") 6 12) no_arguments))
      kinds.UnknownSubroutine (name (codes "halt") 6 12)
  pub argument_count : Tells (main_of (calls (name (codes "Sys") 6 8)
      (name (codes "init") 6 12) (tree.More one tree.NoExpression)))
      kinds.ArgumentCount (name (codes "init") 6 12)
  pub method_by_class : Tells
      (main_of (calls (name (codes "Main") 6 8) (name (codes "m") 6 13) no_arguments))
      kinds.MethodByClass (name (codes "m") 6 13)
  pub function_by_object : Tells (main_of (calls_own (name (codes "main") 6 8)))
      kinds.FunctionByObject (name (codes "main") 6 8)
  pub this_in_function : Tells (main_of (tree.Return (at 6 5)
      (Some (tree.Terms (tree.Value (tree.This (at 6 12))) tree.NoOperation))))
      kinds.ThisInFunction (name (codes "this") 6 12)
  pub field_in_function : Tells (main_with (member tree.Field (name (codes "x") 2 13) ∷ []) []
      (tree.Let (at 6 5) (name (codes "x") 6 9) None one))
      kinds.FieldInFunction (name (codes "x") 6 9)
  pub own_in_function : Tells (main_of (calls_own (name (codes "m") 6 8)))
      kinds.OwnInFunction (name (codes "m") 6 8)
  pub no_main_there : IsFirstFault [] sys no_main
