-- What the statements and programs of the code stand for.
use Rattle.std.specs.Prelude.{ℕ, List, map}
use Rattle.jack_meaning.specs.Text.{Let, LetField, LetThis, Store, Do, If, While, Return, Text, End, Next, text_of, Constructor, Function, Method}
use Rattle.jack_meaning.specs.Text.{Statement as AStatement, Kind as AKind, Subroutine as ASubroutine, Class as AClass, Program}
use Rattle.jack_core.specs.Reading.{the_variable, the_expression}
use Rattle.jack_core.specs.declared.program.Statement.{Statement, If', While', Row_of-Statement, end_of-Statement, more_of-Statement}
use Rattle.jack_core.specs.declared.program.Kind.{Kind}
use Rattle.jack_core.specs.declared.program.Subroutine.{Subroutine}
use Rattle.jack_core.specs.declared.program.Class.{Class}
use Rattle.jack_core.specs.declared.program.Core.{Core}

abbrev mutual
  pub the_statement : Statement → AStatement
  the_statement (Statement.Let n x e) = Let n (the_variable x) (the_expression e)
  the_statement (Statement.LetField n k e) = LetField n k (the_expression e)
  the_statement (Statement.LetThis n e) = LetThis n (the_expression e)
  the_statement (Statement.Store n a i e) = Store n (the_expression a) (the_expression i) (the_expression e)
  the_statement (Statement.Do n e) = Do n (the_expression e)
  the_statement (If' n o c p a q b) = If n o (the_expression c) (the_row a) (the_row b)
  the_statement (While' n c p s) = While n (the_expression c) (the_row s)
  the_statement (Statement.Return n e) = Return n (the_expression e)

  -- statements that stand in a statement
  pub the_row : {m : _} → Row_of-Statement m → Text
  the_row end_of-Statement = End
  the_row (more_of-Statement s rest) = Next (the_statement s) (the_row rest)

-- statements in order
abbrev pub the_block : List Statement → Text
the_block ss = text_of (map the_statement ss)

abbrev pub the_kind : Kind → AKind
the_kind Kind.Constructor = Constructor
the_kind Kind.Function = Function
the_kind Kind.Method = Method

abbrev pub the_subroutine : Subroutine → ASubroutine
the_subroutine s = record { kind = the_kind s.kind; class = s.class; arguments = s.arguments; locals = s.locals; body = the_block s.body.items }

abbrev pub the_class : Class → AClass
the_class c = record { fields = c.fields; statics = c.statics }

abbrev pub the_subroutines : Core → List ASubroutine
the_subroutines core = map the_subroutine core.subroutines.items

abbrev pub the_program : Core → Program
the_program core = record { classes = map the_class core.classes.items; subroutines = the_subroutines core; init = core.init }

-- the names of the subroutines in the order of their numbers, as `Main.main`, and those of the classes
abbrev pub names_of : Core → List (List ℕ)
names_of core = map (λ s. s.name) core.subroutines.items

abbrev pub class_names_of : Core → List (List ℕ)
class_names_of core = map (λ c. c.name) core.classes.items
