use Rattle.std.proofs.Common.{◌≡◌, List, [], ◌∷◌, Option, Some, None, refl, ap}
use Rattle.jack_tree.specs.Syntax.{Operator, Plus, Minus, Operations, NoOperation, Then, Expression, Terms, Statement, Return, Statements, End, Next, Subroutine, Class}
use Rattle.jack_parser.proofs.Decided.{spelled}
use Rattle.print_laws.specs.Unplaced.{IsEqualButForPlaces}
use Rattle.print_laws.specs.Rows.{sum_class, nowhere, row_text}
use Rattle.print_laws.proofs.rows_law.Goals as goal

-- the operator of such a class
abbrev in_operations : Operations → Operator
in_operations NoOperation = Plus
in_operations (Then o at t os) = o

abbrev in_expression : Option Expression → Operator
in_expression (Some (Terms t os)) = in_operations os
in_expression None = Plus

abbrev in_statement : Statement → Operator
in_statement (Return at v) = in_expression v
in_statement s = Plus

abbrev in_statements : Statements → Operator
in_statements End = Plus
in_statements (Next s ss) = in_statement s

abbrev in_subroutines : List Subroutine → Operator
in_subroutines [] = Plus
in_subroutines (s ∷ ss) = in_statements s.statements

differ : IsEqualButForPlaces (sum_class Plus nowhere) (sum_class Minus nowhere) → ⊥
differ h = let e : Plus ≡ Minus = ap (λ (c : Class). in_subroutines c.subroutines) h.same in cc

pub returns : goal.returns
returns c = record { printed = refl; spelled = spelled row_text refl; same = record { same = refl }; other = differ }
