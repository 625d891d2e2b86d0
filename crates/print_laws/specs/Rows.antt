-- One class that was made by code, its printed form, and the class that this spells, written out.
use Rattle.std.specs.Prelude.{◌≡◌, ◌++◌, ℕ, List, [], ◌∷◌, Some, codes}
use Rattle.scan_text.specs.declared.Place.{Place}
use Rattle.scan_text.specs.Text.{start}
use Rattle.jack_tree.specs.Syntax.{Operator, Plus, Minus, This, Terms, NoOperation, Then, Value, Variable, Return, End, Next, Int, Method, Class}
use Rattle.jack_parser.specs.Spelled.{SpellsClass}
use Rattle.jack_parser.specs.PrintedClass.{printed_class}
use Rattle.print_laws.specs.Unplaced.{IsEqualButForPlaces}

-- the places of a class like the one below
pub record Places : Type 0 where
  pub class : Place
  pub name : Place
  pub return : Place
  pub this : Place
  pub operator : Place
  pub variable : Place
  pub close : Place

-- class A { method int f() { return this + b; } }
abbrev pub sum_class : Operator → Places → Class
sum_class o at = record {
  name = record { text = codes "A"; place = at.class };
  variables = [];
  subroutines = record {
    form = Method;
    result = Some Int;
    name = record { text = codes "f"; place = at.name };
    parameters = [];
    locals = [];
    statements = Next (Return at.return (Some (Terms (Value (This at.this)) (Then o at.operator (Variable (record { text = codes "b"; place = at.variable })) NoOperation)))) End;
    close = at.close;
  } ∷ [];
}

-- all at the start of a text, as in a class that was made by code
abbrev pub nowhere : Places
nowhere = record { class = start; name = start; return = start; this = start; operator = start; variable = start; close = start }

abbrev pub at : ℕ → ℕ → Place
at line column = record { line = line; column = column }

-- where they stand in the printed form
abbrev pub printed_places : Places
printed_places = record { class = at 1 7; name = at 2 12; return = at 3 1; this = at 3 8; operator = at 3 13; variable = at 3 15; close = at 4 1 }

abbrev pub row_text : List ℕ
row_text =
    codes "class A {" ++ 10 ∷ (codes "method int f ( ) {" ++ 10 ∷ (codes "return this + b ;" ++ 10 ∷ (codes "}" ++ 10 ∷ (codes "}" ++ 10 ∷ []))))

pub record PrintRows : Type 0 where
  pub printed : printed_class (sum_class Plus nowhere) ≡ row_text
  pub spelled : SpellsClass row_text (sum_class Plus printed_places)
  pub same : IsEqualButForPlaces (sum_class Plus nowhere) (sum_class Plus printed_places)
  -- another operator is another class
  pub other : IsEqualButForPlaces (sum_class Plus nowhere) (sum_class Minus nowhere) → ⊥
