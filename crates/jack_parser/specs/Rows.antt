-- Three classes and their texts, by computation.
use Rattle.std.specs.Prelude.{◌≡◌, ℕ, ◌++◌, List, [], ◌∷◌, Some, None, codes}
use Rattle.scan_text.specs.declared.Place.{Place}
use Rattle.jack_tree.specs.declared.token.Keyword.TheVariants as keyword
use Rattle.jack_tree.specs.declared.token.Kind.TheVariants as kind
use Rattle.jack_tree.specs.Syntax.{Name, Plus, Minus, Times, Divide, And, Or, Less, Greater, Equal, Negate, Not, ShiftLeft, ShiftRight, Integer, String, True, False, Null, This, Terms, NoOperation, Then, Value, Variable, Element, Called, Group, Unary, Calls, NoExpression, More, Let, If, IfElse, While, Do, Return, End, Next, Int, Char, Boolean, Object, Static, Field, Constructor, Function, Method, Class}
use Rattle.jack_parser.specs.Grammar.{Fixed, Placed}
use Rattle.jack_parser.specs.Spelling.{Tokens, ◌·◌, key, key_at, symbol, symbol_at, class_tokens}
use Rattle.jack_parser.specs.Spelled.{SpellsClass}

-- the place at a column of the first line
abbrev at : ℕ → Place
at column = record { line = 1; column = column }

abbrev name_at : List ℕ → ℕ → Name
name_at text column = record { text = text; place = at column }

abbrev word : List ℕ → ℕ → Tokens
word text column = Placed kind.Identifier text (at column) ∷ []

-- the text
abbrev pub small_text : List ℕ
small_text = codes "class A { static int n; constructor A new ( char c ) { do B.put ( " ++ 34 ∷ (codes "x" ++ 34 ∷ codes " , 2 * n ) ; if ( ~ c ) { return this ; } else { let n = - 1 ; } } }")

-- its class: a static, a constructor, a string, an operator, both signs and both ways of a choice
abbrev pub small : Class
small = record {
  name = name_at (codes "A") 7;
  variables = record { scope = Static; type = Int; names = record { first = name_at (codes "n") 22; more = [] } } ∷ [];
  subroutines = record {
    form = Constructor;
    result = Some (Object (name_at (codes "A") 37));
    name = name_at (codes "new") 39;
    parameters = record { type = Char; name = name_at (codes "c") 50 } ∷ [];
    locals = [];
    statements =
        Next (Do (at 56) (Calls (Some (name_at (codes "B") 59)) (name_at (codes "put") 61)
        (More (Terms (Value (String (name_at (codes "x") 67))) NoOperation)
        (More (Terms (Value (Integer 2)) (Then Times (at 75) (Variable (name_at (codes "n") 77)) NoOperation)) NoExpression))))
        (Next (IfElse (at 83) (Terms (Unary Not (Variable (name_at (codes "c") 90))) NoOperation)
        (Next (Return (at 96) (Some (Terms (Value (This (at 103))) NoOperation))) End)
        (Next (Let (at 119) (name_at (codes "n") 123) None (Terms (Unary Negate (Value (Integer 1))) NoOperation)) End))
        End);
    close = at 135;
  } ∷ [];
}

-- its tokens
abbrev pub small_tokens : Tokens
small_tokens =
    key keyword.Class · word (codes "A") 7 · symbol (codes "{") · key keyword.Static · key keyword.Int · word (codes "n") 22
    · symbol (codes ";") · key keyword.Constructor · word (codes "A") 37 · word (codes "new") 39 · symbol (codes "(") · key keyword.Char
    · word (codes "c") 50 · symbol (codes ")") · symbol (codes "{") · key_at keyword.Do (at 56) · word (codes "B") 59 · symbol (codes ".")
    · word (codes "put") 61 · symbol (codes "(") · (Placed kind.Text (codes "x") (at 67) ∷ []) · symbol (codes ",") · (Fixed (kind.Integer 2) ∷ []) · (Placed (kind.Symbol 42) [] (at 75) ∷ [])
    · word (codes "n") 77 · symbol (codes ")") · symbol (codes ";") · key_at keyword.If (at 83) · symbol (codes "(") · symbol (codes "~")
    · word (codes "c") 90 · symbol (codes ")") · symbol (codes "{") · key_at keyword.Return (at 96) · key_at keyword.This (at 103) · symbol (codes ";")
    · symbol (codes "}") · key keyword.Else · symbol (codes "{") · key_at keyword.Let (at 119) · word (codes "n") 123 · symbol (codes "=")
    · symbol (codes "-") · (Fixed (kind.Integer 1) ∷ []) · symbol (codes ";") · symbol (codes "}") · symbol_at (codes "}") (at 135) · symbol (codes "}")

-- a text with what the first one lacks: all operators in order, fields, locals, the other kinds of subroutines, types, statements and terms
abbrev pub large_text : List ℕ
large_text = codes "class B { field Array f , g ; static boolean s ; method void m ( int i , Array a ) { var char d , e ; var boolean q ; let a [ i ] = a [ 0 ] + i - 2 * 3 / 4 & 5 | i < 6 > 7 = 8 ; while ( true ) { if ( ( false ) ) { do m ( ) ; } do n ( null , i ) ; } return ; } function boolean n ( ) { return q . r ( s ) ; } }"

-- its class
abbrev pub large : Class
large = record {
  name = name_at (codes "B") 7;
  variables =
      record { scope = Field; type = Object (name_at (codes "Array") 17); names = record { first = name_at (codes "f") 23; more = name_at (codes "g") 27 ∷ [] } }
      ∷ record { scope = Static; type = Boolean; names = record { first = name_at (codes "s") 46; more = [] } } ∷ [];
  subroutines = record {
    form = Method;
    result = None;
    name = name_at (codes "m") 62;
    parameters =
        record { type = Int; name = name_at (codes "i") 70 }
        ∷ record { type = Object (name_at (codes "Array") 74); name = name_at (codes "a") 80 } ∷ [];
    locals =
        record { type = Char; names = record { first = name_at (codes "d") 95; more = name_at (codes "e") 99 ∷ [] } }
        ∷ record { type = Boolean; names = record { first = name_at (codes "q") 115; more = [] } } ∷ [];
    statements =
        (Next (Let (at 119) (name_at (codes "a") 123) (Some (Terms (Variable (name_at (codes "i") 127)) NoOperation)) (Terms (Element (name_at (codes "a") 133) (Terms (Value (Integer 0)) NoOperation)) (Then Plus (at 141) (Variable (name_at (codes "i") 143)) (Then Minus (at 145) (Value (Integer 2)) (Then Times (at 149) (Value (Integer 3)) (Then Divide (at 153) (Value (Integer 4)) (Then And (at 157) (Value (Integer 5)) (Then Or (at 161) (Variable (name_at (codes "i") 163)) (Then Less (at 165) (Value (Integer 6)) (Then Greater (at 169) (Value (Integer 7)) (Then Equal (at 173) (Value (Integer 8)) NoOperation)))))))))))
        (Next (While (at 179) (Terms (Value True) NoOperation) (Next (If (at 196) (Terms (Group (Terms (Value False) NoOperation)) NoOperation) (Next (Do (at 215) (Calls None (name_at (codes "m") 218) NoExpression))
        End))
        (Next (Do (at 228) (Calls None (name_at (codes "n") 231) (More (Terms (Value Null) NoOperation) (More (Terms (Variable (name_at (codes "i") 242)) NoOperation) NoExpression))))
        End)))
        (Next (Return (at 250) None)
        End)));
    close = at 259;
  } ∷ record {
    form = Function;
    result = Some (Boolean);
    name = name_at (codes "n") 278;
    parameters = [];
    locals = [];
    statements =
        (Next (Return (at 286) (Some (Terms (Called (Calls (Some (name_at (codes "q") 293)) (name_at (codes "r") 297) (More (Terms (Variable (name_at (codes "s") 301)) NoOperation) NoExpression))) NoOperation)))
        End);
    close = at 307;
  } ∷ [];
}

-- a text with both shifts: before a variable, twice in a row, and before an expression in parentheses
abbrev pub shifts_text : List ℕ
shifts_text = codes "class C { function int f ( int x ) { return ^ x + # # ( ^ 1 ) ; } }"

-- its class
abbrev pub shifts : Class
shifts = record {
  name = name_at (codes "C") 7;
  variables = [];
  subroutines = record {
    form = Function;
    result = Some Int;
    name = name_at (codes "f") 24;
    parameters = record { type = Int; name = name_at (codes "x") 32 } ∷ [];
    locals = [];
    statements =
        Next (Return (at 38) (Some (Terms (Unary ShiftLeft (Variable (name_at (codes "x") 47)))
        (Then Plus (at 49) (Unary ShiftRight (Unary ShiftRight (Group (Terms (Unary ShiftLeft (Value (Integer 1))) NoOperation)))) NoOperation))))
        End;
    close = at 65;
  } ∷ [];
}

pub record RowsLaw : Type 0 where
  pub tokens : class_tokens small ≡ small_tokens
  pub spelled : SpellsClass small_text small
  pub large_spelled : SpellsClass large_text large
  pub shifts_spelled : SpellsClass shifts_text shifts
