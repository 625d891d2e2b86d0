-- The abstract syntax of Jack: what a class says, without its tokens (book, chapter 10, figure 10.5). Names, strings, `this` and operators are kept
-- with their places, since faults of names are reported there. So are the first token of a statement and the brace that closes a subroutine's body,
-- since a map of the program shows them.
use Rattle.std.specs.Prelude.{ℕ, List, Option}
use Rattle.scan_text.specs.declared.Place.{Place}

-- an identifier, or what is between the quotes of a string
pub record Name : Type 0 where
  pub text : List ℕ
  pub place : Place

-- op: + - * / & | < > =
pub data Operator : Type 0 where
  Plus Minus Times Divide And Or Less Greater Equal : Operator

-- unaryOp: - ~, and the shifts ^ and #, which are not the book's
pub data Sign : Type 0 where
  Negate Not ShiftLeft ShiftRight : Sign

-- integerConstant, stringConstant, keywordConstant
pub data Constant : Type 0 where
  Integer : ℕ → Constant
  String : Name → Constant
  True False Null : Constant
  This : Place → Constant

-- expression, term, subroutineCall, expressionList
mutual
  -- a term, and operators with further terms, which are taken from left to right
  pub data Expression : Type 0 where
    Terms : Term → Operations → Expression

  -- (op term)*
  pub data Operations : Type 0 where
    NoOperation : Operations
    Then : Operator → Place → Term → Operations → Operations

  pub data Term : Type 0 where
    Value : Constant → Term
    -- varName
    Variable : Name → Term
    -- varName '[' expression ']'
    Element : Name → Expression → Term
    Called : Call → Term
    -- '(' expression ')'
    Group : Expression → Term
    -- unaryOp term
    Unary : Sign → Term → Term

  -- [(className | varName) '.'] subroutineName '(' expressionList ')'
  pub data Call : Type 0 where
    Calls : Option Name → Name → Expressions → Call

  pub data Expressions : Type 0 where
    NoExpression : Expressions
    More : Expression → Expressions → Expressions

-- statement, statements
mutual
  pub data Statement : Type 0 where
    -- let varName ['[' expression ']'] = expression ;
    Let : Place → Name → Option Expression → Expression → Statement
    -- if ( expression ) { statements }
    If : Place → Expression → Statements → Statement
    -- if ( expression ) { statements } else { statements }
    IfElse : Place → Expression → Statements → Statements → Statement
    -- while ( expression ) { statements }
    While : Place → Expression → Statements → Statement
    -- do subroutineCall ;
    Do : Place → Call → Statement
    -- return [expression] ;
    Return : Place → Option Expression → Statement

  pub data Statements : Type 0 where
    End : Statements
    Next : Statement → Statements → Statements

-- type: int, char, boolean, className
pub data ValueType : Type 0 where
  Int Char Boolean : ValueType
  Object : Name → ValueType

-- varName (, varName)*
pub record Names : Type 0 where
  pub first : Name
  pub more : List Name

pub data Scope : Type 0 where
  Static Field : Scope

-- classVarDec: (static | field) type varName (, varName)* ;
pub record ClassVariables : Type 0 where
  pub scope : Scope
  pub type : ValueType
  pub names : Names

-- varDec: var type varName (, varName)* ;
pub record Locals : Type 0 where
  pub type : ValueType
  pub names : Names

-- type varName
pub record Parameter : Type 0 where
  pub type : ValueType
  pub name : Name

pub data Form : Type 0 where
  Constructor Function Method : Form

-- subroutineDec: (constructor | function | method) (void | type) subroutineName ( parameterList ) { varDec* statements }
-- Without a result it is void.
pub record Subroutine : Type 0 where
  pub form : Form
  pub result : Option ValueType
  pub name : Name
  pub parameters : List Parameter
  pub locals : List Locals
  pub statements : Statements
  -- the brace that closes the body
  pub close : Place

-- class className { classVarDec* subroutineDec* }
pub record Class : Type 0 where
  pub name : Name
  pub variables : List ClassVariables
  pub subroutines : List Subroutine

-- a class and the name of its file
pub record ClassFile : Type 0 where
  pub file : List ℕ
  pub class : Class
