-- The tokens of a Jack text (book, chapter 10, figure 10.5).
use Rattle.std.specs.Prelude.{◌≡◌, ◌++◌, ℕ, List, [], ◌∷◌, Option, Some, None, if◌then◌else◌, codes}
use Rattle.std.specs.Str.{bytes_eq}
use Rattle.scan_text.specs.declared.Place.{Place}
use Rattle.scan_text.specs.Text.{walk}
use Rattle.jack_tree.specs.declared.token.Keyword.{Keyword}
use Rattle.jack_tree.specs.declared.token.Keyword.TheVariants as keyword
use Rattle.jack_tree.specs.declared.token.Kind.{Kind}
use Rattle.jack_tree.specs.declared.token.Token.{Token}

-- a token without where its text lies in memory
pub record Word : Type 0 where
  pub kind : Kind
  pub text : List ℕ
  pub place : Place

abbrev pub view : Token → Word
view t = record { kind = t.kind; text = t.text.now; place = t.place }

abbrev pub keyword_text : Keyword → List ℕ
keyword_text keyword.Class = codes "class"
keyword_text keyword.Constructor = codes "constructor"
keyword_text keyword.Function = codes "function"
keyword_text keyword.Method = codes "method"
keyword_text keyword.Field = codes "field"
keyword_text keyword.Static = codes "static"
keyword_text keyword.Var = codes "var"
keyword_text keyword.Int = codes "int"
keyword_text keyword.Char = codes "char"
keyword_text keyword.Boolean = codes "boolean"
keyword_text keyword.Void = codes "void"
keyword_text keyword.True = codes "true"
keyword_text keyword.False = codes "false"
keyword_text keyword.Null = codes "null"
keyword_text keyword.This = codes "this"
keyword_text keyword.Let = codes "let"
keyword_text keyword.Do = codes "do"
keyword_text keyword.If = codes "if"
keyword_text keyword.Else = codes "else"
keyword_text keyword.While = codes "while"
keyword_text keyword.Return = codes "return"

-- the first of some keywords that has this text, or else what is given by the others
abbrev pub keyword_spelled : List Keyword → Option Keyword → List ℕ → Option Keyword
keyword_spelled [] others text = others
keyword_spelled (k ∷ ks) others text = if bytes_eq text (keyword_text k) then Some k else keyword_spelled ks others text

abbrev pub statement_keywords : List Keyword
statement_keywords = keyword.Let ∷ keyword.Do ∷ keyword.If ∷ keyword.Else ∷ keyword.While ∷ keyword.Return ∷ []

abbrev pub constant_keywords : List Keyword
constant_keywords = keyword.True ∷ keyword.False ∷ keyword.Null ∷ keyword.This ∷ []

abbrev pub type_keywords : List Keyword
type_keywords = keyword.Int ∷ keyword.Char ∷ keyword.Boolean ∷ keyword.Void ∷ []

abbrev pub declaring_keywords : List Keyword
declaring_keywords = keyword.Class ∷ keyword.Constructor ∷ keyword.Function ∷ keyword.Method ∷ keyword.Field ∷ keyword.Static ∷ keyword.Var ∷ []

abbrev pub statement_keyword_of : List ℕ → Option Keyword
statement_keyword_of text = keyword_spelled statement_keywords None text

abbrev pub constant_keyword_of : List ℕ → Option Keyword
constant_keyword_of text = keyword_spelled constant_keywords (statement_keyword_of text) text

abbrev pub type_keyword_of : List ℕ → Option Keyword
type_keyword_of text = keyword_spelled type_keywords (constant_keyword_of text) text

-- the keyword that is spelled so
abbrev pub keyword_of : List ℕ → Option Keyword
keyword_of text = keyword_spelled declaring_keywords (type_keyword_of text) text

-- The words stand in the text, which begins at this place, one after another: before each is a gap, and after it are the others.
abbrev pub StandIn : Place → List ℕ → List Word → Type 0
StandIn at text [] = Unit {0}
StandIn at text (w ∷ ws) = (gap : List ℕ) × (rest : List ℕ) × (text ≡ gap ++ (w.text ++ rest)) × (w.place ≡ walk at gap) × StandIn (walk w.place w.text) rest ws
