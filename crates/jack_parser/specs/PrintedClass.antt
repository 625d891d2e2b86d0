-- The printed form of a class, over its abstract syntax, and that it is read again.
use Rattle.std.specs.Prelude.{◌≡◌, ◌≤◌, ℕ, true, false, List, [], ◌∷◌, None, Ok, map, length}
use Rattle.std.specs.List.{All, flat_map}
use Rattle.grammar.specs.Rules.{Tree}
use Rattle.jack_tree.specs.declared.token.Kind.{Kind}
use Rattle.jack_tree.specs.declared.token.Kind.TheVariants as kind
use Rattle.jack_tree.specs.declared.tree.Class as code
use Rattle.jack_tree.specs.Tokens.{Word, keyword_of}
use Rattle.jack_tree.specs.Syntax.{Class}
use Rattle.jack_tree.specs.Seen.{the_class}
use Rattle.grammar.specs.Words.{is_letter, is_name_byte}
use Rattle.jack_lexer.specs.Tokens.{tokens_of, is_text_byte, is_sign}
use Rattle.jack_parser.specs.Grammar.{Said, Fixed, Placed}
use Rattle.jack_parser.specs.Spelling.{Tokens, text_by, class_tokens}
use Rattle.jack_parser.specs.Limits.{KeepsLimits}
use Rattle.grammar.specs.Printed.{set_off}
use Rattle.jack_parser.specs.Printed.{said_text, class_text}
use Rattle.jack_parser.specs.Spells.{Spells}

-- its tokens, each set off
abbrev pub printed_class : Class → List ℕ
printed_class c = flat_map set_off (map said_text (class_tokens c))

-- letters, digits and underscores, the first no digit, and no keyword
pub record IsIdentifier (text : List ℕ) : Type 0 where
  pub first : ℕ
  pub more : List ℕ
  pub is : text ≡ first ∷ more
  pub letter : is_letter first ≡ true
  pub names : All (λ b. is_name_byte b ≡ true) more
  pub free : keyword_of text ≡ None

-- what a token of a text can be, with the text that it keeps
abbrev pub CanBe : Kind → List ℕ → Type 0
CanBe (kind.Keyword k) text = text ≡ []
CanBe (kind.Symbol b) text = (is_letter b ≡ false) × (is_sign b ≡ true) × (text ≡ [])
CanBe (kind.Integer n) text = (n ≤ 32767) × (text ≡ [])
CanBe kind.Text text = All (λ b. is_text_byte b ≡ true) text
CanBe kind.Identifier text = IsIdentifier text

abbrev pub CanSay : Said → Type 0
CanSay (Fixed k) = CanBe k []
CanSay (Placed k text at) = CanBe k text

-- Tokens of a text can say each of these.
abbrev pub CanAllSay : Tokens → Type 0
CanAllSay [] = Unit {0}
CanAllSay (v ∷ vs) = CanSay v × CanAllSay vs

-- These tokens of a text say that, wherever they stand.
abbrev pub Tells : Word → Said → Type 0
Tells t (Fixed k) = t.kind ≡ k
Tells t (Placed k text at) = (t.kind ≡ k) × (text_by t.kind t.text ≡ text)

abbrev pub Tell : List Word → Tokens → Type 0
Tell [] [] = Unit {0}
Tell (t ∷ ts) (v ∷ vs) = Tells t v × Tell ts vs
Tell [] (v ∷ vs) = ⊥
Tell (t ∷ ts) [] = ⊥

-- A text has the tokens of the class, wherever they stand, and spells a tree of the grammar.
pub record HasTokens (text : List ℕ) (c : Class) : Type 0 where
  pub tokens : List Word
  pub cut : tokens_of text ≡ Ok tokens
  pub tell : Tell tokens (class_tokens c)
  pub tree : Tree Said
  pub spells : Spells text tree

pub record PrintedClassLaw : Type 0 where
  -- what is printed of a tree of the code
  pub form : (c : code.Class) → class_text c ≡ printed_class (the_class c)
  -- The printed form of each class that keeps the limits has the tokens of the class and spells a tree. Its tokens have to be such as
  -- can stand in a text that is no longer than a file may be.
  pub again : (c : Class) → KeepsLimits c → CanAllSay (class_tokens c)
      → length (printed_class c) ≤ 1048576 → HasTokens (printed_class c) c
