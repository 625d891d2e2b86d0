-- Each keyword has its text, and no other.
use Rattle.std.proofs.Common.{◌≡◌, ℕ, Bool, true, false, cond, List, [], ◌∷◌, Option, Some, None, refl, ap, ◌∙◌}
use Rattle.std.specs.Str.{bytes_eq}
use Rattle.std.proofs.lemmas.Slice.Eq.{bytes_eq-Decides}
use Rattle.jack_tree.specs.declared.token.Keyword.{Keyword}
use Rattle.jack_tree.specs.declared.token.Keyword.TheVariants as keyword
use Rattle.jack_tree.specs.Tokens.{keyword_text, keyword_of, keyword_spelled, statement_keywords, constant_keywords, type_keywords, declaring_keywords, statement_keyword_of, constant_keyword_of, type_keyword_of}
use Rattle.jack_parser.proofs.laws.keyword_law.Goals as goal

has_text : (k : Keyword) → keyword_of (keyword_text k) ≡ Some k
has_text keyword.Class = refl
has_text keyword.Constructor = refl
has_text keyword.Function = refl
has_text keyword.Method = refl
has_text keyword.Field = refl
has_text keyword.Static = refl
has_text keyword.Var = refl
has_text keyword.Int = refl
has_text keyword.Char = refl
has_text keyword.Boolean = refl
has_text keyword.Void = refl
has_text keyword.True = refl
has_text keyword.False = refl
has_text keyword.Null = refl
has_text keyword.This = refl
has_text keyword.Let = refl
has_text keyword.Do = refl
has_text keyword.If = refl
has_text keyword.Else = refl
has_text keyword.While = refl
has_text keyword.Return = refl

abbrev Finds : Option Keyword → List ℕ → Type 0
Finds o text = (k : Keyword) → o ≡ Some k → text ≡ keyword_text k

first_by : (j : Keyword) (text : List ℕ) (o : Option Keyword) (t : Bool) → bytes_eq text (keyword_text j) ≡ t → Finds o text → Finds (cond t (Some j) o) text
first_by j text o true e h k f = let same : j ≡ k = cc in (bytes_eq-Decides text (keyword_text j)).0 e ∙ ap keyword_text same
first_by j text o false e h k f = h k f

spelled_finds : (ks : List Keyword) (others : Option Keyword) (text : List ℕ) → Finds others text → Finds (keyword_spelled ks others text) text
spelled_finds [] others text h = h
spelled_finds (j ∷ ks) others text h = first_by j text (keyword_spelled ks others text) (bytes_eq text (keyword_text j)) refl (spelled_finds ks others text h)

none_finds : (text : List ℕ) → Finds None text
none_finds text k e = absurd cc

finds : (text : List ℕ) → Finds (keyword_of text) text
finds text =
    spelled_finds declaring_keywords (type_keyword_of text) text
    (spelled_finds type_keywords (constant_keyword_of text) text
    (spelled_finds constant_keywords (statement_keyword_of text) text
    (spelled_finds statement_keywords None text (none_finds text))))

pub returns : goal.returns
returns c = record { found = has_text; only = finds }
