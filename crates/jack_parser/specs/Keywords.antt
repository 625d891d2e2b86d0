-- The two lists of keywords, by keyword and by text, are one (book, chapter 10, figure 10.5).
use Rattle.std.specs.Prelude.{◌≡◌, ℕ, List, Some}
use Rattle.jack_tree.specs.declared.token.Keyword.{Keyword}
use Rattle.jack_tree.specs.Tokens.{keyword_text, keyword_of}

pub record KeywordLaw : Type 0 where
  -- each keyword is found by its text
  pub found : (k : Keyword) → keyword_of (keyword_text k) ≡ Some k
  -- and by no other
  pub only : (text : List ℕ) (k : Keyword) → keyword_of text ≡ Some k → text ≡ keyword_text k
