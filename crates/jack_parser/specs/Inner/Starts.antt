-- The kinds of terms and statements, by their first token.
use Rattle.std.specs.Prelude.{◌≡◌, true, false, List, [], ◌∷◌, if◌then◌else◌, ◌==◌, ◌||◌}
use Rattle.jack_tree.specs.declared.token.Kind.{Kind}
use Rattle.jack_tree.specs.declared.token.Kind.TheVariants as kind
use Rattle.jack_tree.specs.Tokens.{Word}
use Rattle.grammar.specs.Rules.{next}
use Rattle.jack_tree.specs.declared.token.Keyword.TheVariants as keyword
use Rattle.jack_parser.specs.Grammar.{is_value, is_keyword}
use Rattle.jack_parser.specs.declared.words.Start.{Start}
use Rattle.jack_parser.specs.declared.words.Start.TheVariants as starts

abbrev pub start_by : Kind → Start
start_by (kind.Keyword k) = if is_value k then starts.Constant else starts.Other
start_by (kind.Symbol b) = if b == 40 then starts.Group else (if b == 45 || b == 126 || b == 94 || b == 35 then starts.Negation else starts.Other)
start_by (kind.Integer n) = starts.Constant
start_by kind.Text = starts.Constant
start_by kind.Identifier = starts.Name

abbrev pub start_of : List Word → Start
start_of [] = starts.Other
start_of (t ∷ ts) = start_by t.kind

-- which statement begins, by its first token
abbrev pub Lets : List Word → Type 0
Lets ts = next (is_keyword keyword.Let) ts ≡ true

abbrev pub Ifs : List Word → Type 0
Ifs ts = (next (is_keyword keyword.Let) ts ≡ false) × (next (is_keyword keyword.If) ts ≡ true)

abbrev pub Whiles : List Word → Type 0
Whiles ts = (next (is_keyword keyword.Let) ts ≡ false) × (next (is_keyword keyword.If) ts ≡ false) × (next (is_keyword keyword.While) ts ≡ true)

abbrev pub Does : List Word → Type 0
Does ts = (next (is_keyword keyword.Let) ts ≡ false) × (next (is_keyword keyword.If) ts ≡ false) × (next (is_keyword keyword.While) ts ≡ false) × (next (is_keyword keyword.Do) ts ≡ true)

abbrev pub Returns : List Word → Type 0
Returns ts = (next (is_keyword keyword.Let) ts ≡ false) × (next (is_keyword keyword.If) ts ≡ false) × (next (is_keyword keyword.While) ts ≡ false) × (next (is_keyword keyword.Do) ts ≡ false) × (next (is_keyword keyword.Return) ts ≡ true)
