-- From the tokens of a text to the text.
use Rattle.std.proofs.Common.{◌≡◌, ℕ, List, [], Ok, sym, ap, subst, ◌∙◌}
use Rattle.scan_text.specs.declared.Place.{Place}
use Rattle.grammar.specs.declared.ReadError.{ReadError}
use Rattle.grammar.specs.Rules.{Tree, Reads, Stops}
use Rattle.grammar.specs.Reading.{Halt}
use Rattle.grammar.proofs.Wholes.{not_read}
use Rattle.jack_tree.specs.Tokens.{Word}
use Rattle.jack_lexer.specs.Tokens.{tokens_of, finish}
use Rattle.jack_parser.specs.declared.counts.Counts.{Counts}
use Rattle.jack_parser.specs.Grammar.{jack, Part, Said, fresh, whole}
use Rattle.jack_parser.specs.Spells.{Spells, Refuses}

-- the tokens of the text, and the place where it ends
module _ (text : List ℕ) (ts us : List Word) (at : Place) (cut : tokens_of text ≡ Ok us) (same : ts ≡ us) (ends : at ≡ finish text) where
  pub spelled_by : {x : Tree Said} {s : Counts} → Reads Word Counts Part Said (jack at) (fresh 0) whole ts x s [] → Spells text x
  spelled_by {x} {s} h = (ts, s, cut ∙ ap Ok (sym same), subst (λ (p : Place). Reads Word Counts Part Said (jack p) (fresh 0) whole ts x s []) ends h)

  pub refused_by : {e : ReadError} → Halt (Stops Word Counts Part Said (jack at) (fresh 0) whole ts) e → Halt (Refuses text) e
  refused_by {e} h = not_read (jack (finish text)) whole (fresh 0) (tokens_of text) ts e (cut ∙ ap Ok (sym same)) (subst (λ (p : Place). Halt (Stops Word Counts Part Said (jack p) (fresh 0) whole ts) e) ends h)
