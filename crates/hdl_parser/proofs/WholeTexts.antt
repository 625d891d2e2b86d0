-- From the tokens of a text to the text.
use Rattle.std.proofs.Common.{◌≡◌, ℕ, List, Ok, Result, subst}
use Rattle.std.specs.Prelude.{IfOk, IfErr}
use Rattle.scan_text.specs.declared.Place.{Place}
use Rattle.grammar.specs.declared.ReadError.{ReadError}
use Rattle.grammar.specs.Reading.{Halt, ParsesAll}
use Rattle.grammar.proofs.Wholes.{all_spelled, all_refused}
use Rattle.hdl_tree.specs.declared.tree.Chip.{Chip}
use Rattle.hdl_parser.specs.Tokens.{Word, tokens_of, finish}
use Rattle.hdl_parser.specs.Grammar.{hdl, whole}
use Rattle.hdl_parser.specs.Spells.{whole_tree, Spells, Refuses}

-- the tokens of the text, and the place where it ends
module _ (text : List ℕ) (ts us : List Word) (at : Place) (cut : tokens_of text ≡ Ok us) (same : ts ≡ us) (ends : at ≡ finish text) (r : Result Chip ReadError) (h : ParsesAll (hdl at) whole whole_tree (λ _. 0) 0 ts r) where
  here : ParsesAll (hdl (finish text)) whole whole_tree (λ _. 0) 0 ts r
  here = subst (λ (p : Place). ParsesAll (hdl p) whole whole_tree (λ _. 0) 0 ts r) ends h

  pub found_in : IfOk r (Spells text)
  found_in = all_spelled (hdl (finish text)) whole 0 (tokens_of text) whole_tree (λ _. 0) ts us r cut same here

  pub fault_in : IfErr r (Halt (Refuses text))
  fault_in = all_refused (hdl (finish text)) whole 0 (tokens_of text) whole_tree (λ _. 0) ts us r cut same here
