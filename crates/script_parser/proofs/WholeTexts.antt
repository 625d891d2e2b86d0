-- From the tokens of a text to the text, and what a text spells at most.
use Rattle.std.proofs.Common.{◌≡◌, ℕ, List, Ok, Result, subst, Vec, Global}
use Rattle.std.specs.Prelude.{IfOk, IfErr}
use Rattle.scan_text.specs.declared.Place.{Place}
use Rattle.grammar.specs.declared.Fault.{Fault}
use Rattle.grammar.specs.declared.ReadError.{ReadError}
use Rattle.grammar.specs.Texts.{OneReading}
use Rattle.grammar.specs.Reading.{Halt, ParsesAll}
use Rattle.grammar.proofs.Wholes.{all_spelled, all_refused, one_tree, not_both, first_fault}
use Rattle.script_parser.specs.declared.tree.Command.{Command}
use Rattle.script_parser.specs.Tokens.{Word, tokens_of, finish}
use Rattle.script_parser.specs.Grammar.{script, whole, outermost}
use Rattle.script_parser.specs.Trees.{Commands, commands_of, whole_tree, Spells, Refuses}
use Rattle.script_parser.proofs.Apart.{apart}

-- the tokens of the text, and the place where it ends
module _ (text : List ℕ) (ts us : List Word) (at : Place) (cut : tokens_of text ≡ Ok us) (same : ts ≡ us) (ends : at ≡ finish text) (r : Result (Vec Command Global) ReadError) (h : ParsesAll (script at) whole (λ v. whole_tree (commands_of v.items)) (λ _. outermost) outermost ts r) where
  here : ParsesAll (script (finish text)) whole (λ v. whole_tree (commands_of v.items)) (λ _. outermost) outermost ts r
  here = subst (λ (p : Place). ParsesAll (script p) whole (λ v. whole_tree (commands_of v.items)) (λ _. outermost) outermost ts r) ends h

  pub found_in : IfOk r (λ v. Spells text (commands_of v.items))
  found_in = all_spelled (script (finish text)) whole outermost (tokens_of text) (λ v. whole_tree (commands_of v.items)) (λ _. outermost) ts us r cut same here

  pub fault_in : IfErr r (Halt (Refuses text))
  fault_in = all_refused (script (finish text)) whole outermost (tokens_of text) (λ v. whole_tree (commands_of v.items)) (λ _. outermost) ts us r cut same here

module _ (text : List ℕ) where
  pub one_script : (c d : Commands) → Spells text c → Spells text d → c ≡ d
  one_script c d p q = apart c d (one_tree (script (finish text)) whole outermost (tokens_of text) (whole_tree c) (whole_tree d) p q)

  pub no_fault : (c : Commands) (f : Fault) → Spells text c → Refuses text f → ⊥
  no_fault c f p q = not_both (script (finish text)) whole outermost (tokens_of text) (whole_tree c) f p q

  pub one_fault : (f h : Fault) → Refuses text f → Refuses text h → f ≡ h
  one_fault = first_fault (script (finish text)) whole outermost (tokens_of text)

  pub one_reading : OneReading Commands (Spells text) (Refuses text)
  one_reading = record { one = one_script; one_fault = one_fault; not_both = no_fault }
