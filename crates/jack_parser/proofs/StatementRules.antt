-- The first token of a statement says which rule is entered.
use Rattle.std.proofs.Common.{List, refl}
use Rattle.scan_text.specs.declared.Place.{Place}
use Rattle.grammar.specs.declared.ReadError.{ReadError}
use Rattle.grammar.specs.Rules.{Tree, Left, Right, Reads, left, Stops}
use Rattle.grammar.specs.Reading.{Halt}
use Rattle.grammar.proofs.Exits.{halt_left}
use Rattle.grammar.proofs.Entered.{skip, halt_skip}
use Rattle.jack_tree.specs.Tokens.{Word}
use Rattle.jack_parser.specs.declared.counts.Counts.{Counts}
use Rattle.jack_parser.specs.Inner.Starts.{Lets, Ifs, Whiles, Does, Returns}
use Rattle.jack_parser.specs.Grammar.{jack, Part, Said, JackRule, any_statement, let_rule, if_rule, while_rule, do_rule, return_rule}

abbrev R : Place → Counts → JackRule → List Word → Tree Said → Counts → List Word → Type 0
R end s r ts x s' us = Reads Word Counts Part Said (jack end) s r ts x s' us

abbrev H : Place → Counts → JackRule → List Word → ReadError → Type 0
H end s r ts e = Halt (Stops Word Counts Part Said (jack end) s r ts) e

module _ {end : Place} {s : Counts} {ts : List Word} where
  pub let_read : {s' : Counts} {us : List Word} {x : Tree Said} → Lets ts → R end s let_rule ts x s' us → R end s any_statement ts (Left x) s' us
  let_read h p = left h p

  pub let_halts : {e : ReadError} → Lets ts → H end s let_rule ts e → H end s any_statement ts e
  let_halts h p = halt_left h p

  pub if_read : {s' : Counts} {us : List Word} {x : Tree Said} → Ifs ts → R end s if_rule ts x s' us → R end s any_statement ts (Right (Left x)) s' us
  if_read h p = skip h.0 refl (left h.1 p)

  pub if_halts : {e : ReadError} → Ifs ts → H end s if_rule ts e → H end s any_statement ts e
  if_halts h p = halt_skip h.0 refl (halt_left h.1 p)

  pub while_read : {s' : Counts} {us : List Word} {x : Tree Said} → Whiles ts → R end s while_rule ts x s' us → R end s any_statement ts (Right (Right (Left x))) s' us
  while_read h p = skip h.0 refl (skip h.1 refl (left h.2 p))

  pub while_halts : {e : ReadError} → Whiles ts → H end s while_rule ts e → H end s any_statement ts e
  while_halts h p = halt_skip h.0 refl (halt_skip h.1 refl (halt_left h.2 p))

  pub do_read : {s' : Counts} {us : List Word} {x : Tree Said} → Does ts → R end s do_rule ts x s' us → R end s any_statement ts (Right (Right (Right (Left x)))) s' us
  do_read h p = skip h.0 refl (skip h.1 refl (skip h.2 refl (left h.3 p)))

  pub do_halts : {e : ReadError} → Does ts → H end s do_rule ts e → H end s any_statement ts e
  do_halts h p = halt_skip h.0 refl (halt_skip h.1 refl (halt_skip h.2 refl (halt_left h.3 p)))

  pub return_read : {s' : Counts} {us : List Word} {x : Tree Said} → Returns ts → R end s return_rule ts x s' us → R end s any_statement ts (Right (Right (Right (Right x)))) s' us
  return_read h p = skip h.0 refl (skip h.1 refl (skip h.2 refl (skip h.3 refl p)))

  pub return_halts : {e : ReadError} → Returns ts → H end s return_rule ts e → H end s any_statement ts e
  return_halts h p = halt_skip h.0 refl (halt_skip h.1 refl (halt_skip h.2 refl (halt_skip h.3 refl p)))
