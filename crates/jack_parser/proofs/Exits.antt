use Rattle.std.proofs.Common.{◌≡◌, List}
use Rattle.scan_text.specs.declared.Place.{Place}
use Rattle.grammar.specs.declared.ReadError.{ReadError}
use Rattle.grammar.specs.Rules.{name, Stops, in_name}
use Rattle.grammar.specs.Reading.{Halt}
use Rattle.grammar.proofs.Steps.{halt}
use Rattle.grammar.proofs.Exits.{exits}
use Rattle.jack_parser.specs.declared.counts.Counts.{Counts}
use Rattle.jack_parser.specs.declared.words.Start.TheVariants as starts
use Rattle.jack_tree.specs.Tokens.{Word}
use Rattle.jack_parser.specs.Inner.Starts.{start_of}
use Rattle.jack_parser.specs.Grammar.{jack, Part, Said, term, group, negation, variable, constant, expression, rule_of}
use Rattle.jack_parser.proofs.StatementRules.{let_read, let_halts, if_read, if_halts, while_read, while_halts, do_read, do_halts, return_read, return_halts}
use Rattle.jack_parser.proofs.Terms.{group_term, group_stops, negation_term, negation_stops, variable_term, variable_stops, constant_term, constant_stops}

pub halt_group : {end : Place} {s : Counts} {ts : List Word} {e : ReadError} → start_of ts ≡ starts.Group → Halt (Stops Word Counts Part Said (jack end) s group ts) e → Halt (Stops Word Counts Part Said (jack end) s (name term) ts) e
halt_group b h = halt (λ f p. group_stops b p) h

pub halt_negation : {end : Place} {s : Counts} {ts : List Word} {e : ReadError} → start_of ts ≡ starts.Negation → Halt (Stops Word Counts Part Said (jack end) s negation ts) e → Halt (Stops Word Counts Part Said (jack end) s (name term) ts) e
halt_negation b h = halt (λ f p. negation_stops b p) h

pub halt_variable : {end : Place} {s : Counts} {ts : List Word} {e : ReadError} → start_of ts ≡ starts.Name → Halt (Stops Word Counts Part Said (jack end) s variable ts) e → Halt (Stops Word Counts Part Said (jack end) s (name term) ts) e
halt_variable b h = halt (λ f p. variable_stops b p) h

pub halt_constant : {end : Place} {s : Counts} {ts : List Word} {e : ReadError} → start_of ts ≡ starts.Constant → Halt (Stops Word Counts Part Said (jack end) s constant ts) e → Halt (Stops Word Counts Part Said (jack end) s (name term) ts) e
halt_constant b h = halt (λ f p. constant_stops b p) h

pub halt_expression : {end : Place} {s : Counts} {ts : List Word} {e : ReadError} → Halt (Stops Word Counts Part Said (jack end) s (rule_of expression) ts) e → Halt (Stops Word Counts Part Said (jack end) s (name expression) ts) e
halt_expression h = halt (λ f p. in_name p) h

pub ruleset jack_exits = (exits, halt_group, group_term, halt_negation, negation_term, halt_variable, variable_term, halt_constant, constant_term, halt_expression)

pub ruleset statement_exits = (exits, let_read, let_halts, if_read, if_halts, while_read, while_halts, do_read, do_halts, return_read, return_halts)

pub ruleset part_exits = (exits)
