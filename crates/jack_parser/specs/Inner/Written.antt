-- What a part of the printer of classes puts.
use Rattle.scan_text.specs.Text.{start}
use Rattle.outer_world.specs.declared.pieces.Pieces.{Pieces}
use Rattle.outer_world.specs.declared.sink.Put.{Put}
use Rattle.outer_world.specs.declared.sink.Sink.{Ghosts}
use Rattle.grammar.specs.Printed as printed
use Rattle.grammar.specs.Rules.{Tree}
use Rattle.jack_parser.specs.Grammar.{jack, JackRule, Said}
use Rattle.jack_parser.specs.Printed.{said_text}

-- The printed form of a tree was put, by the rule that it is of.
abbrev pub Shows : {S : Type 0} {told : Ghosts S} → Tree Said → JackRule → Put → Pieces S told → Put → Pieces S told → Type 0
Shows x rule status before answer after = printed.Shows (jack start) said_text x rule status before answer after
