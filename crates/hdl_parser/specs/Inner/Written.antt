-- What a part of the printer of chips puts.
use Rattle.scan_text.specs.Text.{start}
use Rattle.outer_world.specs.declared.pieces.Pieces.{Pieces}
use Rattle.outer_world.specs.declared.sink.Put.{Put}
use Rattle.outer_world.specs.declared.sink.Sink.{Ghosts}
use Rattle.grammar.specs.Printed as printed
use Rattle.grammar.specs.Rules.{Tree}
use Rattle.hdl_parser.specs.Grammar.{hdl, HdlRule, Said}
use Rattle.hdl_parser.specs.Printed.{said_text}

-- The printed form of a tree was put, by the rule that it is of.
abbrev pub Shows : {S : Type 0} {told : Ghosts S} → Tree Said → HdlRule → Put → Pieces S told → Put → Pieces S told → Type 0
Shows x rule status before answer after = printed.Shows (hdl start) said_text x rule status before answer after
