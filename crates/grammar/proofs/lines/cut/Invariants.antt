use Rattle.std.proofs.Common.{length, None, map}
use Rattle.scan_text.specs.Text.{start, walk}
use Rattle.scan_text.specs.View.{left_bytes}
use Rattle.grammar.specs.Cutting.{cut}
use Rattle.grammar.specs.Lines.{close}
use Rattle.grammar.proofs.Cuts.{Cuts}
use Rattle.grammar.proofs.lines.cut.Given as goal

abbrev pub invariant-loop-byte : goal.invariant-loop-byte
invariant-loop-byte g l =
    let piece = g.T.LineToken.piece in
    let closes = close g.T.LineToken.line_end_token g.T.LineToken.ends in
    Cuts piece closes (map g.T.LineToken.view l.tokens.items) l.scan (cut piece closes None 0 start l.text) (walk start l.text)

abbrev pub decreases-loop-byte : goal.decreases-loop-byte
decreases-loop-byte g l = length (left_bytes l.scan)
