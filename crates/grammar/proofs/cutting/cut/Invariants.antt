use Rattle.std.proofs.Common.{◌≡◌, length, None, map}
use Rattle.scan_text.specs.declared.Blank.TheVariants.{Other}
use Rattle.scan_text.specs.Text.{start, walk}
use Rattle.scan_text.specs.View.{left_bytes}
use Rattle.scan_text.specs.Blanks.{blank}
use Rattle.grammar.specs.Cutting.{cut, past_blanks, closes_with_nothing}
use Rattle.grammar.proofs.Cuts.{Cuts}
use Rattle.grammar.proofs.cutting.cut.Given as goal

abbrev pub invariant-loop-byte : goal.invariant-loop-byte
invariant-loop-byte g l = record {
  so_far : Cuts (past_blanks g.C.Cutter.piece) closes_with_nothing (map g.C.Cutter.view l.tokens.items) l.scan (cut (past_blanks g.C.Cutter.piece) closes_with_nothing None 0 start l.text) (walk start l.text);
  no_blank : blank (left_bytes l.scan) ≡ Other;
}

abbrev pub decreases-loop-byte : goal.decreases-loop-byte
decreases-loop-byte g l = length (left_bytes l.scan)
