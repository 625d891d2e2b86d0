use Rattle.std.proofs.Common.{sym, ap, ◌∙◌, Some}
use Rattle.scan_text.specs.Text.{first}
use Rattle.grammar.proofs.LinePieces.{comment_passed}
use Rattle.grammar.proofs.lines.comment.Goals as goal

pub returns-in-Some-eq47 : goal.returns-in-Some-eq47
returns-in-Some-eq47 g c =
    comment_passed _ _ _ c.requires (ap first (sym c.skip.ensures.left) ∙ sym c.in-Some-eq47.ensures ∙ ap Some c.in-Some-eq47.field-0-test) c.line.ensures.left c.line.ensures.place
