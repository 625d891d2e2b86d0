use Rattle.std.proofs.Common.{rules, ◌∙◌, sym, ap}
use Rattle.scan_text.specs.declared.Blank.TheVariants.{Over}
use Rattle.scan_text.specs.Blanks.{in_line}
use Rattle.scan_text.proofs.Gone.{line_comment}
use Rattle.scan_text.proofs.comment_at.Goals as goal

pub returns-then-byte-eq47-clause-value : goal.returns-then-byte-eq47-clause-value
returns-then-byte-eq47-clause-value c = ap Over (c.run_len.ensures.longest in_line (λ b r lt h. search (rules, h))) ∙ sym (line_comment _ _ _ c.in-Some.ensures.cases.0 c.if-byte-eq47.true)
