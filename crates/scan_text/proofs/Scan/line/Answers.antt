use Rattle.std.proofs.Common.{◌∙◌, ap, take}
use Rattle.scan_text.specs.Text.{walk}
use Rattle.scan_text.proofs.Gone.{take_line}
use Rattle.scan_text.proofs.Scan.line.Goals as goal

pub returns-clause-text : goal.returns-clause-text
returns-clause-text c = c.skip.ensures.text ∙ ap (λ n. take n c.args.self.now.rest.now) c.line_len-n.ensures.value ∙ take_line c.args.self.now.rest.now

pub returns-clause-place : goal.returns-clause-place
returns-clause-place c = c.skip.ensures.place ∙ ap (λ n. walk c.args.self.now.place (take n c.args.self.now.rest.now)) c.line_len-n.ensures.value ∙ ap (walk c.args.self.now.place) (take_line c.args.self.now.rest.now)
