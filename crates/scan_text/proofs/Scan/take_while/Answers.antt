use Rattle.std.proofs.Common.{◌∙◌, ap, take, drop}
use Rattle.scan_text.specs.Text.{walk}
use Rattle.scan_text.proofs.Texts.{take_front, drop_front}
use Rattle.scan_text.proofs.Scan.take_while.Goals as goal

pub returns-clause-text : goal.returns-clause-text
returns-clause-text g c test h = c.skip.ensures.text ∙ ap (λ n. take n c.args.self.now.rest.now) (c.run_len-n.ensures.longest test h) ∙ take_front test c.args.self.now.rest.now

pub returns-clause-left : goal.returns-clause-left
returns-clause-left g c test h = c.skip.ensures.left ∙ ap (λ n. drop n c.args.self.now.rest.now) (c.run_len-n.ensures.longest test h) ∙ drop_front test c.args.self.now.rest.now

pub returns-clause-place : goal.returns-clause-place
returns-clause-place g c test h = c.skip.ensures.place ∙ ap (λ n. walk c.args.self.now.place (take n c.args.self.now.rest.now)) (c.run_len-n.ensures.longest test h) ∙ ap (walk c.args.self.now.place) (take_front test c.args.self.now.rest.now)
