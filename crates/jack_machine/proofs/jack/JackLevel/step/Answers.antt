-- The step is one more turn, and its answer is that of the meaning.
use Rattle.jack_machine.proofs.Tops.{if_ok, if_err}
use Rattle.jack_machine.proofs.Histories.{stands_on}
use Rattle.jack_machine.proofs.Replies.{replies, same_reply, again}
use Rattle.jack_machine.proofs.jack.JackLevel.step.Goals as goal

pub returns-clause-stands : goal.returns-clause-stands
returns-clause-stands c =
    if_ok c.make_step.result (λ answer h. stands_on c.args.key c.args.self.now c.make_step.new.self answer h c.make_step.ensures.core) c.make_step.ensures.step

pub returns-clause-replies : goal.returns-clause-replies
returns-clause-replies c =
    if_ok c.make_step.result (λ answer h. replies c.args.key c.args.self.now c.make_step.new.self answer h) c.make_step.ensures.step

pub returns-clause-again : goal.returns-clause-again
returns-clause-again c =
    if_ok c.make_step.result (λ answer h. again c.args.key c.args.self.now c.make_step.new.self answer c.make_step.ensures.core h) c.make_step.ensures.step

pub returns-clause-refused_again : goal.returns-clause-refused_again
returns-clause-refused_again c =
    if_err c.make_step.result (λ same. same_reply c.args.self.now c.make_step.new.self c.make_step.ensures.core same) c.make_step.ensures.refused
