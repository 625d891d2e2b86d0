-- The branch comes before what follows; a turn of a loop comes before the loop.
use Rattle.std.proofs.Common.{if◌then◌else◌, sym, ap, ◌∙◌}
use Rattle.std.specs.Prelude.{nat_eq}
use Rattle.jack_meaning.specs.Text.{Next, joined_text}
use Rattle.jack_meaning.specs.Meaning.{text_chosen}
use Rattle.jack_core.specs.Texts.{the_block, the_statement}
use Rattle.jack_machine.specs.Texts.{the_after, written_statement, chosen_text}
use Rattle.jack_machine.proofs.Following.{branch_is, if_written, loop_written}
use Rattle.jack_machine.proofs.texts.choose.Goals as goal

pub returns-in-If-clause-done : goal.returns-in-If-clause-done
returns-in-If-clause-done c es =
    let w = c.args.w in
    let holds = c.in-If.holds in
    let fails = c.in-If.fails in
    let kept = the_after c.reserve.new.self.items in
    c.push_block.ensures
    ∙ ap (λ l. joined_text (the_block l) kept) (c.branch_of.ensures ∙ ap (λ l. if nat_eq w 0 then l else c.deref.result.now) c.deref-in-If.ensures.value ∙ ap (λ l. if nat_eq w 0 then fails.items else l) c.deref.ensures.value)
    ∙ ap (λ t. joined_text t kept) (branch_is w holds.items fails.items)
    ∙ ap (λ l. joined_text (text_chosen w (the_block holds.items) (the_block fails.items)) (the_after l)) c.reserve.ensures.items
    ∙ sym (if_written c.in-If.number c.in-If.has_else c.in-If.condition holds fails es w (the_after c.args.after.now.items))
    ∙ ap (λ t. chosen_text w (Next (written_statement t es) (the_after c.args.after.now.items))) (sym c.in-If.is)

pub returns-then-w-ne0-clause-done : goal.returns-then-w-ne0-clause-done
returns-then-w-ne0-clause-done c es =
    let w = c.args.w in
    let body = c.in-While.body in
    let rest = the_after c.args.after.now.items in
    c.push_block-then-w-ne0.ensures
    ∙ ap (λ l. joined_text (the_block l) (the_after c.push_loop.new.after.items)) c.deref-then-w-ne0.ensures.value
    ∙ ap (joined_text (the_block body.items)) c.push_loop.ensures.text
    ∙ ap (λ l. joined_text (the_block body.items) (Next (the_statement c.args.choice.now) (the_after l))) c.reserve.ensures.items
    ∙ ap (λ t. joined_text (the_block body.items) (Next (the_statement t) rest)) c.in-While.is
    ∙ sym (loop_written c.in-While.number c.in-While.condition body es w rest c.if-w-ne0.true)
    ∙ ap (λ t. chosen_text w (Next (written_statement t es) rest)) (sym c.in-While.is)
