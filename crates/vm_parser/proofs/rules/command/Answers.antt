use Rattle.std.proofs.Common.{sym, ap, ◌∙◌}
use Rattle.std.proofs.lemmas.Result.{err_from_is_err_and}
use Rattle.grammar.specs.Rules.{left}
use Rattle.grammar.specs.Reading.{fault}
use Rattle.grammar.proofs.Exits.{halt_left}
use Rattle.vm_parser.specs.Grammar.{operation_role}
use Rattle.vm_parser.specs.Inner.Reading.{begins_command}
use Rattle.vm_parser.proofs.Commands.{operation_entered, push_read, push_halt, pop_read, pop_halt, label_read, label_halt, goto_read, goto_halt, if_goto_read, if_goto_halt, call_read, call_halt, return_read, return_halt, no_role, no_command}
use Rattle.vm_parser.proofs.rules.command.Goals as goal

pub returns-in_err-operation-in-Operation : goal.returns-in_err-operation-in-Operation
returns-in_err-operation-in-Operation c =
    let p = err_from_is_err_and c.from_residual.result c.from_residual.ensures.1 in
    rw (p.1, p.2) (halt_left (operation_entered c.args.end _ (ap operation_role (sym c.role_next.ensures ∙ c.in-Operation.is))) c.in_err-operation-in-Operation.ensures)

pub returns-in_err-segment-in-Push : goal.returns-in_err-segment-in-Push
returns-in_err-segment-in-Push c =
    let p = err_from_is_err_and c.from_residual-in_err-segment-in-Push.result c.from_residual-in_err-segment-in-Push.ensures.1 in
    rw (p.1, p.2) (push_halt _ _ (sym c.role_next.ensures ∙ c.in-Push.is) c.in_err-segment-in-Push.ensures)

pub returns-in_err-segment-in-Pop : goal.returns-in_err-segment-in-Pop
returns-in_err-segment-in-Pop c =
    let p = err_from_is_err_and c.from_residual-in_err-segment-in-Pop.result c.from_residual-in_err-segment-in-Pop.ensures.1 in
    rw (p.1, p.2) (pop_halt _ _ (sym c.role_next.ensures ∙ c.in-Pop.is) c.in_err-segment-in-Pop.ensures)

pub returns-in_err-label-in-Label : goal.returns-in_err-label-in-Label
returns-in_err-label-in-Label c =
    let p = err_from_is_err_and c.from_residual-in_err-label-in-Label.result c.from_residual-in_err-label-in-Label.ensures.1 in
    rw (p.1, p.2) (label_halt _ _ (sym c.role_next.ensures ∙ c.in-Label.is) c.in_err-label-in-Label.ensures)

pub returns-in_err-label-in-Goto : goal.returns-in_err-label-in-Goto
returns-in_err-label-in-Goto c =
    let p = err_from_is_err_and c.from_residual-in_err-label-in-Goto.result c.from_residual-in_err-label-in-Goto.ensures.1 in
    rw (p.1, p.2) (goto_halt _ _ (sym c.role_next.ensures ∙ c.in-Goto.is) c.in_err-label-in-Goto.ensures)

pub returns-in_err-label-in-IfGoto : goal.returns-in_err-label-in-IfGoto
returns-in_err-label-in-IfGoto c =
    let p = err_from_is_err_and c.from_residual-in_err-label-in-IfGoto.result c.from_residual-in_err-label-in-IfGoto.ensures.1 in
    rw (p.1, p.2) (if_goto_halt _ _ (sym c.role_next.ensures ∙ c.in-IfGoto.is) c.in_err-label-in-IfGoto.ensures)

pub returns-in_err-function-in-Call : goal.returns-in_err-function-in-Call
returns-in_err-function-in-Call c =
    let p = err_from_is_err_and c.from_residual-in_err-function-in-Call.result c.from_residual-in_err-function-in-Call.ensures.1 in
    rw (p.1, p.2) (call_halt _ _ (sym c.role_next.ensures ∙ c.in-Call.is) c.in_err-function-in-Call.ensures)

pub returns-in_err-keyword-in-Return : goal.returns-in_err-keyword-in-Return
returns-in_err-keyword-in-Return c =
    let p = err_from_is_err_and c.from_residual-in_err-keyword-in-Return.result c.from_residual-in_err-keyword-in-Return.ensures.1 in
    rw (p.1, p.2) (return_halt _ _ (sym c.role_next.ensures ∙ c.in-Return.is) c.in_err-keyword-in-Return.ensures)

pub returns-in_ok-operation-in-Operation : goal.returns-in_ok-operation-in-Operation
returns-in_ok-operation-in-Operation c = left (operation_entered c.args.end _ (ap operation_role (sym c.role_next.ensures ∙ c.in-Operation.is))) c.in_ok-operation-in-Operation.ensures

pub returns-in_ok-segment-in-Push : goal.returns-in_ok-segment-in-Push
returns-in_ok-segment-in-Push c = push_read _ _ (sym c.role_next.ensures ∙ c.in-Push.is) c.in_ok-segment-in-Push.ensures

pub returns-in_ok-segment-in-Pop : goal.returns-in_ok-segment-in-Pop
returns-in_ok-segment-in-Pop c = pop_read _ _ (sym c.role_next.ensures ∙ c.in-Pop.is) c.in_ok-segment-in-Pop.ensures

pub returns-in_ok-label-in-Label : goal.returns-in_ok-label-in-Label
returns-in_ok-label-in-Label c = label_read _ _ (sym c.role_next.ensures ∙ c.in-Label.is) c.in_ok-label-in-Label.ensures

pub returns-in_ok-label-in-Goto : goal.returns-in_ok-label-in-Goto
returns-in_ok-label-in-Goto c = goto_read _ _ (sym c.role_next.ensures ∙ c.in-Goto.is) c.in_ok-label-in-Goto.ensures

pub returns-in_ok-label-in-IfGoto : goal.returns-in_ok-label-in-IfGoto
returns-in_ok-label-in-IfGoto c = if_goto_read _ _ (sym c.role_next.ensures ∙ c.in-IfGoto.is) c.in_ok-label-in-IfGoto.ensures

pub returns-in_ok-function-in-Call : goal.returns-in_ok-function-in-Call
returns-in_ok-function-in-Call c = call_read _ _ (sym c.role_next.ensures ∙ c.in-Call.is) c.in_ok-function-in-Call.ensures

pub returns-in_ok-keyword-in-Return : goal.returns-in_ok-keyword-in-Return
returns-in_ok-keyword-in-Return c = return_read _ _ (sym c.role_next.ensures ∙ c.in-Return.is) c.in_ok-keyword-in-Return.ensures

pub returns-in-Function : goal.returns-in-Function
returns-in-Function c = rw (c.grammar_fault.ensures, c.place_next.ensures) (fault (no_command c.args.end _ (ap begins_command (sym c.role_next.ensures) ∙ no_role c.role_next.result c.in-Function.is)))
