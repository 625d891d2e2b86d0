use Rattle.std.proofs.lemmas.Result.{err_from_is_err_and}
use Rattle.grammar.specs.Rules.{both}
use Rattle.grammar.proofs.Exits.{halt_first, halt_second}
use Rattle.script_parser.proofs.Blocks.{list_is}
use Rattle.script_parser.proofs.reading.all.Goals as goal

pub returns-in_err-commands : goal.returns-in_err-commands
returns-in_err-commands c =
    let p = err_from_is_err_and c.from_residual.result c.from_residual.ensures.1 in
    rw (p.1, p.2) (halt_first (rw c.outermost.ensures at c.in_err-commands.ensures.reads))

pub returns-in_err-finish : goal.returns-in_err-finish
returns-in_err-finish c =
    let p = err_from_is_err_and c.from_residual-in_err-finish.result c.from_residual-in_err-finish.ensures.1 in
    rw (p.1, p.2) (halt_second (rw c.outermost.ensures at c.in_ok-commands.ensures.reads) c.in_err-finish.ensures)

pub returns : goal.returns
returns c = rw (← list_is c.in_ok-commands.commands.items) (both (rw c.outermost.ensures at c.in_ok-commands.ensures.reads) c.in_ok-finish.ensures)
