use Rattle.jack_debug.specs.Text.{view_text}
use Rattle.nand_cli.specs.Commands.Debug.{stop_text}
use Rattle.nand_cli.proofs.Putting.{puts_cut, puts_then}
use Rattle.nand_cli.proofs.commands.debug.print_found.Goals as goal

pub returns-in-Done : goal.returns-in-Done
returns-in-Done g c =
    let at = c.args.at.now in
    record {
      put = rw (← c.moves.ensures, ← c.steps.ensures)
          (puts_then (g.O.Sink.state c.args.out.now) (g.O.Sink.state c.print_stop.new.out) (g.O.Sink.state c.print_view.new.out) (stop_text at.sub.now at.number c.moves.result c.steps.result) (view_text c.args.view.now) _ c.in-Done.ensures.put c.print_view.ensures.put);
    }

pub returns-in-Failed : goal.returns-in-Failed
returns-in-Failed g c =
    let at = c.args.at.now in
    record { put = rw (← c.moves.ensures, ← c.steps.ensures) (puts_cut (g.O.Sink.state c.args.out.now) (g.O.Sink.state c.print_stop.new.out) (stop_text at.sub.now at.number c.moves.result c.steps.result) (view_text c.args.view.now) c.in-Failed.ensures.put) }
