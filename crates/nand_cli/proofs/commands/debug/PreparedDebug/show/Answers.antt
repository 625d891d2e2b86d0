use Rattle.jack_debug.specs.Walk.{point_in}
use Rattle.nand_cli.proofs.Debugging.{driven}
use Rattle.nand_cli.proofs.Stopping.{some_there}
use Rattle.nand_cli.proofs.commands.debug.PreparedDebug.show.Goals as goal

pub show_stop-requires : goal.show_stop-requires
show_stop-requires g c = λ found.
    let places = c.args.self.now.places in
    let request = c.args.request.now in
    some_there places request.sub.now request.number (point_in places.ranges c.go_to-found.new.computer.tally.at) (c.go_to-found.ensures.here found)

pub returns-clause-reports : goal.returns-clause-reports
returns-clause-reports g c = driven c.args.self.now c.args.request.now.sub.now c.args.request.now.number c.args.request.now.cycles c.go_to-found.result c.go_to-found.new.computer (g.O.Sink.state c.args.out.now) (g.O.Sink.state c.show_stop.new.out) c.show_stop.result c.go_to-found.ensures c.show_stop.ensures.reports
