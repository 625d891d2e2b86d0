use Rattle.hdl_loops.specs.declared.doors.Doors.{Doors}
use Rattle.hdl_loops.proofs.Dooring.{door_kept, door_there}
use Rattle.hdl_loops.proofs.doors.Doors.add.Goals as goal

pub returns-clause-kept : goal.returns-clause-kept
returns-clause-kept c =
    let new : Doors = record { leaving = c.add.new.self; doors = c.push.new.self } in
    door_kept c.args.graph.now c.args.self.now new c.args.g c.args.j c.args.net c.requires.right c.requires.there c.in_ok-add.ensures c.in_ok-push.ensures.items

pub returns-clause-there : goal.returns-clause-there
returns-clause-there c =
    let new : Doors = record { leaving = c.add.new.self; doors = c.push.new.self } in
    door_there c.args.graph.now c.args.self.now new c.args.g c.args.j c.args.net c.requires.right c.requires.there c.in_ok-add.ensures c.in_ok-push.ensures.items
