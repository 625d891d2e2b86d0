use Rattle.std.proofs.Common.{length, refl}
use Rattle.jack_core.specs.Texts.{names_of}
use Rattle.machine_io.proofs.Handed.{handed_as, handed_more, put_failed, put_finished, two_cut}
use Rattle.nand_cli.specs.Inner.Reports.{PutsNets, gates_head}
use Rattle.nand_cli.proofs.OnGates.{parts_there}
use Rattle.nand_cli.proofs.levels.gates.put_nets.Goals as goal

pub returns-in-Failed-clause-put : goal.returns-in-Failed-clause-put
unfolding PutsNets
returns-in-Failed-clause-put g c turns followed keys words holds now =
    let (rest, wires, behaves, shows) = parts_there c.args.computer.now turns keys (length turns) followed words in
    let head = gates_head c.args.computer.now (names_of c.args.core.now) c.args.end in
    record {
      rest = rest;
      wires = wires;
      behaves = behaves;
      shows = shows;
      puts = put_failed _ _ _ _ _ c.requires.empty (two_cut _ _ _ _ head rest (handed_as _ _ _ _ _ _ _ c.head_of.ensures c.in-Failed.ensures.passes));
    }

pub returns-in-Done-put_nets-clause-put : goal.returns-in-Done-put_nets-clause-put
unfolding PutsNets
returns-in-Done-put_nets-clause-put g c turns followed keys words holds now =
    let parts = c.in-Done-put_nets.ensures.passes turns followed keys words holds now in
    let head = gates_head c.args.computer.now (names_of c.args.core.now) c.args.end in
    record {
      rest = parts.text;
      wires = parts.wires;
      behaves = parts.behaves;
      shows = parts.shows;
      puts = put_finished _ _ _ _ _ _ _ c.requires.empty
          (handed_more _ _ _ _ _ _ head parts.text _ _ refl (handed_as _ _ _ _ _ _ _ c.head_of.ensures c.in-Done.ensures.passes) parts.passes) c.finish.ensures.put;
    }

pub returns-in-Failed-put_nets-clause-put : goal.returns-in-Failed-put_nets-clause-put
unfolding PutsNets
returns-in-Failed-put_nets-clause-put g c turns followed keys words holds now =
    let parts = c.in-Failed-put_nets.ensures.passes turns followed keys words holds now in
    let head = gates_head c.args.computer.now (names_of c.args.core.now) c.args.end in
    record {
      rest = parts.text;
      wires = parts.wires;
      behaves = parts.behaves;
      shows = parts.shows;
      puts = put_failed _ _ _ _ _ c.requires.empty
          (handed_more _ _ _ _ _ _ head parts.text _ _ refl (handed_as _ _ _ _ _ _ _ c.head_of.ensures c.in-Done.ensures.passes) parts.passes);
    }
