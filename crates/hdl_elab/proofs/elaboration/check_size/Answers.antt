use Rattle.hdl_check.specs.Whole.{chips_in}
use Rattle.hdl_elab.proofs.Sizes.{few, many}
use Rattle.hdl_elab.proofs.elaboration.check_size.Goals as goal

pub returns-then-size-gt-MOST_NODES-clause-fault : goal.returns-then-size-gt-MOST_NODES-clause-fault
returns-then-size-gt-MOST_NODES-clause-fault c =
    many (chips_in c.args.library.now.entries c.args.memories) c.args.top.now c.in_ok-size.size c.in_ok-size.ensures c.if-size-gt-MOST_NODES.true c.requires.fine c.requires.no_loop

pub returns-clause-fine : goal.returns-clause-fine
returns-clause-fine c = few (chips_in c.args.library.now.entries c.args.memories) c.args.top.now c.in_ok-size.size c.in_ok-size.ensures c.if-size-gt-MOST_NODES.false
