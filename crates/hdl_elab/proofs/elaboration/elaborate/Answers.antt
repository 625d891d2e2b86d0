use Rattle.hdl_check.specs.Whole.{chips_in}
use Rattle.hdl_elab.proofs.Sizes.{all_fine}
use Rattle.hdl_elab.proofs.elaboration.elaborate.Goals as goal

pub returns-clause-fine : goal.returns-clause-fine
returns-clause-fine c = all_fine (chips_in c.args.library.now.entries c.args.memories) c.args.top.now c.in_ok-check_texts.ensures.fine c.in_ok-check_loops.ensures.fine c.in_ok-check_size.ensures.fine
