use Rattle.grammar.proofs.Steps.{Ends-end}
use Rattle.hack_asm.specs.HackText.{hack}
use Rattle.hack_asm.proofs.hack_lines.finish.Goals as goal

pub returns : goal.returns
returns c = Ends-end (hack c.args.end) tt _ _ c.at_end.ensures
