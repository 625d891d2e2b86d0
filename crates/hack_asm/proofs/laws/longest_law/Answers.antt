use Rattle.hack_asm.proofs.Longest as assembly
use Rattle.hack_asm.proofs.LongestHack as hack
use Rattle.hack_asm.proofs.laws.longest_law.Goals as goal

pub returns-clause-asm : goal.returns-clause-asm
returns-clause-asm c = assembly.longest_match

pub returns-clause-hack : goal.returns-clause-hack
returns-clause-hack c = hack.longest_match
