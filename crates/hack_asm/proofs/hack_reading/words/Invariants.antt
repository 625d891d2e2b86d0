use Rattle.std.proofs.Common.{◌≡◌, ◌++◌, drop}
use Rattle.hack_asm.specs.HackText.{words_of}
use Rattle.hack_asm.proofs.hack_reading.words.Given as goal

abbrev pub invariant-loop-line : goal.invariant-loop-line
invariant-loop-line l = l.words.items ++ words_of (drop l.line-index l.lines) ≡ words_of l.lines
