use Rattle.std.proofs.Common.{◌≡◌, map, take}
use Rattle.hack_isa.specs.Table.{word_of}
use Rattle.tower.proofs.building.words.Given as goal

abbrev pub invariant-loop-instr : goal.invariant-loop-instr
invariant-loop-instr l = l.words.items ≡ map word_of (take l.instr-index l.instrs)
