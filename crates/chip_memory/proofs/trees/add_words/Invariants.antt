use Rattle.std.proofs.Common.{◌≡◌, ◌++◌}
use Rattle.chip_basic.specs.Hdl.{each}
use Rattle.chip_memory.specs.Trees.{word_part}
use Rattle.chip_memory.proofs.trees.add_words.Given as goal

abbrev pub invariant-loop-number : goal.invariant-loop-number
invariant-loop-number l = l.parts.items ≡ l.initial.parts.items ++ each l.number word_part
