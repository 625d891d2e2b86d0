use Rattle.std.proofs.Common.{◌≡◌, ◌+◌, ◌++◌, drop, length}
use Rattle.vm_translator.specs.Places.{placed_from, words_in}
use Rattle.vm_translator.specs.Tables.{firsts_from}
use Rattle.vm_translator.proofs.layout.lay_out.Given as goal

abbrev pub invariant-loop-number : goal.invariant-loop-number
invariant-loop-number l = record {
  steps : l.placed.items ++ placed_from l.number l.at (drop l.number l.functions) ≡ placed_from 0 l.base l.functions;
  firsts : l.firsts.items ++ firsts_from (length l.placed.items) (drop l.number l.functions) ≡ firsts_from 0 l.functions;
  words : l.at + words_in (drop l.number l.functions) ≡ l.base + words_in l.functions;
}
