use Rattle.std.proofs.Common.{◌≡◌, ◌≤◌, ◌+◌, ◌-◌, ◌^◌, min, drop}
use Rattle.vm_translator.specs.Places.{words_in}
use Rattle.vm_translator.proofs.ends.count.Given as goal

abbrev pub invariant-loop-function : goal.invariant-loop-function
invariant-loop-function l = record {
  sum : min (l.words + words_in (drop l.function-index l.functions)) (2 ^ 64 - 1) ≡ min (l.base + words_in l.functions) (2 ^ 64 - 1);
  small : l.words ≤ 2 ^ 64 - 1;
}
