use Rattle.std.proofs.Common.{◌≡◌, ◌≤◌, ◌+◌, ◌-◌, ◌^◌, min, drop}
use Rattle.vm_translator.specs.Places.{words_of}
use Rattle.vm_translator.proofs.ends.add_words.Given as goal

abbrev pub invariant-loop-step : goal.invariant-loop-step
invariant-loop-step l = record {
  sum : min (l.words + words_of (drop l.step-index l.code)) (2 ^ 64 - 1) ≡ min (l.total + words_of l.code) (2 ^ 64 - 1);
  small : l.words ≤ 2 ^ 64 - 1;
}
