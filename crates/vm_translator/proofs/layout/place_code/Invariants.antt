use Rattle.std.proofs.Common.{◌≡◌, ◌+◌, ◌++◌, drop}
use Rattle.vm_translator.specs.Places.{placed_code, words_of}
use Rattle.vm_translator.proofs.layout.place_code.Given as goal

abbrev pub invariant-loop-step : goal.invariant-loop-step
invariant-loop-step l = record {
  steps : l.placed.items ++ placed_code l.function l.sub l.at (drop l.step-index l.code) ≡ l.fn.placed.items ++ placed_code l.function l.sub l.from l.code;
  words : l.at + words_of (drop l.step-index l.code) ≡ l.from + words_of l.code;
}
