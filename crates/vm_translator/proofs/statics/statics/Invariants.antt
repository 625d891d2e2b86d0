use Rattle.std.proofs.Common.{◌≡◌, ◌-◌, ◌^◌, min}
use Rattle.std.specs.List.{flat_map, range_with_len}
use Rattle.vm_translator.specs.Statics.{statics_in, words_before}
use Rattle.vm_translator.proofs.statics.statics.Given as goal

abbrev pub invariant-loop-number : goal.invariant-loop-number
invariant-loop-number l = (l.statics.items ≡ flat_map (statics_in l.linked) (range_with_len 0 l.number)) × (l.before ≡ min (words_before l.linked l.number) (2 ^ 64 - 1))
