use Rattle.std.proofs.Common.{◌≡◌, ◌++◌, ◌-◌, ◌^◌, map, min}
use Rattle.std.specs.List.{range_with_len}
use Rattle.vm_link.specs.declared.linked.Linked.{Linked}
use Rattle.vm_translator.specs.Statics.{static_word, words_before}
use Rattle.vm_translator.proofs.statics.add_statics.Given as goal

abbrev pub invariant-loop-index : goal.invariant-loop-index
invariant-loop-index l = (p : Linked) → l.before ≡ min (words_before p l.file) (2 ^ 64 - 1) → l.statics.items ≡ l.initial.statics.items ++ map (static_word p l.file) (range_with_len 0 l.index)
