use Rattle.std.proofs.Common.{◌≡◌, ◌<◌, ℕ, length, slice_index, map}
use Rattle.jack_core.specs.Texts.{the_class}
use Rattle.jack_compiler.specs.Files.{statics_before}
use Rattle.jack_compiler.proofs.program.statics_before.Given as goal

abbrev pub invariant-loop-class : goal.invariant-loop-class
invariant-loop-class l = record {
  count : length l.before.items ≡ l.class-index;
  sum : l.statics ≡ statics_before (map the_class l.classes) l.class-index;
  each : (k : ℕ) → k < l.class-index → slice_index l.before.items k ≡ statics_before (map the_class l.classes) k;
}
