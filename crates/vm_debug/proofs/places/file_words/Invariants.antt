-- The files so far come before.
use Rattle.std.proofs.Common.{◌≡◌, ◌≤◌, ◌+◌, ◌-◌, drop}
use Rattle.std.specs.Prelude.{sum_by}
use Rattle.jack_compiler.specs.Statics.{words_in, words_until}
use Rattle.vm_debug.proofs.places.file_words.Given as goal

abbrev pub invariant-loop-i : goal.invariant-loop-i
invariant-loop-i l = (l.i ≤ l.k) × (l.before + words_until (drop l.i l.files) (l.k - l.i) ≡ words_until l.files l.k) × (words_in (drop l.i l.files) (l.k - l.i) ≡ words_in l.files l.k)
    × (l.before + sum_by (λ f. f.statics) (drop l.i l.files) ≤ 240)
