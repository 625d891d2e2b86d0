-- The names so far have their words.
use Rattle.std.proofs.Common.{◌≡◌, ◌+◌, ◌++◌, drop, if◌then◌else◌}
use Rattle.jack_debug.specs.Walk.{variables_from, word_at}
use Rattle.jack_debug.proofs.walking.variables.Given as goal

abbrev pub invariant-loop-i : goal.invariant-loop-i
invariant-loop-i g l =
    l.shown ++ variables_from (λ k. if l.unmade then 0 else word_at (g.W.Words.words l.words) (l.base + k)) (l.first + l.i) (drop l.i l.names)
    ≡ variables_from (λ k. if l.unmade then 0 else word_at (g.W.Words.words l.words) (l.base + k)) l.first l.names
