-- The statics so far have their words.
use Rattle.std.proofs.Common.{◌≡◌, ◌++◌, drop, map}
use Rattle.jack_debug.specs.Walk.{static_variable}
use Rattle.jack_debug.proofs.walking.statics.Given as goal

abbrev pub invariant-loop-place : goal.invariant-loop-place
invariant-loop-place g l = l.shown ++ map (static_variable (g.W.Words.words l.words)) (drop l.place-index l.places) ≡ map (static_variable (g.W.Words.words l.words)) l.places
