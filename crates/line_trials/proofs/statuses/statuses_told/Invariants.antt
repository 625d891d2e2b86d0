-- The statuses so far, and those that are left, are all.
use Rattle.std.proofs.Common.{◌≡◌, ◌+◌, ◌≤◌, drop, length, map}
use Rattle.line_trials.specs.Statuses.{told}
use Rattle.line_trials.proofs.statuses.statuses_told.Given as goal

abbrev pub invariant-loop-line : goal.invariant-loop-line
invariant-loop-line l =
    (l.n ≤ l.line-index) × (l.n + length (told (map (λ x. x.now) (drop l.line-index l.lines))) ≡ length (told (map (λ x. x.now) l.lines)))
