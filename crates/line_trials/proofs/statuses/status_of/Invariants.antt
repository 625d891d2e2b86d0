-- The lines so far tell no status.
use Rattle.std.proofs.Common.{◌≡◌, drop, map}
use Rattle.line_trials.specs.Statuses.{told}
use Rattle.line_trials.proofs.statuses.status_of.Given as goal

abbrev pub invariant-loop-line : goal.invariant-loop-line
invariant-loop-line l = told (map (λ x. x.now) (drop l.line-index l.lines)) ≡ told (map (λ x. x.now) l.lines)
