use Rattle.std.proofs.Common.{ℕ, List, ◌<◌, length, sym, subst, ◌∙◌}
use Rattle.std.specs.List.{All, Contains}
use Rattle.script_device.specs.Directory.{named_of}
use Rattle.script_device.specs.Simulated.{IsSeen, IsSimple}
use Rattle.script_device.proofs.Named.{listed_named, named_listed}
use Rattle.script_device.proofs.Runs.{simple_wanted}
use Rattle.script_device.proofs.chip.DrivenChip.simplified.Goals as goal

pub simplified-requires-clause-there : goal.simplified-requires-clause-there
simplified-requires-clause-there c =
    let P : ℕ → Type 0 = λ k. k < length c.args.net.nodes in
    subst (All P) (sym (c.deref.ensures.value ∙ c.in_ok-named.ensures)) (named_listed P c.args.directory c.requires.there)

pub invariant_of-result-clause-named : goal.invariant_of-result-clause-named
invariant_of-result-clause-named c =
    let seen = IsSeen c.in_ok-simplified.field-0.frame in
    let Q : List ℕ → Type 0 = λ named. (k : ℕ) → Contains named k → seen k in
    listed_named seen c.args.directory (subst Q (c.deref.ensures.value ∙ c.in_ok-named.ensures) c.in_ok-simplified.ensures.seen)

pub returns-clause-runs : goal.returns-clause-runs
returns-clause-runs c =
    let Q : List ℕ → Type 0 = λ named. IsSimple named c.in_ok-simplified.field-0.frame in
    subst Q (c.deref.ensures.value ∙ c.in_ok-named.ensures) c.in_ok-simplified.ensures.simple

pub invariant_of-result-clause-wanted : goal.invariant_of-result-clause-wanted
invariant_of-result-clause-wanted c =
    let Q : List ℕ → Type 0 = λ named. IsSimple named c.in_ok-simplified.field-0.frame in
    simple_wanted (named_of c.args.directory) c.in_ok-simplified.field-0.frame (subst Q (c.deref.ensures.value ∙ c.in_ok-named.ensures) c.in_ok-simplified.ensures.simple)
