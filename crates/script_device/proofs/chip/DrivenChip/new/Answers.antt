use Rattle.std.proofs.Common.{ℕ, ◌<◌, length}
use Rattle.std.proofs.lemmas.List.Elements.{All-contains}
use Rattle.script_device.specs.Directory.{named_of}
use Rattle.script_device.specs.Simulated.{IsSeen}
use Rattle.script_device.proofs.Named.{listed_named, named_listed}
use Rattle.script_device.proofs.Runs.{own_wanted}
use Rattle.script_device.proofs.chip.DrivenChip.new.Goals as goal

pub invariant_of-result-clause-named : goal.invariant_of-result-clause-named
invariant_of-result-clause-named c =
    let P : ℕ → Type 0 = λ k. k < length c.args.net.nodes in
    let d = c.args.directory in
    listed_named (IsSeen c.in_ok-new.field-0.frame) d (λ k h. c.in_ok-new.ensures.seen k (All-contains P (named_of d) k (named_listed P d c.requires) h))

pub invariant_of-result-clause-wanted : goal.invariant_of-result-clause-wanted
invariant_of-result-clause-wanted c = own_wanted (named_of c.args.directory) c.in_ok-new.field-0.frame c.in_ok-new.ensures.whole
