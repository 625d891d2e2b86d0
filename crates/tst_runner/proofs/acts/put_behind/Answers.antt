use Rattle.std.proofs.Common.{◌+◌, ◌%◌, length, ap, sym, ◌∙◌}
use Rattle.outer_world.specs.Held.{pending}
use Rattle.outer_world.proofs.Passing.{length-pending}
use Rattle.tst_runner.proofs.Passed.{PutsBehind-pieces}
use Rattle.tst_runner.proofs.acts.put_behind.Goals as goal

pub returns-clause-puts : goal.returns-clause-puts
returns-clause-puts g c before front h =
    PutsBehind-pieces _ _ _ front c.args.text.now (pending c.args.out.now) (pending c.put.new.self) c.put.result c.put.ensures.passes
    (λ done. length-pending c.put.new.self ∙ c.put.ensures.pieces done ∙ ap (λ k. (k + length c.args.text.now) % 4096) (sym (length-pending c.args.out.now)))
    h

pub returns-clause-counts : goal.returns-clause-counts
returns-clause-counts g c = c.put.ensures.passes.counts
