use Rattle.std.proofs.Common.{◌∙◌}
use Rattle.tst_runner.specs.Setting.{setting_of}
use Rattle.tst_runner.proofs.Images.{compared_loaded}
use Rattle.tst_runner.proofs.files.load_compared.Goals as goal

pub returns-clause-loads : goal.returns-clause-loads
returns-clause-loads g c = λ memories.
    let files = (g.F.Shelf.state c.args.shelf.now).files in
    compared_loaded (setting_of c.args.path.now files memories) c.args.file.now c.as_str.result.now (g.F.Shelf.state c.args.shelf.now).unfailing c.load_text.result
    (c.as_str.ensures.value ∙ c.in_ok-beside.ensures) c.load_text.ensures.loads
