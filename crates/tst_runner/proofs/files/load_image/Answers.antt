use Rattle.tst_runner.proofs.Images.{short_image}
use Rattle.tst_runner.proofs.files.load_image.Goals as goal

pub returns-clause-short : goal.returns-clause-short
returns-clause-short g c =
    short_image c.form_of.result (g.F.Shelf.state c.args.shelf.now).files c.as_str.result.now (g.F.Shelf.state c.args.shelf.now).unfailing c.load.result c.load.ensures.loads
