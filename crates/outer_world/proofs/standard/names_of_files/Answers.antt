use Rattle.std.proofs.lemmas.Result.{IfOk-weaker}
use Rattle.outer_world.proofs.Listed.{listed}
use Rattle.outer_world.proofs.standard.names_of_files.Goals as goal

pub returns : goal.returns
returns g c = IfOk-weaker c.files_of_names.result _ _ (λ files h. listed _ c.as_slice.result.now c.in_ok-names.names.items files.items c.in_ok-names.ensures h) c.files_of_names.ensures.kept
