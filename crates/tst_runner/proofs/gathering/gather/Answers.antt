use Rattle.std.proofs.Common.{◌∷◌, [], ◌∙◌}
use Rattle.outer_world.specs.Files.{LacksFolder}
use Rattle.tst_runner.specs.Gathering.{GatherFails}
use Rattle.tst_runner.specs.Inner.Gathered.{sources_of}
use Rattle.tst_runner.specs.declared.gathering.Places.{Places}
use Rattle.tst_runner.proofs.Sounding.{loads_sound}
use Rattle.tst_runner.proofs.gathering.gather.Goals as goal

pub returns-clause-sound : goal.returns-clause-sound
returns-clause-sound g c =
    let places : Places = record { shipped = c.as_slice.result; memories = c.args.memories; folder = c.folder_of-folder.result; names = c.deref.result } in
    let later = c.names_in.new.shelf in
    let from = sources_of places (g.F.Shelf.state later).files in
    let name = c.args.name.now in
    loads_sound from name (GatherFails from (name ∷ []) []) ((g.F.Shelf.state later).unfailing → LacksFolder (g.F.Shelf.state later).files (g.F.Shelf.state later).there c.folder_of-folder.result.now) c.gather_in.result (c.as_slice.ensures ∙ c.in_ok-shipped.ensures) c.gather_in.ensures.loads
