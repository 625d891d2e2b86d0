use Rattle.std.proofs.Common.{List, ℕ, subst, ◌∙◌}
use Rattle.outer_world.specs.Files.{LacksFile}
use Rattle.source_files.specs.Loads.{Loads}
use Rattle.source_files.specs.Sources.{IsFaulty, SpellsAt}
use Rattle.source_files.proofs.folder.load_in.Goals as goal

pub returns-clause-loads : goal.returns-clause-loads
returns-clause-loads g c =
    let files = (g.F.Shelf.state c.args.shelf.now).files in
    let language = c.args.language.now in
    let Q : List ℕ → Type 0 = λ path. Loads (SpellsAt (g.L.Language.spells language c.args.name.now) files path) (IsFaulty (g.L.Language.refuses language) files path)
    ((g.F.Shelf.state c.args.shelf.now).unfailing → LacksFile files path) c.load.result in
    subst Q (c.as_str.ensures.value ∙ c.in_ok-path.ensures) c.load.ensures.loads
