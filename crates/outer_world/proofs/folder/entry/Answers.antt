use Rattle.std.proofs.Common.{◌∙◌, sym, rules}
use Rattle.outer_world.proofs.Entries.{entry_is, path_in-nonempty}
use Rattle.outer_world.proofs.folder.entry.Goals as goal

pub returns-in-Some : goal.returns-in-Some
returns-in-Some c =
    entry_is c.args.path.now c.args.folder.now c.in-Some.name.now c.without_slash-in-Some.result
    (c.in-Some.ensures ∙ sym (path_in-nonempty c.args.folder.now c.in-Some.name.now (search rules))) c.without_slash-in-Some.ensures

pub returns-in-None : goal.returns-in-None
returns-in-None c = λ name f e. c.in-None.ensures name (e ∙ path_in-nonempty c.args.folder.now name (search rules))
