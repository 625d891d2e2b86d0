use Rattle.std.proofs.Common.{List, ◌≤◌, Ok, length, map, sym, subst}
use Rattle.std.proofs.lemmas.Result.{err_from_is_err_and}
use Rattle.jack_core.specs.declared.program.Core.{Core}
use Rattle.jack_tree.specs.declared.tree.Class.{Class}
use Rattle.jack_tree.specs.Seen.{the_file}
use Rattle.source_files.specs.Loads.{Loads}
use Rattle.tower.specs.Program.{Means}
use Rattle.command_line.specs.Line.{source_of}
use Rattle.tower.specs.Spelled.{AreSpelled}
use Rattle.nand_cli.specs.JackFolder.{IsMeaningless}
use Rattle.nand_cli.proofs.Means.{meant, program_counts, without_classes}
use Rattle.nand_cli.proofs.Spelling.{few_classes, seen_classes, spelled_classes}
use Rattle.nand_cli.proofs.jack.load_jack.Goals as goal

pub returns-in_err-classes-clause-loads : goal.returns-in_err-classes-clause-loads
returns-in_err-classes-clause-loads g c =
    let p = err_from_is_err_and c.from_residual.result c.from_residual.ensures.1 in
    rw (p.1, p.2) (without_classes _ (source_of c.args.source.now) (g.F.Shelf.state c.args.shelf.now).there (g.F.Shelf.state c.args.shelf.now).unfailing _ c.in_err-classes.ensures.loads)

pub program_of-requires-clause-few : goal.program_of-requires-clause-few
program_of-requires-clause-few g c =
    subst (λ (classes : List Class). length classes ≤ 256) (sym c.deref.ensures.value) (few_classes _ _ c.in_ok-classes.classes.items c.in_ok-classes.ensures.loads)

pub program_of-requires-clause-spelled : goal.program_of-requires-clause-spelled
program_of-requires-clause-spelled g c = subst AreSpelled (sym c.deref.ensures.value) (spelled_classes _ _ c.in_ok-classes.classes.items (seen_classes _ _ c.in_ok-classes.classes.items c.in_ok-classes.ensures.loads))

pub returns-clause-loads : goal.returns-clause-loads
returns-clause-loads g c =
    let P : List Class → Type 0 = λ classes. Loads (λ (core : Core). Means c.args.source.now.replace classes (Ok core)) (IsMeaningless (source_of c.args.source.now) (map the_file classes)) ⊥ c.program_of.result in
    meant _ (source_of c.args.source.now) (g.F.Shelf.state c.args.shelf.now).there (g.F.Shelf.state c.args.shelf.now).unfailing c.in_ok-classes.classes.items c.program_of.result c.in_ok-classes.ensures.loads (subst P c.deref.ensures.value c.program_of.ensures.makes)

pub returns-clause-counts : goal.returns-clause-counts
returns-clause-counts g c = program_counts (source_of c.args.source.now) c.deref.result.now c.program_of.result _ _ c.program_of.ensures.makes c.in_ok-classes.ensures.counts
