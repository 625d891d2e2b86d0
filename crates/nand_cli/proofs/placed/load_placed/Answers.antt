use Rattle.std.proofs.Common.{List, ◌≤◌, length, sym, subst}
use Rattle.std.proofs.lemmas.Result.{err_from_is_err_and}
use Rattle.jack_tree.specs.declared.tree.Class.{Class}
use Rattle.tower.specs.Spelled.{AreSpelled}
use Rattle.command_line.specs.Line.{source_of}
use Rattle.nand_cli.proofs.Placing.{LoadsPlaced, folder_placed, placed_counts, without_trees}
use Rattle.nand_cli.proofs.Spelling.{few_classes, seen_classes, spelled_classes}
use Rattle.nand_cli.proofs.placed.load_placed.Goals as goal

pub returns-in_err-own-clause-loads : goal.returns-in_err-own-clause-loads
returns-in_err-own-clause-loads g c =
    let p = err_from_is_err_and c.from_residual.result c.from_residual.ensures.1 in
    rw (p.1, p.2) (without_trees _ (source_of c.args.source.now) (g.F.Shelf.state c.args.shelf.now).there (g.F.Shelf.state c.args.shelf.now).unfailing _ c.in_err-own.ensures.loads)

pub placed_of-requires-clause-few : goal.placed_of-requires-clause-few
placed_of-requires-clause-few g c =
    subst (λ (classes : List Class). length classes ≤ 256) (sym c.deref.ensures.value) (few_classes _ _ c.in_ok-own.own.items c.in_ok-own.ensures.loads)

pub placed_of-requires-clause-spelled : goal.placed_of-requires-clause-spelled
placed_of-requires-clause-spelled g c = subst AreSpelled (sym c.deref.ensures.value) (spelled_classes _ _ c.in_ok-own.own.items (seen_classes _ _ c.in_ok-own.own.items c.in_ok-own.ensures.loads))

pub returns-clause-loads : goal.returns-clause-loads
returns-clause-loads g c =
    let P : List Class → Type 0 = λ classes. LoadsPlaced classes (source_of c.args.source.now) c.placed_of.result in
    folder_placed _ (source_of c.args.source.now) (g.F.Shelf.state c.args.shelf.now).there (g.F.Shelf.state c.args.shelf.now).unfailing c.in_ok-own.own.items c.placed_of.result c.in_ok-own.ensures.loads (subst P c.deref.ensures.value c.placed_of.ensures)

pub returns-clause-counts : goal.returns-clause-counts
returns-clause-counts g c = placed_counts c.deref.result.now (source_of c.args.source.now) c.placed_of.result _ _ c.placed_of.ensures c.in_ok-own.ensures.counts
