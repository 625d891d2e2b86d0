use Rattle.std.proofs.Common.{List, ◌<◌, ◌+◌, ◌^◌, length, map, sym, subst}
use Rattle.std.proofs.lemmas.Result.{err_from_is_err_and}
use Rattle.jack_tree.specs.declared.tree.Class.{Class}
use Rattle.jack_tree.specs.Seen.{the_file}
use Rattle.jack_os.specs.System.{AreClassesOf}
use Rattle.tower.specs.Sources.{system_beside}
use Rattle.command_line.specs.Line.{source_of}
use Rattle.nand_cli.proofs.Placing.{few_all, is_placed, placed_meaningless, placed_unbuilt}
use Rattle.nand_cli.proofs.placed.placed_of.Goals as goal

pub returns-in_err-core : goal.returns-in_err-core
returns-in_err-core c =
    let p = err_from_is_err_and c.from_residual.result c.from_residual.ensures.1 in
    rw (p.1, p.2) (placed_meaningless c.args.own.now (source_of c.args.source.now) _ c.in_err-core.ensures.makes)

pub returns-in_err-image : goal.returns-in_err-image
returns-in_err-image c =
    let p = err_from_is_err_and c.from_residual-in_err-image.result c.from_residual-in_err-image.ensures.1 in
    rw (p.1, p.2) (placed_unbuilt c.args.own.now (source_of c.args.source.now) c.in_ok-core.core _ c.in_ok-core.ensures.makes c.in_err-image.ensures.loads)

pub program_places-requires-clause-few : goal.program_places-requires-clause-few
program_places-requires-clause-few c =
    subst (λ (os : List Class). length c.args.own.now + length os < 2 ^ 32) (sym c.deref.ensures.value) (few_all c.args.source.now.replace c.args.own.now c.in_ok-system.system.items c.requires.few c.in_ok-system.ensures)

pub program_places-requires-clause-linked : goal.program_places-requires-clause-linked
program_places-requires-clause-linked c = (c.in_ok-image.ensures.loads.linked, c.in_ok-image.ensures.loads.links)

pub returns : goal.returns
returns c =
    let replace = c.args.source.now.replace in
    let P : List Class → Type 0 = AreClassesOf (system_beside replace (map the_file c.args.own.now)) in
    is_placed replace c.args.own.now c.deref.result.now c.in_ok-core.core _ c.in_ok-core.ensures.makes (subst P (sym c.deref.ensures.value) c.in_ok-system.ensures) c.in_ok-image.ensures.loads c.in_ok-places.ensures
    c.in_ok-core.ensures.resolved c.in_ok-image.ensures.mapped
