use Rattle.std.proofs.Common.{◌≡◌, [], ℕ, List, Some, None, refl, subst}
use Rattle.std.proofs.lemmas.Result.{err_from_is_err_and}
use Rattle.outer_world.proofs.Passing.{Got-nothing}
use Rattle.hdl_tree.specs.Chips.{find_entry}
use Rattle.hdl_tree.specs.declared.library.Entry.{Entry}
use Rattle.hdl_parser.specs.Printed.{chip_text}
use Rattle.command_line.specs.Line.{chip}
use Rattle.nand_cli.specs.Commands.Chip.{ChipRefuses, IsShipped}
use Rattle.nand_cli.proofs.Doing.{done_by, done_counts, nothing_put, unmade_counts}
use Rattle.nand_cli.proofs.Shipping.{none_shipped}
use Rattle.nand_cli.proofs.commands.chip.answer_chip.Goals as goal

pub returns-clause-does : goal.returns-clause-does
returns-clause-does g c = λ err.
    let name = c.args.name.now in
    nothing_put (λ (entry : Entry). IsShipped name entry) (ChipRefuses name) ⊥ (g.F.Shelf.state c.args._shelf.now).files (g.F.Shelf.state c.args._shelf.now).there (g.F.Shelf.state c.args._shelf.now).unfailing (chip name) (g.O.Sink.state c.args.out.now) err c.unknown.result (λ line k. (refl, k, refl)) (λ k. absurd k)
    (none_shipped _ name c.unknown.result c.in_ok-library.ensures (subst (λ (n : List ℕ). find_entry c.in_ok-library.library.entries n ≡ None) c.as_bytes.ensures.value c.in-None.ensures.none) c.unknown.ensures) tt

pub returns-clause-counts : goal.returns-clause-counts
returns-clause-counts g c = λ err.
    let name = c.args.name.now in
    unmade_counts (λ (entry : Entry). IsShipped name entry) (ChipRefuses name) c.unknown.result _ _ (g.O.Sink.state c.args.out.now) err
    (none_shipped _ name c.unknown.result c.in_ok-library.ensures (subst (λ (n : List ℕ). find_entry c.in_ok-library.library.entries n ≡ None) c.as_bytes.ensures.value c.in-None.ensures.none) c.unknown.ensures) refl

pub returns-in-Some-clause-does : goal.returns-in-Some-clause-does
returns-in-Some-clause-does g c = λ err.
    let name = c.args.name.now in
    let entry = c.in-Some.entry.now in
    let P : List Entry → Type 0 = λ es. find_entry es name ≡ Some entry in
    let found = subst P c.in_ok-library.ensures (subst (λ (n : List ℕ). find_entry c.in_ok-library.library.entries n ≡ Some entry) c.as_bytes.ensures.value c.in-Some.ensures.found) in
    rw (c.finished.ensures) (done_by (g.F.Shelf.state c.args._shelf.now).files (g.F.Shelf.state c.args._shelf.now).there (g.F.Shelf.state c.args._shelf.now).unfailing (chip name) (chip_text entry.chip) (g.O.Sink.state c.args.out.now) (g.O.Sink.state c.print.new.out) err c.print.result ((entry, found, refl), refl) c.print.ensures.put tt)

pub returns-in-Some-clause-counts : goal.returns-in-Some-clause-counts
returns-in-Some-clause-counts g c = λ err.
    rw (c.finished.ensures) (done_counts _ _ (g.O.Sink.state c.args.out.now) (g.O.Sink.state c.print.new.out) err c.print.result refl c.print.ensures.put.counts)

pub returns-in_err-library-clause-does : goal.returns-in_err-library-clause-does
returns-in_err-library-clause-does g c = λ err.
    let p = err_from_is_err_and c.from_residual.result c.from_residual.ensures.1 in
    rw (p.1, p.2) ([], [], (refl, refl), Got-nothing _, Got-nothing _)
