use Rattle.std.proofs.Common.{◌≤◌, List, length, refl, ap, subst, sym, ◌∙◌}
use Rattle.std.proofs.lemmas.Result.{err_from_is_err_and}
use Rattle.hack_isa.specs.Machine.{image_words}
use Rattle.hack_isa.specs.declared.Instr.{Instr}
use Rattle.outer_world.specs.Files.{LacksFolder}
use Rattle.hack_asm.specs.Written.{asm_text}
use Rattle.vm_tree.specs.declared.program.File.{File}
use Rattle.command_line.specs.Line.{vm}
use Rattle.nand_cli.specs.Commands.Vm.{HasProgram, IsNoCode, VmRefuses, without_code}
use Rattle.nand_cli.proofs.Doing.{done_by, done_counts, missing, nothing_put, unmade_counts, unread_counts}
use Rattle.nand_cli.proofs.Translating.{HasCode, plain_spelled}
use Rattle.nand_cli.proofs.commands.vm.answer_vm.Goals as goal

pub returns-in_err-program-clause-does : goal.returns-in_err-program-clause-does
returns-in_err-program-clause-does g c = λ err.
    let p = err_from_is_err_and c.from_residual.result c.from_residual.ensures.1 in
    let files = (g.F.Shelf.state c.args.shelf.now).files in
    let folder = c.args.folder.now in
    let there = (g.F.Shelf.state c.args.shelf.now).there in
    let steady = (g.F.Shelf.state c.args.shelf.now).unfailing in
    rw (p.1, p.2) (nothing_put (HasProgram c.args.bare files folder) (VmRefuses files folder c.args.bare) (steady → LacksFolder files there folder) files there steady (vm folder c.args.bare) (g.O.Sink.state c.args.out.now) err _
    (λ line k. (refl, k, refl)) (λ h s. missing files there folder (vm folder c.args.bare) (λ told none. none) (h s)) c.in_err-program.ensures.loads tt)

pub returns-in_err-program-clause-counts : goal.returns-in_err-program-clause-counts
returns-in_err-program-clause-counts g c = λ err.
    let p = err_from_is_err_and c.from_residual.result c.from_residual.ensures.1 in
    rw (p.1, p.2) (unread_counts (List File) _ _ _ (g.O.Sink.state c.args.out.now) err c.in_err-program.ensures.counts)

pub returns-in_err-coded-clause-does : goal.returns-in_err-coded-clause-does
returns-in_err-coded-clause-does g c = λ err.
    let p = err_from_is_err_and c.from_residual-in_err-coded.result c.from_residual-in_err-coded.ensures.1 in
    let files = (g.F.Shelf.state c.args.shelf.now).files in
    let folder = c.args.folder.now in
    let program = c.in_ok-program.program in
    rw (p.1, p.2) (nothing_put (HasCode c.args.bare program) (IsNoCode c.args.bare folder program) ⊥ files (g.F.Shelf.state c.args.shelf.now).there (g.F.Shelf.state c.args.shelf.now).unfailing (vm folder c.args.bare) (g.O.Sink.state c.args.out.now) err _
    (λ line k. (refl, without_code program c.in_ok-program.ensures.loads k, refl)) (λ h. absurd h) c.in_err-coded.ensures.codes tt)

pub returns-in_err-coded-clause-counts : goal.returns-in_err-coded-clause-counts
returns-in_err-coded-clause-counts g c = λ err.
    let p = err_from_is_err_and c.from_residual-in_err-coded.result c.from_residual-in_err-coded.ensures.1 in
    let program = c.in_ok-program.program in
    rw (p.1, p.2) (unmade_counts (HasCode c.args.bare program) (IsNoCode c.args.bare c.args.folder.now program) _ _ _ (g.O.Sink.state c.args.out.now) err c.in_err-coded.ensures.codes c.in_ok-program.ensures.counts)

pub write_asm-requires-clause-spelled : goal.write_asm-requires-clause-spelled
write_asm-requires-clause-spelled g c = rw c.as_slice.ensures (plain_spelled c.in_ok-coded.coded.instrs c.in_ok-coded.ensures.plain)

pub write_asm-requires-clause-few : goal.write_asm-requires-clause-few
write_asm-requires-clause-few g c =
    let codes = c.in_ok-coded.ensures.codes in
    subst (λ (is : List Instr). length is ≤ image_words) (sym (c.as_slice.ensures ∙ codes.2)) codes.3

pub returns-clause-does : goal.returns-clause-does
returns-clause-does g c = λ err.
    let codes = c.in_ok-coded.ensures.codes in
    rw (c.finished.ensures) (done_by (g.F.Shelf.state c.args.shelf.now).files (g.F.Shelf.state c.args.shelf.now).there (g.F.Shelf.state c.args.shelf.now).unfailing (vm c.args.folder.now c.args.bare) (asm_text c.as_slice.result.now) (g.O.Sink.state c.args.out.now) (g.O.Sink.state c.write_asm.new.out) err c.write_asm.result
    ((c.in_ok-program.program, codes.0, c.in_ok-program.ensures.loads, codes.1, codes.3, ap asm_text (c.as_slice.ensures ∙ codes.2)), refl) c.write_asm.ensures.put tt)

pub returns-clause-counts : goal.returns-clause-counts
returns-clause-counts g c = λ err.
    rw (c.finished.ensures) (done_counts _ _ (g.O.Sink.state c.args.out.now) (g.O.Sink.state c.write_asm.new.out) err c.write_asm.result c.in_ok-program.ensures.counts c.write_asm.ensures.put.counts)
