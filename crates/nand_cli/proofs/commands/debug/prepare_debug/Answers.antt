use Rattle.std.proofs.Common.{ℕ, Option, Err, sym, subst, option_map, ◌∙◌}
use Rattle.std.proofs.lemmas.Result.{err_from_is_err_and}
use Rattle.key_script.specs.declared.keys.Keys.{Keys}
use Rattle.command_line.specs.Line.{source_of}
use Rattle.outer_world.specs.Files.{Files}
use Rattle.image_map.specs.Map.{IsMapped}
use Rattle.jack_debug.specs.declared.places.Places.{Places}
use Rattle.source_files.specs.Loads.{CountsLoad, Loads}
use Rattle.source_files.proofs.Told.{without}
use Rattle.nand_cli.specs.Commands.Debug.{HasStatement}
use Rattle.nand_cli.specs.Commands.Run.{HasKeys, LacksKeys, ScriptIsRefused}
use Rattle.nand_cli.specs.Inner.Debugging.{IsPreparedDebug, LacksPoint}
use Rattle.nand_cli.specs.declared.commands.debug.PreparedDebug.{PreparedDebug}
use Rattle.nand_cli.specs.declared.placed.PlacedProgram.{PlacedProgram}
use Rattle.nand_cli.proofs.Debugging.{prepared, without_keys, without_placed, without_statement}
use Rattle.nand_cli.proofs.KeyWords.{keys_are_words}
use Rattle.nand_cli.proofs.Reporting.{counts_none, counts_too}
use Rattle.nand_cli.proofs.commands.debug.prepare_debug.Goals as goal

pub returns-in_err-program-clause-loads : goal.returns-in_err-program-clause-loads
returns-in_err-program-clause-loads g c =
    let request = c.args.request.now in
    let p = err_from_is_err_and c.from_residual.result c.from_residual.ensures.1 in
    rw (p.1, p.2) (without_placed _ (g.F.Shelf.state c.args.shelf.now).there (g.F.Shelf.state c.args.shelf.now).unfailing (source_of c.args.source.now) request.sub.now request.number request.cycles (option_map (λ keys. keys.now) request.keys) _ c.in_err-program.ensures.loads)

pub returns-in_err-program-clause-counts : goal.returns-in_err-program-clause-counts
returns-in_err-program-clause-counts g c =
    let p = err_from_is_err_and c.from_residual.result c.from_residual.ensures.1 in
    rw (p.1, p.2) (counts_too PlacedProgram PreparedDebug _ _ _ c.in_err-program.ensures.counts)

pub returns-in_err-check_point-clause-loads : goal.returns-in_err-check_point-clause-loads
returns-in_err-check_point-clause-loads g c =
    let request = c.args.request.now in
    let p = err_from_is_err_and c.from_residual-in_err-check_point.result c.from_residual-in_err-check_point.ensures.1 in
    rw (p.1, p.2) (without_statement _ (g.F.Shelf.state c.args.shelf.now).there (g.F.Shelf.state c.args.shelf.now).unfailing (source_of c.args.source.now) request.sub.now request.number request.cycles (option_map (λ keys. keys.now) request.keys)
    c.in_ok-program.program _ c.in_ok-program.ensures.loads c.in_err-check_point.ensures)

pub returns-in_err-check_point-clause-counts : goal.returns-in_err-check_point-clause-counts
returns-in_err-check_point-clause-counts g c =
    let request = c.args.request.now in
    let p = err_from_is_err_and c.from_residual-in_err-check_point.result c.from_residual-in_err-check_point.ensures.1 in
    let places = c.in_ok-program.program.places in
    rw (p.1, p.2) (counts_none {A = Unit {0}} PreparedDebug (λ _. HasStatement places request.sub.now request.number) (LacksPoint places c.args.source.now.folder.now request.sub.now request.number) _ _ _ c.in_err-check_point.ensures c.in_ok-program.ensures.counts)

pub returns-in_err-keys-clause-loads : goal.returns-in_err-keys-clause-loads
returns-in_err-keys-clause-loads g c =
    let request = c.args.request.now in
    let path = option_map (λ keys. keys.now) request.keys in
    let p = err_from_is_err_and c.from_residual-in_err-keys.result c.from_residual-in_err-keys.ensures.1 in
    let files = (g.F.Shelf.state c.args.shelf.now).files in
    let steady = (g.F.Shelf.state c.args.shelf.now).unfailing in
    let later = (g.F.Shelf.state c.load_placed.new.shelf).unfailing in
    let e = c.in_err-keys.field-0.0 in
    let P : Option Files → Type 0 = λ fs. Loads (λ (k : Keys). HasKeys fs path k) (ScriptIsRefused fs path) (later → LacksKeys fs path) (Err e) in
    let read = without (λ (k : Keys). HasKeys files path k) (ScriptIsRefused files path) (later → LacksKeys files path) (λ (k : Keys). HasKeys files path k) (ScriptIsRefused files path) (steady → LacksKeys files path) e
    (λ line h. h) (λ h s. h (c.in_ok-program.ensures.keeps.unfailing s)) (subst P c.in_ok-program.ensures.keeps.files c.in_err-keys.ensures.loads) in
    rw (p.1, p.2) (without_keys files (g.F.Shelf.state c.args.shelf.now).there steady (source_of c.args.source.now) request.sub.now request.number request.cycles path c.in_ok-program.program e c.in_ok-program.ensures.loads c.in_ok-check_point.ensures read)

pub returns-in_err-keys-clause-counts : goal.returns-in_err-keys-clause-counts
returns-in_err-keys-clause-counts g c =
    let p = err_from_is_err_and c.from_residual-in_err-keys.result c.from_residual-in_err-keys.ensures.1 in
    let P : ℕ → Type 0 = λ n. CountsLoad {A = Keys} n (g.F.Shelf.faults c.load_keys.new.shelf) (Err c.in_err-keys.field-0.0) in
    rw (p.1, p.2) (counts_too Keys PreparedDebug _ _ _ (subst P c.in_ok-program.ensures.counts c.in_err-keys.ensures.counts))

pub prepare_gates-requires : goal.prepare_gates-requires
prepare_gates-requires g c = subst IsMapped (sym c.into_parts-image.ensures.image) c.in_ok-program.ensures.loads.2.mapped

pub returns-in_err-computer-clause-loads : goal.returns-in_err-computer-clause-loads
returns-in_err-computer-clause-loads g c =
    let p = err_from_is_err_and c.from_residual-in_err-computer.result c.from_residual-in_err-computer.ensures.1 in
    rw (p.1, p.2) tt

pub returns-in_err-computer-clause-counts : goal.returns-in_err-computer-clause-counts
returns-in_err-computer-clause-counts g c =
    let p = err_from_is_err_and c.from_residual-in_err-computer.result c.from_residual-in_err-computer.ensures.1 in
    rw (p.1, p.2) (c.in_ok-keys.ensures.counts ∙ c.in_ok-program.ensures.counts)

pub returns-clause-loads : goal.returns-clause-loads
returns-clause-loads g c =
    let request = c.args.request.now in
    let path = option_map (λ keys. keys.now) request.keys in
    let files = (g.F.Shelf.state c.args.shelf.now).files in
    let source = source_of c.args.source.now in
    let P : Option Files → Type 0 = λ files. HasKeys files path c.in_ok-keys.keys in
    let Q : Places → Type 0 = λ places. IsPreparedDebug files source request.sub.now request.number path (record { places = places; keys = c.in_ok-keys.keys; computer = c.in_ok-computer.computer }) in
    subst Q (sym c.into_parts-image.ensures.places)
    (prepared files (g.F.Shelf.state c.args.shelf.now).there (g.F.Shelf.state c.args.shelf.now).unfailing source request.sub.now request.number request.cycles path
    c.in_ok-program.program c.in_ok-keys.keys c.in_ok-computer.computer c.in_ok-program.ensures.loads c.in_ok-check_point.ensures (subst P c.in_ok-program.ensures.keeps.files c.in_ok-keys.ensures.loads)
    (keys_are_words _ _ c.in_ok-keys.keys c.in_ok-keys.ensures.loads) (c.in_ok-computer.ensures.image ∙ c.into_parts-image.ensures.image) c.in_ok-computer.ensures.moves c.in_ok-computer.ensures.stands)

pub returns-clause-counts : goal.returns-clause-counts
returns-clause-counts g c = c.in_ok-keys.ensures.counts ∙ c.in_ok-program.ensures.counts
