use Rattle.std.proofs.Common.{ℕ, Option, Err, refl, subst, option_map, ◌∙◌}
use Rattle.std.proofs.lemmas.Result.{err_from_is_err_and}
use Rattle.key_script.specs.declared.keys.Keys.{Keys}
use Rattle.command_line.specs.Line.{source_of}
use Rattle.outer_world.specs.Files.{Files}
use Rattle.source_files.specs.Loads.{CountsLoad, Loads}
use Rattle.source_files.proofs.Told.{without}
use Rattle.tower.specs.Image.{IsImageOf}
use Rattle.nand_cli.specs.Commands.Run.{HasKeys, LacksKeys, ScriptIsRefused}
use Rattle.nand_cli.specs.JackFolder.{BuildIsRefused}
use Rattle.nand_cli.specs.declared.commands.run.PreparedRun.{PreparedRun}
use Rattle.nand_cli.proofs.KeyWords.{keys_are_words}
use Rattle.nand_cli.proofs.Reporting.{counts_none, counts_too, without_image, without_jack, without_keys}
use Rattle.nand_cli.proofs.commands.run.prepare_run.Goals as goal

pub returns-in_err-core-clause-loads : goal.returns-in_err-core-clause-loads
returns-in_err-core-clause-loads g c =
    let request = c.args.request.now in
    let p = err_from_is_err_and c.from_residual.result c.from_residual.ensures.1 in
    rw (p.1, p.2) (without_jack request.level _ (g.F.Shelf.state c.args.shelf.now).there (g.F.Shelf.state c.args.shelf.now).unfailing (source_of c.args.source.now) request.cycles (option_map (λ keys. keys.now) request.keys) _ c.in_err-core.ensures.loads)

pub returns-in_err-image-clause-loads : goal.returns-in_err-image-clause-loads
returns-in_err-image-clause-loads g c =
    let request = c.args.request.now in
    let p = err_from_is_err_and c.from_residual-in_err-image.result c.from_residual-in_err-image.ensures.1 in
    rw (p.1, p.2) (without_image request.level _ (g.F.Shelf.state c.args.shelf.now).there (g.F.Shelf.state c.args.shelf.now).unfailing (source_of c.args.source.now) request.cycles (option_map (λ keys. keys.now) request.keys)
    c.in_ok-core.core _ c.in_ok-core.ensures.loads c.in_err-image.ensures.loads)

pub returns-in_err-image-clause-counts : goal.returns-in_err-image-clause-counts
returns-in_err-image-clause-counts g c =
    let p = err_from_is_err_and c.from_residual-in_err-image.result c.from_residual-in_err-image.ensures.1 in
    let core = c.in_ok-core.core in
    rw (p.1, p.2) (counts_none PreparedRun (IsImageOf core) (BuildIsRefused core c.args.source.now.folder.now) _ _ _ c.in_err-image.ensures.loads c.in_ok-core.ensures.counts)

pub returns-in_err-keys-clause-loads : goal.returns-in_err-keys-clause-loads
returns-in_err-keys-clause-loads g c =
    let request = c.args.request.now in
    let path = option_map (λ keys. keys.now) request.keys in
    let p = err_from_is_err_and c.from_residual-in_err-keys.result c.from_residual-in_err-keys.ensures.1 in
    let files = (g.F.Shelf.state c.args.shelf.now).files in
    let steady = (g.F.Shelf.state c.args.shelf.now).unfailing in
    let later = (g.F.Shelf.state c.load_jack.new.shelf).unfailing in
    let e = c.in_err-keys.field-0.0 in
    let P : Option Files → Type 0 = λ fs. Loads (λ (k : Keys). HasKeys fs path k) (ScriptIsRefused fs path) (later → LacksKeys fs path) (Err e) in
    let read = without (λ (k : Keys). HasKeys files path k) (ScriptIsRefused files path) (later → LacksKeys files path) (λ (k : Keys). HasKeys files path k) (ScriptIsRefused files path) (steady → LacksKeys files path) e
    (λ line h. h) (λ h s. h (c.in_ok-core.ensures.keeps.unfailing s)) (subst P c.in_ok-core.ensures.keeps.files c.in_err-keys.ensures.loads) in
    rw (p.1, p.2) (without_keys request.level files (g.F.Shelf.state c.args.shelf.now).there steady (source_of c.args.source.now) request.cycles path c.in_ok-core.core e c.in_ok-core.ensures.loads (c.in_ok-image.image, c.in_ok-image.ensures.loads) read)

pub returns-in_err-keys-clause-counts : goal.returns-in_err-keys-clause-counts
returns-in_err-keys-clause-counts g c =
    let p = err_from_is_err_and c.from_residual-in_err-keys.result c.from_residual-in_err-keys.ensures.1 in
    let P : ℕ → Type 0 = λ n. CountsLoad {A = Keys} n (g.F.Shelf.faults c.load_keys.new.shelf) (Err c.in_err-keys.field-0.0) in
    rw (p.1, p.2) (counts_too Keys PreparedRun _ _ _ (subst P c.in_ok-core.ensures.counts c.in_err-keys.ensures.counts))

pub machine_at_start-requires-clause-image : goal.machine_at_start-requires-clause-image
machine_at_start-requires-clause-image g c = c.in_ok-image.ensures.loads

pub returns-in_err-machine-clause-loads : goal.returns-in_err-machine-clause-loads
returns-in_err-machine-clause-loads g c =
    let p = err_from_is_err_and c.from_residual-in_err-machine.result c.from_residual-in_err-machine.ensures.1 in
    rw (p.1, p.2) tt

pub returns-in_err-machine-clause-counts : goal.returns-in_err-machine-clause-counts
returns-in_err-machine-clause-counts g c =
    let p = err_from_is_err_and c.from_residual-in_err-machine.result c.from_residual-in_err-machine.ensures.1 in
    rw (p.1, p.2) (c.in_ok-keys.ensures.counts ∙ c.in_ok-core.ensures.counts)

pub returns-clause-loads : goal.returns-clause-loads
returns-clause-loads g c =
    let path = option_map (λ keys. keys.now) c.args.request.now.keys in
    let P : Option Files → Type 0 = λ files. HasKeys files path c.in_ok-keys.keys in
    record {
      means = c.in_ok-core.ensures.loads;
      built = (c.in_ok-image.image, c.in_ok-image.ensures.loads);
      has_keys = subst P c.in_ok-core.ensures.keeps.files c.in_ok-keys.ensures.loads;
      same_level = c.in_ok-machine.ensures.level;
      same_cycles = refl;
      ready = record {
        resolved = c.in_ok-core.ensures.resolved;
        words = keys_are_words _ _ c.in_ok-keys.keys c.in_ok-keys.ensures.loads;
        start = c.in_ok-machine.ensures.start;
      };
    }
