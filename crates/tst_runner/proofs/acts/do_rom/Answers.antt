use Rattle.std.proofs.Common.{List, ℕ, Bool, Ok, Err, Vec, inr, subst}
use Rattle.std.specs.declared.alloc.Global.{Global}
use Rattle.std.proofs.lemmas.Result.{err_from_is_err_and}
use Rattle.outer_world.specs.Files.{LacksFile}
use Rattle.source_files.specs.Loads.{Loads}
use Rattle.script_parser.specs.declared.tree.Act.TheVariants as acts
use Rattle.tst_runner.specs.Loading.{IsImage, IsNoImage}
use Rattle.tst_runner.specs.Setting.{path_of, setting_of}
use Rattle.script_device.specs.Running.{TellsImage, TellsMemory}
use Rattle.tst_runner.specs.Inner.States.{Misses}
use Rattle.tst_runner.proofs.Performed.{Quietly-image, Quietly-load}
use Rattle.tst_runner.proofs.acts.do_rom.Goals as goal

pub returns-in_err-image-clause-does : goal.returns-in_err-image-clause-does
returns-in_err-image-clause-does g c s h =
    let p = err_from_is_err_and c.from_residual.result c.from_residual.ensures.1 in
    let files = (g.F.Shelf.state c.args.shelf.now).files in
    let setting = setting_of c.args.script.path.now files c.args.script.memories in
    let unfailing = (g.F.Shelf.state c.args.shelf.now).unfailing in
    let name = c.args.file.now.text in
    let act = acts.LoadRom c.args.word.now c.args.file.now in
    let M : Bool → Type 0 = λ b. TellsMemory s.device b in
    let rom = subst M c.if-not-has_rom.false (c.has_rom.ensures s.device h.device) in
    let Q : List ℕ → Type 0 = λ file. Loads (λ (words : Vec ℕ Global). IsImage setting file words.items) (IsNoImage setting file) (unfailing → LacksFile files (path_of setting file)) (Err c.in_err-image.field-0.0) in
    rw (p.1, p.2) (Quietly-load (λ (words : Vec ℕ Global). IsImage setting name words.items) (IsNoImage setting name) (unfailing → LacksFile files (path_of setting name)) setting
    (Misses setting (g.F.Shelf.state c.args.shelf.now).there unfailing s act) s act c.args.state.now c.in_err-image.field-0.0 (λ line k. inr (rom, k)) (λ m. (rom, m))
    (subst Q c.as_slice.ensures (c.in_err-image.ensures.loads c.args.script.memories)))

pub returns-clause-does : goal.returns-clause-does
returns-clause-does g c s h =
    let files = (g.F.Shelf.state c.args.shelf.now).files in
    let setting = setting_of c.args.script.path.now files c.args.script.memories in
    let unfailing = (g.F.Shelf.state c.args.shelf.now).unfailing in
    let image = c.in_ok-image.image.items in
    let M : Bool → Type 0 = λ b. TellsMemory s.device b in
    let rom = subst M c.if-not-has_rom.false (c.has_rom.ensures s.device h.device) in
    let Q : List ℕ → Type 0 = λ file. IsImage setting file image in
    let T : List ℕ → Type 0 = λ words. TellsImage s.device c.load_rom.new.self words (Ok c.in_ok-load_rom.field-0) in
    Quietly-image setting ⊥ s c.args.word.now c.args.file.now c.args.state.now c.load_rom.new.self image c.in_ok-load_rom.field-0 rom
    (subst Q c.as_slice.ensures (c.in_ok-image.ensures.loads c.args.script.memories)) h (subst T c.deref.ensures.value (c.in_ok-load_rom.ensures.stands s.device h.device))
