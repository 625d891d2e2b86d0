use Rattle.std.proofs.Common.{◌≡◌, ◌-◌, List, ℕ, [], ◌∷◌, true, take, drop, length, sym, subst, refl, inl, inr}
use Rattle.std.specs.Prelude.{IfSome, codes}
use Rattle.std.proofs.lemmas.Result.{err_from_is_err_and}
use Rattle.std.proofs.lemmas.Slice.Eq.{bytes_eq-Decides}
use Rattle.outer_world.specs.Files.{LacksFolder}
use Rattle.gate_sim.specs.Calls.Call.{Eval}
use Rattle.script_device.specs.Driven.{chip_of}
use Rattle.script_parser.specs.Numbers.{ends_in}
use Rattle.tst_runner.specs.Setting.{folder, setting_of}
use Rattle.tst_runner.specs.Gathering.{file_of}
use Rattle.tst_runner.specs.Loading.{IsLoaded, IsNotLoaded}
use Rattle.script_device.specs.Machines.{loaded_machine}
use Rattle.script_device.specs.Devices.{after_eval}
use Rattle.script_device.specs.Devices.Device.{Chip, Machine}
use Rattle.tst_runner.specs.Inner.Loaded.{ChipIsLoaded, StandsForLoaded}
use Rattle.tst_runner.specs.Inner.States.{IsNoDevice, LacksDevice}
use Rattle.tst_runner.proofs.Loaded.{Loads-err, file_of-stem, lacks-folder}
use Rattle.tst_runner.proofs.loading.load_device.Goals as goal

-- the file ends so
is_of : (file name : List ℕ) → ends_in (codes ".hdl") file ≡ true → name ≡ take (length file - 4) file → file ≡ file_of name
is_of file name e f = file_of-stem file name ((bytes_eq-Decides (drop (length file - 4) file) (codes ".hdl")).0 e) f

pub returns-in_err-load_chip-in-Some-clause-loads : goal.returns-in_err-load_chip-in-Some-clause-loads
returns-in_err-load_chip-in-Some-clause-loads g c =
    let p = err_from_is_err_and c.from_residual.result c.from_residual.ensures.1 in
    let files = (g.F.Shelf.state c.args.shelf.now).files in
    let setting = setting_of c.args.script.path.now files c.args.script.memories in
    let unfailing = (g.F.Shelf.state c.args.shelf.now).unfailing in
    let there = (g.F.Shelf.state c.args.shelf.now).there in
    let file = c.args.file.now in
    let name = c.in-Some.name.now in
    let ends : ends_in (codes ".hdl") file ≡ true = c.in-Some.ensures.cases.0 in
    let is = is_of file name ends c.in-Some.ensures.cases.1 in
    rw (p.1, p.2) (Loads-err (ChipIsLoaded setting (file_of name)) (StandsForLoaded setting file) (IsNotLoaded setting (file_of name)) (IsNoDevice setting file)
    (unfailing → LacksFolder files there (folder setting)) (unfailing → IfSome files (LacksDevice there setting file)) c.in_err-load_chip-in-Some.field-0.0
    (λ line k. let P : List ℕ → Type 0 = λ f. IsNotLoaded setting f line in inl (subst P (sym is) k)) (λ m u. lacks-folder files there setting file ends (m u)) c.in_err-load_chip-in-Some.ensures.loads)

pub returns-in_ok-load_chip-in-Some-clause-loads : goal.returns-in_ok-load_chip-in-Some-clause-loads
returns-in_ok-load_chip-in-Some-clause-loads g c =
    let files = (g.F.Shelf.state c.args.shelf.now).files in
    let setting = setting_of c.args.script.path.now files c.args.script.memories in
    let unfailing = (g.F.Shelf.state c.args.shelf.now).unfailing in
    let file = c.args.file.now in
    let name = c.in-Some.name.now in
    let is = is_of file name c.in-Some.ensures.cases.0 c.in-Some.ensures.cases.1 in
    let chip = chip_of c.in_ok-load_chip-in-Some.field-0 in
    let l = c.in_ok-load_chip-in-Some.ensures.loads in
    let P : List ℕ → Type 0 = λ f. IsLoaded setting f chip in
    (after_eval (Chip chip []), inl (chip, subst P (sym is) l.loaded, refl), (refl, l.driven, l.fits, (Eval ∷ [], refl)))

pub returns-in_ok-load_machine-in-None-clause-loads : goal.returns-in_ok-load_machine-in-None-clause-loads
returns-in_ok-load_machine-in-None-clause-loads g c =
    let l = c.in_ok-load_machine-in-None.ensures.loads in
    (Machine (loaded_machine l.0), inr (c.in-None.ensures.cases, (l.0, l.1, refl)), sym l.2)
