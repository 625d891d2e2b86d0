use Rattle.std.proofs.Common.{List, ℕ, [], Err, refl, subst, sym, ◌∙◌}
use Rattle.std.proofs.lemmas.Result.{err_from_is_err_and}
use Rattle.source_files.specs.Loads.{Loads}
use Rattle.script_parser.specs.declared.tree.Act.TheVariants as acts
use Rattle.script_device.specs.Devices.{after_restart}
use Rattle.tst_runner.specs.Setting.{setting_of}
use Rattle.tst_runner.specs.Inner.Columns.{AreColumns}
use Rattle.tst_runner.specs.Inner.Loaded.{StandsForLoaded}
use Rattle.tst_runner.specs.Inner.States.{IsFrom, IsNoDevice, Misses, MissesDevice}
use Rattle.tst_runner.proofs.Kept.{Stays-restart, device_again, from_loaded, from_still}
use Rattle.tst_runner.proofs.Performed.{Does-load, Quietly-load}
use Rattle.tst_runner.proofs.acts.do_load.Goals as goal

pub returns-in_err-state-clause-does : goal.returns-in_err-state-clause-does
returns-in_err-state-clause-does g c s h =
    let p = err_from_is_err_and c.from_residual.result c.from_residual.ensures.1 in
    let shelf = g.F.Shelf.state c.args.shelf.now in
    let setting = setting_of c.args.script.path.now shelf.files c.args.script.memories in
    let name = c.args.file.now.text in
    let act = acts.Load c.args.file.now in
    let Q : List ℕ → Type 0 = λ file. Loads (StandsForLoaded setting file) (IsNoDevice setting file) (MissesDevice shelf setting file) (Err c.in_err-state.field-0.0) in
    rw (p.1, p.2) (Quietly-load (StandsForLoaded setting name) (IsNoDevice setting name) (MissesDevice shelf setting name) setting
    (Misses setting shelf.there shelf.unfailing s act) s act c.args.state.now c.in_err-state.field-0.0 (λ line k. k) (λ m. (tt, m))
    (subst Q c.as_slice-2.ensures c.in_err-state.ensures.loads))

pub returns-clause-does : goal.returns-clause-does
returns-clause-does g c s h =
    let setting = setting_of c.args.script.path.now (g.F.Shelf.state c.args.shelf.now).files c.args.script.memories in
    let Q : List ℕ → Type 0 = λ file. StandsForLoaded setting file c.in_ok-state.field-0 in
    let l = subst Q c.as_slice-2.ensures c.in_ok-state.ensures.loads in
    let from = subst (λ (file : List ℕ). IsFrom setting file l.0) (sym (c.in_ok-from_slice.ensures.items ∙ c.as_slice-3.ensures)) (from_loaded setting c.args.file.now.text l.0 l.1) in (
      record s { device = l.0; items = [] },
      Does-load setting s c.args.file.now l.0 l.1,
      record { device = l.2; loaded = from; columns = subst (AreColumns l.0 []) (sym c.new-2.ensures.items) tt; compared = h.compared; lines = h.lines },
      refl,
      refl,
    )

pub returns-then-is_there-clause-does : goal.returns-then-is_there-clause-does
returns-then-is_there-clause-does g c s h =
    let setting = setting_of c.args.script.path.now (g.F.Shelf.state c.args.shelf.now).files c.args.script.memories in
    let told = c.is_there.ensures.chip setting s h c.if-is_there.true in
    let from = subst (λ (file : List ℕ). IsFrom setting file s.device) c.as_slice.ensures told.1 in (
      record s { device = after_restart s.device; items = [] },
      Does-load setting s c.args.file.now (after_restart s.device) (device_again setting c.args.file.now.text s.device told.0 from),
      record { device = c.restart.ensures.stands s.device h.device; loaded = from_still c.args.state.now.loaded setting s.device (after_restart s.device) (Stays-restart s.device) h.loaded; columns = subst (AreColumns (after_restart s.device) []) (sym c.new.ensures.items) tt; compared = h.compared; lines = h.lines },
      refl,
      refl,
    )

pub returns-then-is_there-clause-runs : goal.returns-then-is_there-clause-runs
returns-then-is_there-clause-runs g c = c.restart.ensures.runs c.args.script.simplify (c.is_there.ensures.runs c.if-is_there.true)
