use Rattle.std.proofs.Common.{◌≡◌, ◌≤◌, List, ℕ, Some, Err, Vec, length, drop, refl, subst, ap, ◌∙◌}
use Rattle.std.specs.declared.alloc.Global.{Global}
use Rattle.std.specs.Str.Lossy.{utf8_lossy}
use Rattle.std.proofs.lemmas.Result.{err_from_is_err_and}
use Rattle.outer_world.specs.Files.{LacksFile, path_in}
use Rattle.source_files.specs.Loads.{Loads}
use Rattle.script_columns.specs.Comparison.{lines_of}
use Rattle.script_parser.specs.declared.tree.Act.TheVariants as acts
use Rattle.tst_runner.specs.Setting.{folder_of, path_of, setting_of}
use Rattle.tst_runner.specs.Inner.Files.{IsCompared, IsTooLong}
use Rattle.tst_runner.specs.Inner.States.{Misses}
use Rattle.tst_runner.proofs.Performed.{Quietly-load}
use Rattle.tst_runner.proofs.acts.do_compare.Goals as goal

pub returns-in_err-text-clause-does : goal.returns-in_err-text-clause-does
returns-in_err-text-clause-does g c s h =
    let p = err_from_is_err_and c.from_residual.result c.from_residual.ensures.1 in
    let files = (g.F.Shelf.state c.args.shelf.now).files in
    let setting = setting_of c.args.script.path.now files c.args.script.memories in
    let unfailing = (g.F.Shelf.state c.args.shelf.now).unfailing in
    let name = c.args.file.now.text in
    let Q : List ℕ → Type 0 = λ file. Loads (λ (text : Vec ℕ Global). IsCompared setting file text.items) (IsTooLong setting file) (unfailing → LacksFile files (path_of setting file)) (Err c.in_err-text.field-0.0) in
    rw (p.1, p.2) (Quietly-load (λ (text : Vec ℕ Global). IsCompared setting name text.items) (IsTooLong setting name) (unfailing → LacksFile files (path_of setting name)) setting
    (Misses setting (g.F.Shelf.state c.args.shelf.now).there unfailing s (acts.CompareTo c.args.file.now)) s (acts.CompareTo c.args.file.now) c.args.state.now c.in_err-text.field-0.0 (λ line k. k) (λ m. (tt, m))
    (subst Q c.as_slice.ensures (c.in_err-text.ensures.loads c.args.script.memories)))

pub returns-clause-does : goal.returns-clause-does
returns-clause-does g c s h =
    let files = (g.F.Shelf.state c.args.shelf.now).files in
    let setting = setting_of c.args.script.path.now files c.args.script.memories in
    let unfailing = (g.F.Shelf.state c.args.shelf.now).unfailing in
    let text = c.in_ok-text.text.items in
    let Q : List ℕ → Type 0 = λ file. IsCompared setting file text in
    let l = subst Q c.as_slice.ensures (c.in_ok-text.ensures.loads c.args.script.memories) in
    let at = c.past_lines-at.result in
    let W : List ℕ → Type 0 = λ t. at ≤ length t in
    let R : List ℕ → Type 0 = λ t. lines_of (drop at t) ≡ drop c.args.state.now.lines (lines_of t) in (
      record s { compared = Some (record { path = path_of setting c.args.file.now.text; lines = lines_of text }) },
      (text, l.0, l.1, refl),
      record {
        device = h.device;
        loaded = h.loaded;
        columns = h.columns;
        compared = record {
          path = c.in_ok-path.ensures ∙ ap (λ file. path_in (folder_of c.args.script.path.now) (utf8_lossy file)) c.as_slice-2.ensures;
          within = subst W c.deref.ensures.value c.past_lines-at.ensures.within;
          left = subst R c.deref.ensures.value c.past_lines-at.ensures.rest;
        };
        lines = h.lines;
      },
      refl,
      refl,
    )
