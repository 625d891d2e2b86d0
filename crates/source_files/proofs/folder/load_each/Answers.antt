use Rattle.std.proofs.Common.{◌≡◌, ◌≤◌, ◌+◌, ◌++◌, ◌∷◌, [], ℕ, List, Option, Result, Err, Vec, drop, length, take, ap, subst, sym, ◌∙◌, arith}
use Rattle.std.specs.declared.alloc.Global.{Global}
use Rattle.std.proofs.lemmas.List.{length-take-le, take_more}
use Rattle.std.proofs.lemmas.Result.{err_from_is_err_and}
use Rattle.outer_world.specs.Files.{Files, LacksFile, path_in}
use Rattle.source_files.specs.Loads.{Loads, SpendsOne}
use Rattle.source_files.specs.Sources.{IsFaulty, SpellEach, SpellsAt}
use Rattle.source_files.specs.declared.error.LoadError.{LoadError}
use Rattle.outer_world.proofs.Keeping.{keeps_then}
use Rattle.source_files.proofs.Failing.{one_more, text_failed}
use Rattle.source_files.proofs.Spelling.{around, spell_more, text_unread}
use Rattle.source_files.proofs.Told.{without}
use Rattle.source_files.proofs.folder.load_each.Goals as goal

pub returns-in_err-source-clause-loads : goal.returns-in_err-source-clause-loads
returns-in_err-source-clause-loads g c =
    let p = err_from_is_err_and c.from_residual.result c.from_residual.ensures.1 in
    let at = c.loop-name.name-index in
    let names = c.args.names.now in
    let folder = c.args.folder.now in
    let told = (g.F.Shelf.state c.args.shelf.now).files in
    let steady = (g.F.Shelf.state c.args.shelf.now).unfailing in
    let later = (g.F.Shelf.state c.loop-name.shelf).unfailing in
    let spells = g.L.Language.spells c.args.language.now in
    let refuses = g.L.Language.refuses c.args.language.now in
    let r : Result g.row.L-Source.Denot LoadError = Err c.in_err-source.field-0.0 in
    let N : List ℕ → Type 0 = λ name. Loads (SpellsAt (spells name) (g.F.Shelf.state c.loop-name.shelf).files (path_in folder name)) (IsFaulty refuses (g.F.Shelf.state c.loop-name.shelf).files (path_in folder name))
    (later → LacksFile (g.F.Shelf.state c.loop-name.shelf).files (path_in folder name)) r in
    let name = c.name-item.result in
    let path = path_in folder name in
    let T : Option Files → Type 0 = λ files. Loads (SpellsAt (spells name) files path) (IsFaulty refuses files path) (later → LacksFile files path) r in
    let read = without (SpellsAt (spells name) told path) (IsFaulty refuses told path) (later → LacksFile told path) (SpellsAt (spells name) told path) (IsFaulty refuses told path) (steady → LacksFile told path) _
    (λ line h. h) (λ gone s. gone (c.loop-name.invariant.keeps.unfailing s)) (subst T c.loop-name.invariant.keeps.files (subst N c.as_str.ensures c.in_err-source.ensures.loads)) in
    rw (p.1, p.2) (text_unread spells refuses (λ (sources : Vec g.row.L-Source.Denot Global). SpellEach spells told folder names sources.items) steady told folder names (take at names) (drop (at + 1) names) name c.loop-name.sources.items _
    (around names at name c.loop-name-test.true c.name-item.is) c.loop-name.invariant.spelled read)

pub returns-in_err-source-clause-in_order : goal.returns-in_err-source-clause-in_order
returns-in_err-source-clause-in_order g c =
    let p = err_from_is_err_and c.from_residual.result c.from_residual.ensures.1 in
    let at = c.loop-name.name-index in
    let names = c.args.names.now in
    let folder = c.args.folder.now in
    let told = (g.F.Shelf.state c.args.shelf.now).files in
    let first = g.F.Shelf.unfailing_for c.args.shelf.now in
    let now = g.F.Shelf.unfailing_for c.loop-name.shelf in
    let r : Result (Unit {0}) LoadError = Err c.in_err-source.field-0.0 in
    let N : List ℕ → Type 0 = λ name. SpendsOne now now (LacksFile (g.F.Shelf.state c.loop-name.shelf).files (path_in folder name)) r in
    let name = c.name-item.result in
    let T : Option Files → Type 0 = λ files. SpendsOne now now (LacksFile files (path_in folder name)) r in
    let failed = subst T c.loop-name.invariant.keeps.files (subst N c.as_str.ensures c.in_err-source.ensures.spends) in
    let long : length (take at names) ≡ at = let within : at ≤ length names = omega (arith, c.loop-name-test.true) in length-take-le at names within in
    rw (p.1, p.2) (text_failed (g.L.Language.spells c.args.language.now) told first now folder names (take at names) (drop (at + 1) names) name c.loop-name.sources.items _
    (around names at name c.loop-name-test.true c.name-item.is) c.loop-name.invariant.spelled (λ n few. c.loop-name.invariant.spends n (subst (λ k. first (k + n)) long few)) failed)

pub loop-name-preserved : goal.loop-name-preserved
loop-name-preserved g c =
    let at = c.loop-name.name-index in
    let names = c.args.names.now in
    let folder = c.args.folder.now in
    let told = (g.F.Shelf.state c.args.shelf.now).files in
    let spells = g.L.Language.spells c.args.language.now in
    let name = c.name-item.result in
    let source = c.in_ok-source.source in
    let N : List ℕ → Type 0 = λ n. SpellsAt (spells n) (g.F.Shelf.state c.loop-name.shelf).files (path_in folder n) source in
    let T : Option Files → Type 0 = λ files. SpellsAt (spells name) files (path_in folder name) source in
    let read = subst T c.loop-name.invariant.keeps.files (subst N c.as_str.ensures c.in_ok-source.ensures.loads) in
    let more = spell_more spells told folder (take at names) c.loop-name.sources.items name source c.loop-name.invariant.spelled read in
    let longer = take_more names at name c.loop-name-test.true ∙ ap (λ n. take at names ++ n ∷ []) (sym c.name-item.is) in
    let P : List (List ℕ) → Type 0 = λ ns. SpellEach spells told folder ns (c.loop-name.sources.items ++ source ∷ []) in
    let Q : List g.row.L-Source.Denot → Type 0 = λ ss. SpellEach spells told folder (take (at + 1) names) ss in
    record {
      spelled = subst Q (sym c.in_ok-push.ensures.items) (subst P (sym longer) more);
      counts = c.in_ok-source.ensures.counts ∙ c.loop-name.invariant.counts;
      keeps = keeps_then _ _ _ c.loop-name.invariant.keeps c.in_ok-source.ensures.keeps;
      spends = one_more (g.F.Shelf.unfailing_for c.args.shelf.now) (g.F.Shelf.unfailing_for c.loop-name.shelf) _ at c.loop-name.invariant.spends c.in_ok-source.ensures.spends;
    }
