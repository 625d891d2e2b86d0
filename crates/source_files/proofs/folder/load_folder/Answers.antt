use Rattle.std.proofs.Common.{List, ℕ, Option, Vec, subst}
use Rattle.std.specs.declared.alloc.Global.{Global}
use Rattle.std.proofs.lemmas.Result.{err_from_is_err_and}
use Rattle.outer_world.specs.Files.{Files}
use Rattle.source_files.specs.Inner.Limits.{LacksOne}
use Rattle.source_files.specs.Loads.{FailsFor, Loads}
use Rattle.source_files.specs.Sources.{FailsAtOne, IsFirstFaulty, SpellEach}
use Rattle.source_files.proofs.Failing.{listed_failed, listing_failed}
use Rattle.source_files.proofs.Spelling.{sourced_later, unlisted}
use Rattle.source_files.proofs.folder.load_folder.Goals as goal

pub returns-in_err-names-clause-loads : goal.returns-in_err-names-clause-loads
returns-in_err-names-clause-loads g c =
    let p = err_from_is_err_and c.from_residual.result c.from_residual.ensures.1 in
    let told = (g.F.Shelf.state c.args.shelf.now).files in
    let folder = c.args.folder.now in
    let ending = c.args.ending.now in
    let spells = g.L.Language.spells c.args.language.now in
    let refuses = g.L.Language.refuses c.args.language.now in
    rw (p.1, p.2) (unlisted spells refuses ending (λ (sources : Vec g.row.L-Source.Denot Global). sources.items) (g.F.Shelf.state c.args.shelf.now).unfailing told (g.F.Shelf.state c.args.shelf.now).there folder _ c.in_err-names.ensures.loads)

pub returns-clause-loads : goal.returns-clause-loads
returns-clause-loads g c =
    let told = (g.F.Shelf.state c.args.shelf.now).files in
    let folder = c.args.folder.now in
    let ending = c.args.ending.now in
    let spells = g.L.Language.spells c.args.language.now in
    let refuses = g.L.Language.refuses c.args.language.now in
    let later = (g.F.Shelf.state c.sources_in.new.shelf).unfailing in
    let T : Option Files → Type 0 = λ files. Loads (λ (sources : Vec g.row.L-Source.Denot Global). SpellEach spells files folder c.deref.result.now sources.items) (IsFirstFaulty spells refuses files folder c.deref.result.now) (later → LacksOne files folder c.deref.result.now) c.load_each.result in
    let N : List (List ℕ) → Type 0 = λ names. Loads (λ (sources : Vec g.row.L-Source.Denot Global). SpellEach spells told folder names sources.items) (IsFirstFaulty spells refuses told folder names) (later → LacksOne told folder names) c.load_each.result in
    sourced_later spells refuses ending (λ (sources : Vec g.row.L-Source.Denot Global). sources.items) (g.F.Shelf.state c.args.shelf.now).unfailing told (g.F.Shelf.state c.args.shelf.now).there folder later c.in_ok-names.names.items c.load_each.result
    c.in_ok-names.ensures.keeps.unfailing c.in_ok-names.ensures.loads (subst N c.deref.ensures.value (subst T c.in_ok-names.ensures.keeps.files c.load_each.ensures.loads))

pub returns-in_err-names-clause-in_order : goal.returns-in_err-names-clause-in_order
returns-in_err-names-clause-in_order g c =
    let p = err_from_is_err_and c.from_residual.result c.from_residual.ensures.1 in
    let before = g.F.Shelf.state c.args.shelf.now in
    rw (p.1, p.2) (listing_failed (g.L.Language.spells c.args.language.now) c.args.ending.now (g.F.Shelf.unfailing_for c.args.shelf.now) before.files before.there c.args.folder.now _ c.in_err-names.ensures.spends)

pub returns-clause-in_order : goal.returns-clause-in_order
returns-clause-in_order g c =
    let before = g.F.Shelf.state c.args.shelf.now in
    let folder = c.args.folder.now in
    let spells = g.L.Language.spells c.args.language.now in
    let now = g.F.Shelf.unfailing_for c.sources_in.new.shelf in
    let T : Option Files → Type 0 = λ files. FailsFor (FailsAtOne spells now files folder c.deref.result.now) c.load_each.result in
    let N : List (List ℕ) → Type 0 = λ names. FailsFor (FailsAtOne spells now before.files folder names) c.load_each.result in
    listed_failed spells c.args.ending.now (g.F.Shelf.unfailing_for c.args.shelf.now) before.files before.there folder now c.in_ok-names.names.items c.load_each.result
    c.in_ok-names.ensures.loads c.in_ok-names.ensures.spends (subst N c.deref.ensures.value (subst T c.in_ok-names.ensures.keeps.files c.load_each.ensures.in_order))
