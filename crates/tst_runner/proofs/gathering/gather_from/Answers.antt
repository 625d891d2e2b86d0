use Rattle.std.proofs.Common.{List, ◌∷◌, [], Option, Err, sym, subst, ◌∙◌}
use Rattle.std.specs.Prelude.{reverse}
use Rattle.std.proofs.lemmas.Result.{err_from_is_err_and}
use Rattle.outer_world.specs.Files.{Files}
use Rattle.hdl_tree.specs.declared.library.Entry.{Entry}
use Rattle.source_files.specs.Loads.{Loads}
use Rattle.outer_world.proofs.Keeping.{keeps_then}
use Rattle.tst_runner.specs.Gathering.{Gather}
use Rattle.tst_runner.specs.Inner.Gathered.{IsMore, IsRefusedAt, LacksFileOf, sources_of}
use Rattle.tst_runner.proofs.Finding.{all_taken, fewer, to_next, turn, unfound}
use Rattle.tst_runner.proofs.gathering.gather_from.Goals as goal

pub gather_one-requires-clause-origin : goal.gather_one-requires-clause-origin
gather_one-requires-clause-origin g c = let next = c.in-Some.ensures (g.F.Shelf.state c.chips.shelf).files in next.at

pub returns-in_err-gather_one-clause-loads : goal.returns-in_err-gather_one-clause-loads
returns-in_err-gather_one-clause-loads g c =
    let p = err_from_is_err_and c.from_residual-in_err-gather_one.result c.from_residual-in_err-gather_one.ensures.1 in
    let told = (g.F.Shelf.state c.args.shelf.now).files in
    let there = (g.F.Shelf.state c.args.shelf.now).there in
    let steady = (g.F.Shelf.state c.args.shelf.now).unfailing in
    let later = (g.F.Shelf.state c.chips.shelf).unfailing in
    let places = c.args.places.now in
    let from = sources_of places told in
    let first = c.args.name.now in
    let name = c.in-Some.name in
    let found = c.in-Some.found in
    let others = reverse c.next_new.new.stack.items in
    let e = c.in_err-gather_one.field-0.0 in
    let stack' = reverse c.gather_one.new.stack.items in
    let entries' = c.gather_one.new.gathered.entries.items in
    let entries = c.chips.gathered.entries.items in
    let good : Option Files → Unit {0} → Type 0 = λ files _. IsMore (sources_of places files) name others entries stack' entries' in
    let T : Option Files → Type 0 = λ files. Loads (good files) (IsRefusedAt (sources_of places files) name) (later → LacksFileOf (sources_of places files) name) (Err e) in
    let read = subst T c.chips.invariant.keeps.files c.in_err-gather_one.ensures.loads in
    let next = c.in-Some.ensures told in
    let leads = to_next from (first ∷ []) (reverse c.chips.stack.items) entries c.chips.invariant.leads name found others next in
    rw (p.1, p.2) (unfound from there first steady (good told) later name others entries e c.requires.listed c.chips.invariant.keeps.unfailing leads next.new read)

pub chips-smaller : goal.chips-smaller
chips-smaller g c =
    let told = (g.F.Shelf.state c.args.shelf.now).files in
    let from = sources_of c.args.places.now told in
    let others = reverse c.next_new.new.stack.items in
    let stack' = reverse c.gather_one.new.stack.items in
    let entries' = c.gather_one.new.gathered.entries.items in
    let T : Option Files → Type 0 = λ files. IsMore (sources_of c.args.places.now files) c.in-Some.name others c.chips.gathered.entries.items stack' entries' in
    fewer from (c.args.name.now ∷ []) (reverse c.chips.stack.items) c.chips.gathered.entries.items c.chips.invariant.leads c.in-Some.name c.in-Some.found others stack' entries'
    (c.in-Some.ensures told) (subst T c.chips.invariant.keeps.files c.in_ok-gather_one.ensures.loads)

pub chips-preserved : goal.chips-preserved
chips-preserved g c =
    let told = (g.F.Shelf.state c.args.shelf.now).files in
    let from = sources_of c.args.places.now told in
    let others = reverse c.next_new.new.stack.items in
    let stack' = reverse c.gather_one.new.stack.items in
    let entries' = c.gather_one.new.gathered.entries.items in
    let T : Option Files → Type 0 = λ files. IsMore (sources_of c.args.places.now files) c.in-Some.name others c.chips.gathered.entries.items stack' entries' in
    record {
      leads =
          turn from (c.args.name.now ∷ []) (reverse c.chips.stack.items) c.chips.gathered.entries.items c.chips.invariant.leads c.in-Some.name c.in-Some.found others stack' entries'
          (c.in-Some.ensures told) (subst T c.chips.invariant.keeps.files c.in_ok-gather_one.ensures.loads);
      indexed = c.in_ok-gather_one.ensures.indexed;
      counts = c.in_ok-gather_one.ensures.counts ∙ c.chips.invariant.counts;
      keeps = keeps_then _ _ _ c.chips.invariant.keeps c.in_ok-gather_one.ensures.keeps;
    }

pub returns-clause-loads : goal.returns-clause-loads
returns-clause-loads g c =
    let from = sources_of c.args.places.now (g.F.Shelf.state c.args.shelf.now).files in
    let first = c.args.name.now ∷ [] in
    let G : List Entry → Type 0 = λ entries. Gather from first [] entries in
    subst G (sym c.into_entries.ensures) (all_taken from first (reverse c.chips.stack.items) c.chips.gathered.entries.items c.chips.invariant.leads (c.in_default.ensures (g.F.Shelf.state c.args.shelf.now).files))
