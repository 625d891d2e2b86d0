use Rattle.std.proofs.Common.{◌≡◌, ◌∙◌, ◌++◌, ◌∷◌, [], ap, subst, sym, rules}
use Rattle.std.specs.Fn.{FnReturnsAt}
use Rattle.std.specs.Vec.Iter.{into_iter_items, into_iter_steps}
use Rattle.std.proofs.lemmas.Result.{err_from_is_err_and}
use Rattle.outer_world.specs.Entries.{AreKept, TellsFault, TellsFile}
use Rattle.outer_world.proofs.Listed.{keep_more, keep_same, all_left, blamed}
use Rattle.outer_world.proofs.standard.files_of_names.Goals as goal

pub loop-name-preserved-in-Continue-branch-2 : goal.loop-name-preserved-in-Continue-branch-2
loop-name-preserved-in-Continue-branch-2 g c =
    let pushed : c.push.new.self.items ≡ c.loop-name.kept.items ++ c.in-Some.name ∷ [] = search rules in
    subst (λ files. AreKept (λ name is. TellsFile (FnReturnsAt g.F.Fn c.args.ask) (c.args.folder.now ++ name) is) (c.loop-name.yielded ++ c.in-Some.name ∷ []) files) (sym pushed)
    (keep_more (λ name is. TellsFile (FnReturnsAt g.F.Fn c.args.ask) (c.args.folder.now ++ name) is) c.loop-name.yielded c.loop-name.kept.items c.in-Some.name c.loop-name.invariant
    (subst (λ is. TellsFile (FnReturnsAt g.F.Fn c.args.ask) (c.args.folder.now ++ c.in-Some.name) is) c.if-branch.true c.in_ok-is_file_at.ensures))

pub loop-name-preserved : goal.loop-name-preserved
loop-name-preserved g c =
    keep_same (λ name is. TellsFile (FnReturnsAt g.F.Fn c.args.ask) (c.args.folder.now ++ name) is) c.loop-name.yielded c.loop-name.kept.items c.in-Some.name c.loop-name.invariant
    (subst (λ is. TellsFile (FnReturnsAt g.F.Fn c.args.ask) (c.args.folder.now ++ c.in-Some.name) is) c.if-branch.false c.in_ok-is_file_at.ensures)

pub returns-in_err-is_file_at-clause-untold : goal.returns-in_err-is_file_at-clause-untold
returns-in_err-is_file_at-clause-untold g c =
    let before : into_iter_items c.into_iter-name-iterator.result ≡ c.loop-name.yielded ++ into_iter_items c.loop-name.name-iterator =
    all_left into_iter_steps into_iter_items (λ s x t q. q.0) _ c.loop-name.yielded _ c.loop-name.yielded_by in
    let here : into_iter_items c.loop-name.name-iterator ≡ c.in-Some.name ∷ into_iter_items c.next.new.self = c.in-Some.ensures.steps.0 in
    let whole : c.args.names.items ≡ into_iter_items c.into_iter-name-iterator.result = search rules in
    let these : c.args.names.items ≡ c.loop-name.yielded ++ c.in-Some.name ∷ into_iter_items c.next.new.self =
    whole ∙ before ∙ ap (λ rest. c.loop-name.yielded ++ rest) here in
    let p = err_from_is_err_and c.from_residual.result c.from_residual.ensures.1 in
    rw (p.1, p.2) (blamed (λ name is. TellsFile (FnReturnsAt g.F.Fn c.args.ask) (c.args.folder.now ++ name) is)
    (λ name. TellsFault (FnReturnsAt g.F.Fn c.args.ask) (c.args.folder.now ++ name) c.in_err-is_file_at.field-0.0)
    c.args.names.items c.loop-name.yielded c.loop-name.kept.items (into_iter_items c.next.new.self) c.in-Some.name these c.loop-name.invariant c.in_err-is_file_at.ensures)
