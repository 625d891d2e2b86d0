use Rattle.std.proofs.Common.{◌≡◌, ◌≢◌, ◌+◌, ◌∷◌, [], ◌++◌, length, inl, inr, sym, subst, arith, rules, tests}
use Rattle.std.proofs.lemmas.List.{length_push}
use Rattle.std.proofs.lemmas.Result.{err_from_is_err_and}
use Rattle.outer_world.specs.Entries.{entries_of}
use Rattle.outer_world.proofs.Listed.{AreReadTo, entry_turn, entries_end, refused_here, left_out, one_more, one_too_many, all_read, at_none}
use Rattle.outer_world.proofs.standard.texts_of_names.Goals as goal

pub returns-in_err-name : goal.returns-in_err-name
returns-in_err-name c =
    let turn = entry_turn _ c.args.entries.now c.loop-entry.yielded _ c.loop-entry.yielded_by c.into_iter-entry-iterator.ensures.into_iter_gives
    c.split-entry-items.ensures.rest c.split-entry-items.ensures.done c.split-entry-items.ensures.closure (λ x b q k. search (rules, tests)) _ _ c.in-Some.entry c.in-Some.is c.next.ensures.steps in
    let p = err_from_is_err_and c.from_residual.result c.from_residual.ensures.1 in
    rw (p.1, p.2) (inr (inl (c.in_err-name.ensures.refused.1, refused_here (entries_of c.args.entries.now) c.loop-entry.names.items (length c.loop-entry.yielded) c.in-Some.entry.now c.loop-entry.invariant turn.0 turn.1 c.in_err-name.ensures.refused.0)))

pub loop-entry-preserved-in_default : goal.loop-entry-preserved-in_default
loop-entry-preserved-in_default c =
    let turn = entry_turn _ c.args.entries.now c.loop-entry.yielded _ c.loop-entry.yielded_by c.into_iter-entry-iterator.ensures.into_iter_gives
    c.split-entry-items.ensures.rest c.split-entry-items.ensures.done c.split-entry-items.ensures.closure (λ x b q k. search (rules, tests)) _ _ c.in-Some.entry c.in-Some.is c.next.ensures.steps in
    subst (λ n. AreReadTo (entries_of c.args.entries.now) c.loop-entry.names.items n) (sym (length_push c.loop-entry.yielded c.in-Some.entry))
    (left_out (entries_of c.args.entries.now) c.loop-entry.names.items (length c.loop-entry.yielded) c.in-Some.entry.now c.loop-entry.invariant turn.0 turn.1 c.in_ok-name.ensures.refused
    (at_none _ _ _ c.in_default.not-Some c.in_ok-name.ensures.taken))

pub returns-then-len-eq-MOST_ENTRIES : goal.returns-then-len-eq-MOST_ENTRIES
returns-then-len-eq-MOST_ENTRIES c =
    let turn = entry_turn _ c.args.entries.now c.loop-entry.yielded _ c.loop-entry.yielded_by c.into_iter-entry-iterator.ensures.into_iter_gives
    c.split-entry-items.ensures.rest c.split-entry-items.ensures.done c.split-entry-items.ensures.closure (λ x b q k. search (rules, tests)) _ _ c.in-Some.entry c.in-Some.is c.next.ensures.steps in
    let taken = rw c.in-Some-2.is at c.in_ok-name.ensures.taken in
    let full : length c.loop-entry.names.items ≡ 65536 = omega (arith, c.loop-entry.names.ok.0) in
    inr (inr (c.from.ensures, one_too_many (entries_of c.args.entries.now) c.loop-entry.names.items (length c.loop-entry.yielded) c.in-Some.entry.now c.loop-entry.invariant turn.0 turn.1 taken.0 full))

pub loop-entry-preserved : goal.loop-entry-preserved
loop-entry-preserved c =
    let turn = entry_turn _ c.args.entries.now c.loop-entry.yielded _ c.loop-entry.yielded_by c.into_iter-entry-iterator.ensures.into_iter_gives
    c.split-entry-items.ensures.rest c.split-entry-items.ensures.done c.split-entry-items.ensures.closure (λ x b q k. search (rules, tests)) _ _ c.in-Some.entry c.in-Some.is c.next.ensures.steps in
    let taken = rw c.in-Some-2.is at c.in_ok-name.ensures.taken in
    let room : length c.loop-entry.names.items ≢ 65536 = omega (arith, c.loop-entry.names.ok.0) in
    let pushed : c.push.new.self.items ≡ c.loop-entry.names.items ++ c.in-Some.entry.now ∷ [] = search (rules, taken.1) in
    subst (λ n. AreReadTo (entries_of c.args.entries.now) c.push.new.self.items n) (sym (length_push c.loop-entry.yielded c.in-Some.entry))
    (subst (λ names. AreReadTo (entries_of c.args.entries.now) names (length c.loop-entry.yielded + 1)) (sym pushed)
    (one_more (entries_of c.args.entries.now) c.loop-entry.names.items (length c.loop-entry.yielded) c.in-Some.entry.now c.loop-entry.invariant turn.0 turn.1 c.in_ok-name.ensures.refused taken.0 room))

pub returns : goal.returns
returns c =
    all_read (entries_of c.args.entries.now) c.loop-entry.names.items (length c.loop-entry.yielded) c.loop-entry.invariant
    (entries_end _ c.args.entries.now c.loop-entry.yielded _ c.loop-entry.yielded_by c.into_iter-entry-iterator.ensures.into_iter_gives
    c.split-entry-items.ensures.rest c.split-entry-items.ensures.done c.split-entry-items.ensures.closure (λ x b q k. search (rules, tests)) _ _ c.in-None.is c.next.ensures.steps)
