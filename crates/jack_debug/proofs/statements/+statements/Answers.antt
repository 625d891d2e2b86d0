use Rattle.std.proofs.Common.{◌≡◌, ◌++◌, ◌∷◌, [], length, sym, ap, ◌∙◌, arith, append-nil}
use Rattle.std.proofs.lemmas.Result.{on_ok_weaker}
use Rattle.jack_tree.specs.Seen.{the_statement, the_statements}
use Rattle.jack_debug.specs.Statements.{block_places, statement_places}
use Rattle.jack_debug.proofs.Blocks.{back_less, else_places, front_less, if_places, item_places, parts_added, while_places}
use Rattle.jack_debug.proofs.statements.+statements.Goals as goal

pub add_statement-add_statements-requires : goal.add_statement-add_statements-requires
add_statement-add_statements-requires t c =
    let holds = block_places (the_statements c.in-If.holds.items) in
    let fails = else_places c.in-If.fails in
    let whole = ap (λ z. statement_places (the_statement z)) c.in-If.is ∙ if_places c.in-If.at c.in-If.field-1 c.in-If.holds c.in-If.fails in
    let less = front_less c.in-If.at holds fails (statement_places (the_statement c.args.s.now)) whole in
    let same : length (block_places (the_statements c.deref.result.now)) ≡ length holds = ap (λ z. length (block_places (the_statements z))) c.deref.ensures.value in
    (omega (arith, c.decreases, less, same), tt)

pub add_statement-add_statements-requires-in-Some : goal.add_statement-add_statements-requires-in-Some
add_statement-add_statements-requires-in-Some t c =
    let holds = block_places (the_statements c.in-If.holds.items) in
    let fails = else_places c.in-If.fails in
    let whole = ap (λ z. statement_places (the_statement z)) c.in-If.is ∙ if_places c.in-If.at c.in-If.field-1 c.in-If.holds c.in-If.fails in
    let less = back_less c.in-If.at holds fails (statement_places (the_statement c.args.s.now)) whole in
    let here : length fails ≡ length (block_places (the_statements c.in-Some.fails.items)) = ap (λ o. length (else_places o)) c.in-Some.is in
    let same : length (block_places (the_statements c.deref-in-Some.result.now)) ≡ length (block_places (the_statements c.in-Some.fails.items)) = ap (λ z. length (block_places (the_statements z))) c.deref-in-Some.ensures.value in
    (omega (arith, c.decreases, less, here, same), tt)

pub add_statement-add_statements-requires-in-While : goal.add_statement-add_statements-requires-in-While
add_statement-add_statements-requires-in-While t c =
    let body = block_places (the_statements c.in-While.body.items) in
    let whole = ap (λ z. statement_places (the_statement z)) c.in-While.is ∙ while_places c.in-While.at c.in-While.field-1 c.in-While.body in
    let size : length (statement_places (the_statement c.args.s.now)) ≡ length (c.in-While.at ∷ body) = ap length whole in
    let same : length (block_places (the_statements c.deref-in-While.result.now)) ≡ length body = ap (λ z. length (block_places (the_statements z))) c.deref-in-While.ensures.value in
    (omega (arith, c.decreases, size, same), tt)

pub add_statement-returns-in-Some : goal.add_statement-returns-in-Some
add_statement-returns-in-Some t c =
    let at = c.in-If.at in
    let xs = block_places (the_statements c.deref.result.now) in
    let ys = block_places (the_statements c.deref-in-Some.result.now) in
    let parts : at ∷ (xs ++ ys) ≡ at ∷ (block_places (the_statements c.in-If.holds.items) ++ else_places c.in-If.fails) =
    (λ i. at ∷ (block_places (the_statements (c.deref.ensures.value i)) ++ block_places (the_statements (c.deref-in-Some.ensures.value i))))
    ∙ ap (λ o. at ∷ (block_places (the_statements c.in-If.holds.items) ++ else_places o)) (sym c.in-Some.is) in
    let whole : statement_places (the_statement c.args.s.now) ≡ at ∷ (xs ++ ys) = ap (λ z. statement_places (the_statement z)) c.in-If.is ∙ if_places at c.in-If.field-1 c.in-If.holds c.in-If.fails ∙ sym parts in
    on_ok_weaker c.add_statements-in-Some.result
    (λ e. parts_added c.args.places.now c.push.new.self c.add_statements.new.places c.add_statements-in-Some.new.places (statement_places (the_statement c.args.s.now)) at xs ys
    c.in_ok-push-in-If.ensures.ok c.in_ok-add_statements-in-If.ensures e whole)
    c.add_statements-in-Some.ensures

pub add_statement-returns-in-None : goal.add_statement-returns-in-None
add_statement-returns-in-None t c =
    let at = c.in-If.at in
    let xs = block_places (the_statements c.deref.result.now) in
    let parts : at ∷ (xs ++ []) ≡ at ∷ (block_places (the_statements c.in-If.holds.items) ++ else_places c.in-If.fails) =
    (λ i. at ∷ (block_places (the_statements (c.deref.ensures.value i)) ++ []))
    ∙ ap (λ o. at ∷ (block_places (the_statements c.in-If.holds.items) ++ else_places o)) (sym c.in-None.is) in
    let whole : statement_places (the_statement c.args.s.now) ≡ at ∷ (xs ++ []) = ap (λ z. statement_places (the_statement z)) c.in-If.is ∙ if_places at c.in-If.field-1 c.in-If.holds c.in-If.fails ∙ sym parts in
    parts_added c.args.places.now c.push.new.self c.add_statements.new.places c.add_statements.new.places (statement_places (the_statement c.args.s.now)) at xs []
    c.in_ok-push-in-If.ensures.ok c.in_ok-add_statements-in-If.ensures (sym (append-nil c.add_statements.new.places)) whole

pub add_statement-returns-in_ok-push-in-While : goal.add_statement-returns-in_ok-push-in-While
add_statement-returns-in_ok-push-in-While t c =
    let at = c.in-While.at in
    let xs = block_places (the_statements c.deref-in-While.result.now) in
    let whole : statement_places (the_statement c.args.s.now) ≡ at ∷ xs = ap (λ z. statement_places (the_statement z)) c.in-While.is ∙ while_places at c.in-While.field-1 c.in-While.body ∙ ap (λ z. at ∷ block_places (the_statements z)) (sym c.deref-in-While.ensures.value) in
    on_ok_weaker c.add_statements-in-While.result
    (λ e. parts_added c.args.places.now c.push-in-While.new.self c.push-in-While.new.self c.add_statements-in-While.new.places (statement_places (the_statement c.args.s.now)) at [] xs
    c.in_ok-push-in-While.ensures.ok (sym (append-nil c.push-in-While.new.self)) e whole)
    c.add_statements-in-While.ensures

pub add_statements-add_statement-requires : goal.add_statements-add_statement-requires
add_statements-add_statement-requires t c =
    let less = item_places c.args.ss.now c.loop-s.s-index c.s-item.result c.loop-s-test.true c.s-item.is in
    (omega (arith, c.decreases, less), tt)
