use Rattle.std.proofs.Common.{◌≡◌, ◌+◌, ◌++◌, ℕ, suc, refl, sym, ap, subst, ◌∙◌, arith}
use Rattle.jack_meaning.specs.Text.{Store, If, While}
use Rattle.jack_core.specs.Reading.{the_expression}
use Rattle.jack_compiler.specs.Inner.Surroundings.{the_around}
use Rattle.jack_compiler.specs.Inner.Added.{Adds}
use Rattle.jack_compiler.specs.Lines.{into_if}
use Rattle.jack_compiler.specs.declared.bodies.Body.{Body}
use Rattle.std.proofs.lemmas.Result.{on_ok_weaker}
use Rattle.jack_core.specs.Texts.{the_statement, the_block}
use Rattle.jack_core.proofs.Blocks.{if_reads, while_reads}
use Rattle.jack_compiler.specs.Inner.Named.{NamesIn, NamesText}
use Rattle.jack_compiler.proofs.Named.{statement_named}
use Rattle.jack_compiler.proofs.Adding.{weight_of, weight_in, adds_long, adds_loop, adds_plain, weight_item}
use Rattle.jack_compiler.proofs.bodies.+statement.Goals as goal

pub add_if-add_statements-requires : goal.add_if-add_statements-requires
add_if-add_statements-requires t c = (omega (arith, c.decreases), c.requires.holds)

pub add_if-add_statements-requires-2 : goal.add_if-add_statements-requires-2
add_if-add_statements-requires-2 t c = (omega (arith, c.decreases), c.requires.fails)

pub add_while-add_statements-requires : goal.add_while-add_statements-requires
add_while-add_statements-requires t c = (omega (arith, c.decreases), c.requires.turn)

pub add_statement-add_if-requires : goal.add_statement-add_if-requires
add_statement-add_if-requires t c =
    let size_is : weight_of (the_statement c.args.s.now) ≡ suc (suc (weight_in (the_block c.in-If.holds.items) + weight_in (the_block c.in-If.fails.items))) =
    ap (λ z. weight_of (the_statement z)) c.in-If.is ∙ ap weight_of (if_reads c.in-If.number c.in-If.has_else c.in-If.condition c.in-If.holds c.in-If.fails) in
    let holds : weight_in (the_block c.deref.result.now) ≡ weight_in (the_block c.in-If.holds.items) = ap (λ z. weight_in (the_block z)) c.deref.ensures.value in
    let fails : weight_in (the_block c.deref-in-If.result.now) ≡ weight_in (the_block c.in-If.fails.items) = ap (λ z. weight_in (the_block z)) c.deref-in-If.ensures.value in
    let reads = ap the_statement c.in-If.is ∙ if_reads c.in-If.number c.in-If.has_else c.in-If.condition c.in-If.holds c.in-If.fails in
    let named = subst (NamesIn c.args.around.now) reads c.requires in (
      omega (arith, c.decreases, size_is, holds, fails),
      (
        named.0,
        (
          subst (λ z. NamesText c.args.around.now (the_block z)) (sym c.deref.ensures.value) named.1,
          subst (λ z. NamesText c.args.around.now (the_block z)) (sym c.deref-in-If.ensures.value) named.2,
        ),
      ),
    )

pub add_statement-add_while-requires : goal.add_statement-add_while-requires
add_statement-add_while-requires t c =
    let size_is : weight_of (the_statement c.args.s.now) ≡ suc (suc (weight_in (the_block c.in-While.turn.items))) =
    ap (λ z. weight_of (the_statement z)) c.in-While.is ∙ ap weight_of (while_reads c.in-While.number c.in-While.condition c.in-While.turn) in
    let turn : weight_in (the_block c.deref-in-While.result.now) ≡ weight_in (the_block c.in-While.turn.items) = ap (λ z. weight_in (the_block z)) c.deref-in-While.ensures.value in
    let reads = ap the_statement c.in-While.is ∙ while_reads c.in-While.number c.in-While.condition c.in-While.turn in
    let named = subst (NamesIn c.args.around.now) reads c.requires in (
      omega (arith, c.decreases, size_is, turn),
      (named.0, subst (λ z. NamesText c.args.around.now (the_block z)) (sym c.deref-in-While.ensures.value) named.1),
    )

pub add_statements-add_statement-requires : goal.add_statements-add_statement-requires
add_statements-add_statement-requires t c =
    let less = weight_item c.args.ss.now c.loop-index.index c.index-ss-index.result c.loop-index-test.true c.index-ss-index.is in
    (omega (arith, c.decreases, less), statement_named c.args.around.now c.args.ss.now c.loop-index.index c.index-ss-index.result c.loop-index-test.true c.index-ss-index.is c.requires)

pub add_statement-returns-in-Store : goal.add_statement-returns-in-Store
add_statement-returns-in-Store t c =
    let new : Body = record { lines = c.add_element.new.lines; ifs = c.args.body.now.ifs; whiles = c.args.body.now.whiles } in
    on_ok_weaker c.add_element.result
    (λ e. subst (λ s. Adds (the_around c.args.around.now) c.args.next (the_statement s) c.args.body.now new) (sym c.in-Store.is)
    (adds_plain (the_around c.args.around.now) c.args.next (Store c.in-Store.number (the_expression c.in-Store.base) (the_expression c.in-Store.index) (the_expression c.in-Store.value)) c.args.body.now new refl refl
    (e c.args.next c.args.body.now.ifs c.args.body.now.whiles) refl refl))
    c.add_element.ensures

pub add_statement-returns-in-If : goal.add_statement-returns-in-If
add_statement-returns-in-If t c =
    on_ok_weaker c.add_if.result
    (λ e. subst (λ s. Adds (the_around c.args.around.now) c.args.next s c.args.body.now c.add_if.new.body)
    ((λ i. If c.in-If.number c.in-If.has_else (the_expression c.in-If.condition) (the_block (c.deref.ensures.value i)) (the_block (c.deref-in-If.ensures.value i)))
    ∙ sym (if_reads c.in-If.number c.in-If.has_else c.in-If.condition c.in-If.holds c.in-If.fails) ∙ ap the_statement (sym c.in-If.is)) e)
    c.add_if.ensures

pub add_statement-returns-in-While : goal.add_statement-returns-in-While
add_statement-returns-in-While t c =
    on_ok_weaker c.add_while.result
    (λ e. subst (λ s. Adds (the_around c.args.around.now) c.args.next s c.args.body.now c.add_while.new.body)
    (ap (λ z. While c.in-While.number (the_expression c.in-While.condition) (the_block z)) c.deref-in-While.ensures.value
    ∙ sym (while_reads c.in-While.number c.in-While.condition c.in-While.turn) ∙ ap the_statement (sym c.in-While.is)) e)
    c.add_while.ensures

pub add_if-returns : goal.add_if-returns
add_if-returns t c =
    on_ok_weaker c.add_label-2.result
    (λ e. adds_long (the_around c.args.around.now) c.args.next c.args.n c.args.branches.now.has_else (the_expression c.args.condition.now) (the_block c.args.branches.now.holds.now) (the_block c.args.branches.now.fails.now)
    c.args.body.now _ _ c.add_statements.new.body _ c.add_statements-2.new.body _ _ (sym c.no_else.ensures ∙ c.if-no_else.false) c.in_ok-add_expression.ensures
    (c.in_ok-enter_if.ensures ∙ ap (λ (z : ℕ). c.add_expression.new.lines ++ into_if c.args.n z c.args.body.now.ifs) c.first_number.ensures) refl c.in_ok-body.ensures refl c.in_ok-add_statements.ensures
    c.in_ok-enter_else.ensures refl refl c.in_ok-add_statements-2.ensures e refl refl)
    c.add_label-2.ensures

pub add_while-returns : goal.add_while-returns
add_while-returns t c =
    on_ok_weaker c.leave_while.result
    (λ e. adds_loop (the_around c.args.around.now) c.args.next c.args.n (the_expression c.args.condition.now) (the_block c.args.turn.now) c.args.body.now _ _ c.add_statements.new.body _ _ _
    c.in_ok-add_label.ensures c.in_ok-add_expression.ensures c.in_ok-enter_while.ensures refl refl c.in_ok-body.ensures c.in_ok-add_statements.ensures e refl refl)
    c.leave_while.ensures
