use Rattle.std.proofs.Common.{◌≡◌, ◌+◌, [], ◌∷◌, ◌++◌, ℕ, map, take, sym, ap, subst, ◌∙◌, IfOk, arith}
use Rattle.std.specs.Prelude.{is_some}
use Rattle.std.proofs.lemmas.List.{map-append, take_more}
use Rattle.std.proofs.lemmas.Grind.{common_steps}
use Rattle.jack_meaning.specs.Text.{If, While, text_of}
use Rattle.jack_core.specs.Reading.{the_expression}
use Rattle.jack_core.specs.Texts.{the_statement, the_block}
use Rattle.jack_core.proofs.Blocks.{if_reads, while_reads}
use Rattle.jack_names.specs.Sizes.{size, sizes, else_size}
use Rattle.jack_names.specs.Inner.Meant.{exp_meant, statement_meant, statements_meant, else_meant}
use Rattle.jack_names.specs.Inner.Scoped.{the_scope}
use Rattle.jack_names.proofs.Meanings.{if_means, if_counts, while_means, while_counts, statements_meant-push, sizes-push, sizes_from}
use Rattle.jack_names.proofs.bodies.+bodies.Goals as goal

pub statement_meant-if_meant-requires : goal.statement_meant-if_meant-requires
statement_meant-if_meant-requires t c =
    let size_is : size c.args.s.now ≡ 1 + sizes c.in-If.holds.items + else_size c.in-If.fails = ap size c.in-If.is ∙ if_counts c.in-If.field-0 c.in-If.condition c.in-If.holds c.in-If.fails in
    let same : sizes c.deref.result.now ≡ sizes c.in-If.holds.items = ap sizes c.deref.ensures.value in
    (omega (arith, c.decreases, size_is, same), omega (arith, c.requires, size_is, same))

pub statement_meant-while_meant-requires : goal.statement_meant-while_meant-requires
statement_meant-while_meant-requires t c =
    let size_is : size c.args.s.now ≡ 1 + sizes c.in-While.body.items = ap size c.in-While.is ∙ while_counts c.in-While.field-0 c.in-While.condition c.in-While.body in
    let same : sizes c.deref-in-While.result.now ≡ sizes c.in-While.body.items = ap sizes c.deref-in-While.ensures.value in
    (omega (arith, c.decreases, size_is, same), omega (arith, c.requires, size_is, same))

pub statement_meant-returns-in-If-clause-text : goal.statement_meant-returns-in-If-clause-text
statement_meant-returns-in-If-clause-text t c =
    let n = c.args.number in
    let s = the_scope c.args.scope.now in
    let e = c.in-If.condition in
    let b = c.in-If.fails in
    let same : If n (is_some b) (exp_meant s e) (text_of (statements_meant s (n + 1) c.deref.result.now)) (else_meant s (n + 1 + sizes c.deref.result.now) b) ≡ statement_meant s n c.args.s.now =
    ap (λ ss. If n (is_some b) (exp_meant s e) (text_of (statements_meant s (n + 1) ss)) (else_meant s (n + 1 + sizes ss) b)) c.deref.ensures.value
    ∙ sym (if_means s n c.in-If.field-0 e c.in-If.holds b) ∙ ap (statement_meant s n) (sym c.in-If.is) in
    subst (λ x. IfOk c.if_meant.result (λ r. the_statement r.0 ≡ x)) same (rw c.get.ensures at c.if_meant.ensures.text)

pub statement_meant-returns-in-If-clause-next : goal.statement_meant-returns-in-If-clause-next
statement_meant-returns-in-If-clause-next t c =
    let n = c.args.number in
    let size_is : size c.args.s.now ≡ 1 + sizes c.in-If.holds.items + else_size c.in-If.fails = ap size c.in-If.is ∙ if_counts c.in-If.field-0 c.in-If.condition c.in-If.holds c.in-If.fails in
    let same : sizes c.deref.result.now ≡ sizes c.in-If.holds.items = ap sizes c.deref.ensures.value in
    let next : n + 1 + sizes c.deref.result.now + else_size c.in-If.fails ≡ n + size c.args.s.now = omega (arith, size_is, same) in
    subst (λ (x : ℕ). IfOk c.if_meant.result (λ r. r.1 ≡ x)) next c.if_meant.ensures.next

pub statement_meant-returns-in-While-clause-text : goal.statement_meant-returns-in-While-clause-text
statement_meant-returns-in-While-clause-text t c =
    let n = c.args.number in
    let s = the_scope c.args.scope.now in
    let e = c.in-While.condition in
    let same : While n (exp_meant s e) (text_of (statements_meant s (n + 1) c.deref-in-While.result.now)) ≡ statement_meant s n c.args.s.now =
    ap (λ ss. While n (exp_meant s e) (text_of (statements_meant s (n + 1) ss))) c.deref-in-While.ensures.value
    ∙ sym (while_means s n c.in-While.field-0 e c.in-While.body) ∙ ap (statement_meant s n) (sym c.in-While.is) in
    subst (λ x. IfOk c.while_meant.result (λ r. the_statement r.0 ≡ x)) same c.while_meant.ensures.text

pub statement_meant-returns-in-While-clause-next : goal.statement_meant-returns-in-While-clause-next
statement_meant-returns-in-While-clause-next t c =
    let n = c.args.number in
    let size_is : size c.args.s.now ≡ 1 + sizes c.in-While.body.items = ap size c.in-While.is ∙ while_counts c.in-While.field-0 c.in-While.condition c.in-While.body in
    let same : sizes c.deref-in-While.result.now ≡ sizes c.in-While.body.items = ap sizes c.deref-in-While.ensures.value in
    let next : n + 1 + sizes c.deref-in-While.result.now ≡ n + size c.args.s.now = omega (arith, size_is, same) in
    subst (λ (x : ℕ). IfOk c.while_meant.result (λ r. r.1 ≡ x)) next c.while_meant.ensures.next

pub if_meant-statements_meant-requires : goal.if_meant-statements_meant-requires
if_meant-statements_meant-requires t c = (omega (arith, c.decreases), omega (arith, c.requires))

pub if_meant-else_meant-requires : goal.if_meant-else_meant-requires
if_meant-else_meant-requires t c = (omega (arith, c.decreases), omega (arith, c.requires, c.in_ok-holds.ensures.next))

pub if_meant-returns-clause-text : goal.if_meant-returns-clause-text
if_meant-returns-clause-text t c =
    let n = c.args.number in
    let s = the_scope c.args.scope.now in
    let e = c.args.condition.now in
    let o = is_some c.args.fails.now in
    if_reads n c.is_some-has_else.result c.in_ok-condition.condition c.in_ok-holds.holds c.in_ok-fails.fails
    ∙ ap (λ x. If n x (the_expression c.in_ok-condition.condition) (the_block c.in_ok-holds.holds.items) (the_block c.in_ok-fails.fails.items)) c.is_some-has_else.ensures
    ∙ ap (λ x. If n o x (the_block c.in_ok-holds.holds.items) (the_block c.in_ok-fails.fails.items)) c.in_ok-condition.ensures
    ∙ ap (λ x. If n o (exp_meant s e) (text_of x) (the_block c.in_ok-fails.fails.items)) c.in_ok-holds.ensures.text
    ∙ ap (λ x. If n o (exp_meant s e) (text_of (statements_meant s (n + 1) c.args.holds.now)) x) (c.in_ok-fails.ensures.text ∙ ap (λ (k : ℕ). else_meant s k c.args.fails.now) c.in_ok-holds.ensures.next)

pub while_meant-statements_meant-requires : goal.while_meant-statements_meant-requires
while_meant-statements_meant-requires t c = (omega (arith, c.decreases), omega (arith, c.requires))

pub while_meant-returns-clause-text : goal.while_meant-returns-clause-text
while_meant-returns-clause-text t c =
    let n = c.args.number in
    let s = the_scope c.args.scope.now in
    while_reads n c.in_ok-condition.condition c.in_ok-body.body
    ∙ ap (λ x. While n x (the_block c.in_ok-body.body.items)) c.in_ok-condition.ensures
    ∙ ap (λ x. While n (exp_meant s c.args.condition.now) (text_of x)) c.in_ok-body.ensures.text

pub statements_meant-statement_meant-requires : goal.statements_meant-statement_meant-requires
statements_meant-statement_meant-requires t c =
    let from = sizes_from c.args.ss.now c.loop-s.s-index c.s-item.result c.loop-s-test.true c.s-item.is in
    (omega (arith, c.decreases, from), omega (arith, c.requires, c.loop-s.invariant.number, from))

pub statements_meant-loop-s-preserved : goal.statements_meant-loop-s-preserved
statements_meant-loop-s-preserved t c =
    let ss = c.args.ss.now in
    let i = c.loop-s.s-index in
    let s = the_scope c.args.scope.now in
    let first = c.args.first in
    let more = take_more ss i c.s-item.result c.loop-s-test.true ∙ ap (λ x. take i ss ++ x ∷ []) (sym c.s-item.is) in
    record {
      texts =
          ap (map the_statement) c.in_ok-push.ensures.items
          ∙ map-append the_statement c.loop-s.texts.items (c.in_ok-text.text ∷ [])
          ∙ ap (λ l. l ++ the_statement c.in_ok-text.text ∷ []) c.loop-s.invariant.texts
          ∙ ap (λ x. statements_meant s first (take i ss) ++ x ∷ []) (c.in_ok-text.ensures.text ∙ ap (λ (k : ℕ). statement_meant s k c.s-item.result) c.loop-s.invariant.number)
          ∙ sym (statements_meant-push s first (take i ss) c.s-item.result)
          ∙ ap (statements_meant s first) (sym more);
      number = omega (arith, c.in_ok-text.ensures.next, c.loop-s.invariant.number, ap sizes more, sizes-push (take i ss) c.s-item.result);
    }

pub statement_meant-returns-in_ok-text-in-Let-clause-text : goal.statement_meant-returns-in_ok-text-in-Let-clause-text
statement_meant-returns-in_ok-text-in-Let-clause-text t c = grind (arith, common_steps)

pub statement_meant-returns-in_ok-text-in-Let-clause-next : goal.statement_meant-returns-in_ok-text-in-Let-clause-next
statement_meant-returns-in_ok-text-in-Let-clause-next t c = grind (arith, common_steps)

pub statement_meant-returns-in_ok-call-in-Do-clause-text : goal.statement_meant-returns-in_ok-call-in-Do-clause-text
statement_meant-returns-in_ok-call-in-Do-clause-text t c = grind (arith, common_steps)

pub statement_meant-returns-in_ok-call-in-Do-clause-next : goal.statement_meant-returns-in_ok-call-in-Do-clause-next
statement_meant-returns-in_ok-call-in-Do-clause-next t c = grind (arith, common_steps)

pub statement_meant-returns-in_ok-value-in-Return-clause-text : goal.statement_meant-returns-in_ok-value-in-Return-clause-text
statement_meant-returns-in_ok-value-in-Return-clause-text t c = grind (arith, common_steps)

pub statement_meant-returns-in_ok-value-in-Return-clause-next : goal.statement_meant-returns-in_ok-value-in-Return-clause-next
statement_meant-returns-in_ok-value-in-Return-clause-next t c = grind (arith, common_steps)

pub if_meant-returns-clause-next : goal.if_meant-returns-clause-next
if_meant-returns-clause-next t c = grind (arith, common_steps)

pub while_meant-returns-clause-next : goal.while_meant-returns-clause-next
while_meant-returns-clause-next t c = grind (arith, common_steps)

pub statements_meant-returns-clause-text : goal.statements_meant-returns-clause-text
statements_meant-returns-clause-text t c = grind (arith, common_steps)

pub statements_meant-returns-clause-next : goal.statements_meant-returns-clause-next
statements_meant-returns-clause-next t c = grind (arith, common_steps)

pub else_meant-returns-in-Some-clause-text : goal.else_meant-returns-in-Some-clause-text
else_meant-returns-in-Some-clause-text t c = grind (arith, common_steps)

pub else_meant-returns-in-Some-clause-next : goal.else_meant-returns-in-Some-clause-next
else_meant-returns-in-Some-clause-next t c = grind (arith, common_steps)

pub else_meant-statements_meant-requires : goal.else_meant-statements_meant-requires
else_meant-statements_meant-requires t c = grind (arith, common_steps)
