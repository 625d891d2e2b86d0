use Rattle.std.proofs.Common.{◌≡◌, length, true, arith, sym, subst, ap, ◌∙◌}
use Rattle.std.proofs.lemmas.List.{take_at}
use Rattle.netlist.specs.Present.{value_in}
use Rattle.gate_sim.specs.contracts.sim.Sim.{the_view}
use Rattle.gate_sim.specs.Stands.{Keeps}
use Rattle.gate_sim.specs.Inner.Evaluated.{IsEvaluated}
use Rattle.gate_sim.proofs.Refreshing.{row_over, fits_after, evaluated_after, keeps_after, fresh_after, few_after}
use Rattle.gate_sim.proofs.sim.Sim.refresh.Goals as goal

pub invariant_of-self : goal.invariant_of-self
invariant_of-self g c =
    let cut = take_at c.clear.new.written _ _ (omega arith) in
    let row = row_over c.self.inside.packed c.self.inside.memory.items _ _ c.deref.ensures.value c.follow.ensures.row in
    fits_after c.self.inside.packed _ c.follow.ensures.state _ _ _ _ _ _ c.self.invariant row (ap length cut ∙ omega arith) (λ b. ap (λ l. value_in l b) cut ∙ c.clear.ensures b)

pub returns-then-not-self-clause-evaluated : goal.returns-then-not-self-clause-evaluated
returns-then-not-self-clause-evaluated g c =
    let cut = take_at c.clear.new.written _ _ (omega arith) in
    let row = row_over c.self.inside.packed c.self.inside.memory.items _ _ c.deref.ensures.value c.follow.ensures.row in
    evaluated_after c.self.inside.packed _ c.follow.ensures.state (the_view c.self.inside) _ c.self.invariant.ordered row (λ b. ap (λ l. value_in l b) cut ∙ c.clear.ensures b)

pub returns-then-not-self-clause-keeps : goal.returns-then-not-self-clause-keeps
returns-then-not-self-clause-keeps g c calls keeps =
    let row = row_over c.self.inside.packed c.self.inside.memory.items _ _ c.deref.ensures.value c.follow.ensures.row in
    keeps_after c.self.inside.packed _ c.follow.ensures.state (the_view c.self.inside) _ c.self.invariant.ordered row calls (subst (λ s. Keeps s calls) (sym c.self.view_is) keeps)

pub returns-then-not-self-clause-values : goal.returns-then-not-self-clause-values
returns-then-not-self-clause-values g c calls keeps fresh =
    let row = row_over c.self.inside.packed c.self.inside.memory.items _ _ c.deref.ensures.value c.follow.ensures.row in
    fresh_after c.self.inside.packed _ c.follow.ensures.state (the_view c.self.inside) c.self.inside.written.items c.self.invariant.ordered row calls (subst (λ s. Keeps s calls) (sym c.self.view_is) keeps)

pub returns-then-not-self-clause-few : goal.returns-then-not-self-clause-few
returns-then-not-self-clause-few g c = few_after (the_view c.self.inside) _ _ _ _ _ c.self.view_is c.deref-then-not-self.ensures.value c.follow.ensures.counted

pub returns-else-not-self-clause-evaluated : goal.returns-else-not-self-clause-evaluated
returns-else-not-self-clause-evaluated g c =
    let e = c.if-not-self.false in
    subst IsEvaluated c.self.view_is (record { ordered = c.self.invariant.ordered; begun = c.self.invariant.begun e; unwritten = c.self.invariant.unwritten e; row = c.self.invariant.passed e })

pub returns-else-not-self-clause-values : goal.returns-else-not-self-clause-values
returns-else-not-self-clause-values g c calls keeps fresh = fresh (subst (λ s. s.fresh ≡ true) c.self.view_is c.if-not-self.false)
