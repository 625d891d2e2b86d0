use Rattle.std.proofs.Common.{◌∷◌, sym, subst, ap, ◌∙◌, arith}
use Rattle.std.proofs.lemmas.List.{take_at}
use Rattle.netlist.specs.Steps.{AreWrites, after_write, write_at}
use Rattle.gate_sim.specs.contracts.sim.Sim.{the_view}
use Rattle.gate_sim.specs.Calls.Call.{Tick}
use Rattle.gate_sim.specs.Stands.{Keeps, IsFresh}
use Rattle.gate_sim.specs.Inner.Evaluated.{IsEvaluated}
use Rattle.gate_sim.proofs.Fields.{fits_fixed, keeps_fixed, evaluated_fixed}
use Rattle.gate_sim.proofs.Refreshing.{over}
use Rattle.gate_sim.proofs.Standing.{keeps_fix, fresh_tick}
use Rattle.gate_sim.proofs.sim.Sim.fix.Goals as goal

pub invariant_of-self : goal.invariant_of-self
invariant_of-self c =
    let fits = c.self.invariant in
    let writes = take_at c.fix_writes.new.writes _ _ (omega arith) in
    fits_fixed c.self.inside.packed _ c.fix_states.ensures.state _ c.self.inside.memory.items c.self.inside.fresh c.self.inside.written.items c.self.inside.whole
    (record {
      ordered = fits.ordered;
      are_writes = subst (AreWrites c.self.inside.packed.net.blocks) (sym writes) c.fix_writes.ensures.inside;
      has_words = fits.has_words;
      written_long = fits.written_long;
      settled = fits.settled;
      passed = fits.passed;
      begun = fits.begun;
      unwritten = fits.unwritten;
    })

pub returns-clause-keeps : goal.returns-clause-keeps
returns-clause-keeps c calls keeps fresh =
    let s = the_view c.self.inside in
    let kept = subst (λ s. Keeps s calls) (sym c.self.view_is) keeps in
    let fresh' = subst (λ s. IsFresh s calls) (sym c.self.view_is) fresh in
    let writes = take_at c.fix_writes.new.writes _ _ (omega arith) in
    keeps_fixed c.self.inside.packed _ c.fix_states.ensures.state s _ (Tick ∷ calls)
    (keeps_fix s calls _ _ c.self.invariant.ordered c.fix_states.ensures.flips
    (λ b a old. ap (λ l. after_write (write_at l b) a old) writes ∙ c.fix_writes.ensures.words b a old)
    kept fresh')

pub returns-clause-values : goal.returns-clause-values
returns-clause-values c calls fresh =
    let s = the_view c.self.inside in
    subst (λ x. IsFresh (over s x) (Tick ∷ calls)) (sym c.fix_states.ensures.state) (fresh_tick s calls (subst (λ s. IsFresh s calls) (sym c.self.view_is) fresh))

pub returns-clause-evaluated : goal.returns-clause-evaluated
returns-clause-evaluated c is =
    let s = the_view c.self.inside in
    let old = subst IsEvaluated (sym c.self.view_is) is in
    evaluated_fixed c.self.inside.packed _ c.fix_states.ensures.state s _ (record { ordered = old.ordered; begun = old.begun; unwritten = old.unwritten; row = old.row })
