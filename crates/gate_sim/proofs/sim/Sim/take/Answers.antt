use Rattle.std.proofs.Common.{◌∷◌, length, arith, refl, sym, subst, ap, ◌∙◌}
use Rattle.std.proofs.lemmas.List.{take_at}
use Rattle.netlist.specs.Net.{Net}
use Rattle.netlist.specs.Present.{value_in}
use Rattle.netlist.specs.Words.{word_at, HasWords}
use Rattle.gate_sim.specs.contracts.sim.Sim.{the_view}
use Rattle.gate_sim.specs.Calls.Call.{Tock}
use Rattle.gate_sim.specs.Stands.{Keeps}
use Rattle.gate_sim.proofs.Fields.{keeps_started}
use Rattle.gate_sim.proofs.Refreshing.{fits_started}
use Rattle.gate_sim.proofs.Standing.{keeps_take}
use Rattle.gate_sim.proofs.Marking.{settled_take}
use Rattle.gate_sim.proofs.sim.Sim.take.Goals as goal

pub invariant_of-self : goal.invariant_of-self
invariant_of-self c =
    let fits = c.self.invariant in
    let memory = take_at c.store.new.memory _ _ (omega arith) in
    let written = take_at c.mark_writes.new.written _ _ (omega arith) in
    fits_started c.self.inside.packed _ c.take_states.ensures.state _ _ _ _ fits.ordered fits.are_writes
    (subst (HasWords c.self.inside.packed.net.blocks) (sym memory) (subst (λ b. HasWords b c.store.new.memory) (c.blocks-2.ensures.value ∙ ap (λ (n : Net). n.blocks) c.net.ensures) c.store.ensures.kept))
    (ap length written ∙ omega arith)
    (λ begun. settled_take c.self.inside.packed.net c.self.inside.written.items _ c.self.inside.writes.items c.self.inside.memory.items _ (value_in c.self.inside.packed.values)
    (λ b. ap (λ l. value_in l b) written ∙ c.mark_writes.ensures b ∙ (rw (c.deref_mut-2.ensures.value, c.deref-2.ensures.value) refl))
    (λ b a. ap (λ l. word_at l b a) memory ∙ c.store.ensures.words b a ∙ (rw (c.deref.ensures.value, c.deref_mut.ensures.value) refl))
    (fits.settled begun))

pub returns-clause-net : goal.returns-clause-net
returns-clause-net c = ap (λ x. x.net) c.take_states.ensures.state ∙ ap (λ s. s.net) c.self.view_is

pub returns-clause-values : goal.returns-clause-values
returns-clause-values c = ap (λ x. x.values) c.take_states.ensures.state ∙ ap (λ s. s.values) c.self.view_is

pub returns-clause-keeps : goal.returns-clause-keeps
returns-clause-keeps c calls keeps =
    let s = the_view c.self.inside in
    let kept = subst (λ s. Keeps s calls) (sym c.self.view_is) keeps in
    let memory = take_at c.store.new.memory _ _ (omega arith) in
    keeps_started c.self.inside.packed _ c.take_states.ensures.state s _ _ (Tock ∷ calls)
    (keeps_take s calls _ _ _ c.take_states.ensures.pins c.take_states.ensures.flips
    (λ b a. ap (λ l. word_at l b a) memory ∙ c.store.ensures.words b a ∙ (rw (c.deref.ensures.value, c.deref_mut.ensures.value) refl))
    kept)
