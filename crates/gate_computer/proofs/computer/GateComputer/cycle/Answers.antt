use Rattle.std.proofs.Common.{◌≡◌, ◌≤◌, ◌+◌, ◌∷◌, ℕ, suc, Bool, true, false, refl, sym, ap, subst, ◌∙◌, arith, add-one}
use Rattle.std.specs.Prelude.{if◌then◌else◌, slice_index}
use Rattle.netlist.specs.Present.{value_in}
use Rattle.netlist.specs.Value.{spelled_number}
use Rattle.gate_sim.specs.Calls.{pins_of}
use Rattle.gate_sim.specs.Calls.Call.{Tick}
use Rattle.image_map.specs.Computer.{reads_key}
use Rattle.gate_computer.specs.contracts.computer.GateComputer.{the_view}
use Rattle.gate_computer.specs.Calls.{HoldsKey}
use Rattle.gate_computer.specs.Inner.Told.{HasSet}
use Rattle.gate_computer.specs.Inner.Readable.{IsReadable}
use Rattle.gate_computer.specs.Followed.{HasFollowed}
use Rattle.gate_computer.proofs.Following.{followed_more}
use Rattle.gate_computer.proofs.computer.GateComputer.cycle.Goals as goal

few_more : (b : Bool) (heard heard' moves : ℕ) → heard' ≡ (if b then suc heard else heard) → heard ≤ moves → heard' ≤ moves + 1
few_more true heard heard' moves e h = omega (arith, e, h)
few_more false heard heard' moves e h = omega (arith, e, h)

pub invariant_of-self : goal.invariant_of-self
invariant_of-self c =
    let steps = c.go.ensures.few in
    let before = c.self.invariant.few_steps in
    record {
      readable = subst (λ m. IsReadable m c.self.inside.wiring) (sym (c.tock.ensures.net ∙ c.tick.ensures.net ∙ c.set_keyboard.ensures.net)) c.self.invariant.readable;
      few_steps = omega (arith, steps, before);
      few_keys = few_more c.hears_key-hears.result c.self.inside.heard _ c.self.inside.moves c.counted-self-inside.ensures c.self.invariant.few_keys;
    }

pub returns-clause-stands : goal.returns-clause-stands
returns-clause-stands c turns h =
    let g = the_view c.self.inside in
    let f = subst (λ s. HasFollowed s turns) (sym c.self.view_is) h in
    let netA = c.set_keyboard.ensures.net in
    let netT = c.tick.ensures.net ∙ netA in
    let netK = c.tock.ensures.net ∙ netT in
    let set = subst (λ l. HasSet c.set_keyboard.new.sim f.told.calls (HoldsKey l c.args.key)) c.as_slice.ensures
    (c.set_keyboard.ensures.told f.told.calls f.told.stands (subst (λ l. HoldsKey l c.self.inside.key (pins_of c.self.inside.sim.net.nodes f.told.calls)) (sym c.as_slice.ensures) f.told.held)) in
    let stT = c.tick.ensures.stands set.now set.stands in
    let stK = c.tock.ensures.stands (Tick ∷ set.now) stT in
    let row = value_in c.tick.new.self.values in
    let heard_is = c.hears_key-hears.ensures
    ∙ ap (λ l. reads_key (slice_index l c.at.result) (spelled_number row c.as_slice-2.result.now)) c.as_slice-3.ensures
    ∙ ap (λ x. reads_key (slice_index c.self.inside.image x) (spelled_number row c.as_slice-2.result.now)) c.at.ensures
    ∙ ap (λ l. reads_key (slice_index c.self.inside.image c.self.inside.tally.at) (spelled_number row l)) c.as_slice-2.ensures in
    followed_more g _ c.set_keyboard.new.sim c.tick.new.self c.args.key turns f netA netT netK (omega arith) refl refl refl (add-one c.self.inside.moves) set stT stK
    c.number_at.result c.hears_key-hears.result heard_is c.counted-self-inside.ensures
    (c.number_at.ensures ∙ ap (spelled_number (value_in c.tock.new.self.values)) c.as_slice-4.ensures)
    c.go.ensures.at c.go.ensures.tallied
