-- What is reported of a program that ran at the four levels.
use Rattle.std.proofs.Common.{◌≡◌, ◌<◌, ◌≤◌, ◌↔◌, ℕ, zero, suc, Bool, true, false, List, refl, sym, ap, subst, ◌∙◌, arith, lit<}
use Rattle.std.specs.Prelude.{if◌then◌else◌}
use Rattle.simulation.specs.System.{IsKey}
use Rattle.simulation.specs.Trace.{Trace, steps}
use Rattle.machine_io.specs.History.{moves_from}
use Rattle.hack_machine.specs.Loaded.{machine_of}
use Rattle.hack_isa.specs.Machine.{Machine}
use Rattle.jack_core.specs.declared.program.Core.{Core}
use Rattle.hdl_tree.specs.Behaviour.{Histories}
use Rattle.image_map.specs.declared.map.Image.{Image}
use Rattle.gate_computer.specs.Computer.{IsComputer}
use Rattle.gate_computer.specs.Followed.{GateMachine, HasFollowed, image_in, word_in}
use Rattle.tower.specs.Image.{IsImageOf}
use Rattle.tower.specs.Mapped.{MappedMachine, StandsAt, image_in as hack_image}
use Rattle.nand_cli.specs.Commands.Soak.{IsOutcome, Shows, word_sum}
use Rattle.nand_cli.specs.Commands.SoakLevels.{AreAlike, AreLevelsAlike, gates_view, hack_view, no_keys, silent_trace}
use Rattle.nand_cli.specs.Inner.SoakParts.{view_in}
use Rattle.nand_cli.proofs.OnGates.{shows_cycle}
use Rattle.nand_cli.proofs.SoakSums.{same_sum}
use Rattle.nand_cli.proofs.SoakViews.{IsViewOf, alike_back, levels_too}

pub keys_are : (c : ℕ) → IsKey (no_keys c)
keys_are c = lit< tt

-- there are no more steps than cycles
step_more : (b : Bool) (k n : ℕ) → k ≤ n → (if b then suc k else k) ≤ suc n
step_more true k n h = omega (arith, h)
step_more false k n h = omega (arith, h)

pub steps_few : (t : Trace) (n : ℕ) → steps t n ≤ n
steps_few t zero = omega arith
steps_few t (suc n) = step_more (t.commits n) (steps t n) n (steps_few t n)

-- ---- level gates

pub gates_seen : (g : GateMachine) → IsViewOf (view_in g) (record { moves = g.moves; steps = g.tally.steps; point = g.tally.point; word = word_in g })
gates_seen g = record { words = λ a d. refl; point = refl }

-- ---- level hack

pub hack_seen : (h : MappedMachine) (image : Image) (n : ℕ) → hack_image h ≡ image → StandsAt h no_keys n
    → IsViewOf (hack_view image n) (record { moves = h.hack.moves; steps = h.tally.steps; point = h.tally.point; word = (machine_of h.hack).memory })
hack_seen h image n same at =
    subst (λ (p : Image). IsViewOf (hack_view p n) (record { moves = h.hack.moves; steps = h.tally.steps; point = h.tally.point; word = (machine_of h.hack).memory })) same
    (record { words = λ a d. ap (λ (s : Machine). s.memory a) (sym at.machine); point = at.seen })

-- ---- the outcome

module _ (core : Core) (g : GateMachine) (n bound m sum : ℕ) (b : Bool) (followed : HasFollowed g (moves_from no_keys 0 n)) (count : m ≡ g.tally.steps) (summed : sum ≡ word_sum (word_in g))
    (told : (b ≡ true) ↔ AreLevelsAlike core (image_in g) n bound m (view_in g)) where
  shown_in : (k : ℕ) (wires : List ℕ → Histories) → n < k → IsComputer g.image no_keys k wires → Shows core (image_in g) n bound m sum b wires
  shown_in k wires near is =
      let s = shows_cycle g no_keys n followed k wires near is in
      let counted : m ≡ steps (silent_trace (image_in g) wires) n = count ∙ s.counted in
      let alike : AreAlike (gates_view (image_in g) n wires) (view_in g) = record { words = λ a d. sym (s.words a d.1); point = s.seen } in
      let back = alike_back (gates_view (image_in g) n wires) (view_in g) alike in
      let seen = gates_view (image_in g) n wires in
      record {
        counted = counted;
        summed = summed ∙ same_sum _ _ (λ a from_on below. s.words a below);
        told = (
          λ e. subst (λ (j : ℕ). AreLevelsAlike core (image_in g) n bound j seen) counted (levels_too (view_in g) seen alike core (image_in g) n bound m (told.0 e)),
          λ h. told.1 (levels_too seen (view_in g) back core (image_in g) n bound m (subst (λ (j : ℕ). AreLevelsAlike core (image_in g) n bound j seen) (sym counted) h)),
        );
      }

  own_outcome : IsImageOf core (image_in g) → IsOutcome core n bound m sum b
  own_outcome is = record {
    image = image_in g;
    is_image = is;
    behaves = followed.behaves no_keys keys_are;
    shows = shown_in;
  }

pub outcome_is : (core : Core) (image : Image) (g : GateMachine) (n bound m sum : ℕ) (b : Bool) → IsImageOf core image → image_in g ≡ image → HasFollowed g (moves_from no_keys 0 n) → m ≡ g.tally.steps
    → sum ≡ word_sum (word_in g) → (b ≡ true) ↔ AreLevelsAlike core image n bound m (view_in g) → IsOutcome core n bound m sum b
outcome_is core image g n bound m sum b is same followed count summed told =
    own_outcome core g n bound m sum b followed count summed
    (subst (λ (p : Image). (b ≡ true) ↔ AreLevelsAlike core p n bound m (view_in g)) (sym same) told)
    (subst (IsImageOf core) (sym same) is)

-- it has few steps
pub few_steps : (g : GateMachine) (n : ℕ) → HasFollowed g (moves_from no_keys 0 n) → g.tally.steps ≤ n
few_steps g n followed =
    let some = followed.behaves no_keys keys_are (suc n) in
    let s = shows_cycle g no_keys n followed (suc n) some.0 (omega arith) some.1 in
    let few = steps_few (silent_trace (image_in g) some.0) n in
    let counted : g.tally.steps ≡ steps (silent_trace (image_in g) some.0) n = s.counted in
    omega (arith, counted, few)
