-- The computer with its map, one move further.
use Rattle.std.proofs.Common.{◌≡◌, ◌+◌, ℕ, suc, List, [], ◌∷◌, ◌++◌, length, refl, ap, ◌∙◌, sym, subst, arith, add-one}
use Rattle.std.proofs.lemmas.List.Elements.{All-push}
use Rattle.machine_io.specs.History.{Turn, turn}
use Rattle.machine_io.specs.declared.machine.Moved.TheVariants.{Acted}
use Rattle.hack_isa.specs.Machine.{Machine, machine_at, step, start}
use Rattle.hack_machine.specs.Loaded.{machine_of}
use Rattle.simulation.specs.Trace.{steps, point_at}
use Rattle.image_map.specs.Map.{the_map}
use Rattle.image_map.specs.Computer.{run_trace}
use Rattle.image_map.specs.Tallies.{HasTallied}
use Rattle.image_map.proofs.Holding.{holds_before, holds_last, one_longer}
use Rattle.image_map.proofs.Tallying.{machine_pc, run_steps, run_point}
use Rattle.tower.specs.Mapped.{MappedMachine, StandsAt, HasFollowed}

-- what was counted of the run of the image in it is what was counted of its addresses
tallied : (h : MappedMachine) (keys : ℕ → ℕ) (n : ℕ) → h.tally.at ≡ h.hack.pc → StandsAt h keys n → HasTallied h.tally (machine_pc h.hack.image keys) n
tallied h keys n at s = record {
  here = at ∙ ap (λ (m : Machine). m.pc) s.machine;
  counted = s.counted ∙ sym (run_steps h.hack.image (the_map h.tally.map) keys n);
  seen = run_point h.hack.image (the_map h.tally.map) keys n ∙ s.seen;
}

module _ (old new : MappedMachine) (key : ℕ) (image : new.hack.image ≡ old.hack.image) (moves : new.hack.moves ≡ old.hack.moves + 1)
    (machine : machine_of new.hack ≡ step old.hack.image key (machine_of old.hack)) (at : old.tally.at ≡ old.hack.pc)
    (tallies : (pc : ℕ → ℕ) (n : ℕ) → HasTallied old.tally pc n → pc (suc n) ≡ new.hack.pc → HasTallied new.tally pc (suc n)) where
  stands_more : (keys : ℕ → ℕ) (n : ℕ) → keys n ≡ key → StandsAt old keys n → StandsAt new keys (suc n)
  stands_more keys n held h =
      let here : machine_of new.hack ≡ machine_at old.hack.image keys (suc n) =
      machine ∙ ap (λ k. step old.hack.image k (machine_of old.hack)) (sym held) ∙ ap (step old.hack.image (keys n)) h.machine in
      let now = tallies (machine_pc old.hack.image keys) n (tallied old keys n at h) (sym (ap (λ (m : Machine). m.pc) here)) in
      record {
        machine = here ∙ ap (λ i. machine_at i keys (suc n)) (sym image);
        moves = moves ∙ ap (λ m. m + 1) h.moves ∙ add-one n;
        counted = now.counted ∙ run_steps old.hack.image (the_map new.tally.map) keys (suc n)
            ∙ ap (λ i. steps (run_trace i (the_map new.tally.map) keys) (suc n)) (sym image);
        seen = ap (λ i. point_at (run_trace i (the_map new.tally.map) keys) (suc n)) image
            ∙ sym (run_point old.hack.image (the_map new.tally.map) keys (suc n)) ∙ now.seen;
      }

  -- one more turn
  pub followed_more : (turns : List Turn) → HasFollowed old turns → HasFollowed new (turns ++ turn key Acted ∷ [])
  followed_more turns h = record {
    acted = All-push (λ t. t.answer ≡ Acted) turns (turn key Acted) h.acted refl;
    stands = λ keys held.
        subst (StandsAt new keys) (sym (one_longer turns (turn key Acted)))
        (stands_more keys (length turns) (holds_last keys turns (turn key Acted) held) (h.stands keys (holds_before keys 0 turns (turn key Acted) held)));
  }

-- nothing done yet
pub followed_none : (h : MappedMachine) → machine_of h.hack ≡ start → h.hack.moves ≡ 0 → ((pc : ℕ → ℕ) → pc 0 ≡ 0 → HasTallied h.tally pc 0) → HasFollowed h []
followed_none h machine moves none = record {
  acted = λ k d no. absurd (omega (arith, no));
  stands = λ keys held.
      let now = none (machine_pc h.hack.image keys) refl in
      record { machine = machine; moves = moves; counted = now.counted; seen = now.seen };
}
