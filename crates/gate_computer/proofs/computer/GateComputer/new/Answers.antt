use Rattle.std.proofs.Common.{◌≡◌, ◌<◌, ◌≤◌, ◌+◌, ◌^◌, ℕ, false, length, refl, ap, sym, subst, ◌∙◌, arith, [], ◌∷◌}
use Rattle.std.specs.Prelude.{nat_eq, slice_get, slice_index, ◌%◌, MatchOption}
use Rattle.std.proofs.Math.Nat.{zero-div}
use Rattle.word16.specs.Words.{has_bit}
use Rattle.netlist.specs.Net.{Net}
use Rattle.netlist.specs.Order.{AreOrdered}
use Rattle.gate_sim.specs.Calls.Call.{Load}
use Rattle.gate_sim.specs.Stands.{StandsFor}
use Rattle.gate_computer.specs.Simple.{ShowsComputer}
use Rattle.gate_computer.specs.Inner.Readable.{IsReadable}
use Rattle.gate_computer.proofs.Simple.{readable_of, room_of}
use Rattle.gate_computer.proofs.Following.{followed_none}
use Rattle.gate_computer.proofs.computer.GateComputer.new.Goals as goal

no_bit : (j : ℕ) → has_bit 0 j ≡ false
no_bit j = ap (λ q. nat_eq (q % 2) 1) (zero-div (2 ^ j))

pub load_block-requires : goal.load_block-requires
load_block-requires c =
    subst (λ (m : Net). MatchOption (slice_get m.blocks c.args.wired.wiring.rom) ⊥ (λ b. 0 + length c.as_slice.result.now ≤ b.words)) (sym c.in_ok-sim.ensures.net)
    (rw c.as_slice.ensures (room_of c.args.wired.net c.args.wired.wiring c.requires.shows (length c.args.image.words) c.requires.mapped.room))

pub invariant_of-result : goal.invariant_of-result
invariant_of-result c =
    let none = c.in_ok-new.ensures.steps in
    record {
      readable = subst (λ m. IsReadable m c.args.wired.wiring) (sym (c.load_block.ensures.net ∙ c.in_ok-sim.ensures.net)) (readable_of c.args.wired.net c.args.wired.wiring c.requires.shows);
      few_steps = omega (arith, none);
      few_keys = omega arith;
    }

pub returns-clause-stands : goal.returns-clause-stands
returns-clause-stands c =
    let net = c.load_block.ensures.net ∙ c.in_ok-sim.ensures.net in
    rw c.words.view_is (followed_none _
    (subst (λ m. ShowsComputer m c.args.wired.wiring) (sym net) c.requires.shows)
    (subst (λ (m : Net). AreOrdered m.nodes m.blocks) (sym net) c.ordered_law.ensures)
    (λ a. subst (λ l. slice_index l a < 65536) c.as_slice-2.ensures (c.words_fit.ensures a))
    (subst (λ l. StandsFor c.load_block.new.self (Load c.args.wired.wiring.rom 0 l ∷ [])) c.as_slice.ensures (c.load_block.ensures.stands [] c.in_ok-sim.ensures.stands))
    (record { bits = λ j less. sym (no_bit j); others = λ k out. refl })
    (omega arith) refl refl c.in_ok-new.ensures.tallied)

pub returns-clause-net : goal.returns-clause-net
returns-clause-net c = c.load_block.ensures.net ∙ c.in_ok-sim.ensures.net
