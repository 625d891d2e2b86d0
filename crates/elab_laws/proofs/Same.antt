-- Two elaborated netlists of a chip show the same.
use Rattle.std.proofs.Common.{ℕ, sym, ap, ◌∙◌, arith}
use Rattle.gate_sim.specs.Calls.{cycle_of}
use Rattle.elab_laws.specs.Same.{SameLaw}
use Rattle.elab_laws.proofs.Bits.{one_block, one_out, one_pin}
use Rattle.elab_laws.proofs.Values.{always, bit_same, words_same}

pub shown_same : SameLaw
shown_same chips name top e e' pins found faultless is is' ordered calls calls' v v' same are are' =
    let row = always chips name top pins found faultless e e' is is' ordered calls calls' same v v' are are' in
    record {
      pins = λ k node node' c s le.
          let b = one_pin chips name top pins found faultless e e' is is' k node node' s in
          sym (ap (λ (i : ℕ). v i c) b.at) ∙ bit_same chips name top pins found faultless e e' is is' (λ i. v i c) (λ i. v' i c) (row c le) b.path b.name b.bit b.driven ∙ ap (λ (i : ℕ). v' i c) b.at';
      outs = λ k node node' c s le.
          let b = one_out chips name top pins found faultless e e' is is' k node node' s in
          sym (ap (λ (i : ℕ). v i c) b.at) ∙ bit_same chips name top pins found faultless e e' is is' (λ i. v i c) (λ i. v' i c) (row c le) b.path b.name b.bit b.driven ∙ ap (λ (i : ℕ). v' i c) b.at';
      words = λ later later' also le b b' a s.
          words_same chips name top pins found faultless e e' is is' v v' (cycle_of calls) (λ d lt. row d (omega arith)) later later' also le b b' (one_block chips name top pins found faultless e e' is is' b b' s) a;
    }
