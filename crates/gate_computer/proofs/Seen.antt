-- The Computer is seen as the instruction machine is.
use Rattle.std.proofs.Common.{ℕ, ◌<◌, List, refl, ap, ◌∙◌, arith}
use Rattle.std.specs.Prelude.{slice_index}
use Rattle.hack_isa.specs.Machine.{machine_at}
use Rattle.simulation.specs.Laws.{SameTrace}
use Rattle.simulation.proofs.Traces.{same_counts}
use Rattle.simulation.proofs.Following.{following_too}
use Rattle.image_map.specs.Map.{Map}
use Rattle.image_map.specs.Computer.{reads_key, run_trace, run_word}
use Rattle.hdl_tree.specs.declared.ends.Memories.TheVariants.{Blocks}
use Rattle.hdl_tree.specs.Behaviour.{Histories}
use Rattle.hack_cpu.specs.Library.{shipped_chips}
use Rattle.hack_cpu.specs.Computer.{of_blocks, Shows, a_at, word_at}
use Rattle.hack_cpu.proofs.HasAll.{has_all}
use Rattle.hack_cpu.proofs.Cycle.{same}
use Rattle.gate_computer.specs.Computer.{IsComputer, trace_shown}
use Rattle.gate_computer.specs.Laws.{SeenLaw, GatesLaw}

module _ (image : List ℕ) (keys : ℕ → ℕ) (m : ℕ) (wires : List ℕ → Histories) (is : IsComputer image keys m wires) where
  pub shows_at : (c : ℕ) → c < m → Shows wires c (machine_at image keys c)
  shows_at c lt = same image keys (of_blocks shipped_chips) (has_all Blocks) m wires is.behaves is.no_reset c lt

  pub same_trace : (map : Map) (n : ℕ) → n < m → SameTrace (trace_shown image map keys wires) (run_trace image map keys) n
  same_trace map n lt = record {
    commits = λ c l. ap map.commits (shows_at c (omega arith)).pc;
    hears = λ c l.
        let s = shows_at c (omega arith) in
        ap (λ p. reads_key (slice_index image p) (a_at wires c)) s.pc ∙ ap (reads_key (slice_index image (machine_at image keys c).pc)) s.a;
    key = λ c l. refl;
    point = λ c l. ap map.points (shows_at c (omega arith)).pc;
  }

pub seen : SeenLaw
seen image map keys m wires is n lt = record {
  counts = same_counts (trace_shown image map keys wires) (run_trace image map keys) n (same_trace image keys m wires is map n lt);
  words = λ a l. (shows_at image keys m wires is n lt).memory a l;
}

pub gates : (S : Type 0) → GatesLaw S
gates S meaning start image map keys most n f m wires near is =
    following_too meaning start (trace_shown image map keys wires) (run_trace image map keys) (word_at wires) (run_word image keys) most n
    (same_trace image keys m wires is map n (omega arith))
    (λ c l. ap map.commits (shows_at image keys m wires is c (omega arith)).pc)
    (λ a d. (shows_at image keys m wires is n (omega arith)).memory a d.1)
    f
