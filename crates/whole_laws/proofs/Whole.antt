-- The Computer whose memories are made of gates is seen as the instruction machine is, and so follows what that follows.
use Rattle.std.proofs.Common.{ℕ, zero, suc, ◌<◌, false, List, [], ◌∷◌, refl, ap, ◌∙◌, arith}
use Rattle.std.specs.Prelude.{slice_index, codes}
use Rattle.std.specs.List.{All}
use Rattle.std.proofs.lemmas.List.Elements.{All-head, All-tail}
use Rattle.hack_isa.specs.Machine.{machine_at}
use Rattle.simulation.specs.Laws.{SameTrace}
use Rattle.simulation.proofs.Following.{following_too}
use Rattle.image_map.specs.Map.{Map, the_map}
use Rattle.image_map.specs.Computer.{reads_key, run_trace, run_word}
use Rattle.hdl_tree.specs.Chips.{Chips}
use Rattle.hdl_tree.specs.Behaviour.{Histories}
use Rattle.hdl_check.specs.Whole.{chips_in}
use Rattle.hdl_plans.specs.Ways.{HasBit}
use Rattle.hdl_behaviours.specs.Existence.{HasBehaviour}
use Rattle.chip_basic.specs.Hdl.{shipped_entry}
use Rattle.hack_cpu.specs.Computer.{Shows, a_at, outside, word_at}
use Rattle.hack_cpu.specs.Library.{shipped_chips}
use Rattle.hack_cpu.specs.Trees.{computer_tree}
use Rattle.hack_cpu.proofs.HasAll.{has_all}
use Rattle.hack_cpu.proofs.Existing.{existing}
use Rattle.gate_computer.specs.Computer.{trace_shown}
use Rattle.hack_cpu.proofs.Cycle.{same}
use Rattle.jack_core.specs.Texts.{the_program}
use Rattle.jack_meaning.specs.Level.{meaning_of}
use Rattle.jack_meaning.specs.Meaning.{State, start}
use Rattle.tower.proofs.Computers.{computer}
use Rattle.whole_laws.specs.Whole.{IsWholeComputer, WholeFollowsLaw, WholeHeadlineLaw, WholeRunsLaw}

module _ (library : Chips) (image : List ℕ) (keys : ℕ → ℕ) (m : ℕ) (wires : List ℕ → Histories) (is : IsWholeComputer library image keys m wires) where
  shows_at : (c : ℕ) → c < m → Shows wires c (machine_at image keys c)
  shows_at c lt = same image keys library is.has m wires is.behaves is.no_reset c lt

  same_trace : (map : Map) (n : ℕ) → n < m → SameTrace (trace_shown image map keys wires) (run_trace image map keys) n
  same_trace map n lt = record {
    commits = λ c l. ap map.commits (shows_at c (omega arith)).pc;
    hears = λ c l.
        let s = shows_at c (omega arith) in
        ap (λ p. reads_key (slice_index image p) (a_at wires c)) s.pc ∙ ap (reads_key (slice_index image (machine_at image keys c).pc)) s.a;
    key = λ c l. refl;
    point = λ c l. ap map.points (shows_at c (omega arith)).pc;
  }

pub follows : (S : Type 0) → WholeFollowsLaw S
follows S meaning start image map keys most n f library m wires near is =
    following_too meaning start (trace_shown image map keys wires) (run_trace image map keys) (word_at wires) (run_word image keys) most n
    (same_trace library image keys m wires is map n (omega arith))
    (λ c l. ap map.commits (shows_at library image keys m wires is c (omega arith)).pc)
    (λ a d. (shows_at library image keys m wires is n (omega arith)).memory a d.1)
    f

pub headline : WholeHeadlineLaw
headline core image resolved is keys words n =
    let r = computer core image resolved is keys words n in
    (r.0, r.1, λ library m wires near whole. follows State (meaning_of (the_program core).subroutines) (start (the_program core)) image.words (the_map image.map) keys r.0 n r.2 library m wires near whole)

-- ---- behaviours

word_in : (image : List ℕ) (a : ℕ) → All (λ w. w < 65536) image → slice_index image a < 65536
word_in [] a h = omega arith
word_in (w ∷ ws) zero h = All-head (λ x. x < 65536) w ws h
word_in (w ∷ ws) (suc a) h = word_in ws a (All-tail (λ x. x < 65536) w ws h)

reset_bit : HasBit (shipped_entry computer_tree).chip.inputs (codes "reset") 0
unfolding computer_tree
reset_bit = record { width = 1; there = refl; below = omega arith }

pub runs : WholeRunsLaw
runs memories image keys n words held =
    let b : HasBehaviour (outside image keys) (chips_in shipped_chips memories) (shipped_entry computer_tree) n (λ name bit c. false) =
    existing memories (codes "Computer") (shipped_entry computer_tree) (has_all memories).computer (outside image keys) (record { keys = held; words = λ a. word_in image a words }) n (λ name bit c. false) in
    (b.wires, record { has = has_all memories; behaves = b.behaves; no_reset = λ c l. b.hears (codes "reset") 0 c reset_bit })
