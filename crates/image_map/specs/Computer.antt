-- The computer as a machine of the layers, and what is counted of its run. It has an image, the points and commits of its addresses, and the
-- endless loop at its end. (The book, chapters 4 and 5.)
use Rattle.std.specs.Prelude.{ℕ, ◌+◌, Bool, true, nat_eq, ◌&&◌, ◌||◌, List, Some, slice_index}
use Rattle.word16.specs.Memory.{keyboard}
use Rattle.word16.specs.Words.{has_bit}
use Rattle.hack_isa.specs.Machine.{Machine, machine_at, step}
use Rattle.simulation.specs.System.{System}
use Rattle.simulation.specs.Trace.{Trace, trace_of}
use Rattle.image_map.specs.Map.{Map}

-- where the endless loop of an image with start code is
abbrev pub endless_loop : ℕ
endless_loop = 21

-- By its word the instruction may read M, while A is the keyboard's address: bit 15 says that it computes, bit 12 that
-- it reads M. A shift of D with bit 12 counts too, though the bit means nothing there.
abbrev pub reads_key : ℕ → ℕ → Bool
reads_key instruction a = has_bit instruction 15 && (has_bit instruction 12 && nat_eq a keyboard)

-- The machine stands in the endless loop at an address: before its first instruction, or before its jump with A at the loop.
abbrev pub in_loop : ℕ → Machine → Bool
in_loop loop s = nat_eq s.pc loop || (nat_eq s.pc (loop + 1) && nat_eq s.a loop)

-- The computer with this image, map and endless loop. It makes a step under each key.
abbrev pub hack_system : List ℕ → Map → ℕ → System Machine
hack_system image map loop = record {
  step = λ key s. Some (step image key s);
  commits = λ s. map.commits s.pc;
  hears = λ s. reads_key (slice_index image s.pc) s.a;
  halted = λ s. in_loop loop s;
  fits = λ s. true;
  point = λ s. map.points s.pc;
  word = λ s. s.memory;
}

-- ---- its run

-- What is counted of the computer's run with this image and map, from its start, under these keys.
abbrev pub run_trace : List ℕ → Map → (ℕ → ℕ) → Trace
run_trace image map keys = trace_of (hack_system image map endless_loop) keys (machine_at image keys)

-- the word of the computer at a cycle and an address
abbrev pub run_word : List ℕ → (ℕ → ℕ) → ℕ → ℕ → ℕ
run_word image keys n = (machine_at image keys n).memory
