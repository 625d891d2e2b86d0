-- A memory kept as a list is read and written as the function.
use Rattle.std.proofs.Common.{◌≡◌, ℕ, ◌+◌, ◌<◌, ◌≤◌, ◌%◌, List, length, arith}
use Rattle.std.specs.Prelude.{slice_set, slice_index}
use Rattle.std.proofs.lemmas.Grind.{common_steps, elements}
use Rattle.std.specs.Prelude.{Bool, if◌then◌else◌}
use Rattle.word16.specs.Words.{has_bit, word_shift}
use Rattle.hack_isa.specs.Table.{alu_out}
use Rattle.hack_isa.specs.declared.Instr.TheVariants.{Compute, Shift}
use Rattle.hack_isa.specs.Machine.{Machine, read, write, jumps, with_result, fetch, step}
use Rattle.hack_machine.specs.Loaded.{words_of}

pub stored : (ram : List ℕ) (a v : ℕ) → length ram ≡ 24576 → a % 32768 < 24576 → words_of (slice_set ram (a % 32768) v) ≡ write (words_of ram) a v
unfolding write
stored ram a v n h =
    let at : (k : ℕ) → slice_index (slice_set ram (a % 32768) v) k ≡ write (words_of ram) a v k = λ k. grind (arith, common_steps, elements) in
    λ i k. at k i

pub not_stored : (ram : List ℕ) (a v : ℕ) → 24576 ≤ a % 32768 → words_of ram ≡ write (words_of ram) a v
unfolding write
not_stored ram a v h =
    let at : (k : ℕ) → slice_index ram k ≡ write (words_of ram) a v k = λ k. grind (arith, common_steps) in
    λ i k. at k i

pub all_zero : (ram : List ℕ) → ((k : ℕ) → words_of ram k ≡ 0) → words_of ram ≡ (λ k. 0)
all_zero ram h = λ i k. h k i

-- the parts of a machine with a result, one by one
pub resulted : (s : Machine) (dest jump out a' d' pc' : ℕ) (mem : ℕ → ℕ) → mem ≡ (if has_bit dest 0 then write s.memory s.a out else s.memory) → d' ≡ (if has_bit dest 1 then out else s.d) → a' ≡ (if has_bit dest 2 then out else s.a) → pc' ≡ (if jumps jump out then s.a % 32768 else (s.pc + 1) % 32768) → (let after : Machine = record { a = a'; d = d'; pc = pc'; memory = mem } in after ≡ with_result out dest jump s)
resulted s dest jump out a' d' pc' mem me de ae pe = rw (ae, de, pe, me)

-- a step whose result is known
pub computed : (image : List ℕ) (key : ℕ) (s after : Machine) (m : Bool) (comp dest jump y out : ℕ) → Compute m comp dest jump ≡ fetch image s → y ≡ (if m then read s.memory key s.a else s.a) → out ≡ alu_out comp s.d y → after ≡ with_result out dest jump s → after ≡ step image key s
unfolding step
computed image key s after m comp dest jump y out f ye oe e = rw (← f, e, oe, ye)

pub shifted : (image : List ℕ) (key : ℕ) (s after : Machine) (m left d : Bool) (dest jump y out : ℕ) → Shift m left d dest jump ≡ fetch image s → y ≡ (if d then s.d else (if m then read s.memory key s.a else s.a)) → out ≡ word_shift left y → after ≡ with_result out dest jump s → after ≡ step image key s
unfolding step
shifted image key s after m left d dest jump y out f ye oe e = rw (← f, e, oe, ye)
