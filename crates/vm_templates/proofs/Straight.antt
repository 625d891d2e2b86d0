-- The commands without a jump.
use Rattle.std.proofs.Common.{ℕ, Bool, true, false, ◌+◌, ◌-◌, ◌<◌, ◌≤◌, ◌%◌, arith}
use Rattle.std.proofs.lemmas.Bool.Decides.{nat_tests}
use Rattle.word16.specs.Words.{word_shift}
use Rattle.hack_isa.specs.declared.Instr.TheVariants.{Compute, Shift}
use Rattle.vm_templates.specs.Templates.{push_d, push_constant, push_word, push_at, push_first, pop_word, join, turn}
use Rattle.vm_templates.specs.Effects.{Pushed, Joined, Turned, Stored}
use Rattle.vm_templates.proofs.Alu.{comp_value}
use Rattle.vm_templates.proofs.Block.{Data, do_block, Safe}

-- what the pieces do to the memory
module _ (x : Data) where
  pub push_d_does : 256 ≤ x.m 0 → x.m 0 < 2048 → Pushed x.m (do_block push_d x).m x.d × Safe push_d x
  push_d_does low high = (record { sp = grind (arith, nat_tests); top = grind (arith, nat_tests); same = λ k h e. grind (arith, nat_tests) }, search arith)

  pub push_constant_does : (n : ℕ) → 256 ≤ x.m 0 → x.m 0 < 2048 → n < 32768 → Pushed x.m (do_block (push_constant n) x).m n × Safe (push_constant n) x
  push_constant_does n low high small = (record { sp = grind (arith, nat_tests); top = grind (arith, nat_tests); same = λ k h e. grind (arith, nat_tests) }, search arith)

  pub push_word_does : (r : ℕ) → 256 ≤ x.m 0 → x.m 0 < 2048 → r < 24576 → Pushed x.m (do_block (push_word r) x).m (x.m r) × Safe (push_word r) x
  push_word_does r low high small = (record { sp = grind (arith, nat_tests); top = grind (arith, nat_tests); same = λ k h e. grind (arith, nat_tests) }, search arith)

  pub push_at_does : (r i : ℕ) → 256 ≤ x.m 0 → x.m 0 < 2048 → r < 24576 → i < 32768 → (i + x.m r) % 65536 < 24576 → Pushed x.m (do_block (push_at r i) x).m (x.m ((i + x.m r) % 65536)) × Safe (push_at r i) x
  push_at_does r i low high small index inside = (record { sp = grind (arith, nat_tests); top = grind (arith, nat_tests); same = λ k h e. grind (arith, nat_tests) }, search arith)

  pub push_first_does : (r : ℕ) → 256 ≤ x.m 0 → x.m 0 < 2048 → r < 24576 → x.m r < 24576 → Pushed x.m (do_block (push_first r) x).m (x.m (x.m r)) × Safe (push_first r) x
  push_first_does r low high small inside = (record { sp = grind (arith, nat_tests); top = grind (arith, nat_tests); same = λ k h e. grind (arith, nat_tests) }, search arith)

  pub pop_word_does : (r : ℕ) → 257 ≤ x.m 0 → x.m 0 ≤ 2048 → 1 ≤ r → r < 256 → Stored x.m (do_block (pop_word r) x).m r × Safe (pop_word r) x
  pop_word_does r low high one small = (record { sp = grind (arith, nat_tests); there = grind (arith, nat_tests); same = λ k h e. grind (arith, nat_tests) }, search arith)

  pub join_does : (comp : ℕ) → 258 ≤ x.m 0 → x.m 0 ≤ 2048 → Joined x.m (do_block (join (Compute true comp 1 0)) x).m (comp_value comp (x.m (x.m 0 - 1)) (x.m (x.m 0 - 2))) × Safe (join (Compute true comp 1 0)) x
  join_does comp low high = (record { sp = grind (arith, nat_tests); top = grind (arith, nat_tests); same = λ k h e. grind (arith, nat_tests) }, search arith)

  pub turn_does : (comp : ℕ) → 257 ≤ x.m 0 → x.m 0 ≤ 2048 → Turned x.m (do_block (turn (Compute true comp 1 0)) x).m (comp_value comp x.d (x.m (x.m 0 - 1))) × Safe (turn (Compute true comp 1 0)) x
  turn_does comp low high = (record { top = grind (arith, nat_tests); same = λ k e. grind (arith, nat_tests) }, search arith)

  pub shift_does : (left : Bool) → 257 ≤ x.m 0 → x.m 0 ≤ 2048 → Turned x.m (do_block (turn (Shift true left false 1 0)) x).m (word_shift left (x.m (x.m 0 - 1))) × Safe (turn (Shift true left false 1 0)) x
  shift_does left low high = (record { top = grind (arith, nat_tests); same = λ k e. grind (arith, nat_tests) }, search arith)
