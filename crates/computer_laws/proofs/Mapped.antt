-- Memory by its own pins.
use Rattle.std.proofs.Common.{◌≡◌, ℕ, zero, suc, ◌<◌, Bool, true, false, cond, eqb, ltb, List, [], ◌∷◌, refl, sym, ap, ◌∙◌, arith}
use Rattle.std.specs.Prelude.{◌&&◌, codes}
use Rattle.std.proofs.lemmas.Bool.{ltb-true}
use Rattle.hdl_tree.specs.Memory.{number}
use Rattle.hdl_tree.specs.Chips.{Chips}
use Rattle.hdl_tree.specs.Behaviour.{Histories, World, IsBehaviour}
use Rattle.chip_basic.specs.Hdl.{shipped_entry}
use Rattle.chip_basic.specs.Laws.{bits, word}
use Rattle.hack_cpu.specs.Computer.{block_word}
use Rattle.hack_cpu.specs.Trees.{HasComputerChips, memory_tree}
use Rattle.hack_cpu.proofs.Memory.{memory_word, memory_next, memory_reads}
use Rattle.hack_cpu.proofs.Memories.{main_block, upper_block}
use Rattle.computer_laws.specs.Memory.{IsMapped, MemoryWorks}

both_zero : (b : Bool) → (let zeros : ℕ = cond b 0 0 in zeros ≡ 0)
both_zero true = refl
both_zero false = refl

module _ (world : World) (library : Chips) (has : HasComputerChips library) (n : ℕ) (w : List ℕ → Histories) (h : IsBehaviour world library (shipped_entry memory_tree) n w) where
  pub held : (c : ℕ) → c < n → (a : ℕ) → a < 24576 → block_word 15 (w []) c a ≡ memory_word w c a
  held zero lt a small = sym (both_zero (ltb a 16384))
  held (suc c) lt a small =
      let less : c < n = omega (arith, lt) in
      ap (λ (x : ℕ). cond (w [] (codes "load") 0 c && eqb (number 15 (λ k. w [] (codes "address") k c)) a) (word (w []) "in" c) x) (held c less a small)
      ∙ sym (memory_next world library has n w h (main_block world library has n w h) (upper_block world library has n w h) c less a small)

  pub gives : (c : ℕ) → c < n → MemoryWorks world (w []) c
  gives c lt = memory_reads world library has n w h (main_block world library has n w h) (upper_block world library has n w h) c lt ∙ by (ltb (bits 15 (w []) "address" c) 24576) refl
    where
      by : (b : Bool) → ltb (bits 15 (w []) "address" c) 24576 ≡ b
          → cond b (memory_word w c (bits 15 (w []) "address" c)) (world.key c) ≡ cond b (block_word 15 (w []) c (bits 15 (w []) "address" c)) (world.key c)
      by true e = sym (held c lt (bits 15 (w []) "address" c) (ltb-true (bits 15 (w []) "address" c) 24576 e))
      by false e = refl

  pub mapped : (c : ℕ) → c < n → (a : ℕ) → a < 24576 → IsMapped w c a
  mapped c lt a small = held c lt a small
