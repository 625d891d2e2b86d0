-- The instruction memory of a chip, as the code finds it.
use Rattle.std.proofs.Common.{◌≡◌, ℕ, zero, suc, List, [], ◌∷◌, map, sym, subst}
use Rattle.std.specs.Prelude.{MatchOption, slice_get, codes}
use Rattle.netlist.specs.declared.node.Block.{Block}
use Rattle.script_device.specs.declared.directory.Directory.{Directory}
use Rattle.script_device.specs.Directory.{AreSizes, HasBlock, LoadedChip}
use Rattle.script_device.specs.Inner.Driving.{HasMemory, IsWhole}
use Rattle.script_device.proofs.Found.{one_block}

whole_block : (blocks : List Block) (b : ℕ) → IsWhole (map (λ x. x.words) blocks) b → MatchOption (slice_get blocks b) ⊥ (λ x. x.words ≡ 32768)
whole_block [] b w = w
whole_block (x ∷ blocks) zero w = w
whole_block (x ∷ blocks) (suc b) w = whole_block blocks b w

block_whole : (blocks : List Block) (b : ℕ) → MatchOption (slice_get blocks b) ⊥ (λ x. x.words ≡ 32768) → IsWhole (map (λ x. x.words) blocks) b
block_whole [] b w = w
block_whole (x ∷ blocks) zero w = w
block_whole (x ∷ blocks) (suc b) w = block_whole blocks b w

module _ (chip : LoadedChip) (d : Directory) (name : List ℕ) (e : d ≡ chip.directory) (f : name ≡ codes "ROM32K") where
  block_of : (b : ℕ) → HasMemory chip b → HasBlock d name b
  block_of b m = subst (λ x. HasBlock x name b) (sym e) (subst (λ n. HasBlock chip.directory n b) (sym f) m.0)

  pub no_memory : ((b : ℕ) → HasBlock d name b → ⊥) → (b : ℕ) → HasMemory chip b → ⊥
  no_memory none b m = none b (block_of b m)

  pub has_memory : (sizes : List ℕ) (b : ℕ) → AreSizes sizes chip.net → HasBlock d name b → IsWhole sizes b → HasMemory chip b
  has_memory sizes b same h w = (subst (λ n. HasBlock chip.directory n b) f (subst (λ x. HasBlock x name b) e h), whole_block chip.net.blocks b (subst (λ s. IsWhole s b) same w))

  pub not_whole : (sizes : List ℕ) (b : ℕ) → AreSizes sizes chip.net → HasBlock d name b → (IsWhole sizes b → ⊥) → (c : ℕ) → HasMemory chip c → ⊥
  not_whole sizes b same h unlike c m =
      let one : c ≡ b = one_block d name c b (block_of c m) h in
      unlike (subst (IsWhole sizes) one (subst (λ s. IsWhole s c) (sym same) (block_whole chip.net.blocks c m.1)))
