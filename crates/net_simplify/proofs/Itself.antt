-- A netlist shows of itself what it shows: where the same comes in, its values and its words are the same.
use Rattle.std.proofs.Common.{◌≡◌, ◌<◌, ◌+◌, ℕ, Bool, true, List, [], ◌∷◌, length, refl, sym, ap, ap₂, arith}
use Rattle.std.specs.Prelude.{map, slice_index}
use Rattle.std.specs.List.{All}
use Rattle.netlist.specs.declared.node.Block.{Block}
use Rattle.netlist.specs.Net.{Net}
use Rattle.netlist.specs.Order.{AreOrdered}
use Rattle.netlist.specs.Folded.{IsFolded, moved_block}
use Rattle.netlist.specs.Value.{Inputs, AreValues, held_in}
use Rattle.netlist.proofs.Folded.{held_law}
use Rattle.net_simplify.specs.Same.{HearSame, ShowsSame}

pub map_itself : (xs : List ℕ) → map (λ k. k) xs ≡ xs
map_itself [] = refl
map_itself (x ∷ xs) = ap (λ l. x ∷ l) (map_itself xs)

block_itself : (b : Block) → b ≡ moved_block (λ k. k) b
block_itself b = sym (ap₂ (λ d a. record { words = b.words; «data» = d; load = b.load; address = a }) (map_itself b.data) (map_itself b.address))

blocks_itself : (bs : List Block) → bs ≡ map (moved_block (λ k. k)) bs
blocks_itself [] = refl
blocks_itself (b ∷ bs) = ap₂ (λ x xs. x ∷ xs) (block_itself b) (blocks_itself bs)

all_used : (xs : List ℕ) → All (λ i. true ≡ true) xs
all_used xs i d less = refl

folded_itself : (net : Net) → IsFolded net net (λ k. true) (λ k. k)
folded_itself net = record {
  pin = λ k u e. (e, refl);
  flip = λ k i u e. (refl, e);
  word = λ k b bit u e. e;
  zero = λ k u e start words row is. is k _ e;
  nand = λ k i j u e. (refl, refl, λ start words row is. is k _ e);
  reads = λ b block e. (all_used block.address, all_used block.data, refl);
  blocks = blocks_itself net.blocks;
}

module _ (net : Net) (ordered : AreOrdered net.nodes net.blocks) (h g : Inputs) (n : ℕ) (same : HearSame net net n h g) (v w : ℕ → ℕ → Bool) (are : AreValues net h n v) (own : AreValues net g n w) where
  alike : ((c k : ℕ) → c < n → true ≡ true → k < length net.nodes → v k c ≡ w k c) × ((c b a : ℕ) → c < n + 1 → held_in net.blocks h.loaded v c b a ≡ held_in net.blocks g.loaded w c b a)
  alike = held_law net net (λ k. true) (λ k. k) ordered (folded_itself net) n h g v w same.pins same.loaded are own

  pub values_itself : (k c : ℕ) → c < n → k < length net.nodes → v k c ≡ w k c
  values_itself k c less there = alike.0 c k less refl there

  pub words_itself : (c b a : ℕ) → c < n + 1 → held_in net.blocks h.loaded v c b a ≡ held_in net.blocks g.loaded w c b a
  words_itself c b a less = alike.1 c b a less

pub shows_itself : (net : Net) (keep : List ℕ) → AreOrdered net.nodes net.blocks → All (λ k. k < length net.nodes) keep → ShowsSame net net keep keep
shows_itself net keep ordered there = record {
  number = refl;
  inside = λ i less. there i 0 less;
  kept_pins = λ i less e. (e, refl);
  pins = refl;
  blocks = λ b. refl;
  values = λ h g n same v w are own i c less near. values_itself net ordered h g n same v w are own (slice_index keep i) c near (there i 0 less);
  words = λ h g n same v w are own c b a le. words_itself net ordered h g n same v w are own c b a (omega (arith, le));
}
