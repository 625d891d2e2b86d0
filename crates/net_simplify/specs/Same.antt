-- What one netlist shows of another: the values of the kept nodes and the words in blocks, whatever comes in. (The book, chapters 1 and 3.)
use Rattle.std.specs.Prelude.{◌≡◌, ℕ, ◌<◌, ◌≤◌, Bool, List, length, Some, slice_get, slice_index}
use Rattle.std.specs.Option.{option_map}
use Rattle.std.specs.List.{All}
use Rattle.netlist.specs.declared.node.Node.TheVariants.{Pin}
use Rattle.netlist.specs.declared.node.Block.{Block}
use Rattle.netlist.specs.Net.{Net}
use Rattle.netlist.specs.Order.{AreOrdered}
use Rattle.netlist.specs.Folded.{HearAlike}
use Rattle.netlist.specs.Histories.{pin_count, rank}
use Rattle.netlist.specs.Value.{Inputs, AreValues, held_in}

-- The two netlists hear the same in the first n cycles: the k-th pin of either is given the same bits, and block b of either the same words.
pub record HearSame (old new : Net) (n : ℕ) (h g : Inputs) : Type 0 where
  pub pins : HearAlike old new n h.pin g.pin
  pub loaded : (b a : ℕ) → h.loaded b a ≡ g.loaded b a

-- node l of the new netlist is the pin that has the rank of node k
abbrev pub IsPinOf : Net → Net → ℕ → ℕ → Type 0
IsPinOf old new k l = (slice_get new.nodes l ≡ Some Pin) × (rank old.nodes k ≡ rank new.nodes l)

-- how many words a block has, and how many nodes its word in and its address
abbrev pub shape : Block → ℕ × ℕ × ℕ
shape block = (block.words, length block.data, length block.address)

-- Each kept node has a place in the new netlist; that of a pin is the pin of the same rank. Pins and blocks are as many as before, in the same order.
-- Where both netlists hear the same in the first n cycles, a kept node has in each of these the value of its place. Each block holds the same words
-- before and after each.
pub record ShowsSame (old new : Net) (keep place : List ℕ) : Type 0 where
  pub number : length place ≡ length keep
  pub inside : (i : ℕ) → i < length keep → slice_index place i < length new.nodes
  pub kept_pins : (i : ℕ) → i < length keep → slice_get old.nodes (slice_index keep i) ≡ Some Pin
      → IsPinOf old new (slice_index keep i) (slice_index place i)
  pub pins : pin_count old.nodes ≡ pin_count new.nodes
  pub blocks : (b : ℕ)
      → option_map shape (slice_get old.blocks b) ≡ option_map shape (slice_get new.blocks b)
  pub values : (h g : Inputs) (n : ℕ) → HearSame old new n h g → (v w : ℕ → ℕ → Bool)
      → AreValues old h n v → AreValues new g n w → (i c : ℕ) → i < length keep → c < n
      → v (slice_index keep i) c ≡ w (slice_index place i) c
  pub words : (h g : Inputs) (n : ℕ) → HearSame old new n h g
      → (v w : ℕ → ℕ → Bool) → AreValues old h n v → AreValues new g n w → (c b a : ℕ) → c ≤ n
      → held_in old.blocks h.loaded v c b a ≡ held_in new.blocks g.loaded w c b a

-- A netlist in order shows of itself what it shows, of any nodes that it has.
abbrev pub ItselfLaw : Type 0
ItselfLaw = (net : Net) (keep : List ℕ) → AreOrdered net.nodes net.blocks → All (λ k. k < length net.nodes) keep → ShowsSame net net keep keep
