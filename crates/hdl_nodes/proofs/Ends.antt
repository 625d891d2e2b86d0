-- Ends whose nodes and block stand in a netlist do their work.
use Rattle.std.proofs.Common.{◌≡◌, ℕ, zero, suc, ◌+◌, ◌<◌, ◌^◌, Bool, true, false, cond, Option, Some, refl, sym, ap, ◌∙◌, arith, subst}
use Rattle.std.specs.Prelude.{◌&&◌, nat_eq, nat_lt, slice_get, slice_index, codes}
use Rattle.std.proofs.lemmas.Bool.{lt-ltb}
use Rattle.word16.specs.Words.{has_bit}
use Rattle.hdl_tree.specs.declared.ends.End.{End}
use Rattle.hdl_tree.specs.declared.ends.End.TheVariants as ends
use Rattle.hdl_tree.specs.Memory.{number, word_held}
use Rattle.hdl_tree.specs.Behaviour.{Wires, World, EndWorks}
use Rattle.netlist.specs.declared.node.Node.TheVariants.{Pin, Nand, Flip, Word}
use Rattle.netlist.specs.declared.node.Block.{Block}
use Rattle.netlist.specs.Net.{Net}
use Rattle.netlist.specs.Value.{Inputs, AreValues, spelled_number, shown_value, is_loaded, address_of, word_in, held_in}
use Rattle.hdl_nodes.specs.Numbering.{nodes_of, memory_block, rom_block, BlockStands, EndStands, EndHears}
use Rattle.hdl_nodes.proofs.Numbers.{number_same, number_below, number_word, held_word, at_row, row_length}

-- what nodes of bits spell
pub spelled_is : (row : ℕ → Bool) (n : ℕ) (f : ℕ → ℕ) → spelled_number row (nodes_of n f) ≡ number n (λ k. row (f k))
spelled_is row n f =
    ap (λ (m : ℕ). number m (λ k. row (slice_index (nodes_of n f) k))) (row_length f n 0)
    ∙ number_same n (λ k. row (slice_index (nodes_of n f) k)) (λ k. row (f k)) (λ i lt. ap row (at_row f n 0 i lt ∙ zero_plus i))
  where
    zero_plus : (i : ℕ) → f (0 + i) ≡ f i
    zero_plus i = let e : 0 + i ≡ i = omega arith in ap f e

and_true : (a b : Bool) → b ≡ true → (a && b) ≡ a
and_true true b h = h
and_true false b h = refl

module _ (net : Net) (inputs : Inputs) (n : ℕ) (v : ℕ → ℕ → Bool) (are : AreValues net inputs n v) where
  -- the word that a block shows
  pub shown_bits : (b : ℕ) (block : Block) (at : Wires ℕ) → BlockStands net b block at → (c : ℕ) → c < n → (word : ℕ) → shown_value (Some block) (held_in net.blocks inputs.loaded v c b) (λ i. v i c) ≡ word → word < 65536 → number 16 (λ k. v (at (codes "out") k) c) ≡ word
  shown_bits b block at stands c lt word is small =
      number_same 16 (λ k. v (at (codes "out") k) c) (has_bit word)
      (λ k less. are c (at (codes "out") k) (Word b k) lt (stands.words k less)
      ∙ ap (λ (o : Option Block). has_bit (shown_value o (held_in net.blocks inputs.loaded v c b) (λ i. v i c)) k) stands.there
      ∙ ap (λ (x : ℕ). has_bit x k) is)
      ∙ number_word word small

  module _ (b bits : ℕ) (at : Wires ℕ) (stands : BlockStands net b (memory_block bits at) at) where
    pub address_is : (c : ℕ) → spelled_number (λ i. v i c) (nodes_of bits (at (codes "address"))) ≡ number bits (λ k. v (at (codes "address") k) c)
    address_is c = spelled_is (λ i. v i c) bits (at (codes "address"))

    pub within : (c : ℕ) → nat_lt (spelled_number (λ i. v i c) (nodes_of bits (at (codes "address")))) (2 ^ bits) ≡ true
    within c = lt-ltb _ _ (subst (λ (x : ℕ). x < 2 ^ bits) (sym (address_is c)) (number_below bits (λ k. v (at (codes "address") k) c)))

    pub loaded_is : (c : ℕ) → is_loaded (slice_get net.blocks b) (λ i. v i c) ≡ v (at (codes "load") 0) c
    loaded_is c = ap (λ (o : Option Block). is_loaded o (λ i. v i c)) stands.there ∙ and_true (v (at (codes "load") 0) c) _ (within c)

    pub place_is : (c : ℕ) → address_of (slice_get net.blocks b) (λ i. v i c) ≡ number bits (λ k. v (at (codes "address") k) c)
    place_is c = ap (λ (o : Option Block). address_of o (λ i. v i c)) stands.there ∙ address_is c

    pub word_is : (c : ℕ) → word_in (slice_get net.blocks b) (λ i. v i c) ≡ number 16 (λ k. v (at (codes "in") k) c)
    word_is c = ap (λ (o : Option Block). word_in o (λ i. v i c)) stands.there ∙ spelled_is (λ i. v i c) 16 (at (codes "in"))

    abbrev pub stood : ℕ → ℕ → ℕ
    stood c a = word_held (λ d. v (at (codes "load") 0) d) (λ d. number bits (λ k. v (at (codes "address") k) d)) (λ d. number 16 (λ k. v (at (codes "in") k) d)) (λ x. 0) c a

    pub held_is : ((a : ℕ) → inputs.loaded b a ≡ 0) → (c a : ℕ) → held_in net.blocks inputs.loaded v c b a ≡ stood c a
    held_is zeros c a = λ i. word_held (λ d. loaded_is d i) (λ d. place_is d i) (λ d. word_is d i) (λ x. zeros x i) c a

    stood_word : (c a : ℕ) → stood c a < 65536
    stood_word c a = held_word (λ d. v (at (codes "load") 0) d) (λ d. number bits (λ k. v (at (codes "address") k) d)) (λ d. number 16 (λ k. v (at (codes "in") k) d)) (λ x. 0) (λ d. number_below 16 (λ k. v (at (codes "in") k) d)) (λ x. omega arith) c a

    memory_works : (world : World) (c : ℕ) → c < n → ((a : ℕ) → inputs.loaded b a ≡ 0) → EndWorks world c (ends.Block bits) (λ name bit d. v (at name bit) d)
    memory_works world c lt zeros =
        let a = number bits (λ k. v (at (codes "address") k) c) in
        shown_bits b (memory_block bits at) at stands c lt (stood c a)
        (ap (λ (t : Bool). cond t (held_in net.blocks inputs.loaded v c b (spelled_number (λ i. v i c) (nodes_of bits (at (codes "address"))))) 0) (within c)
        ∙ ap (held_in net.blocks inputs.loaded v c b) (address_is c) ∙ held_is zeros c a)
        (stood_word c a)

  module _ (b low : ℕ) (at : Wires ℕ) (never : (c : ℕ) → c < n → v low c ≡ false) (stands : BlockStands net b (rom_block low at) at) where
    rom_address : (c : ℕ) → spelled_number (λ i. v i c) (nodes_of 15 (at (codes "address"))) ≡ number 15 (λ k. v (at (codes "address") k) c)
    rom_address c = spelled_is (λ i. v i c) 15 (at (codes "address"))

    rom_within : (c : ℕ) → nat_lt (spelled_number (λ i. v i c) (nodes_of 15 (at (codes "address")))) 32768 ≡ true
    rom_within c = lt-ltb _ _ (subst (λ (x : ℕ). x < 32768) (sym (rom_address c)) (number_below 15 (λ k. v (at (codes "address") k) c)))

    not_loaded : (c : ℕ) → c < n → is_loaded (slice_get net.blocks b) (λ i. v i c) ≡ false
    not_loaded c lt = ap (λ (o : Option Block). is_loaded o (λ i. v i c)) stands.there ∙ ap (λ (x : Bool). x && nat_lt (spelled_number (λ i. v i c) (nodes_of 15 (at (codes "address")))) 32768) (never c lt)

    kept : (c a : ℕ) → c < n → held_in net.blocks inputs.loaded v c b a ≡ inputs.loaded b a
    kept zero a lt = refl
    kept (suc c) a lt =
        let less : c < n = omega (arith, lt) in
        ap (λ (t : Bool). cond (t && nat_eq (address_of (slice_get net.blocks b) (λ i. v i c)) a) (word_in (slice_get net.blocks b) (λ i. v i c)) (held_in net.blocks inputs.loaded v c b a)) (not_loaded c less) ∙ kept c a less

    rom_works : (world : World) (c : ℕ) → c < n → ((a : ℕ) → a < 32768 → (inputs.loaded b a ≡ world.rom a) × (world.rom a < 65536)) → EndWorks world c ends.Rom (λ name bit d. v (at name bit) d)
    rom_works world c lt told =
        let a = number 15 (λ k. v (at (codes "address") k) c) in
        let here = told a (number_below 15 (λ k. v (at (codes "address") k) c)) in
        shown_bits b (rom_block low at) at stands c lt (world.rom a)
        (ap (λ (t : Bool). cond t (held_in net.blocks inputs.loaded v c b (spelled_number (λ i. v i c) (nodes_of 15 (at (codes "address"))))) 0) (rom_within c)
        ∙ ap (held_in net.blocks inputs.loaded v c b) (rom_address c) ∙ kept c a lt ∙ here.0)
        here.1

  pub end_works : (world : World) (low b : ℕ) (e : End) (at : Wires ℕ) → ((c : ℕ) → c < n → v low c ≡ false) → EndStands net low b e at → EndHears world inputs n b e at → (c : ℕ) → c < n → EndWorks world c e (λ name bit d. v (at name bit) d)
  end_works world low b ends.Nand at never stands hears c lt = are c (at (codes "out") 0) (Nand (at (codes "a") 0) (at (codes "b") 0)) lt stands
  end_works world low b ends.Dff at never stands hears c lt = are c (at (codes "out") 0) (Flip (at (codes "in") 0)) lt stands
  end_works world low b ends.Keyboard at never stands hears c lt =
      number_same 16 (λ k. v (at (codes "out") k) c) (λ k. inputs.pin c (at (codes "out") k)) (λ k less. are c (at (codes "out") k) Pin lt (stands k less)) ∙ hears c lt
  end_works world low b ends.Rom at never stands hears c lt = rom_works b low at never stands world c lt hears
  end_works world low b (ends.Block bits) at never stands hears c lt = memory_works b bits at stands world c lt hears
