-- Ends whose nodes and block stand in a netlist do their work, where memories begin with words of their own.
use Rattle.std.proofs.Common.{◌≡◌, ℕ, zero, suc, ◌+◌, ◌<◌, inl, inr, ◌^◌, Bool, true, false, cond, List, Option, Some, refl, sym, ap, ap₂, ◌∙◌, arith, subst}
use Rattle.std.specs.Prelude.{◌&&◌, nat_eq, nat_lt, not, slice_get, codes}
use Rattle.std.proofs.lemmas.Bool.{cases_eq, lt-ltb}
use Rattle.word16.specs.Words.{has_bit}
use Rattle.hdl_tree.specs.declared.ends.End.{End}
use Rattle.hdl_tree.specs.declared.ends.End.TheVariants as ends
use Rattle.hdl_tree.specs.Memory.{number, before, word_written, word_held}
use Rattle.hdl_tree.specs.Behaviour.{Histories, Wires, World}
use Rattle.name_table.specs.Names.{find_value}
use Rattle.netlist.specs.declared.node.Node.TheVariants.{Word}
use Rattle.netlist.specs.declared.node.Block.{Block}
use Rattle.netlist.specs.Net.{Net}
use Rattle.netlist.specs.Value.{Inputs, AreValues, spelled_number, shown_value, is_loaded, address_of, word_in, held_in}
use Rattle.hdl_nodes.specs.Numbering.{nodes_of, memory_block, BlockStands, EndStands}
use Rattle.hdl_nodes.proofs.Numbers.{number_same, number_below, number_word}
use Rattle.hdl_nodes.proofs.Ends.{address_is, end_works, loaded_is, place_is, shown_bits, within, word_is}
use Rattle.hdl_flatten.specs.Ends.{end_inputs}
use Rattle.hdl_flatten.specs.Trees.{end_nodes}
use Rattle.history_laws.specs.Environment.{Environment, EndActs, memory_word}

-- ---- numbers

split_top : (a b : Bool) (x y p : ℕ) → x < p → y < p → x + cond a p 0 ≡ y + cond b p 0 → (a ≡ b) × (x ≡ y)
split_top true true x y p lx ly h = (refl, omega arith)
split_top true false x y p lx ly h = absurd (omega arith)
split_top false true x y p lx ly h = absurd (omega arith)
split_top false false x y p lx ly h = (refl, omega arith)

-- bits that spell the same number are the same
pub number_apart : (n : ℕ) (f g : ℕ → Bool) → number n f ≡ number n g → (k : ℕ) → k < n → f k ≡ g k
number_apart zero f g h k lt = absurd (omega arith)
number_apart (suc n) f g h k lt =
    let s = split_top (f n) (g n) (number n f) (number n g) (2 ^ n) (number_below n f) (number_below n g) h in
    elim (cases_eq k n) [
      | inl e ↦ ap f e ∙ s.0 ∙ sym (ap g e)
      | inr ne ↦ number_apart n f g s.1 k (omega arith)
    ]

-- ---- words held

written_word : (b : Bool) (x old : ℕ) → x < 65536 → old < 65536 → cond b x old < 65536
written_word true x old h k = h
written_word false x old h k = k

held_small : (load : ℕ → Bool) (address word start : ℕ → ℕ) → ((d : ℕ) → word d < 65536) → (a : ℕ) → start a < 65536 → (c : ℕ) → word_held load address word start c a < 65536
held_small load address word start h a k zero = k
held_small load address word start h a k (suc c) = written_word (load c && nat_eq (address c) a) (word c) (word_held load address word start c a) (h c) (held_small load address word start h a k c)

-- what is held at an address hangs on what stood there, and on what came in before
pub held_same : (load load' : ℕ → Bool) (address address' word word' start start' : ℕ → ℕ) (a c : ℕ) → start a ≡ start' a → ((d : ℕ) → d < c → load d ≡ load' d) → ((d : ℕ) → d < c → address d ≡ address' d) → ((d : ℕ) → d < c → word d ≡ word' d) → word_held load address word start c a ≡ word_held load' address' word' start' c a
held_same load load' address address' word word' start start' a zero s l p w = s
held_same load load' address address' word word' start start' a (suc c) s l p w =
    let old = held_same load load' address address' word word' start start' a c s (λ d lt. l d (omega arith)) (λ d lt. p d (omega arith)) (λ d lt. w d (omega arith)) in
    let last : c < suc c = omega arith in
    ap₂ (λ (t : Bool) (i : ℕ). word_written t i (word c) a (word_held load address word start c a)) (l c last) (p c last)
    ∙ ap₂ (λ (x y : ℕ). word_written (load' c) (address' c) x a y) (w c last) old

-- ---- the ends of a netlist

-- what comes in at an end whose bits have these nodes and whose block is this
abbrev pub EndHears : Environment → Inputs → ℕ → List ℕ → ℕ → End → Wires ℕ → Type 0
EndHears outside inputs n path b ends.Nand at = Unit {0}
EndHears outside inputs n path b ends.Dff at = Unit {0}
EndHears outside inputs n path b ends.Keyboard at = (c : ℕ) → c < n → number 16 (λ k. inputs.pin c (at (codes "out") k)) ≡ outside.key path c
EndHears outside inputs n path b ends.Rom at = (a : ℕ) → a < 32768 → (inputs.loaded b a ≡ outside.rom path a) × (outside.rom path a < 65536)
EndHears outside inputs n path b (ends.Block bits) at = (a : ℕ) → a < 2 ^ bits → (inputs.loaded b a ≡ outside.words path a) × (outside.words path a < 65536)

module _ (net : Net) (inputs : Inputs) (n : ℕ) (v : ℕ → ℕ → Bool) (are : AreValues net inputs n v) where
  module _ (b bits : ℕ) (at : Wires ℕ) (stands : BlockStands net b (memory_block bits at) at) where
    pub held_is : (start : ℕ → ℕ) (a : ℕ) → inputs.loaded b a ≡ start a → (c : ℕ) → held_in net.blocks inputs.loaded v c b a ≡ memory_word bits start (λ name bit d. v (at name bit) d) c a
    held_is start a s c = held_same _ _ _ _ _ _ (inputs.loaded b) start a c s (λ d lt. loaded_is net inputs n v are b bits at stands d) (λ d lt. place_is net inputs n v are b bits at stands d) (λ d lt. word_is net inputs n v are b bits at stands d)

    memory_acts : (start : ℕ → ℕ) → ((a : ℕ) → a < 2 ^ bits → (inputs.loaded b a ≡ start a) × (start a < 65536)) → (c : ℕ) → c < n →
        number 16 (λ k. v (at (codes "out") k) c) ≡ memory_word bits start (λ name bit d. v (at name bit) d) c (number bits (λ k. v (at (codes "address") k) c))
    memory_acts start told c lt =
        let a = number bits (λ k. v (at (codes "address") k) c) in
        let here = told a (number_below bits (λ k. v (at (codes "address") k) c)) in
        shown_bits net inputs n v are b (memory_block bits at) at stands c lt (memory_word bits start (λ name bit d. v (at name bit) d) c a)
        (ap (λ (t : Bool). cond t (held_in net.blocks inputs.loaded v c b (spelled_number (λ i. v i c) (nodes_of bits (at (codes "address"))))) 0) (within net inputs n v are b bits at stands c)
        ∙ ap (held_in net.blocks inputs.loaded v c b) (address_is net inputs n v are b bits at stands c) ∙ held_is start a here.0 c)
        (held_small (λ d. v (at (codes "load") 0) d) (λ d. number bits (λ k. v (at (codes "address") k) d)) (λ d. number 16 (λ k. v (at (codes "in") k) d)) start (λ d. number_below 16 (λ k. v (at (codes "in") k) d)) a here.1 c)

  module _ (outside : Environment) (path : List ℕ) (low b : ℕ) (at : Wires ℕ) (never : (c : ℕ) → c < n → v low c ≡ false) where
    -- the world of this path
    abbrev world : World
    world = record { key = outside.key path; rom = outside.rom path }

    pub end_acts : (e : End) → EndStands net low b e at → EndHears outside inputs n path b e at → (c : ℕ) → c < n → EndActs outside path c e (λ name bit d. v (at name bit) d)
    end_acts ends.Nand stands hears c lt = end_works net inputs n v are world low b ends.Nand at never stands tt c lt
    end_acts ends.Dff stands hears c lt = end_works net inputs n v are world low b ends.Dff at never stands tt c lt
    end_acts ends.Keyboard stands hears c lt = end_works net inputs n v are world low b ends.Keyboard at never stands hears c lt
    end_acts ends.Rom stands hears c lt = end_works net inputs n v are world low b ends.Rom at never stands hears c lt
    end_acts (ends.Block bits) stands hears c lt = memory_acts b bits at stands (outside.words path) hears c lt

-- ---- an end that acts twice

before_same : (c : ℕ) (f g : ℕ → Bool) → ((d : ℕ) → d < c → f d ≡ g d) → before false c f ≡ before false c g
before_same zero f g h = refl
before_same (suc c) f g h = h c (omega arith)

module _ (outside : Environment) (path : List ℕ) (c : ℕ) (f g : Histories) where
  -- its inputs were the same in the cycles before, and those that reach its out are the same now
  abbrev pub Past : End → Type 0
  Past e = (d : ℕ) → d < c → (name : List ℕ) (width : ℕ) → find_value name (end_inputs e) ≡ Some width → (bit : ℕ) → bit < width → f name bit d ≡ g name bit d

  abbrev pub Now : End → Type 0
  Now ends.Nand = (f (codes "a") 0 c ≡ g (codes "a") 0 c) × (f (codes "b") 0 c ≡ g (codes "b") 0 c)
  Now ends.Dff = Unit {0}
  Now ends.Keyboard = Unit {0}
  Now ends.Rom = (k : ℕ) → k < 15 → f (codes "address") k c ≡ g (codes "address") k c
  Now (ends.Block bits) = (k : ℕ) → k < bits → f (codes "address") k c ≡ g (codes "address") k c

  pub word_same : (bits a : ℕ) → Past (ends.Block bits) → memory_word bits (outside.words path) f c a ≡ memory_word bits (outside.words path) g c a
  word_same bits a past = held_same _ _ _ _ _ _ (outside.words path) (outside.words path) a c refl
      (λ d lt. past d lt (codes "load") 1 refl 0 (omega arith))
      (λ d lt. number_same bits _ _ (λ k less. past d lt (codes "address") bits refl k less))
      (λ d lt. number_same 16 _ _ (λ k less. past d lt (codes "in") 16 refl k less))

  -- then its out is the same
  pub out_same : (e : End) → EndActs outside path c e f → EndActs outside path c e g → Past e → Now e → (bit : ℕ) → bit < end_nodes (Some e) → f (codes "out") bit c ≡ g (codes "out") bit c
  out_same ends.Nand x y past now zero lt =
      x ∙ ap₂ (λ (t u : Bool). not (t && u)) now.0 now.1 ∙ sym y
  out_same ends.Nand x y past now (suc bit) lt = absurd (omega arith)
  out_same ends.Dff x y past now zero lt = x ∙ before_same c _ _ (λ d less. past d less (codes "in") 1 refl 0 (omega arith)) ∙ sym y
  out_same ends.Dff x y past now (suc bit) lt = absurd (omega arith)
  out_same ends.Keyboard x y past now bit lt = number_apart 16 (λ k. f (codes "out") k c) (λ k. g (codes "out") k c) (x ∙ sym y) bit lt
  out_same ends.Rom x y past now bit lt =
      let address = number_same 15 (λ k. f (codes "address") k c) (λ k. g (codes "address") k c) now in
      number_apart 16 (λ k. f (codes "out") k c) (λ k. g (codes "out") k c) (x ∙ ap (outside.rom path) address ∙ sym y) bit lt
  out_same (ends.Block bits) x y past now bit lt =
      let address = number_same bits (λ k. f (codes "address") k c) (λ k. g (codes "address") k c) now in
      number_apart 16 (λ k. f (codes "out") k c) (λ k. g (codes "out") k c)
      (x ∙ word_same bits (number bits (λ k. f (codes "address") k c)) past ∙ ap (memory_word bits (outside.words path) g c) address ∙ sym y) bit lt
