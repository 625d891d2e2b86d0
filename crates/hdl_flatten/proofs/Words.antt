-- The nodes of the words of blocks: each bit of each has just one.
use Rattle.std.proofs.Common.{◌≡◌, ℕ, zero, suc, ◌+◌, ◌*◌, ◌<◌, ◌≤◌, ◌⊎◌, inl, inr, List, [], ◌∷◌, ◌++◌, length, length-append, Some, refl, sym, ap, subst, ◌∙◌, arith}
use Rattle.std.specs.Prelude.{slice_get, slice_index}
use Rattle.hdl_tree.specs.declared.ends.End.{End}
use Rattle.hdl_tree.specs.declared.ends.End.TheVariants as ends
use Rattle.netlist.specs.declared.node.Node.{Node}
use Rattle.netlist.specs.declared.node.Node.TheVariants as nodes
use Rattle.netlist.specs.declared.node.Block.{Block}
use Rattle.hdl_flatten.specs.Inner.Putting.{constants, pins, words, end_puts, end_blocks, rom_of, memory_of, HasWord, HasWords}
use Rattle.hdl_flatten.proofs.Lists.{get_front, get_behind, last_or, Behind, split_get, below_or}

pub length_words : (b n : ℕ) → length (words b n) ≡ n
length_words b zero = refl
length_words b (suc n) = omega (arith, length-append (words b n) (nodes.Word b n ∷ []), length_words b n)

pub length_pins : (n : ℕ) → length (pins n) ≡ n
length_pins zero = refl
length_pins (suc n) = omega (arith, length-append (pins n) (nodes.Pin ∷ []), length_pins n)

-- ---- nodes after those that are there

-- these nodes have words of no block, or each bit of the word of block m, which is the next, at its number
abbrev AreNext : List Node → ℕ → ℕ → Type 0
AreNext xs m n = (k b bit : ℕ) → slice_get xs k ≡ Some (nodes.Word b bit) → (b ≡ m) × (k ≡ bit) × (m < n)

-- the word of block m, if it is one of these
abbrev HasNext : List Node → ℕ → ℕ → Type 0
HasNext xs m n = (b : ℕ) → m ≤ b → b < n → HasWord xs b

module _ (ns xs : List Node) (m n : ℕ) (h : HasWords ns m) (more : m ≤ n) (next : AreNext xs m n) (has : HasNext xs m n) where
  below : (k b bit : ℕ) → slice_get (ns ++ xs) k ≡ Some (nodes.Word b bit) → b < n
  below k b bit e = by (split_get ns xs k (nodes.Word b bit) e)
    where
      by : (slice_get ns k ≡ Some (nodes.Word b bit)) ⊎ Behind ns xs k (nodes.Word b bit) → b < n
      by (inl f) = let lt = h.below k b bit f in omega (arith, lt, more)
      by (inr f) = let x = next f.j b bit f.there in omega (arith, x.0, x.2)

  once : (i j b bit : ℕ) → slice_get (ns ++ xs) i ≡ Some (nodes.Word b bit) → slice_get (ns ++ xs) j ≡ Some (nodes.Word b bit) → i ≡ j
  once i j b bit e f = by (split_get ns xs i (nodes.Word b bit) e) (split_get ns xs j (nodes.Word b bit) f)
    where
      by : (slice_get ns i ≡ Some (nodes.Word b bit)) ⊎ Behind ns xs i (nodes.Word b bit) → (slice_get ns j ≡ Some (nodes.Word b bit)) ⊎ Behind ns xs j (nodes.Word b bit) → i ≡ j
      by (inl c) (inl d) = h.once i j b bit c d
      by (inl c) (inr d) = let lt = h.below i b bit c in let x = next d.j b bit d.there in absurd (omega (arith, lt, x.0))
      by (inr c) (inl d) = let lt = h.below j b bit d in let x = next c.j b bit c.there in absurd (omega (arith, lt, x.0))
      by (inr c) (inr d) = let x = next c.j b bit c.there in let y = next d.j b bit d.there in let p = c.at in let q = d.at in omega (arith, x.1, y.1, p, q)

  used : (b : ℕ) → b < n → HasWord (ns ++ xs) b
  used b lt = by (below_or m b)
    where
      by : (m ≤ b) ⊎ (b < m) → HasWord (ns ++ xs) b
      by (inl le) = let w = has b le lt in record { k = length ns + w.k; there = get_behind ns xs w.k ∙ w.there }
      by (inr f) = let w = h.used b f in record { k = w.k; there = get_front ns xs w.k (nodes.Word b 0) w.there }

  joined_words : 16 * n ≤ length (ns ++ xs) → HasWords (ns ++ xs) n
  joined_words few = record { few = few; below = below; used = used; once = once }

-- ---- what has no words

no_words : List Node → Type 0
no_words xs = (k b bit : ℕ) → slice_get xs k ≡ Some (nodes.Word b bit) → ⊥

beside : (ns xs : List Node) (m : ℕ) → HasWords ns m → no_words xs → HasWords (ns ++ xs) m
unfolding no_words
beside ns xs m h none = joined_words ns xs m m h (omega arith) (λ k b bit e. absurd (none k b bit e)) (λ b le lt. absurd (omega (arith, le, lt))) (let few = h.few in omega (arith, few, length-append ns xs))

nand_none : (i j : ℕ) → no_words (nodes.Nand i j ∷ [])
unfolding no_words
nand_none i j zero b bit e = absurd cc
nand_none i j (suc k) b bit e = absurd cc

flip_none : (i : ℕ) → no_words (nodes.Flip i ∷ [])
unfolding no_words
flip_none i zero b bit e = absurd cc
flip_none i (suc k) b bit e = absurd cc

zero_none : no_words (nodes.Zero ∷ [])
unfolding no_words
zero_none zero b bit e = absurd cc
zero_none (suc k) b bit e = absurd cc

pins_none : (n : ℕ) → no_words (pins n)
unfolding no_words
pins_none zero k b bit e = absurd cc
pins_none (suc n) k b bit e = elim (last_or (pins n) nodes.Pin (nodes.Word b bit) k e) [ inl h ↦ pins_none n k b bit h | inr h ↦ absurd (let same : nodes.Pin ≡ nodes.Word b bit = h.1 in cc) ]

-- ---- the nodes of a word

word_at : (m n k b bit : ℕ) → slice_get (words m n) k ≡ Some (nodes.Word b bit) → (b ≡ m) × (k ≡ bit)
word_at m zero k b bit e = absurd cc
word_at m (suc n) k b bit e = by (word_at m n k b bit) (last_or (words m n) (nodes.Word m n) (nodes.Word b bit) k e)
  where
    by : (slice_get (words m n) k ≡ Some (nodes.Word b bit) → (b ≡ m) × (k ≡ bit)) → (slice_get (words m n) k ≡ Some (nodes.Word b bit)) ⊎ ((k ≡ length (words m n)) × (nodes.Word m n ≡ nodes.Word b bit)) → (b ≡ m) × (k ≡ bit)
    by go (inl h) = go h
    by go (inr h) =
        let same : nodes.Word m n ≡ nodes.Word b bit = h.1 in
        let block_is : b ≡ m = cc in
        let bit_is : n ≡ bit = cc in
        (block_is, h.0 ∙ length_words m n ∙ bit_is)

behind : (ns : List Node) (bs : List Block) (block : Block) → HasWords ns (length bs) → HasWords (ns ++ words (length bs) 16) (length (bs ++ block ∷ []))
behind ns bs block h =
    let m = length bs in
    let n = length (bs ++ block ∷ []) in
    let one : n ≡ m + 1 = length-append bs (block ∷ []) in
    joined_words ns (words m 16) m n h (omega (arith, one)) (λ k b bit e. let x = word_at m 16 k b bit e in (x.0, x.1, omega (arith, one)))
    (λ b le lt. let same : m ≡ b = omega (arith, le, lt, one) in record { k = 0; there = ap (λ (c : ℕ). Some (nodes.Word c 0)) same })
    (let few = h.few in let long = length_words m 16 in omega (arith, few, one, long, length-append ns (words m 16)))

-- ---- an end, and the first nodes

without : (ns xs : List Node) (bs : List Block) → HasWords ns (length bs) → no_words xs → HasWords (ns ++ xs) (length (bs ++ []))
without ns xs bs h none = let same : length (bs ++ []) ≡ length bs = omega (arith, length-append bs []) in subst (λ m. HasWords (ns ++ xs) m) (sym same) (beside ns xs (length bs) h none)

pub end_words : (e : End) (inputs : List ℕ) (ns : List Node) (bs : List Block) → HasWords ns (length bs) → HasWords (ns ++ end_puts e inputs (length bs)) (length (bs ++ end_blocks e inputs))
end_words ends.Nand inputs ns bs h = without ns (nodes.Nand (slice_index inputs 0) (slice_index inputs 1) ∷ []) bs h (nand_none (slice_index inputs 0) (slice_index inputs 1))
end_words ends.Dff inputs ns bs h = without ns (nodes.Flip (slice_index inputs 0) ∷ []) bs h (flip_none (slice_index inputs 0))
end_words ends.Keyboard inputs ns bs h = without ns (pins 16) bs h (pins_none 16)
end_words ends.Rom inputs ns bs h = behind ns bs (rom_of inputs) h
end_words (ends.Block bits) inputs ns bs h = behind ns bs (memory_of bits inputs) h

nothing : HasWords [] 0
nothing = record { few = omega arith; below = λ k b bit e. absurd cc; used = λ b lt. absurd (omega (arith, lt)); once = λ i j b bit e f. absurd cc }

pub first_words : (n : ℕ) → HasWords (constants ++ pins n) 0
first_words n = beside constants (pins n) 0 (beside (nodes.Zero ∷ []) (nodes.Nand 0 0 ∷ []) 0 (beside [] (nodes.Zero ∷ []) 0 nothing zero_none) (nand_none 0 0)) (pins_none n)
