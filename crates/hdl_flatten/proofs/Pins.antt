-- The bits of an end's pins by number, and rows of nodes.
use Rattle.std.proofs.Common.{◌≡◌, ℕ, zero, suc, ◌+◌, ◌<◌, ◌≤◌, ◌⊎◌, inl, inr, List, [], ◌∷◌, ◌++◌, length, map, take, drop, Some, codes, refl, sym, ap, ◌∙◌, arith}
use Rattle.std.specs.Prelude.{slice_get, slice_index}
use Rattle.std.specs.List.{range_with_len}
use Rattle.hdl_tree.specs.declared.tree.Pin.{Pin}
use Rattle.hdl_tree.specs.declared.ends.End.{End}
use Rattle.hdl_tree.specs.declared.ends.End.TheVariants as ends
use Rattle.hdl_tree.specs.Chips.{pin_width}
use Rattle.hdl_check.specs.Tables.{BitOf, bits_of, is_in}
use Rattle.hdl_plans.proofs.Planned.{bit_there}
use Rattle.hdl_flatten.specs.declared.wires.Origin.{Origin as Fed}
use Rattle.hdl_flatten.specs.Ends.{named_pins, end_inputs, end_outputs}
use Rattle.hdl_flatten.specs.Trees.{all_bits, end_nodes}
use Rattle.hdl_flatten.specs.Inner.Wired.{found_bit}
use Rattle.hdl_flatten.specs.Inner.Plans.{numbered_bits}
use Rattle.hdl_flatten.proofs.Lists.{last_or, nil_after}
use Rattle.hdl_flatten.proofs.Planning.{length_bits}
use Rattle.hdl_flatten.proofs.Reading.{IsNumbered, number_of}

-- ---- rows

pub row_is : (f : ℕ → ℕ) (n lo : ℕ) (xs : List ℕ) → length xs ≡ n → ((k : ℕ) → k < n → slice_index xs k ≡ f (lo + k)) → xs ≡ map f (range_with_len lo n)
row_is f zero lo [] e h = refl
row_is f zero lo (x ∷ xs) e h = absurd (omega (arith, e))
row_is f (suc n) lo [] e h = absurd (omega (arith, e))
row_is f (suc n) lo (x ∷ xs) e h =
    let start : lo + 0 ≡ lo = omega arith in
    let head : x ≡ f lo = h 0 (omega arith) ∙ ap f start in
    let tail = row_is f n (lo + 1) xs (omega (arith, e)) (λ k lt. let next : lo + suc k ≡ (lo + 1) + k = omega arith in h (suc k) (omega (arith, lt)) ∙ ap f next) in
    ap (λ (t : List ℕ). x ∷ t) tail ∙ ap (λ (y : ℕ). y ∷ map f (range_with_len (lo + 1) n)) head

pub index_take : (n : ℕ) (xs : List ℕ) (k : ℕ) → k < n → slice_index (take n xs) k ≡ slice_index xs k
index_take zero xs k lt = absurd (omega (arith, lt))
index_take (suc n) [] k lt = refl
index_take (suc n) (x ∷ xs) zero lt = refl
index_take (suc n) (x ∷ xs) (suc k) lt = index_take n xs k (omega (arith, lt))

pub index_drop : (n : ℕ) (xs : List ℕ) (k : ℕ) → slice_index (drop n xs) k ≡ slice_index xs (n + k)
index_drop zero xs k = let same : k ≡ 0 + k = omega arith in ap (slice_index xs) same
index_drop (suc n) [] k = refl
index_drop (suc n) (x ∷ xs) k = let next : suc (n + k) ≡ suc n + k = omega arith in index_drop n xs k ∙ ap (slice_index (x ∷ xs)) next

pub take_long : (n : ℕ) (xs : List ℕ) → n ≤ length xs → length (take n xs) ≡ n
take_long zero xs le = refl
take_long (suc n) [] le = absurd (omega (arith, le))
take_long (suc n) (x ∷ xs) le = ap suc (take_long n xs (omega (arith, le)))

pub drop_long : (n m : ℕ) (xs : List ℕ) → length xs ≡ n + m → length (drop n xs) ≡ m
drop_long zero m xs e = omega (arith, e)
drop_long (suc n) m [] e = absurd (omega (arith, e))
drop_long (suc n) m (x ∷ xs) e = drop_long n m xs (omega (arith, e))

-- ---- bits by number

bits_at : (name : List ℕ) (lo n k : ℕ) (b : BitOf) → slice_get (bits_of name lo n) k ≡ Some b → b.bit ≡ lo + k
bits_at name lo zero k b e = absurd cc
bits_at name lo (suc n) k b e = by (bits_at name lo n k b) (last_or (bits_of name lo n) (record { name = name; bit = lo + n }) b k e)
  where
    by : (slice_get (bits_of name lo n) k ≡ Some b → b.bit ≡ lo + k) → (slice_get (bits_of name lo n) k ≡ Some b) ⊎ ((k ≡ length (bits_of name lo n)) × (record { name = name; bit = lo + n } ≡ b)) → b.bit ≡ lo + k
    by go (inl h) = go h
    by go (inr h) =
        let number : lo + n ≡ lo + k = omega (arith, h.0, length_bits name lo n) in
        ap (λ (x : BitOf). x.bit) (sym h.1) ∙ number

-- bit k of a pin of n bits, whose first has this number
pub bit_number : (f : ℕ → Fed) (from : ℕ) (name : List ℕ) (n k : ℕ) → k < n → found_bit name k (numbered_bits f from (bits_of name 0 n)) ≡ Some (f (from + k))
bit_number f from name n k lt =
    let zero_plus : 0 + k ≡ k = omega arith in
    let r : IsNumbered f from (bits_of name 0 n) name k = number_of f from (bits_of name 0 n) name k (ap (λ (m : ℕ). is_in name m (bits_of name 0 n)) (sym zero_plus) ∙ bit_there name 0 k n lt) in
    let at : r.at.bit ≡ 0 + r.k = bits_at name 0 n r.k r.at r.there in
    let same : r.k ≡ k = omega (arith, at, r.bit_is) in
    r.found ∙ ap (λ (m : ℕ). Some (f (from + m))) same

-- ---- the pins of ends

abbrev pub bits_named : List (List ℕ × ℕ) → List BitOf
bits_named [] = []
bits_named (e ∷ es) = bits_of e.0 0 e.1 ++ bits_named es

pub bits_are : (pins : List Pin) → all_bits pins ≡ bits_named (named_pins pins)
bits_are [] = refl
bits_are (p ∷ ps) = ap (λ (t : List BitOf). bits_of p.name 0 (pin_width p) ++ t) (bits_are ps)

pub out_bits : (e : End) → bits_named (end_outputs e) ≡ bits_of (codes "out") 0 (end_nodes (Some e))
out_bits ends.Nand = refl
out_bits ends.Dff = refl
out_bits ends.Keyboard = refl
out_bits ends.Rom = refl
out_bits (ends.Block bits) = refl

pub block_long : (bits : ℕ) → length (bits_named (end_inputs (ends.Block bits))) ≡ 17 + bits
block_long bits =
    let all = bits_of (codes "address") 0 bits in
    let whole : length (all ++ []) ≡ bits = ap length (nil_after all) ∙ length_bits (codes "address") 0 bits in
    omega (arith, whole)
