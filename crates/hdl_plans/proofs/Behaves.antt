-- A behaviour of the half driven chip.
use Rattle.std.proofs.Common.{◌≡◌, ℕ, zero, suc, ◌+◌, ◌<◌, Bool, true, false, cond, List, [], ◌∷◌, Option, Some, None, ◌⊎◌, inl, inr, codes, refl, sym, ap, subst, arith, if◌then◌else◌, nat_eq}
use Rattle.std.specs.Prelude.{slice_get}
use Rattle.std.specs.Str.{bytes_eq}
use Rattle.std.specs.Cmp.Lexicographic.{bytes_decides}
use Rattle.hdl_tree.specs.declared.tree.Part.{Part}
use Rattle.hdl_tree.specs.declared.library.Entry.{Entry}
use Rattle.hdl_tree.specs.declared.ends.Memories.TheVariants.{Blocks}
use Rattle.hdl_tree.specs.Chips.{end_of, find_chip}
use Rattle.hdl_tree.specs.Behaviour.{Wires, Histories, World, ChipWired, PartsWired, PartWired, EndWorks, Works, width_in, some, reaches, drives}
use Rattle.hdl_plans.specs.Rows.{wire, wire_bit, part, nand, beside, half_driven, Behaves}
use Rattle.hdl_plans.proofs.Rows.{nand_low, entry_or, no_part, no_entry}

abbrev gate : Part
gate = part "Nand" (wire "a" "in" ∷ wire_bit "out" "out" 0 ∷ [])

abbrev part_or : Part → Option Part → Part
part_or d None = d
part_or d (Some p) = p

abbrev number_or : Option ℕ → ℕ
number_or None = 0
number_or (Some n) = n

-- ---- names of pins

-- an input of the gate: a of one bit, or b
abbrev IsInput : List ℕ → ℕ → Type 0
IsInput name width = ((name ≡ codes "a") × (1 ≡ width)) ⊎ (name ≡ codes "b")

input_by : (name : List ℕ) (width : ℕ) (p q : Bool) → bytes_eq name (codes "a") ≡ p → bytes_eq name (codes "b") ≡ q → cond p (Some 1) (cond q (Some 1) None) ≡ Some width → IsInput name width
input_by name width true q e f h = inl ((bytes_decides name (codes "a")).0 e, ap number_or h)
input_by name width false true e f h = inr ((bytes_decides name (codes "b")).0 f)
input_by name width false false e f h = absurd cc

input_of : (name : List ℕ) (width : ℕ) → width_in nand.chip.inputs name ≡ Some width → IsInput name width
input_of name width h = input_by name width (bytes_eq name (codes "a")) (bytes_eq name (codes "b")) refl refl h

output_by : (name : List ℕ) (width : ℕ) (p : Bool) → bytes_eq name (codes "out") ≡ p → cond p (Some 2) None ≡ Some width → (name ≡ codes "out") × (2 ≡ width)
output_by name width true e h = ((bytes_decides name (codes "out")).0 e, ap number_or h)
output_by name width false e h = absurd cc

-- ---- the bits

module _ (input : ℕ → Bool) where
  abbrev driven : List ℕ → Histories
  driven [] name bit c = if bytes_eq name (codes "out") then nat_eq bit 0 else input c
  driven (i ∷ path) name bit c = if bytes_eq name (codes "a") then input c else bytes_eq name (codes "out")

first_bit : (k : ℕ) → k < 1 → true ≡ nat_eq (0 + k) 0
first_bit zero lt = refl
first_bit (suc k) lt = absurd (omega (arith, lt))

is_zero : (bit : ℕ) → bit < 1 → bit ≡ 0
is_zero bit lt = omega (arith, lt)

module _ (input : ℕ → Bool) (c : ℕ) where
  abbrev outside : Wires Bool
  outside name bit = driven input [] name bit c

  abbrev inside : ℕ → Wires Bool
  inside i name bit = driven input (i ∷ []) name bit c

  -- an input that is not joined is b
  unjoined : (name : List ℕ) (width bit : ℕ) → bit < width → some (reaches nand name bit) gate.connections ≡ false → IsInput name width → inside 0 name bit ≡ false
  unjoined name width bit lt free (inl h) =
      let first : bit ≡ 0 = is_zero bit (subst (λ (n : ℕ). bit < n) (sym h.1) lt) in
      let here : some (reaches nand (codes "a") 0) gate.connections ≡ false = subst (λ (b : ℕ). some (reaches nand (codes "a") b) gate.connections ≡ false) first (subst (λ (n : List ℕ). some (reaches nand n bit) gate.connections ≡ false) h.0 free) in
      let never : true ≡ false = here in
      absurd cc
  unjoined name width bit lt free (inr h) = subst (λ (n : List ℕ). inside 0 n bit ≡ false) (sym h) refl

  wired : PartWired false true nand gate outside (inside 0)
  wired = record {
    joined = ((λ k lt. refl), ((λ k lt. first_bit k lt), tt));
    unjoined = λ name width bit e lt free. unjoined name width bit lt free (input_of name width e);
  }

  part_wired : (i : ℕ) (p : Part) (inner : Entry) → slice_get (gate ∷ []) i ≡ Some p → find_chip (beside half_driven) p.chip ≡ Some inner → PartWired false true inner p outside (inside i)
  part_wired zero p inner t f =
      let same : gate ≡ p = ap (part_or gate) t in
      let found : nand ≡ inner = ap (entry_or nand) (subst (λ (q : Part). find_chip (beside half_driven) q.chip ≡ Some inner) (sym same) f) in
      subst (λ (q : Part). PartWired false true inner q outside (inside 0)) same (subst (λ (e : Entry). PartWired false true e gate outside (inside 0)) found wired)
  part_wired (suc i) p inner t f = absurd (no_part p t)

  -- an output bit that is not driven is the second
  undriven_at : (bit : ℕ) → bit < 2 → some (drives (beside half_driven) (codes "out") bit) (gate ∷ []) ≡ false → outside (codes "out") bit ≡ false
  undriven_at zero lt free = let never : true ≡ false = free in absurd cc
  undriven_at (suc zero) lt free = refl
  undriven_at (suc (suc bit)) lt free = absurd (omega (arith, lt))

  undriven : (name : List ℕ) (width bit : ℕ) → width_in half_driven.chip.outputs name ≡ Some width → bit < width → some (drives (beside half_driven) name bit) (gate ∷ []) ≡ false → outside name bit ≡ false
  undriven name width bit e lt free =
      let p = output_by name width (bytes_eq name (codes "out")) refl e in
      subst (λ (n : List ℕ). outside n bit ≡ false) (sym p.0) (undriven_at bit (subst (λ (n : ℕ). bit < n) (sym p.1) lt) (subst (λ (n : List ℕ). some (drives (beside half_driven) n bit) (gate ∷ []) ≡ false) p.0 free))

  whole : PartsWired false true (beside half_driven) half_driven (gate ∷ []) outside inside
  whole = record { part = part_wired; undriven = undriven }

  works : (world : World) → Works world c (beside half_driven) half_driven (driven input)
  unfolding end_of
  works world [] inner e =
      let same : half_driven ≡ inner = ap (entry_or half_driven) e in
      subst (λ (x : Entry). ChipWired false true (beside half_driven) x (end_of Blocks x) outside inside (λ d. EndWorks world c d (driven input []))) same whole
  works world (zero ∷ []) inner e =
      let same : nand ≡ inner = ap (entry_or nand) e in
      subst (λ (x : Entry). ChipWired false true (beside half_driven) x (end_of Blocks x) (inside 0) (λ i name bit. driven input (0 ∷ i ∷ []) name bit c) (λ d. EndWorks world c d (driven input (0 ∷ [])))) same (sym (nand_low (input c)))
  works world (zero ∷ l ∷ path) inner e = absurd (no_entry inner e)
  works world (suc i ∷ path) inner e = absurd (no_entry inner e)

pub behaves : (world : World) (n : ℕ) (input : ℕ → Bool) → Behaves world n input
behaves world n input = record { wires = driven input; behaves = λ c lt. works input c world; hears = λ c. refl }
