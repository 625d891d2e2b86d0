-- The lines of the parts, by the netlist and by a behaviour.
use Rattle.std.proofs.Common.{◌≡◌, ◌<◌, ◌++◌, ℕ, zero, suc, Bool, List, [], ◌∷◌, refl, ap, ◌∙◌, sym, append_assoc}
use Rattle.std.specs.Prelude.{map}
use Rattle.std.specs.List.{All, flat_map}
use Rattle.std.proofs.lemmas.List.Elements.{All-head, All-tail}
use Rattle.hdl_tree.specs.declared.tree.Pin.{Pin}
use Rattle.hdl_tree.specs.Chips.{pin_width}
use Rattle.hdl_tree.specs.Behaviour.{Wires}
use Rattle.hdl_flatten.specs.Trees.{PartIn}
use Rattle.gate_computer.specs.declared.wiring.WiredPart.{WiredPart}
use Rattle.gate_computer.specs.Parts.{digit, from_highest, part_line, parts_text}
use Rattle.gate_computer.specs.Wiring.{part_at}
use Rattle.gate_computer.specs.Inner.Reading.{wired_line, wired_text, ArePartsThere}

-- the three pieces of a line
pub line_is : (name digits : List ℕ) → ((name ++ 32 ∷ []) ++ digits) ++ 10 ∷ [] ≡ name ++ 32 ∷ (digits ++ 10 ∷ [])
line_is name digits = append_assoc (name ++ 32 ∷ []) digits (10 ∷ []) ∙ append_assoc name (32 ∷ []) (digits ++ 10 ∷ [])

-- ---- rows that are the same at the nodes

digits_same : (f g : ℕ → Bool) (nodes : List ℕ) → All (λ k. f k ≡ g k) nodes → map (λ node. digit (f node)) nodes ≡ map (λ node. digit (g node)) nodes
digits_same f g [] h = refl
digits_same f g (node ∷ nodes) h =
    ap (λ b. digit b ∷ map (λ k. digit (f k)) nodes) (All-head (λ k. f k ≡ g k) node nodes h)
    ∙ ap (λ l. digit (g node) ∷ l) (digits_same f g nodes (All-tail (λ k. f k ≡ g k) node nodes h))

line_same : (f g : ℕ → Bool) (n : ℕ) (part : WiredPart) → ((k : ℕ) → k < n → f k ≡ g k) → All (λ k. k < n) part.outputs → wired_line f part ≡ wired_line g part
line_same f g n part same there = ap (λ l. part.chip ++ 32 ∷ (l ++ 10 ∷ [])) (digits_same f g part.outputs (λ i d less. same _ (there i d less)))

pub text_same : (f g : ℕ → Bool) (n : ℕ) (parts : List WiredPart) → ((k : ℕ) → k < n → f k ≡ g k) → ArePartsThere n parts → wired_text f parts ≡ wired_text g parts
text_same f g n [] same there = refl
text_same f g n (part ∷ parts) same there =
    ap (λ l. l ++ wired_text f parts) (line_same f g n part same (there 0 part refl))
    ∙ ap (λ l. wired_line g part ++ l) (text_same f g n parts same (λ i p at. there (suc i) p at))

-- ---- from nodes to bits

map_join : (f : ℕ → ℕ) (xs ys : List ℕ) → map f (xs ++ ys) ≡ map f xs ++ map f ys
map_join f [] ys = refl
map_join f (x ∷ xs) ys = ap (λ l. f x ∷ l) (map_join f xs ys)

bool_join : (f : Bool → ℕ) (xs ys : List Bool) → map f (xs ++ ys) ≡ map f xs ++ map f ys
bool_join f [] ys = refl
bool_join f (x ∷ xs) ys = ap (λ l. f x ∷ l) (bool_join f xs ys)

highest_bits : (row : ℕ → Bool) (n : ℕ) (at : ℕ → ℕ) → map (λ node. digit (row node)) (from_highest n at) ≡ map digit (from_highest n (λ bit. row (at bit)))
highest_bits row zero at = refl
highest_bits row (suc n) at = ap (λ l. digit (row (at n)) ∷ l) (highest_bits row n at)

pins_bits : (row : ℕ → Bool) (pins : List Pin) (at : Wires ℕ)
    → map (λ node. digit (row node)) (flat_map (λ (pin : Pin). from_highest (pin_width pin) (at pin.name)) pins) ≡ map digit (flat_map (λ (pin : Pin). from_highest (pin_width pin) (λ bit. row (at pin.name bit))) pins)
pins_bits row [] at = refl
pins_bits row (pin ∷ pins) at =
    map_join (λ node. digit (row node)) (from_highest (pin_width pin) (at pin.name)) (flat_map (λ (p : Pin). from_highest (pin_width p) (at p.name)) pins)
    ∙ ap (λ l. l ++ map (λ node. digit (row node)) (flat_map (λ (p : Pin). from_highest (pin_width p) (at p.name)) pins)) (highest_bits row (pin_width pin) (at pin.name))
    ∙ ap (λ l. map digit (from_highest (pin_width pin) (λ bit. row (at pin.name bit))) ++ l) (pins_bits row pins at)
    ∙ sym (bool_join digit (from_highest (pin_width pin) (λ bit. row (at pin.name bit))) (flat_map (λ (p : Pin). from_highest (pin_width p) (λ bit. row (at p.name bit))) pins))

pub text_is : (v : ℕ → ℕ → Bool) (c : ℕ) (at : List ℕ → Wires ℕ) (places : List PartIn) → wired_text (λ k. v k c) (map (part_at at) places) ≡ parts_text (λ path name bit d. v (at path name bit) d) c places
text_is v c at [] = refl
text_is v c at (place ∷ places) =
    ap (λ l. (place.chip.name ++ 32 ∷ (l ++ 10 ∷ [])) ++ wired_text (λ k. v k c) (map (part_at at) places)) (pins_bits (λ k. v k c) place.chip.chip.outputs (at place.path))
    ∙ ap (λ l. part_line (λ path name bit d. v (at path name bit) d) c place ++ l) (text_is v c at places)
