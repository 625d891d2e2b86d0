-- The nodes of outputs, of each pin the highest bit first.
use Rattle.std.proofs.Common.{◌≡◌, ◌<◌, ◌+◌, ◌-◌, ℕ, zero, suc, List, [], ◌∷◌, ◌++◌, length, take, drop, refl, ap, sym, subst, ◌∙◌, arith}
use Rattle.std.specs.Prelude.{reverse}
use Rattle.std.specs.List.{All, flat_map}
use Rattle.std.proofs.lemmas.List.{map-append, reverse-append, length-reverse, length-map, take_all, drop_all, take-append-le, drop-append-le, get_or-reverse}
use Rattle.std.proofs.lemmas.List.Elements.{All-nil, All-append, All-take, All-drop}
use Rattle.hdl_tree.specs.declared.tree.Pin.{Pin}
use Rattle.hdl_tree.specs.Chips.{pin_width}
use Rattle.hdl_tree.specs.Behaviour.{Wires}
use Rattle.hdl_check.specs.Tables.{bits_of}
use Rattle.hdl_flatten.specs.Trees.{all_bits, bit_count}
use Rattle.hdl_flatten.specs.Flat.{nodes_at}
use Rattle.gate_computer.specs.Inner.Directory.{turned_nodes}
use Rattle.gate_computer.specs.Parts.{from_highest}

both_long : {X : Type 0} (a b : List X) → length (a ++ b) ≡ length a + length b
both_long [] b = omega arith
both_long (x ∷ a) b = let h = both_long a b in omega (arith, h)

bits_long : (name : List ℕ) (n : ℕ) → length (bits_of name 0 n) ≡ n
bits_long name zero = refl
bits_long name (suc n) =
    let h = bits_long name n in
    let both = both_long (bits_of name 0 n) (record { name = name; bit = 0 + n } ∷ []) in
    omega (arith, h, both)

nodes_long : (at : Wires ℕ) (name : List ℕ) (n : ℕ) → length (nodes_at at (bits_of name 0 n)) ≡ n
nodes_long at name n = length-map (bits_of name 0 n) (λ b. at b.name b.bit) ∙ bits_long name n

pub outs_long : (at : Wires ℕ) (pins : List Pin) → length (nodes_at at (all_bits pins)) ≡ bit_count pins
outs_long at [] = refl
outs_long at (pin ∷ pins) =
    let one : length (nodes_at at (bits_of pin.name 0 (pin_width pin) ++ all_bits pins)) ≡ length (nodes_at at (bits_of pin.name 0 (pin_width pin))) + length (nodes_at at (all_bits pins)) =
    ap (λ (l : List ℕ). length l) (map-append (λ b. at b.name b.bit) (bits_of pin.name 0 (pin_width pin)) (all_bits pins))
    ∙ both_long (nodes_at at (bits_of pin.name 0 (pin_width pin))) (nodes_at at (all_bits pins)) in
    let h = nodes_long at pin.name (pin_width pin) in
    let k = outs_long at pins in
    omega (arith, one, h, k)

bits_back : (at : Wires ℕ) (name : List ℕ) (n : ℕ) → reverse (nodes_at at (bits_of name 0 n)) ≡ from_highest n (at name)
bits_back at name zero = refl
bits_back at name (suc n) =
    ap reverse (map-append (λ b. at b.name b.bit) (bits_of name 0 n) (record { name = name; bit = 0 + n } ∷ []))
    ∙ reverse-append (nodes_at at (bits_of name 0 n)) (at name (0 + n) ∷ [])
    ∙ ap (λ (l : List ℕ). at name (0 + n) ∷ l) (bits_back at name n)
    ∙ ap (λ k. at name k ∷ from_highest n (at name)) (let e : 0 + n ≡ n = omega arith in e)

front : (n : ℕ) (xs ys : List ℕ) → length xs ≡ n → take n (xs ++ ys) ≡ xs
front n xs ys e = take-append-le n xs ys (omega (arith, e)) ∙ take_all n xs (omega (arith, e))

behind : (n : ℕ) (xs ys : List ℕ) → length xs ≡ n → drop n (xs ++ ys) ≡ ys
behind n xs ys e = drop-append-le n xs ys (omega (arith, e)) ∙ ap (λ (l : List ℕ). l ++ ys) (drop_all n xs (omega (arith, e)))

-- the nodes of a chip's outputs, turned
pub turned_is : (at : Wires ℕ) (pins : List Pin) → turned_nodes pins (nodes_at at (all_bits pins)) ≡ flat_map (λ (pin : Pin). from_highest (pin_width pin) (at pin.name)) pins
turned_is at [] = refl
turned_is at (pin ∷ pins) =
    let own = nodes_at at (bits_of pin.name 0 (pin_width pin)) in
    let rest = nodes_at at (all_bits pins) in
    let long = nodes_long at pin.name (pin_width pin) in
    ap (turned_nodes (pin ∷ pins)) (map-append (λ b. at b.name b.bit) (bits_of pin.name 0 (pin_width pin)) (all_bits pins))
    ∙ ap (λ (l : List ℕ). reverse l ++ turned_nodes pins (drop (pin_width pin) (own ++ rest))) (front (pin_width pin) own rest long)
    ∙ ap (λ (l : List ℕ). reverse own ++ turned_nodes pins l) (behind (pin_width pin) own rest long)
    ∙ ap (λ (l : List ℕ). l ++ turned_nodes pins rest) (bits_back at pin.name (pin_width pin))
    ∙ ap (λ (l : List ℕ). from_highest (pin_width pin) (at pin.name) ++ l) (turned_is at pins)

back_all : (P : ℕ → Type 0) (xs : List ℕ) → All P xs → All P (reverse xs)
back_all P xs h k d less =
    let long = length-reverse xs in
    let near : k < length xs = omega (arith, less, long) in
    subst P (sym (get_or-reverse xs k d near)) (h (length xs - 1 - k) d (omega arith))

-- what holds of each node holds of each that is turned
pub turned_all : (P : ℕ → Type 0) (pins : List Pin) (nodes : List ℕ) → All P nodes → All P (turned_nodes pins nodes)
turned_all P [] nodes h = All-nil P
turned_all P (pin ∷ pins) nodes h =
    All-append P (reverse (take (pin_width pin) nodes)) (turned_nodes pins (drop (pin_width pin) nodes))
    (back_all P (take (pin_width pin) nodes) (All-take P (pin_width pin) nodes h))
    (turned_all P pins (drop (pin_width pin) nodes) (All-drop P (pin_width pin) nodes h))
