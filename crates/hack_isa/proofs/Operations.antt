-- What the ALU gives for the six bits of each computation, on words.
use Rattle.std.proofs.Common.{◌≡◌, ℕ, ◌+◌, ◌-◌, ◌<◌, ◌%◌, refl, ap, arith}
use Rattle.std.specs.Prelude.{bit_and, bit_or}
use Rattle.std.specs.Int.Bits.{or_add_and}
use Rattle.std.proofs.lemmas.Grind.{common_steps}
use Rattle.std.proofs.lemmas.Nat.{and-not, and_comm}
use Rattle.hack_isa.specs.Table.{alu_out}

and_ones : (x : ℕ) → x < 65536 → x ≡ bit_and x 65535
and_ones x h = grind (arith, common_steps)

ones_and : (x : ℕ) → x < 65536 → x ≡ bit_and 65535 x
ones_and x h = grind (arith, common_steps)

pub alu_42 : (x y : ℕ) → x < 65536 → y < 65536 → 0 ≡ alu_out 42 x y
unfolding alu_out
alu_42 x y hx hy = refl

pub alu_63 : (x y : ℕ) → x < 65536 → y < 65536 → 1 ≡ alu_out 63 x y
unfolding alu_out
alu_63 x y hx hy = refl

pub alu_58 : (x y : ℕ) → x < 65536 → y < 65536 → 65535 ≡ alu_out 58 x y
unfolding alu_out
alu_58 x y hx hy = refl

pub alu_12 : (x y : ℕ) → x < 65536 → y < 65536 → x ≡ alu_out 12 x y
unfolding alu_out
alu_12 x y hx hy = and_ones x hx

pub alu_48 : (x y : ℕ) → x < 65536 → y < 65536 → y ≡ alu_out 48 x y
unfolding alu_out
alu_48 x y hx hy = ones_and y hy

pub alu_13 : (x y : ℕ) → x < 65536 → y < 65536 → 65535 - x ≡ alu_out 13 x y
unfolding alu_out
alu_13 x y hx hy = ap (λ n. 65535 - n) (and_ones x hx)

pub alu_49 : (x y : ℕ) → x < 65536 → y < 65536 → 65535 - y ≡ alu_out 49 x y
unfolding alu_out
alu_49 x y hx hy = ap (λ n. 65535 - n) (ones_and y hy)

pub alu_15 : (x y : ℕ) → x < 65536 → y < 65536 → (65536 - x) % 65536 ≡ alu_out 15 x y
unfolding alu_out
alu_15 x y hx hy = omega arith

pub alu_51 : (x y : ℕ) → x < 65536 → y < 65536 → (65536 - y) % 65536 ≡ alu_out 51 x y
unfolding alu_out
alu_51 x y hx hy = omega arith

pub alu_31 : (x y : ℕ) → x < 65536 → y < 65536 → (x + 1) % 65536 ≡ alu_out 31 x y
unfolding alu_out
alu_31 x y hx hy = omega arith

pub alu_55 : (x y : ℕ) → x < 65536 → y < 65536 → (y + 1) % 65536 ≡ alu_out 55 x y
unfolding alu_out
alu_55 x y hx hy = omega arith

pub alu_14 : (x y : ℕ) → x < 65536 → y < 65536 → (x + 65535) % 65536 ≡ alu_out 14 x y
unfolding alu_out
alu_14 x y hx hy = omega arith

pub alu_50 : (x y : ℕ) → x < 65536 → y < 65536 → (y + 65535) % 65536 ≡ alu_out 50 x y
unfolding alu_out
alu_50 x y hx hy = omega arith

pub alu_2 : (x y : ℕ) → x < 65536 → y < 65536 → (x + y) % 65536 ≡ alu_out 2 x y
unfolding alu_out
alu_2 x y hx hy = omega arith

pub alu_19 : (x y : ℕ) → x < 65536 → y < 65536 → (x + (65536 - y)) % 65536 ≡ alu_out 19 x y
unfolding alu_out
alu_19 x y hx hy = omega arith

pub alu_7 : (x y : ℕ) → x < 65536 → y < 65536 → (y + (65536 - x)) % 65536 ≡ alu_out 7 x y
unfolding alu_out
alu_7 x y hx hy = omega arith

pub alu_0 : (x y : ℕ) → x < 65536 → y < 65536 → bit_and x y ≡ alu_out 0 x y
unfolding alu_out
alu_0 x y hx hy = refl

pub alu_21 : (x y : ℕ) → x < 65536 → y < 65536 → bit_or x y ≡ alu_out 21 x y
unfolding alu_out
alu_21 x y hx hy =
    let first : bit_and (65535 - x) (65535 - y) + bit_and x (65535 - y) ≡ 65535 - y = and-not 16 x (65535 - y) hx (omega arith) in
    let second : bit_and (65535 - y) x + bit_and y x ≡ x = and-not 16 y x hy hx in
    omega (arith, first, second, and_comm x (65535 - y), and_comm x y, or_add_and x y)
