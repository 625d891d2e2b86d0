-- What each computation of the instruction table computes, on words.
use Rattle.std.proofs.Common.{◌≡◌, ℕ, ◌+◌, ◌-◌, ◌<◌, ◌%◌, Bool, true, false, refl, sym, subst, arith}
use Rattle.word16.specs.Words.{has_bit}
use Rattle.std.specs.Int.Bits.{and_lt}
use Rattle.std.specs.Prelude.{nat_eq, bit_and, bit_or, if◌then◌else◌}
use Rattle.std.proofs.lemmas.Grind.{common_steps}
use Rattle.hack_isa.specs.Table.{alu_out, preset, combine}
use Rattle.hack_isa.proofs.Operations.{alu_42, alu_63, alu_58, alu_12, alu_48, alu_13, alu_49, alu_15, alu_51, alu_31, alu_55, alu_14, alu_50, alu_2, alu_19, alu_7, alu_0, alu_21}

abbrev pub comp_value : ℕ → ℕ → ℕ → ℕ
comp_value bits x y =
    if nat_eq bits 42 then 0 else
    if nat_eq bits 63 then 1 else
    if nat_eq bits 58 then 65535 else
    if nat_eq bits 12 then x else
    if nat_eq bits 48 then y else
    if nat_eq bits 13 then 65535 - x else
    if nat_eq bits 49 then 65535 - y else
    if nat_eq bits 15 then (65536 - x) % 65536 else
    if nat_eq bits 51 then (65536 - y) % 65536 else
    if nat_eq bits 31 then (x + 1) % 65536 else
    if nat_eq bits 55 then (y + 1) % 65536 else
    if nat_eq bits 14 then (x + 65535) % 65536 else
    if nat_eq bits 50 then (y + 65535) % 65536 else
    if nat_eq bits 2 then (x + y) % 65536 else
    if nat_eq bits 19 then (x + (65536 - y)) % 65536 else
    if nat_eq bits 7 then (y + (65536 - x)) % 65536 else
    if nat_eq bits 0 then bit_and x y else
    if nat_eq bits 21 then bit_or x y else
    alu_out bits x y

-- one line of a table
at_line : (bits k v rest out : ℕ) → (bits ≡ k → v ≡ out) → rest ≡ out → (if nat_eq bits k then v else rest) ≡ out
at_line bits k v rest out here later = grind (arith, common_steps)

pub comp_is : (bits x y : ℕ) → x < 65536 → y < 65536 → comp_value bits x y ≡ alu_out bits x y
comp_is bits x y hx hy =
    at_line bits 42 _ _ _ (λ e. subst (λ b. 0 ≡ alu_out b x y) (sym e) (alu_42 x y hx hy)) (
    at_line bits 63 _ _ _ (λ e. subst (λ b. 1 ≡ alu_out b x y) (sym e) (alu_63 x y hx hy)) (
    at_line bits 58 _ _ _ (λ e. subst (λ b. 65535 ≡ alu_out b x y) (sym e) (alu_58 x y hx hy)) (
    at_line bits 12 _ _ _ (λ e. subst (λ b. x ≡ alu_out b x y) (sym e) (alu_12 x y hx hy)) (
    at_line bits 48 _ _ _ (λ e. subst (λ b. y ≡ alu_out b x y) (sym e) (alu_48 x y hx hy)) (
    at_line bits 13 _ _ _ (λ e. subst (λ b. 65535 - x ≡ alu_out b x y) (sym e) (alu_13 x y hx hy)) (
    at_line bits 49 _ _ _ (λ e. subst (λ b. 65535 - y ≡ alu_out b x y) (sym e) (alu_49 x y hx hy)) (
    at_line bits 15 _ _ _ (λ e. subst (λ b. (65536 - x) % 65536 ≡ alu_out b x y) (sym e) (alu_15 x y hx hy)) (
    at_line bits 51 _ _ _ (λ e. subst (λ b. (65536 - y) % 65536 ≡ alu_out b x y) (sym e) (alu_51 x y hx hy)) (
    at_line bits 31 _ _ _ (λ e. subst (λ b. (x + 1) % 65536 ≡ alu_out b x y) (sym e) (alu_31 x y hx hy)) (
    at_line bits 55 _ _ _ (λ e. subst (λ b. (y + 1) % 65536 ≡ alu_out b x y) (sym e) (alu_55 x y hx hy)) (
    at_line bits 14 _ _ _ (λ e. subst (λ b. (x + 65535) % 65536 ≡ alu_out b x y) (sym e) (alu_14 x y hx hy)) (
    at_line bits 50 _ _ _ (λ e. subst (λ b. (y + 65535) % 65536 ≡ alu_out b x y) (sym e) (alu_50 x y hx hy)) (
    at_line bits 2 _ _ _ (λ e. subst (λ b. (x + y) % 65536 ≡ alu_out b x y) (sym e) (alu_2 x y hx hy)) (
    at_line bits 19 _ _ _ (λ e. subst (λ b. (x + (65536 - y)) % 65536 ≡ alu_out b x y) (sym e) (alu_19 x y hx hy)) (
    at_line bits 7 _ _ _ (λ e. subst (λ b. (y + (65536 - x)) % 65536 ≡ alu_out b x y) (sym e) (alu_7 x y hx hy)) (
    at_line bits 0 _ _ _ (λ e. subst (λ b. bit_and x y ≡ alu_out b x y) (sym e) (alu_0 x y hx hy)) (
    at_line bits 21 _ _ _ (λ e. subst (λ b. bit_or x y ≡ alu_out b x y) (sym e) (alu_21 x y hx hy)) (
    refl))))))))))))))))))

preset_small : (z n : Bool) (x : ℕ) → x < 65536 → preset z n x < 65536
preset_small true true x h = omega arith
preset_small true false x h = omega arith
preset_small false true x h = omega arith
preset_small false false x h = h

combine_small : (f n : Bool) (x y : ℕ) → x < 65536 → y < 65536 → combine f n x y < 65536
combine_small true true x y hx hy = omega arith
combine_small true false x y hx hy = omega arith
combine_small false true x y hx hy = omega arith
combine_small false false x y hx hy = and_lt 16 x y hx hy

pub alu_small : (bits x y : ℕ) → x < 65536 → y < 65536 → alu_out bits x y < 65536
unfolding alu_out
alu_small bits x y hx hy =
    combine_small (has_bit bits 1) (has_bit bits 0) (preset (has_bit bits 5) (has_bit bits 4) x) (preset (has_bit bits 3) (has_bit bits 2) y) (preset_small (has_bit bits 5) (has_bit bits 4) x hx) (preset_small (has_bit bits 3) (has_bit bits 2) y hy)

pub comp_small : (bits x y : ℕ) → x < 65536 → y < 65536 → comp_value bits x y < 65536
comp_small bits x y hx hy = subst (λ n. n < 65536) (sym (comp_is bits x y hx hy)) (alu_small bits x y hx hy)
