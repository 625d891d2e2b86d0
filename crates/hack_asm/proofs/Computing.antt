-- The instruction of each row of the table of comp gives what its text says.
use Rattle.std.proofs.Common.{◌≡◌, ℕ, true, false, refl, sym, ◌∙◌, arith}
use Rattle.std.proofs.lemmas.Nat.{and_comm, or_comm}
use Rattle.word16.specs.Words.{word_add}
use Rattle.hack_isa.specs.Table.{instr_of}
use Rattle.hack_isa.proofs.Operations.{alu_0, alu_2, alu_7, alu_12, alu_13, alu_14, alu_15, alu_19, alu_21, alu_31, alu_42, alu_48, alu_49, alu_50, alu_51, alu_55, alu_58, alu_63}
use Rattle.hack_asm.specs.declared.token.Letter.TheVariants.{Zero, One, A, D, M}
use Rattle.hack_asm.specs.declared.token.Operator.TheVariants.{Plus, Minus, And, Or}
use Rattle.hack_asm.specs.declared.lines.Prefix.TheVariants as prefix
use Rattle.hack_asm.specs.declared.lines.Comp.{Comp}
use Rattle.hack_asm.specs.declared.lines.Comp.TheVariants as comp
use Rattle.hack_asm.specs.Comps.{find_row}
use Rattle.hack_asm.specs.Computed.{Computes}

sums : (x y : ℕ) → word_add x y ≡ word_add y x
sums x y = omega arith

pub rows_compute : (c : Comp) → Computes c (find_row c)
unfolding instr_of
rows_compute (comp.Alone Zero) = λ h w. sym (alu_42 h.d h.a w.d w.a)
rows_compute (comp.Alone One) = λ h w. sym (alu_63 h.d h.a w.d w.a)
rows_compute (comp.Alone A) = λ h w. sym (alu_48 h.d h.a w.d w.a)
rows_compute (comp.Alone D) = λ h w. sym (alu_12 h.d h.a w.d w.a)
rows_compute (comp.Alone M) = λ h w. sym (alu_48 h.d h.m w.d w.m)
rows_compute (comp.Under prefix.Minus Zero) = tt
rows_compute (comp.Under prefix.Minus One) = λ h w. sym (alu_58 h.d h.a w.d w.a)
rows_compute (comp.Under prefix.Minus A) = λ h w. sym (alu_51 h.d h.a w.d w.a)
rows_compute (comp.Under prefix.Minus D) = λ h w. sym (alu_15 h.d h.a w.d w.a)
rows_compute (comp.Under prefix.Minus M) = λ h w. sym (alu_51 h.d h.m w.d w.m)
rows_compute (comp.Under prefix.Not Zero) = tt
rows_compute (comp.Under prefix.Not One) = tt
rows_compute (comp.Under prefix.Not A) = λ h w. sym (alu_49 h.d h.a w.d w.a)
rows_compute (comp.Under prefix.Not D) = λ h w. sym (alu_13 h.d h.a w.d w.a)
rows_compute (comp.Under prefix.Not M) = λ h w. sym (alu_49 h.d h.m w.d w.m)
rows_compute (comp.Pair Zero Plus Zero) = tt
rows_compute (comp.Pair Zero Plus One) = tt
rows_compute (comp.Pair Zero Plus A) = tt
rows_compute (comp.Pair Zero Plus D) = tt
rows_compute (comp.Pair Zero Plus M) = tt
rows_compute (comp.Pair One Plus Zero) = tt
rows_compute (comp.Pair One Plus One) = tt
rows_compute (comp.Pair One Plus A) = λ h w. sym (alu_55 h.d h.a w.d w.a) ∙ sums h.a 1
rows_compute (comp.Pair One Plus D) = λ h w. sym (alu_31 h.d h.a w.d w.a) ∙ sums h.d 1
rows_compute (comp.Pair One Plus M) = λ h w. sym (alu_55 h.d h.m w.d w.m) ∙ sums h.m 1
rows_compute (comp.Pair A Plus Zero) = tt
rows_compute (comp.Pair A Plus One) = λ h w. sym (alu_55 h.d h.a w.d w.a)
rows_compute (comp.Pair A Plus A) = tt
rows_compute (comp.Pair A Plus D) = λ h w. sym (alu_2 h.d h.a w.d w.a) ∙ sums h.d h.a
rows_compute (comp.Pair A Plus M) = tt
rows_compute (comp.Pair D Plus Zero) = tt
rows_compute (comp.Pair D Plus One) = λ h w. sym (alu_31 h.d h.a w.d w.a)
rows_compute (comp.Pair D Plus A) = λ h w. sym (alu_2 h.d h.a w.d w.a)
rows_compute (comp.Pair D Plus D) = tt
rows_compute (comp.Pair D Plus M) = λ h w. sym (alu_2 h.d h.m w.d w.m)
rows_compute (comp.Pair M Plus Zero) = tt
rows_compute (comp.Pair M Plus One) = λ h w. sym (alu_55 h.d h.m w.d w.m)
rows_compute (comp.Pair M Plus A) = tt
rows_compute (comp.Pair M Plus D) = λ h w. sym (alu_2 h.d h.m w.d w.m) ∙ sums h.d h.m
rows_compute (comp.Pair M Plus M) = tt
rows_compute (comp.Pair Zero Minus Zero) = tt
rows_compute (comp.Pair Zero Minus One) = tt
rows_compute (comp.Pair Zero Minus A) = tt
rows_compute (comp.Pair Zero Minus D) = tt
rows_compute (comp.Pair Zero Minus M) = tt
rows_compute (comp.Pair One Minus Zero) = tt
rows_compute (comp.Pair One Minus One) = tt
rows_compute (comp.Pair One Minus A) = tt
rows_compute (comp.Pair One Minus D) = tt
rows_compute (comp.Pair One Minus M) = tt
rows_compute (comp.Pair A Minus Zero) = tt
rows_compute (comp.Pair A Minus One) = λ h w. sym (alu_50 h.d h.a w.d w.a)
rows_compute (comp.Pair A Minus A) = tt
rows_compute (comp.Pair A Minus D) = λ h w. sym (alu_7 h.d h.a w.d w.a)
rows_compute (comp.Pair A Minus M) = tt
rows_compute (comp.Pair D Minus Zero) = tt
rows_compute (comp.Pair D Minus One) = λ h w. sym (alu_14 h.d h.a w.d w.a)
rows_compute (comp.Pair D Minus A) = λ h w. sym (alu_19 h.d h.a w.d w.a)
rows_compute (comp.Pair D Minus D) = tt
rows_compute (comp.Pair D Minus M) = λ h w. sym (alu_19 h.d h.m w.d w.m)
rows_compute (comp.Pair M Minus Zero) = tt
rows_compute (comp.Pair M Minus One) = λ h w. sym (alu_50 h.d h.m w.d w.m)
rows_compute (comp.Pair M Minus A) = tt
rows_compute (comp.Pair M Minus D) = λ h w. sym (alu_7 h.d h.m w.d w.m)
rows_compute (comp.Pair M Minus M) = tt
rows_compute (comp.Pair Zero And Zero) = tt
rows_compute (comp.Pair Zero And One) = tt
rows_compute (comp.Pair Zero And A) = tt
rows_compute (comp.Pair Zero And D) = tt
rows_compute (comp.Pair Zero And M) = tt
rows_compute (comp.Pair One And Zero) = tt
rows_compute (comp.Pair One And One) = tt
rows_compute (comp.Pair One And A) = tt
rows_compute (comp.Pair One And D) = tt
rows_compute (comp.Pair One And M) = tt
rows_compute (comp.Pair A And Zero) = tt
rows_compute (comp.Pair A And One) = tt
rows_compute (comp.Pair A And A) = tt
rows_compute (comp.Pair A And D) = λ h w. sym (alu_0 h.d h.a w.d w.a) ∙ and_comm h.d h.a
rows_compute (comp.Pair A And M) = tt
rows_compute (comp.Pair D And Zero) = tt
rows_compute (comp.Pair D And One) = tt
rows_compute (comp.Pair D And A) = λ h w. sym (alu_0 h.d h.a w.d w.a)
rows_compute (comp.Pair D And D) = tt
rows_compute (comp.Pair D And M) = λ h w. sym (alu_0 h.d h.m w.d w.m)
rows_compute (comp.Pair M And Zero) = tt
rows_compute (comp.Pair M And One) = tt
rows_compute (comp.Pair M And A) = tt
rows_compute (comp.Pair M And D) = λ h w. sym (alu_0 h.d h.m w.d w.m) ∙ and_comm h.d h.m
rows_compute (comp.Pair M And M) = tt
rows_compute (comp.Pair Zero Or Zero) = tt
rows_compute (comp.Pair Zero Or One) = tt
rows_compute (comp.Pair Zero Or A) = tt
rows_compute (comp.Pair Zero Or D) = tt
rows_compute (comp.Pair Zero Or M) = tt
rows_compute (comp.Pair One Or Zero) = tt
rows_compute (comp.Pair One Or One) = tt
rows_compute (comp.Pair One Or A) = tt
rows_compute (comp.Pair One Or D) = tt
rows_compute (comp.Pair One Or M) = tt
rows_compute (comp.Pair A Or Zero) = tt
rows_compute (comp.Pair A Or One) = tt
rows_compute (comp.Pair A Or A) = tt
rows_compute (comp.Pair A Or D) = λ h w. sym (alu_21 h.d h.a w.d w.a) ∙ or_comm h.d h.a
rows_compute (comp.Pair A Or M) = tt
rows_compute (comp.Pair D Or Zero) = tt
rows_compute (comp.Pair D Or One) = tt
rows_compute (comp.Pair D Or A) = λ h w. sym (alu_21 h.d h.a w.d w.a)
rows_compute (comp.Pair D Or D) = tt
rows_compute (comp.Pair D Or M) = λ h w. sym (alu_21 h.d h.m w.d w.m)
rows_compute (comp.Pair M Or Zero) = tt
rows_compute (comp.Pair M Or One) = tt
rows_compute (comp.Pair M Or A) = tt
rows_compute (comp.Pair M Or D) = λ h w. sym (alu_21 h.d h.m w.d w.m) ∙ or_comm h.d h.m
rows_compute (comp.Pair M Or M) = tt
rows_compute (comp.Shifted Zero true) = tt
rows_compute (comp.Shifted Zero false) = tt
rows_compute (comp.Shifted One true) = tt
rows_compute (comp.Shifted One false) = tt
rows_compute (comp.Shifted A true) = λ h w. refl
rows_compute (comp.Shifted A false) = λ h w. refl
rows_compute (comp.Shifted D true) = λ h w. refl
rows_compute (comp.Shifted D false) = λ h w. refl
rows_compute (comp.Shifted M true) = λ h w. refl
rows_compute (comp.Shifted M false) = λ h w. refl
