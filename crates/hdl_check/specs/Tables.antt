-- Sets of bits of names. (The book, appendix 2: buses.)
use Rattle.std.specs.Prelude.{ℕ, zero, suc, ◌+◌, Bool, false, List, [], ◌∷◌, ◌++◌, ◌&&◌, ◌||◌, nat_eq}
use Rattle.std.specs.Str.{bytes_eq}

-- a bit of a pin or net
pub record BitOf : Type 0 where
  pub name : List ℕ
  pub bit : ℕ

-- this many bits from the first on
abbrev pub bits_of : List ℕ → ℕ → ℕ → List BitOf
bits_of name first zero = []
bits_of name first (suc n) = bits_of name first n ++ record { name = name; bit = first + n } ∷ []

-- the bit is one of these
abbrev pub is_in : List ℕ → ℕ → List BitOf → Bool
is_in name bit [] = false
is_in name bit (b ∷ bs) = (bytes_eq name b.name && nat_eq bit b.bit) || is_in name bit bs

-- some of these bits is one of those
abbrev pub some_in : List BitOf → List BitOf → Bool
some_in [] those = false
some_in (b ∷ bs) those = is_in b.name b.bit those || some_in bs those
