-- The bits that are marked in the code.
use Rattle.std.specs.Prelude.{◌≡◌, ℕ, Bool, false, List, [], ◌∷◌, ◌||◌, ◌&&◌, nat_eq}
use Rattle.std.specs.Str.{bytes_eq}
use Rattle.std.specs.List.{list_any}
use Rattle.hdl_check.specs.Tables.{BitOf, is_in}
use Rattle.hdl_check.specs.declared.marks.Mark.{Mark}
use Rattle.hdl_check.specs.declared.marks.Marks.{Marks}

abbrev pub is_mark : List ℕ → ℕ → Mark → Bool
is_mark name bit m = bytes_eq name m.name.now && nat_eq bit m.bit

-- the bit is marked
abbrev pub is_marked : Marks → List ℕ → ℕ → Bool
is_marked marks name bit = list_any (is_mark name bit) marks.bits.keys

abbrev pub some_marked : Marks → List BitOf → Bool
some_marked marks [] = false
some_marked marks (b ∷ bs) = is_marked marks b.name b.bit || some_marked marks bs

-- these bits are marked, and no others
abbrev pub HasMarks : Marks → List BitOf → Type 0
HasMarks marks bs = (name : List ℕ) (bit : ℕ) → is_marked marks name bit ≡ is_in name bit bs

-- these bits are marked beside those that were
abbrev pub MarksMore : Marks → Marks → List BitOf → Type 0
MarksMore old new bs = (name : List ℕ) (bit : ℕ) → is_marked new name bit ≡ (is_marked old name bit || is_in name bit bs)
