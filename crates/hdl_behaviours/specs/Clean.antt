-- A test of one chip's text, which computes: where it passes for each chip of a library, none has a fault. (The book, appendix 2.)
use Rattle.std.specs.Prelude.{◌≡◌, ℕ, zero, suc, Bool, true, false, ◌&&◌, nat_lt, List, [], ◌∷◌, length, Option, Some, None, slice_get, if◌then◌else◌}
use Rattle.std.specs.Str.{bytes_eq}
use Rattle.hdl_tree.specs.declared.tree.Part.{Part}
use Rattle.hdl_tree.specs.declared.library.Entry.{Entry}
use Rattle.hdl_tree.specs.Chips.{Chips, end_of, find_chip, parts_of}
use Rattle.hdl_check.specs.Faults.{pins_of, pin_fault, body_fault, connection_fault_of}

-- the test passes for each number below n
abbrev pub all_below : ℕ → (ℕ → Bool) → Bool
all_below zero test = true
all_below (suc n) test = test n && all_below n test

abbrev pub is_none : {A : Type 0} → Option A → Bool
is_none None = true
is_none (Some a) = false

-- how many chips stand before the first of this name
abbrev pub place_of : List Entry → List ℕ → ℕ
place_of [] name = 0
place_of (entry ∷ entries) name = if bytes_eq name entry.name then 0 else suc (place_of entries name)

-- the chip of the part is there, under this name, and stands before the chip around it
abbrev pub is_earlier : Chips → Entry → Part → Option Entry → Bool
is_earlier chips entry part None = false
is_earlier chips entry part (Some inner) = nat_lt (place_of chips.entries inner.name) (place_of chips.entries entry.name)

-- the chip of part i is there and stands earlier, and none of the part's connections has a fault
abbrev pub part_is_clean : Chips → Entry → ℕ → Option Part → Bool
part_is_clean chips entry i None = true
part_is_clean chips entry i (Some part) =
    is_earlier chips entry part (find_chip chips part.chip) && all_below (length part.connections) (λ j. is_none (connection_fault_of chips entry i part j))

abbrev pub text_is_clean : Chips → Entry → Bool
text_is_clean chips entry =
    all_below (length (pins_of entry.chip)) (λ k. is_none (pin_fault entry k))
    && (is_none (body_fault entry) && all_below (length (parts_of chips entry)) (λ i. part_is_clean chips entry i (slice_get (parts_of chips entry) i)))

-- nothing is wrong in the chip's own text; an end has none
abbrev pub is_clean : Chips → Entry → Bool
is_clean chips entry = elim (end_of chips.memories entry) [ None ↦ text_is_clean chips entry | Some e ↦ true ]

-- each chip of the library is clean
abbrev pub AreClean : Chips → Type 0
AreClean chips = (i : ℕ) (entry : Entry) → slice_get chips.entries i ≡ Some entry → is_clean chips entry ≡ true
