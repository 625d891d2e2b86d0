-- The rows of heaps.
use Rattle.std.proofs.Common.{ℕ, List, [], ◌∷◌, map, inl, inr, refl, arith}
use Rattle.std.specs.Prelude.{slice_set}
use Rattle.os_laws.specs.Heap.{part_at, part_of, AreApart, Heap}
use Rattle.os_laws.specs.Rows.{begun_memory, taken_memory, three, into_three, HeapRows}
use Rattle.os_laws.proofs.Parts.{last_ones}

at_start : Heap begun_memory 2048 []
at_start = (
  2048 ∷ [],
  record {
    links = (refl, refl);
    long = (omega arith, tt);
    blocks = tt;
    inside = ((omega arith, omega arith), tt);
    apart = (tt, tt);
  },
)

with_three : Heap taken_memory 2048 (three ∷ [])
with_three = (
  2048 ∷ [],
  record {
    links = (refl, refl);
    long = (omega arith, tt);
    blocks = ((omega arith, omega arith, omega arith), tt);
    inside = ((omega arith, omega arith), ((omega arith, omega arith), tt));
    apart = ((inl (omega arith), tt), (tt, tt));
  },
)

over_three : AreApart (record { begin = 16381; size = 2 }) (record { begin = 16380; size = 4 }) → ⊥
over_three h = elim h [ inl a ↦ omega (arith, a) | inr b ↦ omega (arith, b) ]

abbrev wrong : List ℕ
wrong = slice_set taken_memory 14333 2

no_overlap : Heap wrong 2048 (into_three ∷ three ∷ []) → ⊥
no_overlap h = over_three (last_ones (map (part_at wrong) h.0) (map (part_of wrong) (into_three ∷ three ∷ [])) h.1.apart).0.0

pub rows : HeapRows
rows = record { at_start = at_start; with_three = with_three; no_overlap = no_overlap }
