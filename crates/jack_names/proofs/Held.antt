-- Lists as vectors hold them, and one thing in a box.
use Rattle.std.proofs.Common.{◌<◌, ◌^◌, List, length, refl, arith, Vec, Global}
use Rattle.std.specs.Prelude.{Box}
use denote.RawPtr.{null_ptr}

abbrev pub heap : Global
heap = record { memory = record { seal = tt } }

-- the vector of a list
abbrev pub held : {A : Type 0} (xs : List A) → length xs < 2 ^ 63 → Vec A Global
held xs few = record { ptr = null_ptr; len = length xs; cap = length xs; alloc = heap; items = xs; ok = (refl, omega arith); small = few }

abbrev pub boxed : {A : Type 0} → A → Box A Global
boxed x = record { ptr = null_ptr; alloc = heap; value = x }
