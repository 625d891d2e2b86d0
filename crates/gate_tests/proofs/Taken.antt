-- What holds of the elements of a list as far as its end.
use Rattle.std.proofs.Common.{ℕ, ◌≤◌, List, length, take, sym}
use Rattle.std.specs.List.{All}
use Rattle.std.proofs.lemmas.List.{take_all}
use Rattle.std.proofs.lemmas.List.Elements.{All-same}

pub whole : (P : ℕ → Type 0) (xs : List ℕ) (i : ℕ) → length xs ≤ i → All P (take i xs) → All P xs
whole P xs i le h = All-same P xs (take i xs) (sym (take_all i xs le)) h
