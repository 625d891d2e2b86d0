-- What the reader of a real file gives.
use Rattle.std.specs.Prelude.{◌≡◌, ◌≤◌, ◌<◌, ℕ, List, Option, IfSome, length}
use Rattle.outer_world.specs.declared.shelf.Reading.{Reading}
use Rattle.outer_world.specs.declared.shelf.Reading.TheVariants as reading

-- What an answer says of a stream that is read from its start: all its bytes, where they are known, within the limit.
abbrev pub ReadsStream : Option (List ℕ) → ℕ → Reading → Type 0
ReadsStream told limit (reading.Bytes bytes) = IfSome told (λ all. bytes.items ≡ all) × (length bytes.items ≤ limit)
ReadsStream told limit (reading.TooLong l) = (l ≡ limit) × IfSome told (λ all. limit < length all)
ReadsStream told limit reading.Failed = Unit {0}
ReadsStream told limit reading.Memory = Unit {0}
