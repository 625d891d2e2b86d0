-- The bytes of a `Text`: an identifier or a string of a Jack text (book, chapter 10). The two ways in which it is kept are the project's own. At most
-- 14 bytes stand in the value itself, of whose array they are the first `length`. A longer text is a name outside it. Contracts see the bytes alone.
use Rattle.std.specs.Prelude.{ℕ, List, take}
use Rattle.jack_tree.specs.declared.text.Kept.{Kept}
use Rattle.jack_tree.specs.declared.text.Kept.TheVariants as kept

-- the bytes, whichever way they are kept
abbrev pub kept_text : Kept → List ℕ
kept_text (kept.Short s) = take s.length s.bytes
kept_text (kept.Long n) = n.value
