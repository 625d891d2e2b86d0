-- The symbols of the code as a table.
use Rattle.std.specs.Prelude.{List, map, ℕ}
use denote.Bor.{Bor}
use Rattle.hack_asm.specs.declared.symbols.Symbols.{Symbols}
use Rattle.hack_asm.specs.Program.{Table}

abbrev pub seen_entry : Bor (List ℕ) × ℕ → List ℕ × ℕ
seen_entry e = (e.0.now, e.1)

abbrev pub table_of : Symbols → Table
table_of s = map seen_entry s.entries.entries
