-- The tables of the code, seen as entries. (The symbol tables of the book's chapters 6 and 11.)
use Rattle.std.specs.Prelude.{◌≡◌, ℕ, List, map}
use denote.Bor.{Bor}
use Rattle.name_table.specs.Names.{find_value}
use Rattle.name_table.specs.declared.Table.{Table}

-- an entry of the code
abbrev pub seen_entry : {V : Type 0} → Bor (List ℕ) × V → List ℕ × V
seen_entry e = (e.0.now, e.1)

-- the entries, in the order in which they were entered
abbrev pub table_of : {V : Type 0} → Table V → List (List ℕ × V)
table_of t = map seen_entry t.entries.entries

-- the table finds what these entries say
abbrev pub Finds : {V : Type 0} → Table V → List (List ℕ × V) → Type 0
Finds t es = (x : List ℕ) → find_value x (table_of t) ≡ find_value x es
