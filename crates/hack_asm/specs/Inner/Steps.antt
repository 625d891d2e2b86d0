-- One line of each pass.
use Rattle.std.specs.Prelude.{ℕ, ◌+◌, Option, Some, None, Result, Ok, Err, if◌then◌else◌, is_some}
use Rattle.hack_asm.specs.Faults.{Wrong, LabelTwice}
use Rattle.hack_asm.specs.Trees.{Line, label, address, compute, Symbol}
use Rattle.hack_asm.specs.Program.{Table, address_in, with_entry, used_symbol}

abbrev pub enter_line : Line → ℕ → Table → Result (ℕ × Table) Wrong
enter_line None n table = Ok (n, table)
enter_line (Some (label s)) n table = if is_some (address_in table s.name) then Err (LabelTwice s.name s.place) else Ok (n, with_entry table s.name n)
enter_line (Some (address a)) n table = Ok (n + 1, table)
enter_line (Some (compute c)) n table = Ok (n + 1, table)

abbrev pub variable_by : Option Symbol → ℕ → Table → ℕ × Table
variable_by None next table = (next, table)
variable_by (Some s) next table = if is_some (address_in table s.name) then (next, table) else (next + 1, with_entry table s.name next)

abbrev pub variable_line : Line → ℕ → Table → ℕ × Table
variable_line l next table = variable_by (used_symbol l) next table
