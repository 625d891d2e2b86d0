-- What the code knows of the text round a connection.
use Rattle.std.specs.Prelude.{◌≡◌, ℕ, List}
use Rattle.name_table.specs.Names.{find_value}
use Rattle.name_table.specs.Tables.{table_of, Finds}
use Rattle.hdl_check.specs.Faults.{Context, net_width}
use Rattle.hdl_check.specs.declared.check.Scope.{Scope}

pub record SeesScope (scope : Scope) (a : Context) : Type 0 where
  pub chip : scope.chip.now ≡ a.chip
  pub own : Finds scope.own.now a.own
  pub nets : (name : List ℕ) → find_value name (table_of scope.nets.now) ≡ net_width name a.drivers
