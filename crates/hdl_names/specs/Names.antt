-- The names in the table are those of the chips: a chip is found by a name where the table has it. (The book, appendix 2.)
use Rattle.std.specs.Prelude.{◌≡◌, ℕ, Bool, List, Vec, is_some}
use Rattle.std.specs.declared.alloc.Global.{Global}
use Rattle.std.specs.List.{list_any}
use Rattle.std.specs.Str.{bytes_eq}
use Rattle.hdl_tree.specs.Chips.{find_entry}
use Rattle.hdl_names.specs.declared.NamedChips.{NamedChips}

abbrev pub is_key : List ℕ → Vec ℕ Global → Bool
is_key name key = bytes_eq name key.items

abbrev pub IsIndexed : NamedChips → Type 0
IsIndexed chips = (name : List ℕ) → list_any (is_key name) chips.names.keys ≡ is_some (find_entry chips.entries.items name)
