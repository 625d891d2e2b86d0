-- Levels of a chip, which sweeps over its parts raise until they lie in order.
use Rattle.std.specs.Prelude.{ℕ, zero, suc, true, false, List, [], ◌∷◌, Some, None, codes}
use Rattle.hdl_tree.specs.declared.tree.Source.{Source}
use Rattle.hdl_tree.specs.declared.tree.Source.TheVariants as source
use Rattle.hdl_tree.specs.declared.tree.Connection.{Connection}
use Rattle.hdl_tree.specs.declared.tree.Part.{Part}
use Rattle.hdl_tree.specs.declared.library.Entry.{Entry}
use Rattle.hdl_tree.specs.Chips.{Chips, end_of, find_chip, parts_of}
use Rattle.hdl_plans.specs.Plans.{is_input}
use Rattle.hdl_behaviours.specs.Levels.{Pairs, Level, level_of, lowest, over, output_level, reaching}

-- each net that a part drives, at the lowest level
abbrev pub put_lowest : Source → List (List ℕ × Level) → List (List ℕ × Level)
put_lowest (source.Net w) levels = (w.name, lowest) ∷ levels
put_lowest (source.Constant b) levels = levels

abbrev pub low_nets : Entry → List Connection → List (List ℕ × Level) → List (List ℕ × Level)
low_nets inner [] levels = levels
low_nets inner (conn ∷ conns) levels = elim (is_input inner conn.pin.name) [ true ↦ low_nets inner conns levels | false ↦ put_lowest conn.source (low_nets inner conns levels) ]

abbrev pub low_levels : Chips → List Part → List (List ℕ × Level)
low_levels chips [] = []
low_levels chips (part ∷ parts) = elim (find_chip chips part.chip) [ None ↦ low_levels chips parts | Some inner ↦ low_nets inner part.connections (low_levels chips parts) ]

-- the net that an output drives is raised above it
abbrev pub raise : Level → Source → List (List ℕ × Level) → List (List ℕ × Level)
raise level (source.Net w) levels = (w.name, over level (level_of levels w.name)) ∷ levels
raise level (source.Constant b) levels = levels

abbrev pub raise_all : Pairs → Entry → List Connection → List Connection → List (List ℕ × Level) → List (List ℕ × Level)
raise_all pairs inner conns [] levels = levels
raise_all pairs inner conns (conn ∷ rest) levels =
    elim (is_input inner conn.pin.name) [ true ↦ raise_all pairs inner conns rest levels | false ↦ raise_all pairs inner conns rest (raise (output_level levels conns pairs conn.pin.name) conn.source levels) ]

abbrev pub sweep : Chips → (List ℕ → Pairs) → List Part → List (List ℕ × Level) → List (List ℕ × Level)
sweep chips pairs [] levels = levels
sweep chips pairs (part ∷ parts) levels =
    elim (find_chip chips part.chip) [ None ↦ sweep chips pairs parts levels | Some inner ↦ sweep chips pairs parts (raise_all (pairs inner.name) inner part.connections part.connections levels) ]

abbrev pub sweeps : ℕ → Chips → (List ℕ → Pairs) → List Part → List (List ℕ × Level) → List (List ℕ × Level)
sweeps zero chips pairs parts levels = levels
sweeps (suc n) chips pairs parts levels = sweeps n chips pairs parts (sweep chips pairs parts levels)

-- the levels after this many sweeps; the out of an end lies above the pins that reach it
abbrev pub swept : ℕ → Chips → (List ℕ → Pairs) → Entry → List (List ℕ × Level)
swept n chips pairs entry =
    elim (end_of chips.memories entry) [ None ↦ sweeps n chips pairs (parts_of chips entry) (low_levels chips (parts_of chips entry)) | Some e ↦ (codes "out", record { rank = 1; from = reaching e }) ∷ [] ]
