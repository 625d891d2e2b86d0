-- What is read of the values of nodes: row gives that of each node.
use Rattle.std.specs.Prelude.{◌≡◌, ℕ, ◌<◌, Bool, List, ◌∷◌, ◌++◌, [], Some, map, slice_get}
use Rattle.std.specs.List.{All, flat_map}
use Rattle.gate_computer.specs.declared.wiring.WiredPart.{WiredPart}
use Rattle.gate_computer.specs.Parts.{digit}

-- the line of a part
abbrev pub wired_line : (ℕ → Bool) → WiredPart → List ℕ
wired_line row part = part.chip ++ 32 ∷ (map (λ node. digit (row node)) part.outputs ++ 10 ∷ [])

abbrev pub wired_text : (ℕ → Bool) → List WiredPart → List ℕ
wired_text row parts = flat_map (wired_line row) parts

-- each output of each part is one of n nodes
abbrev pub ArePartsThere : ℕ → List WiredPart → Type 0
ArePartsThere n parts = (i : ℕ) (part : WiredPart) → slice_get parts i ≡ Some part → All (λ node. node < n) part.outputs
