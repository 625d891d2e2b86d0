-- The variables of a chip that is loaded. (The book, appendix 3.)
use Rattle.std.specs.Prelude.{◌≡◌, ◌⊎◌, ◌≤◌, ◌<◌, ℕ, ◌+◌, ◌-◌, ◌*◌, List, [], ◌∷◌, ◌++◌, length, Some, slice_get, codes, MatchOption}
use Rattle.std.specs.List.{All}
use Rattle.netlist.specs.Net.{Net}
use Rattle.script_device.specs.Directory.{LoadedChip, pin_named, HasOut, HasBlock}

-- what a variable stands for: a bus of nodes, or a word of a block
pub data Source : Type 0 where
  Nodes : List ℕ → Source
  BlockWord : (block address : ℕ) → Source

abbrev pub IsDigit : ℕ → Type 0
IsDigit c = (48 ≤ c) × (c ≤ 57)

-- the number of a text of decimal digits, with n for what stands before it
abbrev pub number_after : ℕ → List ℕ → ℕ
number_after n [] = n
number_after n (c ∷ rest) = number_after (10 * n + (c - 48)) rest

-- a text is a name with a number in brackets
pub record HasNumber (text name : List ℕ) (k : ℕ) : Type 0 where
  pub written : List ℕ
  pub some : 0 < length written
  pub digits : All IsDigit written
  pub is : text ≡ name ++ 91 ∷ (written ++ 93 ∷ [])
  pub number : k ≡ number_after 0 written

-- the block has a word at the address
abbrev pub HasWord : Net → ℕ → ℕ → Type 0
HasWord net b a = MatchOption (slice_get net.blocks b) ⊥ (λ block. a < block.words)

-- What a text stands for: a pin of the chip; `Name[]`, the out of the first part of that chip; `Name[k]`, a word of its block.
abbrev pub Denotes : LoadedChip → List ℕ → Source → Type 0
Denotes chip text (Nodes nodes) =
    (pin_named (chip.directory.inputs ++ chip.directory.outputs) text ≡ Some nodes)
    ⊎ ((name : List ℕ) × (text ≡ name ++ codes "[]") × HasOut chip.directory name nodes)
Denotes chip text (BlockWord b a) = (name : List ℕ) × HasNumber text name a × HasBlock chip.directory name b × HasWord chip.net b a

-- What a text stands for that can be set: an input of the chip, or a word of a block.
abbrev pub CanSet : LoadedChip → List ℕ → Source → Type 0
CanSet chip text (Nodes nodes) = pin_named chip.directory.inputs text ≡ Some nodes
CanSet chip text (BlockWord b a) = Denotes chip text (BlockWord b a)
