-- A run that uses the heap, stores that use it well, and one that does not.
use Rattle.std.specs.Prelude.{◌≡◌, ℕ, ◌-◌, List, [], ◌∷◌, slice_set}
use Rattle.word16.specs.Memory.{heap}
use Rattle.jack_meaning.specs.Text.{Local, Value, Let, Text, End, Next}
use Rattle.jack_meaning.specs.Meaning.{State}
use Rattle.os_laws.specs.HeapRun.{HeapNumbers, StoresWell, Uses}
use Rattle.os_laws.specs.Rows.{taken_memory, three}
use Rattle.os_laws.specs.StepRows.{kernel}

-- the numbers of the kernel by itself
abbrev pub numbers : HeapNumbers
numbers = record { init = 3; alloc = 4; deAlloc = 5; free = 0 }

-- one frame with this text, over these statics and words
abbrev pub running : Text → List ℕ → List ℕ → State
running t statics words = record { frames = record { subroutine = 0; arguments = []; locals = 0 ∷ []; this = 0; text = t } ∷ []; statics = statics; words = words }

-- the state with another word at an address
abbrev pub with_word : State → ℕ → ℕ → State
with_word s a w = record s { words = slice_set s.words (a - heap) w }

pub record RunRows : Type 0 where
  -- after `do Memory.init(); let x = Memory.alloc(3);` the block is in use
  pub uses : Uses kernel numbers
      (running (Next (Let 2 (Local 0) (Value 16381)) End) (2048 ∷ []) taken_memory) (three ∷ [])
  -- into the last word of a block in use, and into the screen
  pub last : (s : State) → StoresWell 0 (three ∷ []) s (with_word s 16383 7)
  pub screen : (s : State) → StoresWell 0 (three ∷ []) s (with_word s 16384 7)
  -- into the word before the block, which holds its length
  pub length : (s : State) → s.words ≡ taken_memory
      → StoresWell 0 (three ∷ []) s (with_word s 16380 9) → ⊥
