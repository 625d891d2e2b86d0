-- A machine with its image, as its callers see it.
use Rattle.std.specs.Prelude.{◌≡◌, ℕ, List, length, map, slice_index}
use Rattle.std.specs.List.{range_with_len}
use Rattle.hack_isa.specs.Machine.{Machine, start, run, machine_at}

-- the image, the state with its memory as the list of the words 0 to 24,575, and the number of moves made
pub record LoadedMachine : Type 0 where
  pub image : List ℕ
  pub a : ℕ
  pub d : ℕ
  pub pc : ℕ
  pub ram : List ℕ
  pub moves : ℕ

-- the word at each address of a list, and 0 past its end
abbrev pub words_of : List ℕ → ℕ → ℕ
words_of ram k = slice_index ram k

abbrev pub machine_of : LoadedMachine → Machine
machine_of h = record { a = h.a; d = h.d; pc = h.pc; memory = words_of h.ram }

-- the machine stands where its image leads from the start under these keys, one for each move
pub record HasRun (h : LoadedMachine) (keys : List ℕ) : Type 0 where
  pub state : machine_of h ≡ run h.image keys start
  pub count : h.moves ≡ length keys

-- the machine at a cycle is where the keys of the cycles before it lead
abbrev pub RunsThroughCycles : Type 0
RunsThroughCycles = (image : List ℕ) (keys : ℕ → ℕ) (c : ℕ) → machine_at image keys c ≡ run image (map keys (range_with_len 0 c)) start
