-- What a script drives, and what its variables stand for: nothing, a chip, or the instruction machine. (The book, chapters 4 and 5, and
-- appendix 3.)
use Rattle.std.specs.Prelude.{◌≡◌, ◌≢◌, ℕ, ◌-◌, Bool, false, List, [], ◌∷◌, ◌++◌, MatchOption, length, slice_get, replicate, codes}
use Rattle.gate_sim.specs.Calls.{Call}
use Rattle.gate_sim.specs.Calls.Call.{Eval, Load, Tick, Tock}
use Rattle.script_columns.specs.declared.layout.Value.{Value}
use Rattle.script_columns.specs.declared.layout.Value.TheVariants.{Time}
use Rattle.script_device.specs.Directory.{HasBlock, LoadedChip}
use Rattle.script_device.specs.Variables as chips
use Rattle.script_device.specs.Driven.{set_source, time_after, Sees, value_seen}
use Rattle.script_device.specs.Machines.{RunningMachine}
use Rattle.script_device.specs.Machines as machines

-- before the first load nothing; a chip, with what its simulator got, the newest first; or the instruction machine
pub data Device : Type 0 where
  Empty : Device
  Chip : LoadedChip → List Call → Device
  Machine : RunningMachine → Device

abbrev pub IsChip : Device → Type 0
IsChip Empty = ⊥
IsChip (Chip chip calls) = Unit {0}
IsChip (Machine machine) = ⊥

-- what a variable stands for
pub data Source : Type 0 where
  TheTime : Source
  OfChip : chips.Source → Source
  OfMachine : machines.Register → Source

-- the text is not `time`, which always is the time
abbrev pub IsOther : List ℕ → Type 0
IsOther text = text ≢ codes "time"

-- What a text stands for.
abbrev pub Denotes : Device → List ℕ → Source → Type 0
Denotes device text TheTime = text ≡ codes "time"
Denotes Empty text (OfChip source) = ⊥
Denotes Empty text (OfMachine register) = ⊥
Denotes (Chip chip calls) text (OfChip source) = IsOther text × chips.Denotes chip text source
Denotes (Chip chip calls) text (OfMachine register) = ⊥
Denotes (Machine machine) text (OfChip source) = ⊥
Denotes (Machine machine) text (OfMachine register) = machines.Denotes text register

-- What a text stands for that can be set.
abbrev pub CanSet : Device → List ℕ → Source → Type 0
CanSet device text TheTime = ⊥
CanSet Empty text (OfChip source) = ⊥
CanSet Empty text (OfMachine register) = ⊥
CanSet (Chip chip calls) text (OfChip source) = IsOther text × chips.CanSet chip text source
CanSet (Chip chip calls) text (OfMachine register) = ⊥
CanSet (Machine machine) text (OfChip source) = ⊥
CanSet (Machine machine) text (OfMachine register) = machines.Denotes text register

-- ---- what commands make of a device; before the first load nothing is set or stepped

abbrev pub after_set : Device → Source → ℕ → Device
after_set Empty source word = Empty
after_set (Chip chip calls) TheTime word = Chip chip calls
after_set (Chip chip calls) (OfChip source) word = Chip chip (set_source chip.net.nodes source word calls)
after_set (Chip chip calls) (OfMachine register) word = Chip chip calls
after_set (Machine machine) TheTime word = Machine machine
after_set (Machine machine) (OfChip source) word = Machine machine
after_set (Machine machine) (OfMachine register) word = Machine (machines.after_set machine register word)

abbrev pub after_eval : Device → Device
after_eval Empty = Empty
after_eval (Chip chip calls) = Chip chip (Eval ∷ calls)
after_eval (Machine machine) = Machine machine

-- a chip is put back to its start, and evaluated once
abbrev pub after_restart : Device → Device
after_restart Empty = Empty
after_restart (Chip chip calls) = Chip chip (Eval ∷ [])
after_restart (Machine machine) = Machine machine

abbrev pub after_tick : Device → Device
after_tick Empty = Empty
after_tick (Chip chip calls) = Chip chip (Tick ∷ calls)
after_tick (Machine machine) = Machine (machines.after_tick machine)

abbrev pub after_tock : Device → Device
after_tock Empty = Empty
after_tock (Chip chip calls) = Chip chip (Tock ∷ calls)
after_tock (Machine machine) = Machine (machines.after_tock machine)

-- ---- instruction memories

-- the words of an image in the instruction memory of a chip: 0 past it
abbrev pub whole_memory : List ℕ → List ℕ
whole_memory image = image ++ replicate (32768 - length image) 0

-- a chip has an instruction memory: the block of its first ROM32K, of 32,768 words
pub record HasRom (device : Device) : Type 0 where
  pub chip : LoadedChip
  pub calls : List Call
  pub is : device ≡ Chip chip calls
  pub block : ℕ
  pub has : HasBlock chip.directory (codes "ROM32K") block
  pub whole : MatchOption (slice_get chip.net.blocks block) ⊥ (λ b. b.words ≡ 32768)

abbrev pub with_image : (device : Device) → HasRom device → List ℕ → Device
with_image device rom image = Chip rom.chip (Load rom.block 0 (whole_memory image) ∷ rom.calls)

-- ---- what is seen of a device

abbrev pub time_of : Device → Value
time_of Empty = Time 0 false
time_of (Chip chip calls) = time_after calls
time_of (Machine machine) = machines.time_of machine

-- v gives what is seen of a chip; of nothing there is nothing but the time to be seen, and the machine is seen as it stands
abbrev pub SeesAll : Device → List Call → (ℕ → ℕ → Bool) → Type 0
SeesAll Empty told v = Unit {0}
SeesAll (Chip chip calls) told v = Sees chip calls told v
SeesAll (Machine machine) told v = Unit {0}

abbrev pub value_of : Device → List Call → (ℕ → ℕ → Bool) → Source → Value
value_of Empty told v source = time_of Empty
value_of (Chip chip calls) told v TheTime = time_after calls
value_of (Chip chip calls) told v (OfChip source) = value_seen chip calls told v source
value_of (Chip chip calls) told v (OfMachine register) = time_after calls
value_of (Machine machine) told v TheTime = machines.time_of machine
value_of (Machine machine) told v (OfChip source) = machines.time_of machine
value_of (Machine machine) told v (OfMachine register) = machines.value_of machine register
