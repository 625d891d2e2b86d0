-- What the code's commands do to a chip and to the instruction machine. (The book, appendix 3.)
use Rattle.std.specs.Prelude.{◌≡◌, ℕ, Bool, true, false, List, MatchOption, slice_get, codes}
use Rattle.gate_sim.specs.Calls.{Call}
use Rattle.script_device.specs.declared.chip.DrivenChip.{DrivenChip}
use Rattle.script_device.specs.Directory.{LoadedChip, HasBlock}
use Rattle.script_device.specs.Driven.{IsDriven, set_source}
use Rattle.script_device.specs.Variables as chips
use Rattle.script_device.specs.Machines.{RunningMachine, Register}
use Rattle.script_device.specs.Machines as machines
use Rattle.script_device.specs.Devices.{Source, CanSet}
use Rattle.script_device.specs.Devices.Device.{Chip}
use Rattle.script_device.specs.Devices.Source.{OfChip}

-- what the text means in the chip was set to the word, or it means nothing that can be set
abbrev pub SetsChip : LoadedChip → List Call → DrivenChip → List ℕ → ℕ → Bool → Type 0
SetsChip chip calls now text word true = (source : chips.Source) × CanSet (Chip chip calls) text (OfChip source) × IsDriven now (set_source chip.net.nodes source word calls)
SetsChip chip calls now text word false = ((source : Source) → CanSet (Chip chip calls) text source → ⊥) × IsDriven now calls

-- what the text means in the machine was set to the word, or it means nothing
abbrev pub SetsMachine : RunningMachine → RunningMachine → List ℕ → ℕ → Bool → Type 0
SetsMachine old now text word true = (register : Register) × machines.Denotes text register × (now ≡ machines.after_set old register word)
SetsMachine old now text word false = ((register : Register) → machines.Denotes text register → ⊥) × (now ≡ old)

-- a block has as many words as an instruction memory
abbrev pub IsWhole : List ℕ → ℕ → Type 0
IsWhole sizes block = MatchOption (slice_get sizes block) ⊥ (λ words. words ≡ 32768)

-- a chip has its instruction memory in this block
abbrev pub HasMemory : LoadedChip → ℕ → Type 0
HasMemory chip block = HasBlock chip.directory (codes "ROM32K") block × MatchOption (slice_get chip.net.blocks block) ⊥ (λ b. b.words ≡ 32768)
