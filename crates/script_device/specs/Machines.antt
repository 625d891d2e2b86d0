-- The instruction machine as a script drives it. (The book, chapters 4 and 5, and appendix 3.)
use Rattle.std.specs.Prelude.{◌≡◌, ◌<◌, ℕ, suc, ◌%◌, ◌==◌, Bool, true, false, List, codes, if◌then◌else◌}
use Rattle.word16.specs.Memory.{keyboard}
use Rattle.hack_isa.specs.Machine.{Machine, start, step}
use Rattle.script_columns.specs.declared.layout.Value.{Value}
use Rattle.script_columns.specs.declared.layout.Value.TheVariants.{Time, Wide, Narrow}
use Rattle.script_device.specs.Variables.{HasNumber}

-- a machine with its image: its state, the key that is held, and the time: the steps that were made, and whether a tick came after the last
pub record RunningMachine : Type 0 where
  pub image : List ℕ
  pub state : Machine
  pub key : ℕ
  pub cycle : ℕ
  pub ticked : Bool

-- where a load leaves it: at its start, and no key is held
abbrev pub loaded_machine : List ℕ → RunningMachine
loaded_machine image = record { image = image; state = start; key = 0; cycle = 0; ticked = false }

-- what a variable of the machine stands for: a register, a word of memory, or the key
pub data Register : Type 0 where
  A : Register
  D : Register
  Pc : Register
  Word : (address : ℕ) → Register
  Key : Register

-- What a text stands for; `RAM[k]` is a word of memory below the address of the keyboard, and the key at this address.
abbrev pub Denotes : List ℕ → Register → Type 0
Denotes text A = text ≡ codes "A"
Denotes text D = text ≡ codes "D"
Denotes text Pc = text ≡ codes "PC"
Denotes text (Word k) = HasNumber text (codes "RAM") k × (k < keyboard)
Denotes text Key = HasNumber text (codes "RAM") keyboard

-- a word is put at an address
abbrev pub with_word : (ℕ → ℕ) → ℕ → ℕ → ℕ → ℕ
with_word memory address word k = if k == address then word else memory k

-- a register is set, and the rest is as it was; the program counter takes the low fifteen bits
abbrev pub after_set : RunningMachine → Register → ℕ → RunningMachine
after_set m A word = record m { state = record { a = word; d = m.state.d; pc = m.state.pc; memory = m.state.memory } }
after_set m D word = record m { state = record { a = m.state.a; d = word; pc = m.state.pc; memory = m.state.memory } }
after_set m Pc word = record m { state = record { a = m.state.a; d = m.state.d; pc = word % 32768; memory = m.state.memory } }
after_set m (Word k) word = record m { state = record { a = m.state.a; d = m.state.d; pc = m.state.pc; memory = with_word m.state.memory k word } }
after_set m Key word = record m { key = word }

-- a tick only marks the time
abbrev pub after_tick : RunningMachine → RunningMachine
after_tick m = record m { ticked = true }

-- each tock is one step, under the key that is held
abbrev pub after_tock : RunningMachine → RunningMachine
after_tock m = record { image = m.image; state = step m.image m.key m.state; key = m.key; cycle = suc m.cycle; ticked = false }

abbrev pub time_of : RunningMachine → Value
time_of m = Time m.cycle m.ticked

-- what is seen of a register: words of sixteen bits, and of fifteen for the program counter
abbrev pub value_of : RunningMachine → Register → Value
value_of m A = Wide m.state.a
value_of m D = Wide m.state.d
value_of m Pc = Narrow m.state.pc
value_of m (Word k) = Wide (m.state.memory k)
value_of m Key = Wide m.key
