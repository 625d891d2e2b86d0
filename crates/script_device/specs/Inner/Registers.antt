-- What the code finds for a variable of the instruction machine. (The book, chapters 4 and 5, and appendix 3.)
use Rattle.std.specs.Prelude.{◌≡◌, ◌<◌, ℕ}
use Rattle.word16.specs.Memory.{keyboard}
use Rattle.script_device.specs.declared.machine.Register as code
use Rattle.script_device.specs.declared.machine.Register.TheVariants as found
use Rattle.script_device.specs.Machines.{Register}
use Rattle.script_device.specs.Machines.Register.{A, D, Pc, Word, Key}

-- a word of memory stands below the address of the keyboard
abbrev pub IsStored : code.Register → Type 0
IsStored found.A = Unit {0}
IsStored found.D = Unit {0}
IsStored found.Pc = Unit {0}
IsStored (found.Word k) = k < keyboard
IsStored found.Key = Unit {0}

-- what stands at an address: a word of memory, or the key
abbrev pub StandsAt : ℕ → Register → Type 0
StandsAt address A = ⊥
StandsAt address D = ⊥
StandsAt address Pc = ⊥
StandsAt address (Word k) = (k ≡ address) × (k < keyboard)
StandsAt address Key = address ≡ keyboard
