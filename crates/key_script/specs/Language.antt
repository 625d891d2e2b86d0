-- The diagnostic of a refused key script: its first fault.
use Rattle.std.specs.Prelude.{◌≡◌, ℕ, List}
use Rattle.outer_world.specs.Refusals.{Message}
use Rattle.key_script.specs.Faults.{key_message}
use Rattle.key_script.specs.Grammar.{Refuses}
use Rattle.key_script.specs.declared.fault.KeyFault.{KeyFault}

abbrev pub RefusesKeys : List ℕ → Message → Type 0
RefusesKeys text told = (fault : KeyFault) × Refuses text fault × (told ≡ key_message fault)
