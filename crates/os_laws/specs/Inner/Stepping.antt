-- Where the machine comes to a number of frames.
use Rattle.std.specs.Prelude.{◌≡◌, ℕ}
use Rattle.jack_core.specs.Texts.{the_subroutines}
use Rattle.jack_machine.specs.Whole.{jack_state}
use Rattle.jack_machine.specs.declared.jack.Jack.{Jack}
use Rattle.jack_meaning.specs.Meaning.{State}
use Rattle.os_laws.specs.Calls.{Stops, no_key}

-- n steps under key 0 lead the machine to this state, the first that has this many frames
abbrev pub StopsAt : Jack → ℕ → ℕ → State → Type 0
StopsAt j frames n s = Stops (the_subroutines j.core.now) no_key (jack_state j) frames n s

-- k steps have led there
abbrev pub Comes : Jack → ℕ → ℕ → Jack → Type 0
Comes old frames k new = (n : ℕ) (s : State) → StopsAt old frames n s → (k ≡ n) × (jack_state new ≡ s)
