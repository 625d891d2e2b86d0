-- What holds of every linked program.
use Rattle.std.specs.Prelude.{◌≡◌, ℕ, Bool, false, true, None}
use Rattle.simulation.specs.System.{IsKey, IdlesAtEnd}
use Rattle.vm_link.specs.declared.linked.Linked.{Linked}
use Rattle.vm_link.specs.Sound.{IsSound}
use Rattle.vm_machine.specs.State.{State}
use Rattle.vm_machine.specs.Step.{Acts, step, start}
use Rattle.vm_machine.specs.Level.{has_heard, point_of, vm_system}
use Rattle.vm_machine.specs.Sound.{IsSoundState}

pub record KeyLaw : Type 0 where
  -- a step that does not hear the key is the same under every key, also where there is no step
  pub deaf : (l : Linked) (s : State) (key key' : ℕ) → has_heard (step l key s) ≡ false
      → step l key' s ≡ step l key s
  -- whether the key is heard does not depend on which key it is
  pub hears : (l : Linked) (s : State) (key key' : ℕ)
      → has_heard (step l key' s) ≡ has_heard (step l key s)

pub record EndLaw : Type 0 where
  -- the machine that has come to its end makes no step, and neither counts nor hears
  pub ends : (l : Linked) (s : State) (key : ℕ) → (vm_system l).halted s ≡ true
      → (vm_system l).step key s ≡ None
  pub idle : (l : Linked) → IdlesAtEnd (vm_system l)
  -- the start's point is the first statement of `start`
  pub begins : (l : Linked) → point_of l start.frames ≡ record { sub = 0; number = 1 }

-- the start is sound, and a step leads from a sound state to a sound one
pub record SoundLaw : Type 0 where
  pub starts : (l : Linked) → IsSoundState l start
  pub kept : (l : Linked) → IsSound l → l.bare ≡ false → (s s' : State) (key : ℕ) (heard : Bool)
      → IsKey key → IsSoundState l s
      → step l key s ≡ Acts heard s' → IsSoundState l s'
