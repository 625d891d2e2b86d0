-- The law of steps and ways, at upper machines whose states are of any type, and at relations and goals that a test decides.
use Rattle.std.specs.Prelude.{◌≡◌, ◌⊎◌, ℕ, suc, ◌+◌, ◌<◌, Bool, true, false, List, [], Some, None, slice_index}
use Rattle.hack_isa.specs.Machine.{Machine}
use Rattle.simulation.specs.System.{System, IsData, IsKey}
use Rattle.simulation.specs.Layers.{Way, Opens}
use Rattle.simulation.specs.Laws.{Related}
use Rattle.image_map.specs.Map.{Map}
use Rattle.image_map.specs.Computer.{in_loop, hack_system}
use Rattle.vm_templates.specs.Going.{Quiet, Reaches, Does, DoesHearing}
use Rattle.vm_templates.specs.Own.{IsOwn}

module _ {U : Type 0} (up : System U) (image : List ℕ) (map : Map) (loop : ℕ) (r : U → Machine → Bool) (u : U) where
  -- the words of the data are those of the upper state
  abbrev pub ShowsWords : Machine → Type 0
  ShowsWords s = (a : ℕ) → IsData a → s.memory a ≡ up.word u a

  -- a way of the computer, at whose every step one cycle passes
  abbrev pub WayWithin : ℕ → Machine → Type 0
  WayWithin n s = Way up (hack_system image map loop) (λ l. 1) (Related r) u n [] s

  -- Under each key the upper machine makes a step, and what the goal gets is related to where that leads.
  abbrev pub LeadsOn : (ℕ → Machine → Bool) → Type 0
  LeadsOn goal = (key : ℕ) → IsKey key → (v : U) × (up.step key u ≡ Some v) × ((t : Machine) → goal key t ≡ true → r v t ≡ true)

pub record StepsAreWays (U : Type 0) : Type 0 where
  -- a command that hears no key
  pub deaf : (up : System U) (image : List ℕ) (map : Map) (loop : ℕ) (r : U → Machine → Bool)
      (u : U) (inside : ℕ → Bool) (last : ℕ) → ((k : ℕ) → slice_index image k < 65536)
      → IsOwn up map loop u (λ k. inside k ≡ true) last → up.halted u ≡ false → up.hears u ≡ false
      → (goal : Machine → Bool) → LeadsOn up image map loop r u (λ key. goal) → (n : ℕ) (s : Machine) → ShowsWords up image map loop r u s → Does image (λ k. inside k ≡ true) last (Unit {0}) (λ t. goal t ≡ true) n s → WayWithin up image map loop r u (suc n) s
  -- a command that hears the key, which is read once
  pub hearing : (up : System U) (image : List ℕ) (map : Map) (loop : ℕ) (r : U → Machine → Bool)
      (u : U) (inside : ℕ → Bool) (last : ℕ) → ((k : ℕ) → slice_index image k < 65536)
      → IsOwn up map loop u (λ k. inside k ≡ true) last → up.halted u ≡ false → up.hears u ≡ true
      → (goal : ℕ → Machine → Bool) → LeadsOn up image map loop r u goal → (n m : ℕ) (s : Machine) → ShowsWords up image map loop r u s → DoesHearing image (λ k. inside k ≡ true) last (Unit {0}) (λ key t. goal key t ≡ true) n m s → WayWithin up image map loop r u (n + suc (suc m)) s
  -- a command that goes astray: the upper machine makes no step
  pub straying : (up : System U) (image : List ℕ) (map : Map) (loop : ℕ) (r : U → Machine → Bool)
      (u : U) (inside : ℕ → Bool) (last : ℕ) → ((k : ℕ) → slice_index image k < 65536)
      → IsOwn up map loop u (λ k. inside k ≡ true) last → up.halted u ≡ false → up.hears u ≡ false
      → ((key : ℕ) → IsKey key → up.step key u ≡ None) → (n : ℕ) (s : Machine) → ShowsWords up image map loop r u s → Does image (λ k. inside k ≡ true) last (Unit {0}) (λ t. Unit {0}) n s → WayWithin up image map loop r u (suc n) s
  -- both at their end
  pub resting : (up : System U) (image : List ℕ) (map : Map) (loop : ℕ) (r : U → Machine → Bool)
      (u : U) → ((k : ℕ) → slice_index image k < 65536) → (n : ℕ) (s : Machine) → up.halted u ≡ true
      → in_loop loop s ≡ true → (map.points s.pc ≡ up.point u) ⊎ (map.points s.pc ≡ None)
      → ShowsWords up image map loop r u s → WayWithin up image map loop r u (suc n) s
  -- quiet steps before the first related state
  pub opening : (up : System U) (image : List ℕ) (map : Map) (loop : ℕ)
      (r : U → Machine → Bool) (u : U) (inside : ℕ → Bool) → ((k : ℕ) → slice_index image k < 65536)
      → ((k : ℕ) → inside k ≡ true → (map.points k ≡ up.point u) ⊎ (map.points k ≡ None))
      → ((k : ℕ) → inside k ≡ true → map.commits k ≡ false)
      → (n : ℕ) (s : Machine) → ShowsWords up image map loop r u s → Reaches image (Quiet image (λ k. inside k ≡ true)) (λ t. r u t ≡ true) n s → Opens up (hack_system image map loop) (λ l. 1) (Related r) u n s
