-- A wiring whose kept nodes are moved.
use Rattle.std.specs.Prelude.{◌≡◌, ℕ, List, None, length}
use Rattle.gate_computer.specs.declared.wiring.Wiring.{Wiring}
use Rattle.gate_computer.specs.Simple.{kept_nodes}

-- the kept nodes are at these places, in their order; the blocks are the same, and no parts are
-- listed
pub record HasPlaces (w : Wiring) (places : List ℕ) (moved : Wiring) : Type 0 where
  pub nodes : kept_nodes moved ≡ places
  pub keyboard : length moved.keyboard ≡ length w.keyboard
  pub pc : length moved.pc ≡ length w.pc
  pub a : length moved.a ≡ length w.a
  pub rom : moved.rom ≡ w.rom
  pub main : moved.main ≡ w.main
  pub screen : moved.screen ≡ w.screen
  pub parts : moved.parts ≡ None
