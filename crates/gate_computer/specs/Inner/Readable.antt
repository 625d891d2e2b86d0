-- What the computer of gates needs of its wiring, to give its simulator keys and to read it.
use Rattle.std.specs.Prelude.{◌≡◌, ◌≢◌, ℕ, ◌<◌, ◌≤◌, Some, length, slice_get, slice_index, MatchOption}
use Rattle.std.specs.List.{All}
use Rattle.netlist.specs.declared.node.Node.TheVariants.{Pin}
use Rattle.netlist.specs.Net.{Net}
use Rattle.gate_computer.specs.declared.wiring.Wiring.{Wiring}
use Rattle.gate_computer.specs.Wiring.{HasNodes}

pub record IsReadable (net : Net) (w : Wiring) : Type 0 where
  pub keyboard : All (λ node. slice_get net.nodes node ≡ Some Pin) w.keyboard
  pub keyboard_wide : length w.keyboard ≡ 16
  pub apart : (j k : ℕ) → j < k → k < length w.keyboard → slice_index w.keyboard j ≢ slice_index w.keyboard k
  pub pc_wide : length w.pc ≡ 15
  pub a_wide : length w.a ≡ 16
  pub nodes : HasNodes net w
  pub main : (a : ℕ) → a < 16384 → MatchOption (slice_get net.blocks w.main) ⊥ (λ b. a < b.words)
  pub screen : (a : ℕ) → a < 8192 → MatchOption (slice_get net.blocks w.screen) ⊥ (λ b. a < b.words)

-- the wiring can be set and read, and no more steps were counted and no more keys heard than cycles passed
pub record IsKeptWell (net : Net) (w : Wiring) (steps heard moves : ℕ) : Type 0 where
  pub readable : IsReadable net w
  pub few_steps : steps ≤ moves
  pub few_keys : heard ≤ moves
