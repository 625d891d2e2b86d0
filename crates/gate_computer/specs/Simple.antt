-- The netlist of the Computer, simplified, and what shows the Computer: a netlist that reads as its own. (The book, chapters 1 and 5.)
use Rattle.std.specs.Prelude.{◌≡◌, ◌++◌, ℕ, List, None, Some, length}
use Rattle.netlist.specs.Net.{Net}
use Rattle.netlist.specs.Order.{AreOrdered}
use Rattle.net_simplify.specs.Same.{ShowsSame}
use Rattle.net_simplify.specs.Simplified.{IsSimplified}
use Rattle.gate_computer.specs.declared.wiring.Wiring.{Wiring}
use Rattle.gate_computer.specs.declared.wiring.WiredPart.{WiredPart}
use Rattle.gate_computer.specs.Wiring.{IsWired}

-- the nodes that are kept: the pins of the keyboard, the pins pc of the CPU, and what A holds
abbrev pub kept_nodes : Wiring → List ℕ
kept_nodes w = w.keyboard ++ (w.pc ++ w.a)

-- The netlist is one that the simplifier may give for the whole one and the nodes that are kept: in normal form, and it shows the same. The wiring
-- has the places of these, and the same blocks; of parts it has nothing.
pub record IsSimpleOf (whole : Net) (full : Wiring) (net : Net) (w : Wiring) : Type 0 where
  pub simplified : IsSimplified whole net (kept_nodes full) (kept_nodes w)
  pub keyboard : length w.keyboard ≡ length full.keyboard
  pub pc : length w.pc ≡ length full.pc
  pub a : length w.a ≡ length full.a
  pub rom : w.rom ≡ full.rom
  pub main : w.main ≡ full.main
  pub screen : w.screen ≡ full.screen
  pub parts : w.parts ≡ None

-- The netlist with its wiring is one that the simplifier may give for that of the Computer itself.
pub record IsSimpleComputer (net : Net) (w : Wiring) : Type 0 where
  pub whole : Net
  pub full : Wiring
  pub wired : IsWired whole full
  pub simple : IsSimpleOf whole full net w

-- The netlist with its wiring reads as the whole one. The nodes of the wiring show what those of the whole one show, and blocks hold the same
-- words, whatever comes in (`ShowsSame`). So does the whole one itself, and a simplified one. A netlist whose wiring has parts is the whole one.
-- It is in order, and so has values.
pub record ReadsAs (whole : Net) (full : Wiring) (net : Net) (w : Wiring) : Type 0 where
  pub ordered : AreOrdered net.nodes net.blocks
  pub same : ShowsSame whole net (kept_nodes full) (kept_nodes w)
  pub keyboard : length w.keyboard ≡ length full.keyboard
  pub pc : length w.pc ≡ length full.pc
  pub a : length w.a ≡ length full.a
  pub rom : w.rom ≡ full.rom
  pub main : w.main ≡ full.main
  pub screen : w.screen ≡ full.screen
  pub parts : (parts : List WiredPart) → w.parts ≡ Some parts → (net ≡ whole) × (w ≡ full)

-- The netlist with its wiring shows the Computer: it reads as the elaborated one.
pub record ShowsComputer (net : Net) (w : Wiring) : Type 0 where
  pub whole : Net
  pub full : Wiring
  pub wired : IsWired whole full
  pub ordered : AreOrdered whole.nodes whole.blocks
  pub shown : ReadsAs whole full net w
