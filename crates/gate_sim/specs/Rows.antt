-- Small cases by computation: what is touched in a netlist of two gates, call by call.
use Rattle.std.specs.Prelude.{◌≡◌, ℕ, zero, suc, Bool, true, false, not, ◌&&◌, List, [], ◌∷◌}
use Rattle.std.specs.List.{count_by}
use Rattle.netlist.specs.declared.node.Node.{Node}
use Rattle.netlist.specs.declared.node.Node.TheVariants.{Pin, Nand, Word}
use Rattle.netlist.specs.declared.node.Block.{Block}
use Rattle.netlist.specs.Present.{value_in}
use Rattle.netlist.specs.Touched.{is_touched}
use Rattle.gate_sim.specs.Calls.{Call}
use Rattle.gate_sim.specs.Calls.Call.{Load, Set, Eval, Tick, Tock}
use Rattle.gate_sim.specs.Touched.{differs, was_written}

-- a gate of two pins, and one of that gate
abbrev pub two_gates : List Node
two_gates = Pin ∷ Pin ∷ Nand 0 1 ∷ Nand 2 2 ∷ []

-- their values, in any cycle, where the pins have these bits
abbrev pub values_at : Bool → Bool → ℕ → ℕ → Bool
values_at a b k c = value_in (a ∷ b ∷ not (a && b) ∷ (a && b) ∷ []) k

-- how many of the nodes an evaluation may take after these calls, the last evaluation of which is given, where v were the values then and w are
-- now
abbrev pub touched_of : List Block → List Node → List Call → List Call → Call → (ℕ → ℕ → Bool) → (ℕ → ℕ → Bool) → ℕ
touched_of blocks nodes calls told call v w = count_by (is_touched blocks (differs nodes calls told call v w) (was_written blocks w calls call)) nodes

-- evaluated with both pins 0; then pin 0 is set, and evaluated; then pin 1 is set, and evaluated
abbrev pub once : List Call
once = Eval ∷ []

abbrev pub twice : List Call
twice = Eval ∷ Set 0 true ∷ once

abbrev pub thrice : List Call
thrice = Eval ∷ Set 1 true ∷ twice

-- bit 0 of the words of two blocks of two words, whose load is pin 0 and whose address is pin 1
abbrev pub two_blocks : List Block
two_blocks = record { words = 2; «data» = 2 ∷ []; load = 0; address = 1 ∷ [] } ∷ record { words = 2; «data» = 2 ∷ []; load = 3; address = 1 ∷ [] } ∷ []

abbrev pub two_words : List Node
two_words = Pin ∷ Pin ∷ Pin ∷ Pin ∷ Word 0 0 ∷ Word 1 0 ∷ []

-- the pins in cycle 0, in which the first block takes in a word, and in cycle 1; the word that comes in is shown then
abbrev pub words_at : ℕ → ℕ → Bool
words_at k zero = value_in (true ∷ false ∷ true ∷ false ∷ false ∷ false ∷ []) k
words_at k (suc c) = value_in (true ∷ false ∷ true ∷ false ∷ true ∷ false ∷ []) k

pub record RowsLaw : Type 0 where
  pub one : touched_of [] two_gates (Set 0 true ∷ once) once Eval (values_at false false)
      (values_at true false) ≡ 1
  pub two : touched_of [] two_gates (Set 1 true ∷ twice) twice Eval (values_at true false)
      (values_at true true) ≡ 2
  pub none : touched_of [] two_gates thrice thrice Eval (values_at true true) (values_at true true)
      ≡ 0
  pub again : touched_of [] two_gates (Set 0 true ∷ thrice) thrice Eval (values_at true true)
      (values_at true true) ≡ 1
  pub put : touched_of two_blocks two_words (Load 1 0 (7 ∷ []) ∷ once) once Eval words_at words_at
      ≡ 1
  pub nothing_put : touched_of two_blocks two_words (Load 1 0 [] ∷ once) once Eval words_at words_at
      ≡ 0
  pub stored : touched_of two_blocks two_words (Tick ∷ once) (Tick ∷ once) Tock words_at words_at
      ≡ 1
