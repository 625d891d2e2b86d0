-- What is seen of one program at the four levels, where no key is ever held, and whether it is the same. (The book,
-- chapters 4, 5 and 7 to 11.)
use Rattle.std.specs.Prelude.{◌≡◌, ◌≤◌, ℕ, suc, true, List, Option, Some}
use Rattle.outer_world.specs.declared.point.Point.{Point}
use Rattle.simulation.specs.System.{System, IsData}
use Rattle.simulation.specs.Trace.{Trace, steps, point_at}
use Rattle.jack_meaning.specs.Meaning.{State, start}
use Rattle.jack_core.specs.declared.program.Core.{Core}
use Rattle.jack_core.specs.Texts.{the_program}
use Rattle.vm_link.specs.declared.linked.Linked.{Linked}
use Rattle.hdl_tree.specs.Behaviour.{Histories}
use Rattle.hack_cpu.specs.Computer.{word_at}
use Rattle.image_map.specs.declared.map.Image.{Image}
use Rattle.image_map.specs.Computer.{run_word}
use Rattle.tower.specs.VmRun.{IsVmCodeOf, MakesMoves, vm_trace, vm_word}
use Rattle.nand_cli.specs.Commands.Gates.{gates_trace, meaning_in}
use Rattle.nand_cli.specs.Commands.Run.{state_after, trace_in}

-- no key is held
abbrev pub no_keys : ℕ → ℕ
no_keys c = 0

-- the words and the control point that a level shows
pub record View : Type 0 where
  pub word : ℕ → ℕ
  pub point : Option Point

-- The words of heap and screen, 2048 to 24575, and the points are the same.
pub record AreAlike (v w : View) : Type 0 where
  pub words : (a : ℕ) → IsData a → v.word a ≡ w.word a
  pub point : v.point ≡ w.point

-- ---- gates and hack, at cycle n

abbrev pub silent_trace : Image → (List ℕ → Histories) → Trace
silent_trace image wires = gates_trace image no_keys wires

abbrev pub gates_view : Image → ℕ → (List ℕ → Histories) → View
gates_view image n wires = record { word = word_at wires n; point = point_at (silent_trace image wires) n }

abbrev pub hack_view : Image → ℕ → View
hack_view image n = record { word = run_word image.words no_keys n; point = point_at (trace_in image no_keys) n }

-- ---- jack, after m steps

-- the state after m steps; none where one of them is missing
abbrev pub after_steps : {S : Type 0} → System S → S → ℕ → Option S
after_steps system first m = state_after system no_keys first m

pub record IsAtJack (core : Core) (m : ℕ) (v : View) : Type 0 where
  pub state : State
  pub after : after_steps (meaning_in core) (start (the_program core)) m ≡ Some state
  pub alike : AreAlike v (record { word = (meaning_in core).word state; point = (meaning_in core).point state })

-- ---- vm, after the m-th commit

-- After k moves m commits were counted, and the last move was one of them, if there is one.
pub data IsJustAfter (t : Trace) : ℕ → ℕ → Type 0 where
  AtFirst : IsJustAfter t 0 0
  BehindCommit : (k : ℕ) → t.commits k ≡ true → IsJustAfter t (steps t (suc k)) (suc k)

-- The machine comes there in at most this many moves.
pub record IsAtVm (core : Core) (bound m : ℕ) (v : View) : Type 0 where
  pub linked : Linked
  pub is_code : IsVmCodeOf core linked
  pub moves : ℕ
  pub few : moves ≤ bound
  pub made : MakesMoves linked no_keys moves
  pub behind : IsJustAfter (vm_trace linked no_keys) m moves
  pub alike : AreAlike v (record { word = vm_word linked no_keys moves; point = point_at (vm_trace linked no_keys) moves })

-- ---- all four

-- What is seen at level gates is what the three other levels show: hack at cycle n, jack after m steps, and vm after
-- its m-th commit.
pub record AreLevelsAlike (core : Core) (image : Image) (n bound m : ℕ) (v : View) : Type 0 where
  pub at_hack : AreAlike v (hack_view image n)
  pub at_jack : IsAtJack core m v
  pub at_vm : IsAtVm core bound m v

-- What this behaviour of the Computer shows at cycle n is what the other levels show, after as many steps as were
-- counted.
abbrev pub Agree : Core → Image → ℕ → ℕ → (List ℕ → Histories) → Type 0
Agree core image n bound wires = AreLevelsAlike core image n bound (steps (silent_trace image wires) n) (gates_view image n wires)
