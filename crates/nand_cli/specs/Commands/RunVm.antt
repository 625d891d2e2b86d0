-- The report of `run` at level vm: what the virtual machine with the code of the program shows. (The book, chapters 7
-- to 12.)
use Rattle.std.specs.Prelude.{◌≡◌, ℕ, List, [], Some, get_or}
use Rattle.outer_world.specs.declared.point.Point.{Point}
use Rattle.machine_io.specs.Report.{report_text}
use Rattle.machine_io.specs.declared.driving.End.{End}
use Rattle.machine_io.specs.declared.report.LevelName.TheVariants as names
use Rattle.machine_io.specs.declared.report.Show.{Show}
use Rattle.simulation.specs.Trace.{point_at, steps}
use Rattle.jack_core.specs.Texts.{names_of, the_program}
use Rattle.jack_core.specs.declared.program.Core.{Core}
use Rattle.vm_link.specs.declared.linked.Linked.{Linked}
use Rattle.tower.specs.VmRun.{IsVmCodeOf, MakesMoves, VmEnds, VmFollows, vm_trace, vm_word}

-- The report of n moves of the virtual machine with the code of the program, each a command other than a label. It has
-- the moves made and how they end, the commits among them, and the point and the words then. Whatever the program does,
-- that is what is reported (`reports`). And where the meaning's run is tame so far, the words and the point are those
-- of the meaning after these steps over the keys heard. The end is that of the meaning (`follows`).
pub record IsVmReport (core : Core) (code : ℕ → ℕ) (n : ℕ) (show : Show) (text : List ℕ) : Type 0 where
  pub linked : Linked
  pub is_code : IsVmCodeOf core linked
  pub moves : ℕ
  pub end : End
  pub made : MakesMoves linked code moves
  pub ends : VmEnds linked code n moves end
  pub point : Point
  pub seen : point_at (vm_trace linked code) moves ≡ Some point
  pub reports : text ≡ report_text names.Vm moves (steps (vm_trace linked code) moves) (get_or (names_of core) point.sub []) point.number end show (vm_word linked code moves)
  pub follows : VmFollows (the_program core) linked code moves
