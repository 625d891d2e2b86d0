-- The virtual machine of a program after its moves, and its report.
use Rattle.std.proofs.Common.{◌≡◌, ◌-◌, ℕ, zero, suc, List, [], Some, Result, Ok, Err, IfOk, get_or, refl, ap, ◌∙◌, slice_index}
use Rattle.machine_io.specs.Report.{report_text}
use Rattle.machine_io.specs.declared.driving.End.{End}
use Rattle.machine_io.specs.declared.report.LevelName.TheVariants as names
use Rattle.machine_io.specs.declared.report.Show.{Show}
use Rattle.simulation.specs.System.{IsKey}
use Rattle.simulation.specs.Trace.{point_at, steps}
use Rattle.jack_core.specs.declared.program.Core.{Core}
use Rattle.jack_core.specs.Texts.{names_of}
use Rattle.jack_compiler.specs.Resolved.{IsResolvedCore}
use Rattle.vm_link.specs.declared.linked.Linked.{Linked}
use Rattle.vm_machine.specs.State.{State}
use Rattle.vm_machine.specs.Level.{point_of}
use Rattle.vm_machine.specs.Loaded.{HasTaken, LoadedVm}
use Rattle.tower.specs.VmRun.{HasRun, IsVmCodeOf, vm_at, vm_trace}
use Rattle.tower.proofs.VmRuns.{follows}
use Rattle.nand_cli.specs.Commands.RunVm.{IsVmReport}
use Rattle.nand_cli.specs.Inner.Reports.{IsVmAtStart, machine_text}

-- the report of what a virtual machine shows
abbrev pub vm_text : LoadedVm → List (List ℕ) → End → Show → List ℕ
vm_text vm subs end show =
    machine_text names.Vm subs (record { moves = vm.moves; steps = vm.steps; point = point_of vm.linked vm.state.frames; word = λ a. slice_index vm.state.words (a - 2048) }) end show

-- each state of the run has a point
pub seen_at : (linked : Linked) (code : ℕ → ℕ) (m : ℕ) → point_at (vm_trace linked code) m ≡ Some (point_of linked (vm_at linked code m).frames)
seen_at linked code zero = refl
seen_at linked code (suc m) = refl

-- what is prepared with the code of the program
pub prepared : {E : Type 0} (core : Core) (r : Result LoadedVm E) → IfOk r (λ vm. IsVmCodeOf core vm.linked) → IfOk r (λ vm. vm.moves ≡ 0) → IfOk r (λ vm. HasTaken vm []) → IfOk r (IsVmAtStart core)
prepared core (Ok vm) code moves stands = record { code = code; moves = moves; stands = stands }
prepared core (Err x) code moves stands = tt

pub vm_reported : (n : ℕ) (show : Show) (core : Core) (new : LoadedVm) (code : ℕ → ℕ) (end : End) → IsResolvedCore core → ((c : ℕ) → IsKey (code c)) → IsVmCodeOf core new.linked → HasRun new code n end
    → IsVmReport core code n show (vm_text new (names_of core) end show)
vm_reported n show core new code end resolved words is_code run =
    let subs = names_of core in
    let told : State → ℕ → List ℕ = λ s count.
    report_text names.Vm new.moves count (get_or subs (point_of new.linked s.frames).sub []) (point_of new.linked s.frames).number end show (λ a. slice_index s.words (a - 2048)) in
    record {
      linked = new.linked;
      is_code = is_code;
      moves = new.moves;
      end = end;
      made = run.made;
      ends = run.ends;
      point = point_of new.linked (vm_at new.linked code new.moves).frames;
      seen = seen_at new.linked code new.moves;
      reports = ap (told new.state) run.counted ∙ ap (λ s. told s (steps (vm_trace new.linked code) new.moves)) run.state;
      follows = follows core new.linked resolved is_code code words new.moves run.made;
    }
