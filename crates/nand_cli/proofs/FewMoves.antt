-- A report has as many moves at most as are asked for.
use Rattle.std.proofs.Common.{◌≡◌, ◌≤◌, ◌<◌, ◌++◌, ◌∷◌, ℕ, suc, List, Result, codes, decimal, ◌∙◌, append_assoc, arith}
use Rattle.jack_meaning.specs.Text.{Subroutine}
use Rattle.jack_meaning.specs.Meaning.{State}
use Rattle.jack_meaning.specs.Level.{meaning_of, point_in}
use Rattle.jack_core.specs.Texts.{names_of, the_subroutines}
use Rattle.jack_core.specs.declared.program.Core.{Core}
use Rattle.machine_io.specs.Report.{end_text, head_text, level_name, said_line, shown_text}
use Rattle.machine_io.specs.declared.driving.End.{End}
use Rattle.machine_io.specs.declared.driving.End.TheVariants as ends
use Rattle.machine_io.specs.declared.machine.Stray.TheVariants as strays
use Rattle.machine_io.specs.declared.report.LevelName.{LevelName}
use Rattle.machine_io.specs.declared.report.LevelName.TheVariants as names
use Rattle.simulation.specs.Trace.{steps}
use Rattle.image_map.specs.Computer.{run_word}
use Rattle.vm_link.specs.declared.linked.Linked.{Linked}
use Rattle.tower.specs.VmRun.{VmEnds, vm_trace, vm_word}
use Rattle.key_script.specs.Codes.{code_at}
use Rattle.command_line.specs.declared.request.RunLevel.{RunLevel}
use Rattle.command_line.specs.declared.request.RunLevel.TheVariants as levels
use Rattle.command_line.specs.declared.request.Shown.{Shown}
use Rattle.command_line.specs.declared.request.Shown.TheVariants.{Words}
use Rattle.outer_world.specs.State.{SinkState}
use Rattle.nand_cli.specs.Commands.Gates.{IsGatesReport, gates_trace}
use Rattle.nand_cli.specs.Commands.Run.{EndsAt, IsReport, RunIsShort, TellsAtMost, name_of, trace_in}
use Rattle.nand_cli.specs.Inner.Reports.{Reports}
use Rattle.nand_cli.specs.declared.failure.Failure.{Failure}
use Rattle.nand_cli.proofs.Reporting.{reported_as}

-- how many moves there are
jack_few : (subs : List Subroutine) (code : ℕ → ℕ) (n m : ℕ) (s : State) (end : End) → EndsAt subs code n m s end → m ≤ n
jack_few subs code n m s ends.Bound e = omega (arith, e)
jack_few subs code n m s ends.Done h = let lt = h.0 in omega (arith, lt)
jack_few subs code n m s (ends.Stray (strays.Address a)) h = let lt = h.0 in omega (arith, lt)
jack_few subs code n m s (ends.Stray strays.Values) h = absurd h
jack_few subs code n m s (ends.Stray strays.Argument) h = absurd h
jack_few subs code n m s (ends.Stray strays.Local) h = absurd h
jack_few subs code n m s (ends.Stray strays.Code) h = absurd h
jack_few subs code n m s (ends.Full w) h = absurd h

vm_few : (linked : Linked) (code : ℕ → ℕ) (n m : ℕ) (end : End) → VmEnds linked code n m end → m ≤ n
vm_few linked code n m ends.Bound e = omega (arith, e)
vm_few linked code n m (ends.Stray why) h = let lt = h.0 in omega (arith, lt)
vm_few linked code n m (ends.Full words) h = let lt = h.0 in omega (arith, lt)
vm_few linked code n m ends.Done h = let lt = h.0 in omega (arith, lt)

-- the first two of five lines
first_two : (a b c d e rest : List ℕ) → ((((a ++ b) ++ c) ++ d) ++ e) ++ rest ≡ a ++ (b ++ (c ++ (d ++ (e ++ rest))))
first_two a b c d e rest =
    append_assoc (((a ++ b) ++ c) ++ d) e rest ∙ append_assoc ((a ++ b) ++ c) d (e ++ rest) ∙ append_assoc (a ++ b) c (d ++ (e ++ rest)) ∙ append_assoc a b (c ++ (d ++ (e ++ rest)))

tells : (n : ℕ) (level : LevelName) (moves steps : ℕ) (subroutine : List ℕ) (statement : ℕ) (end : End) (rest text : List ℕ) → moves ≤ n
    → text ≡ head_text level moves steps subroutine statement end ++ rest → TellsAtMost n text
tells n level moves steps subroutine statement end rest text few e =
    let third = said_line (codes "steps") (decimal steps) in
    let fourth = said_line (codes "point") (subroutine ++ 32 ∷ decimal statement) in
    let fifth = said_line (codes "end") (end_text end) in
    (level, moves, third ++ (fourth ++ (fifth ++ rest)), few, e ∙ first_two (said_line (codes "level") (level_name level)) (said_line (codes "moves") (decimal moves)) third fourth fifth rest)

gates_few : (shown : Shown) (core : Core) (code : ℕ → ℕ) (n : ℕ) (text : List ℕ) → IsGatesReport core code n shown text → TellsAtMost n text
gates_few shown core code n text h =
    let behaviour = h.behaves (suc n) in
    let told = h.reports (suc n) behaviour.0 (let near : n < suc n = omega arith in near) behaviour.1 in
    let point = told.point in
    tells n names.Gates n (steps (gates_trace h.image code behaviour.0) n) (name_of (names_of core) point.sub) point.number ends.Bound told.rest text (omega arith) told.is_text

pub few : (level : RunLevel) (core : Core) (code : ℕ → ℕ) (n : ℕ) (text : List ℕ) → IsReport level core code n text → TellsAtMost n text
few (levels.Jack show) core code n text (m, s, end, at, ends_so, e) =
    let point = point_in s in
    let word = (meaning_of (the_subroutines core)).word s in
    tells n names.Jack m m (name_of (names_of core) point.sub) point.number end (shown_text show word) text (jack_few (the_subroutines core) code n m s end ends_so) e
few (levels.Vm show) core code n text h =
    let point = h.point in
    let word = vm_word h.linked code h.moves in
    tells n names.Vm h.moves (steps (vm_trace h.linked code) h.moves) (name_of (names_of core) point.sub) point.number h.end (shown_text show word) text (vm_few h.linked code n h.moves h.end h.ends) h.reports
few (levels.Hack show) core code n text h =
    let point = h.point in
    let word = run_word h.image.words code n in
    tells n names.Hack n (steps (trace_in h.image code) n) (name_of (names_of core) point.sub) point.number ends.Bound (shown_text show word) text (omega arith) h.reports
few (levels.Gates shown) core code n text h = gates_few shown core code n text h
few (levels.Simplified show) core code n text h = gates_few (Words show) core code n text h

pub run_is_short : RunIsShort
run_is_short files source level cycles keys out (core, lines, means, built, has, report) = few level core (code_at lines) cycles out report

pub with_few : (level : RunLevel) (core : Core) (code : ℕ → ℕ) (n : ℕ) (out out' : SinkState) (r : Result (Unit {0}) Failure)
    → Reports (IsReport level core code n) out out' r → Reports (λ text. IsReport level core code n text × TellsAtMost n text) out out' r
with_few level core code n out out' r h =
    reported_as (IsReport level core code n) (λ text. IsReport level core code n text × TellsAtMost n text) out out' r (λ text is. (is, few level core code n text is)) h
