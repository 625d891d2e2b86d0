-- The computer of a program after its cycles, and its report.
use Rattle.std.proofs.Common.{◌≡◌, ℕ, [], Result, Ok, Err, IfOk, refl, ap, ◌∙◌, sym, subst, append-nil}
use Rattle.std.proofs.lemmas.List.Elements.{recursion_from_All}
use Rattle.hack_machine.specs.Loaded.{machine_of}
use Rattle.jack_core.specs.declared.program.Core.{Core}
use Rattle.jack_core.specs.Texts.{names_of}
use Rattle.machine_io.specs.Driven.{EndsBy, IsDriven}
use Rattle.machine_io.specs.History.{moves_from}
use Rattle.machine_io.specs.Report.{report_text}
use Rattle.machine_io.specs.declared.driving.End.{End}
use Rattle.machine_io.specs.declared.driving.End.TheVariants as ends
use Rattle.machine_io.specs.declared.machine.Moved.{Moved}
use Rattle.machine_io.specs.declared.machine.Moved.TheVariants as moved
use Rattle.machine_io.specs.declared.report.LevelName.TheVariants as names
use Rattle.machine_io.specs.declared.report.Show.{Show}
use Rattle.jack_compiler.specs.Resolved.{IsResolvedCore}
use Rattle.image_map.specs.declared.map.Image.{Image}
use Rattle.tower.specs.Image.{IsImageOf}
use Rattle.tower.proofs.Computers.{computer as computer_follows}
use Rattle.image_map.specs.Computer.{run_trace}
use Rattle.tower.specs.Mapped.{HasFollowed, MappedMachine, StandsAt, image_in}
use Rattle.image_map.specs.Map.{the_map}
use Rattle.image_map.proofs.Holding.{keys_held, moves_length}
use Rattle.simulation.specs.System.{IsKey}
use Rattle.simulation.specs.Trace.{steps}
use Rattle.command_line.specs.declared.request.RunLevel.TheVariants as levels
use Rattle.nand_cli.specs.Inner.Reports.{HasCycled, IsHackAtStart, hack_text}
use Rattle.nand_cli.specs.Commands.Run.{IsReport, name_of}
use Rattle.nand_cli.proofs.Driving.{last_acted}

-- ---- after the cycles

never_ends : (code : ℕ → ℕ) (old new : MappedMachine) (c n c' : ℕ) (answer : Moved) → EndsBy code (HasFollowed old) c n answer (HasFollowed new) c' → HasFollowed old [] → answer ≡ moved.Acted
never_ends code old new c n c' answer (m, below, goes) h =
    last_acted (moves_from code c m) _ (recursion_from_All (λ t. t.answer ≡ moved.Acted) _ (goes.leads [] h).acted)

pub cycled : (code : ℕ → ℕ) (old new : MappedMachine) (c n c' : ℕ) (end : End) → IsDriven code (HasFollowed old) c n end (HasFollowed new) c' → HasFollowed old [] → c ≡ 0 → HasCycled code n new end
cycled code old new c n c' ends.Bound goes h first =
    let turns = subst (λ k. HasFollowed new (moves_from code k n)) first (subst (HasFollowed new) (append-nil (moves_from code c n)) (goes.leads [] h)) in
    (refl, subst (StandsAt new code) (moves_length code 0 n) (turns.stands code (keys_held code 0 n)))
cycled code old new c n c' (ends.Stray s) by h first = let bad = never_ends code old new c n c' (moved.Stray s) by h in absurd (let no : ⊥ = cc in no)
cycled code old new c n c' (ends.Full w) by h first = let bad = never_ends code old new c n c' (moved.Full w) by h in absurd (let no : ⊥ = cc in no)
cycled code old new c n c' ends.Done by h first = let bad = never_ends code old new c n c' moved.Done by h in absurd (let no : ⊥ = cc in no)

-- ---- from the start

-- what is prepared with the image of the program
pub prepared : {E : Type 0} (core : Core) (image : Image) (r : Result MappedMachine E) → IsImageOf core image → IfOk r (λ h. image_in h ≡ image)
    → IfOk r (λ h. h.hack.moves ≡ 0) → IfOk r (λ h. HasFollowed h []) → IfOk r (IsHackAtStart core)
prepared core image (Ok h) is same moves stands = record { image = subst (IsImageOf core) (sym same) is; moves = moves; stands = stands }
prepared core image (Err x) is same moves stands = tt

-- ---- the report

pub hack_reported : (n : ℕ) (show : Show) (core : Core) (image : Image) (new : MappedMachine) (code : ℕ → ℕ) (end : End)
    → IsResolvedCore core → ((c : ℕ) → IsKey (code c)) → IsImageOf core image → image_in new ≡ image → HasCycled code n new end
    → IsReport (levels.Hack show) core code n (hack_text new (names_of core) end show)
hack_reported n show core image new code end resolved words is same (bound, stands) =
    let p = new.tally.point in
    let all = names_of core in
    let own : IsImageOf core (image_in new) = subst (IsImageOf core) (sym same) is in
    let text =
    ap (λ m. report_text names.Hack m new.tally.steps (name_of all p.sub) p.number end show (machine_of new.hack).memory) stands.moves
    ∙ ap (λ s. report_text names.Hack n s (name_of all p.sub) p.number end show (machine_of new.hack).memory) stands.counted
    ∙ ap (λ (e : End). report_text names.Hack n (steps (run_trace new.hack.image (the_map new.tally.map) code) n) (name_of all p.sub) p.number e show (machine_of new.hack).memory) bound
    ∙ ap (λ s. report_text names.Hack n (steps (run_trace new.hack.image (the_map new.tally.map) code) n) (name_of all p.sub) p.number ends.Bound show s.memory) stands.machine in
    let follows = computer_follows core (image_in new) resolved own code words n in
    record {
      image = image_in new;
      is_image = own;
      point = p;
      seen = stands.seen;
      reports = text;
      most = follows.0;
      gap = follows.1;
      follows = follows.2;
    }
