-- A line that reads the classes of a folder has an answer.
use Rattle.std.specs.Prelude.{◌-◌, ◌^◌, get_or, min, nat_eq, nat_le, if◌then◌else◌, option_and_then}
use Rattle.std.specs.List.{AllByRecursion}
use Rattle.std.specs.Option.{option_or}
use Rattle.std.proofs.Common.{◌≡◌, ◌≢◌, ◌≤◌, ◌<◌, ◌++◌, ◌⊎◌, inl, inr, ℕ, zero, suc, Bool, true, false, List, [], ◌∷◌, Option, Some, None, Ok, Err, length, map, refl, sym, ◌∙◌, ap, subst, arith}
use Rattle.std.proofs.lemmas.Bool.Decides.{nat_tests}
use Rattle.std.proofs.lemmas.List.Elements.{All-from_recursion, recursion_from_All}
use Rattle.outer_world.specs.Files.{Files}
use Rattle.outer_world.specs.Refusals.{Message}
use Rattle.outer_world.specs.declared.point.Point.{Point}
use Rattle.hack_isa.specs.Machine.{image_words}
use Rattle.hack_isa.specs.Table.{word_of}
use Rattle.hack_isa.specs.declared.Instr.{Instr}
use Rattle.hack_isa.specs.declared.Instr.TheVariants.{Address, Compute, Shift}
use Rattle.hack_asm.specs.Image.{image_text}
use Rattle.key_script.specs.Codes.{code_at}
use Rattle.key_script.specs.Faults.{key_message}
use Rattle.key_script.specs.Grammar.{TotalLaw as KeyLaw, Refuses as RefusesLines, Spells as SpellsLines}
use Rattle.key_script.specs.declared.lines.Line.{Line as KeyLine}
use Rattle.grammar.specs.Texts.{SomeReading}
use Rattle.machine_io.specs.Report.{head_text, shown_text}
use Rattle.machine_io.specs.declared.driving.End.{End}
use Rattle.machine_io.specs.declared.driving.End.TheVariants as ends
use Rattle.machine_io.specs.declared.machine.Stray.TheVariants as strays
use Rattle.machine_io.specs.declared.report.LevelName.TheVariants as names
use Rattle.machine_io.specs.declared.report.Show.{Show}
use Rattle.machine_io.specs.declared.report.Show.TheVariants as shows
use Rattle.simulation.specs.System.{IsKey}
use Rattle.simulation.specs.Trace.{Trace, point_at, steps}
use Rattle.image_map.specs.declared.map.Image.{Image}
use Rattle.image_map.specs.Text.{map_text}
use Rattle.vm_link.proofs.Marking.{length_mapped}
use Rattle.vm_link.proofs.SoundLemmas.{sound_if}
use Rattle.vm_link.specs.Links.{Links}
use Rattle.vm_link.specs.Messages.{link_message}
use Rattle.vm_link.specs.declared.fault.LinkFault.{LinkFault}
use Rattle.vm_link.specs.declared.linked.Linked.{Linked}
use Rattle.vm_machine.specs.Level.{point_of, state_after as state_after_outcome}
use Rattle.vm_machine.specs.Moves.{state_or}
use Rattle.vm_machine.specs.Step.{Outcome as VmOutcome, Acts as VmActs, Done as VmDone, Full, Strays}
use Rattle.vm_translator.specs.Image.{IsTooLarge, budget_of, image_map_of, image_of, points_of, shared_ranges}
use Rattle.vm_translator.specs.Plain.{IsPlain}
use Rattle.vm_translator.proofs.Answering.{all_ready}
use Rattle.vm_translator.proofs.Covered.{covers}
use Rattle.vm_translator.proofs.Instructed.{shared_covers_as}
use Rattle.vm_translator.proofs.PlainLemmas.{plain_image}
use Rattle.jack_meaning.specs.Text.{Subroutine}
use Rattle.jack_meaning.specs.Meaning.{Acts, Done, Outcome, State, Stray, start, step}
use Rattle.jack_meaning.specs.Level.{meaning_of, next_of}
use Rattle.jack_core.specs.Texts.{names_of, the_program, the_subroutines}
use Rattle.jack_core.specs.declared.program.Core.{Core}
use Rattle.jack_compiler.specs.Files.{files_of}
use Rattle.jack_compiler.specs.Linked.{CompiledLaw, IsOnlyFault}
use Rattle.jack_compiler.specs.Resolved.{IsResolvedCore}
use Rattle.hdl_tree.specs.Behaviour.{Histories}
use Rattle.hack_cpu.specs.Computer.{word_at}
use Rattle.hack_cpu.specs.Existence.{RunsLaw}
use Rattle.gate_computer.specs.Computer.{IsComputer}
use Rattle.gate_computer.specs.Parts.{parts_text}
use Rattle.gate_computer.proofs.Seen.{gates, seen}
use Rattle.tower.specs.Image.{IsImageOf, image_for}
use Rattle.tower.specs.Headline.{RunFollows}
use Rattle.image_map.specs.Computer.{run_trace, run_word}
use Rattle.image_map.specs.Map.{IsMapped, the_map}
use Rattle.image_map.specs.Tallies.{point_seen}
use Rattle.tower.specs.Resolved.{ResolvedLaw}
use Rattle.tower.specs.VmRun.{MakesMoves, VmEnds, outcome_at, vm_at}
use Rattle.tower.specs.declared.building.BuildError.TheVariants as errors
use Rattle.tower.proofs.Computers.{computer as computer_follows, is_mapped, linked_bare}
use Rattle.image_map.proofs.Tallying.{place_first}
use Rattle.tower.proofs.VmRuns.{follows}
use Rattle.command_line.specs.Line.{Source, build, map_image, of_classes, run}
use Rattle.command_line.specs.declared.request.MapFormat.{MapFormat}
use Rattle.command_line.specs.declared.request.MapFormat.TheVariants as formats
use Rattle.jack_debug.specs.MapText as placed
use Rattle.vm_debug.specs.Places.{the_places}
use Rattle.vm_debug.proofs.CorePlaces.{core_places}
use Rattle.nand_cli.specs.Commands.Map.{HavePlaces}
use Rattle.command_line.specs.declared.request.RunLevel.{RunLevel}
use Rattle.command_line.specs.declared.request.RunLevel.TheVariants as levels
use Rattle.command_line.specs.declared.request.Shown.{Shown}
use Rattle.command_line.specs.declared.request.Shown.TheVariants.{Nets, Words}
use Rattle.command_laws.specs.Answered.{FolderAnsweredLaw, FolderMeansLaw, HasAnswer, IsWellFolder}
use Rattle.nand_cli.specs.JackFolder.{BuildIsRefused, FolderIsRefused, FolderMeans}
use Rattle.key_script.specs.Language.{RefusesKeys}
use Rattle.nand_cli.specs.Commands.Build.{unbuilt, without_program}
use Rattle.nand_cli.specs.Commands.Gates.{ComesAfter, IsGatesReport, gates_trace, meaning_in}
use Rattle.nand_cli.specs.Commands.Run.{EndsAt, HasKeys, IsHackReport, IsJackReport, IsReport, state_after, trace_in, unbuilt as run_unbuilt, without_program as run_without_program, without_script}
use Rattle.nand_cli.specs.Commands.RunVm.{IsVmReport}
use Rattle.nand_cli.proofs.Covering.{covered}
use Rattle.command_laws.proofs.FolderAnswered.{AllRead, at_path}
use Rattle.nand_cli.proofs.FolderResolved.{folder_resolved}
use Rattle.nand_cli.proofs.KeyWords.{keys_are_words}
use Rattle.command_laws.proofs.Linking.{IsLinkedOrTold, linked_or_told}
use Rattle.nand_cli.proofs.OnGates.{agrees_too}
use Rattle.nand_cli.proofs.OnVm.{seen_at}
use Rattle.command_laws.proofs.PartsListed.{computer_parts}
use Rattle.nand_cli.proofs.Rising.{rising}
use Rattle.nand_cli.proofs.Showing.{shown_same}

-- the laws that this rests on
pub record Laws : Type 0 where
  pub names : ResolvedLaw
  pub compiled : CompiledLaw
  pub sizes : (l : Linked) → length (image_of l) ≤ budget_of l
  pub keys : KeyLaw
  pub runs : RunsLaw
  pub folders : FolderAnsweredLaw
  pub programs : FolderMeansLaw

-- ---- the image

-- The linked code of a program whose image fits.
pub record Fits (core : Core) : Type 0 where
  pub linked : Linked
  pub links : Links false (files_of core) (Ok linked)
  pub few : length (image_of linked) ≤ image_words

module _ (laws : Laws) (core : Core) (resolved : IsResolvedCore core) (folder : List ℕ) where
  abbrev FitsOrTold : Type 0
  FitsOrTold = Fits core ⊎ ((line : List ℕ) × BuildIsRefused core folder line)

  by_size : (l : Linked) → Links false (files_of core) (Ok l) → (b : Bool) → nat_le (length (image_of l)) image_words ≡ b → FitsOrTold
  by_size l links true e = let few : length (image_of l) ≤ image_words = grind (arith, nat_tests, e) in inl (record { linked = l; links = links; few = few })
  by_size l links false e =
      let over : image_words < length (image_of l) = grind (arith, nat_tests, e) in
      let all = laws.sizes l in
      let words = min (length (image_of l)) (2 ^ 64 - 1) in
      let large : IsTooLarge l words = record { words = refl; over = over; within = omega (arith, all) } in
      inr (_, (errors.TooLarge words, _, (l, links, large), refl, refl))

  by_fault : (fault : LinkFault) (told : Message) → Links false (files_of core) (Err fault) → link_message fault ≡ Some told → IsOnlyFault fault → FitsOrTold
  by_fault fault told links e (inl same) = let none = sym (ap link_message same) ∙ e in let no : ⊥ = cc in absurd no
  by_fault fault told links e (inr (w, same)) = inr (_, (errors.TooManyStatics w, _, subst (λ (f : LinkFault). Links false (files_of core) (Err f)) same links, refl, refl))

  by_links : IsLinkedOrTold false (files_of core) → FitsOrTold
  by_links (inl (l, links)) = by_size l links (nat_le (length (image_of l)) image_words) refl
  by_links (inr (fault, told, links, e)) = by_fault fault told links e (laws.compiled.faults core fault resolved links)

  pub fits_or_told : FitsOrTold
  fits_or_told = by_links (linked_or_told false (files_of core))

module _ (core : Core) (f : Fits core) where
  long : length (map word_of (image_of f.linked)) ≤ image_words
  long = let e = length_mapped word_of (image_of f.linked) in let few = f.few in omega (arith, e, few)

  pub is_image : IsImageOf core (image_for f.linked)
  is_image = record { linked = f.linked; links = f.links; is_image = refl; fits = long }

  mapped : IsMapped (image_for f.linked)
  mapped =
      let l = f.linked in
      is_mapped l (image_of l) (image_map_of l) (linked_bare false (files_of core) l f.links) (covers l) (shared_covers_as l (image_of l) (shared_ranges l) refl refl) refl f.few

  first_point : (code : ℕ → ℕ) → (trace_in (image_for f.linked) code).point 0 ≡ Some (point_seen (points_of f.linked) 0)
  first_point code = place_first (points_of f.linked) mapped.covers.mapped mapped.covers.covers mapped.covers.some

-- the words of an image
at_most : (b : Bool) (n : ℕ) → (if b then n else 0) ≤ n
at_most true n = omega arith
at_most false n = omega arith

one_word : (i : Instr) → IsPlain i → word_of i < 65536
one_word (Address n) h = omega (arith, h)
one_word (Compute true comp dest jump) h = let a = h.0.0 in let b = h.0.1 in let d = h.0.2 in omega (arith, a, b, d)
one_word (Compute false comp dest jump) h = let a = h.0.0 in let b = h.0.1 in let d = h.0.2 in omega (arith, a, b, d)
one_word (Shift memory left of_d dest jump) h = let b = h.1 in let d = h.2 in omega (arith, b, d, at_most memory 4096, at_most left 2048, at_most of_d 1024)

each_word : (is : List Instr) → AllByRecursion IsPlain is → AllByRecursion (λ w. w < 65536) (map word_of is)
each_word [] h = tt
each_word (i ∷ is) h = (one_word i h.0, each_word is h.1)

-- ---- the points of a trace

point_by : (o rest : Option Point) → (q : Point) × (rest ≡ Some q) → (r : Point) × (option_or o rest ≡ Some r)
point_by None rest h = h
point_by (Some r) rest h = (r, refl)

some_point : (t : Trace) (q : Point) → t.point 0 ≡ Some q → (n : ℕ) → (r : Point) × (point_at t n ≡ Some r)
some_point t q h zero = (q, h)
some_point t q h (suc n) = point_by (t.point (suc n)) (point_at t n) (some_point t q h n)

-- ---- the report at level jack

module _ (subs : List Subroutine) (code : ℕ → ℕ) (first : State) where
  abbrev JackRun : ℕ → Type 0
  JackRun n = (m : ℕ) × (s : State) × (end : End) × (state_after (meaning_of subs) code first m ≡ Some s) × EndsAt subs code n m s end

  jack_step : (n m : ℕ) (s : State) → state_after (meaning_of subs) code first m ≡ Some s → m ≡ n → (o : Outcome) → step subs (code m) s ≡ o → JackRun (suc n)
  jack_step n m s at e (Acts heard s') o =
      (suc m, s', ends.Bound, ap (λ (x : Option State). option_and_then ((meaning_of subs).step (code m)) x) at ∙ ap next_of o, ap suc e)
  jack_step n m s at e Done o = (m, s, ends.Done, at, (omega (arith, e), o))
  jack_step n m s at e (Stray a) o = (m, s, ends.Stray (strays.Address a), at, (omega (arith, e), o))

  jack_more : (n : ℕ) → JackRun n → JackRun (suc n)
  jack_more n (m, s, ends.Bound, at, e) = jack_step n m s at e (step subs (code m) s) refl
  jack_more n (m, s, ends.Done, at, e) = let near = e.0 in (m, s, ends.Done, at, (omega (arith, near), e.1))
  jack_more n (m, s, ends.Stray (strays.Address a), at, e) = let near = e.0 in (m, s, ends.Stray (strays.Address a), at, (omega (arith, near), e.1))
  jack_more n (m, s, ends.Stray strays.Values, at, e) = absurd e
  jack_more n (m, s, ends.Stray strays.Argument, at, e) = absurd e
  jack_more n (m, s, ends.Stray strays.Local, at, e) = absurd e
  jack_more n (m, s, ends.Stray strays.Code, at, e) = absurd e
  jack_more n (m, s, ends.Full w, at, e) = absurd e

  jack_run : (n : ℕ) → JackRun n
  jack_run zero = (0, first, ends.Bound, refl, refl)
  jack_run (suc n) = jack_more n (jack_run n)

jack_report : (core : Core) (code : ℕ → ℕ) (n : ℕ) (shown : Show) → (text : List ℕ) × IsJackReport core code n shown text
jack_report core code n shown =
    let r = jack_run (the_subroutines core) code (start (the_program core)) n in (_, (r.0, r.1, r.2, r.3, r.4, refl))

-- ---- the report at level vm

module _ (linked : Linked) (code : ℕ → ℕ) where
  abbrev VmRun : ℕ → Type 0
  VmRun n = (m : ℕ) × (end : End) × MakesMoves linked code m × VmEnds linked code n m end

  one_move : (m : ℕ) → MakesMoves linked code m → state_after_outcome (outcome_at linked code m) ≡ Some (vm_at linked code (suc m)) → MakesMoves linked code (suc m)
  one_move m made next c near = by (nat_eq c m) refl
    where
      by : (b : Bool) → nat_eq c m ≡ b → state_after_outcome (outcome_at linked code c) ≡ Some (vm_at linked code (suc c))
      by true e = let same : c ≡ m = grind (arith, nat_tests, e) in subst (λ (k : ℕ). state_after_outcome (outcome_at linked code k) ≡ Some (vm_at linked code (suc k))) (sym same) next
      by false e = let apart : c ≢ m = λ same. grind (arith, nat_tests, e, same) in made c (omega (arith, near, apart))

  vm_step : (n m : ℕ) → MakesMoves linked code m → m ≡ n → (o : VmOutcome) → outcome_at linked code m ≡ o → VmRun (suc n)
  vm_step n m made e (VmActs heard s) o =
      (suc m, ends.Bound, one_move m made (ap state_after_outcome o ∙ sym (ap (λ (x : VmOutcome). Some (state_or (vm_at linked code m) x)) o)), ap suc e)
  vm_step n m made e (Strays why) o = (m, ends.Stray why, made, (omega (arith, e), o))
  vm_step n m made e (Full w) o = (m, ends.Full w, made, (omega (arith, e), o))
  vm_step n m made e VmDone o = (m, ends.Done, made, (omega (arith, e), o))

  vm_more : (n : ℕ) → VmRun n → VmRun (suc n)
  vm_more n (m, ends.Bound, made, e) = vm_step n m made e (outcome_at linked code m) refl
  vm_more n (m, ends.Stray why, made, e) = let near = e.0 in (m, ends.Stray why, made, (omega (arith, near), e.1))
  vm_more n (m, ends.Full w, made, e) = let near = e.0 in (m, ends.Full w, made, (omega (arith, near), e.1))
  vm_more n (m, ends.Done, made, e) = let near = e.0 in (m, ends.Done, made, (omega (arith, near), e.1))

  vm_run : (n : ℕ) → VmRun n
  vm_run zero = (0, ends.Bound, λ c near. absurd (omega (arith, near)), refl)
  vm_run (suc n) = vm_more n (vm_run n)

-- ---- the reports at the levels of machines

module _ (laws : Laws) (core : Core) (resolved : IsResolvedCore core) (f : Fits core) (code : ℕ → ℕ) (words : (c : ℕ) → IsKey (code c)) (n : ℕ) (shown : Show) where
  vm_report : (text : List ℕ) × IsVmReport core code n shown text
  vm_report =
      let l = f.linked in
      let r = vm_run l code n in
      let p = point_of l (vm_at l code r.0).frames in (
        _,
        record {
          linked = l;
          is_code = f.links;
          moves = r.0;
          end = r.1;
          made = r.2;
          ends = r.3;
          point = p;
          seen = seen_at l code r.0;
          reports = refl;
          follows = follows core l resolved f.links code words r.0 r.2;
        },
      )

  program : Image
  program = image_for f.linked

  run_follows : RunFollows (the_program core) (image_for f.linked).words (the_map (image_for f.linked).map) code n
  run_follows = computer_follows core (image_for f.linked) resolved (is_image core f) code words n

  point_there : (q : Point) × (point_at (trace_in (image_for f.linked) code) n ≡ Some q)
  point_there = some_point (trace_in (image_for f.linked) code) (point_seen (points_of f.linked) 0) (first_point core f code) n

  hack_report : (text : List ℕ) × IsHackReport core code n shown text
  hack_report = (
    _,
    record {
      image = image_for f.linked;
      is_image = is_image core f;
      point = point_there.0;
      seen = point_there.1;
      reports = refl;
      most = run_follows.0;
      gap = run_follows.1;
      follows = run_follows.2;
    },
  )

  pub behaves : (m : ℕ) → (wires : List ℕ → Histories) × IsComputer (image_for f.linked).words code m wires
  behaves m =
      let l = f.linked in
      let plain = plain_image l f.few (all_ready l f.few (sound_if false (files_of core) l f.links)) in
      let small = All-from_recursion (λ w. w < 65536) (map word_of (image_of l)) (each_word (image_of l) (recursion_from_All IsPlain (image_of l) plain)) in
      let r = laws.runs (image_for l).words code m small words in
      (r.wires, record { behaves = r.behaves; no_reset = λ c near. r.no_reset c })

  -- what comes after the five lines
  abbrev After : Shown → List ℕ → Type 0
  After what rest = (m : ℕ) (wires : List ℕ → Histories) → n < m → IsComputer (image_for f.linked).words code m wires
      → (l : List ℕ) × ComesAfter what (image_for f.linked).words code n wires l × (rest ≡ l)

  gates_report : (what : Shown) (rest : List ℕ) → After what rest → (text : List ℕ) × IsGatesReport core code n what text
  gates_report what rest after =
      let p = image_for f.linked in
      let first = start (the_program core) in
      let q = point_there in
      let law = run_follows.2 in
      let trace = run_trace p.words (the_map p.map) code in
      let head : ℕ → List ℕ = λ k. head_text names.Gates n k (get_or (names_of core) q.0.sub []) q.0.number ends.Bound in (
        head (steps trace n) ++ rest,
        record {
          image = p;
          is_image = is_image core f;
          behaves = behaves;
          reports = λ m wires near is.
              let alike = seen p.words (the_map p.map) code m wires is n near in
              let behind = after m wires near is in
              record {
                point = q.0;
                seen = alike.counts.point_is ∙ q.1;
                rest = behind.0;
                after = behind.1;
                is_text = ap (λ (k : ℕ). head k ++ rest) (sym alike.counts.steps_are) ∙ ap (λ (l : List ℕ). head (steps (gates_trace p code wires) n) ++ l) behind.2;
              };
          agrees = λ m wires near is.
              let alike = seen p.words (the_map p.map) code m wires is n near in
              agrees_too (meaning_in core) first (gates_trace p code wires) trace (word_at wires) (run_word p.words code) n alike.counts alike.words law.agrees;
          most = run_follows.0;
          gap = run_follows.1;
          follows = λ m wires near is. gates State (meaning_in core) first p.words (the_map p.map) code run_follows.0 n law m wires near is;
        },
      )

  words_report : (text : List ℕ) × IsGatesReport core code n (Words shown) text
  words_report =
      let word = run_word (image_for f.linked).words code n in
      gates_report (Words shown) (shown_text shown word) (λ m wires near is.
      let alike = seen (image_for f.linked).words (the_map (image_for f.linked).map) code m wires is n near in
      (shown_text shown (word_at wires n), refl, shown_same word (word_at wires n) (λ a from_on below. sym (alike.words a below)) shown))

  nets_report : (text : List ℕ) × IsGatesReport core code n Nets text
  nets_report =
      let b = behaves (suc n) in
      let parts = computer_parts in
      let rest = parts_text b.0 n parts.0 in
      gates_report Nets rest (λ m wires near is. (rest, (b.0, b.1, (parts.0, parts.1, refl)), refl))

-- ---- a level

level_report : (laws : Laws) (core : Core) → IsResolvedCore core → Fits core → (code : ℕ → ℕ) → ((c : ℕ) → IsKey (code c)) → (n : ℕ) (level : RunLevel) → (text : List ℕ) × IsReport level core code n text
level_report laws core resolved f code words n (levels.Jack shown) = jack_report core code n shown
level_report laws core resolved f code words n (levels.Vm shown) = vm_report laws core resolved f code words n shown
level_report laws core resolved f code words n (levels.Hack shown) = hack_report laws core resolved f code words n shown
level_report laws core resolved f code words n (levels.Gates (Words shown)) = words_report laws core resolved f code words n shown
level_report laws core resolved f code words n (levels.Simplified shown) = words_report laws core resolved f code words n shown
level_report laws core resolved f code words n (levels.Gates Nets) = nets_report laws core resolved f code words n shows.Nothing

-- ---- the line

keys_by : (text : List ℕ) → SomeReading (List KeyLine) (SpellsLines text) (RefusesLines text) → ((ls : List KeyLine) × SpellsLines text ls) ⊎ ((told : Message) × RefusesKeys text told)
keys_by text (inl h) = inl h
keys_by text (inr (fault, h)) = inr (key_message fault, (fault, h, refl))

pub keys_read : KeyLaw → AllRead (λ (name text : List ℕ) (ls : List KeyLine). SpellsLines text ls) RefusesKeys
keys_read law name text = keys_by text (law text)

module _ (laws : Laws) (there : List ℕ → Bool) (files : Files) (source : Source) (core : Core) (means : FolderMeans (Some files) source core) where
  resolved_here : IsResolvedCore core
  resolved_here = folder_resolved laws.names (Some files) source core means

  build_answer : HasAnswer there files (of_classes source build)
  build_answer = elim (fits_or_told laws core resolved_here source.folder) [
    | inl f ↦ inl (image_text (image_for f.linked).words, [], ((core, image_for f.linked, (means, is_image core f), refl), refl))
    | inr (line, h) ↦ inr (inl ([], [], line, (refl, unbuilt core means h, refl)))
  ]

  -- the map of a program that fits
  map_text_of : Fits core → (format : MapFormat) → HasAnswer there files (of_classes source (map_image format))
  map_text_of f formats.Points =
      let b = image_for f.linked in
      inl (map_text (names_of core) b.map, [], ((core, b, (means, is_image core f), (covered core b (is_image core f), rising core b (is_image core f)), refl), refl))
  map_text_of f formats.Places =
      let (own, has, (os, shipped, is)) = means in
      let b = image_for f.linked in
      let places = the_places own os f.linked b.map in
      let built = is_image core f in
      let meant = core_places own os core built.linked b.map places resolved_here is.program built.links (ap (λ (q : Image). q.map) built.is_image) (f.linked, f.links, refl) in
      let have : HavePlaces source.replace own places = record { os = os; core = core; image = b; shipped = shipped; program = is; is_image = built; are = (f.linked, f.links, refl); meant = meant } in
      inl (placed.map_text places, [], ((places, (own, has, have), (covered core b (is_image core f), rising core b (is_image core f)), refl), refl))

  map_answer : (format : MapFormat) → HasAnswer there files (of_classes source (map_image format))
  map_answer format = elim (fits_or_told laws core resolved_here source.folder) [
    | inl f ↦ map_text_of f format
    | inr (line, h) ↦ inr (inl ([], [], line, (refl, unbuilt core means h, refl)))
  ]

  module _ (level : RunLevel) (cycles : ℕ) (f : Fits core) where
    with_keys : (keys : Option (List ℕ)) (ls : List KeyLine) → HasKeys (Some files) keys ls → HasAnswer there files (of_classes source (run level cycles keys))
    with_keys keys ls has =
        let report = level_report laws core resolved_here f (code_at ls) (keys_are_words (Some files) keys ls has) cycles level in
        inl (report.0, [], ((core, ls, means, (image_for f.linked, is_image core f), has, report.1), refl))

    run_answer : (keys : Option (List ℕ)) → HasAnswer there files (of_classes source (run level cycles keys))
    run_answer None = with_keys None [] refl
    run_answer (Some path) = elim (at_path (λ (name text : List ℕ) (ls : List KeyLine). SpellsLines text ls) RefusesKeys (keys_read laws.keys) files [] path) [
      | inl (ls, h) ↦ with_keys (Some path) ls h
      | inr (inl (line, h)) ↦ inr (inl ([], [], line, (refl, without_script core means (image_for f.linked, is_image core f) h, refl)))
      | inr (inr gone) ↦ inr (inr (inr (core, means, (image_for f.linked, is_image core f), gone)))
    ]

  run_by : (level : RunLevel) (cycles : ℕ) (keys : Option (List ℕ)) → HasAnswer there files (of_classes source (run level cycles keys))
  run_by level cycles keys = elim (fits_or_told laws core resolved_here source.folder) [
    | inl f ↦ run_answer level cycles f keys
    | inr (line, h) ↦ inr (inl ([], [], line, (refl, run_unbuilt core means h, refl)))
  ]

-- ---- the folder

module _ (laws : Laws) (files : Files) (source : Source) where
  abbrev pub MeansOrNot : Type 0
  MeansOrNot = ((core : Core) × FolderMeans (Some files) source core) ⊎ ((line : List ℕ) × FolderIsRefused (Some files) source line)

  by_classes : IsWellFolder files source ⊎ ((line : List ℕ) × FolderIsRefused (Some files) source line) → MeansOrNot
  by_classes (inl well) = inl (laws.programs files source well)
  by_classes (inr refused) = inr refused

  pub means_or_not : MeansOrNot
  means_or_not = by_classes (laws.folders files source)

module _ (laws : Laws) (there : List ℕ → Bool) (files : Files) (source : Source) where
  pub build_by : MeansOrNot laws files source → HasAnswer there files (of_classes source build)
  build_by (inl (core, means)) = build_answer laws there files source core means
  build_by (inr (line, h)) = inr (inl ([], [], line, (refl, without_program h, refl)))

  pub map_by : (format : MapFormat) → MeansOrNot laws files source → HasAnswer there files (of_classes source (map_image format))
  map_by format (inl (core, means)) = map_answer laws there files source core means format
  map_by format (inr (line, h)) = inr (inl ([], [], line, (refl, without_program h, refl)))

  pub any_run : (level : RunLevel) (cycles : ℕ) (keys : Option (List ℕ)) → MeansOrNot laws files source → HasAnswer there files (of_classes source (run level cycles keys))
  any_run level cycles keys (inl (core, means)) = run_by laws there files source core means level cycles keys
  any_run level cycles keys (inr (line, h)) = inr (inl ([], [], line, (refl, run_without_program h, refl)))
