-- A line of `run` reports one thing or is refused for one thing, and not both.
use Rattle.std.proofs.Common.{◌≡◌, ◌≤◌, ◌<◌, ◌+◌, ◌-◌, ◌++◌, ◌⊎◌, inl, inr, ℕ, zero, suc, Bool, true, false, List, [], Option, Some, None, Result, Ok, Err, codes, length, map, refl, sym, ◌∙◌, ap, subst, arith}
use Rattle.std.specs.Prelude.{nat_eq, nat_le, option_and_then}
use Rattle.std.proofs.lemmas.Bool.Decides.{nat_tests}
use Rattle.outer_world.specs.Files.{Files, LacksFolder}
use Rattle.outer_world.specs.Refusals.{Message, message_line}
use Rattle.outer_world.specs.declared.point.Point.{Point}
use Rattle.key_script.specs.Codes.{code_at}
use Rattle.key_script.specs.Grammar.{ReadingLaw as KeyLaw, Spells as SpellsLines}
use Rattle.key_script.specs.declared.lines.Line.{Line}
use Rattle.simulation.specs.System.{System}
use Rattle.simulation.specs.Trace.{point_at, steps}
use Rattle.machine_io.specs.Report.{head_text, report_text, shown_text}
use Rattle.machine_io.specs.declared.driving.End.{End}
use Rattle.machine_io.specs.declared.driving.End.TheVariants as ends
use Rattle.machine_io.specs.declared.machine.Stray.TheVariants as strays
use Rattle.machine_io.specs.declared.report.LevelName.TheVariants as names
use Rattle.machine_io.specs.declared.report.Show.{Show}
use Rattle.vm_tree.specs.declared.program.File.{File}
use Rattle.vm_link.specs.Links.{Links}
use Rattle.vm_link.specs.declared.fault.LinkFault.{LinkFault}
use Rattle.vm_link.specs.declared.fault.LinkFault.TheVariants as linking
use Rattle.vm_link.specs.declared.linked.Linked.{Linked}
use Rattle.vm_link.proofs.Marking.{length_mapped}
use Rattle.hack_isa.specs.Table.{word_of}
use Rattle.vm_translator.specs.Image.{IsTooLarge, image_of}
use Rattle.jack_meaning.specs.Text.{Program, Subroutine}
use Rattle.jack_meaning.specs.Meaning.{Acts, Done, Outcome, State, Stray, start, step}
use Rattle.jack_meaning.specs.Level.{meaning_of, next_of, point_in}
use Rattle.jack_core.specs.declared.program.Core.{Core}
use Rattle.jack_core.specs.Texts.{names_of, the_program}
use Rattle.jack_compiler.specs.Files.{files_of, program_files}
use Rattle.jack_tree.specs.Syntax.{ClassFile}
use Rattle.jack_tree.specs.Seen.{the_file}
use Rattle.jack_parser.specs.Spelled.{ClassLaw}
use Rattle.jack_os.proofs.SystemTexts.{seen_files}
use Rattle.tower.specs.Sources.{system_beside}
use Rattle.tower.proofs.Beside.{one_beside}
use Rattle.command_line.specs.Line.{Source, of_classes, run}
use Rattle.command_line.specs.declared.request.RunLevel.{RunLevel}
use Rattle.command_line.specs.declared.request.RunLevel.TheVariants as levels
use Rattle.command_line.specs.declared.request.Shown.TheVariants.{Nets, Words}
use Rattle.hack_cpu.specs.Computer.{word_at}
use Rattle.gate_computer.specs.Computer.{IsComputer}
use Rattle.image_map.specs.declared.map.Image.{Image}
use Rattle.tower.specs.Image.{Builds, IsImageOf, image_for}
use Rattle.image_map.specs.Computer.{run_word}
use Rattle.tower.specs.OneProgram.{SameProgram}
use Rattle.tower.proofs.OneProgram.{one_program}
use Rattle.tower.specs.Messages.{build_message}
use Rattle.tower.specs.declared.building.BuildError.{BuildError}
use Rattle.tower.specs.declared.building.BuildError.TheVariants as building
use Rattle.source_files.proofs.Once.{one_fault, one_refusal, one_source}
use Rattle.command_laws.specs.Exact.{IsExact, ShowsOneText}
use Rattle.jack_parser.specs.Language.{RefusesClass, SpellsFile}
use Rattle.key_script.specs.Language.{RefusesKeys}
use Rattle.nand_cli.specs.JackFolder.{BuildIsRefused, FolderIsRefused, FolderMeans, IsMeaningless, meaningless, name_line, unread}
use Rattle.nand_cli.specs.Commands.Gates.{IsGatesReport, gates_trace}
use Rattle.nand_cli.specs.Commands.RunVm.{IsVmReport}
use Rattle.nand_cli.specs.Commands.Run.{EndsAt, HasKeys, IsHackReport, IsReport, LacksKeys, LacksScript, RunPrints, RunRefuses, ScriptIsRefused, name_of, state_after, trace_in, unbuilt, without_program, without_script}
use Rattle.command_laws.proofs.Exactly.{none_refused, no_source, not_linked, not_missing, one_link_fault, one_linked, one_size}
use Rattle.nand_cli.proofs.FirstPlace.{one_by_place}
use Rattle.nand_cli.proofs.OneFolder.{never_meaningless, never_scripted, never_unread_classes, one_list_of_classes}
use Rattle.nand_cli.proofs.ReadOnce.{class_once, keys_once}
use Rattle.command_laws.proofs.VmExactly.{one_vm_text}

-- ---- the program of classes

module _ (own own' : List ClassFile) (same : own ≡ own') where
  one_wrong : (source : Source) (line line' : List ℕ) → IsMeaningless source own line → IsMeaningless source own' line' → line ≡ line'
  one_wrong source line line' (os, t, are, first, e) (os', u, are', first', d) =
      e ∙ ap (name_line source.folder) (one_by_place own own' os os' u same (one_beside source.replace own own' os os' same are are') first' t first) ∙ sym d

-- ---- the program of a folder

module _ (law : ClassLaw) (files : Files) (source : Source) where
  pub one_meaning : (core core' : Core) → FolderMeans (Some files) source core → FolderMeans (Some files) source core' → SameProgram core core'
  one_meaning core core' (cs, has, means) (ds, has', means') = one_program source.replace cs ds core core' (one_list_of_classes law files source.folder (map the_file cs) (map the_file ds) has has') means means'

  pub one_folder_line : (line line' : List ℕ) → FolderIsRefused (Some files) source line → FolderIsRefused (Some files) source line' → line ≡ line'
  one_folder_line line line' (unread h) (unread k) = one_refusal SpellsFile RefusesClass (λ (c : ClassFile). c) (class_once law) files source.folder (codes ".jack") line line' h k
  one_folder_line line line' (unread h) (meaningless own has k) = absurd (never_unread_classes law files source.folder own line has h)
  one_folder_line line line' (meaningless own has h) (unread k) = absurd (never_unread_classes law files source.folder own line' has k)
  one_folder_line line line' (meaningless own has h) (meaningless own' has' k) = one_wrong own own' (one_list_of_classes law files source.folder own own' has has') source line line' h k

  pub never_refused : (core : Core) (line : List ℕ) → FolderMeans (Some files) source core → FolderIsRefused (Some files) source line → ⊥
  never_refused core line (cs, has, (os, are, is)) k = never_meaningless law files source (map the_file cs) (map the_file os) line has (seen_files (system_beside source.replace (map the_file cs)) os are) is.well_named k

-- ---- its image

module _ (core core' : Core) (same : SameProgram core core') where
  pub one_list_of_files : files_of core ≡ files_of core'
  one_list_of_files = λ i. program_files (same.program i) (same.names i) (same.classes i)

  pub linked_here : (r : Result Linked LinkFault) → Links false (files_of core') r → Links false (files_of core) r
  linked_here r h = subst (λ (fs : List File). Links false fs r) (sym one_list_of_files) h

  pub one_image_of : (p q : Image) → IsImageOf core p → IsImageOf core' q → p ≡ q
  one_image_of p q h k =
      h.is_image ∙ ap image_for (one_linked false (files_of core) h.linked k.linked h.links (linked_here (Ok k.linked) k.links)) ∙ sym k.is_image

  one_large : (l m : Linked) (v w : ℕ) → Links false (files_of core) (Ok l) → Links false (files_of core') (Ok m) → IsTooLarge l v → IsTooLarge m w → v ≡ w
  one_large l m v w h k large large' = one_size l m v w (one_linked false (files_of core) l m h (linked_here (Ok m) k)) large large'

  one_build_told : (error error' : BuildError) (s t : Message) → Builds core (Err error) → Builds core' (Err error') → build_message error ≡ Some s → build_message error' ≡ Some t → s ≡ t
  one_build_told building.Memory error' s t h k e d = absurd cc
  one_build_told (building.TooManyStatics w) building.Memory s t h k e d = absurd cc
  one_build_told (building.TooManyStatics w) (building.TooManyStatics v) s t h k e d =
      let fault : linking.TooManyStatics w ≡ linking.TooManyStatics v = one_link_fault false (files_of core) (linking.TooManyStatics w) (linking.TooManyStatics v) _ _ h (linked_here (Err (linking.TooManyStatics v)) k) refl refl in
      let n : w ≡ v = cc in
      let r = ap (λ m. build_message (building.TooManyStatics m)) n in
      let same_told : s ≡ t = cc in same_told
  one_build_told (building.TooManyStatics w) (building.TooLarge v) s t h (m, k, large) e d = absurd (not_linked false (files_of core) m (linking.TooManyStatics w) _ (linked_here (Ok m) k) h refl)
  one_build_told (building.TooLarge w) building.Memory s t h k e d = absurd cc
  one_build_told (building.TooLarge w) (building.TooManyStatics v) s t (l, h, large) k e d =
      absurd (not_linked false (files_of core) l (linking.TooManyStatics v) _ h (linked_here (Err (linking.TooManyStatics v)) k) refl)
  one_build_told (building.TooLarge w) (building.TooLarge v) s t (l, h, large) (m, k, large') e d =
      let n = one_large l m w v h k large large' in
      let r = ap (λ j. build_message (building.TooLarge j)) n in
      let same_told : s ≡ t = cc in same_told

  pub one_build_line : (folder line line' : List ℕ) → BuildIsRefused core folder line → BuildIsRefused core' folder line' → line ≡ line'
  one_build_line folder line line' (error, s, h, e, d) (error', t, k, e', d') = d ∙ ap (message_line folder) (one_build_told error error' s t h k e e') ∙ sym d'

  never_large : (p : Image) (m : Linked) (w : ℕ) → IsImageOf core p → Links false (files_of core') (Ok m) → IsTooLarge m w → ⊥
  never_large p m w h k large =
      let over = large.over in
      let fits = h.fits in
      let is = ap (λ (x : Image). length x.words) h.is_image in
      let long = length_mapped word_of (image_of h.linked) in
      let e = ap (λ (x : Linked). length (image_of x)) (one_linked false (files_of core) h.linked m h.links (linked_here (Ok m) k)) in
      omega (arith, over, fits, is, long, e)

  pub never_unbuilt : (p : Image) (error : BuildError) (t : Message) → IsImageOf core p → Builds core' (Err error) → build_message error ≡ Some t → ⊥
  never_unbuilt p building.Memory t h k e = let no : ⊥ = cc in no
  never_unbuilt p (building.TooManyStatics w) t h k e = not_linked false (files_of core) h.linked (linking.TooManyStatics w) _ h.links (linked_here (Err (linking.TooManyStatics w)) k) refl
  never_unbuilt p (building.TooLarge w) t h (m, k, large) e = never_large p m w h k large

-- ---- keys

module _ (law : KeyLaw) (files : Files) where
  pub one_list_of_keys : (path : Option (List ℕ)) (ls ms : List Line) → HasKeys (Some files) path ls → HasKeys (Some files) path ms → ls ≡ ms
  one_list_of_keys None ls ms h k = h ∙ sym k
  one_list_of_keys (Some path) ls ms h k = one_source (λ (name text : List ℕ) (keys : List Line). SpellsLines text keys) RefusesKeys (λ (keys : List Line). keys) (keys_once law) files [] path ls ms h k

  pub one_script_line : (path : Option (List ℕ)) (line line' : List ℕ) → ScriptIsRefused (Some files) path line → ScriptIsRefused (Some files) path line' → line ≡ line'
  one_script_line None line line' h k = absurd h
  one_script_line (Some path) line line' h k = one_fault (λ (name text : List ℕ) (keys : List Line). SpellsLines text keys) RefusesKeys (λ (keys : List Line). keys) (keys_once law) files path line line' h k

-- a key script that is not there
module _ (files : Files) where
  pub no_keys : (path : Option (List ℕ)) (ls : List Line) → LacksKeys (Some files) path → HasKeys (Some files) path ls → ⊥
  no_keys None ls gone has = gone
  no_keys (Some path) ls gone has = no_source SpellsLines files path ls gone has

  pub no_script : (path : Option (List ℕ)) (line : List ℕ) → LacksKeys (Some files) path → ScriptIsRefused (Some files) path line → ⊥
  no_script None line gone refused = gone
  no_script (Some path) line gone refused = none_refused RefusesKeys files path line gone refused

-- ---- the report at the level of the meaning

-- no state after one that is missing
none_later : {S : Type 0} (sys : System S) (code : ℕ → ℕ) (first : S) (m k : ℕ) → state_after sys code first m ≡ None → state_after sys code first (k + m) ≡ None
none_later sys code first m zero e = let same : 0 + m ≡ m = omega arith in ap (state_after sys code first) same ∙ e
none_later sys code first m (suc k) e =
    let more : suc k + m ≡ suc (k + m) = omega arith in
    ap (state_after sys code first) more ∙ ap (option_and_then (sys.step (code (k + m)))) (none_later sys code first m k e)

-- how n moves end after m of them, by the next step
abbrev end_by : Bool → Outcome → End
end_by true o = ends.Bound
end_by false Done = ends.Done
end_by false (Stray a) = ends.Stray (strays.Address a)
end_by false (Acts heard s) = ends.Bound

not_yet : (n m : ℕ) → m < n → nat_eq m n ≡ false
not_yet n m h = grind (arith, nat_tests, h)

made : (n m : ℕ) → m ≡ n → nat_eq m n ≡ true
made n m h = grind (arith, nat_tests, h)

ends_by : (subs : List Subroutine) (code : ℕ → ℕ) (n m : ℕ) (s : State) (end : End) → EndsAt subs code n m s end → end ≡ end_by (nat_eq m n) (step subs (code m) s)
ends_by subs code n m s ends.Bound h = λ i. end_by (sym (made n m h) i) (step subs (code m) s)
ends_by subs code n m s ends.Done h = λ i. end_by (sym (not_yet n m h.0) i) (sym h.1 i)
ends_by subs code n m s (ends.Stray (strays.Address a)) h = λ i. end_by (sym (not_yet n m h.0) i) (sym h.1 i)
ends_by subs code n m s (ends.Stray strays.Values) h = absurd h
ends_by subs code n m s (ends.Stray strays.Argument) h = absurd h
ends_by subs code n m s (ends.Stray strays.Local) h = absurd h
ends_by subs code n m s (ends.Stray strays.Code) h = absurd h
ends_by subs code n m s (ends.Full w) h = absurd h

-- all the moves are made, or there is no next one
last_or_stuck : (subs : List Subroutine) (code : ℕ → ℕ) (n m : ℕ) (s : State) (end : End) → EndsAt subs code n m s end → (m ≡ n) ⊎ ((m < n) × (next_of (step subs (code m) s) ≡ None))
last_or_stuck subs code n m s ends.Bound h = inl h
last_or_stuck subs code n m s ends.Done h = inr (h.0, ap next_of h.1)
last_or_stuck subs code n m s (ends.Stray (strays.Address a)) h = inr (h.0, ap next_of h.1)
last_or_stuck subs code n m s (ends.Stray strays.Values) h = absurd h
last_or_stuck subs code n m s (ends.Stray strays.Argument) h = absurd h
last_or_stuck subs code n m s (ends.Stray strays.Local) h = absurd h
last_or_stuck subs code n m s (ends.Stray strays.Code) h = absurd h
last_or_stuck subs code n m s (ends.Full w) h = absurd h

at_most : (n m : ℕ) {P : Type 0} → (m ≡ n) ⊎ ((m < n) × P) → m ≤ n
at_most n m (inl e) = omega (arith, e)
at_most n m (inr h) = let less = h.0 in omega (arith, less)

-- of two numbers of moves neither is less
not_less : (subs : List Subroutine) (code : ℕ → ℕ) (first : State) (n m k : ℕ) (s t : State)
    → (m ≡ n) ⊎ ((m < n) × (next_of (step subs (code m) s) ≡ None)) → k ≤ n
    → state_after (meaning_of subs) code first m ≡ Some s → state_after (meaning_of subs) code first k ≡ Some t → k ≤ m
not_less subs code first n m k s t (inl e) few a b = omega (arith, e, few)
not_less subs code first n m k s t (inr (less, stuck)) few a b = by_order (nat_le k m) refl
  where
    later : m < k → ⊥
    later more =
        let d = ap (option_and_then ((meaning_of subs).step (code m))) a ∙ stuck in
        let sum : (k - suc m) + suc m ≡ k = omega (arith, more) in
        let none = sym (ap (state_after (meaning_of subs) code first) sum) ∙ none_later (meaning_of subs) code first (suc m) (k - suc m) d in
        let no : ⊥ = cc in no

    by_order : (c : Bool) → nat_le k m ≡ c → k ≤ m
    by_order true e = grind (arith, nat_tests, e)
    by_order false e = absurd (later (grind (arith, nat_tests, e)))

-- the report of a program with these names
abbrev JackReport : Program → List (List ℕ) → (ℕ → ℕ) → ℕ → Show → List ℕ → Type 0
JackReport program subs code n shown text =
    (m : ℕ) × (s : State) × (end : End)
    × (state_after (meaning_of program.subroutines) code (start program) m ≡ Some s) × EndsAt program.subroutines code n m s end
    × (text ≡ report_text names.Jack m m (name_of subs (point_in s).sub) (point_in s).number end shown ((meaning_of program.subroutines).word s))

one_jack_report : (program : Program) (subs : List (List ℕ)) (code : ℕ → ℕ) (n : ℕ) (shown : Show) (text text' : List ℕ) → JackReport program subs code n shown text → JackReport program subs code n shown text' → text ≡ text'
one_jack_report program subs code n shown text text' (m, s, end, a, h, e) (k, t, end', b, h', d) =
    let p = last_or_stuck program.subroutines code n m s end h in
    let q = last_or_stuck program.subroutines code n k t end' h' in
    let below = not_less program.subroutines code (start program) n m k s t p (at_most n k q) a b in
    let above = not_less program.subroutines code (start program) n k m t s q (at_most n m p) b a in
    let same : m ≡ k = omega (arith, below, above) in
    let states = sym a ∙ ap (state_after (meaning_of program.subroutines) code (start program)) same ∙ b in
    let state : s ≡ t = cc in
    let ending = ends_by program.subroutines code n m s end h ∙ (λ i. end_by (nat_eq (same i) n) (step program.subroutines (code (same i)) (state i))) ∙ sym (ends_by program.subroutines code n k t end' h') in
    e
    ∙ (λ i. report_text names.Jack (same i) (same i) (name_of subs (point_in (state i)).sub) (point_in (state i)).number (ending i) shown ((meaning_of program.subroutines).word (state i)))
    ∙ sym d

-- ---- the report at the level of the computer

one_hack_report : (core core' : Core) (code : ℕ → ℕ) (n : ℕ) (shown : Show) (text text' : List ℕ) → SameProgram core core' → IsHackReport core code n shown text → IsHackReport core' code n shown text' → text ≡ text'
one_hack_report core core' code n shown text text' same h k =
    let image = one_image_of core core' same h.image k.image h.is_image k.is_image in
    let points = sym h.seen ∙ (λ i. point_at (trace_in (image i) code) n) ∙ k.seen in
    let point : h.point ≡ k.point = cc in
    h.reports
    ∙ (λ i. report_text names.Hack n (steps (trace_in (image i) code) n) (name_of (same.names i) (point i).sub) (point i).number ends.Bound shown (run_word (image i).words code n))
    ∙ sym k.reports

-- ---- the report at level gates

one_gates_report : (core core' : Core) (code : ℕ → ℕ) (n : ℕ) (shown : Show) (text text' : List ℕ) → SameProgram core core' → IsGatesReport core code n (Words shown) text → IsGatesReport core' code n (Words shown) text' → text ≡ text'
one_gates_report core core' code n shown text text' same h k =
    let image = one_image_of core core' same h.image k.image h.is_image k.is_image in
    let b = h.behaves (suc n) in
    let r = h.reports (suc n) b.0 (omega arith) b.1 in
    let s = k.reports (suc n) b.0 (omega arith) (subst (λ (p : Image). IsComputer p.words code (suc n) b.0) image b.1) in
    let points = sym r.seen ∙ (λ i. point_at (gates_trace (image i) code b.0) n) ∙ s.seen in
    let point : r.point ≡ s.point = cc in
    let head : Image → List (List ℕ) → Point → List ℕ = λ p subs q. head_text names.Gates n (steps (gates_trace p code b.0) n) (name_of subs q.sub) q.number ends.Bound in
    r.is_text ∙ ap (λ l. head h.image (names_of core) r.point ++ l) r.after
    ∙ (λ i. head (image i) (same.names i) (point i) ++ shown_text shown (word_at b.0 n))
    ∙ sym (s.is_text ∙ ap (λ l. head k.image (names_of core') s.point ++ l) s.after)

-- ---- the report at level vm

one_vm_report : (core core' : Core) (code : ℕ → ℕ) (n : ℕ) (shown : Show) (text text' : List ℕ) → SameProgram core core' → IsVmReport core code n shown text → IsVmReport core' code n shown text' → text ≡ text'
one_vm_report core core' code n shown text text' same h k =
    let there : Links false (files_of core) (Ok k.linked) = subst (λ (fs : List File). Links false fs (Ok k.linked)) (sym (one_list_of_files core core' same)) k.is_code in
    one_vm_text core core' code n shown text text' h k (one_linked false (files_of core) h.linked k.linked h.is_code there) same.names

-- ---- the report at a level

one_report : (level : RunLevel) (core core' : Core) (code : ℕ → ℕ) (n : ℕ) (text text' : List ℕ) → ShowsOneText level → SameProgram core core' → IsReport level core code n text → IsReport level core' code n text' → text ≡ text'
one_report (levels.Jack shown) core core' code n text text' one same h k =
    let there : JackReport (the_program core) (names_of core') code n shown text' = subst (λ (p : Program). JackReport p (names_of core') code n shown text') (sym same.program) k in
    one_jack_report (the_program core) (names_of core) code n shown text text' h (subst (λ (ns : List (List ℕ)). JackReport (the_program core) ns code n shown text') (sym same.names) there)
one_report (levels.Vm shown) core core' code n text text' one same h k = one_vm_report core core' code n shown text text' same h k
one_report (levels.Hack shown) core core' code n text text' one same h k = one_hack_report core core' code n shown text text' same h k
one_report (levels.Gates (Words shown)) core core' code n text text' one same h k = one_gates_report core core' code n shown text text' same h k
one_report (levels.Simplified shown) core core' code n text text' one same h k = one_gates_report core core' code n shown text text' same h k
one_report (levels.Gates Nets) core core' code n text text' one same h k = absurd one

-- ---- the line

module _ (jack_law : ClassLaw) (key_law : KeyLaw) (files : Files) (source : Source) (level : RunLevel) (cycles : ℕ) (keys : Option (List ℕ)) where
  run_prints : ShowsOneText level → (out out' : List ℕ) → RunPrints (Some files) source level cycles keys out → RunPrints (Some files) source level cycles keys out' → out ≡ out'
  run_prints one out out' (core, ls, means, built, has, is) (core', ms, means', built', has', is') =
      let same = one_meaning jack_law files source core core' means means' in
      let lines = one_list_of_keys key_law files keys ls ms has has' in
      one_report level core core' (code_at ls) cycles out out' one same is (subst (λ (x : List Line). IsReport level core' (code_at x) cycles out') (sym lines) is')

  run_refuses : (line line' : List ℕ) → RunRefuses (Some files) source keys line → RunRefuses (Some files) source keys line' → line ≡ line'
  run_refuses line line' (without_program h) (without_program k) = one_folder_line jack_law files source line line' h k
  run_refuses line line' (without_program h) (unbuilt core means k) = absurd (never_refused jack_law files source core line means h)
  run_refuses line line' (without_program h) (without_script core means built k) = absurd (never_refused jack_law files source core line means h)
  run_refuses line line' (unbuilt core means h) (without_program k) = absurd (never_refused jack_law files source core line' means k)
  run_refuses line line' (unbuilt core means h) (unbuilt core' means' k) = one_build_line core core' (one_meaning jack_law files source core core' means means') source.folder line line' h k
  run_refuses line line' (unbuilt core means h) (without_script core' means' built k) =
      absurd (never_unbuilt core' core (one_meaning jack_law files source core' core means' means) built.0 h.0 h.1 built.1 h.2 h.3)
  run_refuses line line' (without_script core means built h) (without_program k) = absurd (never_refused jack_law files source core line' means k)
  run_refuses line line' (without_script core means built h) (unbuilt core' means' k) =
      absurd (never_unbuilt core core' (one_meaning jack_law files source core core' means means') built.0 k.0 k.1 built.1 k.2 k.3)
  run_refuses line line' (without_script core means built h) (without_script core' means' built' k) = one_script_line key_law files keys line line' h k

  run_apart : (out line : List ℕ) → RunPrints (Some files) source level cycles keys out → RunRefuses (Some files) source keys line → ⊥
  run_apart out line (core, ls, means, built, has, is) (without_program k) = never_refused jack_law files source core line means k
  run_apart out line (core, ls, means, built, has, is) (unbuilt core' means' k) =
      never_unbuilt core core' (one_meaning jack_law files source core core' means means') built.0 k.0 k.1 built.1 k.2 k.3
  run_apart out line (core, ls, means, built, has, is) (without_script core' means' built' k) = never_scripted key_law files keys ls line has k

  never_printed : (there : List ℕ → Bool) (out : List ℕ) → there source.folder ≡ true → LacksFolder (Some files) there source.folder ⊎ LacksScript files source keys → RunPrints (Some files) source level cycles keys out → ⊥
  never_printed there out has (inl gone) h = not_missing there files source.folder has gone
  never_printed there out has (inr (core, means, built, gone)) (core', ls, means', built', keyed, is) = no_keys files keys ls gone keyed

  never_run_refused : (there : List ℕ → Bool) (line : List ℕ) → there source.folder ≡ true → LacksFolder (Some files) there source.folder ⊎ LacksScript files source keys → RunRefuses (Some files) source keys line → ⊥
  never_run_refused there line has (inl gone) h = not_missing there files source.folder has gone
  never_run_refused there line has (inr (core, means, built, gone)) (without_program k) = never_refused jack_law files source core line means k
  never_run_refused there line has (inr (core, means, built, gone)) (unbuilt core' means' k) =
      never_unbuilt core core' (one_meaning jack_law files source core core' means means') built.0 k.0 k.1 built.1 k.2 k.3
  never_run_refused there line has (inr (core, means, built, gone)) (without_script core' means' built' k) = no_script files keys line gone k

pub run_exact : ClassLaw → KeyLaw → (files : Files) (source : Source) (level : RunLevel) (cycles : ℕ) (keys : Option (List ℕ)) → IsExact files (of_classes source (run level cycles keys))
run_exact jack_law key_law files source level cycles keys = record {
  prints = λ one out err out' err' h k. (run_prints jack_law key_law files source level cycles keys one out out' h.0 k.0, h.1 ∙ sym k.1);
  refuses = λ out before told out' before' told' h k. (h.0 ∙ sym k.0, run_refuses jack_law key_law files source level cycles keys told told' h.1 k.1, h.2 ∙ sym k.2);
  apart = λ out err out' before told h k. run_apart jack_law key_law files source level cycles keys out told h.0 k.1;
  lacking = λ there has gone out before told. (
    λ h. never_printed jack_law key_law files source level cycles keys there out has gone h.0,
    λ k. never_run_refused jack_law key_law files source level cycles keys there told has gone k.1,
  );
}
