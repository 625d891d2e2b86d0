-- A line of `debug`: what its parts say.
use Rattle.std.proofs.Common.{◌≡◌, ◌<◌, ◌≤◌, ◌++◌, inl, inr, ℕ, Bool, true, false, nat_lt, take, List, [], Option, Some, None, Result, Ok, Err, refl, sym, ap, ◌∙◌, subst, arith}
use Rattle.std.proofs.lemmas.Bool.{ltb-true}
use Rattle.std.proofs.lemmas.Bool.Decides.{nat_tests}
use Rattle.std.specs.Prelude.{IfSome}
use Rattle.outer_world.specs.Files.{Files, LacksFolder}
use Rattle.source_files.specs.Loads.{Loads, Refused}
use Rattle.source_files.specs.declared.error.LoadError.{LoadError}
use Rattle.source_files.specs.declared.error.LoadError.TheVariants as errors
use Rattle.source_files.proofs.Told.{without}
use Rattle.outer_world.specs.Written.{Got, Puts}
use Rattle.outer_world.specs.declared.sink.Put.{Put}
use Rattle.outer_world.proofs.Passing.{Got-nothing}
use Rattle.key_script.specs.Codes.{code_at}
use Rattle.key_script.specs.declared.lines.Line.{Line}
use Rattle.key_script.specs.declared.keys.Keys.{Keys}
use Rattle.simulation.specs.System.{IsKey}
use Rattle.simulation.specs.Trace.{steps}
use Rattle.image_map.specs.declared.map.Image.{Image}
use Rattle.hdl_tree.specs.Behaviour.{Histories}
use Rattle.hack_cpu.specs.Computer.{pc_at, word_at}
use Rattle.gate_computer.specs.Computer.{IsComputer}
use Rattle.gate_computer.specs.Followed.{GateMachine, HasFollowed, image_in, word_in}
use Rattle.jack_core.specs.Texts.{the_program}
use Rattle.jack_core.specs.declared.program.Core.{Core}
use Rattle.jack_compiler.specs.Resolved.{IsResolvedCore}
use Rattle.jack_debug.specs.Text.{view_text}
use Rattle.jack_debug.specs.Walk.{Walk}
use Rattle.jack_debug.specs.declared.places.Places.{Places}
use Rattle.jack_debug.specs.declared.seen.View.{View}
use Rattle.jack_debug.proofs.Views.{walk_law}
use Rattle.tower.specs.Image.{IsImageOf}
use Rattle.vm_debug.specs.Program.{ArePlacesOf}
use Rattle.command_line.specs.Line.{Source, debug, of_classes}
use Rattle.outer_world.specs.State.{SinkState, shelf_state}
use Rattle.nand_cli.specs.Answer.{Lacks}
use Rattle.nand_cli.specs.Commands.Build.{BuildRefuses}
use Rattle.nand_cli.specs.Commands.Debug.{DebugPrints, DebugRefuses, HasStatement, IsAt, IsDebugReport, ShowsNone, ShowsStop, TellsStop, no_point, none_text, stop_text, stopped, unstopped, without_image, without_point, without_script}
use Rattle.nand_cli.specs.Commands.Gates.{InEach}
use Rattle.nand_cli.specs.Commands.Map.{FolderHasPlaces}
use Rattle.nand_cli.specs.Commands.Run.{HasKeys, LacksKeys, ScriptIsRefused}
use Rattle.nand_cli.specs.Inner.Debugging.{AnswersAt, FolderIsPlaced, HasComeTo, HasGone, IsPreparedDebug, LacksPoint, TellsDriven, TellsMachine}
use Rattle.nand_cli.specs.Inner.Parts.{Does, finish_result}
use Rattle.nand_cli.specs.Inner.Reports.{Reports}
use Rattle.nand_cli.specs.declared.commands.debug.PreparedDebug.{PreparedDebug}
use Rattle.nand_cli.specs.declared.failure.Failure.{Failure}
use Rattle.nand_cli.specs.declared.failure.Failure.TheVariants as failure
use Rattle.nand_cli.specs.declared.placed.PlacedProgram.{PlacedProgram}
use Rattle.nand_cli.proofs.Doing.{nothing_put}
use Rattle.nand_cli.proofs.Meaning.{meant}
use Rattle.nand_cli.proofs.Reporting.{reported_as, reports_by}
use Rattle.nand_cli.proofs.Stopping.{at_is, is_at_so, seen_of}

-- ---- the report

true_false : (b : Bool) → b ≡ true → b ≡ false → ⊥
true_false b h k = let no : ⊥ = cc in no

module _ (core : Core) (image : Image) (places : Places) (resolved : IsResolvedCore core) (is_image : IsImageOf core image) (are : ArePlacesOf (the_program core) is_image.linked places) (sub : List ℕ) (number : ℕ) (code : ℕ → ℕ) (words : (c : ℕ) → IsKey (code c))
    (cycles : ℕ) (g : GateMachine) where
  never_before : (n c m : ℕ) (wires : List ℕ → Histories) → c < n → n < m → IsComputer image.words code m wires → AnswersAt places sub number image code c false → IsAt places sub number image code wires c → ⊥
  never_before n c m wires lt near is answer h =
      true_false _ (is_at_so places sub number image code wires c h) (answer m wires (let l : c < m = omega (arith, lt, near) in l) is)

  shown : (come : HasComeTo places sub number image code cycles true g) (view : View) → Walk places (word_in g) g.tally.at view
      → InEach image.words code come.n (ShowsStop core places sub number image code come.n g.tally.steps view)
  shown come view walk = λ m wires near is.
      let s = seen_of image code come.n g come.gone m wires near is in
      let at = at_is places sub number image code wires come.n (come.last m wires near is) in
      let walks : Walk places (word_at wires come.n) (pc_at wires come.n) view =
      subst (λ k. Walk places (word_at wires come.n) k view) s.at (walk_law.told places (word_in g) (word_at wires come.n) g.tally.at view (λ a l. s.words a l) walk) in
      record {
        stops = record { is_at = at; not_before = λ c lt h. never_before come.n c m wires lt near is (come.not_before c lt) h };
        counted = sym s.counted;
        walks = walks;
        means = λ tame. meant core image places resolved is_image are code words view m wires is come.n near at.between walks tame;
      }

  none : (come : HasComeTo places sub number image code cycles false g) → InEach image.words code cycles (ShowsNone places sub number image code cycles g.tally.steps)
  none come = λ m wires near is.
      let same : come.n ≡ cycles = come.all refl in
      let s = seen_of image code cycles g (subst (λ k. HasGone image code k g) same come.gone) m wires near is in
      let last : AnswersAt places sub number image code cycles false = subst (λ k. AnswersAt places sub number image code k false) same come.last in
      record {
        never = λ c le h. by_test m wires near is c le h last (nat_lt c come.n) refl;
        counted = sym s.counted;
      }
    where
      by_test : (m : ℕ) (wires : List ℕ → Histories) → cycles < m → IsComputer image.words code m wires → (c : ℕ) → c ≤ cycles → IsAt places sub number image code wires c → AnswersAt places sub number image code cycles false
          → (b : Bool) → nat_lt c come.n ≡ b → ⊥
      by_test m wires near is c le h last true t =
          let same : come.n ≡ cycles = come.all refl in
          let lt = ltb-true c come.n t in
          never_before come.n c m wires lt (let l : come.n < m = omega (arith, same, near) in l) is (come.not_before c lt) h
      by_test m wires near is c le h last false t =
          let same : come.n ≡ cycles = come.all refl in
          let here : c ≡ cycles = grind (arith, nat_tests, le, same, t) in
          true_false _ (is_at_so places sub number image code wires c h) (ap (λ k. Rattle.nand_cli.specs.Inner.Debugging.is_at places sub number image code wires k) here ∙ last m wires near is)

  moves_are : (found : Bool) (come : HasComeTo places sub number image code cycles found g) → g.moves ≡ come.n
  moves_are found come = come.gone.moves

  tells : (found : Bool) (text : List ℕ) → HasComeTo places sub number image code cycles found g → TellsMachine places sub number found g text → TellsStop core places sub number image code cycles text
  tells true text come (view, walk, is) =
      stopped come.n g.tally.steps view come.few (shown come view walk)
      (is ∙ ap (λ k. stop_text sub number k g.tally.steps ++ view_text view) (moves_are true come))
  tells false text come is = unstopped g.tally.steps (none come) (is ∙ ap (λ k. none_text k g.tally.steps) (moves_are false come ∙ come.all refl))

  pub reported : (found : Bool) (text : List ℕ) → HasComeTo places sub number image code cycles found g → TellsMachine places sub number found g text → IsDebugReport core places sub number image code cycles text
  reported found text come tell = record {
    behaves = subst (λ (q : Image). (m : ℕ) → (wires : List ℕ → Histories) × IsComputer q.words code m wires) come.gone.same (come.gone.followed.behaves code words);
    tells = tells found text come tell;
  }

-- ---- the line

module _ (files : Option Files) (there : List ℕ → Bool) (steady : Type 0) (source : Source) (sub : List ℕ) (number cycles : ℕ) (keys : Option (List ℕ)) where
  -- what is reported of a prepared line is what the line prints
  pub prints : (p : PreparedDebug) (text : List ℕ) → IsPreparedDebug files source sub number keys p → TellsDriven p sub number cycles text → DebugPrints files source sub number cycles keys text
  prints p text is told =
      let have = is.here.2 in
      let come = subst (λ (q : Image). HasComeTo p.places sub number q (code_at p.keys) cycles told.found told.g) is.image told.come in (
        p.places,
        is.here,
        is.has,
        p.keys,
        is.has_keys,
        reported have.core have.image p.places is.resolved have.is_image have.meant sub number (code_at p.keys) is.words cycles told.g told.found text come told.tells,
      )

  abbrev pub Missed : Type 0
  Missed = steady → IfSome files (λ told. Lacks there told (of_classes source (debug sub number cycles keys)))

  abbrev pub Unprepared : LoadError → Type 0
  Unprepared e = Loads (IsPreparedDebug files source sub number keys) (DebugRefuses files source sub number keys) Missed (Err e)

  lacks_folder : (told : Option Files) → LacksFolder told there source.folder → IfSome told (λ fs. Lacks there fs (of_classes source (debug sub number cycles keys)))
  lacks_folder None h = h
  lacks_folder (Some fs) h = inl h

  pub without_placed : (e : LoadError) → Loads (FolderIsPlaced files source) (BuildRefuses files source) (steady → LacksFolder files there source.folder) (Err e) → Unprepared e
  without_placed e h =
      without (FolderIsPlaced files source) (BuildRefuses files source) (steady → LacksFolder files there source.folder) (IsPreparedDebug files source sub number keys) (DebugRefuses files source sub number keys) Missed e
      (λ told k. without_image k) (λ k s. lacks_folder files (k s)) h

  -- the places of a placed program
  pub here_of : (p : PlacedProgram) → FolderIsPlaced files source p → FolderHasPlaces files source p.places
  here_of p (own, has, is) = (own, has, is.have)

  pub without_statement : (p : PlacedProgram) (e : LoadError) → FolderIsPlaced files source p → Loads {A = Unit {0}} (λ _. HasStatement p.places sub number) (LacksPoint p.places source.folder sub number) ⊥ (Err e) → Unprepared e
  without_statement p e is h =
      without {A = Unit {0}} (λ _. HasStatement p.places sub number) (LacksPoint p.places source.folder sub number) ⊥ (IsPreparedDebug files source sub number keys) (DebugRefuses files source sub number keys) Missed e
      (λ told k. without_point p.places (here_of p is) k.0 k.1) (λ k. absurd k) h

  lacks_script : (told : Option Files) (places : Places) → FolderHasPlaces told source places → HasStatement places sub number → LacksKeys told keys → IfSome told (λ fs. Lacks there fs (of_classes source (debug sub number cycles keys)))
  lacks_script None places here has lacks = tt
  lacks_script (Some fs) places here has lacks = inr (places, here, has, lacks)

  pub without_keys : (p : PlacedProgram) (e : LoadError) → FolderIsPlaced files source p → HasStatement p.places sub number
      → Loads (λ (k : Keys). HasKeys files keys k) (ScriptIsRefused files keys) (steady → LacksKeys files keys) (Err e) → Unprepared e
  without_keys p e is has h =
      without (λ (k : Keys). HasKeys files keys k) (ScriptIsRefused files keys) (steady → LacksKeys files keys) (IsPreparedDebug files source sub number keys) (DebugRefuses files source sub number keys) Missed e
      (λ told k. without_script p.places (here_of p is) has k) (λ k s. lacks_script files p.places (here_of p is) has (k s)) h

  -- a line that is not prepared does nothing
  pub undone : (out err : SinkState) (e : LoadError) → Unprepared e → Does (shelf_state files there steady) (of_classes source (debug sub number cycles keys)) out out err err (Err (failure.Unloaded e))
  undone out err e h =
      nothing_put (IsPreparedDebug files source sub number keys) (DebugRefuses files source sub number keys) Missed files there steady (of_classes source (debug sub number cycles keys)) out err e
      (λ told k. (refl, k, refl)) (λ k. k) h tt

  -- what a prepared line does
  pub answered : (p : PreparedDebug) (out out' err : SinkState) (r : Result (Unit {0}) Failure) → IsPreparedDebug files source sub number keys p → Reports (TellsDriven p sub number cycles) out out' r
      → Does (shelf_state files there steady) (of_classes source (debug sub number cycles keys)) out out' err err r
  answered p out out' err (Ok u) is (text, told, got) = (text, [], (prints p text is told, refl), got, Got-nothing err.written)
  answered p out out' err (Err failure.Out) is (text, told, part) = (take part.0 text, [], (text, part.0, (prints p text is told, refl), refl, refl), part.1, Got-nothing err.written)
  answered p out out' err (Err (failure.Differs d)) is h = absurd h
  answered p out out' err (Err failure.Echo) is h = absurd h
  answered p out out' err (Err (failure.Unloaded (errors.Refused why))) is (same, e) = absurd (let bad : ⊥ = cc in bad)
  answered p out out' err (Err (failure.Unloaded errors.Failed)) is (same, e) = absurd (let bad : ⊥ = cc in bad)
  answered p out out' err (Err (failure.Unloaded errors.Memory)) is (same, e) = ([], [], (refl, refl), subst (λ now. Got out.written now []) (sym same) (Got-nothing out.written), Got-nothing err.written)

  -- all is there
  pub prepared : (p : PlacedProgram) (lines : List Line) (g : GateMachine) → FolderIsPlaced files source p → HasStatement p.places sub number → HasKeys files keys lines → ((c : ℕ) → IsKey (code_at lines c))
      → image_in g ≡ p.image → g.moves ≡ 0 → HasFollowed g [] → IsPreparedDebug files source sub number keys (record { places = p.places; keys = lines; computer = g })
  prepared p lines g (own, has, is) there keyed words image moves stands = record {
    here = (own, has, is.have);
    resolved = is.resolved;
    has = there;
    has_keys = keyed;
    words = words;
    image = image ∙ is.image;
    moves = moves;
    stands = stands;
  }

-- ---- what is put

module _ (places : Places) (sub : List ℕ) (number : ℕ) (g : GateMachine) (out out' : SinkState) (p : Put) where
  pub shown_none : (found : Bool) → found ≡ false → Puts out out' (none_text g.moves g.tally.steps) p → Reports (TellsMachine places sub number found g) out out' (finish_result p)
  shown_none found e puts =
      subst (λ b. Reports (TellsMachine places sub number b g) out out' (finish_result p)) (sym e) (reports_by (TellsMachine places sub number false g) (none_text g.moves g.tally.steps) out out' p refl puts)

  pub shown_found : (found : Bool) (view : View) → found ≡ true → Walk places (word_in g) g.tally.at view → Puts out out' (stop_text sub number g.moves g.tally.steps ++ view_text view) p
      → Reports (TellsMachine places sub number found g) out out' (finish_result p)
  shown_found found view e walk puts =
      subst (λ b. Reports (TellsMachine places sub number b g) out out' (finish_result p)) (sym e)
      (reports_by (TellsMachine places sub number true g) (stop_text sub number g.moves g.tally.steps ++ view_text view) out out' p (view, walk, refl) puts)

pub driven : (p : PreparedDebug) (sub : List ℕ) (number cycles : ℕ) (found : Bool) (g : GateMachine) (out out' : SinkState) (r : Result (Unit {0}) Failure)
    → HasComeTo p.places sub number (image_in p.computer) (code_at p.keys) cycles found g → Reports (TellsMachine p.places sub number found g) out out' r → Reports (TellsDriven p sub number cycles) out out' r
driven p sub number cycles found g out out' r come told =
    reported_as (TellsMachine p.places sub number found g) (TellsDriven p sub number cycles) out out' r (λ text tells. record { found = found; g = g; come = come; tells = tells }) told

pub no_point_told : (places : Places) (folder sub : List ℕ) (number : ℕ) (e : LoadError) → (HasStatement places sub number → ⊥) → Refused folder (no_point sub number) e
    → Loads {A = Unit {0}} (λ _. HasStatement places sub number) (LacksPoint places folder sub number) ⊥ (Err e)
no_point_told places folder sub number (errors.Refused r) none told = (none, told)
no_point_told places folder sub number errors.Failed none told = told
no_point_told places folder sub number errors.Memory none told = tt
