-- A line of `debug` has an answer, and so has each line that reads the classes of a folder.
use Rattle.std.proofs.Common.{◌≡◌, ◌<◌, ◌&&◌, ◌∷◌, ◌⊎◌, inl, inr, ℕ, zero, suc, Bool, true, false, List, [], Option, Some, None, refl, sym, ◌∙◌, ap, subst, arith}
use Rattle.std.specs.Prelude.{slice_get}
use Rattle.outer_world.specs.Files.{Files}
use Rattle.outer_world.specs.Refusals.{message_line}
use Rattle.outer_world.specs.declared.point.Point.{Point}
use Rattle.hack_isa.specs.Machine.{machine_at}
use Rattle.key_script.specs.Codes.{code_at}
use Rattle.key_script.specs.Grammar.{Spells as SpellsLines}
use Rattle.key_script.specs.Language.{RefusesKeys}
use Rattle.key_script.specs.declared.lines.Line.{Line as KeyLine}
use Rattle.machine_io.specs.declared.report.Show.TheVariants as shows
use Rattle.simulation.specs.System.{IsKey}
use Rattle.simulation.specs.Trace.{Trace, steps}
use Rattle.simulation.proofs.Traces.{same_counts}
use Rattle.image_map.specs.Computer.{run_trace}
use Rattle.image_map.specs.Map.{the_map}
use Rattle.image_map.specs.declared.map.Image.{Image}
use Rattle.hdl_tree.specs.Behaviour.{Histories}
use Rattle.hack_cpu.specs.Computer.{pc_at, word_at}
use Rattle.gate_computer.specs.Computer.{IsComputer}
use Rattle.gate_computer.proofs.Seen.{same_trace, shows_at}
use Rattle.jack_core.specs.Texts.{the_program}
use Rattle.jack_core.specs.declared.program.Core.{Core}
use Rattle.jack_compiler.specs.Resolved.{IsResolvedCore}
use Rattle.jack_debug.specs.Walk.{Walk, point_in}
use Rattle.jack_debug.specs.declared.places.PlacedRange.{PlacedRange}
use Rattle.jack_debug.specs.declared.places.Places.{Places}
use Rattle.jack_debug.specs.declared.seen.View.{View}
use Rattle.jack_debug.proofs.Views.{walk_law}
use Rattle.tower.specs.Image.{IsImageOf, image_for}
use Rattle.vm_debug.specs.Places.{the_places}
use Rattle.vm_debug.specs.Program.{ArePlacesOf}
use Rattle.command_line.specs.Line.{Source, build, compile, debug, map_image, of_classes, run}
use Rattle.command_laws.specs.Answered.{ClassesAnsweredLaw, HasAnswer}
use Rattle.nand_cli.specs.Commands.Build.{unbuilt, without_program}
use Rattle.nand_cli.specs.Commands.Debug.{HasStatement, IsAt, IsDebugReport, ShowsNone, ShowsStop, no_point, stopped, unstopped, without_image, without_point, without_script}
use Rattle.nand_cli.specs.Commands.Gates.{InEach, gates_trace}
use Rattle.nand_cli.specs.Commands.Map.{FolderHasPlaces, HavePlaces}
use Rattle.nand_cli.specs.Commands.Run.{HasKeys}
use Rattle.nand_cli.specs.Inner.Debugging.{is_at, is_between, is_statement, is_statement_at}
use Rattle.nand_cli.specs.JackFolder.{FolderMeans}
use Rattle.nand_cli.proofs.FolderResolved.{folder_resolved}
use Rattle.nand_cli.proofs.KeyWords.{keys_are_words}
use Rattle.nand_cli.proofs.Meaning.{meant}
use Rattle.vm_debug.proofs.CorePlaces.{core_places}
use Rattle.nand_cli.proofs.Stopping.{and_right, at_is, is_at_so, is_its, its_is}
use Rattle.command_laws.proofs.Answered.{compile_answered}
use Rattle.command_laws.proofs.FolderAnswered.{at_path}
use Rattle.command_laws.proofs.ProgramAnswered.{Fits, Laws, MeansOrNot, any_run, behaves, build_by, fits_or_told, is_image, keys_read, map_by, means_or_not}
use Rattle.command_laws.proofs.WalkThere.{HoldsNowhere, IsFirst, first_or_none, view_there}

true_false : (b : Bool) → b ≡ true → b ≡ false → ⊥
true_false b h k = let no : ⊥ = cc in no

-- ---- the statement

module _ (places : Places) (sub : List ℕ) (number : ℕ) where
  abbrev IsIn : List PlacedRange → Type 0
  IsIn rs = (i : ℕ) × (r : PlacedRange) × (slice_get rs i ≡ Some r) × (is_statement places sub number r.point ≡ true)

  in_or_not : (rs : List PlacedRange) → IsIn rs ⊎ (IsIn rs → ⊥)
  in_or_not [] = inr (λ (i, r, e, h). let no : ⊥ = cc in no)
  in_or_not (q ∷ rs) = by_test (in_or_not rs) (is_statement places sub number q.point) refl
    where
      behind : IsIn rs ⊎ (IsIn rs → ⊥) → is_statement places sub number q.point ≡ false → IsIn (q ∷ rs) ⊎ (IsIn (q ∷ rs) → ⊥)
      behind (inl (i, r, e, h)) t = inl (suc i, r, e, h)
      behind (inr none) t = inr by_place
        where
          by_place : IsIn (q ∷ rs) → ⊥
          by_place (zero, r, e, h) =
              let same : q ≡ r = cc in
              true_false _ (ap (λ (x : PlacedRange). is_statement places sub number x.point) same ∙ h) t
          by_place (suc i, r, e, h) = none (i, r, e, h)

      by_test : IsIn rs ⊎ (IsIn rs → ⊥) → (b : Bool) → is_statement places sub number q.point ≡ b → IsIn (q ∷ rs) ⊎ (IsIn (q ∷ rs) → ⊥)
      by_test rest true t = inl (0, q, refl, t)
      by_test rest false t = behind rest t

  statement_by : IsIn places.ranges ⊎ (IsIn places.ranges → ⊥) → HasStatement places sub number ⊎ (HasStatement places sub number → ⊥)
  statement_by (inl (i, r, e, h)) = inl (i, r, e, is_its places sub number r.point h)
  statement_by (inr none) = inr (λ (i, r, e, h). none (i, r, e, its_is places sub number r.point h))

  statement_or_not : HasStatement places sub number ⊎ (HasStatement places sub number → ⊥)
  statement_or_not = statement_by (in_or_not places.ranges)

  point_here : (o : Option Point) → is_statement_at places sub number o ≡ true → (p : Point) × (o ≡ Some p)
  point_here (Some p) h = (p, refl)
  point_here None h = let no : ⊥ = cc in absurd no

-- ---- the report

module _ (core : Core) (image : Image) (places : Places) (resolved : IsResolvedCore core) (is_built : IsImageOf core image) (are : ArePlacesOf (the_program core) is_built.linked places) (sub : List ℕ) (number : ℕ) (code : ℕ → ℕ) (words : (c : ℕ) → IsKey (code c)) (cycles : ℕ) where
  abbrev ran : Trace
  ran = run_trace image.words (the_map image.map) code

  abbrev pc : ℕ → ℕ
  pc n = (machine_at image.words code n).pc

  abbrev test : ℕ → Bool
  test n = is_between ran n && is_statement_at places sub number (point_in places.ranges (pc n))

  between_alike : (m : ℕ) (wires : List ℕ → Histories) → IsComputer image.words code m wires → (n : ℕ) → n < m → is_between (gates_trace image code wires) n ≡ is_between ran n
  between_alike m wires is zero near = refl
  between_alike m wires is (suc c) near = ap (the_map image.map).commits (shows_at image.words code m wires is c (omega (arith, near))).pc

  tests_alike : (m : ℕ) (wires : List ℕ → Histories) → IsComputer image.words code m wires → (n : ℕ) → n < m → is_at places sub number image code wires n ≡ test n
  tests_alike m wires is n near =
      let Q : ℕ → Bool = λ a. is_statement_at places sub number (point_in places.ranges a) in
      ap (λ b. b && Q (pc_at wires n)) (between_alike m wires is n near) ∙ ap (λ a. is_between ran n && Q a) (shows_at image.words code m wires is n near).pc

  steps_alike : (n m : ℕ) (wires : List ℕ → Histories) → n < m → IsComputer image.words code m wires → steps (gates_trace image code wires) n ≡ steps ran n
  steps_alike n m wires near is = (same_counts (gates_trace image code wires) ran n (same_trace image.words code m wires is (the_map image.map) n near)).steps_are

  never : (c m : ℕ) (wires : List ℕ → Histories) → c < m → IsComputer image.words code m wires → test c ≡ false → IsAt places sub number image code wires c → ⊥
  never c m wires near is none h = true_false _ (is_at_so places sub number image code wires c h) (tests_alike m wires is c near ∙ none)

  stops_there : (k : ℕ) (first : IsFirst test cycles k) (view : View) → Walk places (machine_at image.words code k).memory (pc k) view → InEach image.words code k (ShowsStop core places sub number image code k (steps ran k) view)
  stops_there k first view walk = λ m wires near is.
      let shows = shows_at image.words code m wires is k near in
      let at = at_is places sub number image code wires k (tests_alike m wires is k near ∙ first.holds) in
      let memory = (machine_at image.words code k).memory in
      let walks : Walk places (word_at wires k) (pc_at wires k) view =
      subst (λ a. Walk places (word_at wires k) a view) (sym shows.pc) (walk_law.told places memory (word_at wires k) (pc k) view (λ a l. sym (shows.memory a l)) walk) in
      record {
        stops = record { is_at = at; not_before = λ c lt h. never c m wires (omega (arith, lt, near)) is (first.before c lt) h };
        counted = steps_alike k m wires near is;
        walks = walks;
        means = λ tame. meant core image places resolved is_built are code words view m wires is k near at.between walks tame;
      }

  stops_nowhere : HoldsNowhere test cycles → InEach image.words code cycles (ShowsNone places sub number image code cycles (steps ran cycles))
  stops_nowhere none = λ m wires near is. record {
    never = λ c few h. never c m wires (omega (arith, few, near)) is (none c few) h;
    counted = steps_alike cycles m wires near is;
  }

  report_by : ((m : ℕ) → (wires : List ℕ → Histories) × IsComputer image.words code m wires) → ((k : ℕ) × IsFirst test cycles k) ⊎ HoldsNowhere test cycles
      → (text : List ℕ) × IsDebugReport core places sub number image code cycles text
  report_by behave (inl (k, first)) =
      let point = point_here places sub number (point_in places.ranges (pc k)) (and_right (is_between ran k) _ first.holds) in
      let (view, walk) = view_there places (machine_at image.words code k).memory (pc k) point.0 point.1 in
      (_, record { behaves = behave; tells = stopped k (steps ran k) view first.few (stops_there k first view walk) refl })
  report_by behave (inr none) = (_, record { behaves = behave; tells = unstopped (steps ran cycles) (stops_nowhere none) refl })

  report : ((m : ℕ) → (wires : List ℕ → Histories) × IsComputer image.words code m wires) → (text : List ℕ) × IsDebugReport core places sub number image code cycles text
  report behave = report_by behave (first_or_none test cycles)

-- ---- the line

module _ (laws : Laws) (there : List ℕ → Bool) (files : Files) (source : Source) (core : Core) (means : FolderMeans (Some files) source core) (sub : List ℕ) (number cycles : ℕ) where
  resolved_here : IsResolvedCore core
  resolved_here = folder_resolved laws.names (Some files) source core means

  module _ (f : Fits core) where
    abbrev image : Image
    image = image_for f.linked

    abbrev places : Places
    places = the_places means.0 means.2.0 f.linked image.map

    are : ArePlacesOf (the_program core) (is_image core f).linked places
    are =
        let built = is_image core f in
        core_places means.0 means.2.0 core built.linked image.map places resolved_here means.2.2.program built.links (ap (λ (q : Image). q.map) built.is_image) (f.linked, f.links, refl)

    abbrev have : HavePlaces source.replace means.0 places
    have = record { os = means.2.0; core = core; image = image; shipped = means.2.1; program = means.2.2; is_image = is_image core f; are = (f.linked, f.links, refl); meant = are }

    abbrev here : FolderHasPlaces (Some files) source places
    here = (means.0, means.1, have)

    with_keys : (keys : Option (List ℕ)) (ls : List KeyLine) → HasStatement places sub number → HasKeys (Some files) keys ls → HasAnswer there files (of_classes source (debug sub number cycles keys))
    with_keys keys ls has keyed =
        let words = keys_are_words (Some files) keys ls keyed in
        let told = report core image places resolved_here (is_image core f) are sub number (code_at ls) words cycles (behaves laws core resolved_here f (code_at ls) words cycles shows.Nothing) in
        inl (told.0, [], ((places, here, has, ls, keyed, told.1), refl))

    read_keys : (keys : Option (List ℕ)) → HasStatement places sub number → HasAnswer there files (of_classes source (debug sub number cycles keys))
    read_keys None has = with_keys None [] has refl
    read_keys (Some path) has = elim (at_path (λ (name text : List ℕ) (ls : List KeyLine). SpellsLines text ls) RefusesKeys (keys_read laws.keys) files [] path) [
      | inl (ls, h) ↦ with_keys (Some path) ls has h
      | inr (inl (line, h)) ↦ inr (inl ([], [], line, (refl, without_script places here has h, refl)))
      | inr (inr gone) ↦ inr (inr (inr (places, here, has, gone)))
    ]

    by_statement : (keys : Option (List ℕ)) → HasStatement places sub number ⊎ (HasStatement places sub number → ⊥) → HasAnswer there files (of_classes source (debug sub number cycles keys))
    by_statement keys (inl has) = read_keys keys has
    by_statement keys (inr none) = inr (inl ([], [], message_line source.folder (no_point sub number), (refl, without_point places here none refl, refl)))

    debug_answer : (keys : Option (List ℕ)) → HasAnswer there files (of_classes source (debug sub number cycles keys))
    debug_answer keys = by_statement keys (statement_or_not places sub number)

  debug_by : (keys : Option (List ℕ)) → HasAnswer there files (of_classes source (debug sub number cycles keys))
  debug_by keys = elim (fits_or_told laws core resolved_here source.folder) [
    | inl f ↦ debug_answer f keys
    | inr (line, h) ↦ inr (inl ([], [], line, (refl, without_image (unbuilt core means h), refl)))
  ]

module _ (laws : Laws) (there : List ℕ → Bool) (files : Files) (source : Source) where
  any_debug : (sub : List ℕ) (number cycles : ℕ) (keys : Option (List ℕ)) → MeansOrNot laws files source → HasAnswer there files (of_classes source (debug sub number cycles keys))
  any_debug sub number cycles keys (inl (core, means)) = debug_by laws there files source core means sub number cycles keys
  any_debug sub number cycles keys (inr (line, h)) = inr (inl ([], [], line, (refl, without_image (without_program h), refl)))

-- ---- each

pub classes_answered : Laws → ClassesAnsweredLaw
classes_answered laws there files source compile = compile_answered laws.folders there files source
classes_answered laws there files source build = build_by laws there files source (means_or_not laws files source)
classes_answered laws there files source (map_image format) = map_by laws there files source format (means_or_not laws files source)
classes_answered laws there files source (run level cycles keys) = any_run laws there files source level cycles keys (means_or_not laws files source)
classes_answered laws there files source (debug sub number cycles keys) = any_debug laws there files source sub number cycles keys (means_or_not laws files source)
