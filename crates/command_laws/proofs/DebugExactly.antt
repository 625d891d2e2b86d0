-- A line of `debug` shows one thing or is refused for one thing, and not both.
use Rattle.std.proofs.Common.{◌≡◌, ◌+◌, ◌++◌, ◌⊎◌, inl, inr, ℕ, suc, Bool, true, false, List, Option, Some, refl, sym, ◌∙◌, ap, subst, arith}
use Rattle.std.specs.Prelude.{nat_lt}
use Rattle.std.proofs.lemmas.Bool.Decides.{nat_tests}
use Rattle.outer_world.specs.Files.{Files, LacksFolder}
use Rattle.key_script.specs.Codes.{code_at}
use Rattle.key_script.specs.Grammar.{ReadingLaw as KeyLaw}
use Rattle.key_script.specs.declared.lines.Line.{Line}
use Rattle.simulation.specs.Trace.{steps}
use Rattle.image_map.specs.declared.map.Image.{Image}
use Rattle.hdl_tree.specs.Behaviour.{Histories}
use Rattle.hack_cpu.specs.Computer.{pc_at, word_at}
use Rattle.jack_core.specs.declared.program.Core.{Core}
use Rattle.jack_debug.specs.Text.{view_text}
use Rattle.jack_debug.specs.declared.places.Places.{Places}
use Rattle.jack_debug.proofs.Views.{walk_law}
use Rattle.jack_parser.specs.Spelled.{ClassLaw}
use Rattle.tower.specs.OneProgram.{SameProgram}
use Rattle.command_line.specs.Line.{Source, debug, of_classes}
use Rattle.command_laws.specs.Exact.{IsExact}
use Rattle.nand_cli.specs.Commands.Build.{BuildRefuses}
use Rattle.nand_cli.specs.Commands.Debug.{DebugLacks, DebugPrints, DebugRefuses, HasStatement, IsDebugReport, StopsAt, TellsStop, none_text, stop_text, stopped, unstopped, without_image, without_point, without_script}
use Rattle.nand_cli.specs.Commands.Gates.{gates_trace}
use Rattle.nand_cli.specs.Commands.Map.{FolderHasPlaces}
use Rattle.nand_cli.proofs.OneFolder.{never_scripted}
use Rattle.command_laws.proofs.BuildExactly.{built_apart, built_of, one_line, one_places}
use Rattle.command_laws.proofs.Exactly.{not_missing}
use Rattle.command_laws.proofs.RunExactly.{no_keys, no_script, one_image_of, one_list_of_keys, one_meaning, one_script_line}
use Rattle.hack_asm.specs.Image.{image_text}

-- ---- where it stops

-- of two first cycles neither is before the other
same_stop : (places : Places) (sub : List ℕ) (number : ℕ) (image : Image) (code : ℕ → ℕ) (wires : List ℕ → Histories) (n k : ℕ) → StopsAt places sub number image code wires n → StopsAt places sub number image code wires k → n ≡ k
same_stop places sub number image code wires n k h j = by_test (nat_lt n k) (nat_lt k n) refl refl
  where
    by_test : (a b : Bool) → nat_lt n k ≡ a → nat_lt k n ≡ b → n ≡ k
    by_test true b s t = absurd (j.not_before n (grind (arith, nat_tests, s)) h.is_at)
    by_test false true s t = absurd (h.not_before k (grind (arith, nat_tests, t)) j.is_at)
    by_test false false s t = grind (arith, nat_tests, s, t)

module _ (core core' : Core) (places : Places) (sub : List ℕ) (number : ℕ) (image : Image) (code : ℕ → ℕ) (cycles : ℕ) where
  one_stop : (text text' : List ℕ) → IsDebugReport core places sub number image code cycles text → TellsStop core places sub number image code cycles text → TellsStop core' places sub number image code cycles text' → text ≡ text'
  one_stop text text' report (stopped n made view few each e) (stopped k made' view' few' each' d) =
      let b = report.behaves (suc (n + k)) in
      let h = each (suc (n + k)) b.0 (omega arith) b.1 in
      let j = each' (suc (n + k)) b.0 (omega arith) b.1 in
      let same : n ≡ k = same_stop places sub number image code b.0 n k h.stops j.stops in
      let counts : made ≡ made' = sym h.counted ∙ ap (steps (gates_trace image code b.0)) same ∙ j.counted in
      let views : view ≡ view' =
      walk_law.one places (word_at b.0 k) (pc_at b.0 k) view view' (subst (λ m. Rattle.jack_debug.specs.Walk.Walk places (word_at b.0 m) (pc_at b.0 m) view) same h.walks) j.walks in
      e ∙ (λ i. stop_text sub number (same i) (counts i) ++ view_text (views i)) ∙ sym d
  one_stop text text' report (stopped n made view few each e) (unstopped made' each' d) =
      let b = report.behaves (suc cycles) in
      let h = each (suc cycles) b.0 (omega (arith, few)) b.1 in
      let j = each' (suc cycles) b.0 (omega arith) b.1 in
      absurd (j.never n few h.stops.is_at)
  one_stop text text' report (unstopped made each e) (stopped k made' view' few' each' d) =
      let b = report.behaves (suc cycles) in
      let h = each (suc cycles) b.0 (omega arith) b.1 in
      let j = each' (suc cycles) b.0 (omega (arith, few')) b.1 in
      absurd (h.never k few' j.stops.is_at)
  one_stop text text' report (unstopped made each e) (unstopped made' each' d) =
      let b = report.behaves (suc cycles) in
      let h = each (suc cycles) b.0 (omega arith) b.1 in
      let j = each' (suc cycles) b.0 (omega arith) b.1 in
      e ∙ ap (none_text cycles) (sym h.counted ∙ j.counted) ∙ sym d

-- ---- the line

module _ (jack_law : ClassLaw) (key_law : KeyLaw) (files : Files) (source : Source) (sub : List ℕ) (number cycles : ℕ) (keys : Option (List ℕ)) where
  one_image_here : (places places' : Places) (h : FolderHasPlaces (Some files) source places) (k : FolderHasPlaces (Some files) source places') → h.2.image ≡ k.2.image
  one_image_here places places' (own, has, h) (own', has', k) =
      let b = built_of jack_law files source own places has h in
      let c = built_of jack_law files source own' places' has' k in
      let same : SameProgram h.core k.core = one_meaning jack_law files source h.core k.core (own, has, (h.os, h.shipped, h.program)) (own', has', (k.os, k.shipped, k.program)) in
      one_image_of h.core k.core same h.image k.image h.is_image k.is_image

  debug_prints : (out out' : List ℕ) → DebugPrints (Some files) source sub number cycles keys out → DebugPrints (Some files) source sub number cycles keys out' → out ≡ out'
  debug_prints out out' (places, here, has, ls, keyed, is) (places', here', has', ms, keyed', is') =
      let core = here.2.core in
      let core' = here'.2.core in
      let image = here.2.image in
      let image' = here'.2.image in
      let one = one_places jack_law files source places places' here here' in
      let images = one_image_here places places' here here' in
      let lines = one_list_of_keys key_law files keys ls ms keyed keyed' in
      let told : TellsStop core' places sub number image (code_at ls) cycles out' =
      subst (λ (p : Places). TellsStop core' p sub number image (code_at ls) cycles out') (sym one)
      (subst (λ (q : Image). TellsStop core' places' sub number q (code_at ls) cycles out') (sym images)
      (subst (λ (x : List Line). TellsStop core' places' sub number image' (code_at x) cycles out') (sym lines) is'.tells)) in
      one_stop core core' places sub number image (code_at ls) cycles out out' is is.tells told

  -- a folder with places is not refused
  never_unplaced : (places : Places) (line : List ℕ) → FolderHasPlaces (Some files) source places → BuildRefuses (Some files) source line → ⊥
  never_unplaced places line (own, has, h) k =
      let b = built_of jack_law files source own places has h in
      built_apart jack_law files source (image_text b.1.words) line (b.0, b.1, b.2, refl) k

  never_without : (places places' : Places) → FolderHasPlaces (Some files) source places → FolderHasPlaces (Some files) source places' → HasStatement places sub number → (HasStatement places' sub number → ⊥) → ⊥
  never_without places places' here here' has none = none (subst (λ (p : Places). HasStatement p sub number) (one_places jack_law files source places places' here here') has)

  debug_refuses : (line line' : List ℕ) → DebugRefuses (Some files) source sub number keys line → DebugRefuses (Some files) source sub number keys line' → line ≡ line'
  debug_refuses line line' (without_image h) (without_image k) = one_line jack_law files source line line' h k
  debug_refuses line line' (without_image h) (without_point places here none e) = absurd (never_unplaced places line here h)
  debug_refuses line line' (without_image h) (without_script places here has k) = absurd (never_unplaced places line here h)
  debug_refuses line line' (without_point places here none e) (without_image k) = absurd (never_unplaced places line' here k)
  debug_refuses line line' (without_point places here none e) (without_point places' here' none' d) = e ∙ sym d
  debug_refuses line line' (without_point places here none e) (without_script places' here' has k) = absurd (never_without places' places here' here has none)
  debug_refuses line line' (without_script places here has h) (without_image k) = absurd (never_unplaced places line' here k)
  debug_refuses line line' (without_script places here has h) (without_point places' here' none d) = absurd (never_without places places' here here' has none)
  debug_refuses line line' (without_script places here has h) (without_script places' here' has' k) = one_script_line key_law files keys line line' h k

  debug_apart : (out line : List ℕ) → DebugPrints (Some files) source sub number cycles keys out → DebugRefuses (Some files) source sub number keys line → ⊥
  debug_apart out line (places, here, has, ls, keyed, is) (without_image k) = never_unplaced places line here k
  debug_apart out line (places, here, has, ls, keyed, is) (without_point places' here' none e) = never_without places places' here here' has none
  debug_apart out line (places, here, has, ls, keyed, is) (without_script places' here' has' k) = never_scripted key_law files keys ls line keyed k

  debug_lacking : (there : List ℕ → Bool) (out : List ℕ) → there source.folder ≡ true → LacksFolder (Some files) there source.folder ⊎ DebugLacks files source sub number keys → DebugPrints (Some files) source sub number cycles keys out → ⊥
  debug_lacking there out has (inl gone) h = not_missing there files source.folder has gone
  debug_lacking there out has (inr (places, here, is, gone)) (places', here', has', ls, keyed, report) = no_keys files keys ls gone keyed

  debug_lacking_refused : (there : List ℕ → Bool) (line : List ℕ) → there source.folder ≡ true → LacksFolder (Some files) there source.folder ⊎ DebugLacks files source sub number keys → DebugRefuses (Some files) source sub number keys line → ⊥
  debug_lacking_refused there line has (inl gone) h = not_missing there files source.folder has gone
  debug_lacking_refused there line has (inr (places, here, is, gone)) (without_image k) = never_unplaced places line here k
  debug_lacking_refused there line has (inr (places, here, is, gone)) (without_point places' here' none e) = never_without places places' here here' is none
  debug_lacking_refused there line has (inr (places, here, is, gone)) (without_script places' here' has' k) = no_script files keys line gone k

pub debug_exact : ClassLaw → KeyLaw → (files : Files) (source : Source) (sub : List ℕ) (number cycles : ℕ) (keys : Option (List ℕ)) → IsExact files (of_classes source (debug sub number cycles keys))
debug_exact jack_law key_law files source sub number cycles keys = record {
  prints = λ one out err out' err' h k. (debug_prints jack_law key_law files source sub number cycles keys out out' h.0 k.0, h.1 ∙ sym k.1);
  refuses = λ out before told out' before' told' h k. (h.0 ∙ sym k.0, debug_refuses jack_law key_law files source sub number cycles keys told told' h.1 k.1, h.2 ∙ sym k.2);
  apart = λ out err out' before told h k. debug_apart jack_law key_law files source sub number cycles keys out told h.0 k.1;
  lacking = λ there has gone out before told. (
    λ h. debug_lacking jack_law key_law files source sub number cycles keys there out has gone h.0,
    λ k. debug_lacking_refused jack_law key_law files source sub number cycles keys there told has gone k.1,
  );
}
