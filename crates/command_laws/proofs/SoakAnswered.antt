-- A line of `soak` has an answer: whether the levels agree can be found out.
use Rattle.std.proofs.Common.{◌≡◌, ◌≤◌, ◌<◌, ◌+◌, ◌==◌, ◌↔◌, ◌⊎◌, inl, inr, ℕ, zero, suc, Bool, true, false, [], List, Option, Some, None, refl, sym, ap, subst, arith}
use Rattle.std.proofs.lemmas.Bool.{cases_lt, eqb-false}
use Rattle.std.proofs.lemmas.Bool.Decides.{Decides-eqb}
use Rattle.outer_world.specs.Files.{Files}
use Rattle.outer_world.specs.declared.point.Point.{Point}
use Rattle.simulation.specs.Trace.{Trace, point_at, steps}
use Rattle.machine_io.specs.declared.report.Show.TheVariants.{Nothing}
use Rattle.key_script.specs.Codes.{code_at}
use Rattle.key_script.specs.declared.lines.Line.{Line as KeyLine}
use Rattle.jack_meaning.specs.Meaning.{State, start}
use Rattle.jack_core.specs.declared.program.Core.{Core}
use Rattle.jack_core.specs.Texts.{the_program}
use Rattle.vm_link.specs.declared.linked.Linked.{Linked}
use Rattle.vm_machine.specs.State.{State as VmState}
use Rattle.vm_machine.specs.Step.{Outcome, Acts, Strays, Full, Done}
use Rattle.vm_machine.specs.Level.{state_after}
use Rattle.vm_machine.specs.Moves.{state_or}
use Rattle.hdl_tree.specs.Behaviour.{Histories}
use Rattle.image_map.specs.declared.map.Image.{Image}
use Rattle.image_map.specs.Map.{the_map}
use Rattle.image_map.specs.Computer.{run_word}
use Rattle.gate_computer.specs.Computer.{IsComputer}
use Rattle.gate_computer.proofs.Seen.{seen}
use Rattle.tower.specs.Image.{IsImageOf}
use Rattle.tower.specs.VmRun.{MakesMoves, outcome_at, vm_at, vm_trace, vm_word}
use Rattle.soak_program.specs.Generator.{IsProgram, first_state}
use Rattle.soak_program.specs.Laws.{OneTextLaw}
use Rattle.command_line.specs.Line.{of_classes, run, soak}
use Rattle.command_line.specs.declared.request.RunLevel.TheVariants.{Gates}
use Rattle.command_line.specs.declared.request.Shown.TheVariants.{Words}
use Rattle.nand_cli.specs.Commands.Build.{BuildRefuses}
use Rattle.nand_cli.specs.Commands.Build as building
use Rattle.nand_cli.specs.Commands.Gates.{meaning_in}
use Rattle.nand_cli.specs.Commands.Run as running
use Rattle.nand_cli.specs.Commands.Run.{trace_in}
use Rattle.nand_cli.specs.Commands.Soak.{AreOutcomes, HasNoImage, HasOutcome, IsOutcome, More, None as NoOutcomes, Shows, SoakRefuses, cycles, most_moves, soak_files, soak_source, summary_text, word_sum, words}
use Rattle.nand_cli.specs.Commands.SoakLevels.{AreAlike, AreLevelsAlike, AtFirst, BehindCommit, IsAtJack, IsAtVm, IsJustAfter, View, after_steps, gates_view, hack_view, no_keys, silent_trace}
use Rattle.nand_cli.proofs.SoakSums.{same_sum, words_are}
use Rattle.nand_cli.proofs.SoakViews.{levels_too}
use Rattle.nand_cli.proofs.SoakVm.{counts, one_code}
use Rattle.command_laws.specs.Answered.{ClassesAnsweredLaw, HasAnswer, SoakAnsweredLaw}

abbrev Decided : Type 0 → Type 0
Decided P = P ⊎ (P → ⊥)

-- ---- views

words_by : (v w : ℕ → ℕ) (n : ℕ) (b : Bool) → (v (2048 + n) == w (2048 + n)) ≡ b → Decided ((a : ℕ) → 2048 ≤ a → a < 2048 + n → v a ≡ w a) → Decided ((a : ℕ) → 2048 ≤ a → a < 2048 + suc n → v a ≡ w a)
words_by v w n b e (inr never) = inr (λ all. never (λ a from_on below. all a from_on (omega (arith, below))))
words_by v w n false e (inl h) = inr (λ all. eqb-false (v (2048 + n)) (w (2048 + n)) e (all (2048 + n) (omega arith) (omega arith)))
words_by v w n true e (inl h) = inl (λ a from_on below. by a from_on below (cases_lt a (2048 + n)))
  where
    by : (a : ℕ) → 2048 ≤ a → a < 2048 + suc n → (a < 2048 + n) ⊎ (2048 + n ≤ a) → v a ≡ w a
    by a from_on below (inl low) = h a from_on low
    by a from_on below (inr up) = let same : 2048 + n ≡ a = omega (arith, below, up) in subst (λ (k : ℕ). v k ≡ w k) same ((Decides-eqb (v (2048 + n)) (w (2048 + n))).0 e)

words_same : (v w : ℕ → ℕ) (n : ℕ) → Decided ((a : ℕ) → 2048 ≤ a → a < 2048 + n → v a ≡ w a)
words_same v w zero = inl (λ a from_on below. absurd (omega (arith, from_on, below)))
words_same v w (suc n) = words_by v w n (v (2048 + n) == w (2048 + n)) refl (words_same v w n)

point_by : (p q : Point) (b c : Bool) → (p.sub == q.sub) ≡ b → (p.number == q.number) ≡ c → Decided (Some p ≡ Some q)
point_by p q true true e d = inl (λ i. Some (record { sub = (Decides-eqb p.sub q.sub).0 e i; number = (Decides-eqb p.number q.number).0 d i }))
point_by p q false c e d = inr (λ h. let same : p ≡ q = cc in eqb-false p.sub q.sub e (ap (λ (r : Point). r.sub) same))
point_by p q true false e d = inr (λ h. let same : p ≡ q = cc in eqb-false p.number q.number d (ap (λ (r : Point). r.number) same))

point_same : (o p : Option Point) → Decided (o ≡ p)
point_same None None = inl refl
point_same None (Some q) = inr (λ e. let no : ⊥ = cc in no)
point_same (Some p) None = inr (λ e. let no : ⊥ = cc in no)
point_same (Some p) (Some q) = point_by p q (p.sub == q.sub) (p.number == q.number) refl refl

alike_by : (v w : View) → Decided ((a : ℕ) → 2048 ≤ a → a < 24576 → v.word a ≡ w.word a) → Decided (v.point ≡ w.point) → Decided (AreAlike v w)
alike_by v w (inr never) p = inr (λ h. never (λ a from_on below. h.words a (from_on, below)))
alike_by v w (inl h) (inr never) = inr (λ k. never k.point)
alike_by v w (inl h) (inl e) = inl (record { words = λ a d. h a d.0 d.1; point = e })

all_words : (v w : ℕ → ℕ) (n : ℕ) → n ≡ 22528 → Decided ((a : ℕ) → 2048 ≤ a → a < 2048 + n → v a ≡ w a) → Decided ((a : ℕ) → 2048 ≤ a → a < 24576 → v a ≡ w a)
all_words v w n e (inl h) = inl (λ a from_on below. h a from_on (omega (arith, below, e)))
all_words v w n e (inr never) = inr (λ h. never (λ a from_on below. h a from_on (omega (arith, below, e))))

alike : (v w : View) → Decided (AreAlike v w)
alike v w = alike_by v w (all_words v.word w.word words words_are (words_same v.word w.word words)) (point_same v.point w.point)

-- ---- level jack

module _ (core : Core) (m : ℕ) (v : View) where
  jack_there : (s : State) → after_steps (meaning_in core) (start (the_program core)) m ≡ Some s → Decided (AreAlike v (record { word = (meaning_in core).word s; point = (meaning_in core).point s })) → Decided (IsAtJack core m v)
  jack_there s e (inl h) = inl (record { state = s; after = e; alike = h })
  jack_there s e (inr never) = inr (λ h.
      let found : after_steps (meaning_in core) (start (the_program core)) m ≡ Some h.state = h.after in
      let same : h.state ≡ s = cc in
      never (subst (λ (t : State). AreAlike v (record { word = (meaning_in core).word t; point = (meaning_in core).point t })) same h.alike))

  jack_by : (o : Option State) → after_steps (meaning_in core) (start (the_program core)) m ≡ o → Decided (IsAtJack core m v)
  jack_by (Some s) e = jack_there s e (alike v (record { word = (meaning_in core).word s; point = (meaning_in core).point s }))
  jack_by None e = inr (λ h.
      let found : after_steps (meaning_in core) (start (the_program core)) m ≡ Some h.state = h.after in
      let no : ⊥ = cc in no)

  at_jack : Decided (IsAtJack core m v)
  at_jack = jack_by (after_steps (meaning_in core) (start (the_program core)) m) refl

-- ---- level vm

-- the first numbers, of one of which something holds
some_by : (P : ℕ → Type 0) (n : ℕ) → ((k : ℕ) × (k ≤ n) × P k) ⊎ ((k : ℕ) → k ≤ n → P k → ⊥) → Decided (P (suc n)) → ((k : ℕ) × (k ≤ suc n) × P k) ⊎ ((k : ℕ) → k ≤ suc n → P k → ⊥)
some_by P n (inl (k, few, h)) last = inl (k, omega (arith, few), h)
some_by P n (inr none) (inl h) = inl (suc n, omega arith, h)
some_by P n (inr none) (inr never) = inr (λ k few h. by k few h (cases_lt n k))
  where
    by : (k : ℕ) → k ≤ suc n → P k → (n < k) ⊎ (k ≤ n) → ⊥
    by k few h (inl up) = let same : k ≡ suc n = omega (arith, few, up) in never (subst P same h)
    by k few h (inr low) = none k low h

some_up_to : (P : ℕ → Type 0) → ((k : ℕ) → Decided (P k)) → (n : ℕ) → ((k : ℕ) × (k ≤ n) × P k) ⊎ ((k : ℕ) → k ≤ n → P k → ⊥)
some_up_to P decide zero = elim (decide 0) [
  | inl h ↦ inl (0, omega arith, h)
  | inr never ↦ inr (λ k few h. let same : k ≡ 0 = omega (arith, few) in never (subst P same h))
]
some_up_to P decide (suc n) = some_by P n (some_up_to P decide n) (decide (suc n))

both : (P Q : Type 0) → Decided P → Decided Q → Decided (P × Q)
both P Q (inl p) (inl q) = inl (p, q)
both P Q (inr never) q = inr (λ h. never h.0)
both P Q (inl p) (inr never) = inr (λ h. never h.1)

acts : (s : VmState) (o : Outcome) → (state_after o ≡ Some (state_or s o)) ⊎ ((t : VmState) → state_after o ≡ Some t → ⊥)
acts s (Acts heard t) = inl refl
acts s (Strays why) = inr (λ t e. let no : ⊥ = cc in no)
acts s (Full w) = inr (λ t e. let no : ⊥ = cc in no)
acts s Done = inr (λ t e. let no : ⊥ = cc in no)

module _ (linked : Linked) where
  makes_by : (k : ℕ) → Decided (MakesMoves linked no_keys k) → (state_after (outcome_at linked no_keys k) ≡ Some (vm_at linked no_keys (suc k))) ⊎ ((t : VmState) → state_after (outcome_at linked no_keys k) ≡ Some t → ⊥)
      → Decided (MakesMoves linked no_keys (suc k))
  makes_by k (inr never) last = inr (λ h. never (λ c below. h c (omega (arith, below))))
  makes_by k (inl h) (inr never) = inr (λ all. never (vm_at linked no_keys (suc k)) (all k (omega arith)))
  makes_by k (inl h) (inl last) = inl (λ c below. by c below (cases_lt c k))
    where
      by : (c : ℕ) → c < suc k → (c < k) ⊎ (k ≤ c) → state_after (outcome_at linked no_keys c) ≡ Some (vm_at linked no_keys (suc c))
      by c below (inl low) = h c low
      by c below (inr up) = let same : k ≡ c = omega (arith, below, up) in subst (λ (j : ℕ). state_after (outcome_at linked no_keys j) ≡ Some (vm_at linked no_keys (suc j))) same last

  makes : (k : ℕ) → Decided (MakesMoves linked no_keys k)
  makes zero = inl (λ c below. absurd (omega (arith, below)))
  makes (suc k) = makes_by k (makes k) (acts (vm_at linked no_keys k) (outcome_at linked no_keys k))

commits_there : (t : Trace) (m k : ℕ) → IsJustAfter t m k → (j : ℕ) → k ≡ suc j → t.commits j ≡ true
commits_there t m k AtFirst j e = absurd (omega (arith, e))
commits_there t m k (BehindCommit i c) j e = let same : i ≡ j = omega (arith, e) in subst (λ (x : ℕ). t.commits x ≡ true) same c

module _ (t : Trace) (m : ℕ) where
  behind_by : (j : ℕ) (b c : Bool) → t.commits j ≡ b → (steps t (suc j) == m) ≡ c → Decided (IsJustAfter t m (suc j))
  behind_by j true true e d = inl (subst (λ (n : ℕ). IsJustAfter t n (suc j)) ((Decides-eqb (steps t (suc j)) m).0 d) (BehindCommit j e))
  behind_by j true false e d = inr (λ h. eqb-false (steps t (suc j)) m d (counts t m (suc j) h))
  behind_by j false c e d = inr (λ h. let commit : t.commits j ≡ true = commits_there t m (suc j) h j refl in let no : ⊥ = cc in no)

  first_by : (b : Bool) → (0 == m) ≡ b → Decided (IsJustAfter t m 0)
  first_by true e = inl (subst (λ (n : ℕ). IsJustAfter t n 0) ((Decides-eqb 0 m).0 e) AtFirst)
  first_by false e = inr (λ h. eqb-false 0 m e (counts t m 0 h))

  behind : (k : ℕ) → Decided (IsJustAfter t m k)
  behind zero = first_by (0 == m) refl
  behind (suc j) = behind_by j (t.commits j) (steps t (suc j) == m) refl refl

module _ (core : Core) (image : Image) (is : IsImageOf core image) (bound m : ℕ) (v : View) where
  abbrev l : Linked
  l = is.linked

  abbrev place_view : ℕ → View
  place_view k = record { word = vm_word l no_keys k; point = point_at (vm_trace l no_keys) k }

  abbrev IsThere : ℕ → Type 0
  IsThere k = (MakesMoves l no_keys k × IsJustAfter (vm_trace l no_keys) m k) × AreAlike v (place_view k)

  there : (k : ℕ) → Decided (IsThere k)
  there k = both _ _ (both _ _ (makes l k) (behind (vm_trace l no_keys) m k)) (alike v (place_view k))

  vm_by : ((k : ℕ) × (k ≤ bound) × IsThere k) ⊎ ((k : ℕ) → k ≤ bound → IsThere k → ⊥) → Decided (IsAtVm core bound m v)
  vm_by (inl (k, few, ((made, after), same))) = inl (record { linked = l; is_code = is.links; moves = k; few = few; made = made; behind = after; alike = same })
  vm_by (inr none) = inr (λ h.
      let one : h.linked ≡ l = one_code core h.linked l h.is_code is.links in
      let P : Linked → Type 0 = λ x. (MakesMoves x no_keys h.moves × IsJustAfter (vm_trace x no_keys) m h.moves) × AreAlike v (record { word = vm_word x no_keys h.moves; point = point_at (vm_trace x no_keys) h.moves }) in
      none h.moves h.few (subst P one ((h.made, h.behind), h.alike)))

  at_vm : Decided (IsAtVm core bound m v)
  at_vm = vm_by (some_up_to IsThere there bound)

-- ---- all levels

module _ (core : Core) (image : Image) (is : IsImageOf core image) (n bound m : ℕ) (v : View) where
  levels_by : Decided (AreAlike v (hack_view image n)) → Decided (IsAtJack core m v) → Decided (IsAtVm core bound m v) → Decided (AreLevelsAlike core image n bound m v)
  levels_by (inl h) (inl j) (inl k) = inl (record { at_hack = h; at_jack = j; at_vm = k })
  levels_by (inr never) j k = inr (λ all. never all.at_hack)
  levels_by (inl h) (inr never) k = inr (λ all. never all.at_jack)
  levels_by (inl h) (inl j) (inr never) = inr (λ all. never all.at_vm)

  levels : Decided (AreLevelsAlike core image n bound m v)
  levels = levels_by (alike v (hack_view image n)) (at_jack core m v) (at_vm core image is bound m v)

  told_by : Decided (AreLevelsAlike core image n bound m v) → (b : Bool) × ((b ≡ true) ↔ AreLevelsAlike core image n bound m v)
  told_by (inl h) = (true, (λ e. h, λ k. refl))
  told_by (inr never) = (false, (λ e. let bad : ⊥ = cc in absurd bad, λ k. absurd (never k)))

  told : (b : Bool) × ((b ≡ true) ↔ AreLevelsAlike core image n bound m v)
  told = told_by levels

-- what each behaviour shows is what the instruction machine shows
module _ (core : Core) (image : Image) (is : IsImageOf core image) (n bound : ℕ) (behaves : (k : ℕ) → (wires : List ℕ → Histories) × IsComputer image.words no_keys k wires) where
  told_here : (b : Bool) × ((b ≡ true) ↔ AreLevelsAlike core image n bound (steps (trace_in image no_keys) n) (hack_view image n))
  told_here = told core image is n bound (steps (trace_in image no_keys) n) (hack_view image n)

  shown : (k : ℕ) (wires : List ℕ → Histories) → n < k → IsComputer image.words no_keys k wires → Shows core image n bound (steps (trace_in image no_keys) n) (word_sum (run_word image.words no_keys n)) told_here.0 wires
  shown k wires near computer =
      let same = seen image.words (the_map image.map) no_keys k wires computer n near in
      let here = gates_view image n wires in
      let there = hack_view image n in
      let alike_here : AreAlike here there = record { words = λ a d. same.words a d.1; point = same.counts.point_is } in
      let alike_there : AreAlike there here = record { words = λ a d. sym (same.words a d.1); point = sym same.counts.point_is } in
      let count : steps (trace_in image no_keys) n ≡ steps (silent_trace image wires) n = sym same.counts.steps_are in
      record {
        counted = count;
        summed = same_sum _ _ (λ a from_on below. sym (same.words a below));
        told = (
          λ e. subst (λ (j : ℕ). AreLevelsAlike core image n bound j here) count (levels_too there here alike_here core image n bound _ (told_here.1.0 e)),
          λ h. told_here.1.1 (levels_too here there alike_there core image n bound _ (subst (λ (j : ℕ). AreLevelsAlike core image n bound j here) (sym count) h)),
        );
      }

  some_outcome : (steps' : ℕ) × (sum : ℕ) × (b : Bool) × IsOutcome core n bound steps' sum b
  some_outcome = (steps (trace_in image no_keys) n, word_sum (run_word image.words no_keys n), told_here.0, record { image = image; is_image = is; behaves = behaves; shows = shown })

-- ---- a program

module _ (classes : ClassesAnsweredLaw) (texts : OneTextLaw) (seed : ℕ) where
  abbrev Told : ℕ → Type 0
  Told number = ((m : ℕ) × (w : ℕ) × (b : Bool) × HasOutcome seed number m w b) ⊎ ((line : List ℕ) × HasNoImage seed number line)

  no_line : (ls : List KeyLine) → ls ≡ [] → (c : ℕ) → code_at ls c ≡ no_keys c
  no_line ls e c = ap (λ ks. code_at ks c) e

  of_run : (number : ℕ) (text : List ℕ) → IsProgram seed number text → HasAnswer (λ folder. true) (soak_files text) (of_classes soak_source (run (Gates (Words Nothing)) 0 None)) → Told number
  of_run number text is (inl (out, err, ((core, ls, means, built, keys, report), none))) =
      let silent : code_at ls ≡ no_keys = λ i c. no_line ls keys c i in
      let behaves = subst (λ (code : ℕ → ℕ). (k : ℕ) → (wires : List ℕ → Histories) × IsComputer report.image.words code k wires) silent report.behaves in
      let some = some_outcome core report.image report.is_image cycles most_moves behaves in
      inl (some.0, some.1, some.2, record { text = text; generated = is; core = core; means = means; outcome = some.3 })
  of_run number text is (inr (inl (out, before, line, (none, refused, nothing)))) = inr (line, record { text = text; generated = is; refused = of_refused refused })
    where
      of_refused : running.RunRefuses (Some (soak_files text)) soak_source None line → BuildRefuses (Some (soak_files text)) soak_source line
      of_refused (running.without_program h) = building.without_program h
      of_refused (running.unbuilt core means h) = building.unbuilt core means h
      of_refused (running.without_script core means built h) = absurd h
  of_run number text is (inr (inr (inl gone))) = absurd (let wrong : true ≡ false = gone.0 in let no : ⊥ = cc in no)
  of_run number text is (inr (inr (inr (core, means, built, gone)))) = absurd gone

  program_told : (number : ℕ) → Told number
  program_told number =
      let (text, after, generated) = texts.some (first_state seed number) in
      of_run number text (record { after = after; generated = generated }) (classes (λ folder. true) (soak_files text) soak_source (run (Gates (Words Nothing)) 0 None))

  -- the first programs have outcomes, or one of them has no image
  abbrev FirstTold : ℕ → Type 0
  FirstTold count = ((agree : ℕ) × (all : ℕ) × (sum : ℕ) × AreOutcomes seed count agree all sum) ⊎ ((line : List ℕ) × SoakRefuses seed count line)

  next_told : (count : ℕ) → FirstTold count → Told (suc count) → FirstTold (suc count)
  next_told count (inr (line, h)) one =
      inr (line, record { before = h.before; agree = h.agree; all = h.all; sum = h.sum; outcomes = h.outcomes; within = (let below = h.within in omega (arith, below)); refused = h.refused })
  next_told count (inl (agree, all, sum, h)) (inl (m, w, b, one)) = inl (_, _, _, More h one)
  next_told count (inl (agree, all, sum, h)) (inr (line, one)) = inr (line, record { before = count; agree = agree; all = all; sum = sum; outcomes = h; within = omega arith; refused = one })

  first_told : (count : ℕ) → FirstTold count
  first_told zero = inl (0, 0, 0, NoOutcomes)
  first_told (suc count) = next_told count (first_told count) (program_told (suc count))

  line_told : (there : List ℕ → Bool) (files : Files) (count : ℕ) → FirstTold count → HasAnswer there files (soak seed count)
  line_told there files count (inl (agree, all, sum, h)) = inl (summary_text seed count agree all sum, [], (record { agree = agree; all = all; sum = sum; outcomes = h; is_text = refl }, refl))
  line_told there files count (inr (line, h)) = inr (inl ([], [], line, (refl, h, refl)))

pub soak_answered : ClassesAnsweredLaw → OneTextLaw → SoakAnsweredLaw
soak_answered classes texts there files seed count = line_told classes texts seed there files count (first_told classes texts seed count)
