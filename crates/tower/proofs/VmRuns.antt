-- The virtual machine after a drive stands in its run, and with the code of a program its run follows the program's meaning.
use Rattle.std.proofs.Common.{◌≡◌, ◌≢◌, ◌⊎◌, ◌<◌, ◌≤◌, ◌+◌, ℕ, zero, suc, Bool, true, false, List, [], ◌∷◌, ◌++◌, Some, Ok, Err, inl, inr, refl, sym, ◌∙◌, ap, subst, arith}
use Rattle.std.specs.Prelude.{if◌then◌else◌}
use Rattle.std.proofs.lemmas.Bool.{cases_lt}
use Rattle.simulation.specs.Trace.{steps}
use Rattle.machine_io.specs.Driven.{EndsBy, Goes, IsDriven}
use Rattle.machine_io.specs.History.{Turn, moves_from, moves_in, turn}
use Rattle.machine_io.specs.declared.driving.End.{End}
use Rattle.machine_io.specs.declared.driving.End.TheVariants as ends
use Rattle.machine_io.specs.declared.machine.Moved.{Moved}
use Rattle.machine_io.specs.declared.machine.Moved.TheVariants as moved
use Rattle.machine_io.specs.declared.machine.Stray.{Stray as Why}
use Rattle.vm_link.specs.declared.fault.LinkFault.{LinkFault}
use Rattle.vm_link.specs.declared.fault.LinkFault.TheVariants.{Memory}
use Rattle.vm_link.specs.declared.linked.Linked.{Linked}
use Rattle.vm_link.specs.Links.{Links}
use Rattle.vm_link.proofs.Once.{linked_once}
use Rattle.vm_machine.specs.State.{State}
use Rattle.vm_machine.specs.Step.{Outcome, Acts, Strays, Full, Done, start as vm_start}
use Rattle.vm_machine.specs.Level.{is_commit, next_of, state_after}
use Rattle.vm_machine.specs.Loaded.{HasTaken, Leads, LoadedVm, steps_made}
use Rattle.vm_machine.specs.Moves.{answer_of, state_or}
use Rattle.jack_core.specs.declared.program.Core.{Core}
use Rattle.jack_core.specs.Texts.{the_program}
use Rattle.jack_meaning.specs.Gap.{gap as gap_words}
use Rattle.jack_compiler.specs.Files.{files_of}
use Rattle.jack_compiler.specs.Runs.{Moves}
use Rattle.jack_compiler.proofs.Running.{vm_run}
use Rattle.jack_compiler.proofs.Seam.{compiled}
use Rattle.tower.specs.VmRun.{DrivenLaw, HasRun, IsVmCodeOf, MakesMoves, VmEnds, VmLaw, outcome_at, vm_at, vm_trace}

-- ---- answers and outcomes

acted : (s : State) (o : Outcome) → moved.Acted ≡ answer_of o → state_after o ≡ Some (state_or s o)
acted s (Acts heard s') e = refl
acted s (Strays why) e = absurd (let no : ⊥ = cc in no)
acted s (Full w) e = absurd (let no : ⊥ = cc in no)
acted s Done e = absurd (let no : ⊥ = cc in no)

strayed : (why : Why) (o : Outcome) → moved.Stray why ≡ answer_of o → o ≡ Strays why
strayed why (Acts heard s') e = absurd (let no : ⊥ = cc in no)
strayed why (Strays why') e = let same : why' ≡ why = cc in ap Strays same
strayed why (Full w) e = absurd (let no : ⊥ = cc in no)
strayed why Done e = absurd (let no : ⊥ = cc in no)

filled : (words : ℕ) (o : Outcome) → moved.Full words ≡ answer_of o → o ≡ Full words
filled words (Acts heard s') e = absurd (let no : ⊥ = cc in no)
filled words (Strays why) e = absurd (let no : ⊥ = cc in no)
filled words (Full w) e = let same : w ≡ words = cc in ap Full same
filled words Done e = absurd (let no : ⊥ = cc in no)

ended : (o : Outcome) → moved.Done ≡ answer_of o → o ≡ Done
ended (Acts heard s') e = absurd (let no : ⊥ = cc in no)
ended (Strays why) e = absurd (let no : ⊥ = cc in no)
ended (Full w) e = absurd (let no : ⊥ = cc in no)
ended Done e = refl

-- ---- a history of moves is a run

module _ (l : Linked) (keys : ℕ → ℕ) where
  -- the moves from the c-th on are made
  abbrev MakesFrom : ℕ → ℕ → Type 0
  MakesFrom c m = (j : ℕ) → c ≤ j → j < c + m → state_after (outcome_at l keys j) ≡ Some (vm_at l keys (suc j))

  one_more : (c m j : ℕ) → state_after (outcome_at l keys c) ≡ Some (vm_at l keys (suc c)) → MakesFrom (suc c) m → c ≤ j → j < c + suc m
      → (j < suc c) ⊎ (suc c ≤ j) → state_after (outcome_at l keys j) ≡ Some (vm_at l keys (suc j))
  one_more c m j first more from below (inl h) = let same : c ≡ j = omega arith in subst (λ k. state_after (outcome_at l keys k) ≡ Some (vm_at l keys (suc k))) same first
  one_more c m j first more from below (inr h) = more j h (omega arith)

  led : (c m : ℕ) (last : List Turn) (s : State) → Leads l (vm_at l keys c) (moves_from keys c m ++ last) s → MakesFrom c m × Leads l (vm_at l keys (c + m)) last s
  led c zero last s h = (
    λ j from below. absurd (omega arith),
    subst (λ k. Leads l (vm_at l keys k) last s) (let same : c ≡ c + 0 = omega arith in same) h,
  )
  led c (suc m) last s (made, rest) =
      let more = led (suc c) m last s rest in (
        λ j from below. one_more c m j (acted (vm_at l keys c) (outcome_at l keys c) made) more.0 from below (cases_lt j (suc c)),
        subst (λ k. Leads l (vm_at l keys k) last s) (let same : suc c + m ≡ c + suc m = omega arith in same) more.1,
      )

  -- a commit that acts is one step of the meaning
  step_counted : (b : Bool) (n k : ℕ) → n + ((if b then 1 else 0) + k) ≡ (if b then suc n else n) + k
  step_counted true n k = omega arith
  step_counted false n k = omega arith

  counted : (c m : ℕ) (last : List Turn) → steps (vm_trace l keys) c + steps_made l (vm_at l keys c) (moves_from keys c m ++ last)
      ≡ steps (vm_trace l keys) (c + m) + steps_made l (vm_at l keys (c + m)) last
  counted c zero last =
      ap (λ k. steps (vm_trace l keys) k + steps_made l (vm_at l keys k) last) (let same : c ≡ c + 0 = omega arith in same)
  counted c (suc m) last =
      step_counted (is_commit (next_of l (vm_at l keys c).frames)) (steps (vm_trace l keys) c) (steps_made l (vm_at l keys (suc c)) (moves_from keys (suc c) m ++ last))
      ∙ counted (suc c) m last
      ∙ ap (λ k. steps (vm_trace l keys) k + steps_made l (vm_at l keys k) last) (let same : suc c + m ≡ c + suc m = omega arith in same)

  -- the same of m moves from the start
  pub led_all : (m : ℕ) (last : List Turn) (s : State) → Leads l vm_start (moves_from keys 0 m ++ last) s → MakesMoves l keys m × Leads l (vm_at l keys m) last s
  led_all m last s h =
      let r = led 0 m last s h in (
        λ c below. r.0 c (omega arith) (omega arith),
        subst (λ k. Leads l (vm_at l keys k) last s) (let same : 0 + m ≡ m = omega arith in same) r.1,
      )

  pub counted_all : (m : ℕ) (last : List Turn) → steps_made l vm_start (moves_from keys 0 m ++ last) ≡ steps (vm_trace l keys) m + steps_made l (vm_at l keys m) last
  counted_all m last =
      (let none : steps_made l vm_start (moves_from keys 0 m ++ last) ≡ 0 + steps_made l vm_start (moves_from keys 0 m ++ last) = omega arith in none)
      ∙ counted 0 m last
      ∙ ap (λ k. steps (vm_trace l keys) k + steps_made l (vm_at l keys k) last) (let same : 0 + m ≡ m = omega arith in same)

-- ---- after a drive

-- an answer that is no move counts no step
none_counted : (b : Bool) (answer : Moved) → moves_in answer ≡ 0 → (if b then moves_in answer else 0) + 0 ≡ 0
none_counted true answer e = omega (arith, e)
none_counted false answer e = omega arith

-- and leaves the state as it is
stayed : (s : State) (o : Outcome) (answer : Moved) → answer ≡ answer_of o → moves_in answer ≡ 0 → state_or s o ≡ s
stayed s (Acts heard s') answer e none = absurd (let one : moves_in answer ≡ 1 = ap moves_in e in omega (arith, one, none))
stayed s (Strays why) answer e none = refl
stayed s (Full w) answer e none = refl
stayed s Done answer e none = refl

module _ (keys : ℕ → ℕ) (old new : LoadedVm) (n : ℕ) (begun : HasTaken old []) where
  -- m moves were made
  run_with : (m : ℕ) (end : End) → new.moves ≡ m → MakesMoves new.linked keys m → new.state ≡ vm_at new.linked keys m → new.steps ≡ steps (vm_trace new.linked keys) m
      → VmEnds new.linked keys n m end → HasRun new keys n end
  run_with m end at made state count ends = record {
    made = subst (MakesMoves new.linked keys) (sym at) made;
    state = state ∙ ap (vm_at new.linked keys) (sym at);
    counted = count ∙ ap (steps (vm_trace new.linked keys)) (sym at);
    ends = subst (λ k. VmEnds new.linked keys n k end) (sym at) ends;
  }

  by_bound : Goes keys (HasTaken old) old.moves n [] (HasTaken new) new.moves → HasRun new keys n ends.Bound
  by_bound goes =
      let first : old.moves ≡ 0 = begun.moves in
      let counts = goes.counts in
      let h : HasTaken new (moves_from keys 0 n ++ []) = subst (λ c. HasTaken new (moves_from keys c n ++ [])) first (goes.leads [] begun) in
      let r = led_all new.linked keys n [] new.state h.state in
      let count = h.steps ∙ counted_all new.linked keys n [] in
      run_with n ends.Bound (omega (arith, first, counts)) r.0 r.1 (omega (arith, count)) refl

  -- an answer that is no move, after m moves
  record IsStopped (answer : Moved) (m : ℕ) : Type 0 where
    below : m < n
    moves : new.moves ≡ m
    made : MakesMoves new.linked keys m
    state : new.state ≡ vm_at new.linked keys m
    count : new.steps ≡ steps (vm_trace new.linked keys) m
    answers : answer ≡ answer_of (outcome_at new.linked keys m)

  by_answer : (answer : Moved) → moves_in answer ≡ 0 → EndsBy keys (HasTaken old) old.moves n answer (HasTaken new) new.moves → (m : ℕ) × IsStopped answer m
  by_answer answer none (m, below, goes) =
      let first : old.moves ≡ 0 = begun.moves in
      let counts = goes.counts in
      let h : HasTaken new (moves_from keys 0 m ++ turn (keys m) answer ∷ []) =
      subst (λ k. HasTaken new (moves_from keys 0 m ++ turn (keys k) answer ∷ [])) (let same : 0 + m ≡ m = omega arith in same)
      (subst (λ c. HasTaken new (moves_from keys c m ++ turn (keys (c + m)) answer ∷ [])) first (goes.leads [] begun)) in
      let r = led_all new.linked keys m (turn (keys m) answer ∷ []) new.state h.state in
      let count = h.steps ∙ counted_all new.linked keys m (turn (keys m) answer ∷ []) in
      let nothing = none_counted (is_commit (next_of new.linked (vm_at new.linked keys m).frames)) answer none in (
        m,
        record {
          below = below;
          moves = omega (arith, first, counts);
          made = r.0;
          state = r.1.1 ∙ stayed (vm_at new.linked keys m) (outcome_at new.linked keys m) answer r.1.0 none;
          count = omega (arith, count, nothing);
          answers = r.1.0;
        },
      )

  pub ran : (end : End) → IsDriven keys (HasTaken old) old.moves n end (HasTaken new) new.moves → HasRun new keys n end
  ran ends.Bound goes = by_bound goes
  ran (ends.Stray why) by =
      let (m, r) = by_answer (moved.Stray why) refl by in
      run_with m (ends.Stray why) r.moves r.made r.state r.count (r.below, strayed why (outcome_at new.linked keys m) r.answers)
  ran (ends.Full words) by =
      let (m, r) = by_answer (moved.Full words) refl by in
      run_with m (ends.Full words) r.moves r.made r.state r.count (r.below, filled words (outcome_at new.linked keys m) r.answers)
  ran ends.Done by =
      let (m, r) = by_answer moved.Done refl by in
      run_with m ends.Done r.moves r.made r.state r.count (r.below, ended (outcome_at new.linked keys m) r.answers)

pub driven : DrivenLaw
driven keys old new n end begun goes = ran keys old new n begun end goes

-- ---- the code of a program

-- a move leads to the state after it
made_next : (s s' : State) (o : Outcome) → state_after o ≡ Some s' → state_or s o ≡ s'
made_next s s' (Acts heard s'') e = cc
made_next s s' (Strays why) e = absurd (let no : ⊥ = cc in no)
made_next s s' (Full w) e = absurd (let no : ⊥ = cc in no)
made_next s s' Done e = absurd (let no : ⊥ = cc in no)

pub follows : VmLaw
follows core linked resolved links keys words n made =
    let program = the_program core in
    let code = compiled.linked core linked resolved links in
    let run : Moves linked keys (vm_at linked keys) n = record { begins = refl; key_words = words; moves = made } in
    record {
      agrees = vm_run.agrees program code.numbers linked code.depth code.most_locals code.fits code.code keys (vm_at linked keys) n run;
      answers = vm_run.answers program code.numbers linked code.depth code.most_locals code.fits code.code keys (vm_at linked keys) n run;
      moves_on = vm_run.moves_on program code.numbers linked code.depth code.most_locals code.fits code.code keys (vm_at linked keys) n run;
      most = gap_words code.depth code.most_locals;
      gap = record { depth = code.depth; most_locals = code.most_locals; deepest = code.deepest; most = code.most; sum = refl };
      goes_on = λ tame.
          let (k, few, moves, less) = vm_run.goes_on program code.numbers linked code.depth code.most_locals code.fits code.code keys (vm_at linked keys) n (λ c s made. made_next (vm_at linked keys c) s (outcome_at linked keys c) made) run tame in
          (k, few, moves.moves, less);
    }

-- ---- what is built was linked

-- so that linking has no fault
pub no_fault : (core : Core) (linked : Linked) (fault : LinkFault) → IsVmCodeOf core linked → Links false (files_of core) (Err fault) → fault ≢ Memory → ⊥
no_fault core linked fault links refused other =
    let same : Ok linked ≡ Err fault = linked_once false (files_of core) (Ok linked) (Err fault) links refused (λ e. let no : ⊥ = cc in no) (λ e. other (let is : fault ≡ Memory = cc in is)) in
    let no : ⊥ = cc in no
