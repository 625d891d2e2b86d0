-- The virtual machine on its way to the place after a commit.
use Rattle.std.proofs.Common.{◌≡◌, ◌<◌, ◌≤◌, ◌+◌, ◌-◌, ◌⊎◌, ℕ, zero, suc, Bool, true, false, [], Some, Ok, inl, inr, refl, sym, ap, subst, ◌∙◌, arith}
use Rattle.std.specs.Prelude.{if◌then◌else◌, slice_index}
use Rattle.std.proofs.lemmas.Bool.{cases_lt}
use Rattle.outer_world.specs.declared.point.Point.{Point}
use Rattle.simulation.specs.Trace.{Trace, point_at, steps}
use Rattle.machine_io.specs.Reading.{Reading, ShowSame}
use Rattle.machine_io.specs.declared.machine.Moved.{Moved}
use Rattle.machine_io.specs.declared.machine.Moved.TheVariants as moved
use Rattle.vm_link.specs.declared.linked.Linked.{Linked}
use Rattle.vm_link.proofs.Once.{linked_once}
use Rattle.vm_machine.specs.State.{State}
use Rattle.vm_machine.specs.Step.{Outcome, Acts, Strays, Full, Done, step}
use Rattle.vm_machine.specs.Level.{is_commit, next_of, point_of, state_after}
use Rattle.vm_machine.specs.Loaded.{HasTaken, LoadedVm, steps_in}
use Rattle.vm_machine.specs.Moves.{Makes, answer_of, state_or}
use Rattle.jack_core.specs.declared.program.Core.{Core}
use Rattle.jack_compiler.specs.Files.{files_of}
use Rattle.tower.specs.VmRun.{IsVmCodeOf, MakesMoves, outcome_at, vm_at, vm_trace, vm_word}
use Rattle.nand_cli.specs.Commands.SoakLevels.{AreAlike, AtFirst, BehindCommit, IsAtVm, IsJustAfter, View, no_keys}
use Rattle.nand_cli.specs.Inner.SoakParts.{IsBehindCommit, NeverComes}
use Rattle.nand_cli.proofs.OnVm.{seen_at}
use Rattle.nand_cli.proofs.SoakViews.{IsViewOf, from_alike, to_alike}

-- ---- the places after commits of a trace

pub counts : (t : Trace) (m k : ℕ) → IsJustAfter t m k → steps t k ≡ m
counts t m k AtFirst = refl
counts t m k (BehindCommit j e) = refl

if_commit : (b : Bool) (n : ℕ) → b ≡ true → (if b then suc n else n) ≡ suc n
if_commit true n e = refl
if_commit false n e = let no : ⊥ = cc in absurd no

if_none : (b : Bool) (n : ℕ) → b ≡ false → (if b then suc n else n) ≡ n
if_none true n e = let no : ⊥ = cc in absurd no
if_none false n e = refl

no_less : (b : Bool) (n : ℕ) → n ≤ (if b then suc n else n)
no_less true n = omega arith
no_less false n = omega arith

module _ (t : Trace) where
  -- the steps rise
  rise_by : (k n : ℕ) → (k ≤ n → steps t k ≤ steps t n) → (n < k) ⊎ (k ≤ n) → k ≤ suc n → steps t k ≤ steps t (suc n)
  rise_by k n go (inl h) le = subst (λ (j : ℕ). steps t k ≤ steps t j) (let same : k ≡ suc n = omega (arith, h, le) in same) (omega arith)
  rise_by k n go (inr h) le = let a = go h in let b = no_less (t.commits n) (steps t n) in omega (arith, a, b)

  rise : (k n : ℕ) → k ≤ n → steps t k ≤ steps t n
  rise k zero le = subst (λ (j : ℕ). steps t j ≤ steps t 0) (let same : 0 ≡ k = omega (arith, le) in same) (omega arith)
  rise k (suc n) le = rise_by k n (λ h. rise k n h) (cases_lt n k) le

  -- before such a place there were fewer
  fewer : (m k : ℕ) → IsJustAfter t m k → (j : ℕ) → j < k → steps t j < m
  fewer m k AtFirst j below = absurd (omega (arith, below))
  fewer m k (BehindCommit i e) j below =
      let a = rise j i (omega (arith, below)) in let b = if_commit (t.commits i) (steps t i) e in omega (arith, a, b)

  same_by : (m j k : ℕ) → IsJustAfter t m j → IsJustAfter t m k → (j < k) ⊎ (k ≤ j) → (k < j) ⊎ (j ≤ k) → j ≡ k
  same_by m j k h g (inl low) other = absurd (let a = fewer m k g j low in let b = counts t m j h in omega (arith, a, b))
  same_by m j k h g (inr a) (inl low) = absurd (let c = fewer m j h k low in let b = counts t m k g in omega (arith, c, b))
  same_by m j k h g (inr a) (inr b) = omega (arith, a, b)

  pub one_place : (m j k : ℕ) → IsJustAfter t m j → IsJustAfter t m k → j ≡ k
  one_place m j k h g = same_by m j k h g (cases_lt j k) (cases_lt k j)

  -- the first place with this many steps is one
  behind_by : (m j : ℕ) (b : Bool) → t.commits j ≡ b → steps t (suc j) ≡ m → (steps t j ≡ m → ⊥) → IsJustAfter t m (suc j)
  behind_by m j true e count before = subst (λ (n : ℕ). IsJustAfter t n (suc j)) count (BehindCommit j e)
  behind_by m j false e count before = absurd (before (sym (if_none (t.commits j) (steps t j) e) ∙ count))

  first_place : (m k : ℕ) → steps t k ≡ m → ((j : ℕ) → j < k → steps t j ≡ m → ⊥) → IsJustAfter t m k
  first_place m zero count before = subst (λ (n : ℕ). IsJustAfter t n 0) count AtFirst
  first_place m (suc j) count before = behind_by m j (t.commits j) refl count (before j (omega arith))

-- ---- on the way

-- The machine has made k moves of its run, and before each of them it had not made m steps.
pub record HasComeTo (linked : Linked) (m : ℕ) (vm : LoadedVm) (k : ℕ) : Type 0 where
  pub code : vm.linked ≡ linked
  pub moves : vm.moves ≡ k
  pub made : MakesMoves linked no_keys k
  pub state : vm.state ≡ vm_at linked no_keys k
  pub counted : vm.steps ≡ steps (vm_trace linked no_keys) k
  pub not_before : (j : ℕ) → j < k → steps (vm_trace linked no_keys) j ≡ m → ⊥

pub begins : (vm : LoadedVm) (m : ℕ) → HasTaken vm [] → HasComeTo vm.linked m vm 0
begins vm m h = record {
  code = refl;
  moves = h.moves;
  made = λ c below. absurd (omega (arith, below));
  state = h.state;
  counted = h.steps;
  not_before = λ j below e. absurd (omega (arith, below));
}

acted : (s : State) (o : Outcome) → moved.Acted ≡ answer_of o → state_after o ≡ Some (state_or s o)
acted s (Acts heard s') e = refl
acted s (Strays why) e = absurd (let no : ⊥ = cc in no)
acted s (Full w) e = absurd (let no : ⊥ = cc in no)
acted s Done e = absurd (let no : ⊥ = cc in no)

no_state : (s : State) (answer : Moved) (o : Outcome) → answer ≡ answer_of o → (answer ≡ moved.Acted → ⊥) → state_after o ≡ Some s → ⊥
no_state s answer (Acts heard s') e other h = other e
no_state s answer (Strays why) e other h = let no : ⊥ = cc in no
no_state s answer (Full w) e other h = let no : ⊥ = cc in no
no_state s answer Done e other h = let no : ⊥ = cc in no

one_counted : (b : Bool) (n : ℕ) → (if b then 1 else 0) + n ≡ (if b then suc n else n)
one_counted true n = omega arith
one_counted false n = omega arith

module _ (linked : Linked) (m : ℕ) (vm : LoadedVm) (k : ℕ) (here : HasComeTo linked m vm k) where
  abbrev t : Trace
  t = vm_trace linked no_keys

  abbrev at : State
  at = vm_at linked no_keys k

  -- what comes of the move, by the run
  in_run : (answer : Moved) (s' : State) → Makes (step vm.linked 0 vm.state) vm.state answer s' → Makes (step linked 0 at) at answer s'
  in_run answer s' h =
      let P : Linked → Type 0 = λ l. Makes (step l 0 at) at answer s' in
      let Q : State → Type 0 = λ s. Makes (step vm.linked 0 s) s answer s' in
      subst P here.code (subst Q here.state h)

  made_by : (made : state_after (outcome_at linked no_keys k) ≡ Some (vm_at linked no_keys (suc k))) (c : ℕ) → c < suc k → (c < k) ⊎ (k ≤ c) → state_after (outcome_at linked no_keys c) ≡ Some (vm_at linked no_keys (suc c))
  made_by made c below (inl h) = here.made c h
  made_by made c below (inr h) = let same : k ≡ c = omega (arith, below, h) in subst (λ (j : ℕ). state_after (outcome_at linked no_keys j) ≡ Some (vm_at linked no_keys (suc j))) same made

  before_by : (steps t k ≡ m → ⊥) → (j : ℕ) → j < suc k → (j < k) ⊎ (k ≤ j) → steps t j ≡ m → ⊥
  before_by other j below (inl h) e = here.not_before j h e
  before_by other j below (inr h) e = let same : j ≡ k = omega (arith, below, h) in other (subst (λ (i : ℕ). steps t i ≡ m) same e)

  here_not : (vm.steps ≡ m → ⊥) → steps t k ≡ m → ⊥
  here_not other e = other (here.counted ∙ e)

  pub goes_on : (new : LoadedVm) → (vm.steps ≡ m → ⊥) → Makes (step vm.linked 0 vm.state) vm.state moved.Acted new.state → new.linked ≡ vm.linked → new.moves ≡ 1 + vm.moves
      → new.steps ≡ steps_in (next_of vm.linked vm.state.frames) moved.Acted + vm.steps → HasComeTo linked m new (suc k)
  goes_on new other makes code moves count =
      let made = in_run moved.Acted new.state makes in
      let P : Linked → Type 0 = λ l. new.steps ≡ steps_in (next_of l at.frames) moved.Acted + vm.steps in
      let Q : State → Type 0 = λ s. new.steps ≡ steps_in (next_of vm.linked s.frames) moved.Acted + vm.steps in
      let counted : new.steps ≡ steps_in (next_of linked at.frames) moved.Acted + vm.steps = subst P here.code (subst Q here.state count) in
      let before = here.moves in
      record {
        code = code ∙ here.code;
        moves = omega (arith, moves, before);
        made = λ c below. made_by (acted at (step linked 0 at) made.answer_is) c below (cases_lt c k);
        state = made.state_is;
        counted = counted ∙ ap (λ n. steps_in (next_of linked at.frames) moved.Acted + n) here.counted ∙ one_counted (is_commit (next_of linked at.frames)) (steps t k);
        not_before = λ j below e. before_by (here_not other) j below (cases_lt j k) e;
      }

  -- it is there
  pub has_come : (bound : ℕ) → k ≤ bound → vm.steps ≡ m → IsBehindCommit vm bound m
  has_come bound few count =
      let P : Linked → Type 0 = λ l. MakesMoves l no_keys k × IsJustAfter (vm_trace l no_keys) m k × (vm.state ≡ vm_at l no_keys k) in
      let all = subst P (sym here.code) (here.made, first_place t m k (sym here.counted ∙ count) here.not_before, here.state) in
      record { moves = k; few = few; made = all.0; behind = all.1; state = all.2 }

  -- it has no next move
  never_by : (answer : Moved) → (vm.steps ≡ m → ⊥) → answer ≡ answer_of (step linked 0 at) → (answer ≡ moved.Acted → ⊥) → (i : ℕ) → MakesMoves linked no_keys i → steps t i ≡ m → (i < k) ⊎ (k ≤ i) → (k < i) ⊎ (i ≤ k) → ⊥
  never_by answer other is stop i makes count (inl low) up = here.not_before i low count
  never_by answer other is stop i makes count (inr h) (inl up) = no_state (vm_at linked no_keys (suc k)) answer (outcome_at linked no_keys k) is stop (makes k up)
  never_by answer other is stop i makes count (inr h) (inr g) = let same : i ≡ k = omega (arith, h, g) in here_not other (subst (λ (j : ℕ). steps t j ≡ m) same count)

  pub has_stopped : (bound : ℕ) (answer : Moved) (s' : State) → (vm.steps ≡ m → ⊥) → Makes (step vm.linked 0 vm.state) vm.state answer s' → (answer ≡ moved.Acted → ⊥) → NeverComes linked bound m
  has_stopped bound answer s' other makes stop i few made behind =
      never_by answer other (in_run answer s' makes).answer_is stop i made (counts t m i behind) (cases_lt i k) (cases_lt k i)

  -- it has made all moves
  ended_by : (bound : ℕ) → k ≡ bound → (vm.steps ≡ m → ⊥) → (i : ℕ) → i ≤ bound → steps t i ≡ m → (i < k) ⊎ (k ≤ i) → ⊥
  ended_by bound all other i few count (inl low) = here.not_before i low count
  ended_by bound all other i few count (inr h) = let same : i ≡ k = omega (arith, h, few, all) in here_not other (subst (λ (j : ℕ). steps t j ≡ m) same count)

  pub has_ended : (bound : ℕ) → k ≡ bound → (vm.steps ≡ m → ⊥) → NeverComes linked bound m
  has_ended bound all other i few made behind = ended_by bound all other i few (counts t m i behind) (cases_lt i k)

-- ---- what it shows there

-- what is read of the machine
abbrev pub vm_reading : LoadedVm → Reading Point
vm_reading vm = record { moves = vm.moves; steps = vm.steps; point = point_of vm.linked vm.state.frames; word = λ a. slice_index vm.state.words (a - 2048) }

abbrev place_view : Linked → ℕ → View
place_view linked k = record { word = vm_word linked no_keys k; point = point_at (vm_trace linked no_keys) k }

view_of : (vm : LoadedVm) (k : ℕ) → vm.state ≡ vm_at vm.linked no_keys k → IsViewOf (place_view vm.linked k) (vm_reading vm)
view_of vm k state = record {
  words = λ a d. ap (λ (s : State). slice_index s.words (a - 2048)) (sym state);
  point = seen_at vm.linked no_keys k ∙ ap (λ (s : State). Some (point_of vm.linked s.frames)) (sym state);
}

pub one_code : (core : Core) (l l' : Linked) → IsVmCodeOf core l → IsVmCodeOf core l' → l ≡ l'
one_code core l l' h k =
    let same : Ok l ≡ Ok l' = linked_once false (files_of core) (Ok l) (Ok l') h k (λ e. let no : ⊥ = cc in no) (λ e. let no : ⊥ = cc in no) in
    let is : l ≡ l' = cc in is

module _ (core : Core) (vm : LoadedVm) (bound m : ℕ) (v : View) (r : Reading Point) (here : IsViewOf v r) (code : IsVmCodeOf core vm.linked) where
  pub shown_behind : IsBehindCommit vm bound m → ShowSame r (vm_reading vm) → IsAtVm core bound m v
  shown_behind there same = record {
    linked = vm.linked;
    is_code = code;
    moves = there.moves;
    few = there.few;
    made = there.made;
    behind = there.behind;
    alike = to_alike v (place_view vm.linked there.moves) r (vm_reading vm) here (view_of vm there.moves there.state) same;
  }

  pub seen_behind : IsBehindCommit vm bound m → IsAtVm core bound m v → ShowSame r (vm_reading vm)
  seen_behind there h =
      let is : h.linked ≡ vm.linked = one_code core h.linked vm.linked h.is_code code in
      let P : Linked → Type 0 = λ l. IsJustAfter (vm_trace l no_keys) m h.moves in
      let same : h.moves ≡ there.moves = one_place (vm_trace vm.linked no_keys) m h.moves there.moves (subst P is h.behind) there.behind in
      let state : vm.state ≡ vm_at vm.linked no_keys h.moves = there.state ∙ ap (vm_at vm.linked no_keys) (sym same) in
      let Q : Linked → Type 0 = λ l. AreAlike v (place_view l h.moves) in
      from_alike v (place_view vm.linked h.moves) r (vm_reading vm) here (view_of vm h.moves state) (subst Q is h.alike)

  pub never_seen : (linked : Linked) → vm.linked ≡ linked → NeverComes linked bound m → IsAtVm core bound m v → ⊥
  never_seen linked from_it never h =
      let is : h.linked ≡ linked = one_code core h.linked vm.linked h.is_code code ∙ from_it in
      let P : Linked → Type 0 = λ l. MakesMoves l no_keys h.moves × IsJustAfter (vm_trace l no_keys) m h.moves in
      let both = subst P is (h.made, h.behind) in
      never h.moves h.few both.0 both.1
