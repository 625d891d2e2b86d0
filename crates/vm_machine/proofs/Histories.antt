-- A step of the machine is one more turn of its history.
use Rattle.std.proofs.Common.{◌≡◌, ℕ, suc, ◌+◌, ◌-◌, length, List, [], ◌∷◌, ◌++◌, refl, sym, ap, ◌∙◌, subst, arith}
use Rattle.std.specs.Prelude.{Option, Some, None, slice_get}
use Rattle.std.proofs.lemmas.List.Sums.{sum_by-append, sum_by-cons}
use Rattle.machine_io.specs.History.{Turn, turn, moves_in}
use Rattle.machine_io.specs.declared.machine.Moved.{Moved}
use Rattle.vm_link.specs.declared.linked.Code.{Code}
use Rattle.vm_link.specs.declared.linked.Linked.{Linked}
use Rattle.vm_machine.specs.State.{State}
use Rattle.vm_machine.specs.Step.{fit_outcome, perform, code_in, end_outcome, step, start}
use Rattle.vm_machine.specs.Level.{next_of, last_statement}
use Rattle.vm_machine.specs.Moves.{Makes, Words, state_of, answer_of, state_or}
use Rattle.vm_machine.specs.Calls.{Calls}
use Rattle.vm_machine.specs.Loaded.{LoadedVm, Leads, steps_in, steps_made, HasTaken}

-- a step by what is fetched
pub step_made : (l : Linked) (key : ℕ) (stack : Calls) (memory : Words) (command : Option Code) (answer : Moved) (s' : State)
    → command ≡ slice_get (code_in l stack.top.function) stack.top.place
    → Makes (fit_outcome (perform key (state_of stack memory) stack.top stack.below command)) (state_of stack memory) answer s'
    → Makes (step l key (state_of stack memory)) (state_of stack memory) answer s'
unfolding step
step_made l key stack memory command answer s' e h = subst (λ x. Makes (fit_outcome (perform key (state_of stack memory) stack.top stack.below x)) (state_of stack memory) answer s') e h

ended_with : (function : Option ℕ) (s : State) (answer : Moved) → answer ≡ answer_of (end_outcome function) → Makes (fit_outcome (end_outcome function)) s answer s
ended_with None s answer e = record { answer_is = e; state_is = refl }
ended_with (Some k) s answer e = record { answer_is = e; state_is = refl }

-- where no command is left
pub end_made : (l : Linked) (key : ℕ) (stack : Calls) (memory : Words) (answer : Moved) → None ≡ next_of l (stack.top ∷ stack.below) → answer ≡ answer_of (end_outcome stack.top.function)
    → Makes (step l key (state_of stack memory)) (state_of stack memory) answer (state_of stack memory)
end_made l key stack memory answer e h = step_made l key stack memory None answer (state_of stack memory) e (ended_with stack.top.function (state_of stack memory) answer h)

leads_more : (l : Linked) (s s' s'' : State) (turns : List Turn) (key : ℕ) (answer : Moved) → Leads l s turns s' → Makes (step l key s') s' answer s''
    → Leads l s (turns ++ turn key answer ∷ []) s''
leads_more l s s' s'' [] key answer e m = subst (λ x. (answer ≡ answer_of (step l key x)) × (s'' ≡ state_or x (step l key x))) e (m.answer_is, m.state_is)
leads_more l s s' s'' (t ∷ turns) key answer h m = (h.0, leads_more l (state_or s (step l t.key s)) s' s'' turns key answer h.1 m)

steps_more : (l : Linked) (s s' : State) (turns : List Turn) (key : ℕ) (answer : Moved) → Leads l s turns s'
    → steps_made l s (turns ++ turn key answer ∷ []) ≡ steps_in (next_of l s'.frames) answer + steps_made l s turns
steps_more l s s' [] key answer e = ap (λ (x : State). steps_in (next_of l x.frames) answer + 0) (sym e)
steps_more l s s' (t ∷ turns) key answer h =
    let more = steps_more l (state_or s (step l t.key s)) s' turns key answer h.1 in
    omega (arith, more)

pub taken_more : (old new : LoadedVm) (key : ℕ) (answer : Moved) → new.linked ≡ old.linked → Makes (step old.linked key old.state) old.state answer new.state
    → new.moves ≡ moves_in answer + old.moves → new.steps ≡ steps_in (next_of old.linked old.state.frames) answer + old.steps
    → (turns : List Turn) → HasTaken old turns → HasTaken new (turns ++ turn key answer ∷ [])
taken_more old new key answer linked made moves steps turns h =
    let sums = sum_by-append (λ (t : Turn). moves_in t.answer) turns (turn key answer ∷ []) in
    let last = sum_by-cons (λ (t : Turn). moves_in t.answer) (turn key answer) [] in
    let more = steps_more old.linked start old.state turns key answer h.state in
    record {
      state = subst (λ l. Leads l start (turns ++ turn key answer ∷ []) new.state) (sym linked) (leads_more old.linked start old.state new.state turns key answer h.state made);
      moves = omega (arith, sums, last, moves, h.moves);
      steps = subst (λ l. new.steps ≡ steps_made l start (turns ++ turn key answer ∷ [])) (sym linked) (omega (arith, more, steps, h.steps));
    }

-- the last command's statement
pub last_is : (code : List Code) (c : Code) → Some c ≡ slice_get code (length code - 1) → c.statement ≡ last_statement code
last_is [] c e = absurd (cc e)
last_is (a ∷ []) c e = let same : c ≡ a = cc e in ap (λ (x : Code). x.statement) same
last_is (a ∷ b ∷ code) c e =
    let place : length (a ∷ b ∷ code) - 1 ≡ suc (length (b ∷ code) - 1) = omega arith in
    last_is (b ∷ code) c (e ∙ ap (slice_get (a ∷ b ∷ code)) place)
