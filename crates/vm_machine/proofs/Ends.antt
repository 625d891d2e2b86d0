-- A machine that has come to its end stays there.
use Rattle.std.proofs.Common.{◌≡◌, ℕ, Bool, true, false, nat_lt, nat_eq, List, [], ◌∷◌, length, refl, ap, ◌∙◌, sym}
use Rattle.std.specs.Prelude.{Option, Some, None, if◌then◌else◌, slice_get}
use Rattle.word16.specs.Words.{word_add}
use Rattle.simulation.specs.System.{IdlesAtEnd}
use Rattle.machine_io.specs.declared.machine.Stray.{Stray}
use Rattle.vm_tree.specs.declared.command.Operation.{Operation}
use Rattle.vm_tree.specs.declared.command.Operation.TheVariants.{Add, Sub, Neg, Eq, Gt, Lt, And, Or, Not, ShiftLeft, ShiftRight}
use Rattle.vm_tree.specs.declared.command.Segment.{Segment}
use Rattle.vm_tree.specs.declared.command.Segment.TheVariants as segment
use Rattle.vm_link.specs.declared.linked.Step.{Step}
use Rattle.vm_link.specs.declared.linked.Step.TheVariants as command
use Rattle.vm_link.specs.declared.linked.Code.{Code}
use Rattle.vm_link.specs.declared.linked.Linked.{Linked}
use Rattle.vm_machine.specs.State.{Frame, State, words_in_use}
use Rattle.vm_machine.specs.Step.{Outcome, Acts, Strays, Full, Done, on_top, on_two, on_word, unary_outcome, binary_outcome, operate, load, store, push, pop, begin, return, act, fit_outcome, code_in, perform, step_frames, step}
use Rattle.vm_machine.specs.Level.{has_heard, is_done, is_commit, next_of, state_after, vm_system}
use Rattle.vm_machine.specs.Laws.{EndLaw}
use Rattle.vm_machine.proofs.Deaf.{step_alike}

abbrev Goes : Outcome → Type 0
Goes o = is_done o ≡ false

top_goes : (xs : List ℕ) (k : ℕ → List ℕ → Outcome) → ((w : ℕ) (ws : List ℕ) → Goes (k w ws)) → Goes (on_top xs k)
top_goes [] k h = refl
top_goes (w ∷ ws) k h = h w ws

two_goes : (xs : List ℕ) (k : ℕ → ℕ → List ℕ → Outcome) → ((x y : ℕ) (ws : List ℕ) → Goes (k x y ws)) → Goes (on_two xs k)
two_goes [] k h = refl
two_goes (y ∷ []) k h = refl
two_goes (y ∷ x ∷ ws) k h = h x y ws

word_goes : (why : Stray) (w : Option ℕ) (k : ℕ → Outcome) → ((x : ℕ) → Goes (k x)) → Goes (on_word why w k)
word_goes why None k h = refl
word_goes why (Some x) k h = h x

if_goes : (b : Bool) (o o' : Outcome) → Goes o → Goes o' → Goes (if b then o else o')
if_goes true o o' h h' = h
if_goes false o o' h h' = h'

module _ (key : ℕ) (s : State) (f : Frame) (below : List Frame) where
  turned_goes : (op : ℕ → ℕ) → Goes (unary_outcome op s f below)
  turned_goes op = top_goes f.values _ (λ x values. refl)

  joined_goes : (op : ℕ → ℕ → ℕ) → Goes (binary_outcome op s f below)
  joined_goes op = two_goes f.values _ (λ x y values. refl)

  operate_goes : (o : Operation) → Goes (operate o s f below)
  operate_goes Add = joined_goes _
  operate_goes Sub = joined_goes _
  operate_goes Neg = turned_goes _
  operate_goes Eq = joined_goes _
  operate_goes Gt = joined_goes _
  operate_goes Lt = joined_goes _
  operate_goes And = joined_goes _
  operate_goes Or = joined_goes _
  operate_goes Not = turned_goes _
  operate_goes ShiftLeft = turned_goes _
  operate_goes ShiftRight = turned_goes _

  load_goes : (a : ℕ) → Goes (load key a s f below)
  load_goes a = if_goes (nat_lt a 2048) _ _ refl (if_goes (nat_lt a 24576) _ _ refl (if_goes (nat_eq a 24576) _ _ refl refl))

  store_goes : (a w : ℕ) (values : List ℕ) → Goes (store a w values s f below)
  store_goes a w values = if_goes (nat_lt a 2048) _ _ refl (if_goes (nat_lt a 24576) _ _ refl refl)

  push_goes : (g : Segment) (i : ℕ) → Goes (push key g i s f below)
  push_goes segment.Constant i = if_goes (nat_lt i 32768) _ _ refl refl
  push_goes segment.Argument i = word_goes _ (slice_get f.arguments i) _ (λ x. refl)
  push_goes segment.Local i = word_goes _ (slice_get f.locals i) _ (λ x. refl)
  push_goes segment.Static i = word_goes _ (slice_get s.statics i) _ (λ x. refl)
  push_goes segment.Temp i = word_goes _ (slice_get s.temps i) _ (λ x. refl)
  push_goes segment.Pointer i = word_goes _ (slice_get (f.this ∷ f.that ∷ []) i) _ (λ x. refl)
  push_goes segment.This i = if_goes (nat_lt i 32768) _ _ (load_goes (word_add f.this i)) refl
  push_goes segment.That i = if_goes (nat_lt i 32768) _ _ (load_goes (word_add f.that i)) refl

  pop_goes : (g : Segment) (i w : ℕ) (values : List ℕ) → Goes (pop g i s f below w values)
  pop_goes segment.Constant i w values = refl
  pop_goes segment.Argument i w values = if_goes (nat_lt i (length f.arguments)) _ _ refl refl
  pop_goes segment.Local i w values = if_goes (nat_lt i (length f.locals)) _ _ refl refl
  pop_goes segment.Static i w values = if_goes (nat_lt i (length s.statics)) _ _ refl refl
  pop_goes segment.Temp i w values = if_goes (nat_lt i (length s.temps)) _ _ refl refl
  pop_goes segment.Pointer i w values = if_goes (nat_eq i 0) _ _ refl (if_goes (nat_eq i 1) _ _ refl refl)
  pop_goes segment.This i w values = if_goes (nat_lt i 32768) _ _ (store_goes (word_add f.this i) w values) refl
  pop_goes segment.That i w values = if_goes (nat_lt i 32768) _ _ (store_goes (word_add f.that i) w values) refl

  begin_goes : (n : ℕ) (locals values : List ℕ) (rest : List Frame) → Goes (begin n locals values s f rest)
  begin_goes n [] [] [] = refl
  begin_goes n [] [] (g ∷ rest) = refl
  begin_goes n [] (v ∷ values) rest = refl
  begin_goes n (v ∷ locals) values rest = refl

  return_goes : (rest : List Frame) (w : ℕ) (values : List ℕ) → Goes (return rest s w values)
  return_goes [] w values = refl
  return_goes (g ∷ rest) w values = refl

  act_goes : (c : Step) → Goes (act key c s f below)
  act_goes (command.Operate o) = operate_goes o
  act_goes (command.Push g i) = push_goes g i
  act_goes (command.Pop g i) = top_goes f.values _ (pop_goes g i)
  act_goes (command.Goto p) = refl
  act_goes (command.IfGoto p) = top_goes f.values _ (λ w values. refl)
  act_goes (command.Function n) = begin_goes n f.locals f.values below
  act_goes (command.Call g n) = if_goes (nat_lt (length f.values) n) _ _ refl refl
  act_goes command.Return = top_goes f.values _ (return_goes below)

fitted_goes : (o : Outcome) → Goes o → Goes (fit_outcome o)
fitted_goes (Acts heard s) h = if_goes (nat_lt 1792 (words_in_use s.frames)) _ _ refl refl
fitted_goes (Strays why) h = refl
fitted_goes (Full w) h = refl
fitted_goes Done h = h

-- where there is a command, the machine has not come to its end
quiet_with : (key : ℕ) (l : Linked) (s : State) (f : Frame) (below : List Frame) (c : Option Code) → is_done (fit_outcome (perform key s f below c)) ≡ true → is_commit c ≡ false
quiet_with key l s f below None h = refl
quiet_with key l s f below (Some c) h = absurd (cc (sym (fitted_goes (act key c.step s f below) (act_goes key s f below c.step)) ∙ h))

quiet_frames : (l : Linked) (s : State) (fs : List Frame) → is_done (fit_outcome (step_frames l 0 s fs)) ≡ true → is_commit (next_of l fs) ≡ false
quiet_frames l s [] h = refl
quiet_frames l s (f ∷ below) h = quiet_with 0 l s f below (slice_get (code_in l f.function) f.place) h

quiet : (l : Linked) (s : State) → is_done (step l 0 s) ≡ true → is_commit (next_of l s.frames) ≡ false
unfolding step
quiet l s h = quiet_frames l s s.frames h

done_is : (o : Outcome) → is_done o ≡ true → o ≡ Done
done_is (Acts heard s) h = absurd (cc h)
done_is (Strays why) h = absurd (cc h)
done_is (Full w) h = absurd (cc h)
done_is Done h = refl

done_stays : (l : Linked) (s : State) (key : ℕ) → is_done (step l 0 s) ≡ true → step l key s ≡ Done
done_stays l s key h =
    let e = done_is (step l 0 s) h in
    (step_alike l 0 key s).deaf (ap has_heard e) ∙ e

ends : (l : Linked) (s : State) (key : ℕ) → is_done (step l 0 s) ≡ true → state_after (step l key s) ≡ None
ends l s key h = ap state_after (done_stays l s key h)

idle : (l : Linked) → IdlesAtEnd (vm_system l)
idle l = record {
  quiet = λ s h. (quiet l s h, ap has_heard (done_is (step l 0 s) h));
  idles = λ s s' key h e. absurd (cc (sym (ends l s key h) ∙ e));
}

pub end_law : EndLaw
end_law = record { ends = ends; idle = idle; begins = λ l. refl }
