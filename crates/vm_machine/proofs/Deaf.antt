-- A step that hears nothing is the same under every key.
use Rattle.std.proofs.Common.{◌≡◌, ℕ, ◌-◌, Bool, true, false, nat_lt, nat_eq, List, [], ◌∷◌, refl}
use Rattle.std.specs.Prelude.{Option, Some, None, if◌then◌else◌, slice_index, slice_get}
use Rattle.word16.specs.Words.{word_add}
use Rattle.vm_tree.specs.declared.command.Segment.{Segment}
use Rattle.vm_tree.specs.declared.command.Segment.TheVariants as segment
use Rattle.vm_link.specs.declared.linked.Step.{Step}
use Rattle.vm_link.specs.declared.linked.Step.TheVariants as command
use Rattle.vm_link.specs.declared.linked.Code.{Code}
use Rattle.vm_link.specs.declared.linked.Linked.{Linked}
use Rattle.machine_io.specs.declared.machine.Stray.TheVariants as stray
use Rattle.vm_machine.specs.State.{Frame, State, words_in_use}
use Rattle.vm_machine.specs.Step.{Outcome, Acts, Strays, Full, after, push_outcome, load, push, act, fit_outcome, code_in, perform, step_frames, step}
use Rattle.vm_machine.specs.Level.{has_heard}
use Rattle.vm_machine.specs.Laws.{KeyLaw}

-- an outcome under one key and under another
pub record Alike (o o' : Outcome) : Type 0 where
  pub deaf : has_heard o ≡ false → o' ≡ o
  pub hears : has_heard o' ≡ has_heard o

same : (o : Outcome) → Alike o o
same o = record { deaf = λ h. refl; hears = refl }

with_room : (full : Bool) (w : ℕ) (s s' : State) → Alike (if full then Full w else Acts true s) (if full then Full w else Acts true s')
with_room true w s s' = same (Full w)
with_room false w s s' = record { deaf = λ h. absurd (cc h); hears = refl }

-- the words in use do not depend on the value that is pushed
as_many : (f : Frame) (below : List Frame) (k k' : ℕ) → words_in_use (after f (k' ∷ f.values) ∷ below) ≡ words_in_use (after f (k ∷ f.values) ∷ below)
as_many f [] k k' = refl
as_many f (g ∷ below) k k' = refl

module _ (s : State) (f : Frame) (below : List Frame) (k k' : ℕ) where
  heard_alike : Alike (fit_outcome (push_outcome true s f below k)) (fit_outcome (push_outcome true s f below k'))
  heard_alike = rw (as_many f below k k') (with_room (nat_lt 1792 (words_in_use (after f (k ∷ f.values) ∷ below))) (words_in_use (after f (k ∷ f.values) ∷ below))
      (record s { frames = after f (k ∷ f.values) ∷ below }) (record s { frames = after f (k' ∷ f.values) ∷ below }))

  load_with : (low data_ key : Bool) (a : ℕ) → Alike
      (fit_outcome (if low then Strays (stray.Address a) else (if data_ then push_outcome false s f below (slice_index s.words (a - 2048)) else (if key then push_outcome true s f below k else Strays (stray.Address a)))))
      (fit_outcome (if low then Strays (stray.Address a) else (if data_ then push_outcome false s f below (slice_index s.words (a - 2048)) else (if key then push_outcome true s f below k' else Strays (stray.Address a)))))
  load_with true d key a = same _
  load_with false true key a = same _
  load_with false false true a = heard_alike
  load_with false false false a = same _

  load_alike : (a : ℕ) → Alike (fit_outcome (load k a s f below)) (fit_outcome (load k' a s f below))
  load_alike a = load_with (nat_lt a 2048) (nat_lt a 24576) (nat_eq a 24576) a

  written_with : (b : Bool) (o o' : Outcome) → Alike (fit_outcome o) (fit_outcome o') → Alike (fit_outcome (if b then o else Strays stray.Code)) (fit_outcome (if b then o' else Strays stray.Code))
  written_with true o o' h = h
  written_with false o o' h = same _

  push_alike : (g : Segment) (i : ℕ) → Alike (fit_outcome (push k g i s f below)) (fit_outcome (push k' g i s f below))
  push_alike segment.Constant i = same _
  push_alike segment.Argument i = same _
  push_alike segment.Local i = same _
  push_alike segment.Static i = same _
  push_alike segment.Temp i = same _
  push_alike segment.Pointer i = same _
  push_alike segment.This i = written_with (nat_lt i 32768) (load k (word_add f.this i) s f below) (load k' (word_add f.this i) s f below) (load_alike (word_add f.this i))
  push_alike segment.That i = written_with (nat_lt i 32768) (load k (word_add f.that i) s f below) (load k' (word_add f.that i) s f below) (load_alike (word_add f.that i))

  act_alike : (c : Step) → Alike (fit_outcome (act k c s f below)) (fit_outcome (act k' c s f below))
  act_alike (command.Operate o) = same _
  act_alike (command.Push g i) = push_alike g i
  act_alike (command.Pop g i) = same _
  act_alike (command.Goto p) = same _
  act_alike (command.IfGoto p) = same _
  act_alike (command.Function n) = same _
  act_alike (command.Call g n) = same _
  act_alike command.Return = same _

  perform_alike : (c : Option Code) → Alike (fit_outcome (perform k s f below c)) (fit_outcome (perform k' s f below c))
  perform_alike None = same _
  perform_alike (Some c) = act_alike c.step

frames_alike : (l : Linked) (k k' : ℕ) (s : State) (fs : List Frame) → Alike (fit_outcome (step_frames l k s fs)) (fit_outcome (step_frames l k' s fs))
frames_alike l k k' s [] = same _
frames_alike l k k' s (f ∷ below) = perform_alike s f below k k' (slice_get (code_in l f.function) f.place)

pub step_alike : (l : Linked) (k k' : ℕ) (s : State) → Alike (step l k s) (step l k' s)
unfolding step
step_alike l k k' s = frames_alike l k k' s s.frames

pub key_law : KeyLaw
key_law = record { deaf = λ l s k k' h. (step_alike l k k' s).deaf h; hears = λ l s k k'. (step_alike l k k' s).hears }
