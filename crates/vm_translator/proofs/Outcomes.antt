-- Only a push of this or that can hear the key, and only that and a pop to this or that can go astray at an address.
use Rattle.std.proofs.Common.{◌≡◌, ℕ, Bool, true, false, nat_lt, nat_eq, List, [], ◌∷◌, length, refl}
use Rattle.std.specs.Prelude.{Option, Some, None, if◌then◌else◌, slice_get}
use Rattle.word16.specs.Words.{word_add}
use Rattle.machine_io.specs.declared.machine.Stray.{Stray}
use Rattle.machine_io.specs.declared.machine.Stray.TheVariants as stray
use Rattle.vm_tree.specs.declared.command.Operation.{Operation}
use Rattle.vm_tree.specs.declared.command.Operation.TheVariants.{Add, Sub, Neg, Eq, Gt, Lt, And, Or, Not, ShiftLeft, ShiftRight}
use Rattle.vm_tree.specs.declared.command.Segment.{Segment}
use Rattle.vm_tree.specs.declared.command.Segment.TheVariants as segment
use Rattle.vm_link.specs.declared.linked.Step.{Step}
use Rattle.vm_link.specs.declared.linked.Step.TheVariants as step
use Rattle.vm_machine.specs.State.{Frame, State, words_in_use}
use Rattle.vm_machine.specs.Level.{is_done}
use Rattle.vm_machine.specs.Step.{Outcome, Acts, Strays, Full, Done, on_top, on_two, on_word, unary_outcome, binary_outcome, operate, load, store, push, pop, begin, return, act, fit_outcome}

-- astray at an address, where that is allowed
abbrev pub Astray : Bool → Stray → Type 0
Astray address (stray.Address a) = address ≡ true
Astray address stray.Values = Unit {0}
Astray address stray.Argument = Unit {0}
Astray address stray.Local = Unit {0}
Astray address stray.Code = Unit {0}

-- an outcome of a command, which may hear the key or go astray at an address where that is allowed
abbrev pub Allowed : Bool → Bool → Outcome → Type 0
Allowed hears address (Acts true s) = hears ≡ true
Allowed hears address (Acts false s) = Unit {0}
Allowed hears address (Strays why) = Astray address why
Allowed hears address (Full w) = Unit {0}
Allowed hears address Done = ⊥

abbrev pub may_hear : Step → Bool
may_hear (step.Push segment.This i) = true
may_hear (step.Push segment.That i) = true
may_hear c = false

abbrev pub may_miss : Step → Bool
may_miss (step.Push segment.This i) = true
may_miss (step.Push segment.That i) = true
may_miss (step.Pop segment.This i) = true
may_miss (step.Pop segment.That i) = true
may_miss c = false

module _ (h a : Bool) where
  top_allowed : (xs : List ℕ) (k : ℕ → List ℕ → Outcome) → ((w : ℕ) (ws : List ℕ) → Allowed h a (k w ws)) → Allowed h a (on_top xs k)
  top_allowed [] k p = tt
  top_allowed (w ∷ ws) k p = p w ws

  two_allowed : (xs : List ℕ) (k : ℕ → ℕ → List ℕ → Outcome) → ((x y : ℕ) (ws : List ℕ) → Allowed h a (k x y ws)) → Allowed h a (on_two xs k)
  two_allowed [] k p = tt
  two_allowed (y ∷ []) k p = tt
  two_allowed (y ∷ x ∷ ws) k p = p x y ws

  word_allowed : (why : Stray) (w : Option ℕ) (k : ℕ → Outcome) → Astray a why → ((x : ℕ) → Allowed h a (k x)) → Allowed h a (on_word why w k)
  word_allowed why None k q p = q
  word_allowed why (Some x) k q p = p x

  if_allowed : (b : Bool) (o o' : Outcome) → Allowed h a o → Allowed h a o' → Allowed h a (if b then o else o')
  if_allowed true o o' p q = p
  if_allowed false o o' p q = q

  fitted_allowed : (o : Outcome) → Allowed h a o → Allowed h a (fit_outcome o)
  fitted_allowed (Acts heard s) p = if_allowed (nat_lt 1792 (words_in_use s.frames)) (Full (words_in_use s.frames)) (Acts heard s) tt p
  fitted_allowed (Strays why) p = p
  fitted_allowed (Full w) p = p
  fitted_allowed Done p = p

module _ (key : ℕ) (s : State) (f : Frame) (below : List Frame) where
  turned_allowed : (op : ℕ → ℕ) → Allowed false false (unary_outcome op s f below)
  turned_allowed op = top_allowed false false f.values _ (λ x values. tt)

  joined_allowed : (op : ℕ → ℕ → ℕ) → Allowed false false (binary_outcome op s f below)
  joined_allowed op = two_allowed false false f.values _ (λ x y values. tt)

  operate_allowed : (o : Operation) → Allowed false false (operate o s f below)
  operate_allowed Add = joined_allowed _
  operate_allowed Sub = joined_allowed _
  operate_allowed Neg = turned_allowed _
  operate_allowed Eq = joined_allowed _
  operate_allowed Gt = joined_allowed _
  operate_allowed Lt = joined_allowed _
  operate_allowed And = joined_allowed _
  operate_allowed Or = joined_allowed _
  operate_allowed Not = turned_allowed _
  operate_allowed ShiftLeft = turned_allowed _
  operate_allowed ShiftRight = turned_allowed _

  load_allowed : (x : ℕ) → Allowed true true (load key x s f below)
  load_allowed x = if_allowed true true (nat_lt x 2048) _ _ refl (if_allowed true true (nat_lt x 24576) _ _ tt (if_allowed true true (nat_eq x 24576) _ _ refl refl))

  store_allowed : (x w : ℕ) (values : List ℕ) → Allowed false true (store x w values s f below)
  store_allowed x w values = if_allowed false true (nat_lt x 2048) _ _ refl (if_allowed false true (nat_lt x 24576) _ _ tt refl)

  push_allowed : (g : Segment) (i : ℕ) → Allowed (may_hear (step.Push g i)) (may_miss (step.Push g i)) (push key g i s f below)
  push_allowed segment.Constant i = if_allowed false false (nat_lt i 32768) _ _ tt tt
  push_allowed segment.Argument i = word_allowed false false _ (slice_get f.arguments i) _ tt (λ x. tt)
  push_allowed segment.Local i = word_allowed false false _ (slice_get f.locals i) _ tt (λ x. tt)
  push_allowed segment.Static i = word_allowed false false _ (slice_get s.statics i) _ tt (λ x. tt)
  push_allowed segment.Temp i = word_allowed false false _ (slice_get s.temps i) _ tt (λ x. tt)
  push_allowed segment.Pointer i = word_allowed false false _ (slice_get (f.this ∷ f.that ∷ []) i) _ tt (λ x. tt)
  push_allowed segment.This i = if_allowed true true (nat_lt i 32768) _ _ (load_allowed (word_add f.this i)) tt
  push_allowed segment.That i = if_allowed true true (nat_lt i 32768) _ _ (load_allowed (word_add f.that i)) tt

  pop_allowed : (g : Segment) (i w : ℕ) (values : List ℕ) → Allowed (may_hear (step.Pop g i)) (may_miss (step.Pop g i)) (pop g i s f below w values)
  pop_allowed segment.Constant i w values = tt
  pop_allowed segment.Argument i w values = if_allowed false false (nat_lt i (length f.arguments)) _ _ tt tt
  pop_allowed segment.Local i w values = if_allowed false false (nat_lt i (length f.locals)) _ _ tt tt
  pop_allowed segment.Static i w values = if_allowed false false (nat_lt i (length s.statics)) _ _ tt tt
  pop_allowed segment.Temp i w values = if_allowed false false (nat_lt i (length s.temps)) _ _ tt tt
  pop_allowed segment.Pointer i w values = if_allowed false false (nat_eq i 0) _ _ tt (if_allowed false false (nat_eq i 1) _ _ tt tt)
  pop_allowed segment.This i w values = if_allowed false true (nat_lt i 32768) _ _ (store_allowed (word_add f.this i) w values) tt
  pop_allowed segment.That i w values = if_allowed false true (nat_lt i 32768) _ _ (store_allowed (word_add f.that i) w values) tt

  begin_allowed : (n : ℕ) (locals values : List ℕ) (rest : List Frame) → Allowed false false (begin n locals values s f rest)
  begin_allowed n [] [] [] = tt
  begin_allowed n [] [] (g ∷ rest) = tt
  begin_allowed n [] (v ∷ values) rest = tt
  begin_allowed n (v ∷ locals) values rest = tt

  return_allowed : (rest : List Frame) (w : ℕ) (values : List ℕ) → Allowed false false (return rest s w values)
  return_allowed [] w values = tt
  return_allowed (g ∷ rest) w values = tt

  act_allowed : (c : Step) → Allowed (may_hear c) (may_miss c) (act key c s f below)
  act_allowed (step.Operate o) = operate_allowed o
  act_allowed (step.Push g i) = push_allowed g i
  act_allowed (step.Pop g i) = top_allowed (may_hear (step.Pop g i)) (may_miss (step.Pop g i)) f.values _ (pop_allowed g i)
  act_allowed (step.Goto p) = tt
  act_allowed (step.IfGoto p) = top_allowed false false f.values _ (λ w values. tt)
  act_allowed (step.Function n) = begin_allowed n f.locals f.values below
  act_allowed (step.Call g n) = if_allowed false false (nat_lt (length f.values) n) _ _ tt tt
  act_allowed step.Return = top_allowed false false f.values _ (return_allowed below)

  pub outcome_allowed : (c : Step) → Allowed (may_hear c) (may_miss c) (fit_outcome (act key c s f below))
  outcome_allowed c = fitted_allowed (may_hear c) (may_miss c) (act key c s f below) (act_allowed c)

-- a fact of every step, from those of loads and stores, and of steps that do neither
pub by_kind : (P : Step → Type 0) → ((c : Step) → may_hear c ≡ false → may_miss c ≡ false → P c) → ((i : ℕ) → P (step.Push segment.This i)) → ((i : ℕ) → P (step.Push segment.That i))
    → ((i : ℕ) → P (step.Pop segment.This i)) → ((i : ℕ) → P (step.Pop segment.That i)) → (c : Step) → P c
by_kind P rest load_this load_that store_this store_that (step.Push segment.This i) = load_this i
by_kind P rest load_this load_that store_this store_that (step.Push segment.That i) = load_that i
by_kind P rest load_this load_that store_this store_that (step.Pop segment.This i) = store_this i
by_kind P rest load_this load_that store_this store_that (step.Pop segment.That i) = store_that i
by_kind P rest load_this load_that store_this store_that (step.Operate o) = rest (step.Operate o) refl refl
by_kind P rest load_this load_that store_this store_that (step.Push segment.Argument i) = rest (step.Push segment.Argument i) refl refl
by_kind P rest load_this load_that store_this store_that (step.Push segment.Local i) = rest (step.Push segment.Local i) refl refl
by_kind P rest load_this load_that store_this store_that (step.Push segment.Static i) = rest (step.Push segment.Static i) refl refl
by_kind P rest load_this load_that store_this store_that (step.Push segment.Constant i) = rest (step.Push segment.Constant i) refl refl
by_kind P rest load_this load_that store_this store_that (step.Push segment.Pointer i) = rest (step.Push segment.Pointer i) refl refl
by_kind P rest load_this load_that store_this store_that (step.Push segment.Temp i) = rest (step.Push segment.Temp i) refl refl
by_kind P rest load_this load_that store_this store_that (step.Pop segment.Argument i) = rest (step.Pop segment.Argument i) refl refl
by_kind P rest load_this load_that store_this store_that (step.Pop segment.Local i) = rest (step.Pop segment.Local i) refl refl
by_kind P rest load_this load_that store_this store_that (step.Pop segment.Static i) = rest (step.Pop segment.Static i) refl refl
by_kind P rest load_this load_that store_this store_that (step.Pop segment.Constant i) = rest (step.Pop segment.Constant i) refl refl
by_kind P rest load_this load_that store_this store_that (step.Pop segment.Pointer i) = rest (step.Pop segment.Pointer i) refl refl
by_kind P rest load_this load_that store_this store_that (step.Pop segment.Temp i) = rest (step.Pop segment.Temp i) refl refl
by_kind P rest load_this load_that store_this store_that (step.Goto p) = rest (step.Goto p) refl refl
by_kind P rest load_this load_that store_this store_that (step.IfGoto p) = rest (step.IfGoto p) refl refl
by_kind P rest load_this load_that store_this store_that (step.Function n) = rest (step.Function n) refl refl
by_kind P rest load_this load_that store_this store_that (step.Call g n) = rest (step.Call g n) refl refl
by_kind P rest load_this load_that store_this store_that step.Return = rest step.Return refl refl

pub never_done : (hears address : Bool) (o : Outcome) → Allowed hears address o → is_done o ≡ true → ⊥
never_done hears address (Acts h s) a e = cc e
never_done hears address (Strays why) a e = cc e
never_done hears address (Full w) a e = cc e
never_done hears address Done a e = a
