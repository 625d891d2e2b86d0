-- Each command's instructions carry the memory to the next state.
use Rattle.std.proofs.Common.{◌≡◌, ℕ, Option, ◌+◌, ◌≤◌, Bool, false, List, ◌∷◌, length, refl, ap, ◌∙◌, subst, arith}
use Rattle.std.specs.Prelude.{nat_eq, bit_and, bit_or, int_lt}
use Rattle.word16.specs.Words.{word_add, word_sub, word_neg, word_not, word_shl, word_shr, signed_value, truth}
use Rattle.vm_tree.specs.declared.command.Operation.{Operation}
use Rattle.vm_tree.specs.declared.command.Operation.TheVariants as operation
use Rattle.vm_link.specs.declared.linked.Linked.{Linked}
use Rattle.vm_templates.specs.declared.shape.Shape.{Shape}
use Rattle.vm_templates.specs.declared.shape.Shape.TheVariants as shape
use Rattle.vm_templates.specs.Effects.{Pushed, Joined, Turned}
use Rattle.vm_templates.specs.Comparing.{equal, greater, less}
use Rattle.vm_templates.specs.Commands.{IsShape, HasRoom, HasValues, topmost, second, Ready, Effect, next}
use Rattle.vm_machine.specs.State.{Frame, State, words_in_use}
use Rattle.vm_machine.specs.Step.{Acts, fit_outcome, operate, binary_outcome, unary_outcome, goes, after}
use Rattle.vm_machine.specs.Sound.{IsSoundState}
use Rattle.vm_translator.specs.Stands.{SameMemory}
use Rattle.vm_translator.specs.Carries.{Carries}
use Rattle.vm_translator.proofs.Frames.{inner_of, left_words, left_two, pushed_same, joined_same, turned_same}
use Rattle.vm_translator.proofs.Cases.{goes_case, top_case, two_case, grown, values_in_use}

joined_equal : (m after : ℕ → ℕ) (x y : ℕ) → Joined m after (equal x y) → Joined m after (truth (nat_eq x y))
unfolding equal
joined_equal m after x y j = j

joined_greater : (m after : ℕ → ℕ) (x y : ℕ) → Joined m after (greater x y) → Joined m after (truth (int_lt (signed_value y) (signed_value x)))
unfolding greater
joined_greater m after x y j = j

joined_less : (m after : ℕ → ℕ) (x y : ℕ) → Joined m after (less x y) → Joined m after (truth (int_lt (signed_value x) (signed_value y)))
unfolding less
joined_less m after x y j = j

module _ (address : Option ℕ → ℕ → ℕ) (l : Linked) (v : State) (f : Frame) (below : List Frame) (m : ℕ → ℕ) (e : v.frames ≡ f ∷ below) (sound : IsSoundState l v) (h : SameMemory address v m) (here : ℕ) where
  room : words_in_use (f ∷ below) ≤ 1792
  room = subst (λ fs. words_in_use fs ≤ 1792) e sound.room

  sp_is : m 0 ≡ 256 + words_in_use (f ∷ below)
  sp_is = h.sp ∙ ap (λ fs. 256 + words_in_use fs) e

  has_values : (n : ℕ) → n ≤ length f.values → HasValues n m
  has_values n k = (omega (arith, sp_is, values_in_use f below), omega (arith, sp_is, room))

  -- what pushes a word
  pub push_carries : (c : Shape) (w : ℕ) (heard h' : Bool) (v' : State) → IsShape c → (HasRoom 1 m → Ready c m) → ((t : ℕ → ℕ) → Effect c here m t → Pushed m t w) → next c here m ≡ address f.function (f.place + 1)
      → fit_outcome (Acts h' (record v { frames = after f (w ∷ f.values) ∷ below })) ≡ Acts heard v' → Carries address c here m v'
  push_carries c w heard h' v' fits ready effect to acts =
      let a = goes_case h' heard (record v { frames = after f (w ∷ f.values) ∷ below }) v' acts in
      let more = grown f (after f (w ∷ f.values)) below refl refl in
      subst (Carries address c here m) a.0 (record {
        shape = fits;
        ready = ready (omega (arith, sp_is), omega (arith, sp_is, more, a.2));
        leads = λ t p. pushed_same address v f below (f.place + 1) w m t e h (effect t p) (omega (arith, more, a.2));
        to = to;
      })

  -- what joins two values
  join_carries : (c : Shape) (op : ℕ → ℕ → ℕ) (heard : Bool) (v' : State) → IsShape c → (HasValues 2 m → Ready c m) → ((t : ℕ → ℕ) → Effect c here m t → Joined m t (op (second m) (topmost m))) → next c here m ≡ address f.function (f.place + 1)
      → fit_outcome (binary_outcome op v f below) ≡ Acts heard v' → Carries address c here m v'
  join_carries c op heard v' fits ready effect to acts =
      let two = two_case f.values (λ x y values. goes v below (after f (op x y ∷ values))) heard v' acts in
      let y = two.0 in
      let x = two.1 in
      let values = two.2 in
      let is = two.3 in
      let a = goes_case false heard (record v { frames = after f (op x y ∷ values) ∷ below }) v' two.4 in
      let n = ap length is in
      let l = left_two address f below m y x values is (inner_of address v f below m e h) in
      let value : op (second m) (topmost m) ≡ op x y = rw (l.1, l.2) refl in
      subst (Carries address c here m) a.0 (record {
        shape = fits;
        ready = ready (has_values 2 (omega arith));
        leads = λ t p. joined_same address v f below (f.place + 1) y x (op x y) values m t e is h (subst (Joined m t) value (effect t p)) room;
        to = to;
      })

  -- what turns one value
  turn_carries : (c : Shape) (op : ℕ → ℕ) (heard : Bool) (v' : State) → IsShape c → (HasValues 1 m → Ready c m) → ((t : ℕ → ℕ) → Effect c here m t → Turned m t (op (topmost m))) → next c here m ≡ address f.function (f.place + 1)
      → fit_outcome (unary_outcome op v f below) ≡ Acts heard v' → Carries address c here m v'
  turn_carries c op heard v' fits ready effect to acts =
      let one = top_case f.values (λ x values. goes v below (after f (op x ∷ values))) heard v' acts in
      let x = one.0 in
      let values = one.1 in
      let is = one.2 in
      let a = goes_case false heard (record v { frames = after f (op x ∷ values) ∷ below }) v' one.3 in
      let n = ap length is in
      let l = left_words address f below m x values is (inner_of address v f below m e h) in
      let value : op (topmost m) ≡ op x = ap op l.1 in
      subst (Carries address c here m) a.0 (record {
        shape = fits;
        ready = ready (has_values 1 (omega arith));
        leads = λ t p. turned_same address v f below (f.place + 1) x (op x) values m t e is h (subst (Turned m t) value (effect t p)) room;
        to = to;
      })

  pub operate_carries : (o : Operation) (heard : Bool) (v' : State) → next (shape.Operate o) here m ≡ address f.function (f.place + 1) → fit_outcome (operate o v f below) ≡ Acts heard v' → Carries address (shape.Operate o) here m v'
  operate_carries operation.Add heard v' to acts = join_carries (shape.Operate operation.Add) word_add heard v' tt (λ r. r) (λ t p. p) to acts
  operate_carries operation.Sub heard v' to acts = join_carries (shape.Operate operation.Sub) word_sub heard v' tt (λ r. r) (λ t p. p) to acts
  operate_carries operation.And heard v' to acts = join_carries (shape.Operate operation.And) bit_and heard v' tt (λ r. r) (λ t p. p) to acts
  operate_carries operation.Or heard v' to acts = join_carries (shape.Operate operation.Or) bit_or heard v' tt (λ r. r) (λ t p. p) to acts
  operate_carries operation.Neg heard v' to acts = turn_carries (shape.Operate operation.Neg) word_neg heard v' tt (λ r. r) (λ t p. p) to acts
  operate_carries operation.Not heard v' to acts = turn_carries (shape.Operate operation.Not) word_not heard v' tt (λ r. r) (λ t p. p) to acts
  operate_carries operation.ShiftLeft heard v' to acts = turn_carries (shape.Operate operation.ShiftLeft) word_shl heard v' tt (λ r. r) (λ t p. p) to acts
  operate_carries operation.ShiftRight heard v' to acts = turn_carries (shape.Operate operation.ShiftRight) word_shr heard v' tt (λ r. r) (λ t p. p) to acts
  operate_carries operation.Eq heard v' to acts = join_carries (shape.Operate operation.Eq) (λ x y. truth (nat_eq x y)) heard v' tt (λ r. r) (λ t p. joined_equal m t (second m) (topmost m) p) to acts
  operate_carries operation.Gt heard v' to acts = join_carries (shape.Operate operation.Gt) (λ x y. truth (int_lt (signed_value y) (signed_value x))) heard v' tt (λ r. r) (λ t p. joined_greater m t (second m) (topmost m) p) to acts
  operate_carries operation.Lt heard v' to acts = join_carries (shape.Operate operation.Lt) (λ x y. truth (int_lt (signed_value x) (signed_value y))) heard v' tt (λ r. r) (λ t p. joined_less m t (second m) (topmost m) p) to acts
