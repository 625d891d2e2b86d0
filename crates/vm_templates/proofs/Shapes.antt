-- The effect of each command, from where it stands.
use Rattle.std.proofs.Common.{true, false, ◌≡◌, ◌≢◌, inl, inr, None, ℕ, suc, ◌+◌, ◌-◌, ◌*◌, ◌<◌, ◌≤◌, ◌%◌, List, [], ◌∷◌, take, refl, sym, subst, ap, ◌∙◌, arith}
use Rattle.std.specs.Prelude.{if◌then◌else◌, nat_eq, bit_and, bit_or}
use Rattle.std.proofs.lemmas.Bool.Decides.{nat_tests}
use Rattle.std.proofs.lemmas.Nat.{and_comm}
use Rattle.std.specs.Int.Bits.{or_add_and}
use Rattle.word16.specs.Words.{word_add, word_sub}
use Rattle.hack_isa.specs.Machine.{Machine}
use Rattle.simulation.specs.System.{IsData}
use Rattle.vm_tree.specs.declared.command.Operation.TheVariants.{Add, Sub, And, Or, Neg, Not, ShiftLeft, ShiftRight, Eq, Gt, Lt}
use Rattle.vm_templates.specs.declared.shape.Shape.{Shape}
use Rattle.vm_templates.specs.declared.shape.Shape.TheVariants.{PushConstant, PushAt, PushFirst, PushWord, PopAt, PopFirst, PopWord, Operate, Goto, IfGoto, Call, Function, Return}
use Rattle.hack_isa.specs.declared.Instr.TheVariants.{Compute}
use Rattle.vm_templates.specs.declared.routines.Routines.{Routines}
use Rattle.vm_templates.specs.Templates.{join, push_at, push_first, pop_at, pop_first, size, routine_of}
use Rattle.vm_templates.proofs.Alu.{comp_value}
use Rattle.vm_templates.specs.declared.instructions.TheConstants.{M_IS_D}
use Rattle.vm_templates.specs.Computer.{Stands}
use Rattle.vm_templates.specs.Going.{arrived, further, Does, DoesHearing}
use Rattle.vm_templates.specs.Effects.{Pushed, Joined, Stored, HasWords}
use Rattle.vm_templates.specs.Commands.{HasValues, HasRoom, address_at, topmost, second, Ready, PushesFrom, PopsTo, MayStore, Effect, next, IsAt, IsInside, last_of, Goes, After, CommandsGo}
use Rattle.vm_templates.proofs.Placed.{size_some}
use Rattle.vm_templates.proofs.Block.{Data, AreWords, at, within, from_place, up_to}
use Rattle.vm_templates.proofs.Commands.{push_constant_goes, push_word_goes, push_at_goes, push_first_goes, pop_word_goes, join_goes, turn_goes, shift_goes, push_key_goes, push_any_goes, push_ends_goes, ready_at, ready_first, pop_to_goes, pop_any_goes}
use Rattle.vm_templates.proofs.Compare.{eq_goes, gt_goes, lt_goes}
use Rattle.vm_templates.proofs.Calls.{go_to_goes, if_go_to_goes, function_goes, call_goes, return_goes}

-- what may be written, said more widely
may : {image : List ℕ} {inside : ℕ → Type 0} {last : ℕ} {p q : Type 0} {goal : Machine → Type 0} (n : ℕ) (s : Machine) → (p → q) → Does image inside last p goal n s → Does image inside last q goal n s
may n s f (arrived l) = arrived (record { place = l.place; write = λ b. f (l.write b); no_key = l.no_key; leads = l.leads })
may (suc n) s f (further q r) = further q (λ key w. may n _ f (r key w))

or_comm : (a b : ℕ) → bit_or a b ≡ bit_or b a
or_comm a b = omega (arith, or_add_and a b, or_add_and b a, and_comm a b)

at_zero : (v a b : ℕ) → v ≡ 0 → a ≡ (if nat_eq v 0 then a else b)
at_zero v a b e = grind (arith, nat_tests)

not_zero : (v a b : ℕ) → v ≢ 0 → b ≡ (if nat_eq v 0 then a else b)
not_zero v a b e = grind (arith, nat_tests)

abbrev pub data_of : Machine → Data
data_of s = record { a = s.a; d = s.d; m = s.memory }

data_words : (s : Machine) → HasWords s → AreWords (data_of s)
data_words s w = record { a_word = w.a_word; d_word = w.d_word; m_words = w.memory_words }

-- `inside` may be more than the addresses of the command up to its last.
module _ (image : List ℕ) (rs : Routines) (inside : ℕ → Type 0) (s : Machine) (last : ℕ) (places : (k : ℕ) → s.pc ≤ k → k < last → inside k) where
  abbrev x : Data
  x = data_of s

  after : (c : Shape) (effect : (ℕ → ℕ) → (ℕ → ℕ) → Type 0) (pc : ℕ) (y : Data) → AreWords y → pc ≡ next c s.pc s.memory → effect s.memory y.m → After c effect s (at pc y)
  after c effect pc y w e p = record { words = record { a_word = w.a_word; d_word = w.d_word; memory_words = w.m_words }; pc = e; change = p }

  -- the address after the command
  ends_at : (n : ℕ) → last + 1 ≡ s.pc + n → (last + 1) % 32768 ≡ (s.pc + n) % 32768
  ends_at n e = ap (λ k. k % 32768) e

  swapped : (r i : ℕ) → (i + s.memory r) % 65536 ≡ address_at s.memory r i
  swapped r i = let z : i + s.memory r ≡ s.memory r + i = omega arith in ap (λ k. k % 65536) z

  -- where M=D stands, the last instruction of a pop
  stores : (r i : ℕ) → IsAt image rs (PopAt r i) s → last + 1 ≡ s.pc + 12 → Stands image last (M_IS_D ∷ [])
  stores r i here e = let z : s.pc + 11 ≡ last = omega arith in subst (λ k. Stands image k (M_IS_D ∷ [])) z (from_place image s.pc 11 (pop_at r i) here.stands)

  stores_first : (r : ℕ) → IsAt image rs (PopFirst r) s → last + 1 ≡ s.pc + 6 → Stands image last (M_IS_D ∷ [])
  stores_first r here e = let z : s.pc + 5 ≡ last = omega arith in subst (λ k. Stands image k (M_IS_D ∷ [])) z (from_place image s.pc 5 (pop_first r) here.stands)

  joined : (c : Shape) (comp v : ℕ) → size c ≡ 5 → IsAt image rs c s → Stands image s.pc (join (Compute true comp 1 0)) → last + 1 ≡ s.pc + size c → HasValues 2 s.memory → comp_value comp (topmost s.memory) (second s.memory) ≡ v
      → ((y : Data) → AreWords y → Joined s.memory y.m v → After c (Effect c s.pc) s (at ((last + 1) % 32768) y)) → Does image inside last ⊥ (After c (Effect c s.pc) s) 4 s
  joined c comp v five here st e ready v_is go =
      let low = here.low in
      join_goes image inside s.pc last (omega arith) places x (data_words s here.words) comp st (omega arith) ready.0 ready.1 (λ y wy p. go y wy (subst (Joined s.memory y.m) v_is p))

  pub command_goes : (c : Shape) → routine_of c ≡ None → IsAt image rs c s → last + 1 ≡ s.pc + size c → Ready c s.memory → Does image inside last (MayStore c s.memory) (After c (Effect c s.pc) s) (size c - 1) s
  command_goes (PushConstant n) none here e ready =
      let w = data_words s here.words in
      let low = here.low in
      let c = PushConstant n in
      push_constant_goes image inside s.pc last (omega arith) places x w n here.shape here.stands (omega arith) ready.0 (omega (arith, ready.1)) (λ y wy p. after c (Effect c s.pc) ((last + 1) % 32768) y wy (ends_at 6 e) p)
  command_goes (PushAt r i) none here e ready =
      let w = data_words s here.words in
      let low = here.low in
      let shape = here.shape in
      let a_is = swapped r i in
      let c = PushAt r i in
      push_at_goes image inside s.pc last (omega arith) places x w r i (omega (arith, shape.1)) shape.2 (omega (arith, ready.1, a_is)) here.stands (omega arith) (ready.0).0 (omega (arith, (ready.0).1))
      (λ y wy p. after c (Effect c s.pc) ((last + 1) % 32768) y wy (ends_at 9 e) (subst (λ k. Pushed s.memory y.m (s.memory k)) a_is p))
  command_goes (PushFirst r) none here e ready =
      let w = data_words s here.words in
      let low = here.low in
      let shape = here.shape in
      let c = PushFirst r in
      push_first_goes image inside s.pc last (omega arith) places x w r (omega (arith, shape.1)) ready.1 here.stands (omega arith) (ready.0).0 (omega (arith, (ready.0).1)) (λ y wy p. after c (Effect c s.pc) ((last + 1) % 32768) y wy (ends_at 7 e) p)
  command_goes (PushWord r) none here e ready =
      let w = data_words s here.words in
      let low = here.low in
      let shape = here.shape in
      let c = PushWord r in
      push_word_goes image inside s.pc last (omega arith) places x w r (omega (arith, shape.1)) here.stands (omega arith) ready.0 (omega (arith, ready.1)) (λ y wy p. after c (Effect c s.pc) ((last + 1) % 32768) y wy (ends_at 6 e) p)
  command_goes (PopAt r i) none here e ready =
      let w = data_words s here.words in
      let low = here.low in
      let shape = here.shape in
      let a_is = swapped r i in
      let c = PopAt r i in
      let z : IsData ((i + s.memory r) % 65536) → IsData (address_at s.memory r i) = subst IsData a_is in
      may 11 s z
      (pop_to_goes image inside s.pc last (omega arith) places x w (take 11 (pop_at r i)) 11 ((i + s.memory r) % 65536) refl (up_to image s.pc 11 (pop_at r i) here.stands) (stores r i here e) (omega arith)
      (ready_at image inside s.pc last (omega arith) places x w r i (ready.0).0 (ready.0).1 shape.0 (omega (arith, shape.1)) shape.2) (omega (arith, ready.1, a_is)) (omega (arith, ready.2, a_is))
      (λ y wy p. after c (Effect c s.pc) ((last + 1) % 32768) y wy (ends_at 12 e) (subst (Stored s.memory y.m) a_is p)))
  command_goes (PopFirst r) none here e ready =
      let w = data_words s here.words in
      let low = here.low in
      let shape = here.shape in
      let c = PopFirst r in
      pop_to_goes image inside s.pc last (omega arith) places x w (take 5 (pop_first r)) 5 (s.memory r) refl (up_to image s.pc 5 (pop_first r) here.stands) (stores_first r here e) (omega arith)
      (ready_first image inside s.pc last (omega arith) places x w r (ready.0).0 (ready.0).1 shape.0 (omega (arith, shape.1))) ready.1 ready.2
      (λ y wy p. after c (Effect c s.pc) ((last + 1) % 32768) y wy (ends_at 6 e) p)
  command_goes (PopWord r) none here e ready =
      let w = data_words s here.words in
      let low = here.low in
      let shape = here.shape in
      let c = PopWord r in
      pop_word_goes image inside s.pc last (omega arith) places x w r (omega (arith, shape.0)) shape.1 here.stands (omega arith) ready.0 ready.1 (λ y wy p. after c (Effect c s.pc) ((last + 1) % 32768) y wy (ends_at 5 e) p)
  command_goes (Operate Add) none here e ready =
      let z : topmost s.memory + second s.memory ≡ second s.memory + topmost s.memory = omega arith in
      joined (Operate Add) 2 (word_add (second s.memory) (topmost s.memory)) refl here here.stands e ready (ap (λ k. k % 65536) z) (λ y wy p. after (Operate Add) (Effect (Operate Add) s.pc) ((last + 1) % 32768) y wy (ends_at 5 e) p)
  command_goes (Operate Sub) none here e ready =
      joined (Operate Sub) 7 (word_sub (second s.memory) (topmost s.memory)) refl here here.stands e ready refl (λ y wy p. after (Operate Sub) (Effect (Operate Sub) s.pc) ((last + 1) % 32768) y wy (ends_at 5 e) p)
  command_goes (Operate And) none here e ready =
      joined (Operate And) 0 (bit_and (second s.memory) (topmost s.memory)) refl here here.stands e ready (and_comm (topmost s.memory) (second s.memory)) (λ y wy p. after (Operate And) (Effect (Operate And) s.pc) ((last + 1) % 32768) y wy (ends_at 5 e) p)
  command_goes (Operate Or) none here e ready =
      joined (Operate Or) 21 (bit_or (second s.memory) (topmost s.memory)) refl here here.stands e ready (or_comm (topmost s.memory) (second s.memory)) (λ y wy p. after (Operate Or) (Effect (Operate Or) s.pc) ((last + 1) % 32768) y wy (ends_at 5 e) p)
  command_goes (Operate Neg) none here e ready =
      let w = data_words s here.words in
      let low = here.low in
      turn_goes image inside s.pc last (omega arith) places x w 51 here.stands (omega arith) ready.0 ready.1 (λ y wy p. after (Operate Neg) (Effect (Operate Neg) s.pc) ((last + 1) % 32768) y wy (ends_at 3 e) p)
  command_goes (Operate Not) none here e ready =
      let w = data_words s here.words in
      let low = here.low in
      turn_goes image inside s.pc last (omega arith) places x w 49 here.stands (omega arith) ready.0 ready.1 (λ y wy p. after (Operate Not) (Effect (Operate Not) s.pc) ((last + 1) % 32768) y wy (ends_at 3 e) p)
  command_goes (Operate ShiftLeft) none here e ready =
      let w = data_words s here.words in
      let low = here.low in
      shift_goes image inside s.pc last (omega arith) places x w true here.stands (omega arith) ready.0 ready.1 (λ y wy p. after (Operate ShiftLeft) (Effect (Operate ShiftLeft) s.pc) ((last + 1) % 32768) y wy (ends_at 3 e) p)
  command_goes (Operate ShiftRight) none here e ready =
      let w = data_words s here.words in
      let low = here.low in
      shift_goes image inside s.pc last (omega arith) places x w false here.stands (omega arith) ready.0 ready.1 (λ y wy p. after (Operate ShiftRight) (Effect (Operate ShiftRight) s.pc) ((last + 1) % 32768) y wy (ends_at 3 e) p)
  command_goes (Operate Eq) none here e ready = absurd (cc none)
  command_goes (Operate Gt) none here e ready = absurd (cc none)
  command_goes (Operate Lt) none here e ready = absurd (cc none)
  command_goes (Goto target) none here e ready =
      let w = data_words s here.words in
      let low = here.low in
      let c = Goto target in
      go_to_goes image inside s.pc last (omega arith) places x w target here.shape here.stands (omega arith) (λ y wy p. after c (Effect c s.pc) target y wy refl (λ k. ap (λ (m : ℕ → ℕ). m k) p))
  command_goes (IfGoto target) none here e ready =
      let w = data_words s here.words in
      let low = here.low in
      let c = IfGoto target in
      if_go_to_goes image inside s.pc last (omega arith) places x w target here.shape here.stands (omega arith) ready.0 ready.1
      (λ y wy p. ((λ n. after c (Effect c s.pc) target y wy (not_zero (topmost s.memory) ((s.pc + 5) % 32768) target n) p), (λ z. after c (Effect c s.pc) ((last + 1) % 32768) y wy (ends_at 5 e ∙ at_zero (topmost s.memory) ((s.pc + 5) % 32768) target z) p)))
  command_goes (Call target n) none here e ready = absurd (cc none)
  command_goes (Function n) none here e ready =
      let w = data_words s here.words in
      let low = here.low in
      let c = Function n in
      within (4 * n) (4 * n + 1 - 1) s (omega arith) (function_goes image inside s.pc last (omega arith) places x w n here.stands (omega arith) ready.0 ready.1 (λ y wy p. after c (Effect c s.pc) ((last + 1) % 32768) y wy (ends_at (4 * n + 1) e) p))
  command_goes Return none here e ready = absurd (cc none)

  pub push_hears : (c : Shape) → IsAt image rs c s → last + 1 ≡ s.pc + size c → HasRoom 1 s.memory → PushesFrom c s.memory 24576
      → DoesHearing image inside last ⊥ (λ key. After c (λ m after. Pushed m after key) s) (size c - 5) 3 s
  push_hears (PushAt r i) here e room from =
      let low = here.low in
      let shape = here.shape in
      let c = PushAt r i in
      push_key_goes image inside s.pc last (omega arith) places x (data_words s here.words) (take 4 (push_at r i)) 4 ((i + s.memory r) % 65536) refl (up_to image s.pc 4 (push_at r i) here.stands) (from_place image s.pc 4 (push_at r i) here.stands) (omega arith)
      refl refl (search arith) (swapped r i ∙ from) room.0 (omega (arith, room.1)) (λ key is_key y wy p. after c (λ m after. Pushed m after key) ((last + 1) % 32768) y wy (ends_at 9 e) p)
  push_hears (PushFirst r) here e room from =
      let low = here.low in
      let shape = here.shape in
      let c = PushFirst r in
      push_key_goes image inside s.pc last (omega arith) places x (data_words s here.words) (take 2 (push_first r)) 2 (s.memory r) refl (up_to image s.pc 2 (push_first r) here.stands) (from_place image s.pc 2 (push_first r) here.stands) (omega arith)
      refl refl (search arith) from room.0 (omega (arith, room.1)) (λ key is_key y wy p. after c (λ m after. Pushed m after key) ((last + 1) % 32768) y wy (ends_at 7 e) p)
  push_hears _ here e room from = absurd from

  pub push_strays : (c : Shape) (a : ℕ) → IsAt image rs c s → last + 1 ≡ s.pc + size c → HasRoom 1 s.memory → PushesFrom c s.memory a → a ≢ 24576
      → Does image inside last ⊥ (λ t. (v : ℕ) × After c (λ m after. Pushed m after v) s t) (size c - 1) s
  push_strays (PushAt r i) a here e room from other =
      let low = here.low in
      let shape = here.shape in
      let c = PushAt r i in
      push_any_goes image inside s.pc last (omega arith) places x (data_words s here.words) (take 4 (push_at r i)) 4 ((i + s.memory r) % 65536) refl (up_to image s.pc 4 (push_at r i) here.stands) (from_place image s.pc 4 (push_at r i) here.stands) (omega arith)
      refl refl (search arith) (λ q. other (sym (swapped r i ∙ from) ∙ q)) room.0 (omega (arith, room.1)) (λ v small y wy p. (v, after c (λ m after. Pushed m after v) ((last + 1) % 32768) y wy (ends_at 9 e) p))
  push_strays (PushFirst r) a here e room from other =
      let low = here.low in
      let shape = here.shape in
      let c = PushFirst r in
      push_any_goes image inside s.pc last (omega arith) places x (data_words s here.words) (take 2 (push_first r)) 2 (s.memory r) refl (up_to image s.pc 2 (push_first r) here.stands) (from_place image s.pc 2 (push_first r) here.stands) (omega arith)
      refl refl (search arith) (λ q. other (sym from ∙ q)) room.0 (omega (arith, room.1)) (λ v small y wy p. (v, after c (λ m after. Pushed m after v) ((last + 1) % 32768) y wy (ends_at 7 e) p))
  push_strays _ a here e room from other = absurd from

  pub push_ends : (c : Shape) (a : ℕ) → IsAt image rs c s → last + 1 ≡ s.pc + size c → PushesFrom c s.memory a → a ≢ 24576 → Does image inside last (Unit {0}) (λ t. Unit {0}) (size c - 1) s
  push_ends (PushAt r i) a here e from other =
      let low = here.low in
      let shape = here.shape in
      push_ends_goes image inside s.pc last (omega arith) places x (data_words s here.words) (take 4 (push_at r i)) 4 ((i + s.memory r) % 65536) refl (up_to image s.pc 4 (push_at r i) here.stands) (from_place image s.pc 4 (push_at r i) here.stands) (omega arith)
      refl refl (search arith) (λ q. other (sym (swapped r i ∙ from) ∙ q))
  push_ends (PushFirst r) a here e from other =
      let low = here.low in
      let shape = here.shape in
      push_ends_goes image inside s.pc last (omega arith) places x (data_words s here.words) (take 2 (push_first r)) 2 (s.memory r) refl (up_to image s.pc 2 (push_first r) here.stands) (from_place image s.pc 2 (push_first r) here.stands) (omega arith)
      refl refl (search arith) (λ q. other (sym from ∙ q))
  push_ends _ a here e from other = absurd from

  pub pop_ends : (c : Shape) (a : ℕ) → IsAt image rs c s → last + 1 ≡ s.pc + size c → HasValues 1 s.memory → PopsTo c s.memory a → Does image inside last (Unit {0}) (λ t. Unit {0}) (size c - 1) s
  pop_ends (PopAt r i) a here e some to =
      let w = data_words s here.words in
      let low = here.low in
      let shape = here.shape in
      pop_any_goes image inside s.pc last (omega arith) places x w (take 11 (pop_at r i)) 11 ((i + s.memory r) % 65536) refl (up_to image s.pc 11 (pop_at r i) here.stands) (stores r i here e) (omega arith)
      (ready_at image inside s.pc last (omega arith) places x w r i some.0 some.1 shape.0 (omega (arith, shape.1)) shape.2)
  pop_ends (PopFirst r) a here e some to =
      let w = data_words s here.words in
      let low = here.low in
      let shape = here.shape in
      pop_any_goes image inside s.pc last (omega arith) places x w (take 5 (pop_first r)) 5 (s.memory r) refl (up_to image s.pc 5 (pop_first r) here.stands) (stores_first r here e) (omega arith)
      (ready_first image inside s.pc last (omega arith) places x w r some.0 some.1 shape.0 (omega (arith, shape.1)))
  pop_ends _ a here e some to = absurd to

-- the command at its own addresses and those of its routine
module _ (image : List ℕ) (rs : Routines) (s : Machine) where
  own : (c : Shape) (k : ℕ) → s.pc ≤ k → k < s.pc + size c - 1 → (s.pc ≤ k) × (k + 1 < s.pc + size c)
  own c k a b = (a, omega arith)

  its_last : (c : Shape) → s.pc + size c - 1 + 1 ≡ s.pc + size c
  its_last c = let some = size_some c in omega (arith, some)

  abbrev Does_own : Shape → Type 0 → (Machine → Type 0) → Type 0
  Does_own c may goal = Does image (λ k. (s.pc ≤ k) × (k + 1 < s.pc + size c)) (s.pc + size c - 1) may goal (size c - 1) s

  -- one without a routine
  alone : (c : Shape) → routine_of c ≡ None → IsAt image rs c s → Ready c s.memory → Does_own c (MayStore c s.memory) (After c (Effect c s.pc) s)
  alone c none here ready = command_goes image rs (λ k. (s.pc ≤ k) × (k + 1 < s.pc + size c)) s (s.pc + size c - 1) (own c) c none here (its_last c) ready

  goes_by : (c : Shape) → IsAt image rs c s → Ready c s.memory → Goes image rs c (MayStore c s.memory) (After c (Effect c s.pc) s) s
  goes_by (PushConstant n) here ready = alone (PushConstant n) refl here ready
  goes_by (PushAt r i) here ready = alone (PushAt r i) refl here ready
  goes_by (PushFirst r) here ready = alone (PushFirst r) refl here ready
  goes_by (PushWord r) here ready = alone (PushWord r) refl here ready
  goes_by (PopAt r i) here ready = alone (PopAt r i) refl here ready
  goes_by (PopFirst r) here ready = alone (PopFirst r) refl here ready
  goes_by (PopWord r) here ready = alone (PopWord r) refl here ready
  goes_by (Operate Add) here ready = alone (Operate Add) refl here ready
  goes_by (Operate Sub) here ready = alone (Operate Sub) refl here ready
  goes_by (Operate And) here ready = alone (Operate And) refl here ready
  goes_by (Operate Or) here ready = alone (Operate Or) refl here ready
  goes_by (Operate Neg) here ready = alone (Operate Neg) refl here ready
  goes_by (Operate Not) here ready = alone (Operate Not) refl here ready
  goes_by (Operate ShiftLeft) here ready = alone (Operate ShiftLeft) refl here ready
  goes_by (Operate ShiftRight) here ready = alone (Operate ShiftRight) refl here ready
  goes_by (Operate Eq) here ready =
      let inside : ℕ → Type 0 = IsInside rs s.pc (Operate Eq) in
      let back : ℕ = (s.pc + 4) % 32768 in
      let last : rs.equal + 15 ≡ rs.equal + 16 - 1 = omega arith in
      subst (λ l. Does image inside l ⊥ (After (Operate Eq) (Effect (Operate Eq) s.pc) s) 19 s) last
      (eq_goes image inside s.pc rs.equal (λ k a b. inl (a, b)) here.low (data_of s) (data_words s here.words) back (omega arith) here.shared.0 (λ k a b. inr (a, omega arith)) here.stands here.shared.1 ready.0 ready.1
      (λ y wy p. after image rs inside s 0 (λ k a b. absurd (omega arith)) (Operate Eq) (Effect (Operate Eq) s.pc) back y wy refl p))
  goes_by (Operate Gt) here ready =
      let inside : ℕ → Type 0 = IsInside rs s.pc (Operate Gt) in
      let back : ℕ = (s.pc + 4) % 32768 in
      let last : rs.greater + 37 ≡ rs.greater + 38 - 1 = omega arith in
      subst (λ l. Does image inside l ⊥ (After (Operate Gt) (Effect (Operate Gt) s.pc) s) 41 s) last
      (within 33 41 s (omega arith)
      (gt_goes image inside s.pc rs.greater (λ k a b. inl (a, b)) here.low (data_of s) (data_words s here.words) back (omega arith) here.shared.0 (λ k a b. inr (a, omega arith)) here.stands here.shared.1 ready.0 ready.1
      (λ y wy p. after image rs inside s 0 (λ k a b. absurd (omega arith)) (Operate Gt) (Effect (Operate Gt) s.pc) back y wy refl p)))
  goes_by (Operate Lt) here ready =
      let inside : ℕ → Type 0 = IsInside rs s.pc (Operate Lt) in
      let back : ℕ = (s.pc + 4) % 32768 in
      let last : rs.less + 37 ≡ rs.less + 38 - 1 = omega arith in
      subst (λ l. Does image inside l ⊥ (After (Operate Lt) (Effect (Operate Lt) s.pc) s) 41 s) last
      (within 33 41 s (omega arith)
      (lt_goes image inside s.pc rs.less (λ k a b. inl (a, b)) here.low (data_of s) (data_words s here.words) back (omega arith) here.shared.0 (λ k a b. inr (a, omega arith)) here.stands here.shared.1 ready.0 ready.1
      (λ y wy p. after image rs inside s 0 (λ k a b. absurd (omega arith)) (Operate Lt) (Effect (Operate Lt) s.pc) back y wy refl p)))
  goes_by (Goto target) here ready = alone (Goto target) refl here ready
  goes_by (IfGoto target) here ready = alone (IfGoto target) refl here ready
  goes_by (Call target n) here ready =
      let c = Call target n in
      let inside : ℕ → Type 0 = IsInside rs s.pc (Call target n) in
      let back : ℕ = (s.pc + 12) % 32768 in
      let last : rs.call + 33 ≡ rs.call + 34 - 1 = omega arith in
      subst (λ l. Does image inside l ⊥ (After c (Effect c s.pc) s) 45 s) last
      (call_goes image inside s.pc rs.call (λ k a b. inl (a, b)) (λ k a b. inr (a, omega arith)) here.low here.shared.0 (data_of s) (data_words s here.words) back target n (omega arith) here.shape.0 here.shape.1 here.stands here.shared.1
      ready.0 ready.1
      (λ y wy p. after image rs inside s 0 (λ k a b. absurd (omega arith)) c (Effect c s.pc) target y wy refl p))
  goes_by (Function n) here ready = alone (Function n) refl here ready
  goes_by Return here ready =
      let inside : ℕ → Type 0 = IsInside rs s.pc Return in
      let last : rs.back + 39 ≡ rs.back + 40 - 1 = omega arith in
      subst (λ l. Does image inside l ⊥ (After Return (Effect Return s.pc) s) 41 s) last
      (return_goes image inside s.pc rs.back (λ k a b. inl (a, b)) (λ k a b. inr (a, omega arith)) here.low here.shared.0 (data_of s) (data_words s here.words) here.stands here.shared.1
      (ready.0).0 (ready.0).1 ready.1 ready.2 ready.3 ready.4
      (λ y wy p. after image rs inside s 0 (λ k a b. absurd (omega arith)) Return (Effect Return s.pc) (s.memory (s.memory 1 - 5)) y wy refl p))

  abbrev Hearing : Shape → Type 0
  Hearing c = DoesHearing image (IsInside rs s.pc c) (last_of rs s.pc c) ⊥ (λ key. After c (λ m after. Pushed m after key) s) (size c - 5) 3 s

  hears_by : (c : Shape) → IsAt image rs c s → HasRoom 1 s.memory → PushesFrom c s.memory 24576 → Hearing c
  hears_by (PushAt r i) here room from = push_hears image rs (λ k. (s.pc ≤ k) × (k + 1 < s.pc + 9)) s (s.pc + 9 - 1) (own (PushAt r i)) (PushAt r i) here (its_last (PushAt r i)) room from
  hears_by (PushFirst r) here room from = push_hears image rs (λ k. (s.pc ≤ k) × (k + 1 < s.pc + 7)) s (s.pc + 7 - 1) (own (PushFirst r)) (PushFirst r) here (its_last (PushFirst r)) room from
  hears_by _ here room from = absurd from

  strays_by : (c : Shape) (a : ℕ) → IsAt image rs c s → HasRoom 1 s.memory → PushesFrom c s.memory a → a ≢ 24576 → Goes image rs c ⊥ (λ t. (v : ℕ) × After c (λ m after. Pushed m after v) s t) s
  strays_by (PushAt r i) a here room from other = push_strays image rs (λ k. (s.pc ≤ k) × (k + 1 < s.pc + 9)) s (s.pc + 9 - 1) (own (PushAt r i)) (PushAt r i) a here (its_last (PushAt r i)) room from other
  strays_by (PushFirst r) a here room from other = push_strays image rs (λ k. (s.pc ≤ k) × (k + 1 < s.pc + 7)) s (s.pc + 7 - 1) (own (PushFirst r)) (PushFirst r) a here (its_last (PushFirst r)) room from other
  strays_by _ a here room from other = absurd from

  push_ends_by : (c : Shape) (a : ℕ) → IsAt image rs c s → PushesFrom c s.memory a → a ≢ 24576 → Goes image rs c (Unit {0}) (λ t. Unit {0}) s
  push_ends_by (PushAt r i) a here from other = push_ends image rs (λ k. (s.pc ≤ k) × (k + 1 < s.pc + 9)) s (s.pc + 9 - 1) (own (PushAt r i)) (PushAt r i) a here (its_last (PushAt r i)) from other
  push_ends_by (PushFirst r) a here from other = push_ends image rs (λ k. (s.pc ≤ k) × (k + 1 < s.pc + 7)) s (s.pc + 7 - 1) (own (PushFirst r)) (PushFirst r) a here (its_last (PushFirst r)) from other
  push_ends_by _ a here from other = absurd from

  pop_ends_by : (c : Shape) (a : ℕ) → IsAt image rs c s → HasValues 1 s.memory → PopsTo c s.memory a → Goes image rs c (Unit {0}) (λ t. Unit {0}) s
  pop_ends_by (PopAt r i) a here some to = pop_ends image rs (λ k. (s.pc ≤ k) × (k + 1 < s.pc + 12)) s (s.pc + 12 - 1) (own (PopAt r i)) (PopAt r i) a here (its_last (PopAt r i)) some to
  pop_ends_by (PopFirst r) a here some to = pop_ends image rs (λ k. (s.pc ≤ k) × (k + 1 < s.pc + 6)) s (s.pc + 6 - 1) (own (PopFirst r)) (PopFirst r) a here (its_last (PopFirst r)) some to
  pop_ends_by _ a here some to = absurd to

pub commands_go : CommandsGo
commands_go = record {
  goes = λ image rs c s here ready. goes_by image rs s c here ready;
  hears = λ image rs c s here room from. hears_by image rs s c here room from;
  strays = λ image rs c s a here room from other. strays_by image rs s c a here room from other;
  push_ends = λ image rs c s a here from other. push_ends_by image rs s c a here from other;
  pop_ends = λ image rs c s a here some to. pop_ends_by image rs s c a here some to;
}
