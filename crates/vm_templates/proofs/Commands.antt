-- How the computer goes through the commands without a jump, from their place in the image.
use Rattle.std.proofs.Common.{◌≡◌, ◌≢◌, ℕ, suc, ◌+◌, ◌-◌, ◌<◌, ◌≤◌, ◌%◌, Bool, true, false, List, [], ◌∷◌, length, take, drop, refl, ◌∙◌, sym, subst, arith}
use Rattle.std.proofs.lemmas.Bool.Decides.{nat_tests}
use Rattle.hack_isa.specs.Machine.{Machine}
use Rattle.word16.specs.Words.{word_shift}
use Rattle.hack_isa.specs.declared.Instr.{Instr}
use Rattle.hack_isa.specs.declared.Instr.TheVariants.{Compute, Shift}
use Rattle.simulation.specs.System.{IsData, IsKey}
use Rattle.vm_templates.specs.Templates.{push_d, push_constant, push_word, push_at, push_first, pop_word, pop_at, pop_first, join, turn}
use Rattle.vm_templates.specs.declared.instructions.TheConstants.{D_IS_M, M_IS_D}
use Rattle.vm_templates.specs.Computer.{Stands}
use Rattle.vm_templates.specs.Going.{Does, DoesHearing}
use Rattle.vm_templates.specs.Effects.{IsKept, Pushed, Joined, Turned, Stored}
use Rattle.vm_templates.proofs.Alu.{comp_value}
use Rattle.vm_templates.proofs.Block.{Data, AreWords, at, do_block, block_words, Safe, whole, block, from_place, up_to, within, hear, read_any, store_last, store_anywhere, put, put_words}
use Rattle.vm_templates.proofs.Straight.{push_d_does, push_constant_does, push_word_does, push_at_does, push_first_does, pop_word_does, join_does, turn_does, shift_does}

-- The command stands at `here`, and its last instruction at `last`.
module _ (image : List ℕ) (inside : ℕ → Type 0) (here last : ℕ) (fits : last < 32768) (places : (k : ℕ) → here ≤ k → k < last → inside k) (x : Data) (w : AreWords x) where
  abbrev pub Next : (Machine → Type 0) → Data → Type 0
  Next goal y = goal (at ((last + 1) % 32768) y)

  -- what a list of instructions does, where a property of the state after it is known
  pub goes : (is : List Instr) (n : ℕ) (Post : Data → Type 0) → length is ≡ suc n → Stands image here is → here + n ≡ last → Post (do_block is x) × Safe is x
      → {goal : Machine → Type 0} → ((y : Data) → AreWords y → Post y → Next goal y) → Does image inside last ⊥ goal n (at here x)
  goes is n Post l st e p go = whole image inside is n x here last l st p.1 w e fits places (go (do_block is x) (block_words is x p.1 w) p.0)

  pub push_constant_goes : (n : ℕ) → n < 32768 → Stands image here (push_constant n) → here + 5 ≡ last → 256 ≤ x.m 0 → x.m 0 < 2048
      → {goal : Machine → Type 0} → ((y : Data) → AreWords y → Pushed x.m y.m n → Next goal y) → Does image inside last ⊥ goal 5 (at here x)
  push_constant_goes n small st e low high go = goes (push_constant n) 5 (λ y. Pushed x.m y.m n) refl st e (push_constant_does x n low high small) go

  pub push_word_goes : (r : ℕ) → r < 24576 → Stands image here (push_word r) → here + 5 ≡ last → 256 ≤ x.m 0 → x.m 0 < 2048
      → {goal : Machine → Type 0} → ((y : Data) → AreWords y → Pushed x.m y.m (x.m r) → Next goal y) → Does image inside last ⊥ goal 5 (at here x)
  push_word_goes r small st e low high go = goes (push_word r) 5 (λ y. Pushed x.m y.m (x.m r)) refl st e (push_word_does x r low high small) go

  -- the word is one of memory
  pub push_at_goes : (r i : ℕ) → r < 24576 → i < 32768 → (i + x.m r) % 65536 < 24576 → Stands image here (push_at r i) → here + 8 ≡ last → 256 ≤ x.m 0 → x.m 0 < 2048
      → {goal : Machine → Type 0} → ((y : Data) → AreWords y → Pushed x.m y.m (x.m ((i + x.m r) % 65536)) → Next goal y) → Does image inside last ⊥ goal 8 (at here x)
  push_at_goes r i small index low_address st e low high go =
      goes (push_at r i) 8 (λ y. Pushed x.m y.m (x.m ((i + x.m r) % 65536))) refl st e (push_at_does x r i low high small index low_address) go

  pub push_first_goes : (r : ℕ) → r < 24576 → x.m r < 24576 → Stands image here (push_first r) → here + 6 ≡ last → 256 ≤ x.m 0 → x.m 0 < 2048
      → {goal : Machine → Type 0} → ((y : Data) → AreWords y → Pushed x.m y.m (x.m (x.m r)) → Next goal y) → Does image inside last ⊥ goal 6 (at here x)
  push_first_goes r small low_address st e low high go =
      goes (push_first r) 6 (λ y. Pushed x.m y.m (x.m (x.m r))) refl st e (push_first_does x r low high small low_address) go

  pub pop_word_goes : (r : ℕ) → 1 ≤ r → r < 256 → Stands image here (pop_word r) → here + 4 ≡ last → 257 ≤ x.m 0 → x.m 0 ≤ 2048
      → {goal : Machine → Type 0} → ((y : Data) → AreWords y → Stored x.m y.m r → Next goal y) → Does image inside last ⊥ goal 4 (at here x)
  pop_word_goes r one small st e low high go = goes (pop_word r) 4 (λ y. Stored x.m y.m r) refl st e (pop_word_does x r low high one small) go

  pub join_goes : (comp : ℕ) → Stands image here (join (Compute true comp 1 0)) → here + 4 ≡ last → 258 ≤ x.m 0 → x.m 0 ≤ 2048
      → {goal : Machine → Type 0} → ((y : Data) → AreWords y → Joined x.m y.m (comp_value comp (x.m (x.m 0 - 1)) (x.m (x.m 0 - 2))) → Next goal y) → Does image inside last ⊥ goal 4 (at here x)
  join_goes comp st e low high go =
      goes (join (Compute true comp 1 0)) 4 (λ y. Joined x.m y.m (comp_value comp (x.m (x.m 0 - 1)) (x.m (x.m 0 - 2)))) refl st e (join_does x comp low high) go

  pub turn_goes : (comp : ℕ) → Stands image here (turn (Compute true comp 1 0)) → here + 2 ≡ last → 257 ≤ x.m 0 → x.m 0 ≤ 2048
      → {goal : Machine → Type 0} → ((y : Data) → AreWords y → Turned x.m y.m (comp_value comp x.d (x.m (x.m 0 - 1))) → Next goal y) → Does image inside last ⊥ goal 2 (at here x)
  turn_goes comp st e low high go =
      goes (turn (Compute true comp 1 0)) 2 (λ y. Turned x.m y.m (comp_value comp x.d (x.m (x.m 0 - 1)))) refl st e (turn_does x comp low high) go

  pub shift_goes : (left : Bool) → Stands image here (turn (Shift true left false 1 0)) → here + 2 ≡ last → 257 ≤ x.m 0 → x.m 0 ≤ 2048
      → {goal : Machine → Type 0} → ((y : Data) → AreWords y → Turned x.m y.m (word_shift left (x.m (x.m 0 - 1))) → Next goal y) → Does image inside last ⊥ goal 2 (at here x)
  shift_goes left st e low high go =
      goes (turn (Shift true left false 1 0)) 2 (λ y. Turned x.m y.m (word_shift left (x.m (x.m 0 - 1)))) refl st e (shift_does x left low high) go

  -- A push of the word whose address the instructions before the last five have put in A.
  module _ (front : List Instr) (n address : ℕ) (len : length front ≡ n) (begins : Stands image here front) (pushes : Stands image (here + n) (D_IS_M ∷ push_d)) (e : here + n + 4 ≡ last) (a_is : (do_block front x).a ≡ address) (m_is : (do_block front x).m ≡ x.m) (safe : Safe front x) where
    abbrev y : Data
    y = do_block front x

    wy : AreWords y
    wy = block_words front x safe w

    abbrev with_word : ℕ → Data
    with_word v = record y { d = v }

    with_words : (v : ℕ) → v < 65536 → AreWords (with_word v)
    with_words v small = record { a_word = wy.a_word; d_word = small; m_words = wy.m_words }

    pushed : (v : ℕ) → 256 ≤ x.m 0 → x.m 0 < 2048 → Pushed x.m (do_block push_d (with_word v)).m v × Safe push_d (with_word v)
    pushed v low high =
        let q = push_d_does (with_word v) (subst (λ m. 256 ≤ m 0) (sym m_is) low) (subst (λ m. m 0 < 2048) (sym m_is) high) in
        (subst (λ m. Pushed m (do_block push_d (with_word v)).m v) m_is q.0, q.1)

    -- the last four instructions
    push_rest : (v : ℕ) → v < 65536 → 256 ≤ x.m 0 → x.m 0 < 2048 → {goal : Machine → Type 0} → ((z : Data) → AreWords z → Pushed x.m z.m v → Next goal z) → Does image inside last ⊥ goal 3 (at (here + n + 1) (with_word v))
    push_rest v small low high {goal} go =
        let q = pushed v low high in
        whole image inside push_d 3 (with_word v) (here + n + 1) last refl pushes.1 q.1 (with_words v small) (omega arith) fits (λ k b c. places k (omega arith) c)
        (go (do_block push_d (with_word v)) (block_words push_d (with_word v) q.1 (with_words v small)) q.0)

    -- The word is the key: it is read after these instructions, and goes on the stack.
    pub push_key_goes : address ≡ 24576 → 256 ≤ x.m 0 → x.m 0 < 2048
        → {goal : ℕ → Machine → Type 0} → ((key : ℕ) → IsKey key → (z : Data) → AreWords z → Pushed x.m z.m key → Next (goal key) z) → DoesHearing image inside last ⊥ goal n 3 (at here x)
    push_key_goes at_key low high {goal} go =
        within (length front + 0) n (at here x) (omega (arith, len))
        (block image inside front x here (here + n) 0 begins safe w (omega (arith, len)) (omega arith) (λ k b c. places k b (omega arith))
        (hear image inside (λ key. Does image inside last ⊥ (goal key) 3) y (here + n) 0 pushes.0 (a_is ∙ at_key) wy (omega arith) (places (here + n) (omega arith) (omega arith))
        (λ key is_key. push_rest key is_key low high (go key is_key))))

    -- Whatever is read there, if it is not the key: some word goes on the stack.
    pub push_any_goes : address ≢ 24576 → 256 ≤ x.m 0 → x.m 0 < 2048
        → {goal : Machine → Type 0} → ((v : ℕ) → v < 65536 → (z : Data) → AreWords z → Pushed x.m z.m v → Next goal z) → Does image inside last ⊥ goal (n + 4) (at here x)
    push_any_goes other low high {goal} go =
        within (length front + 4) (n + 4) (at here x) (omega (arith, len))
        (block image inside front x here (here + n) 4 begins safe w (omega (arith, len)) (omega arith) (λ k b c. places k b (omega arith))
        (read_any image inside y (here + n) 3 pushes.0 (λ q. other (sym a_is ∙ q)) wy (omega arith) (places (here + n) (omega arith) (omega arith))
        (λ v is_word. push_rest v is_word low high (go v is_word))))

    -- The same up to the last instruction, also where the stack is full: nothing is said of what it writes.
    pub push_ends_goes : address ≢ 24576 → Does image inside last (Unit {0}) (λ s. Unit {0}) (n + 4) (at here x)
    push_ends_goes other =
        within (length front + 4) (n + 4) (at here x) (omega (arith, len))
        (block image inside front x here (here + n) 4 begins safe w (omega (arith, len)) (omega arith) (λ k b c. places k b (omega arith))
        (read_any image inside y (here + n) 3 pushes.0 (λ q. other (sym a_is ∙ q)) wy (omega arith) (places (here + n) (omega arith) (omega arith))
        (λ v is_word.
        let z = with_word v in
        block image inside (take 3 push_d) z (here + n + 1) last 0 (up_to image (here + n + 1) 3 push_d pushes.1) (search arith) (with_words v is_word) (omega arith) fits (λ k b c. places k (omega arith) c)
        (store_anywhere image inside (do_block (take 3 push_d) z) last 0 (subst (λ k. Stands image k (drop 3 push_d)) (omega arith) (from_place image (here + n + 1) 3 push_d pushes.1)).0))))

  -- the topmost value is in D, to be stored at A
  pub record Ready (y : Data) (to : ℕ) : Type 0 where
    pub sp : y.m 0 ≡ x.m 0 - 1
    pub value : y.d ≡ x.m (x.m 0 - 1)
    pub address : y.a ≡ to
    pub same : (k : ℕ) → IsKept k → y.m k ≡ x.m k

  pub ready_at : (r i : ℕ) → 257 ≤ x.m 0 → x.m 0 ≤ 2048 → 1 ≤ r → r < 13 → i < 32768 → Ready (do_block (take 11 (pop_at r i)) x) ((i + x.m r) % 65536) × Safe (take 11 (pop_at r i)) x
  ready_at r i low high one small index =
      (record { sp = grind (arith, nat_tests); value = grind (arith, nat_tests); address = grind (arith, nat_tests); same = λ k h. grind (arith, nat_tests) }, search arith)

  pub ready_first : (r : ℕ) → 257 ≤ x.m 0 → x.m 0 ≤ 2048 → 1 ≤ r → r < 13 → Ready (do_block (take 5 (pop_first r)) x) (x.m r) × Safe (take 5 (pop_first r)) x
  ready_first r low high one small =
      (record { sp = grind (arith, nat_tests); value = grind (arith, nat_tests); address = grind (arith, nat_tests); same = λ k h. grind (arith, nat_tests) }, search arith)

  stored : (y : Data) (to : ℕ) → Ready y to → 256 ≤ to → Stored x.m (put y.m y.a y.d) to
  stored y to r high =
      let sp = r.sp in
      let value = r.value in
      let address = r.address in
      record { sp = grind (arith, nat_tests); there = grind (arith, nat_tests); same = λ k h e. let s = r.same k h in grind (arith, nat_tests) }

  -- A pop to the address that the instructions before the last have put in A.
  module _ (front : List Instr) (n to : ℕ) (len : length front ≡ n) (begins : Stands image here front) (stores : Stands image last (M_IS_D ∷ [])) (e : here + n ≡ last) (p : Ready (do_block front x) to × Safe front x) where
    -- It is one of memory.
    pub pop_to_goes : 256 ≤ to → to < 24576 → {goal : Machine → Type 0} → ((y : Data) → AreWords y → Stored x.m y.m to → Next goal y) → Does image inside last (IsData to) goal n (at here x)
    pop_to_goes high low {goal} go =
        let y = do_block front x in
        let wy = block_words front x p.1 w in
        let z : Data = record y { m = put y.m y.a y.d } in
        let wz : AreWords z = record { a_word = wy.a_word; d_word = wy.d_word; m_words = put_words true y.m y.a y.d wy.d_word wy.m_words } in
        let a_is = p.0.address in
        within (length front + 0) n (at here x) (omega (arith, len))
        (block image inside front x here last 0 begins p.1 w (omega (arith, len)) fits places
        (subst (λ a. Does image inside last (IsData a) goal 0 (at last y)) a_is (store_last image inside y last 0 stores.0 (omega (arith, a_is)) wy (go z wz (stored y to p.0 high)))))

    -- Wherever it is: the last instruction is reached, and nothing is said of what it writes.
    pub pop_any_goes : Does image inside last (Unit {0}) (λ s. Unit {0}) n (at here x)
    pop_any_goes =
        within (length front + 0) n (at here x) (omega (arith, len))
        (block image inside front x here last 0 begins p.1 w (omega (arith, len)) fits places (store_anywhere image inside (do_block front x) last 0 stores.0))
