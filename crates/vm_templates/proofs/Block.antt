-- Instructions that follow one another without a jump, as a function of A, D and the memory.
use Rattle.std.proofs.Common.{◌≡◌, ℕ, zero, suc, ◌+◌, ◌<◌, ◌≤◌, ◌%◌, Bool, true, false, List, [], ◌∷◌, ◌++◌, length, take, drop, ◌⊎◌, inl, inr, refl, ap, ◌∙◌, sym, subst, arith, ◌≢◌}
use Rattle.std.specs.Prelude.{nat_eq, if◌then◌else◌, slice_index}
use Rattle.std.proofs.lemmas.Grind.{common_steps}
use Rattle.std.proofs.lemmas.Bool.Decides.{nat_tests}
use Rattle.word16.specs.Words.{has_bit, word_shift}
use Rattle.hack_isa.specs.Table.{alu_out, instr_of}
use Rattle.hack_isa.specs.declared.Instr.{Instr}
use Rattle.hack_isa.specs.declared.Instr.TheVariants.{Address, Compute, Shift}
use Rattle.hack_isa.specs.Machine.{Machine, read, write, jumps, perform, fetch, step}
use Rattle.simulation.specs.System.{IsData, IsKey}
use Rattle.vm_templates.specs.Computer.{Stands}
use Rattle.vm_templates.specs.Going.{IsDataWrite, IsKeyRead, MayReadKey, Quiet, Hears, Reaches, Does, arrived, further}
use Rattle.hack_isa.proofs.Operations.{alu_48}
use Rattle.vm_templates.proofs.Alu.{comp_value, comp_is, comp_small}

-- what instructions without a jump change
pub record Data : Type 0 where
  pub a : ℕ
  pub d : ℕ
  pub m : ℕ → ℕ

abbrev pub at : ℕ → Data → Machine
at pc x = record { a = x.a; d = x.d; pc = pc; memory = x.m }

abbrev pub put : (ℕ → ℕ) → ℕ → ℕ → ℕ → ℕ
put m k v j = if nat_eq j k then v else m j

abbrev pub do_instr : Instr → Data → Data
do_instr (Address n) x = record x { a = n }
do_instr (Compute m comp dest jump) x =
    let out = comp_value comp x.d (if m then x.m x.a else x.a) in
    record { a = if has_bit dest 2 then out else x.a; d = if has_bit dest 1 then out else x.d; m = if has_bit dest 0 then put x.m x.a out else x.m }
do_instr (Shift m left d dest jump) x =
    let out = word_shift left (if d then x.d else (if m then x.m x.a else x.a)) in
    record { a = if has_bit dest 2 then out else x.a; d = if has_bit dest 1 then out else x.d; m = if has_bit dest 0 then put x.m x.a out else x.m }

abbrev pub do_block : List Instr → Data → Data
do_block [] x = x
do_block (i ∷ is) x = do_block is (do_instr i x)

abbrev pub when : Bool → Type 0 → Type 0
when true p = p
when false p = Unit {0}

-- no jump, and no shift of D; memory is read below the keyboard, and written below the data
abbrev pub SafeAt : Instr → Data → Type 0
SafeAt (Address n) x = n < 65536
SafeAt (Compute m comp dest jump) x = (jump ≡ 0) × when m (x.a < 24576) × when (has_bit dest 0) (x.a < 2048)
SafeAt (Shift m left d dest jump) x = (jump ≡ 0) × (d ≡ false) × when m (x.a < 24576) × when (has_bit dest 0) (x.a < 2048)

abbrev pub Safe : List Instr → Data → Type 0
Safe [] x = Unit {0}
Safe (i ∷ is) x = SafeAt i x × Safe is (do_instr i x)

pub record AreWords (x : Data) : Type 0 where
  pub a_word : x.a < 65536
  pub d_word : x.d < 65536
  pub m_words : (k : ℕ) → x.m k < 65536

write_is : (m : ℕ → ℕ) (k v : ℕ) → k < 24576 → write m k v ≡ put m k v
unfolding write
write_is m k v h =
    let each : (j : ℕ) → write m k v j ≡ put m k v j = λ j. grind (arith, common_steps, nat_tests) in
    λ i j. each j i

read_is : (m : ℕ → ℕ) (key k : ℕ) → k < 24576 → read m key k ≡ m k
unfolding read
read_is m key k h = grind (arith, common_steps, nat_tests)

no_jump : (out : ℕ) → jumps 0 out ≡ false
unfolding jumps
no_jump out = grind (arith, common_steps, nat_tests)

operand_is : (m : Bool) (memory : ℕ → ℕ) (key a : ℕ) → when m (a < 24576) → (if m then read memory key a else a) ≡ (if m then memory a else a)
operand_is true memory key a h = read_is memory key a h
operand_is false memory key a h = refl

memory_is : (b : Bool) (m : ℕ → ℕ) (k v : ℕ) → when b (k < 2048) → (if b then write m k v else m) ≡ (if b then put m k v else m)
memory_is true m k v h = write_is m k v (omega arith)
memory_is false m k v h = refl

operand_word : (m : Bool) (x : Data) → AreWords x → (if m then x.m x.a else x.a) < 65536
operand_word true x w = w.m_words x.a
operand_word false x w = w.a_word

choice_word : (b : Bool) (p q : ℕ) → p < 65536 → q < 65536 → (if b then p else q) < 65536
choice_word true p q hp hq = hp
choice_word false p q hp hq = hq

pub put_words : (b : Bool) (m : ℕ → ℕ) (k v : ℕ) → v < 65536 → ((j : ℕ) → m j < 65536) → (j : ℕ) → (if b then put m k v else m) j < 65536
put_words true m k v hv hm j = choice_word (nat_eq j k) v (m j) hv (hm j)
put_words false m k v hv hm j = hm j

shift_small : (left : Bool) (v : ℕ) → v < 65536 → word_shift left v < 65536
shift_small true v h = omega arith
shift_small false v h = grind (arith, nat_tests)

pub do_words : (i : Instr) (x : Data) → SafeAt i x → AreWords x → AreWords (do_instr i x)
do_words (Address n) x h w = record { a_word = h; d_word = w.d_word; m_words = w.m_words }
do_words (Compute m comp dest jump) x h w =
    let out = comp_value comp x.d (if m then x.m x.a else x.a) in
    let small : out < 65536 = comp_small comp x.d _ w.d_word (operand_word m x w) in
    record {
      a_word = choice_word (has_bit dest 2) out x.a small w.a_word;
      d_word = choice_word (has_bit dest 1) out x.d small w.d_word;
      m_words = put_words (has_bit dest 0) x.m x.a out small w.m_words;
    }
do_words (Shift m left d dest jump) x h w =
    let held = if d then x.d else (if m then x.m x.a else x.a) in
    let small : word_shift left held < 65536 = shift_small left held (choice_word d x.d _ w.d_word (operand_word m x w)) in
    record {
      a_word = choice_word (has_bit dest 2) (word_shift left held) x.a small w.a_word;
      d_word = choice_word (has_bit dest 1) (word_shift left held) x.d small w.d_word;
      m_words = put_words (has_bit dest 0) x.m x.a (word_shift left held) small w.m_words;
    }

after_out : (m : Bool) (comp dest jump key pc : ℕ) (x : Data) (out p : ℕ) (mem : ℕ → ℕ) → alu_out comp x.d (if m then read x.m key x.a else x.a) ≡ out → jumps jump out ≡ false → (pc + 1) % 32768 ≡ p → (if has_bit dest 0 then write x.m x.a out else x.m) ≡ mem → (let after : Machine = record { a = if has_bit dest 2 then out else x.a; d = if has_bit dest 1 then out else x.d; pc = p; memory = mem } in perform (Compute m comp dest jump) key (at pc x) ≡ after)
after_out m comp dest jump key pc x out p mem e j n w = rw (e, j, n, w)

after_shift : (m left d : Bool) (dest jump key pc : ℕ) (x : Data) (out p : ℕ) (mem : ℕ → ℕ) → word_shift left (if d then x.d else (if m then read x.m key x.a else x.a)) ≡ out → jumps jump out ≡ false → (pc + 1) % 32768 ≡ p → (if has_bit dest 0 then write x.m x.a out else x.m) ≡ mem → (let after : Machine = record { a = if has_bit dest 2 then out else x.a; d = if has_bit dest 1 then out else x.d; pc = p; memory = mem } in perform (Shift m left d dest jump) key (at pc x) ≡ after)
after_shift m left d dest jump key pc x out p mem e j n w = rw (e, j, n, w)

-- the machine does what `do_instr` says
perform_is : (i : Instr) (key pc : ℕ) (x : Data) → SafeAt i x → AreWords x → perform i key (at pc x) ≡ at ((pc + 1) % 32768) (do_instr i x)
perform_is (Address n) key pc x s w = refl
perform_is (Compute m comp dest jump) key pc x s w =
    let o = operand_is m x.m key x.a s.1 in
    let v = sym (comp_is comp x.d _ w.d_word (operand_word m x w)) in
    let j : (out : ℕ) → jumps jump out ≡ false = λ out. subst (λ n. jumps n out ≡ false) (sym s.0) (no_jump out) in
    after_out m comp dest jump key pc x _ _ _ (ap (λ y. alu_out comp x.d y) o ∙ v) (j _) refl (memory_is (has_bit dest 0) x.m x.a _ s.2)
perform_is (Shift m left d dest jump) key pc x s w =
    let o = operand_is m x.m key x.a s.2 in
    let j : (out : ℕ) → jumps jump out ≡ false = λ out. subst (λ n. jumps n out ≡ false) (sym s.0) (no_jump out) in
    after_shift m left d dest jump key pc x _ _ _ (ap (λ y. word_shift left (if d then x.d else y)) o) (j _) refl (memory_is (has_bit dest 0) x.m x.a _ s.3)

-- of a shift that is not of D, what may read is M
of_m : (m d : Bool) → d ≡ false → (m ≡ true) ⊎ (d ≡ true) → m ≡ true
of_m m d e (inl h) = h
of_m m d e (inr h) = absurd (cc (e, h))

step_is : (image : List ℕ) (key : ℕ) (s : Machine) → step image key s ≡ perform (fetch image s) key s
unfolding step
step_is image key s = refl

module _ (image : List ℕ) (inside : ℕ → Type 0) where
  step_at : (i : Instr) (key pc : ℕ) (x : Data) → instr_of (slice_index image pc) ≡ i → SafeAt i x → AreWords x → step image key (at pc x) ≡ at ((pc + 1) % 32768) (do_instr i x)
  unfolding step
  step_at i key pc x f s w = ap (λ c. perform c key (at pc x)) f ∙ perform_is i key pc x s w

  step_near : (i : Instr) (key pc : ℕ) (x : Data) → instr_of (slice_index image pc) ≡ i → pc + 1 < 32768 → SafeAt i x → AreWords x → step image key (at pc x) ≡ at (pc + 1) (do_instr i x)
  step_near i key pc x f h s w =
      let e : (pc + 1) % 32768 ≡ pc + 1 = omega arith in
      step_at i key pc x f s w ∙ ap (λ p. at p (do_instr i x)) e

  not_data : (i : Instr) (pc : ℕ) (x : Data) → SafeAt i x → IsDataWrite i (at pc x) → ⊥
  not_data (Address n) pc x s b = b
  not_data (Compute m comp dest jump) pc x s b = let low = subst (λ v. when v (x.a < 2048)) b.0 s.2 in omega (arith, low, b.1)
  not_data (Shift m left d dest jump) pc x s b = let low = subst (λ v. when v (x.a < 2048)) b.0 s.3 in omega (arith, low, b.1)

  not_key : (i : Instr) (pc : ℕ) (x : Data) → SafeAt i x → MayReadKey i (at pc x) → ⊥
  not_key (Address n) pc x s b = b
  not_key (Compute m comp dest jump) pc x s b = let low = subst (λ v. when v (x.a < 24576)) b.0 s.1 in omega (arith, low, b.1)
  not_key (Shift m left d dest jump) pc x s b = let low = subst (λ v. when v (x.a < 24576)) (of_m m d s.1 b.0) s.2 in omega (arith, low, b.1)

  quiet_at : (i : Instr) (pc : ℕ) (x : Data) → instr_of (slice_index image pc) ≡ i → SafeAt i x → inside pc → Quiet image inside (at pc x)
  quiet_at i pc x f s p = record {
    place = p;
    no_write = λ b. not_data i pc x s (subst (λ c. IsDataWrite c (at pc x)) f b);
    no_key = λ b. not_key i pc x s (subst (λ c. MayReadKey c (at pc x)) f b);
  }

  -- a block, and what follows it
  pub block : {goal : Machine → Type 0} (is : List Instr) (x : Data) (pc end n : ℕ) → Stands image pc is → Safe is x → AreWords x → pc + length is ≡ end → end < 32768 → ((k : ℕ) → pc ≤ k → k < end → inside k) → Reaches image (Quiet image inside) goal n (at end (do_block is x)) → Reaches image (Quiet image inside) goal (length is + n) (at pc x)
  block {goal} [] x pc end n st s w e h p r =
      let e' : end ≡ pc = omega arith in
      let z : n ≡ 0 + n = omega arith in
      subst (λ k. Reaches image (Quiet image inside) goal k (at pc x)) z (subst (λ k. Reaches image (Quiet image inside) goal n (at k x)) e' r)
  block {goal} (i ∷ is) x pc end n st s w e h p r =
      let z : suc (length is + n) ≡ suc (length is) + n = omega arith in
      let e' : (pc + 1) + length is ≡ end = omega arith in
      let near : pc + 1 < 32768 = omega arith in
      let rest = block is (do_instr i x) (pc + 1) end n st.1 s.1 (do_words i x s.0 w) e' h (λ k a b. p k (omega arith) b) r in
      subst (λ k. Reaches image (Quiet image inside) goal k (at pc x)) z
      (further (quiet_at i pc x st.0 s.0 (p pc (omega arith) (omega arith)))
      (λ key small. subst (Reaches image (Quiet image inside) goal (length is + n)) (sym (step_near i key pc x st.0 near s.0 w)) rest))

  -- A whole command without a jump, up to its last instruction. After it the address may be 0, at the end of the longest image.
  pub whole : {goal : Machine → Type 0} (is : List Instr) (n : ℕ) (x : Data) (pc last : ℕ) → length is ≡ suc n → Stands image pc is → Safe is x → AreWords x → pc + n ≡ last → last < 32768 → ((k : ℕ) → pc ≤ k → k < last → inside k) → goal (at ((last + 1) % 32768) (do_block is x)) → Does image inside last ⊥ goal n (at pc x)
  whole {goal} [] n x pc last l st s w e h p g = absurd (omega arith)
  whole {goal} (i ∷ []) n x pc last l st s w e h p g =
      let e' : last ≡ pc = omega arith in
      arrived (record {
        place = sym e';
        write = λ b. not_data i pc x s.0 (subst (λ c. IsDataWrite c (at pc x)) st.0 b);
        no_key = λ b. not_key i pc x s.0 (subst (λ c. MayReadKey c (at pc x)) st.0 b);
        leads = λ key small. subst goal (sym (step_at i key pc x st.0 s.0 w)) (subst (λ k. goal (at ((k + 1) % 32768) (do_instr i x))) e' g);
      })
  whole {goal} (i ∷ j ∷ is) n x pc last l st s w e h p g =
      let m : length (j ∷ is) ≡ suc (length is) = refl in
      let z : suc (length is) ≡ n = omega arith in
      let e' : (pc + 1) + length is ≡ last = omega arith in
      let near : pc + 1 < 32768 = omega arith in
      let rest = whole {goal = goal} (j ∷ is) (length is) (do_instr i x) (pc + 1) last m st.1 s.1 (do_words i x s.0 w) e' h (λ k a b. p k (omega arith) b) g in
      subst (λ k. Does image inside last ⊥ goal k (at pc x)) z
      (further (quiet_at i pc x st.0 s.0 (p pc (omega arith) (omega arith)))
      (λ key small. subst (Does image inside last ⊥ goal (length is)) (sym (step_near i key pc x st.0 near s.0 w)) rest))

  -- a jump, whether it is taken or not
  abbrev pub IsJump : Instr → Data → ℕ → ℕ → Type 0
  IsJump (Address n) x pc to = ⊥
  IsJump (Compute m comp dest jump) x pc to = (m ≡ false) × (dest ≡ 0) × ((if jumps jump (comp_value comp x.d x.a) then x.a % 32768 else (pc + 1) % 32768) ≡ to)
  IsJump (Shift m left d dest jump) x pc to = ⊥

  jump_is : (i : Instr) (key pc to : ℕ) (x : Data) → IsJump i x pc to → AreWords x → perform i key (at pc x) ≡ at to x
  jump_is (Address n) key pc to x j w = absurd j
  jump_is (Compute m comp dest jump) key pc to x j w =
      let v : alu_out comp x.d x.a ≡ comp_value comp x.d x.a = sym (comp_is comp x.d x.a w.d_word w.a_word) in
      rw (j.0, j.1, v, j.2)
  jump_is (Shift m left d dest jump) key pc to x j w = absurd j

  jump_step : (i : Instr) (key pc to : ℕ) (x : Data) → instr_of (slice_index image pc) ≡ i → IsJump i x pc to → AreWords x → step image key (at pc x) ≡ at to x
  unfolding step
  jump_step i key pc to x f j w = ap (λ c. perform c key (at pc x)) f ∙ jump_is i key pc to x j w

  jump_quiet : (i : Instr) (pc to : ℕ) (x : Data) → IsJump i x pc to → (IsDataWrite i (at pc x) → ⊥) × (MayReadKey i (at pc x) → ⊥)
  jump_quiet (Address n) pc to x j = ((λ b. b), (λ b. b))
  jump_quiet (Compute m comp dest jump) pc to x j = ((λ b. let e : false ≡ true = subst (λ n. has_bit n 0 ≡ true) j.1 b.0 in cc), (λ b. let e = b.0 in let f = j.0 in cc))
  jump_quiet (Shift m left d dest jump) pc to x j = absurd j

  pub jump : {goal : Machine → Type 0} (i : Instr) (x : Data) (pc to n : ℕ) → instr_of (slice_index image pc) ≡ i → IsJump i x pc to → AreWords x → inside pc → Reaches image (Quiet image inside) goal n (at to x) → Reaches image (Quiet image inside) goal (suc n) (at pc x)
  jump {goal} i x pc to n f j w p r =
      let q = jump_quiet i pc to x j in
      further (record { place = p; no_write = λ b. q.0 (subst (λ c. IsDataWrite c (at pc x)) f b); no_key = λ b. q.1 (subst (λ c. MayReadKey c (at pc x)) f b) })
      (λ key small. subst (Reaches image (Quiet image inside) goal n) (sym (jump_step i key pc to x f j w)) r)

  pub last_jump : {goal : Machine → Type 0} (i : Instr) (x : Data) (pc to n : ℕ) → instr_of (slice_index image pc) ≡ i → IsJump i x pc to → AreWords x → goal (at to x) → Does image inside pc ⊥ goal n (at pc x)
  last_jump {goal} i x pc to n f j w g =
      let q = jump_quiet i pc to x j in
      arrived (record {
        place = refl;
        write = λ b. q.0 (subst (λ c. IsDataWrite c (at pc x)) f b);
        no_key = λ b. q.1 (subst (λ c. MayReadKey c (at pc x)) f b);
        leads = λ key small. subst goal (sym (jump_step i key pc to x f j w)) g;
      })

key_is : (m : ℕ → ℕ) (key : ℕ) → read m key 24576 ≡ key
unfolding read
key_is m key = refl

-- D=M where the key is heard
pub hear : (image : List ℕ) (inside : ℕ → Type 0) (rest : ℕ → Machine → Type 0) (x : Data) (pc n : ℕ) → instr_of (slice_index image pc) ≡ Compute true 48 2 0 → x.a ≡ 24576 → AreWords x → pc + 1 < 32768 → inside pc → ((key : ℕ) → IsKey key → rest key (at (pc + 1) (record x { d = key }))) → Reaches image (Quiet image inside) (Hears image inside rest) n (at pc x)
hear image inside rest x pc n f a w near p r =
    let e : (pc + 1) % 32768 ≡ pc + 1 = omega arith in
    arrived (record {
      place = p;
      no_write = λ b. let b' = subst (λ c. IsDataWrite c (at pc x)) f b in let no : false ≡ true = b'.0 in cc;
      reads = subst (λ c. IsKeyRead c (at pc x)) (sym f) (refl, a);
      then = λ key small.
          let o : read x.m key x.a ≡ key = ap (read x.m key) a ∙ key_is x.m key in
          let v : alu_out 48 x.d (read x.m key x.a) ≡ key = ap (alu_out 48 x.d) o ∙ sym (alu_48 x.d key w.d_word small) in
          let performed = after_out true 48 2 0 key pc x key (pc + 1) x.m v (no_jump key) e refl in
          let stepped : step image key (at pc x) ≡ at (pc + 1) (record x { d = key }) = step_is image key (at pc x) ∙ ap (λ c. perform c key (at pc x)) f ∙ performed in
          subst (rest key) (sym stepped) (r key small);
    })

read_word : (m : ℕ → ℕ) (key a : ℕ) → key < 65536 → ((k : ℕ) → m k < 65536) → read m key a < 65536
unfolding read
read_word m key a small words = let w = words (a % 32768) in grind (arith, nat_tests)

-- D=M at any address but the keyboard's
pub read_any : (image : List ℕ) (inside : ℕ → Type 0) {goal : Machine → Type 0} (x : Data) (pc n : ℕ) → instr_of (slice_index image pc) ≡ Compute true 48 2 0 → x.a ≢ 24576 → AreWords x → pc + 1 < 32768 → inside pc → ((d : ℕ) → d < 65536 → Reaches image (Quiet image inside) goal n (at (pc + 1) (record x { d = d }))) → Reaches image (Quiet image inside) goal (suc n) (at pc x)
read_any image inside {goal} x pc n f other w near p go =
    let e : (pc + 1) % 32768 ≡ pc + 1 = omega arith in
    further
    (record {
      place = p;
      no_write = λ b. let b' = subst (λ c. IsDataWrite c (at pc x)) f b in let no : false ≡ true = b'.0 in cc;
      no_key = λ b. let b' = subst (λ c. MayReadKey c (at pc x)) f b in other b'.1;
    })
    (λ key small.
    let value = read_word x.m key x.a small w.m_words in
    let v : alu_out 48 x.d (read x.m key x.a) ≡ read x.m key x.a = sym (alu_48 x.d (read x.m key x.a) w.d_word value) in
    let stepped : step image key (at pc x) ≡ at (pc + 1) (record x { d = read x.m key x.a }) = step_is image key (at pc x) ∙ ap (λ c. perform c key (at pc x)) f ∙ after_out true 48 2 0 key pc x (read x.m key x.a) (pc + 1) x.m v (no_jump (read x.m key x.a)) e refl in
    subst (Reaches image (Quiet image inside) goal n) (sym stepped) (go (read x.m key x.a) value))

-- what M=D does at an address of memory
stores : (image : List ℕ) (x : Data) (pc key : ℕ) → instr_of (slice_index image pc) ≡ Compute false 12 1 0 → AreWords x → step image key (at pc x) ≡ (let after : Machine = record { a = x.a; d = x.d; pc = (pc + 1) % 32768; memory = write x.m x.a x.d } in after)
stores image x pc key f w =
    let v : alu_out 12 x.d x.a ≡ x.d = sym (comp_is 12 x.d x.a w.d_word w.a_word) in
    step_is image key (at pc x) ∙ ap (λ c. perform c key (at pc x)) f ∙ after_out false 12 1 0 key pc x x.d ((pc + 1) % 32768) (write x.m x.a x.d) v (no_jump x.d) refl refl

-- M=D in memory, as a command's last instruction; it writes data where its address is one of data
pub store_last : (image : List ℕ) (inside : ℕ → Type 0) {goal : Machine → Type 0} (x : Data) (pc n : ℕ) → instr_of (slice_index image pc) ≡ Compute false 12 1 0 → x.a < 24576 → AreWords x → goal (at ((pc + 1) % 32768) (record x { m = put x.m x.a x.d })) → Does image inside pc (IsData x.a) goal n (at pc x)
store_last image inside {goal} x pc n f a w g =
    let same : write x.m x.a x.d ≡ put x.m x.a x.d = write_is x.m x.a x.d a in
    let low : x.a % 32768 ≡ x.a = omega arith in
    arrived (record {
      place = refl;
      write = λ b. let b' = subst (λ c. IsDataWrite c (at pc x)) f b in subst IsData low b'.1;
      no_key = λ b. let b' = subst (λ c. MayReadKey c (at pc x)) f b in let no : false ≡ true = b'.0 in cc;
      leads = λ key small. subst goal (sym (stores image x pc key f w ∙ ap (λ m. let after : Machine = record { a = x.a; d = x.d; pc = (pc + 1) % 32768; memory = m } in after) same)) g;
    })

-- M=D anywhere, of which nothing more is wanted
pub store_anywhere : (image : List ℕ) (inside : ℕ → Type 0) (x : Data) (pc n : ℕ) → instr_of (slice_index image pc) ≡ Compute false 12 1 0 → Does image inside pc (Unit {0}) (λ s. Unit {0}) n (at pc x)
store_anywhere image inside x pc n f = arrived (record {
  place = refl;
  write = λ b. tt;
  no_key = λ b. let b' = subst (λ c. MayReadKey c (at pc x)) f b in let no : false ≡ true = b'.0 in cc;
  leads = λ key small. tt;
})

pub block_words : (is : List Instr) (x : Data) → Safe is x → AreWords x → AreWords (do_block is x)
block_words [] x s w = w
block_words (i ∷ is) x s w = block_words is (do_instr i x) s.1 (do_words i x s.0 w)

pub safe_append : (a b : List Instr) (x : Data) → Safe a x → Safe b (do_block a x) → Safe (a ++ b) x
safe_append [] b x h k = k
safe_append (i ∷ a) b x h k = (h.0, safe_append a b (do_instr i x) h.1 k)

pub do_append : (a b : List Instr) (x : Data) → do_block (a ++ b) x ≡ do_block b (do_block a x)
do_append [] b x = refl
do_append (i ∷ a) b x = do_append a b (do_instr i x)

-- a block of which only a property is known afterwards, so that what follows meets no long term
pub block_then : (image : List ℕ) (inside : ℕ → Type 0) {goal : Machine → Type 0} (is : List Instr) (x : Data) (pc end n : ℕ) (Post : Data → Type 0) → Stands image pc is → Safe is x → AreWords x → pc + length is ≡ end → end < 32768 → ((k : ℕ) → pc ≤ k → k < end → inside k) → Post (do_block is x) → ((y : Data) → AreWords y → Post y → Reaches image (Quiet image inside) goal n (at end y)) → Reaches image (Quiet image inside) goal (length is + n) (at pc x)
block_then image inside is x pc end n Post st s w e h p post go = block image inside is x pc end n st s w e h p (go (do_block is x) (block_words is x s w) post)

-- fewer steps than allowed
pub within : {image : List ℕ} {quiet goal : Machine → Type 0} (n k : ℕ) (s : Machine) → n ≤ k → Reaches image quiet goal n s → Reaches image quiet goal k s
within n k s h (arrived g) = arrived g
within (suc n) zero s h (further q r) = absurd (omega arith)
within (suc n) (suc k) s h (further {n = m} q r) = further q (λ key small. within m k _ (omega arith) (r key small))

-- the part of a command from place k on
pub from_place : (image : List ℕ) (pc k : ℕ) (is : List Instr) → Stands image pc is → Stands image (pc + k) (drop k is)
from_place image pc zero is st = let e : pc ≡ pc + 0 = omega arith in subst (λ p. Stands image p is) e st
from_place image pc (suc k) [] st = tt
from_place image pc (suc k) (i ∷ is) st =
    let e : pc + 1 + k ≡ pc + suc k = omega arith in
    subst (λ p. Stands image p (drop k is)) e (from_place image (pc + 1) k is st.1)

pub up_to : (image : List ℕ) (pc k : ℕ) (is : List Instr) → Stands image pc is → Stands image pc (take k is)
up_to image pc zero is st = tt
up_to image pc (suc k) [] st = tt
up_to image pc (suc k) (i ∷ is) st = (st.0, up_to image (pc + 1) k is st.1)
