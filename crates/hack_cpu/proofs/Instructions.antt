-- A step of the instruction machine, by the bits of the instruction's word.
use Rattle.std.proofs.Common.{◌≡◌, ℕ, ◌+◌, ◌<◌, ◌/◌, ◌%◌, Bool, true, false, cond, eqb, ltb, refl, ap, ap₂, ◌∙◌, arith, lit<, eqb-true}
use Rattle.std.proofs.lemmas.Bool.{lt-ltb, ltb-true}
use Rattle.std.proofs.lemmas.Bool.Decides.{nat_tests}
use Rattle.std.specs.Prelude.{not, ◌&&◌, ◌||◌}
use Rattle.word16.specs.Words.{has_bit, word_shift}
use Rattle.hack_isa.specs.Table.{preset, combine, alu_out, is_shift, shift_of, instr_of}
use Rattle.hack_isa.specs.Machine.{Machine, read, write, jumps, perform}
use Rattle.hack_isa.specs.declared.Instr.{Instr}
use Rattle.hack_isa.specs.declared.Instr.TheVariants.{Address, Compute}
use Rattle.hdl_tree.specs.Memory.{number}
use Rattle.chip_basic.proofs.Numbers.{digit, bit_of_number, number_below}

-- ---- the bits of a word

pub op_is : (f : ℕ → Bool) (k : ℕ) → k < 16 → has_bit (number 16 f) k ≡ f k
op_is f k h = ap (λ x. eqb x 1) (bit_of_number 16 f k h) ∙ one (f k)
  where
    one : (b : Bool) → eqb (digit b) 1 ≡ b
    one true = refl
    one false = refl

top_is : (f : ℕ → Bool) → ltb (number 16 f) 32768 ≡ not (f 15)
top_is f = by (f 15) (number 15 f) (number_below 15 f)
  where
    by : (b : Bool) (x : ℕ) → x < 32768 → ltb (x + cond b 32768 0) 32768 ≡ not b
    by true x h = grind (arith, nat_tests)
    by false x h = grind (arith, nat_tests)

-- the fields of an instruction
comp5 : (i : ℕ) → i / 64 % 64 / 32 % 2 ≡ i / 2048 % 2
comp5 i = omega arith

comp4 : (i : ℕ) → i / 64 % 64 / 16 % 2 ≡ i / 1024 % 2
comp4 i = omega arith

comp3 : (i : ℕ) → i / 64 % 64 / 8 % 2 ≡ i / 512 % 2
comp3 i = omega arith

comp2 : (i : ℕ) → i / 64 % 64 / 4 % 2 ≡ i / 256 % 2
comp2 i = omega arith

comp1 : (i : ℕ) → i / 64 % 64 / 2 % 2 ≡ i / 128 % 2
comp1 i = omega arith

comp0 : (i : ℕ) → i / 64 % 64 / 1 % 2 ≡ i / 64 % 2
comp0 i = omega arith

dest2 : (i : ℕ) → i / 8 % 8 / 4 % 2 ≡ i / 32 % 2
dest2 i = omega arith

dest1 : (i : ℕ) → i / 8 % 8 / 2 % 2 ≡ i / 16 % 2
dest1 i = omega arith

dest0 : (i : ℕ) → i / 8 % 8 / 1 % 2 ≡ i / 8 % 2
dest0 i = omega arith

jump2 : (i : ℕ) → i % 8 / 4 % 2 ≡ i / 4 % 2
jump2 i = omega arith

jump1 : (i : ℕ) → i % 8 / 2 % 2 ≡ i / 2 % 2
jump1 i = omega arith

jump0 : (i : ℕ) → i % 8 / 1 % 2 ≡ i / 1 % 2
jump0 i = omega arith

abbrev is_one : ℕ → Bool
is_one x = eqb x 1

-- ---- the parts of a step

module _ (f : ℕ → Bool) where
  abbrev i : ℕ
  i = number 16 f

  bit_is : (x k : ℕ) → k < 16 → is_one x ≡ has_bit (number 16 f) k → is_one x ≡ f k
  bit_is x k lt e = e ∙ op_is f k lt

  comp : (x y : ℕ) → alu_out (number 16 f / 64 % 64) x y ≡ combine (f 7) (f 6) (preset (f 11) (f 10) x) (preset (f 9) (f 8) y)
  unfolding alu_out
  comp x y =
      let e5 : has_bit (number 16 f / 64 % 64) 5 ≡ f 11 = ap is_one (comp5 (number 16 f)) ∙ op_is f 11 (lit< tt) in
      let e4 : has_bit (number 16 f / 64 % 64) 4 ≡ f 10 = ap is_one (comp4 (number 16 f)) ∙ op_is f 10 (lit< tt) in
      let e3 : has_bit (number 16 f / 64 % 64) 3 ≡ f 9 = ap is_one (comp3 (number 16 f)) ∙ op_is f 9 (lit< tt) in
      let e2 : has_bit (number 16 f / 64 % 64) 2 ≡ f 8 = ap is_one (comp2 (number 16 f)) ∙ op_is f 8 (lit< tt) in
      let e1 : has_bit (number 16 f / 64 % 64) 1 ≡ f 7 = ap is_one (comp1 (number 16 f)) ∙ op_is f 7 (lit< tt) in
      let e0 : has_bit (number 16 f / 64 % 64) 0 ≡ f 6 = ap is_one (comp0 (number 16 f)) ∙ op_is f 6 (lit< tt) in
      same _ _ _ _ _ _ _ _ _ _ _ _ e5 e4 e3 e2 e1 e0
    where
      same : (a a' b b' d d' e e' g g' k k' : Bool) → a ≡ a' → b ≡ b' → d ≡ d' → e ≡ e' → g ≡ g' → k ≡ k' → combine g k (preset a b x) (preset d e y) ≡ combine g' k' (preset a' b' x) (preset d' e' y)
      same a a' b b' d d' e e' g g' k k' h1 h2 h3 h4 h5 h6 = cc

  dest_a : has_bit (number 16 f / 8 % 8) 2 ≡ f 5
  dest_a = ap is_one (dest2 (number 16 f)) ∙ op_is f 5 (lit< tt)

  dest_d : has_bit (number 16 f / 8 % 8) 1 ≡ f 4
  dest_d = ap is_one (dest1 (number 16 f)) ∙ op_is f 4 (lit< tt)

  dest_m : has_bit (number 16 f / 8 % 8) 0 ≡ f 3
  dest_m = ap is_one (dest0 (number 16 f)) ∙ op_is f 3 (lit< tt)

  -- a jump on the sign of the output
  jump : (v : ℕ) → jumps (number 16 f % 8) v ≡ ((ltb 32767 v && f 2) || ((eqb v 0 && f 1) || (not (eqb v 0 || ltb 32767 v) && f 0)))
  unfolding jumps
  jump v =
      let e2 : has_bit (number 16 f % 8) 2 ≡ f 2 = ap is_one (jump2 (number 16 f)) ∙ op_is f 2 (lit< tt) in
      let e1 : has_bit (number 16 f % 8) 1 ≡ f 1 = ap is_one (jump1 (number 16 f)) ∙ op_is f 1 (lit< tt) in
      let e0 : has_bit (number 16 f % 8) 0 ≡ f 0 = ap is_one (jump0 (number 16 f)) ∙ op_is f 0 (lit< tt) in
      same _ _ _ _ _ _ e2 e1 e0 ∙ by (ltb 32767 v) (eqb v 0) refl refl
    where
      same : (a a' b b' d d' : Bool) → a ≡ a' → b ≡ b' → d ≡ d' → cond (ltb 32767 v) a (cond (eqb v 0) b d) ≡ cond (ltb 32767 v) a' (cond (eqb v 0) b' d')
      same a a' b b' d d' h1 h2 h3 = cc

      by : (s z : Bool) → ltb 32767 v ≡ s → eqb v 0 ≡ z → cond (ltb 32767 v) (f 2) (cond (eqb v 0) (f 1) (f 0)) ≡ ((ltb 32767 v && f 2) || ((eqb v 0 && f 1) || (not (eqb v 0 || ltb 32767 v) && f 0)))
      by true true s z = absurd (omega (arith, ltb-true 32767 v s, eqb-true v 0 z))
      by true false s z = rw (s, z) (or_false (f 2))
        where
          or_false : (b : Bool) → b ≡ (b || false)
          or_false true = refl
          or_false false = refl
      by false true s z = rw (s, z) (or_false (f 1))
        where
          or_false : (b : Bool) → b ≡ (b || false)
          or_false true = refl
          or_false false = refl
      by false false s z = rw (s, z) refl

  -- what comes of a word whose top bit is 0 needs no result
  with_top : (b t : Bool) (x y : ℕ) (g : ℕ → ℕ) (z : ℕ) → cond b (g (cond t x y)) z ≡ cond b (g (cond (b && t) x y)) z
  with_top true t x y g z = refl
  with_top false t x y g z = refl

  module _ (key : ℕ) (s : Machine) where
    -- what the ALU gives, of D, and of A or M
    abbrev by_alu : ℕ
    by_alu = combine (f 7) (f 6) (preset (f 11) (f 10) s.d) (preset (f 9) (f 8) (cond (f 12) (read s.memory key s.a) s.a))

    -- what a shift gives, of D, or of A or M
    abbrev by_shift : ℕ
    by_shift = word_shift (f 11) (cond (f 10) s.d (cond (f 12) (read s.memory key s.a) s.a))

    abbrev pub output : ℕ
    output = cond (f 15 && (not (f 14) && f 13)) by_shift by_alu

    abbrev out : ℕ
    out = alu_out (number 16 f / 64 % 64) s.d (cond (has_bit (number 16 f) 12) (read s.memory key s.a) s.a)

    out_is : out ≡ by_alu
    out_is = comp s.d (cond (has_bit (number 16 f) 12) (read s.memory key s.a) s.a) ∙ ap (λ b. combine (f 7) (f 6) (preset (f 11) (f 10) s.d) (preset (f 9) (f 8) (cond b (read s.memory key s.a) s.a))) (op_is f 12 (lit< tt))

    abbrev held : ℕ
    held = cond (has_bit (number 16 f) 10) s.d (cond (has_bit (number 16 f) 12 && not (has_bit (number 16 f) 10)) (read s.memory key s.a) s.a)

    m_of_d : (d m : Bool) (x y z : ℕ) → cond d x (cond (m && not d) y z) ≡ cond d x (cond m y z)
    m_of_d true m x y z = refl
    m_of_d false true x y z = refl
    m_of_d false false x y z = refl

    held_is : held ≡ cond (f 10) s.d (cond (f 12) (read s.memory key s.a) s.a)
    held_is =
        m_of_d (has_bit (number 16 f) 10) (has_bit (number 16 f) 12) s.d (read s.memory key s.a) s.a
        ∙ ap₂ (λ d m. cond d s.d (cond m (read s.memory key s.a) s.a)) (op_is f 10 (lit< tt)) (op_is f 12 (lit< tt))

    -- what comes of the word, if it is a shift or not
    abbrev value : Bool → ℕ
    value t = cond t (word_shift (has_bit (number 16 f) 11) held) out

    value_is : value (is_shift (number 16 f)) ≡ cond (not (f 14) && f 13) by_shift by_alu
    value_is =
        let t : is_shift (number 16 f) ≡ (not (f 14) && f 13) = ap₂ (λ a b. not a && b) (op_is f 14 (lit< tt)) (op_is f 13 (lit< tt)) in
        let v : word_shift (has_bit (number 16 f) 11) held ≡ by_shift = ap₂ (λ l x. word_shift l x) (op_is f 11 (lit< tt)) held_is in
        ap₂ (λ b x. cond b x out) t v ∙ ap (λ x. cond (not (f 14) && f 13) by_shift x) out_is

    abbrev next : Machine
    next = perform (instr_of (number 16 f)) key s

    abbrev instr_by : Bool → Bool → Instr
    instr_by b t = cond b (Address (number 16 f)) (cond t (shift_of (number 16 f)) (Compute (has_bit (number 16 f) 12) (number 16 f / 64 % 64) (number 16 f / 8 % 8) (number 16 f % 8)))

    by_a : (b t : Bool) → (perform (instr_by b t) key s).a ≡ cond b (number 16 f) (cond (has_bit (number 16 f / 8 % 8) 2) (value t) s.a)
    by_a true t = refl
    by_a false true = refl
    by_a false false = refl

    by_d : (b t : Bool) → (perform (instr_by b t) key s).d ≡ cond b s.d (cond (has_bit (number 16 f / 8 % 8) 1) (value t) s.d)
    by_d true t = refl
    by_d false true = refl
    by_d false false = refl

    by_pc : (b t : Bool) → (perform (instr_by b t) key s).pc ≡ cond b ((s.pc + 1) % 32768) (cond (jumps (number 16 f % 8) (value t)) (s.a % 32768) ((s.pc + 1) % 32768))
    by_pc true t = refl
    by_pc false true = refl
    by_pc false false = refl

    by_memory : (b t : Bool) (x : ℕ) → (perform (instr_by b t) key s).memory x ≡ cond b (s.memory x) (cond (has_bit (number 16 f / 8 % 8) 0) (write s.memory s.a (value t) x) (s.memory x))
    by_memory true t x = refl
    by_memory false t x = written_by t
      where
        at : (b : Bool) (g k : ℕ → ℕ) → (cond b g k) x ≡ cond b (g x) (k x)
        at true g k = refl
        at false g k = refl

        written_by : (t : Bool) → (perform (instr_by false t) key s).memory x ≡ cond (has_bit (number 16 f / 8 % 8) 0) (write s.memory s.a (value t) x) (s.memory x)
        written_by true = at (has_bit (number 16 f / 8 % 8) 0) (write s.memory s.a (value true)) s.memory
        written_by false = at (has_bit (number 16 f / 8 % 8) 0) (write s.memory s.a (value false)) s.memory

    turned : (b : Bool) (x y : ℕ) → cond (not b) x y ≡ cond b y x
    turned true x y = refl
    turned false x y = refl

    abbrev by_top : (x y : ℕ) → cond (ltb (number 16 f) 32768) x y ≡ cond (f 15) y x
    by_top x y = ap (λ b. cond b x y) (top_is f) ∙ turned (f 15) x y

    pub a_next : next.a ≡ cond (f 15) (cond (f 5) output s.a) (number 16 f)
    unfolding instr_of
    a_next =
        by_a (ltb (number 16 f) 32768) (is_shift (number 16 f)) ∙ by_top _ _
        ∙ ap₂ (λ b v. cond (f 15) (cond b v s.a) (number 16 f)) dest_a value_is
        ∙ with_top (f 15) (not (f 14) && f 13) by_shift by_alu (λ v. cond (f 5) v s.a) (number 16 f)

    pub d_next : next.d ≡ cond (f 15) (cond (f 4) output s.d) s.d
    unfolding instr_of
    d_next =
        by_d (ltb (number 16 f) 32768) (is_shift (number 16 f)) ∙ by_top _ _
        ∙ ap₂ (λ b v. cond (f 15) (cond b v s.d) s.d) dest_d value_is
        ∙ with_top (f 15) (not (f 14) && f 13) by_shift by_alu (λ v. cond (f 4) v s.d) s.d

    pub pc_next : next.pc ≡ cond (f 15) (cond ((ltb 32767 output && f 2) || ((eqb output 0 && f 1) || (not (eqb output 0 || ltb 32767 output) && f 0))) (s.a % 32768) ((s.pc + 1) % 32768)) ((s.pc + 1) % 32768)
    unfolding instr_of
    pc_next =
        by_pc (ltb (number 16 f) 32768) (is_shift (number 16 f)) ∙ by_top _ _
        ∙ ap (λ v. cond (f 15) (cond (jumps (number 16 f % 8) v) (s.a % 32768) ((s.pc + 1) % 32768)) ((s.pc + 1) % 32768)) value_is
        ∙ with_top (f 15) (not (f 14) && f 13) by_shift by_alu (λ v. cond (jumps (number 16 f % 8) v) (s.a % 32768) ((s.pc + 1) % 32768)) ((s.pc + 1) % 32768)
        ∙ ap (λ b. cond (f 15) (cond b (s.a % 32768) ((s.pc + 1) % 32768)) ((s.pc + 1) % 32768)) (jump output)

    same_place : (x y : ℕ) → eqb x y ≡ eqb y x
    same_place x y = grind (arith, nat_tests)

    written : (x v : ℕ) → x < 24576 → write s.memory s.a v x ≡ cond (eqb (s.a % 32768) x) v (s.memory x)
    unfolding write
    written x v small = ap₂ (λ p q. cond (p && q) v (s.memory x)) (same_place x (s.a % 32768)) (lt-ltb x 24576 small) ∙ ap (λ b. cond b v (s.memory x)) (and_true (eqb (s.a % 32768) x))
      where
        and_true : (b : Bool) → (b && true) ≡ b
        and_true true = refl
        and_true false = refl

    pub memory_next : (x : ℕ) → x < 24576 → next.memory x ≡ cond (f 15) (cond (f 3) (cond (eqb (s.a % 32768) x) output (s.memory x)) (s.memory x)) (s.memory x)
    unfolding instr_of
    memory_next x small =
        by_memory (ltb (number 16 f) 32768) (is_shift (number 16 f)) x ∙ by_top _ _
        ∙ ap₂ (λ b v. cond (f 15) (cond b (write s.memory s.a v x) (s.memory x)) (s.memory x)) dest_m value_is
        ∙ with_top (f 15) (not (f 14) && f 13) by_shift by_alu (λ v. cond (f 3) (write s.memory s.a v x) (s.memory x)) (s.memory x)
        ∙ ap (λ v. cond (f 15) (cond (f 3) v (s.memory x)) (s.memory x)) (written x output small)
