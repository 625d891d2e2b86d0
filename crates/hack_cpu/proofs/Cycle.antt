-- One cycle is one step, with memories as blocks or of gates.
use Rattle.std.proofs.Common.{◌≡◌, ℕ, zero, suc, ◌+◌, ◌<◌, ◌%◌, Bool, true, false, cond, eqb, ltb, List, [], ◌∷◌, refl, sym, ap, ap₂, ◌∙◌, arith, lit<}
use Rattle.std.specs.Prelude.{not, ◌&&◌, ◌||◌, codes, slice_index}
use Rattle.std.proofs.lemmas.Bool.{ltb-true}
use Rattle.word16.specs.Words.{word_shift}
use Rattle.hack_isa.specs.Table.{instr_of}
use Rattle.hack_isa.specs.Machine.{Machine, read, perform, step, machine_at}
use Rattle.hdl_tree.specs.Memory.{number}
use Rattle.hdl_tree.specs.Chips.{Chips, end_of}
use Rattle.hdl_tree.specs.Behaviour.{Histories, World, IsBehaviour}
use Rattle.chip_basic.specs.Hdl.{shipped_entry}
use Rattle.chip_basic.specs.Laws.{word}
use Rattle.chip_basic.proofs.Inside.{part_of, whole_joined}
use Rattle.chip_basic.proofs.Numbers.{number_same}
use Rattle.hack_cpu.specs.Trees.{HasComputerChips, cpu_tree, memory_tree, rom_tree, computer_tree}
use Rattle.hack_cpu.specs.Cpu.{CpuWorks, a_held, d_held, pc_held, op, result}
use Rattle.hack_cpu.specs.Computer.{outside, Shows, word_at}
use Rattle.hack_cpu.proofs.Cpu.{cpu_works, same_alu}
use Rattle.hack_cpu.proofs.Memory.{memory_word, memory_next, memory_reads}
use Rattle.hack_cpu.proofs.Memories.{main_block, upper_block}
use Rattle.hack_cpu.proofs.Instructions as instructions

-- ---- on numbers

a_rule : (o15 o5 : Bool) (i v a : ℕ) → cond (not o15 || o5) (cond (not o15) i v) a ≡ cond o15 (cond o5 v a) i
a_rule true true i v a = refl
a_rule true false i v a = refl
a_rule false o5 i v a = refl

d_rule : (o15 o4 : Bool) (v d : ℕ) → cond (o15 && o4) v d ≡ cond o15 (cond o4 v d) d
d_rule true o4 v d = refl
d_rule false o4 v d = refl

pc_rule : (o15 j : Bool) (a p : ℕ) → cond (j && o15) a ((p + 1) % 65536) % 32768 ≡ cond o15 (cond j (a % 32768) ((p % 32768 + 1) % 32768)) ((p % 32768 + 1) % 32768)
pc_rule true true a p = refl
pc_rule true false a p = omega arith
pc_rule false true a p = omega arith
pc_rule false false a p = omega arith

word_rule : (o15 o3 at : Bool) (v x : ℕ) → cond ((o15 && o3) && at) v x ≡ cond o15 (cond o3 (cond at v x) x) x
word_rule true true at v x = refl
word_rule true false at v x = refl
word_rule false o3 at v x = refl

three_same : (a a' : Bool) (b b' d d' : ℕ) → a ≡ a' → b ≡ b' → d ≡ d' → cond a b d ≡ cond a' b' d'
three_same a a' b b' d d' e f g = cc

five_same : (o o' q q' : Bool) (v v' a a' i i' : ℕ) → o ≡ o' → q ≡ q' → v ≡ v' → a ≡ a' → i ≡ i' → cond o (cond q v a) i ≡ cond o' (cond q' v' a') i'
five_same o o' q q' v v' a a' i i' e1 e2 e3 e4 e5 = cc

not_reset : (reset : Bool) (x y : ℕ) → reset ≡ false → cond reset x y ≡ y
not_reset reset x y e = rw e

jump_same : (a b d : Bool) (v v' : ℕ) → v ≡ v' →
    ((ltb 32767 v && a) || ((eqb v 0 && b) || (not (eqb v 0 || ltb 32767 v) && d))) ≡ ((ltb 32767 v' && a) || ((eqb v' 0 && b) || (not (eqb v' 0 || ltb 32767 v') && d)))
jump_same a b d v v' e = ap (λ x. (ltb 32767 x && a) || ((eqb x 0 && b) || (not (eqb x 0 || ltb 32767 x) && d))) e

write_same : (load o15 o3 : Bool) (place place' x v v' m m' : ℕ) → load ≡ (o15 && o3) → place ≡ place' → v ≡ v' → m ≡ m' → cond (load && eqb place x) v m ≡ cond ((o15 && o3) && eqb place' x) v' m'
write_same load o15 o3 place place' x v v' m m' e1 e2 e3 e4 = cc

read_same : (a a' key : ℕ) (f g : ℕ → ℕ) → a ≡ a' → ((x : ℕ) → x < 24576 → f x ≡ g x) → cond (ltb a 24576) (f a) key ≡ cond (ltb a' 24576) (g a') key
read_same a a' key f g e same = ap (λ y. cond (ltb y 24576) (f y) key) e ∙ by (ltb a' 24576) refl
  where
    by : (b : Bool) → ltb a' 24576 ≡ b → cond (ltb a' 24576) (f a') key ≡ cond (ltb a' 24576) (g a') key
    by true h = ap (λ y. cond (ltb a' 24576) y key) (same a' (ltb-true a' 24576 h))
    by false h = rw h

module _ (image : List ℕ) (keys : ℕ → ℕ) (library : Chips) (has : HasComputerChips library) (n : ℕ) (w : List ℕ → Histories) (h : IsBehaviour (outside image keys) library (shipped_entry computer_tree) n w) (no_reset : (c : ℕ) → c < n → w [] (codes "reset") 0 c ≡ false) where
  abbrev world : World
  world = outside image keys

  cpu_inside : IsBehaviour world library (shipped_entry cpu_tree) n (λ path. w (0 ∷ path))
  unfolding end_of computer_tree
  cpu_inside c lt = (part_of world c library (shipped_entry computer_tree) w (h c lt) 0 _ (shipped_entry cpu_tree) refl has.cpu).inside

  memory_inside : IsBehaviour world library (shipped_entry memory_tree) n (λ path. w (2 ∷ path))
  unfolding end_of computer_tree
  memory_inside c lt = (part_of world c library (shipped_entry computer_tree) w (h c lt) 2 _ (shipped_entry memory_tree) refl has.memory).inside

  cpu : (c : ℕ) → c < n → CpuWorks (λ path. w (0 ∷ path)) c
  cpu c lt = cpu_works world library has n (λ path. w (0 ∷ path)) cpu_inside c lt

  module _ (c : ℕ) (lt : c < n) where
    reset_is : w (0 ∷ []) (codes "reset") 0 c ≡ false
    unfolding end_of computer_tree cpu_tree
    reset_is = (part_of world c library (shipped_entry computer_tree) w (h c lt) 0 _ (shipped_entry cpu_tree) refl has.cpu).outside.joined.1.1.0 0 (lit< tt) ∙ no_reset c lt

    -- the instruction comes from the ROM
    instruction_is : word (w (0 ∷ [])) "instruction" c ≡ slice_index image (number 15 (λ k. w (0 ∷ []) (codes "pc") k c))
    unfolding end_of computer_tree cpu_tree rom_tree
    instruction_is =
        let p = part_of world c library (shipped_entry computer_tree) w (h c lt) 0 _ (shipped_entry cpu_tree) refl has.cpu in
        let q = part_of world c library (shipped_entry computer_tree) w (h c lt) 1 _ (shipped_entry rom_tree) refl has.rom in
        let j = p.outside.joined in
        let k1 = q.outside.joined in
        let i = number_same 16 _ _ (λ k le. whole_joined c (shipped_entry cpu_tree) (w []) (w (0 ∷ [])) (codes "instruction") (codes "instruction") j.1.0 k le) in
        let i' = number_same 16 _ _ (λ k le. whole_joined c (shipped_entry rom_tree) (w []) (w (1 ∷ [])) (codes "out") (codes "instruction") k1.1.0 k le) in
        let a = number_same 15 _ _ (λ k le. whole_joined c (shipped_entry rom_tree) (w []) (w (1 ∷ [])) (codes "address") (codes "pc") k1.0 k le) in
        let a' = number_same 15 _ _ (λ k le. whole_joined c (shipped_entry cpu_tree) (w []) (w (0 ∷ [])) (codes "pc") (codes "pc") j.1.1.1.1.1.1.0 k le) in
        i ∙ sym i' ∙ q.inside [] (shipped_entry rom_tree) refl ∙ ap (slice_index image) (a ∙ sym a')

    -- Memory's pins
    memory_address : number 15 (λ k. w (2 ∷ []) (codes "address") k c) ≡ a_held (λ path. w (0 ∷ path)) c % 32768
    unfolding end_of computer_tree cpu_tree memory_tree
    memory_address =
        let p = part_of world c library (shipped_entry computer_tree) w (h c lt) 0 _ (shipped_entry cpu_tree) refl has.cpu in
        let q = part_of world c library (shipped_entry computer_tree) w (h c lt) 2 _ (shipped_entry memory_tree) refl has.memory in
        let a = number_same 15 _ _ (λ k le. whole_joined c (shipped_entry memory_tree) (w []) (w (2 ∷ [])) (codes "address") (codes "address") q.outside.joined.1.1.0 k le) in
        let a' = number_same 15 _ _ (λ k le. whole_joined c (shipped_entry cpu_tree) (w []) (w (0 ∷ [])) (codes "addressM") (codes "address") p.outside.joined.1.1.1.1.1.0 k le) in
        a ∙ sym a' ∙ (cpu c lt).address

    memory_load : w (2 ∷ []) (codes "load") 0 c ≡ (op (λ path. w (0 ∷ path)) c 15 && op (λ path. w (0 ∷ path)) c 3)
    unfolding end_of computer_tree cpu_tree memory_tree
    memory_load =
        let p = part_of world c library (shipped_entry computer_tree) w (h c lt) 0 _ (shipped_entry cpu_tree) refl has.cpu in
        let q = part_of world c library (shipped_entry computer_tree) w (h c lt) 2 _ (shipped_entry memory_tree) refl has.memory in
        q.outside.joined.1.0 0 (lit< tt) ∙ sym (p.outside.joined.1.1.1.1.0 0 (lit< tt)) ∙ (cpu c lt).write

    memory_in : word (w (2 ∷ [])) "in" c ≡ result (λ path. w (0 ∷ path)) c
    unfolding end_of computer_tree cpu_tree memory_tree
    memory_in =
        let p = part_of world c library (shipped_entry computer_tree) w (h c lt) 0 _ (shipped_entry cpu_tree) refl has.cpu in
        let q = part_of world c library (shipped_entry computer_tree) w (h c lt) 2 _ (shipped_entry memory_tree) refl has.memory in
        let a = number_same 16 _ _ (λ k le. whole_joined c (shipped_entry memory_tree) (w []) (w (2 ∷ [])) (codes "in") (codes "wordToMemory") q.outside.joined.0 k le) in
        let b = number_same 16 _ _ (λ k le. whole_joined c (shipped_entry cpu_tree) (w []) (w (0 ∷ [])) (codes "outM") (codes "wordToMemory") p.outside.joined.1.1.1.0 k le) in
        a ∙ sym b ∙ (cpu c lt).out

    in_m : word (w (0 ∷ [])) "inM" c ≡ word (w (2 ∷ [])) "out" c
    unfolding end_of computer_tree cpu_tree memory_tree
    in_m =
        let p = part_of world c library (shipped_entry computer_tree) w (h c lt) 0 _ (shipped_entry cpu_tree) refl has.cpu in
        let q = part_of world c library (shipped_entry computer_tree) w (h c lt) 2 _ (shipped_entry memory_tree) refl has.memory in
        let a = number_same 16 _ _ (λ k le. whole_joined c (shipped_entry cpu_tree) (w []) (w (0 ∷ [])) (codes "inM") (codes "wordFromMemory") p.outside.joined.0 k le) in
        let b = number_same 16 _ _ (λ k le. whole_joined c (shipped_entry memory_tree) (w []) (w (2 ∷ [])) (codes "out") (codes "wordFromMemory") q.outside.joined.1.1.1.0 k le) in
        a ∙ sym b

  -- the pc pins
  pc_low : (c : ℕ) → c < n → number 15 (λ k. w (0 ∷ []) (codes "pc") k c) ≡ pc_held (λ path. w (0 ∷ path)) c % 32768
  pc_low c lt = (cpu c lt).pc

  nothing_yet : (x : ℕ) → word_at w 0 x ≡ 0
  nothing_yet x = by (ltb x 16384)
    where
      by : (b : Bool) → cond {A = ℕ} b 0 0 ≡ 0
      by true = refl
      by false = refl

  module _ (c : ℕ) (later : suc c < n) (lt : c < n) (earlier : Shows w c (machine_at image keys c)) where
    -- the bits of the instruction, and its word
    f : ℕ → Bool
    f k = w (0 ∷ []) (codes "instruction") k c

    abbrev s : Machine
    s = machine_at image keys c

    i_is : number 16 f ≡ slice_index image s.pc
    unfolding f
    i_is = instruction_is c lt ∙ ap (slice_index image) earlier.pc

    read_is : word (w (0 ∷ [])) "inM" c ≡ read s.memory (keys c) s.a
    unfolding read
    read_is =
        in_m c lt ∙ memory_reads world library has n (λ path. w (2 ∷ path)) memory_inside (main_block world library has n (λ path. w (2 ∷ path)) memory_inside) (upper_block world library has n (λ path. w (2 ∷ path)) memory_inside) c lt
        ∙ read_same _ _ (keys c) (memory_word (λ path. w (2 ∷ path)) c) s.memory (memory_address c lt ∙ ap (λ x. x % 32768) earlier.a) earlier.memory

    v : ℕ
    v = instructions.output f (keys c) s

    v_is : result (λ path. w (0 ∷ path)) c ≡ v
    unfolding v f
    v_is =
        let held = three_same (f 12) (f 12) _ _ _ _ refl read_is earlier.a in
        ap₂ (λ x y. cond (f 15 && (not (f 14) && f 13)) x y)
        (ap (λ x. word_shift (f 11) x) (three_same (f 10) (f 10) _ _ _ _ refl earlier.d held))
        (same_alu _ _ _ _ (f 11) (f 11) (f 10) (f 10) (f 9) (f 9) (f 8) (f 8) (f 7) (f 7) (f 6) (f 6) earlier.d held refl refl refl refl refl refl)

    abbrev after : Machine
    after = step image (keys c) s

    -- the step is that of the instruction whose bits come from the ROM
    is_step : {X : Type 0} (g : Machine → X) → g (perform (instr_of (number 16 f)) (keys c) s) ≡ g after
    unfolding step
    is_step g = ap (λ x. g (perform (instr_of x) (keys c) s)) i_is

    next_a : a_held (λ path. w (0 ∷ path)) (suc c) ≡ after.a
    unfolding v f
    next_a =
        (cpu (suc c) later).next_a ∙ a_rule (f 15) (f 5) (number 16 f) (result (λ path. w (0 ∷ path)) c) (a_held (λ path. w (0 ∷ path)) c)
        ∙ five_same (f 15) (f 15) (f 5) (f 5) _ _ _ _ (number 16 f) (number 16 f) refl refl v_is earlier.a refl
        ∙ sym (instructions.a_next f (keys c) s) ∙ is_step (λ x. x.a)

    next_d : d_held (λ path. w (0 ∷ path)) (suc c) ≡ after.d
    unfolding v f
    next_d =
        (cpu (suc c) later).next_d ∙ d_rule (f 15) (f 4) (result (λ path. w (0 ∷ path)) c) (d_held (λ path. w (0 ∷ path)) c)
        ∙ five_same (f 15) (f 15) (f 4) (f 4) _ _ _ _ _ _ refl refl v_is earlier.d earlier.d
        ∙ sym (instructions.d_next f (keys c) s) ∙ is_step (λ x. x.d)

    next_pc : number 15 (λ k. w (0 ∷ []) (codes "pc") k (suc c)) ≡ after.pc
    unfolding v f
    next_pc =
        let p : pc_held (λ path. w (0 ∷ path)) c % 32768 ≡ s.pc = sym (pc_low c lt) ∙ earlier.pc in
        let q = ap (λ x. (x + 1) % 32768) p in
        pc_low (suc c) later ∙ ap (λ x. x % 32768) ((cpu (suc c) later).next_pc ∙ not_reset _ _ _ (reset_is c lt))
        ∙ pc_rule (f 15) _ _ _
        ∙ five_same (f 15) (f 15) _ _ _ _ _ _ _ _ refl (jump_same (f 2) (f 1) (f 0) _ _ v_is) (ap (λ x. x % 32768) earlier.a) q q
        ∙ sym (instructions.pc_next f (keys c) s) ∙ is_step (λ x. x.pc)

    next_word : (x : ℕ) → x < 24576 → word_at w (suc c) x ≡ after.memory x
    unfolding v f
    next_word x small =
        memory_next world library has n (λ path. w (2 ∷ path)) memory_inside (main_block world library has n (λ path. w (2 ∷ path)) memory_inside) (upper_block world library has n (λ path. w (2 ∷ path)) memory_inside) c lt x small
        ∙ write_same _ (f 15) (f 3) _ _ x _ _ _ _ (memory_load c lt) (memory_address c lt ∙ ap (λ y. y % 32768) earlier.a) (memory_in c lt ∙ v_is) (earlier.memory x small)
        ∙ word_rule (f 15) (f 3) (eqb (s.a % 32768) x) v (s.memory x)
        ∙ sym (instructions.memory_next f (keys c) s x small) ∙ is_step (λ y. y.memory x)

    next : Shows w (suc c) (machine_at image keys (suc c))
    next = record { a = next_a; d = next_d; pc = next_pc; memory = next_word }

  pub same : (c : ℕ) → c < n → Shows w c (machine_at image keys c)
  same zero lt = record {
    a = (cpu 0 lt).next_a;
    d = (cpu 0 lt).next_d;
    pc = pc_low 0 lt ∙ ap (λ x. x % 32768) (cpu 0 lt).next_pc;
    memory = λ x small. nothing_yet x;
  }
  same (suc c) lt = let le : c < n = omega arith in next c lt le (same c le)
