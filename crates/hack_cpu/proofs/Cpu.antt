-- The CPU.
use Rattle.std.proofs.Common.{◌≡◌, ℕ, zero, suc, ◌+◌, ◌*◌, ◌<◌, ◌%◌, Bool, true, false, cond, eqb, ltb, List, [], ◌∷◌, Some, refl, sym, ap, ap₂, ◌∙◌, arith, lit<, zero-add}
use Rattle.std.specs.Prelude.{not, ◌&&◌, ◌||◌, codes, slice_get}
use Rattle.word16.specs.Words.{word_shift}
use Rattle.hack_isa.specs.Table.{preset, combine}
use Rattle.hdl_tree.specs.declared.tree.Part.{Part}
use Rattle.hdl_tree.specs.declared.library.Entry.{Entry}
use Rattle.hdl_tree.specs.Memory.{number, before}
use Rattle.hdl_tree.specs.Chips.{Chips, end_of, find_chip, parts_of}
use Rattle.hdl_tree.specs.Behaviour.{Histories, World, Works, IsBehaviour}
use Rattle.chip_basic.specs.Hdl.{shipped_entry, wire, wire_to, wire_bit, part}
use Rattle.chip_basic.specs.Trees.{not_tree, and_tree, or_tree, mux16_tree, or8way_tree}
use Rattle.chip_basic.specs.Laws.{word}
use Rattle.chip_basic.proofs.Inside.{PartOf, part_of, whole_joined}
use Rattle.chip_basic.proofs.Gates.{not_works, and_works, or_works}
use Rattle.chip_basic.proofs.Numbers.{number_same, number_below, some_number}
use Rattle.chip_basic.proofs.Words.{mux16_works}
use Rattle.chip_basic.proofs.Ways.{or8way_works}
use Rattle.chip_alu.specs.Trees.{alu_tree, shift_tree}
use Rattle.chip_alu.proofs.Alu.{alu_works, number_split, both_zero, top_bit}
use Rattle.chip_alu.proofs.Shifts.{shift_works}
use Rattle.chip_memory.specs.Trees.{a_register_tree, d_register_tree, pc_tree}
use Rattle.chip_memory.proofs.Registers.{a_register_works, d_register_works}
use Rattle.chip_memory.proofs.Counter.{pc_works}
use Rattle.hack_cpu.specs.Trees.{HasComputerChips, cpu_tree}
use Rattle.hack_cpu.specs.Cpu.{CpuWorks, a_held, d_held, pc_held, op, a_or_m, alu_output, shift_output, is_shift, result, jumps_on}

pub low15 : (f : ℕ → Bool) → number 15 f ≡ number 16 f % 32768
low15 f = by (f 15) (number 15 f) (number_below 15 f)
  where
    by : (b : Bool) (x : ℕ) → x < 32768 → x ≡ (x + cond b 32768 0) % 32768
    by true x h = omega arith
    by false x h = omega arith

-- the ALU's result, from equal inputs
pub same_alu : (x x' y y' : ℕ) (a a' b b' d d' e e' f f' g g' : Bool) → x ≡ x' → y ≡ y' → a ≡ a' → b ≡ b' → d ≡ d' → e ≡ e' → f ≡ f' → g ≡ g' → combine f g (preset a b x) (preset d e y) ≡ combine f' g' (preset a' b' x') (preset d' e' y')
same_alu x x' y y' a a' b b' d d' e e' f f' g g' h1 h2 h3 h4 h5 h6 h7 h8 = cc

jump_chain : (zr ng low ps j1 j2 j3 j4 j5 jump o0 o1 o2 o15 z s : Bool) → low ≡ (zr || ng) → ps ≡ not low → j1 ≡ (ng && o2) → j2 ≡ (zr && o1) → j3 ≡ (ps && o0) → j4 ≡ (j2 || j3) → j5 ≡ (j1 || j4) → jump ≡ (j5 && o15) → zr ≡ z → ng ≡ s →
    jump ≡ (((s && o2) || ((z && o1) || (not (z || s) && o0))) && o15)
jump_chain zr ng low ps j1 j2 j3 j4 j5 jump o0 o1 o2 o15 z s e1 e2 e3 e4 e5 e6 e7 e8 e9 e10 = cc

register_step : (load load' : Bool) (x x' out : ℕ) → load ≡ load' → x ≡ x' → cond load x out ≡ cond load' x' out
register_step load load' x x' out e f = cc

pc_step : (reset reset' load load' inc : Bool) (x x' out : ℕ) → reset ≡ reset' → load ≡ load' → inc ≡ true → x ≡ x' →
    cond reset 0 (cond load x (cond inc ((out + 1) % 65536) out)) ≡ cond reset' 0 (cond load' x' ((out + 1) % 65536))
pc_step reset reset' load load' inc x x' out e1 e2 e3 e4 = rw e3 (cc)

abbrev alu_piece : Part
alu_piece = part "ALU" (wire "x" "valueD" ∷ wire "y" "valueAOrM" ∷ wire_bit "zx" "instruction" 11 ∷ wire_bit "nx" "instruction" 10 ∷ wire_bit "zy" "instruction" 9 ∷ wire_bit "ny" "instruction" 8 ∷ wire_bit "f" "instruction" 7 ∷ wire_bit "no" "instruction" 6 ∷ wire "out" "computed" ∷ [])

module _ (world : World) (library : Chips) (has : HasComputerChips library) (n : ℕ) (w : List ℕ → Histories) (h : IsBehaviour world library (shipped_entry cpu_tree) n w) where
  -- ---- in one cycle
  module _ (c : ℕ) (lt : c < n) where
    piece : (i : ℕ) (part : Part) (inner : Entry) → slice_get (parts_of library (shipped_entry cpu_tree)) i ≡ Some part → find_chip library part.chip ≡ Some inner → PartOf world c library w i part inner
    piece i part inner e f = part_of world c library (shipped_entry cpu_tree) w (h c lt) i part inner e f

    load_is : w [] (codes "loadsNumber") 0 c ≡ not (op w c 15)
    unfolding end_of cpu_tree not_tree
    load_is =
        let p = piece 0 _ (shipped_entry not_tree) refl has.memories.computing.basic.not in
        let j = p.outside.joined in
        cc (not_works world library has.memories.computing.basic c (λ path. w (0 ∷ path)) p.inside, j.0 0 (lit< tt), j.1.0 0 (lit< tt))

    load_a_is : w [] (codes "loadA") 0 c ≡ (not (op w c 15) || op w c 5)
    unfolding end_of cpu_tree or_tree
    load_a_is =
        let p = piece 2 _ (shipped_entry or_tree) refl has.memories.computing.basic.or in
        let j = p.outside.joined in
        cc (load_is, or_works world library has.memories.computing.basic c (λ path. w (2 ∷ path)) p.inside, j.0 0 (lit< tt), j.1.0 0 (lit< tt), j.1.1.0 0 (lit< tt))

    load_d_is : w [] (codes "loadD") 0 c ≡ (op w c 15 && op w c 4)
    unfolding end_of cpu_tree and_tree
    load_d_is =
        let p = piece 5 _ (shipped_entry and_tree) refl has.memories.computing.basic.and in
        let j = p.outside.joined in
        cc (and_works world library has.memories.computing.basic c (λ path. w (5 ∷ path)) p.inside, j.0 0 (lit< tt), j.1.0 0 (lit< tt), j.1.1.0 0 (lit< tt))

    write_is : w [] (codes "writeM") 0 c ≡ (op w c 15 && op w c 3)
    unfolding end_of cpu_tree and_tree
    write_is =
        let p = piece 8 _ (shipped_entry and_tree) refl has.memories.computing.basic.and in
        let j = p.outside.joined in
        cc (and_works world library has.memories.computing.basic c (λ path. w (8 ∷ path)) p.inside, j.0 0 (lit< tt), j.1.0 0 (lit< tt), j.1.1.0 0 (lit< tt))

    -- Mux16 with words a, b
    next_a_is : word (w []) "nextA" c ≡ cond (not (op w c 15)) (word (w []) "instruction" c) (word (w []) "result" c)
    unfolding end_of cpu_tree mux16_tree
    next_a_is =
        let p = piece 1 _ (shipped_entry mux16_tree) refl has.memories.computing.basic.mux16 in
        let j = p.outside.joined in
        let a = number_same 16 _ _ (λ k le. whole_joined c (shipped_entry mux16_tree) (w []) (w (1 ∷ [])) (codes "a") (codes "result") j.0 k le) in
        let b = number_same 16 _ _ (λ k le. whole_joined c (shipped_entry mux16_tree) (w []) (w (1 ∷ [])) (codes "b") (codes "instruction") j.1.0 k le) in
        let s : w (1 ∷ []) (codes "sel") 0 c ≡ not (op w c 15) = j.1.1.0 0 (lit< tt) ∙ load_is in
        let o = number_same 16 _ _ (λ k le. whole_joined c (shipped_entry mux16_tree) (w []) (w (1 ∷ [])) (codes "out") (codes "nextA") j.1.1.1.0 k le) in
        sym o ∙ mux16_works world library has.memories.computing.basic c (λ path. w (1 ∷ path)) p.inside ∙ ap (λ x. cond x (word (w (1 ∷ [])) "b" c) (word (w (1 ∷ [])) "a" c)) s ∙ ap₂ (λ x y. cond (not (op w c 15)) x y) b a

    value_a_is : word (w []) "valueA" c ≡ a_held w c
    unfolding end_of cpu_tree a_register_tree
    value_a_is =
        let p = piece 3 _ (shipped_entry a_register_tree) refl has.memories.a_register in
        let j = p.outside.joined in
        sym (number_same 16 _ _ (λ k le. whole_joined c (shipped_entry a_register_tree) (w []) (w (3 ∷ [])) (codes "out") (codes "valueA") j.1.1.0 k le))

    y_is : word (w []) "valueAOrM" c ≡ a_or_m w c
    unfolding end_of cpu_tree mux16_tree
    y_is =
        let p = piece 4 _ (shipped_entry mux16_tree) refl has.memories.computing.basic.mux16 in
        let j = p.outside.joined in
        let a = number_same 16 _ _ (λ k le. whole_joined c (shipped_entry mux16_tree) (w []) (w (4 ∷ [])) (codes "a") (codes "valueA") j.0 k le) ∙ value_a_is in
        let b = number_same 16 _ _ (λ k le. whole_joined c (shipped_entry mux16_tree) (w []) (w (4 ∷ [])) (codes "b") (codes "inM") j.1.0 k le) in
        let s : w (4 ∷ []) (codes "sel") 0 c ≡ op w c 12 = j.1.1.0 0 (lit< tt) in
        let o = number_same 16 _ _ (λ k le. whole_joined c (shipped_entry mux16_tree) (w []) (w (4 ∷ [])) (codes "out") (codes "valueAOrM") j.1.1.1.0 k le) in
        sym o ∙ mux16_works world library has.memories.computing.basic c (λ path. w (4 ∷ path)) p.inside ∙ ap (λ x. cond x (word (w (4 ∷ [])) "b" c) (word (w (4 ∷ [])) "a" c)) s ∙ ap₂ (λ x y. cond (op w c 12) x y) b a

    x_is : word (w []) "valueD" c ≡ d_held w c
    unfolding end_of cpu_tree d_register_tree
    x_is =
        let p = piece 6 _ (shipped_entry d_register_tree) refl has.memories.d_register in
        let j = p.outside.joined in
        sym (number_same 16 _ _ (λ k le. whole_joined c (shipped_entry d_register_tree) (w []) (w (6 ∷ [])) (codes "out") (codes "valueD") j.1.1.0 k le))

    -- the ALU
    alu_part : PartOf world c library w 7 alu_piece (shipped_entry alu_tree)
    unfolding end_of cpu_tree
    alu_part = piece 7 _ (shipped_entry alu_tree) refl has.memories.computing.alu

    computed_inside : word (w (7 ∷ [])) "out" c ≡ alu_output w c
    unfolding end_of cpu_tree alu_tree
    computed_inside =
        let j = alu_part.outside.joined in
        let x = number_same 16 _ _ (λ k le. whole_joined c (shipped_entry alu_tree) (w []) (w (7 ∷ [])) (codes "x") (codes "valueD") j.0 k le) ∙ x_is in
        let y = number_same 16 _ _ (λ k le. whole_joined c (shipped_entry alu_tree) (w []) (w (7 ∷ [])) (codes "y") (codes "valueAOrM") j.1.0 k le) ∙ y_is in
        let e1 : w (7 ∷ []) (codes "zx") 0 c ≡ op w c 11 = j.1.1.0 0 (lit< tt) in
        let e2 : w (7 ∷ []) (codes "nx") 0 c ≡ op w c 10 = j.1.1.1.0 0 (lit< tt) in
        let e3 : w (7 ∷ []) (codes "zy") 0 c ≡ op w c 9 = j.1.1.1.1.0 0 (lit< tt) in
        let e4 : w (7 ∷ []) (codes "ny") 0 c ≡ op w c 8 = j.1.1.1.1.1.0 0 (lit< tt) in
        let e5 : w (7 ∷ []) (codes "f") 0 c ≡ op w c 7 = j.1.1.1.1.1.1.0 0 (lit< tt) in
        let e6 : w (7 ∷ []) (codes "no") 0 c ≡ op w c 6 = j.1.1.1.1.1.1.1.0 0 (lit< tt) in
        (alu_works world library has.memories.computing c (λ path. w (7 ∷ path)) alu_part.inside).out ∙ same_alu _ _ _ _ _ _ _ _ _ _ _ _ _ _ _ _ x y e1 e2 e3 e4 e5 e6

    computed_is : word (w []) "computed" c ≡ alu_output w c
    unfolding end_of cpu_tree alu_tree
    computed_is = sym (number_same 16 _ _ (λ k le. whole_joined c (shipped_entry alu_tree) (w []) (w (7 ∷ [])) (codes "out") (codes "computed") alu_part.outside.joined.1.1.1.1.1.1.1.1.0 k le)) ∙ computed_inside

    -- the shift
    is_shift_is : w [] (codes "isShift") 0 c ≡ is_shift w c
    unfolding end_of cpu_tree not_tree and_tree
    is_shift_is =
        let b = has.memories.computing.basic in
        let p18 = piece 18 _ (shipped_entry not_tree) refl b.not in
        let p19 = piece 19 _ (shipped_entry and_tree) refl b.and in
        let p20 = piece 20 _ (shipped_entry and_tree) refl b.and in
        let j18 = p18.outside.joined in
        let j19 = p19.outside.joined in
        let j20 = p20.outside.joined in
        let e18 : w [] (codes "noBit14") 0 c ≡ not (op w c 14) = cc (not_works world library b c (λ path. w (18 ∷ path)) p18.inside, j18.0 0 (lit< tt), j18.1.0 0 (lit< tt)) in
        let e19 : w [] (codes "bit13Alone") 0 c ≡ (w [] (codes "noBit14") 0 c && op w c 13) = cc (and_works world library b c (λ path. w (19 ∷ path)) p19.inside, j19.0 0 (lit< tt), j19.1.0 0 (lit< tt), j19.1.1.0 0 (lit< tt)) in
        let e20 : w [] (codes "isShift") 0 c ≡ (op w c 15 && w [] (codes "bit13Alone") 0 c) = cc (and_works world library b c (λ path. w (20 ∷ path)) p20.inside, j20.0 0 (lit< tt), j20.1.0 0 (lit< tt), j20.1.1.0 0 (lit< tt)) in
        e20 ∙ ap (λ x. op w c 15 && x) (e19 ∙ ap (λ x. x && op w c 13) e18)

    operand_is : word (w []) "shiftOperand" c ≡ cond (op w c 10) (d_held w c) (a_or_m w c)
    unfolding end_of cpu_tree mux16_tree
    operand_is =
        let p = piece 21 _ (shipped_entry mux16_tree) refl has.memories.computing.basic.mux16 in
        let j = p.outside.joined in
        let a = number_same 16 _ _ (λ k le. whole_joined c (shipped_entry mux16_tree) (w []) (w (21 ∷ [])) (codes "a") (codes "valueAOrM") j.0 k le) ∙ y_is in
        let b = number_same 16 _ _ (λ k le. whole_joined c (shipped_entry mux16_tree) (w []) (w (21 ∷ [])) (codes "b") (codes "valueD") j.1.0 k le) ∙ x_is in
        let s : w (21 ∷ []) (codes "sel") 0 c ≡ op w c 10 = j.1.1.0 0 (lit< tt) in
        let o = number_same 16 _ _ (λ k le. whole_joined c (shipped_entry mux16_tree) (w []) (w (21 ∷ [])) (codes "out") (codes "shiftOperand") j.1.1.1.0 k le) in
        sym o ∙ mux16_works world library has.memories.computing.basic c (λ path. w (21 ∷ path)) p.inside ∙ ap (λ x. cond x (word (w (21 ∷ [])) "b" c) (word (w (21 ∷ [])) "a" c)) s ∙ ap₂ (λ x y. cond (op w c 10) x y) b a

    shifted_is : word (w []) "shifted" c ≡ shift_output w c
    unfolding end_of cpu_tree shift_tree
    shifted_is =
        let p = piece 22 _ (shipped_entry shift_tree) refl has.memories.computing.shift in
        let j = p.outside.joined in
        let i = number_same 16 _ _ (λ k le. whole_joined c (shipped_entry shift_tree) (w []) (w (22 ∷ [])) (codes "in") (codes "shiftOperand") j.0 k le) ∙ operand_is in
        let l : w (22 ∷ []) (codes "left") 0 c ≡ op w c 11 = j.1.0 0 (lit< tt) in
        let o = number_same 16 _ _ (λ k le. whole_joined c (shipped_entry shift_tree) (w []) (w (22 ∷ [])) (codes "out") (codes "shifted") j.1.1.0 k le) in
        sym o ∙ shift_works world library has.memories.computing c (λ path. w (22 ∷ path)) p.inside ∙ ap₂ (λ x y. word_shift x y) l i

    -- the result, which comes out of part 23
    v_inside : word (w (23 ∷ [])) "out" c ≡ result w c
    unfolding end_of cpu_tree mux16_tree
    v_inside =
        let p = piece 23 _ (shipped_entry mux16_tree) refl has.memories.computing.basic.mux16 in
        let j = p.outside.joined in
        let a = number_same 16 _ _ (λ k le. whole_joined c (shipped_entry mux16_tree) (w []) (w (23 ∷ [])) (codes "a") (codes "computed") j.0 k le) ∙ computed_is in
        let b = number_same 16 _ _ (λ k le. whole_joined c (shipped_entry mux16_tree) (w []) (w (23 ∷ [])) (codes "b") (codes "shifted") j.1.0 k le) ∙ shifted_is in
        let s : w (23 ∷ []) (codes "sel") 0 c ≡ is_shift w c = j.1.1.0 0 (lit< tt) ∙ is_shift_is in
        mux16_works world library has.memories.computing.basic c (λ path. w (23 ∷ path)) p.inside ∙ ap (λ x. cond x (word (w (23 ∷ [])) "b" c) (word (w (23 ∷ [])) "a" c)) s ∙ ap₂ (λ x y. cond (is_shift w c) x y) b a

    v_is : word (w []) "result" c ≡ result w c
    unfolding end_of cpu_tree mux16_tree
    v_is =
        let j = (piece 23 _ (shipped_entry mux16_tree) refl has.memories.computing.basic.mux16).outside.joined in
        sym (number_same 16 _ _ (λ k le. whole_joined c (shipped_entry mux16_tree) (w []) (w (23 ∷ [])) (codes "out") (codes "result") j.1.1.1.0 k le)) ∙ v_inside

    out_is : word (w []) "outM" c ≡ result w c
    unfolding end_of cpu_tree mux16_tree
    out_is =
        let j = (piece 23 _ (shipped_entry mux16_tree) refl has.memories.computing.basic.mux16).outside.joined in
        sym (number_same 16 _ _ (λ k le. whole_joined c (shipped_entry mux16_tree) (w []) (w (23 ∷ [])) (codes "out") (codes "outM") j.1.1.1.1.0 k le)) ∙ v_inside

    -- whether some bit of a half of the result is 1
    half : (place : ℕ) (half_net out : List ℕ) (from : ℕ) → slice_get (parts_of library (shipped_entry cpu_tree)) place ≡ Some (part "Or8Way" (wire_to "in" half_net ∷ wire_to "out" out ∷ [])) → ((k : ℕ) → k < 8 → w [] half_net k c ≡ w (23 ∷ []) (codes "out") (from + k) c) →
        w [] out 0 c ≡ not (eqb (number 8 (λ k. w (23 ∷ []) (codes "out") (from + k) c)) 0)
    unfolding end_of cpu_tree or8way_tree
    half place half_net out from e same =
        let p = piece place _ (shipped_entry or8way_tree) e has.memories.computing.basic.or8way in
        let j = p.outside.joined in
        let a : number 8 (λ k. w (place ∷ []) (codes "in") k c) ≡ number 8 (λ k. w (23 ∷ []) (codes "out") (from + k) c) =
        number_same 8 _ _ (λ k le. whole_joined c (shipped_entry or8way_tree) (w []) (w (place ∷ [])) (codes "in") half_net j.0 k le ∙ same k le) in
        sym (j.1.0 0 (lit< tt)) ∙ or8way_works world library has.memories.computing.basic c (λ path. w (place ∷ path)) p.inside ∙ some_number 8 (λ k. w (place ∷ []) (codes "in") k c) ∙ ap (λ x. not (eqb x 0)) a

    zr_is : w [] (codes "isZero") 0 c ≡ eqb (result w c) 0
    unfolding end_of cpu_tree mux16_tree or_tree not_tree
    zr_is =
        let basic = has.memories.computing.basic in
        let j = (piece 23 _ (shipped_entry mux16_tree) refl basic.mux16).outside.joined in
        let low : (k : ℕ) → k < 8 → w [] (codes "lowHalf") k c ≡ w (23 ∷ []) (codes "out") (0 + k) c = λ k le.
        ap (λ x. w [] (codes "lowHalf") x c) (sym (zero-add k)) ∙ sym (j.1.1.1.1.1.0 k le) in
        let high : (k : ℕ) → k < 8 → w [] (codes "highHalf") k c ≡ w (23 ∷ []) (codes "out") (8 + k) c = λ k le.
        ap (λ x. w [] (codes "highHalf") x c) (sym (zero-add k)) ∙ sym (j.1.1.1.1.1.1.0 k le) in
        let l = half 24 (codes "lowHalf") (codes "someLow") 0 refl low in
        let m = half 25 (codes "highHalf") (codes "someHigh") 8 refl high in
        let q = piece 26 _ (shipped_entry or_tree) refl basic.or in
        let r = piece 27 _ (shipped_entry not_tree) refl basic.not in
        let jq = q.outside.joined in
        let jr = r.outside.joined in
        let e : w [] (codes "isZero") 0 c ≡ not (w [] (codes "someLow") 0 c || w [] (codes "someHigh") 0 c) =
        cc (or_works world library basic c (λ path. w (26 ∷ path)) q.inside, not_works world library basic c (λ path. w (27 ∷ path)) r.inside, jq.0 0 (lit< tt), jq.1.0 0 (lit< tt), jq.1.1.0 0 (lit< tt), jr.0 0 (lit< tt), jr.1.0 0 (lit< tt)) in
        let x = number 8 (λ k. w (23 ∷ []) (codes "out") (0 + k) c) in
        let y = number 8 (λ k. w (23 ∷ []) (codes "out") (8 + k) c) in
        let s : x + 256 * y ≡ word (w (23 ∷ [])) "out" c = sym (number_split 8 (λ k. w (23 ∷ []) (codes "out") k c) 16 refl) in
        e ∙ ap₂ (λ a b. not (a || b)) l m ∙ both_zero x y ∙ ap (λ z. eqb z 0) (s ∙ v_inside)

    ng_is : w [] (codes "isNegative") 0 c ≡ ltb 32767 (result w c)
    unfolding end_of cpu_tree mux16_tree
    ng_is =
        let j = (piece 23 _ (shipped_entry mux16_tree) refl has.memories.computing.basic.mux16).outside.joined in
        sym (j.1.1.1.1.1.1.1.0 0 (lit< tt))
        ∙ top_bit (w (23 ∷ []) (codes "out") 15 c) (number 15 (λ k. w (23 ∷ []) (codes "out") k c)) (number_below 15 (λ k. w (23 ∷ []) (codes "out") k c))
        ∙ ap (λ x. ltb 32767 x) v_inside

    jump_is : w [] (codes "jump") 0 c ≡ jumps_on w c (result w c)
    unfolding end_of cpu_tree or_tree not_tree and_tree
    jump_is =
        let b = has.memories.computing.basic in
        let p9 = piece 9 _ (shipped_entry or_tree) refl b.or in
        let p10 = piece 10 _ (shipped_entry not_tree) refl b.not in
        let p11 = piece 11 _ (shipped_entry and_tree) refl b.and in
        let p12 = piece 12 _ (shipped_entry and_tree) refl b.and in
        let p13 = piece 13 _ (shipped_entry and_tree) refl b.and in
        let p14 = piece 14 _ (shipped_entry or_tree) refl b.or in
        let p15 = piece 15 _ (shipped_entry or_tree) refl b.or in
        let p16 = piece 16 _ (shipped_entry and_tree) refl b.and in
        let j9 = p9.outside.joined in
        let j10 = p10.outside.joined in
        let j11 = p11.outside.joined in
        let j12 = p12.outside.joined in
        let j13 = p13.outside.joined in
        let j14 = p14.outside.joined in
        let j15 = p15.outside.joined in
        let j16 = p16.outside.joined in
        let e9 : w [] (codes "isNotPositive") 0 c ≡ (w [] (codes "isZero") 0 c || w [] (codes "isNegative") 0 c) = cc (or_works world library b c (λ path. w (9 ∷ path)) p9.inside, j9.0 0 (lit< tt), j9.1.0 0 (lit< tt), j9.1.1.0 0 (lit< tt)) in
        let e10 : w [] (codes "isPositive") 0 c ≡ not (w [] (codes "isNotPositive") 0 c) = cc (not_works world library b c (λ path. w (10 ∷ path)) p10.inside, j10.0 0 (lit< tt), j10.1.0 0 (lit< tt)) in
        let e11 : w [] (codes "jumpOnNegative") 0 c ≡ (w [] (codes "isNegative") 0 c && op w c 2) = cc (and_works world library b c (λ path. w (11 ∷ path)) p11.inside, j11.0 0 (lit< tt), j11.1.0 0 (lit< tt), j11.1.1.0 0 (lit< tt)) in
        let e12 : w [] (codes "jumpOnZero") 0 c ≡ (w [] (codes "isZero") 0 c && op w c 1) = cc (and_works world library b c (λ path. w (12 ∷ path)) p12.inside, j12.0 0 (lit< tt), j12.1.0 0 (lit< tt), j12.1.1.0 0 (lit< tt)) in
        let e13 : w [] (codes "jumpOnPositive") 0 c ≡ (w [] (codes "isPositive") 0 c && op w c 0) = cc (and_works world library b c (λ path. w (13 ∷ path)) p13.inside, j13.0 0 (lit< tt), j13.1.0 0 (lit< tt), j13.1.1.0 0 (lit< tt)) in
        let e14 : w [] (codes "jumpOnOther") 0 c ≡ (w [] (codes "jumpOnZero") 0 c || w [] (codes "jumpOnPositive") 0 c) = cc (or_works world library b c (λ path. w (14 ∷ path)) p14.inside, j14.0 0 (lit< tt), j14.1.0 0 (lit< tt), j14.1.1.0 0 (lit< tt)) in
        let e15 : w [] (codes "jumpIsAsked") 0 c ≡ (w [] (codes "jumpOnNegative") 0 c || w [] (codes "jumpOnOther") 0 c) = cc (or_works world library b c (λ path. w (15 ∷ path)) p15.inside, j15.0 0 (lit< tt), j15.1.0 0 (lit< tt), j15.1.1.0 0 (lit< tt)) in
        let e16 : w [] (codes "jump") 0 c ≡ (w [] (codes "jumpIsAsked") 0 c && op w c 15) = cc (and_works world library b c (λ path. w (16 ∷ path)) p16.inside, j16.0 0 (lit< tt), j16.1.0 0 (lit< tt), j16.1.1.0 0 (lit< tt)) in
        jump_chain _ _ _ _ _ _ _ _ _ _ _ _ _ _ _ _ e9 e10 e11 e12 e13 e14 e15 e16 zr_is ng_is

    -- what goes into the registers
    a_in : word (w (3 ∷ [])) "in" c ≡ word (w []) "nextA" c
    unfolding end_of cpu_tree a_register_tree
    a_in = number_same 16 _ _ (λ k le. whole_joined c (shipped_entry a_register_tree) (w []) (w (3 ∷ [])) (codes "in") (codes "nextA") (piece 3 _ (shipped_entry a_register_tree) refl has.memories.a_register).outside.joined.0 k le)

    a_load : w (3 ∷ []) (codes "load") 0 c ≡ w [] (codes "loadA") 0 c
    unfolding end_of cpu_tree a_register_tree
    a_load = (piece 3 _ (shipped_entry a_register_tree) refl has.memories.a_register).outside.joined.1.0 0 (lit< tt)

    a_inside : Works world c library (shipped_entry a_register_tree) (λ path. w (3 ∷ path))
    unfolding end_of cpu_tree
    a_inside = (piece 3 _ (shipped_entry a_register_tree) refl has.memories.a_register).inside

    address_is : (k : ℕ) → k < 15 → w [] (codes "addressM") k c ≡ w (3 ∷ []) (codes "out") k c
    unfolding end_of cpu_tree a_register_tree
    address_is k le =
        let e = (piece 3 _ (shipped_entry a_register_tree) refl has.memories.a_register).outside.joined.1.1.1.0 k le in
        ap (λ x. w [] (codes "addressM") x c) (sym (zero-add k)) ∙ sym e ∙ ap (λ x. w (3 ∷ []) (codes "out") x c) (zero-add k)

    d_in : word (w (6 ∷ [])) "in" c ≡ word (w []) "result" c
    unfolding end_of cpu_tree d_register_tree
    d_in = number_same 16 _ _ (λ k le. whole_joined c (shipped_entry d_register_tree) (w []) (w (6 ∷ [])) (codes "in") (codes "result") (piece 6 _ (shipped_entry d_register_tree) refl has.memories.d_register).outside.joined.0 k le)

    d_load : w (6 ∷ []) (codes "load") 0 c ≡ w [] (codes "loadD") 0 c
    unfolding end_of cpu_tree d_register_tree
    d_load = (piece 6 _ (shipped_entry d_register_tree) refl has.memories.d_register).outside.joined.1.0 0 (lit< tt)

    d_inside : Works world c library (shipped_entry d_register_tree) (λ path. w (6 ∷ path))
    unfolding end_of cpu_tree
    d_inside = (piece 6 _ (shipped_entry d_register_tree) refl has.memories.d_register).inside

    pc_inside : Works world c library (shipped_entry pc_tree) (λ path. w (17 ∷ path))
    unfolding end_of cpu_tree
    pc_inside = (piece 17 _ (shipped_entry pc_tree) refl has.memories.pc).inside

    pc_in : word (w (17 ∷ [])) "in" c ≡ a_held w c
    unfolding end_of cpu_tree pc_tree
    pc_in = number_same 16 _ _ (λ k le. whole_joined c (shipped_entry pc_tree) (w []) (w (17 ∷ [])) (codes "in") (codes "valueA") (piece 17 _ (shipped_entry pc_tree) refl has.memories.pc).outside.joined.0 k le) ∙ value_a_is

    pc_pins : (w (17 ∷ []) (codes "load") 0 c ≡ w [] (codes "jump") 0 c) × (w (17 ∷ []) (codes "inc") 0 c ≡ true) × (w (17 ∷ []) (codes "reset") 0 c ≡ w [] (codes "reset") 0 c)
    unfolding end_of cpu_tree pc_tree
    pc_pins =
        let j = (piece 17 _ (shipped_entry pc_tree) refl has.memories.pc).outside.joined in
        (j.1.0 0 (lit< tt), j.1.1.0 0 (lit< tt), j.1.1.1.0 0 (lit< tt))

    pc_is : (k : ℕ) → k < 15 → w [] (codes "pc") k c ≡ w (17 ∷ []) (codes "out") k c
    unfolding end_of cpu_tree pc_tree
    pc_is k le =
        let e = (piece 17 _ (shipped_entry pc_tree) refl has.memories.pc).outside.joined.1.1.1.1.0 k le in
        ap (λ x. w [] (codes "pc") x c) (sym (zero-add k)) ∙ sym e ∙ ap (λ x. w (17 ∷ []) (codes "out") x c) (zero-add k)

  -- ---- over the cycles
  a_next : (c : ℕ) → c < n → a_held w c ≡ before 0 c (λ d. cond (not (op w d 15) || op w d 5) (cond (not (op w d 15)) (word (w []) "instruction" d) (result w d)) (a_held w d))
  a_next zero lt = a_register_works world library has.memories n (λ path. w (3 ∷ path)) (λ d le. a_inside d le) zero lt
  a_next (suc d) lt =
      let le : d < n = omega arith in
      a_register_works world library has.memories n (λ path. w (3 ∷ path)) (λ e le'. a_inside e le') (suc d) lt
      ∙ register_step _ _ _ _ _ (a_load d le ∙ load_a_is d le) (a_in d le ∙ next_a_is d le ∙ ap (λ x. cond (not (op w d 15)) (word (w []) "instruction" d) x) (v_is d le))

  d_next : (c : ℕ) → c < n → d_held w c ≡ before 0 c (λ d. cond (op w d 15 && op w d 4) (result w d) (d_held w d))
  d_next zero lt = d_register_works world library has.memories n (λ path. w (6 ∷ path)) (λ d le. d_inside d le) zero lt
  d_next (suc d) lt =
      let le : d < n = omega arith in
      d_register_works world library has.memories n (λ path. w (6 ∷ path)) (λ e le'. d_inside e le') (suc d) lt
      ∙ register_step _ _ _ _ _ (d_load d le ∙ load_d_is d le) (d_in d le ∙ v_is d le)

  pc_next : (c : ℕ) → c < n → pc_held w c ≡ before 0 c (λ d. cond (w [] (codes "reset") 0 d) 0 (cond (jumps_on w d (result w d)) (a_held w d) ((pc_held w d + 1) % 65536)))
  pc_next zero lt = pc_works world library has.memories n (λ path. w (17 ∷ path)) (λ d le. pc_inside d le) zero lt
  pc_next (suc d) lt =
      let le : d < n = omega arith in
      let p = pc_pins d le in
      pc_works world library has.memories n (λ path. w (17 ∷ path)) (λ e le'. pc_inside e le') (suc d) lt
      ∙ pc_step _ _ _ _ _ _ _ _ p.2 (p.0 ∙ jump_is d le) p.1 (pc_in d le)

  pub cpu_works : (c : ℕ) → c < n → CpuWorks w c
  cpu_works c lt = record {
    out = out_is c lt;
    write = write_is c lt;
    address = number_same 15 _ _ (address_is c lt) ∙ low15 (λ k. w (3 ∷ []) (codes "out") k c);
    pc = number_same 15 _ _ (pc_is c lt) ∙ low15 (λ k. w (17 ∷ []) (codes "out") k c);
    next_a = a_next c lt;
    next_d = d_next c lt;
    next_pc = pc_next c lt;
  }
