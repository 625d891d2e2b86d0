-- Memory: what it gives, and what it holds next, where its memories work as blocks do, be they blocks or of gates.
use Rattle.std.proofs.Common.{◌≡◌, ◌≢◌, ℕ, suc, ◌+◌, ◌<◌, ◌≤◌, ◌-◌, Bool, true, false, cond, eqb, ltb, List, [], ◌∷◌, refl, sym, ap, ap₂, ◌∙◌, arith, lit<, add-zero, ne_eqb}
use Rattle.std.proofs.lemmas.Bool.{lt-ltb, ltb-true, ltb-false}
use Rattle.std.specs.Prelude.{not, ◌&&◌, codes}
use Rattle.std.proofs.lemmas.Bool.Decides.{nat_tests}
use Rattle.hdl_tree.specs.declared.tree.Part.{Part}
use Rattle.hdl_tree.specs.Memory.{number}
use Rattle.hdl_tree.specs.Chips.{Chips, end_of}
use Rattle.hdl_tree.specs.Behaviour.{Histories, World, IsBehaviour, BlockWorks}
use Rattle.chip_basic.specs.Hdl.{shipped_entry, wire, wire_bits, part}
use Rattle.chip_basic.specs.Trees.{HasBasicChips, not_tree, and_tree, dmux_tree, mux16_tree}
use Rattle.chip_basic.specs.Laws.{word}
use Rattle.chip_basic.proofs.Inside.{PartOf, part_of, whole_joined}
use Rattle.chip_basic.proofs.Gates.{not_works, and_works, dmux_a, dmux_b}
use Rattle.chip_basic.proofs.Numbers.{number_same, number_below}
use Rattle.chip_basic.proofs.Words.{mux16_works}
use Rattle.chip_memory.specs.Trees.{ram16k_tree, screen_tree}
use Rattle.hack_cpu.specs.Trees.{HasComputerChips, memory_tree, keyboard_tree}
use Rattle.hack_cpu.specs.Computer.{block_word}

-- the words of the memory with these pins inside
abbrev pub memory_word : (List ℕ → Histories) → ℕ → ℕ → ℕ
memory_word w c x = cond (ltb x 16384) (block_word 14 (w (3 ∷ [])) c x) (block_word 13 (w (4 ∷ [])) c (x - 16384))

-- ---- on numbers

le-ltb : (a b : ℕ) → b ≤ a → ltb a b ≡ false
le-ltb a b h = grind (arith, nat_tests)

-- what is read at an address: bits 14 and 13, and the number of the lower 13
read_at : (b14 b13 : Bool) (low key : ℕ) (ram screen : ℕ → ℕ) → low < 8192 →
    cond b14 (cond b13 key (screen low)) (ram (low + cond b13 8192 0)) ≡ (let a = (low + cond b13 8192 0) + cond b14 16384 0 in cond (ltb a 24576) (cond (ltb a 16384) (ram a) (screen (a - 16384))) key)
read_at true true low key ram screen lt =
    let a : 24576 ≤ (low + 8192) + 16384 = omega arith in
    rw (le-ltb ((low + 8192) + 16384) 24576 a)
read_at true false low key ram screen lt =
    let a : (low + 0) + 16384 < 24576 = omega arith in
    let b : 16384 ≤ (low + 0) + 16384 = omega arith in
    let e : ((low + 0) + 16384) - 16384 ≡ low = omega arith in
    rw (lt-ltb _ _ a, le-ltb ((low + 0) + 16384) 16384 b, e)
read_at false true low key ram screen lt =
    let a : (low + 8192) + 0 < 24576 = omega arith in
    let b : (low + 8192) + 0 < 16384 = omega arith in
    let e : (low + 8192) + 0 ≡ low + 8192 = omega arith in
    rw (lt-ltb _ _ a, lt-ltb _ _ b, e)
read_at false false low key ram screen lt =
    let a : (low + 0) + 0 < 24576 = omega arith in
    let b : (low + 0) + 0 < 16384 = omega arith in
    let e : (low + 0) + 0 ≡ low + 0 = omega arith in
    rw (lt-ltb _ _ a, lt-ltb _ _ b, e)

same_test : (a b c d : ℕ) → (a ≡ b → c ≡ d) → (c ≡ d → a ≡ b) → eqb a b ≡ eqb c d
same_test a b c d f g = grind (arith, nat_tests)

-- a word of main memory is written where the address is its place
ram_test : (load b14 : Bool) (low x : ℕ) → x < 16384 → low < 16384 → ((load && not b14) && eqb low x) ≡ (load && eqb (low + cond b14 16384 0) x)
ram_test false b14 low x a b = refl
ram_test true true low x a b = let ne : low + 16384 ≢ x = omega arith in sym (ne_eqb _ _ ne)
ram_test true false low x a b = ap (λ y. eqb y x) (sym (add-zero low))

-- and a word of the screen
screen_test : (load b14 b13 : Bool) (low x : ℕ) → 16384 ≤ x → x < 24576 → low < 8192 → (((load && b14) && not b13) && eqb low (x - 16384)) ≡ (load && eqb ((low + cond b13 8192 0) + cond b14 16384 0) x)
screen_test false b14 b13 low x a b c = refl
screen_test true true true low x a b c = let ne : (low + 8192) + 16384 ≢ x = omega arith in sym (ne_eqb _ _ ne)
screen_test true true false low x a b c = same_test low (x - 16384) ((low + 0) + 16384) x (λ e. omega arith) (λ e. omega arith)
screen_test true false true low x a b c = let ne : (low + 8192) + 0 ≢ x = omega arith in sym (ne_eqb _ _ ne)
screen_test true false false low x a b c = let ne : (low + 0) + 0 ≢ x = omega arith in sym (ne_eqb _ _ ne)

three_same : (a a' : Bool) (b b' d d' : ℕ) → a ≡ a' → b ≡ b' → d ≡ d' → cond a b d ≡ cond a' b' d'
three_same a a' b b' d d' e f g = cc

abbrev pub ram_piece : Part
ram_piece = part "RAM16K" (wire "in" "in" ∷ wire "load" "loadMain" ∷ wire_bits "address" "address" 0 13 ∷ wire "out" "mainWord" ∷ [])

abbrev pub screen_piece : Part
screen_piece = part "Screen" (wire "in" "in" ∷ wire "load" "loadScreen" ∷ wire_bits "address" "address" 0 12 ∷ wire "out" "screenWord" ∷ [])

module _ (world : World) (library : Chips) (has : HasComputerChips library) (n : ℕ) (w : List ℕ → Histories) (h : IsBehaviour world library (shipped_entry memory_tree) n w)
    (ram_works : (c : ℕ) → c < n → BlockWorks c 14 (w (3 ∷ []))) (screen_works : (c : ℕ) → c < n → BlockWorks c 13 (w (4 ∷ []))) where
  address : ℕ → ℕ
  address c = number 15 (λ k. w [] (codes "address") k c)

  module _ (c : ℕ) (lt : c < n) where
    basic : HasBasicChips library
    basic = has.memories.computing.basic

    load_ram : w [] (codes "loadMain") 0 c ≡ (w [] (codes "load") 0 c && not (w [] (codes "address") 14 c))
    unfolding end_of memory_tree dmux_tree
    load_ram =
        let p = part_of world c library (shipped_entry memory_tree) w (h c lt) 0 _ (shipped_entry dmux_tree) refl basic.dmux in
        let j = p.outside.joined in
        cc (dmux_a world library basic c (λ path. w (0 ∷ path)) p.inside, j.0 0 (lit< tt), j.1.0 0 (lit< tt), j.1.1.0 0 (lit< tt))

    load_screen : w [] (codes "loadScreen") 0 c ≡ ((w [] (codes "load") 0 c && w [] (codes "address") 14 c) && not (w [] (codes "address") 13 c))
    unfolding end_of memory_tree dmux_tree not_tree and_tree
    load_screen =
        let p = part_of world c library (shipped_entry memory_tree) w (h c lt) 0 _ (shipped_entry dmux_tree) refl basic.dmux in
        let q = part_of world c library (shipped_entry memory_tree) w (h c lt) 1 _ (shipped_entry not_tree) refl basic.not in
        let r = part_of world c library (shipped_entry memory_tree) w (h c lt) 2 _ (shipped_entry and_tree) refl basic.and in
        let j = p.outside.joined in
        let k = q.outside.joined in
        let l = r.outside.joined in
        cc (
          dmux_b world library basic c (λ path. w (0 ∷ path)) p.inside,
          j.0 0 (lit< tt),
          j.1.0 0 (lit< tt),
          j.1.1.1.0 0 (lit< tt),
          not_works world library basic c (λ path. w (1 ∷ path)) q.inside,
          k.0 0 (lit< tt),
          k.1.0 0 (lit< tt),
          and_works world library basic c (λ path. w (2 ∷ path)) r.inside,
          l.0 0 (lit< tt),
          l.1.0 0 (lit< tt),
          l.1.1.0 0 (lit< tt),
        )

    ram_part : PartOf world c library w 3 ram_piece (shipped_entry ram16k_tree)
    unfolding end_of memory_tree
    ram_part = part_of world c library (shipped_entry memory_tree) w (h c lt) 3 ram_piece (shipped_entry ram16k_tree) refl has.memories.ram16k

    screen_part : PartOf world c library w 4 screen_piece (shipped_entry screen_tree)
    unfolding end_of memory_tree
    screen_part = part_of world c library (shipped_entry memory_tree) w (h c lt) 4 screen_piece (shipped_entry screen_tree) refl has.memories.screen

    ram_address : number 14 (λ k. w (3 ∷ []) (codes "address") k c) ≡ number 14 (λ k. w [] (codes "address") k c)
    unfolding end_of ram16k_tree
    ram_address = number_same 14 _ _ (λ k le. whole_joined c (shipped_entry ram16k_tree) (w []) (w (3 ∷ [])) (codes "address") (codes "address") ram_part.outside.joined.1.1.0 k le)

    screen_address : number 13 (λ k. w (4 ∷ []) (codes "address") k c) ≡ number 13 (λ k. w [] (codes "address") k c)
    unfolding end_of screen_tree
    screen_address = number_same 13 _ _ (λ k le. whole_joined c (shipped_entry screen_tree) (w []) (w (4 ∷ [])) (codes "address") (codes "address") screen_part.outside.joined.1.1.0 k le)

    -- one step of a word of main memory, and of the screen
    ram_next : (x : ℕ) → x < 16384 → block_word 14 (w (3 ∷ [])) (suc c) x ≡ cond (w [] (codes "load") 0 c && eqb (address c) x) (word (w []) "in" c) (block_word 14 (w (3 ∷ [])) c x)
    unfolding end_of ram16k_tree address
    ram_next x small =
        let j = ram_part.outside.joined in
        let i : word (w (3 ∷ [])) "in" c ≡ word (w []) "in" c = number_same 16 _ _ (λ k le. whole_joined c (shipped_entry ram16k_tree) (w []) (w (3 ∷ [])) (codes "in") (codes "in") j.0 k le) in
        let l : w (3 ∷ []) (codes "load") 0 c ≡ (w [] (codes "load") 0 c && not (w [] (codes "address") 14 c)) = j.1.0 0 (lit< tt) ∙ load_ram in
        let t : (w (3 ∷ []) (codes "load") 0 c && eqb (number 14 (λ k. w (3 ∷ []) (codes "address") k c)) x) ≡ (w [] (codes "load") 0 c && eqb (address c) x) =
        ap₂ (λ a b. a && eqb b x) l ram_address ∙ ram_test (w [] (codes "load") 0 c) (w [] (codes "address") 14 c) (number 14 (λ k. w [] (codes "address") k c)) x small (number_below 14 (λ k. w [] (codes "address") k c)) in
        ap₂ (λ a b. cond a b (block_word 14 (w (3 ∷ [])) c x)) t i

    screen_next : (x : ℕ) → 16384 ≤ x → x < 24576 → block_word 13 (w (4 ∷ [])) (suc c) (x - 16384) ≡ cond (w [] (codes "load") 0 c && eqb (address c) x) (word (w []) "in" c) (block_word 13 (w (4 ∷ [])) c (x - 16384))
    unfolding end_of screen_tree address
    screen_next x large small =
        let j = screen_part.outside.joined in
        let i : word (w (4 ∷ [])) "in" c ≡ word (w []) "in" c = number_same 16 _ _ (λ k le. whole_joined c (shipped_entry screen_tree) (w []) (w (4 ∷ [])) (codes "in") (codes "in") j.0 k le) in
        let l : w (4 ∷ []) (codes "load") 0 c ≡ ((w [] (codes "load") 0 c && w [] (codes "address") 14 c) && not (w [] (codes "address") 13 c)) = j.1.0 0 (lit< tt) ∙ load_screen in
        let t : (w (4 ∷ []) (codes "load") 0 c && eqb (number 13 (λ k. w (4 ∷ []) (codes "address") k c)) (x - 16384)) ≡ (w [] (codes "load") 0 c && eqb (address c) x) =
        ap₂ (λ a b. a && eqb b (x - 16384)) l screen_address ∙ screen_test (w [] (codes "load") 0 c) (w [] (codes "address") 14 c) (w [] (codes "address") 13 c) (number 13 (λ k. w [] (codes "address") k c)) x large small (number_below 13 (λ k. w [] (codes "address") k c)) in
        ap₂ (λ a b. cond a b (block_word 13 (w (4 ∷ [])) c (x - 16384))) t i

    pub memory_next : (x : ℕ) → x < 24576 → memory_word w (suc c) x ≡ cond (w [] (codes "load") 0 c && eqb (number 15 (λ k. w [] (codes "address") k c)) x) (word (w []) "in" c) (memory_word w c x)
    unfolding address
    memory_next x small = by (ltb x 16384) refl
      where
        by : (b : Bool) → ltb x 16384 ≡ b → memory_word w (suc c) x ≡ cond (w [] (codes "load") 0 c && eqb (number 15 (λ k. w [] (codes "address") k c)) x) (word (w []) "in" c) (memory_word w c x)
        by true e = rw e (ram_next x (ltb-true x 16384 e))
        by false e = rw e (screen_next x (ltb-false x 16384 e) small)

    pub memory_reads : word (w []) "out" c ≡ (let a = number 15 (λ k. w [] (codes "address") k c) in cond (ltb a 24576) (memory_word w c a) (world.key c))
    unfolding end_of memory_tree mux16_tree ram16k_tree screen_tree keyboard_tree
    memory_reads =
        let p = part_of world c library (shipped_entry memory_tree) w (h c lt) 6 _ (shipped_entry mux16_tree) refl basic.mux16 in
        let q = part_of world c library (shipped_entry memory_tree) w (h c lt) 7 _ (shipped_entry mux16_tree) refl basic.mux16 in
        let k5 = part_of world c library (shipped_entry memory_tree) w (h c lt) 5 _ (shipped_entry keyboard_tree) refl has.keyboard in
        let j = p.outside.joined in
        let l = q.outside.joined in
        let r : word (w []) "mainWord" c ≡ block_word 14 (w (3 ∷ [])) c (number 14 (λ k. w [] (codes "address") k c)) =
        sym (number_same 16 _ _ (λ k le. whole_joined c (shipped_entry ram16k_tree) (w []) (w (3 ∷ [])) (codes "out") (codes "mainWord") ram_part.outside.joined.1.1.1.0 k le)) ∙ ram_works c lt ∙ ap (block_word 14 (w (3 ∷ [])) c) ram_address in
        let s : word (w []) "screenWord" c ≡ block_word 13 (w (4 ∷ [])) c (number 13 (λ k. w [] (codes "address") k c)) =
        sym (number_same 16 _ _ (λ k le. whole_joined c (shipped_entry screen_tree) (w []) (w (4 ∷ [])) (codes "out") (codes "screenWord") screen_part.outside.joined.1.1.1.0 k le)) ∙ screen_works c lt ∙ ap (block_word 13 (w (4 ∷ [])) c) screen_address in
        let key : word (w []) "key" c ≡ world.key c =
        sym (number_same 16 _ _ (λ k le. whole_joined c (shipped_entry keyboard_tree) (w []) (w (5 ∷ [])) (codes "out") (codes "key") k5.outside.joined.0 k le)) ∙ k5.inside [] (shipped_entry keyboard_tree) refl in
        let a6 = number_same 16 _ _ (λ k le. whole_joined c (shipped_entry mux16_tree) (w []) (w (6 ∷ [])) (codes "a") (codes "screenWord") j.0 k le) ∙ s in
        let b6 = number_same 16 _ _ (λ k le. whole_joined c (shipped_entry mux16_tree) (w []) (w (6 ∷ [])) (codes "b") (codes "key") j.1.0 k le) ∙ key in
        let s6 : w (6 ∷ []) (codes "sel") 0 c ≡ w [] (codes "address") 13 c = j.1.1.0 0 (lit< tt) in
        let o6 = number_same 16 _ _ (λ k le. whole_joined c (shipped_entry mux16_tree) (w []) (w (6 ∷ [])) (codes "out") (codes "upperWord") j.1.1.1.0 k le) in
        let high = sym o6 ∙ mux16_works world library basic c (λ path. w (6 ∷ path)) p.inside ∙ three_same _ _ _ _ _ _ s6 b6 a6 in
        let a7 = number_same 16 _ _ (λ k le. whole_joined c (shipped_entry mux16_tree) (w []) (w (7 ∷ [])) (codes "a") (codes "mainWord") l.0 k le) ∙ r in
        let b7 = number_same 16 _ _ (λ k le. whole_joined c (shipped_entry mux16_tree) (w []) (w (7 ∷ [])) (codes "b") (codes "upperWord") l.1.0 k le) ∙ high in
        let s7 : w (7 ∷ []) (codes "sel") 0 c ≡ w [] (codes "address") 14 c = l.1.1.0 0 (lit< tt) in
        let o7 = number_same 16 _ _ (λ k le. whole_joined c (shipped_entry mux16_tree) (w []) (w (7 ∷ [])) (codes "out") (codes "out") l.1.1.1.0 k le) in
        sym o7 ∙ mux16_works world library basic c (λ path. w (7 ∷ path)) q.inside ∙ three_same _ _ _ _ _ _ s7 b7 a7
        ∙ read_at (w [] (codes "address") 14 c) (w [] (codes "address") 13 c) (number 13 (λ k. w [] (codes "address") k c)) (world.key c) (block_word 14 (w (3 ∷ [])) c) (block_word 13 (w (4 ∷ [])) c) (number_below 13 (λ k. w [] (codes "address") k c))
