-- The program counter.
use Rattle.std.proofs.Common.{◌≡◌, ℕ, zero, suc, ◌+◌, ◌<◌, ◌%◌, true, false, cond, List, [], ◌∷◌, Some, refl, sym, ap, ap₂, ◌∙◌, arith, lit<}
use Rattle.std.specs.Prelude.{codes, slice_get}
use Rattle.hdl_tree.specs.declared.tree.Source.{Source}
use Rattle.hdl_tree.specs.declared.tree.Source.TheVariants.{Constant}
use Rattle.hdl_tree.specs.Memory.{before}
use Rattle.hdl_tree.specs.Chips.{Chips, end_of, parts_of}
use Rattle.hdl_tree.specs.Behaviour.{Histories, World, IsBehaviour}
use Rattle.chip_basic.specs.Hdl.{shipped_entry, part, wire, constant}
use Rattle.chip_basic.specs.Trees.{mux16_tree}
use Rattle.chip_basic.specs.Laws.{word}
use Rattle.chip_basic.proofs.Inside.{PartOf, part_of, whole_joined}
use Rattle.chip_basic.proofs.Numbers.{number_same}
use Rattle.chip_alu.specs.Trees.{inc16_tree}
use Rattle.chip_alu.proofs.Adders.{inc16_works}
use Rattle.chip_alu.proofs.Alu.{choice, choice_works, net, net_word}
use Rattle.chip_memory.specs.Trees.{HasMemoryChips, register_tree, pc_tree}
use Rattle.chip_memory.proofs.Registers.{register_works}

module _ (world : World) (library : Chips) (has : HasMemoryChips library) (n : ℕ) (w : List ℕ → Histories) (h : IsBehaviour world library (shipped_entry pc_tree) n w) where
  more_is : (c : ℕ) → c < n → word (w []) "nowPlusOne" c ≡ (word (w []) "now" c + 1) % 65536
  unfolding end_of pc_tree inc16_tree
  more_is c lt =
      let p = part_of world c library (shipped_entry pc_tree) w (h c lt) 0 _ (shipped_entry inc16_tree) refl has.computing.inc16 in
      let j = p.outside.joined in
      let a : word (w (0 ∷ [])) "in" c ≡ word (w []) "now" c = number_same 16 _ _ (λ k le. whole_joined c (shipped_entry inc16_tree) (w []) (w (0 ∷ [])) (codes "in") (codes "now") j.0 k le) in
      let o : word (w (0 ∷ [])) "out" c ≡ word (w []) "nowPlusOne" c = number_same 16 _ _ (λ k le. whole_joined c (shipped_entry inc16_tree) (w []) (w (0 ∷ [])) (codes "out") (codes "nowPlusOne") j.1.0 k le) in
      sym o ∙ inc16_works world library has.computing c (λ path. w (0 ∷ path)) p.inside ∙ ap (λ x. (x + 1) % 65536) a

  -- what goes into the register
  next_is : (c : ℕ) → c < n → word (w []) "next" c ≡ cond (w [] (codes "reset") 0 c) 0 (cond (w [] (codes "load") 0 c) (word (w []) "in" c) (cond (w [] (codes "inc") 0 c) ((word (w []) "now" c + 1) % 65536) (word (w []) "now" c)))
  unfolding end_of pc_tree
  next_is c lt =
      let part_is = λ (i : ℕ) (x y : Source) (s z : List ℕ) (e : slice_get (parts_of library (shipped_entry pc_tree)) i ≡ Some (choice x y s z [])).
      choice_works world library has.computing c w i x y s z [] (part_of world c library (shipped_entry pc_tree) w (h c lt) i _ (shipped_entry mux16_tree) e has.computing.basic.mux16) in
      let w1 = part_is 1 (net (codes "now")) (net (codes "nowPlusOne")) (codes "inc") (codes "counted") refl in
      let w2 = part_is 2 (net (codes "counted")) (net (codes "in")) (codes "load") (codes "loaded") refl in
      let w3 = part_is 3 (net (codes "loaded")) (Constant false) (codes "reset") (codes "next") refl in
      let e1 : word (w []) "counted" c ≡ cond (w [] (codes "inc") 0 c) ((word (w []) "now" c + 1) % 65536) (word (w []) "now" c) = w1 ∙ ap₂ (λ a b. cond (w [] (codes "inc") 0 c) a b) (net_word (w []) (codes "nowPlusOne") c ∙ more_is c lt) (net_word (w []) (codes "now") c) in
      let e2 = w2 ∙ ap₂ (λ a b. cond (w [] (codes "load") 0 c) a b) (net_word (w []) (codes "in") c) (net_word (w []) (codes "counted") c ∙ e1) in
      w3 ∙ ap (λ b. cond (w [] (codes "reset") 0 c) 0 b) (net_word (w []) (codes "loaded") c ∙ e2)

  register : (c : ℕ) → c < n → PartOf world c library w 4 (part "Register" (wire "in" "next" ∷ constant "load" true ∷ wire "out" "now" ∷ wire "out" "out" ∷ [])) (shipped_entry register_tree)
  unfolding end_of pc_tree
  register c lt = part_of world c library (shipped_entry pc_tree) w (h c lt) 4 (part "Register" (wire "in" "next" ∷ constant "load" true ∷ wire "out" "now" ∷ wire "out" "out" ∷ [])) (shipped_entry register_tree) refl has.register

  outs : (c : ℕ) → c < n → (word (w (4 ∷ [])) "in" c ≡ word (w []) "next" c) × (w (4 ∷ []) (codes "load") 0 c ≡ true) × (word (w (4 ∷ [])) "out" c ≡ word (w []) "now" c) × (word (w (4 ∷ [])) "out" c ≡ word (w []) "out" c)
  unfolding end_of register_tree
  outs c lt =
      let j = (register c lt).outside.joined in (
        number_same 16 _ _ (λ k le. whole_joined c (shipped_entry register_tree) (w []) (w (4 ∷ [])) (codes "in") (codes "next") j.0 k le),
        j.1.0 0 (lit< tt),
        number_same 16 _ _ (λ k le. whole_joined c (shipped_entry register_tree) (w []) (w (4 ∷ [])) (codes "out") (codes "now") j.1.1.0 k le),
        number_same 16 _ _ (λ k le. whole_joined c (shipped_entry register_tree) (w []) (w (4 ∷ [])) (codes "out") (codes "out") j.1.1.1.0 k le),
      )

  pub pc_works : (c : ℕ) → c < n → word (w []) "out" c ≡ before 0 c (λ d. cond (w [] (codes "reset") 0 d) 0 (cond (w [] (codes "load") 0 d) (word (w []) "in" d) (cond (w [] (codes "inc") 0 d) ((word (w []) "out" d + 1) % 65536) (word (w []) "out" d))))
  pc_works zero lt = sym (outs 0 lt).3 ∙ register_works world library has n (λ path. w (4 ∷ path)) (λ d le. (register d le).inside) 0 lt
  pc_works (suc d) lt =
      let earlier : d < n = omega arith in
      let r = register_works world library has n (λ path. w (4 ∷ path)) (λ e le. (register e le).inside) (suc d) lt in
      let o = outs d earlier in
      let same : word (w []) "now" d ≡ word (w []) "out" d = sym o.2 ∙ o.3 in
      sym (outs (suc d) lt).3 ∙ r ∙ ap (λ b. cond b (word (w (4 ∷ [])) "in" d) (word (w (4 ∷ [])) "out" d)) o.1 ∙ o.0 ∙ next_is d earlier ∙ ap (λ x. cond (w [] (codes "reset") 0 d) 0 (cond (w [] (codes "load") 0 d) (word (w []) "in" d) (cond (w [] (codes "inc") 0 d) ((x + 1) % 65536) x))) same
