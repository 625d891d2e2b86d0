-- Along each step of a chip's own graph the nodes of an ordered netlist rise, or the way goes from an output over a net to an input.
use Rattle.std.proofs.Common.{◌≡◌, ℕ, zero, suc, ◌+◌, ◌*◌, ◌<◌, ◌≤◌, Bool, true, false, cond, List, [], ◌∷◌, ◌++◌, length, Option, Some, None, refl, sym, ap, subst, ◌∙◌, arith}
use Rattle.std.specs.Prelude.{slice_get, slice_index, codes, is_some, if◌then◌else◌, MatchOption}
use Rattle.std.specs.List.{All}
use Rattle.std.specs.Str.{bytes_eq}
use Rattle.std.specs.Cmp.Lexicographic.{bytes_decides}
use Rattle.hdl_tree.specs.declared.tree.Pin.{Pin}
use Rattle.hdl_tree.specs.declared.tree.Source.{Source}
use Rattle.hdl_tree.specs.declared.tree.Selection.{Selection}
use Rattle.hdl_tree.specs.declared.tree.Connection.{Connection}
use Rattle.hdl_tree.specs.declared.tree.Part.{Part}
use Rattle.hdl_tree.specs.declared.library.Entry.{Entry}
use Rattle.hdl_tree.specs.declared.ends.End.{End}
use Rattle.hdl_tree.specs.declared.ends.End.TheVariants as ends
use Rattle.hdl_tree.specs.Chips.{Chips, end_of, find_chip, parts_of, parts_of_body, parts_unless, first}
use Rattle.hdl_tree.specs.Behaviour.{Wires, chip_at, chip_of, inner_chip, width_in, Each, Joins, source_value, PartsWired, ChipWired}
use Rattle.netlist.specs.declared.node.Node.TheVariants.{Nand, Word}
use Rattle.netlist.specs.declared.node.Block.{Block}
use Rattle.netlist.specs.Net.{Net}
use Rattle.netlist.specs.Order.{IsReadable, AreOrdered}
use Rattle.hdl_plans.specs.Plans.{is_input, IsSound}
use Rattle.hdl_plans.specs.Planned.{plan_of}
use Rattle.hdl_plans.specs.Loops.{BitAt, bit_at, IsJoint, reaches_out, IsLoop}
use Rattle.hdl_plans.specs.Ways.{Chain, HasBit, TreeFits, Depends, EndReaches, Joined, Own, OwnAt, IsOrdered}
use Rattle.hdl_plans.proofs.Walks.{at_part, joined_inner}
use Rattle.hdl_plans.proofs.Circles.{own_way, ordered_no_loop}
use Rattle.hdl_plans.proofs.Fits.{tree_fits}
use Rattle.hdl_plans.proofs.Nesting.{faultless_sound}
use Rattle.hdl_nodes.specs.Numbering.{nodes_of, memory_block, rom_block, EndStands, IsNumbering}
use Rattle.hdl_nodes.proofs.Numbers.{at_row, row_length}
use Rattle.hdl_behaviours.specs.Loopless.{IsWide, AreWide, LooplessLaw}
use Rattle.hdl_behaviours.proofs.Paths.{chip_below}

-- ---- small facts

pub each_at : {X : Type 0} (P : X → Type 0) (xs : List X) (j : ℕ) (x : X) → Each P xs → slice_get xs j ≡ Some x → P x
each_at P [] j x h e = absurd cc
each_at P (y ∷ ys) zero x h e = let same : y ≡ x = cc in subst P same h.0
each_at P (y ∷ ys) (suc j) x h e = each_at P ys j x h.1 e

below_width : (pins : List Pin) (name : List ℕ) (bit w : ℕ) → HasBit pins name bit → width_in pins name ≡ Some w → bit < w
below_width pins name bit w h e = let same : h.width ≡ w = (let f = sym h.there ∙ e in cc) in subst (λ v. bit < v) same h.below

out_reaches_not : (e : End) → reaches_out e (codes "out") ≡ false
out_reaches_not ends.Nand = refl
out_reaches_not ends.Dff = refl
out_reaches_not ends.Keyboard = refl
out_reaches_not ends.Rom = refl
out_reaches_not (ends.Block bits) = refl

rises_along : (chips : Chips) (chip : Entry) (o : IsOrdered chips chip) (ms : List BitAt) (x y : BitAt) → Chain (Own chips chip) x ms y → o.rank x < o.rank y
rises_along chips chip o [] x y f = o.rises x y f
rises_along chips chip o (m ∷ ms) x y f = let a = o.rises x m f.0 in let b = rises_along chips chip o ms m y f.1 in omega (arith, a, b)

node_at : (f : ℕ → ℕ) (n k limit : ℕ) → All (λ i. i < limit) (nodes_of n f) → k < n → f k < limit
node_at f n k limit all lt =
    let long = row_length f n 0 in
    let here = all k 0 (omega arith) in
    let zero_plus : 0 + k ≡ k = omega arith in
    let e : slice_index (nodes_of n f) k ≡ f k = at_row f n 0 k lt ∙ ap f zero_plus in
    subst (λ x. x < limit) e here

-- ---- the own graph of an end

abbrev end_rank : List ℕ → List ℕ → ℕ
end_rank [] name = cond (bytes_eq name (codes "out")) 1 0
end_rank (i ∷ path) name = 0

one_at_most : (path name : List ℕ) → end_rank path name ≤ 1
one_at_most [] name = by (bytes_eq name (codes "out"))
  where
    by : (b : Bool) → cond {A = ℕ} b 1 0 ≤ 1
    by true = omega arith
    by false = omega arith
one_at_most (i ∷ path) name = omega arith

module _ (chips : Chips) (chip : Entry) (e : End) (is : end_of chips.memories chip ≡ Some e) where
  no_parts : parts_of chips chip ≡ []
  no_parts = ap (λ (o : Option End). parts_unless o (parts_of_body chip.chip.body)) is

  no_part : (i : ℕ) (part : Part) → slice_get (parts_of chips chip) i ≡ Some part → ⊥
  no_part i part there = let f : slice_get [] i ≡ Some part = ap (λ (ps : List Part). slice_get ps i) (sym no_parts) ∙ there in cc

  no_joint : (i : ℕ) (input : Bool) (x y : BitAt) → Joined chips chip i input x y → ⊥
  no_joint i input x y j = let same : chip ≡ j.joint.chip = cc (j.joint.at) in no_part i j.joint.part (ap (λ c. slice_get (parts_of chips c) i) same ∙ j.joint.there)

  no_inner_by : (i : ℕ) (inner : Entry) (o : Option Part) → slice_get (parts_of chips chip) i ≡ o → chip_of chips o ≡ Some inner → ⊥
  no_inner_by i inner None f h = absurd cc
  no_inner_by i inner (Some part) f h = no_part i part f

  step : (n m : List ℕ) → EndReaches chips chip n m → end_rank [] n < end_rank [] m
  step n m f = by (bytes_eq n (codes "out")) refl
    where
      last : end_rank [] m ≡ 1
      last = ap (λ (b : Bool). cond {A = ℕ} b 1 0) ((bytes_decides m (codes "out")).1 f.named)

      by : (b : Bool) → bytes_eq n (codes "out") ≡ b → cond {A = ℕ} b 1 0 < end_rank [] m
      by false q = let l = last in omega arith
      by true q = let z : true ≡ false = sym f.reaches ∙ ap (reaches_out f.e) ((bytes_decides n (codes "out")).0 q) ∙ out_reaches_not f.e in absurd cc

  end_rises : (p q n : List ℕ) (b : ℕ) (m : List ℕ) (k : ℕ) → OwnAt chips chip p q n b m k → end_rank p n < end_rank q m
  end_rises [] [] n b m k f = step n m f
  end_rises [] (i ∷ []) n b m k f = absurd (no_joint i true (bit_at [] n b) (bit_at (i ∷ []) m k) f)
  end_rises [] (i ∷ j ∷ q) n b m k f = absurd f
  end_rises (i ∷ []) [] n b m k f = absurd (no_joint i false (bit_at [] m k) (bit_at (i ∷ []) n b) f)
  end_rises (i ∷ []) (j ∷ []) n b m k f = absurd (no_inner_by i f.inner (slice_get (parts_of chips chip) i) refl f.found)
  end_rises (i ∷ []) (j ∷ l ∷ q) n b m k f = absurd f
  end_rises (i ∷ l ∷ p) q n b m k f = absurd f

  end_ordered : IsOrdered chips chip
  end_ordered = record { rank = λ x. end_rank x.path x.name; rises = λ x y f. end_rises x.path y.path x.name x.bit y.name y.bit f }

  -- a way in it is one step
  only_step : (n m : List ℕ) (b k : ℕ) (over : List BitAt) → Chain (Own chips chip) (bit_at [] n b) over (bit_at [] m k) → EndReaches chips chip n m
  unfolding end_ordered
  only_step n m b k [] f = f
  only_step n m b k (x ∷ over) f =
      let first' : end_rank [] n < end_rank x.path x.name = end_rises [] x.path n b x.name x.bit f.0 in
      let rest : end_rank x.path x.name < end_rank [] m = rises_along chips chip end_ordered over x (bit_at [] m k) f.1 in
      let most = one_at_most [] m in
      absurd (omega (arith, first', rest, most))

-- ---- a numbered tree

abbrev phase : Option Entry → List ℕ → ℕ
phase None name = 0
phase (Some inner) name = if is_input inner name then 2 else 0

module _ (chips : Chips) (wide : AreWide chips) (net : Net) (low high : ℕ) (top : Entry) (block : List ℕ → ℕ) (at : List ℕ → Wires ℕ) (numbering : IsNumbering net low high chips top block at) (ordered : AreOrdered net.nodes net.blocks) (fit : TreeFits chips top) where
  -- ---- ends

  block_rises : (b limit bit n : ℕ) (block' : Block) (f : ℕ → ℕ) → slice_get net.blocks b ≡ Some block' → block'.address ≡ nodes_of n f → slice_get net.nodes limit ≡ Some (Word b bit) → (k : ℕ) → k < n → f k < limit
  block_rises b limit bit n block' f there is stands k lt =
      let fits = ordered.fit limit (Word b bit) stands in
      let readable : IsReadable limit (length net.nodes) block' = subst (λ (o : Option Block). MatchOption o ⊥ (IsReadable limit (length net.nodes))) there fits.1 in
      node_at f n k limit (subst (λ (xs : List ℕ). All (λ i. i < limit) xs) is readable.0) lt

  end_up : (path : List ℕ) (chip : Entry) (e : End) → EndStands net low (block path) e (at path) → IsWide chip e → (n : List ℕ) (b k : ℕ) → reaches_out e n ≡ true → HasBit chip.chip.inputs n b → HasBit chip.chip.outputs (codes "out") k → at path n b < at path (codes "out") k
  end_up path chip ends.Nand stands w n b k reaches from to = by (bytes_eq n (codes "a")) (bytes_eq n (codes "b")) refl refl reaches
    where
      gate : (at path (codes "a") 0 < at path (codes "out") 0) × (at path (codes "b") 0 < at path (codes "out") 0)
      gate = ordered.fit (at path (codes "out") 0) (Nand (at path (codes "a") 0) (at path (codes "b") 0)) stands

      out_zero : 0 ≡ k
      out_zero = let h = below_width chip.chip.outputs (codes "out") k 1 to w.2 in omega arith

      low_bit : (name : List ℕ) → n ≡ name → width_in chip.chip.inputs name ≡ Some 1 → at path name 0 < at path (codes "out") 0 → at path n b < at path (codes "out") k
      low_bit name same width up =
          let h = below_width chip.chip.inputs n b 1 from (ap (width_in chip.chip.inputs) same ∙ width) in
          let z : 0 ≡ b = omega arith in
          subst (λ (x : ℕ). at path n b < at path (codes "out") x) out_zero (subst (λ (x : ℕ). at path n x < at path (codes "out") 0) z (subst (λ (x : List ℕ). at path x 0 < at path (codes "out") 0) (sym same) up))

      by : (s t : Bool) → bytes_eq n (codes "a") ≡ s → bytes_eq n (codes "b") ≡ t → (if s then true else t) ≡ true → at path n b < at path (codes "out") k
      by true t e f h = low_bit (codes "a") ((bytes_decides n (codes "a")).0 e) w.0 gate.0
      by false true e f h = low_bit (codes "b") ((bytes_decides n (codes "b")).0 f) w.1 gate.1
      by false false e f h = absurd cc
  end_up path chip ends.Dff stands w n b k reaches from to = absurd cc
  end_up path chip ends.Keyboard stands w n b k reaches from to = absurd cc
  end_up path chip ends.Rom stands w n b k reaches from to =
      let same : n ≡ codes "address" = (bytes_decides n (codes "address")).0 reaches in
      let lb = below_width chip.chip.inputs n b 15 from (ap (width_in chip.chip.inputs) same ∙ w.0) in
      let lk = below_width chip.chip.outputs (codes "out") k 16 to w.1 in
      subst (λ (x : List ℕ). at path x b < at path (codes "out") k) (sym same)
      (block_rises (block path) (at path (codes "out") k) k 15 (rom_block low (at path)) (at path (codes "address")) stands.there refl (stands.words k lk) b lb)
  end_up path chip (ends.Block bits) stands w n b k reaches from to =
      let same : n ≡ codes "address" = (bytes_decides n (codes "address")).0 reaches in
      let lb = below_width chip.chip.inputs n b bits from (ap (width_in chip.chip.inputs) same ∙ w.0) in
      let lk = below_width chip.chip.outputs (codes "out") k 16 to w.1 in
      subst (λ (x : List ℕ). at path x b < at path (codes "out") k) (sym same)
      (block_rises (block path) (at path (codes "out") k) k bits (memory_block bits (at path)) (at path (codes "address")) stands.there refl (stands.words k lk) b lb)

  -- ---- chips

  abbrev Rises : List ℕ → Entry → Type 0
  Rises path chip = (input : List ℕ) (bit : ℕ) (output : List ℕ) (out : ℕ) → Depends chips chip input bit output out → at path input bit < at path output out

  abbrev rank_at : List ℕ → Entry → List ℕ → List ℕ → ℕ → ℕ
  rank_at path chip [] name bit = 3 * at path name bit + 1
  rank_at path chip (i ∷ q) name bit = 3 * at (path ++ i ∷ []) name bit + phase (inner_chip chips chip i) name

  module _ (path : List ℕ) (chip : Entry) (there : chip_at chips top path ≡ Some chip) (no_end : end_of chips.memories chip ≡ None) (below : (i : ℕ) (inner : Entry) → inner_chip chips chip i ≡ Some inner → Rises (path ++ i ∷ []) inner) where
    wired : PartsWired low high chips chip (parts_of_body chip.chip.body) (at path) (λ i. at (path ++ i ∷ []))
    wired = subst (λ (o : Option End). ChipWired low high chips chip o (at path) (λ i. at (path ++ i ∷ [])) (λ e. EndStands net low (block path) e (at path))) no_end (numbering.wired path chip there)

    parts_are : parts_of chips chip ≡ parts_of_body chip.chip.body
    parts_are = ap (λ (o : Option End). parts_unless o (parts_of_body chip.chip.body)) no_end

    same_node : (i : ℕ) (conn : Connection) (w : Selection) (k : ℕ) (input : Bool) → IsJoint chips chip [] i conn w k input → at (path ++ i ∷ []) conn.pin.name (first conn.pin.subscript + k) ≡ at path w.name (first w.subscript + k)
    same_node i conn w k input j =
        let same : chip ≡ j.chip = cc (j.at) in
        let here : slice_get (parts_of_body chip.chip.body) i ≡ Some j.part = ap (λ (ps : List Part). slice_get ps i) (sym parts_are) ∙ ap (λ c. slice_get (parts_of chips c) i) same ∙ j.there in
        let p = wired.part i j.part j.inner here j.found in
        each_at (Joins low high j.inner (at path) (at (path ++ i ∷ []))) j.part.connections j.j conn p.joined j.here k j.within
        ∙ ap (λ (s : Source). source_value low high s (at path) k) j.right

    joined_node : (i : ℕ) (input : Bool) (n : List ℕ) (b : ℕ) (m : List ℕ) (k : ℕ) → Joined chips chip i input (bit_at [] n b) (bit_at (i ∷ []) m k) → at (path ++ i ∷ []) m k ≡ at path n b
    joined_node i input n b m k j =
        ap (λ (x : BitAt). at (path ++ i ∷ []) x.name x.bit) j.in_is ∙ same_node i j.conn j.w j.k input j.joint ∙ sym (ap (λ (x : BitAt). at path x.name x.bit) j.out_is)

    joined_phase : (i : ℕ) (input : Bool) (n : List ℕ) (b : ℕ) (m : List ℕ) (k : ℕ) → Joined chips chip i input (bit_at [] n b) (bit_at (i ∷ []) m k) → phase (inner_chip chips chip i) m ≡ (if input then 2 else 0)
    joined_phase i input n b m k j =
        ap (λ (o : Option Entry). phase o m) (joined_inner chips chip i input (bit_at [] n b) (bit_at (i ∷ []) m k) j)
        ∙ ap (λ (x : BitAt). phase (Some j.joint.inner) x.name) j.in_is
        ∙ ap (λ (t : Bool). if t then 2 else 0) j.joint.way

    own_rises : (p q n : List ℕ) (b : ℕ) (m : List ℕ) (k : ℕ) → OwnAt chips chip p q n b m k → rank_at path chip p n b < rank_at path chip q m k
    own_rises [] [] n b m k f = let z : None ≡ Some f.e = sym no_end ∙ f.is in absurd cc
    own_rises [] (i ∷ []) n b m k f = let a = joined_node i true n b m k f in let c = joined_phase i true n b m k f in omega (arith, a, c)
    own_rises [] (i ∷ j ∷ q) n b m k f = absurd f
    own_rises (i ∷ []) [] n b m k f = let a = joined_node i false m k n b f in let c = joined_phase i false m k n b f in omega (arith, a, c)
    own_rises (i ∷ []) (j ∷ []) n b m k f =
        let up = below i f.inner f.found n b m k f.depends in
        let enter : phase (inner_chip chips chip i) n ≡ 2 = ap (λ (o : Option Entry). phase o n) f.found ∙ ap (λ (t : Bool). if t then 2 else 0) (ap is_some f.depends.from.there) in
        let leave : phase (inner_chip chips chip i) m ≡ 0 = ap (λ (o : Option Entry). phase o m) f.found ∙ ap (λ (t : Bool). if t then 2 else 0) f.depends.apart in
        subst (λ (l : ℕ). rank_at path chip (i ∷ []) n b < rank_at path chip (l ∷ []) m k) f.same (omega (arith, up, enter, leave))
    own_rises (i ∷ []) (j ∷ l ∷ q) n b m k f = absurd f
    own_rises (i ∷ l ∷ p) q n b m k f = absurd f

    chip_ordered : IsOrdered chips chip
    chip_ordered = record { rank = λ x. rank_at path chip x.path x.name x.bit; rises = λ x y f. own_rises x.path y.path x.name x.bit y.name y.bit f }

    chip_up : Rises path chip
    unfolding chip_ordered
    chip_up input bit output out f =
        let w = own_way chips chip (fit path chip there) input output bit out f.way in
        let up : 3 * at path input bit + 1 < 3 * at path output out + 1 = rises_along chips chip chip_ordered w.over (bit_at [] input bit) (bit_at [] output out) w.steps in
        omega (arith, up)

  -- ---- by the depth of the tree

  record Found (chip : Entry) : Type 0 where
    name : List ℕ
    found : find_chip chips name ≡ Some chip

  found_by : (chip : Entry) (i : ℕ) (inner : Entry) (o : Option Part) → slice_get (parts_of chips chip) i ≡ o → chip_of chips o ≡ Some inner → Found inner
  found_by chip i inner None e h = absurd cc
  found_by chip i inner (Some part) e h = record { name = part.chip; found = h }

  end_depends : (path : List ℕ) (chip : Entry) (e : End) → chip_at chips top path ≡ Some chip → Found chip → end_of chips.memories chip ≡ Some e → Rises path chip
  end_depends path chip e there found is input bit output out f =
      let stands : EndStands net low (block path) e (at path) = subst (λ (o : Option End). ChipWired low high chips chip o (at path) (λ i. at (path ++ i ∷ [])) (λ e. EndStands net low (block path) e (at path))) is (numbering.wired path chip there) in
      let w = own_way chips chip (fit path chip there) input output bit out f.way in
      let s = only_step chips chip e is input output bit out w.over w.steps in
      let same : s.e ≡ e = (let q = sym s.is ∙ is in cc) in
      let reaches : reaches_out e input ≡ true = ap (λ (x : End). reaches_out x input) (sym same) ∙ s.reaches in
      let to : HasBit chip.chip.outputs (codes "out") out = subst (λ (x : List ℕ). HasBit chip.chip.outputs x out) s.named f.to in
      subst (λ (x : List ℕ). at path input bit < at path x out) (sym s.named) (end_up path chip e stands (wide found.name chip e found.found is) input bit out reaches f.from to)

  depends_by : (path : List ℕ) (chip : Entry) (o : Option End) → chip_at chips top path ≡ Some chip → Found chip → end_of chips.memories chip ≡ o → ((i : ℕ) (inner : Entry) → inner_chip chips chip i ≡ Some inner → Rises (path ++ i ∷ []) inner) → Rises path chip
  depends_by path chip None there found is below = chip_up path chip there is below
  depends_by path chip (Some e) there found is below = end_depends path chip e there found is

  depends : (d : ℕ) (path : List ℕ) (chip : Entry) → IsSound d chips (plan_of chips) chip → chip_at chips top path ≡ Some chip → Found chip → Rises path chip
  depends zero path chip sound there found = absurd sound
  depends (suc d) path chip sound there found =
      depends_by path chip (end_of chips.memories chip) there found refl
      (λ i inner h. depends d (path ++ i ∷ []) inner (sound.2 i inner h) (chip_below chips path top chip inner i there h) (found_by chip i inner (slice_get (parts_of chips chip) i) refl h))

  record Nested (chip : Entry) : Type 0 where
    d : ℕ
    sound : IsSound d chips (plan_of chips) chip

  nested_at : (d : ℕ) (top' : Entry) (path : List ℕ) (chip : Entry) → IsSound d chips (plan_of chips) top' → chip_at chips top' path ≡ Some chip → Nested chip
  nested_at zero top' path chip s h = absurd s
  nested_at (suc d) top' [] chip s h = let same : top' ≡ chip = cc in subst Nested same (record { d = suc d; sound = s })
  nested_at (suc d) top' (i ∷ path) chip s h = let a = at_part chips top' i path chip h in nested_at d a.inner path chip (s.2 i a.inner a.found) a.rest

  ordered_by : (d : ℕ) (path : List ℕ) (chip : Entry) (o : Option End) → IsSound d chips (plan_of chips) chip → chip_at chips top path ≡ Some chip → end_of chips.memories chip ≡ o → IsOrdered chips chip
  ordered_by d path chip (Some e) sound there is = end_ordered chips chip e is
  ordered_by zero path chip None sound there is = absurd sound
  ordered_by (suc d) path chip None sound there is =
      chip_ordered path chip there is
      (λ i inner h. depends d (path ++ i ∷ []) inner (sound.2 i inner h) (chip_below chips path top chip inner i there h) (found_by chip i inner (slice_get (parts_of chips chip) i) refl h))

  pub none : (d : ℕ) → IsSound d chips (plan_of chips) top → (nets : List (List ℕ)) → IsLoop chips top nets → ⊥
  none d sound =
      ordered_no_loop chips top fit (λ path chip there. let n = nested_at d top path chip sound there in ordered_by n.d path chip (end_of chips.memories chip) n.sound there refl)

pub loopless : LooplessLaw
loopless chips name top ends wide found faultless net low high block at numbering ordered =
    none chips wide net low high top block at numbering ordered (tree_fits chips (top.name ∷ []) top faultless) (length chips.entries) (faultless_sound chips name top ends found faultless)
