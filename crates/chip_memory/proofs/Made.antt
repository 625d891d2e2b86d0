-- A memory that is made of a chip that hands on the load, smaller memories, and a chip that chooses one of their words.
use Prim.Native.String.{String}
use Rattle.std.proofs.Common.{◌≡◌, ℕ, zero, suc, ◌+◌, ◌^◌, ◌<◌, true, false, eqb, List, [], ◌∷◌, ◌++◌, map, Some, None, Option, refl, sym, ap, ◌∙◌, subst, arith, zero-add, add-zero}
use Rattle.std.specs.Prelude.{◌&&◌, codes, slice_get}
use Rattle.std.specs.List.{range_with_len}
use Rattle.hdl_tree.specs.declared.tree.Subscript.{Subscript}
use Rattle.hdl_tree.specs.declared.tree.Connection.{Connection}
use Rattle.hdl_tree.specs.declared.tree.Part.{Part}
use Rattle.hdl_tree.specs.declared.library.Entry.{Entry}
use Rattle.hdl_tree.specs.Memory.{number}
use Rattle.hdl_tree.specs.Chips.{Chips, find_chip, parts_of, first}
use Rattle.hdl_tree.specs.Behaviour.{Histories, World, Each, Joins, Works, IsBehaviour, BlockWorks, width_of}
use Rattle.chip_basic.specs.Hdl.{connect, wire, part_named, numbered_name, letter, ways}
use Rattle.chip_basic.specs.Laws.{word, GoesWay}
use Rattle.chip_basic.proofs.Inside.{PartOf, part_of, whole_joined}
use Rattle.chip_basic.proofs.Numbers.{number_same, number_below}
use Rattle.chip_memory.proofs.Blocks.{IsSplit, IsFed, low_part, high_part, block_works}

-- ---- lists that begin with a row

get_of_front : {X : Type 0} → (f : ℕ → X) (n a i : ℕ) (xs : List X) → i < n → slice_get (map f (range_with_len a n) ++ xs) i ≡ Some (f (a + i))
get_of_front f zero a i xs h = absurd (omega arith)
get_of_front f (suc n) a zero xs h = ap (λ x. Some (f x)) (sym (add-zero a))
get_of_front f (suc n) a (suc i) xs h =
    let lt : i < n = omega arith in
    let e : (a + 1) + i ≡ a + suc i = omega arith in
    get_of_front f n (a + 1) i xs lt ∙ ap (λ x. Some (f x)) e

get_behind : {X : Type 0} → (f : ℕ → X) (n a : ℕ) (x : X) (xs : List X) → slice_get (map f (range_with_len a n) ++ x ∷ xs) n ≡ Some x
get_behind f zero a x xs = refl
get_behind f (suc n) a x xs = get_behind f n (a + 1) x xs

each_of_front : {X : Type 0} (P : X → Type 0) (f : ℕ → X) (n a : ℕ) (xs : List X) → Each P (map f (range_with_len a n) ++ xs) → (i : ℕ) → i < n → P (f (a + i))
each_of_front P f zero a xs h i lt = absurd (omega arith)
each_of_front P f (suc n) a xs h zero lt = subst (λ x. P (f x)) (sym (add-zero a)) h.0
each_of_front P f (suc n) a xs h (suc i) lt =
    let e : (a + 1) + i ≡ a + suc i = omega arith in
    let below : i < n = omega arith in
    subst (λ x. P (f x)) e (each_of_front P f n (a + 1) xs h.1 i below)

each_behind : {X : Type 0} (P : X → Type 0) (f : ℕ → X) (n a : ℕ) (xs : List X) → Each P (map f (range_with_len a n) ++ xs) → Each P xs
each_behind P f zero a xs h = h
each_behind P f (suc n) a xs h = each_behind P f n (a + 1) xs h.1

each_of_row : {X : Type 0} (P : X → Type 0) (f : ℕ → X) (n a : ℕ) → Each P (map f (range_with_len a n)) → (i : ℕ) → i < n → P (f (a + i))
each_of_row P f zero a h i lt = absurd (omega arith)
each_of_row P f (suc n) a h zero lt = subst (λ x. P (f x)) (sym (add-zero a)) h.0
each_of_row P f (suc n) a h (suc i) lt =
    let e : (a + 1) + i ≡ a + suc i = omega arith in
    let below : i < n = omega arith in
    subst (λ x. P (f x)) e (each_of_row P f n (a + 1) h.1 i below)

-- ---- the parts

abbrev pub way : String → ℕ → Connection
way name i = connect (letter i) None (numbered_name name i) None

-- `chip(in=load, sel=address.., a=load0, b=load1, ..)`
abbrev pub hands_on : List ℕ → ℕ → Option Subscript → Part
hands_on chip m s = part_named chip (wire "in" "load" ∷ connect (codes "sel") None (codes "address") s ∷ ways m "load")

-- `chip(a=word0, b=word1, .., sel=address.., out=out)`
abbrev pub chooses : List ℕ → ℕ → Option Subscript → Part
chooses chip m s = part_named chip (ways m "word" ++ connect (codes "sel") None (codes "address") s ∷ wire "out" "out" ∷ [])

-- the pins of a smaller memory, as they are joined
pub record IsJoined (bits i d : ℕ) (outside inside : Histories) : Type 0 where
  pub load : inside (codes "load") 0 d ≡ outside (numbered_name "load" i) 0 d
  pub word_in : word inside "in" d ≡ word outside "in" d
  pub address : low_part bits inside d ≡ low_part bits outside d
  pub out : (k : ℕ) → k < 16 → inside (codes "out") k d ≡ outside (numbered_name "word" i) k d

-- a chip that hands a bit on, and one that chooses a word, as far as their widths go
pub record HasWidths (m upper : ℕ) (demux mux : Entry) : Type 0 where
  pub demux_in : 0 < width_of demux (codes "in")
  pub demux_sel : width_of demux (codes "sel") ≡ upper
  pub demux_way : (i : ℕ) → i < m → 0 < width_of demux (letter i)
  pub mux_sel : width_of mux (codes "sel") ≡ upper
  pub mux_out : width_of mux (codes "out") ≡ 16
  pub mux_way : (i : ℕ) → i < m → width_of mux (letter i) ≡ 16

module _ (world : World) (library : Chips) (n : ℕ) (m upper bits : ℕ) (s : Option Subscript) (begins : first s ≡ bits) (all_ways : 2 ^ upper ≡ m)
    (demux_name mux_name : List ℕ) (demux mux inner : Entry) (widths : HasWidths m upper demux mux)
    (has_demux : find_chip library demux_name ≡ Some demux) (has_mux : find_chip library mux_name ≡ Some mux)
    (goes : (d : ℕ) (w : List ℕ → Histories) → Works world d library demux w → GoesWay m upper (w []) d)
    (takes : (d : ℕ) (w : List ℕ → Histories) → Works world d library mux w → (k : ℕ) → k < 16 → w [] (codes "out") k d ≡ w [] (letter (number upper (λ b. w [] (codes "sel") b d))) k d)
    (small : ℕ → Part) (found : (i : ℕ) → find_chip library (small i).chip ≡ Some inner)
    (joins : (i d : ℕ) (outside inside : Histories) → Each (Joins false true inner (λ name bit. outside name bit d) (λ name bit. inside name bit d)) (small i).connections → IsJoined bits i d outside inside)
    (works : (w : List ℕ → Histories) → IsBehaviour world library inner n w → (c : ℕ) → c < n → BlockWorks c bits (w []))
    (split : IsSplit (2 ^ bits))
    (tree : Entry) (made : parts_of library tree ≡ hands_on demux_name m s ∷ (map small (range_with_len 0 m) ++ chooses mux_name m s ∷ []))
    (w : List ℕ → Histories) (h : IsBehaviour world library tree n w) where
  small_part : (i : ℕ) → i < m → (d : ℕ) → d < n → PartOf world d library w (suc i) (small i) inner
  small_part i lt d le =
      part_of world d library tree w (h d le) (suc i) (small i) inner (ap (λ x. slice_get x (suc i)) made ∙ get_of_front small m 0 i (chooses mux_name m s ∷ []) lt ∙ ap (λ x. Some (small x)) (zero-add i)) (found i)

  upper_bit : (d k : ℕ) → w [] (codes "address") (first s + k) d ≡ w [] (codes "address") (bits + k) d
  upper_bit d k = ap (λ x. w [] (codes "address") (x + k) d) begins

  load_net : (i : ℕ) → i < m → (d : ℕ) → d < n → w [] (numbered_name "load" i) 0 d ≡ (w [] (codes "load") 0 d && eqb (high_part bits upper (w []) d) i)
  load_net i lt d le =
      let p = part_of world d library tree w (h d le) 0 (hands_on demux_name m s) demux (ap (λ x. slice_get x 0) made) has_demux in
      let j = p.outside.joined in
      let a = j.0 0 widths.demux_in in
      let b : number upper (λ k. w (0 ∷ []) (codes "sel") k d) ≡ high_part bits upper (w []) d = number_same upper _ _ (λ k lt'. ap (λ x. w (0 ∷ []) (codes "sel") x d) (sym (zero-add k)) ∙ j.1.0 k (subst (λ x. k < x) (sym widths.demux_sel) lt') ∙ upper_bit d k) in
      let row = subst (λ x. Joins false true demux (λ name bit. w [] name bit d) (λ name bit. w (0 ∷ []) name bit d) (way "load" x)) (zero-add i) (each_of_row (Joins false true demux (λ name bit. w [] name bit d) (λ name bit. w (0 ∷ []) name bit d)) (way "load") m 0 j.1.1 i lt) in
      let one = row 0 (widths.demux_way i lt) in
      let g = goes d (λ path. w (0 ∷ path)) p.inside i lt in
      sym one ∙ g ∙ ap (λ x. x && eqb (number upper (λ k. w (0 ∷ []) (codes "sel") k d)) i) a ∙ ap (λ x. w [] (codes "load") 0 d && eqb x i) b

  fed : (i : ℕ) → i < m → (d : ℕ) → d < n → IsFed bits upper (w []) i (w (suc i ∷ [])) d
  fed i lt d le =
      let j = joins i d (w []) (w (suc i ∷ [])) (small_part i lt d le).outside.joined in
      record { load = j.load ∙ load_net i lt d le; word_in = j.word_in; address = j.address }

  is_way : (c : ℕ) → high_part bits upper (w []) c < m
  is_way c = subst (λ x. high_part bits upper (w []) c < x) all_ways (number_below upper (λ k. w [] (codes "address") (bits + k) c))

  given : (c : ℕ) → c < n → word (w []) "out" c ≡ word (w (suc (high_part bits upper (w []) c) ∷ [])) "out" c
  given c le =
      let p = part_of world c library tree w (h c le) (suc m) (chooses mux_name m s) mux (ap (λ x. slice_get x (suc m)) made ∙ get_behind small m 0 (chooses mux_name m s) []) has_mux in
      let Joined = Joins false true mux (λ name bit. w [] name bit c) (λ name bit. w (suc m ∷ []) name bit c) in
      let j = each_behind Joined (way "word") m 0 (connect (codes "sel") None (codes "address") s ∷ wire "out" "out" ∷ []) p.outside.joined in
      let i = high_part bits upper (w []) c in
      let lt = is_way c in
      let b : number upper (λ k. w (suc m ∷ []) (codes "sel") k c) ≡ i = number_same upper _ _ (λ k lt'. ap (λ x. w (suc m ∷ []) (codes "sel") x c) (sym (zero-add k)) ∙ j.0 k (subst (λ x. k < x) (sym widths.mux_sel) lt') ∙ upper_bit c k) in
      let row = subst (λ x. Joined (way "word" x)) (zero-add i) (each_of_front Joined (way "word") m 0 (connect (codes "sel") None (codes "address") s ∷ wire "out" "out" ∷ []) p.outside.joined i lt) in
      let q = joins i c (w []) (w (suc i ∷ [])) (small_part i lt c le).outside.joined in
      let out : (k : ℕ) → k < 16 → w [] (codes "out") k c ≡ w (suc i ∷ []) (codes "out") k c = λ k lt'.
      let o = whole_joined c mux (w []) (w (suc m ∷ [])) (codes "out") (codes "out") j.1.0 k (subst (λ x. k < x) (sym widths.mux_out) lt') in
      let x = takes c (λ path. w (suc m ∷ path)) p.inside k lt' in
      let y = whole_joined c mux (w []) (w (suc m ∷ [])) (letter i) (numbered_name "word" i) row k (subst (λ x. k < x) (sym (widths.mux_way i lt)) lt') in
      sym o ∙ x ∙ ap (λ x. w (suc m ∷ []) (letter x) k c) b ∙ y ∙ sym (q.out k lt') in
      number_same 16 _ _ out

  pub made_works : (c : ℕ) → c < n → BlockWorks c (bits + upper) (w [])
  made_works c le =
      block_works bits upper m n split (w []) (λ i. w (suc i ∷ [])) fed (λ i lt c' le'. works (λ path. w (suc i ∷ path)) (λ d le''. (small_part i lt d le'').inside) c' le') is_way given c le
