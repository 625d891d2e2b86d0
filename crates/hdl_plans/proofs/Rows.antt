-- What the small chips do, and their loops.
use Prim.Native.String.{String}
use Rattle.std.proofs.Common.{◌≡◌, ℕ, zero, suc, ◌<◌, Bool, true, false, List, [], ◌∷◌, Option, Some, None, codes, refl, sym, ap, ◌∙◌, subst, lit<, arith, if◌then◌else◌}
use Rattle.std.specs.Prelude.{◌&&◌, not, slice_get}
use Rattle.std.specs.Str.{bytes_eq}
use Rattle.std.specs.Cmp.Lexicographic.{bytes_decides}
use Rattle.hdl_tree.specs.declared.tree.Selection.{Selection}
use Rattle.hdl_tree.specs.declared.tree.Source.TheVariants as source
use Rattle.hdl_tree.specs.declared.tree.Connection.{Connection}
use Rattle.hdl_tree.specs.declared.tree.Part.{Part}
use Rattle.hdl_tree.specs.declared.library.Entry.{Entry}
use Rattle.hdl_tree.specs.declared.ends.End.{End}
use Rattle.hdl_tree.specs.declared.ends.End.TheVariants as ends
use Rattle.hdl_tree.specs.declared.ends.Memories.TheVariants.{Blocks}
use Rattle.hdl_tree.specs.Chips.{Chips, end_of, find_chip, parts_of, count}
use Rattle.hdl_tree.specs.Behaviour.{Histories, World, IsBehaviour, Each, chip_at, width_of}
use Rattle.hdl_plans.specs.Plans.{is_input}
use Rattle.hdl_plans.specs.Loops.{BitAt, bit_at, outside_bit, inside_bit, IsJoint, Feeds, down, up, through, reaches_out, IsBitCircle, IsLoop}
use Rattle.hdl_plans.specs.Ways.{Chain}
use Rattle.hdl_plans.specs.Rows.{select, wire, bit_wire, wire_bit, part, nand, dff, ram8, beside, half_driven, gate_ring, address_ring, clocked_rings}
use Rattle.hdl_plans.proofs.Circles.{chain_round, circle_of}
use Rattle.hdl_plans.proofs.Simple.{once_by}

-- ---- behaviours

pub nand_low : (b : Bool) → not (b && false) ≡ true
nand_low true = refl
nand_low false = refl

pub half : (world : World) (n c : ℕ) (wires : List ℕ → Histories) → IsBehaviour world (beside half_driven) half_driven n wires → c < n → (wires [] (codes "out") 0 c ≡ true) × (wires [] (codes "out") 1 c ≡ false)
unfolding end_of
half world n c wires h lt =
    let top = h c lt [] half_driven refl in
    let at = top.part 0 (part "Nand" (wire "a" "in" ∷ wire_bit "out" "out" 0 ∷ [])) nand refl refl in
    let works : wires (0 ∷ []) (codes "out") 0 c ≡ not (wires (0 ∷ []) (codes "a") 0 c && wires (0 ∷ []) (codes "b") 0 c) = h c lt (0 ∷ []) nand refl in
    let low : wires (0 ∷ []) (codes "b") 0 c ≡ false = at.unjoined (codes "b") 1 0 refl (lit< tt) refl in
    let out : wires (0 ∷ []) (codes "out") 0 c ≡ wires [] (codes "out") 0 c = at.joined.1.0 0 (lit< tt) in (
      sym out ∙ works ∙ ap (λ (b : Bool). not (wires (0 ∷ []) (codes "a") 0 c && b)) low ∙ nand_low (wires (0 ∷ []) (codes "a") 0 c),
      top.undriven (codes "out") 2 1 refl (lit< tt) refl,
    )

-- ---- loops

-- connection j of part i of a chip, to a net w
module _ (chips : Chips) (top : Entry) (i j : ℕ) (p : Part) (inner : Entry) (conn : Connection) (w : Selection) (there : slice_get (parts_of chips top) i ≡ Some p) (found : find_chip chips p.chip ≡ Some inner) (here : slice_get p.connections j ≡ Some conn) (right : conn.source ≡ source.Net w) (within : 0 < count conn.pin.subscript (width_of inner conn.pin.name)) where
  joint : (input : Bool) → is_input inner conn.pin.name ≡ input → IsJoint chips top [] i conn w 0 input
  joint input way = record { chip = top; part = p; inner = inner; j = j; at = refl; there = there; found = found; here = here; right = right; way = way; within = within }

  pub enters : is_input inner conn.pin.name ≡ true → Feeds chips top (outside_bit [] w 0) (inside_bit [] i conn 0)
  enters way = down (joint true way)

  pub leaves : is_input inner conn.pin.name ≡ false → Feeds chips top (inside_bit [] i conn 0) (outside_bit [] w 0)
  leaves way = up (joint false way)

abbrev pub gate : String → String → Part
gate x y = part "Nand" (wire "a" x ∷ wire "b" x ∷ wire "out" y ∷ [])

pub gate_loop : IsLoop (beside gate_ring) gate_ring (codes "x" ∷ [])
unfolding end_of
gate_loop =
    let x = bit_at [] (codes "x") 0 in
    let a = bit_at (0 ∷ []) (codes "a") 0 in
    let out = bit_at (0 ∷ []) (codes "out") 0 in
    let into : Feeds (beside gate_ring) gate_ring x a = enters (beside gate_ring) gate_ring 0 0 (gate "x" "x") nand (wire "a" "x") (select "x" None) refl refl refl refl (lit< tt) refl in
    let across : Feeds (beside gate_ring) gate_ring a out = through {path = 0 ∷ []} {name = codes "a"} {bit = 0} {out = 0} {chip = nand} {e = ends.Nand} refl refl refl in
    let back : Feeds (beside gate_ring) gate_ring out x = leaves (beside gate_ring) gate_ring 0 2 (gate "x" "x") nand (wire "out" "x") (select "x" None) refl refl refl refl (lit< tt) refl in
    record { first = x; rest = a ∷ out ∷ []; last = out; ends = refl; circle = circle_of (beside gate_ring) gate_ring (a ∷ out ∷ []) x (into, (across, back)) (once_by (x ∷ a ∷ out ∷ []) refl); named = refl }

abbrev addressed : Part
addressed = part "RAM8" (bit_wire "address" 0 "y" ∷ bit_wire "out" 0 "x" ∷ [])

pub address_loop : IsLoop (beside address_ring) address_ring (codes "x" ∷ codes "y" ∷ [])
unfolding end_of
address_loop =
    let x = bit_at [] (codes "x") 0 in
    let a = bit_at (0 ∷ []) (codes "a") 0 in
    let out = bit_at (0 ∷ []) (codes "out") 0 in
    let y = bit_at [] (codes "y") 0 in
    let address = bit_at (1 ∷ []) (codes "address") 0 in
    let word = bit_at (1 ∷ []) (codes "out") 0 in
    let s1 : Feeds (beside address_ring) address_ring x a = enters (beside address_ring) address_ring 0 0 (gate "x" "y") nand (wire "a" "x") (select "x" None) refl refl refl refl (lit< tt) refl in
    let s2 : Feeds (beside address_ring) address_ring a out = through {path = 0 ∷ []} {name = codes "a"} {bit = 0} {out = 0} {chip = nand} {e = ends.Nand} refl refl refl in
    let s3 : Feeds (beside address_ring) address_ring out y = leaves (beside address_ring) address_ring 0 2 (gate "x" "y") nand (wire "out" "y") (select "y" None) refl refl refl refl (lit< tt) refl in
    let s4 : Feeds (beside address_ring) address_ring y address = enters (beside address_ring) address_ring 1 0 addressed ram8 (bit_wire "address" 0 "y") (select "y" None) refl refl refl refl (lit< tt) refl in
    let s5 : Feeds (beside address_ring) address_ring address word = through {path = 1 ∷ []} {name = codes "address"} {bit = 0} {out = 0} {chip = ram8} {e = ends.Block 3} refl refl refl in
    let s6 : Feeds (beside address_ring) address_ring word x = leaves (beside address_ring) address_ring 1 1 addressed ram8 (bit_wire "out" 0 "x") (select "x" None) refl refl refl refl (lit< tt) refl in
    record { first = x; rest = a ∷ out ∷ y ∷ address ∷ word ∷ []; last = word; ends = refl; circle = circle_of (beside address_ring) address_ring (a ∷ out ∷ y ∷ address ∷ word ∷ []) x (s1, (s2, (s3, (s4, (s5, s6))))) (once_by (x ∷ a ∷ out ∷ y ∷ address ∷ word ∷ []) refl); named = refl }

-- a circle passes no bit twice
pub no_bit_twice : (chips : Chips) (top : Entry) (x y z : BitAt) → IsBitCircle chips top (x ∷ y ∷ x ∷ z ∷ []) → ⊥
no_bit_twice chips top x y z c = let e : 0 ≡ 2 = c.once 0 2 x refl refl in absurd (omega (arith, e))

-- ---- no loop: along each step a rank rises, from an address over what comes out and a net to what comes in

abbrev name_rank : List ℕ → ℕ
name_rank name = if bytes_eq name (codes "address") then 0 else (if bytes_eq name (codes "out") then 1 else 3)

abbrev rank_at : List ℕ → List ℕ → ℕ
rank_at [] name = 2
rank_at (i ∷ path) name = name_rank name

abbrev rank : BitAt → ℕ
rank b = rank_at b.path b.name

abbrev rings : Chips
rings = beside clocked_rings

abbrev flip_part : Part
flip_part = part "DFF" (wire "in" "x" ∷ wire "out" "x" ∷ [])

abbrev word_part : Part
word_part = part "RAM8" (wire "in" "y" ∷ wire "load" "z" ∷ wire "out" "y" ∷ bit_wire "out" 0 "z" ∷ [])

abbrev Ranked : Entry → Connection → Type 0
Ranked inner conn = name_rank conn.pin.name ≡ (if is_input inner conn.pin.name then 3 else 1)

abbrev PartRanked : Part → Type 0
PartRanked p = (inner : Entry) → find_chip rings p.chip ≡ Some inner → Each (Ranked inner) p.connections

abbrev pub entry_or : Entry → Option Entry → Entry
entry_or d None = d
entry_or d (Some e) = e

flip_ranked : PartRanked flip_part
flip_ranked inner f = let same : dff ≡ inner = ap (entry_or dff) f in subst (λ (e : Entry). Each (Ranked e) flip_part.connections) same (refl, (refl, tt))

word_ranked : PartRanked word_part
word_ranked inner f = let same : ram8 ≡ inner = ap (entry_or ram8) f in subst (λ (e : Entry). Each (Ranked e) word_part.connections) same (refl, (refl, (refl, (refl, tt))))

pub each_get : {X : Type 0} (P : X → Type 0) (xs : List X) → Each P xs → (i : ℕ) (x : X) → slice_get xs i ≡ Some x → P x
each_get P [] e i x h = absurd cc
each_get P (y ∷ ys) e zero x h = let same : y ≡ x = cc in subst P same e.0
each_get P (y ∷ ys) e (suc i) x h = each_get P ys e.1 i x h

-- the way is that of the chip itself
abbrev pub OnlyTop : List ℕ → Type 0 → Type 0
OnlyTop [] A = A
OnlyTop (i ∷ path) A = ⊥

pub no_part : (p : Part) → None ≡ Some p → ⊥
no_part p h = cc

pub no_entry : (e : Entry) → None ≡ Some e → ⊥
no_entry e h = cc

top_part : (path : List ℕ) (chip : Entry) (i : ℕ) (p : Part) → chip_at rings clocked_rings path ≡ Some chip → slice_get (parts_of rings chip) i ≡ Some p → OnlyTop path (slice_get (flip_part ∷ word_part ∷ []) i ≡ Some p)
unfolding end_of
top_part [] chip i p a t = let same : clocked_rings ≡ chip = ap (entry_or clocked_rings) a in subst (λ (e : Entry). slice_get (parts_of rings e) i ≡ Some p) (sym same) t
top_part (zero ∷ []) chip i p a t = let same : dff ≡ chip = ap (entry_or dff) a in no_part p (subst (λ (e : Entry). slice_get (parts_of rings e) i ≡ Some p) (sym same) t)
top_part (suc zero ∷ []) chip i p a t = let same : ram8 ≡ chip = ap (entry_or ram8) a in no_part p (subst (λ (e : Entry). slice_get (parts_of rings e) i ≡ Some p) (sym same) t)
top_part (zero ∷ l ∷ path) chip i p a t = no_entry chip a
top_part (suc zero ∷ l ∷ path) chip i p a t = no_entry chip a
top_part (suc (suc m) ∷ path) chip i p a t = no_entry chip a

joint_rank : (path : List ℕ) (i k : ℕ) (conn : Connection) (w : Selection) (input : Bool) → IsJoint rings clocked_rings path i conn w k input → OnlyTop path (name_rank conn.pin.name ≡ (if input then 3 else 1))
joint_rank [] i k conn w input j =
    let part_ranked = each_get PartRanked (flip_part ∷ word_part ∷ []) (flip_ranked, (word_ranked, tt)) i j.part (top_part [] j.chip i j.part j.at j.there) in
    each_get (Ranked j.inner) j.part.connections (part_ranked j.inner j.found) j.j conn j.here ∙ ap (λ (b : Bool). if b then 3 else 1) j.way
joint_rank (l ∷ path) i k conn w input j = top_part (l ∷ path) j.chip i j.part j.at j.there

down_rises : (path : List ℕ) (i k : ℕ) (conn : Connection) (w : Selection) → IsJoint rings clocked_rings path i conn w k true → rank (outside_bit path w k) < rank (inside_bit path i conn k)
down_rises [] i k conn w j = let e : name_rank conn.pin.name ≡ 3 = joint_rank [] i k conn w true j in subst (λ (n : ℕ). 2 < n) (sym e) (lit< tt)
down_rises (l ∷ path) i k conn w j = absurd (joint_rank (l ∷ path) i k conn w true j)

up_rises : (path : List ℕ) (i k : ℕ) (conn : Connection) (w : Selection) → IsJoint rings clocked_rings path i conn w k false → rank (inside_bit path i conn k) < rank (outside_bit path w k)
up_rises [] i k conn w j = let e : name_rank conn.pin.name ≡ 1 = joint_rank [] i k conn w false j in subst (λ (n : ℕ). n < 2) (sym e) (lit< tt)
up_rises (l ∷ path) i k conn w j = absurd (joint_rank (l ∷ path) i k conn w false j)

abbrev pub end_or : Option End → End
end_or None = ends.Dff
end_or (Some e) = e

through_rises : (path : List ℕ) (name : List ℕ) (chip : Entry) (e : End) → chip_at rings clocked_rings path ≡ Some chip → end_of Blocks chip ≡ Some e → reaches_out e name ≡ true → rank_at path name < rank_at path (codes "out")
unfolding end_of
through_rises [] name chip e a is r =
    let same : clocked_rings ≡ chip = ap (entry_or clocked_rings) a in
    let none : None ≡ Some e = subst (λ (x : Entry). end_of Blocks x ≡ Some e) (sym same) is in
    absurd cc
through_rises (zero ∷ []) name chip e a is r =
    let same : dff ≡ chip = ap (entry_or dff) a in
    let flip : ends.Dff ≡ e = ap end_or (subst (λ (x : Entry). end_of Blocks x ≡ Some e) (sym same) is) in
    let no : false ≡ true = subst (λ (x : End). reaches_out x name ≡ true) (sym flip) r in
    absurd cc
through_rises (suc zero ∷ []) name chip e a is r =
    let same : ram8 ≡ chip = ap (entry_or ram8) a in
    let block : ends.Block 3 ≡ e = ap end_or (subst (λ (x : Entry). end_of Blocks x ≡ Some e) (sym same) is) in
    let named : name ≡ codes "address" = (bytes_decides name (codes "address")).0 (subst (λ (x : End). reaches_out x name ≡ true) (sym block) r) in
    subst (λ (n : List ℕ). name_rank n < 1) (sym named) (lit< tt)
through_rises (zero ∷ l ∷ path) name chip e a is r = absurd (no_entry chip a)
through_rises (suc zero ∷ l ∷ path) name chip e a is r = absurd (no_entry chip a)
through_rises (suc (suc m) ∷ path) name chip e a is r = absurd (no_entry chip a)

rises : (x y : BitAt) → Feeds rings clocked_rings x y → rank x < rank y
rises x y (down {path = path} {i = i} {k = k} {conn = conn} {w = w} j) = down_rises path i k conn w j
rises x y (up {path = path} {i = i} {k = k} {conn = conn} {w = w} j) = up_rises path i k conn w j
rises x y (through {path = path} {name = name} {bit = bit} {out = out} {chip = chip} {e = e} a is r) = through_rises path name chip e a is r

along : (ms : List BitAt) (x y : BitAt) → Chain (Feeds rings clocked_rings) x ms y → rank x < rank y
along [] x y f = rises x y f
along (m ∷ ms) x y f = let a = rises x m f.0 in let b = along ms m y f.1 in omega (arith, a, b)

pub no_clocked_loop : (nets : List (List ℕ)) → IsLoop rings clocked_rings nets → ⊥
no_clocked_loop nets l = let f = along l.rest l.first l.first (chain_round rings clocked_rings l.rest l.first l.circle.walk) in omega (arith, f)
