-- Two rings that share a net are two loops, and the one walked after the other is none.
use Rattle.std.proofs.Common.{◌≡◌, ℕ, zero, suc, ◌+◌, ◌<◌, ◌⊎◌, inl, inr, Bool, true, false, List, [], ◌∷◌, ◌||◌, length, Some, None, codes, refl, sym, ap, ◌∙◌, subst, lit<, arith, if◌then◌else◌, nat_eq}
use Rattle.std.specs.Prelude.{slice_get}
use Rattle.std.specs.Str.{bytes_eq}
use Rattle.std.specs.Cmp.Lexicographic.{bytes_decides}
use Rattle.std.proofs.lemmas.Bool.Decides.{Decides-eqb}
use Rattle.std.proofs.lemmas.Option.{slice_get_within}
use Rattle.hdl_tree.specs.declared.tree.Selection.{Selection}
use Rattle.hdl_tree.specs.declared.tree.Source.{Source}
use Rattle.hdl_tree.specs.declared.tree.Source.TheVariants as source
use Rattle.hdl_tree.specs.declared.tree.Connection.{Connection}
use Rattle.hdl_tree.specs.declared.tree.Part.{Part}
use Rattle.hdl_tree.specs.declared.library.Entry.{Entry}
use Rattle.hdl_tree.specs.declared.ends.End.{End}
use Rattle.hdl_tree.specs.declared.ends.End.TheVariants as ends
use Rattle.hdl_tree.specs.declared.ends.Memories.TheVariants.{Blocks}
use Rattle.hdl_tree.specs.Writable.{is_among}
use Rattle.hdl_tree.specs.Chips.{Chips, end_of, find_chip, parts_of, first, count}
use Rattle.hdl_tree.specs.Behaviour.{Each, chip_at, width_of}
use Rattle.hdl_plans.specs.Plans.{is_input}
use Rattle.hdl_plans.specs.Loops.{BitAt, bit_at, outside_bit, inside_bit, IsJoint, Feeds, down, up, through, reaches_out, next_bit, IsWalk, is_peak, peaks, once_more, IsLoop}
use Rattle.hdl_plans.specs.Rows.{select, wire, part, nand, beside, two_rings}
use Rattle.hdl_plans.proofs.Circles.{circle_of}
use Rattle.hdl_plans.proofs.Simple.{once_by, here_or, or_there}
use Rattle.hdl_plans.proofs.Unjoined.{or_cases}
use Rattle.hdl_plans.proofs.Rows.{enters, leaves, gate, each_get, OnlyTop, no_part, no_entry, entry_or, end_or}

abbrev rings : Chips
rings = beside two_rings

abbrev shared : Part
shared = part "Nand" (wire "a" "y" ∷ wire "b" "z" ∷ wire "out" "x" ∷ [])

-- ---- each of the two is a loop

pub first_ring : IsLoop rings two_rings (codes "x" ∷ codes "y" ∷ [])
unfolding end_of
first_ring =
    let x = bit_at [] (codes "x") 0 in
    let a = bit_at (1 ∷ []) (codes "a") 0 in
    let out = bit_at (1 ∷ []) (codes "out") 0 in
    let y = bit_at [] (codes "y") 0 in
    let pin = bit_at (0 ∷ []) (codes "a") 0 in
    let back = bit_at (0 ∷ []) (codes "out") 0 in
    let s1 : Feeds rings two_rings x a = enters rings two_rings 1 0 (gate "x" "y") nand (wire "a" "x") (select "x" None) refl refl refl refl (lit< tt) refl in
    let s2 : Feeds rings two_rings a out = through {path = 1 ∷ []} {name = codes "a"} {bit = 0} {out = 0} {chip = nand} {e = ends.Nand} refl refl refl in
    let s3 : Feeds rings two_rings out y = leaves rings two_rings 1 2 (gate "x" "y") nand (wire "out" "y") (select "y" None) refl refl refl refl (lit< tt) refl in
    let s4 : Feeds rings two_rings y pin = enters rings two_rings 0 0 shared nand (wire "a" "y") (select "y" None) refl refl refl refl (lit< tt) refl in
    let s5 : Feeds rings two_rings pin back = through {path = 0 ∷ []} {name = codes "a"} {bit = 0} {out = 0} {chip = nand} {e = ends.Nand} refl refl refl in
    let s6 : Feeds rings two_rings back x = leaves rings two_rings 0 2 shared nand (wire "out" "x") (select "x" None) refl refl refl refl (lit< tt) refl in
    record { first = x; rest = a ∷ out ∷ y ∷ pin ∷ back ∷ []; last = back; ends = refl; circle = circle_of rings two_rings (a ∷ out ∷ y ∷ pin ∷ back ∷ []) x (s1, (s2, (s3, (s4, (s5, s6))))) (once_by (x ∷ a ∷ out ∷ y ∷ pin ∷ back ∷ []) refl); named = refl }

pub second_ring : IsLoop rings two_rings (codes "x" ∷ codes "z" ∷ [])
unfolding end_of
second_ring =
    let x = bit_at [] (codes "x") 0 in
    let a = bit_at (2 ∷ []) (codes "a") 0 in
    let out = bit_at (2 ∷ []) (codes "out") 0 in
    let z = bit_at [] (codes "z") 0 in
    let pin = bit_at (0 ∷ []) (codes "b") 0 in
    let back = bit_at (0 ∷ []) (codes "out") 0 in
    let s1 : Feeds rings two_rings x a = enters rings two_rings 2 0 (gate "x" "z") nand (wire "a" "x") (select "x" None) refl refl refl refl (lit< tt) refl in
    let s2 : Feeds rings two_rings a out = through {path = 2 ∷ []} {name = codes "a"} {bit = 0} {out = 0} {chip = nand} {e = ends.Nand} refl refl refl in
    let s3 : Feeds rings two_rings out z = leaves rings two_rings 2 2 (gate "x" "z") nand (wire "out" "z") (select "z" None) refl refl refl refl (lit< tt) refl in
    let s4 : Feeds rings two_rings z pin = enters rings two_rings 0 1 shared nand (wire "b" "z") (select "z" None) refl refl refl refl (lit< tt) refl in
    let s5 : Feeds rings two_rings pin back = through {path = 0 ∷ []} {name = codes "b"} {bit = 0} {out = 0} {chip = nand} {e = ends.Nand} refl refl refl in
    let s6 : Feeds rings two_rings back x = leaves rings two_rings 0 2 shared nand (wire "out" "x") (select "x" None) refl refl refl refl (lit< tt) refl in
    record { first = x; rest = a ∷ out ∷ z ∷ pin ∷ back ∷ []; last = back; ends = refl; circle = circle_of rings two_rings (a ∷ out ∷ z ∷ pin ∷ back ∷ []) x (s1, (s2, (s3, (s4, (s5, s6))))) (once_by (x ∷ a ∷ out ∷ z ∷ pin ∷ back ∷ []) refl); named = refl }

-- ---- the nets of a loop have bits on its circle

record HasName (bits : List BitAt) (name : List ℕ) : Type 0 where
  place : ℕ
  bit : BitAt
  there : slice_get bits place ≡ Some bit
  named : bit.name ≡ name

name_here : (x : BitAt) (xs : List BitAt) (names : List (List ℕ)) (name : List ℕ) → (bytes_eq name x.name ≡ true) ⊎ (is_among name names ≡ true) → (is_among name names ≡ true → HasName xs name) → HasName (x ∷ xs) name
name_here x xs names name (inl e) go = record { place = 0; bit = x; there = refl; named = sym ((bytes_decides name x.name).0 e) }
name_here x xs names name (inr e) go = let h = go e in record { place = suc h.place; bit = h.bit; there = h.there; named = h.named }

name_by : (p : Bool) (x : BitAt) (xs : List BitAt) (names : List (List ℕ)) (name : List ℕ) → is_among name (if p then x.name ∷ names else names) ≡ true → (is_among name names ≡ true → HasName xs name) → HasName (x ∷ xs) name
name_by true x xs names name e go = name_here x xs names name (or_cases (bytes_eq name x.name) (is_among name names) e) go
name_by false x xs names name e go = name_here x xs names name (inr e) go

peak_there : (before : BitAt) (bits : List BitAt) (last : BitAt) (name : List ℕ) → is_among name (peaks before bits last) ≡ true → HasName bits name
peak_there before [] last name e = absurd cc
peak_there before (x ∷ []) last name e = name_by (is_peak before x last) x [] [] name e (λ f. absurd cc)
peak_there before (x ∷ y ∷ ys) last name e = name_by (is_peak before x y) x (y ∷ ys) (peaks x (y ∷ ys) last) name e (peak_there x (y ∷ ys) last name)

more_by : (b : Bool) (x name : List ℕ) (xs seen fresh : List (List ℕ)) → is_among name (if b then seen else x ∷ fresh) ≡ true → (is_among name seen ≡ true → is_among name xs ≡ true) → (is_among name fresh ≡ true → is_among name xs ≡ true) → is_among name (x ∷ xs) ≡ true
more_by true x name xs seen fresh e go on = or_there (bytes_eq name x) (is_among name xs) (go e)
more_by false x name xs seen fresh e go on = by (or_cases (bytes_eq name x) (is_among name fresh) e)
  where
    by : (bytes_eq name x ≡ true) ⊎ (is_among name fresh ≡ true) → is_among name (x ∷ xs) ≡ true
    by (inl h) = here_or (bytes_eq name x) (is_among name xs) h
    by (inr h) = or_there (bytes_eq name x) (is_among name xs) (on h)

among_more : (xs seen : List (List ℕ)) (name : List ℕ) → is_among name (once_more seen xs) ≡ true → is_among name xs ≡ true
among_more [] seen name e = e
among_more (x ∷ xs) seen name e = more_by (is_among x seen) x name xs (once_more seen xs) (once_more (x ∷ seen) xs) e (among_more xs seen name) (among_more xs (x ∷ seen) name)

net_there : (nets : List (List ℕ)) (l : IsLoop rings two_rings nets) (name : List ℕ) → is_among name nets ≡ true → HasName (l.first ∷ l.rest) name
net_there nets l name e =
    peak_there l.last (l.first ∷ l.rest) l.first name (among_more (peaks l.last (l.first ∷ l.rest) l.first) [] name (sym (ap (is_among name) l.named) ∙ e))

-- ---- places round a circle

abbrev behind : ℕ → ℕ → ℕ
behind n k = if nat_eq (suc k) n then 0 else suc k

record IsBehind (n k m : ℕ) : Type 0 where
  on : (suc k ≡ n → ⊥) → m ≡ suc k
  round : suc k ≡ n → m ≡ 0

behind_is : (n k : ℕ) → IsBehind n k (behind n k)
behind_is n k = by (nat_eq (suc k) n) refl
  where
    by : (b : Bool) → nat_eq (suc k) n ≡ b → IsBehind n k (if b then 0 else suc k)
    by true e = record { on = λ h. absurd (h ((Decides-eqb (suc k) n).0 e)); round = λ h. refl }
    by false e = record { on = λ h. refl; round = λ h. absurd (let f : true ≡ false = sym ((Decides-eqb (suc k) n).1 h) ∙ e in cc) }

equal_or : (a b : ℕ) → (a ≡ b) ⊎ (a ≡ b → ⊥)
equal_or a b = grind arith

below_by : (n k m : ℕ) → k < n → IsBehind n k m → (suc k ≡ n) ⊎ (suc k ≡ n → ⊥) → m < n
below_by n k m lt is (inl e) = let z : m ≡ 0 = is.round e in omega (arith, z, lt)
below_by n k m lt is (inr ne) = let z : m ≡ suc k = is.on ne in omega (arith, z, lt, ne)

behind_below : (n k : ℕ) → k < n → behind n k < n
behind_below n k lt = below_by n k (behind n k) lt (behind_is n k) (equal_or (suc k) n)

same_by : (n i j a b : ℕ) → IsBehind n i a → IsBehind n j b → a ≡ b → (suc i ≡ n) ⊎ (suc i ≡ n → ⊥) → (suc j ≡ n) ⊎ (suc j ≡ n → ⊥) → i ≡ j
same_by n i j a b p q e (inl f) (inl g) = omega (arith, f, g)
same_by n i j a b p q e (inl f) (inr g) = let z : a ≡ 0 = p.round f in let s : b ≡ suc j = q.on g in absurd (omega (arith, z, s, e))
same_by n i j a b p q e (inr f) (inl g) = let s : a ≡ suc i = p.on f in let z : b ≡ 0 = q.round g in absurd (omega (arith, z, s, e))
same_by n i j a b p q e (inr f) (inr g) = let s : a ≡ suc i = p.on f in let t : b ≡ suc j = q.on g in omega (arith, s, t, e)

behind_same : (n i j : ℕ) → behind n i ≡ behind n j → i ≡ j
behind_same n i j e = same_by n i j (behind n i) (behind n j) (behind_is n i) (behind_is n j) e (equal_or (suc i) n) (equal_or (suc j) n)

next_there : (bits : List BitAt) (k : ℕ) → next_bit bits k ≡ slice_get bits (behind (length bits) k)
next_there bits k = by (nat_eq (suc k) (length bits))
  where
    by : (b : Bool) → (if b then slice_get bits 0 else slice_get bits (suc k)) ≡ slice_get bits (if b then 0 else suc k)
    by true = refl
    by false = refl

-- the bit behind a place, which the one there feeds
record Step (bits : List BitAt) (k : ℕ) (x : BitAt) : Type 0 where
  y : BitAt
  there : slice_get bits (behind (length bits) k) ≡ Some y
  feeds : Feeds rings two_rings x y

bit_there : (bits : List BitAt) (k : ℕ) → k < length bits → (y : BitAt) × (slice_get bits k ≡ Some y)
bit_there [] k lt = absurd (omega (arith, lt))
bit_there (x ∷ xs) zero lt = (x, refl)
bit_there (x ∷ xs) (suc k) lt = bit_there xs k (omega (arith, lt))

step : (bits : List BitAt) → IsWalk rings two_rings bits → (k : ℕ) (x : BitAt) → slice_get bits k ≡ Some x → Step bits k x
step bits walk k x e =
    let next = bit_there bits (behind (length bits) k) (behind_below (length bits) k (slice_get_within bits k x e)) in
    record { y = next.0; there = next.1; feeds = walk.feeds k x next.0 e (next_there bits k ∙ next.1) }

-- ---- each bit stands a number of steps before the shared net

abbrev pin_stage : List ℕ → List ℕ → ℕ
pin_stage [] name = 3
pin_stage (zero ∷ path) name = if bytes_eq name (codes "out") then 1 else 2
pin_stage (suc i ∷ path) name = if bytes_eq name (codes "out") then 4 else 5

abbrev stage_at : List ℕ → List ℕ → ℕ
stage_at path name = if bytes_eq name (codes "x") then 0 else (if bytes_eq name (codes "y") then 3 else (if bytes_eq name (codes "z") then 3 else pin_stage path name))

abbrev stage : BitAt → ℕ
stage b = stage_at b.path b.name

abbrev next_stage : ℕ → ℕ
next_stage zero = 5
next_stage (suc n) = n

-- a connection of part i: what it joins follow each other, and it joins one bit
record IsStaged (i : ℕ) (input : Bool) (pin net : List ℕ) (net_first wide : ℕ) : Type 0 where
  moves : (if input then stage_at (i ∷ []) pin else stage_at [] net) ≡ next_stage (if input then stage_at [] net else stage_at (i ∷ []) pin)
  inside : 0 < stage_at (i ∷ []) pin
  whole : net_first ≡ 0
  single : wide ≡ 1

abbrev StagedBy : ℕ → Entry → Connection → Source → Type 0
StagedBy i inner conn (source.Net w) = IsStaged i (is_input inner conn.pin.name) conn.pin.name w.name (first w.subscript) (count conn.pin.subscript (width_of inner conn.pin.name))
StagedBy i inner conn (source.Constant b) = ⊥

abbrev Staged : ℕ → Entry → Connection → Type 0
Staged i inner conn = StagedBy i inner conn conn.source

abbrev PartStaged : ℕ → Part → Type 0
PartStaged i p = (inner : Entry) → find_chip rings p.chip ≡ Some inner → Each (Staged i inner) p.connections

nand_staged : (i : ℕ) (conns : List Connection) → Each (Staged i nand) conns → (inner : Entry) → find_chip rings (codes "Nand") ≡ Some inner → Each (Staged i inner) conns
nand_staged i conns h inner f = let same : nand ≡ inner = ap (entry_or nand) f in subst (λ (e : Entry). Each (Staged i e) conns) same h

shared_staged : Each (Staged 0 nand) shared.connections
shared_staged = (record { moves = refl; inside = lit< tt; whole = refl; single = refl }, (record { moves = refl; inside = lit< tt; whole = refl; single = refl }, (record { moves = refl; inside = lit< tt; whole = refl; single = refl }, tt)))

over_y_staged : Each (Staged 1 nand) (gate "x" "y").connections
over_y_staged = (record { moves = refl; inside = lit< tt; whole = refl; single = refl }, (record { moves = refl; inside = lit< tt; whole = refl; single = refl }, (record { moves = refl; inside = lit< tt; whole = refl; single = refl }, tt)))

over_z_staged : Each (Staged 2 nand) (gate "x" "z").connections
over_z_staged = (record { moves = refl; inside = lit< tt; whole = refl; single = refl }, (record { moves = refl; inside = lit< tt; whole = refl; single = refl }, (record { moves = refl; inside = lit< tt; whole = refl; single = refl }, tt)))

abbrev parts : List Part
parts = shared ∷ gate "x" "y" ∷ gate "x" "z" ∷ []

part_staged : (i : ℕ) (p : Part) → slice_get parts i ≡ Some p → PartStaged i p
part_staged zero p h = let same : shared ≡ p = cc in subst (PartStaged 0) same (nand_staged 0 shared.connections shared_staged)
part_staged (suc zero) p h = let same : gate "x" "y" ≡ p = cc in subst (PartStaged 1) same (nand_staged 1 (gate "x" "y").connections over_y_staged)
part_staged (suc (suc zero)) p h = let same : gate "x" "z" ≡ p = cc in subst (PartStaged 2) same (nand_staged 2 (gate "x" "z").connections over_z_staged)
part_staged (suc (suc (suc i))) p h = absurd (no_part p h)

nand_has_none : (chip : Entry) (i : ℕ) (p : Part) → Some nand ≡ Some chip → slice_get (parts_of rings chip) i ≡ Some p → ⊥
unfolding end_of
nand_has_none chip i p a t = let same : nand ≡ chip = ap (entry_or nand) a in no_part p (subst (λ (e : Entry). slice_get (parts_of rings e) i ≡ Some p) (sym same) t)

top_part : (path : List ℕ) (chip : Entry) (i : ℕ) (p : Part) → chip_at rings two_rings path ≡ Some chip → slice_get (parts_of rings chip) i ≡ Some p → OnlyTop path (slice_get parts i ≡ Some p)
unfolding end_of
top_part [] chip i p a t = let same : two_rings ≡ chip = ap (entry_or two_rings) a in subst (λ (e : Entry). slice_get (parts_of rings e) i ≡ Some p) (sym same) t
top_part (zero ∷ []) chip i p a t = nand_has_none chip i p a t
top_part (suc zero ∷ []) chip i p a t = nand_has_none chip i p a t
top_part (suc (suc zero) ∷ []) chip i p a t = nand_has_none chip i p a t
top_part (zero ∷ l ∷ path) chip i p a t = no_entry chip a
top_part (suc zero ∷ l ∷ path) chip i p a t = no_entry chip a
top_part (suc (suc zero) ∷ l ∷ path) chip i p a t = no_entry chip a
top_part (suc (suc (suc m)) ∷ path) chip i p a t = no_entry chip a

-- a joint of the chip itself
record IsStep (i k : ℕ) (conn : Connection) (w : Selection) (input : Bool) : Type 0 where
  moves : (if input then stage_at (i ∷ []) conn.pin.name else stage_at [] w.name) ≡ next_stage (if input then stage_at [] w.name else stage_at (i ∷ []) conn.pin.name)
  inside : 0 < stage_at (i ∷ []) conn.pin.name
  whole : first w.subscript ≡ 0
  bit : k ≡ 0

joint_step : (path : List ℕ) (i k : ℕ) (conn : Connection) (w : Selection) (input : Bool) → IsJoint rings two_rings path i conn w k input → OnlyTop path (IsStep i k conn w input)
joint_step [] i k conn w input j =
    let at = each_get (Staged i j.inner) j.part.connections (part_staged i j.part (top_part [] j.chip i j.part j.at j.there) j.inner j.found) j.j conn j.here in
    let is = subst (StagedBy i j.inner conn) j.right at in
    let one : count conn.pin.subscript (width_of j.inner conn.pin.name) ≡ 1 = is.single in
    record {
      moves = subst (λ (b : Bool). (if b then stage_at (i ∷ []) conn.pin.name else stage_at [] w.name) ≡ next_stage (if b then stage_at [] w.name else stage_at (i ∷ []) conn.pin.name)) j.way is.moves;
      inside = is.inside;
      whole = is.whole;
      bit = omega (arith, one, j.within);
    }
joint_step (l ∷ path) i k conn w input j = top_part (l ∷ path) j.chip i j.part j.at j.there

nand_reaches : (i : ℕ) (name : List ℕ) → (bytes_eq name (codes "a") ≡ true) ⊎ (bytes_eq name (codes "b") ≡ true) → stage_at (i ∷ []) (codes "out") ≡ next_stage (stage_at (i ∷ []) name)
nand_reaches zero name (inl e) = subst (λ (n : List ℕ). 1 ≡ next_stage (stage_at (0 ∷ []) n)) (sym ((bytes_decides name (codes "a")).0 e)) refl
nand_reaches zero name (inr e) = subst (λ (n : List ℕ). 1 ≡ next_stage (stage_at (0 ∷ []) n)) (sym ((bytes_decides name (codes "b")).0 e)) refl
nand_reaches (suc i) name (inl e) = subst (λ (n : List ℕ). 4 ≡ next_stage (stage_at (suc i ∷ []) n)) (sym ((bytes_decides name (codes "a")).0 e)) refl
nand_reaches (suc i) name (inr e) = subst (λ (n : List ℕ). 4 ≡ next_stage (stage_at (suc i ∷ []) n)) (sym ((bytes_decides name (codes "b")).0 e)) refl

one_of : (a b : Bool) → (if a then true else b) ≡ true → (a ≡ true) ⊎ (b ≡ true)
one_of true b e = inl refl
one_of false b e = inr e

nand_through : (i : ℕ) (name : List ℕ) (chip : Entry) (e : End) → Some nand ≡ Some chip → end_of Blocks chip ≡ Some e → reaches_out e name ≡ true → stage_at (i ∷ []) (codes "out") ≡ next_stage (stage_at (i ∷ []) name)
unfolding end_of
nand_through i name chip e a is r =
    let same : nand ≡ chip = ap (entry_or nand) a in
    let gate_is : ends.Nand ≡ e = ap end_or (subst (λ (x : Entry). end_of Blocks x ≡ Some e) (sym same) is) in
    nand_reaches i name (one_of (bytes_eq name (codes "a")) (bytes_eq name (codes "b")) (subst (λ (x : End). reaches_out x name ≡ true) (sym gate_is) r))

through_moves : (path name : List ℕ) (chip : Entry) (e : End) → chip_at rings two_rings path ≡ Some chip → end_of Blocks chip ≡ Some e → reaches_out e name ≡ true → stage_at path (codes "out") ≡ next_stage (stage_at path name)
unfolding end_of
through_moves [] name chip e a is r =
    let same : two_rings ≡ chip = ap (entry_or two_rings) a in
    let none : None ≡ Some e = subst (λ (x : Entry). end_of Blocks x ≡ Some e) (sym same) is in
    absurd cc
through_moves (zero ∷ []) name chip e a is r = nand_through 0 name chip e a is r
through_moves (suc zero ∷ []) name chip e a is r = nand_through 1 name chip e a is r
through_moves (suc (suc zero) ∷ []) name chip e a is r = nand_through 2 name chip e a is r
through_moves (zero ∷ l ∷ path) name chip e a is r = absurd (no_entry chip a)
through_moves (suc zero ∷ l ∷ path) name chip e a is r = absurd (no_entry chip a)
through_moves (suc (suc zero) ∷ l ∷ path) name chip e a is r = absurd (no_entry chip a)
through_moves (suc (suc (suc m)) ∷ path) name chip e a is r = absurd (no_entry chip a)

down_moves : (path : List ℕ) (i k : ℕ) (conn : Connection) (w : Selection) → IsJoint rings two_rings path i conn w k true → stage (inside_bit path i conn k) ≡ next_stage (stage (outside_bit path w k))
down_moves [] i k conn w j = (joint_step [] i k conn w true j).moves
down_moves (l ∷ path) i k conn w j = absurd (joint_step (l ∷ path) i k conn w true j)

up_moves : (path : List ℕ) (i k : ℕ) (conn : Connection) (w : Selection) → IsJoint rings two_rings path i conn w k false → stage (outside_bit path w k) ≡ next_stage (stage (inside_bit path i conn k))
up_moves [] i k conn w j = (joint_step [] i k conn w false j).moves
up_moves (l ∷ path) i k conn w j = absurd (joint_step (l ∷ path) i k conn w false j)

moves : (x y : BitAt) → Feeds rings two_rings x y → stage y ≡ next_stage (stage x)
moves x y (down {path = path} {i = i} {k = k} {conn = conn} {w = w} j) = down_moves path i k conn w j
moves x y (up {path = path} {i = i} {k = k} {conn = conn} {w = w} j) = up_moves path i k conn w j
moves x y (through {path = path} {name = name} {bit = bit} {out = out} {chip = chip} {e = e} a is r) = through_moves path name chip e a is r

-- ---- at stage 0 is the shared net alone

abbrev net : BitAt
net = bit_at [] (codes "x") 0

abbrev net_by : Bool → Bool → Bool → ℕ
net_by a b c = if a then 0 else (if b then 3 else (if c then 3 else 3))

net_named : (name : List ℕ) → stage_at [] name ≡ 0 → name ≡ codes "x"
net_named name e = by (bytes_eq name (codes "x")) (bytes_eq name (codes "y")) (bytes_eq name (codes "z")) refl e
  where
    by : (a b c : Bool) → bytes_eq name (codes "x") ≡ a → net_by a b c ≡ 0 → name ≡ codes "x"
    by true b c f h = (bytes_decides name (codes "x")).0 f
    by false true c f h = absurd cc
    by false false true f h = absurd cc
    by false false false f h = absurd cc

down_home : (path : List ℕ) (i k : ℕ) (conn : Connection) (w : Selection) → IsJoint rings two_rings path i conn w k true → stage (inside_bit path i conn k) ≡ 0 → inside_bit path i conn k ≡ net
down_home [] i k conn w j e = let h : 0 < stage_at (i ∷ []) conn.pin.name = (joint_step [] i k conn w true j).inside in absurd (omega (arith, h, e))
down_home (l ∷ path) i k conn w j e = absurd (joint_step (l ∷ path) i k conn w true j)

up_home : (path : List ℕ) (i k : ℕ) (conn : Connection) (w : Selection) → IsJoint rings two_rings path i conn w k false → stage (outside_bit path w k) ≡ 0 → outside_bit path w k ≡ net
up_home [] i k conn w j e =
    let s = joint_step [] i k conn w false j in
    let whole : first w.subscript ≡ 0 = s.whole in
    let bit : k ≡ 0 = s.bit in
    let at : first w.subscript + k ≡ 0 = omega (arith, whole, bit) in
    ap (λ (n : List ℕ). bit_at [] n (first w.subscript + k)) (net_named w.name e) ∙ ap (bit_at [] (codes "x")) at
up_home (l ∷ path) i k conn w j e = absurd (joint_step (l ∷ path) i k conn w false j)

out_no_home : (path : List ℕ) → stage_at path (codes "out") ≡ 0 → ⊥
out_no_home [] e = cc
out_no_home (zero ∷ path) e = cc
out_no_home (suc i ∷ path) e = cc

home : (x y : BitAt) → Feeds rings two_rings x y → stage y ≡ 0 → y ≡ net
home x y (down {path = path} {i = i} {k = k} {conn = conn} {w = w} j) e = down_home path i k conn w j e
home x y (up {path = path} {i = i} {k = k} {conn = conn} {w = w} j) e = up_home path i k conn w j e
home x y (through {path = path} {name = name} {bit = bit} {out = out} {chip = chip} {e = end} a is r) e = absurd (out_no_home path e)

-- ---- three steps behind y and z is the shared net

abbrev third : ℕ → ℕ → ℕ
third n k = behind n (behind n (behind n k))

third_is : (bits : List BitAt) → IsWalk rings two_rings bits → (k : ℕ) (x : BitAt) → slice_get bits k ≡ Some x → stage x ≡ 3 → slice_get bits (third (length bits) k) ≡ Some net
third_is bits walk k x e at =
    let a = step bits walk k x e in
    let b = step bits walk (behind (length bits) k) a.y a.there in
    let c = step bits walk (behind (length bits) (behind (length bits) k)) b.y b.there in
    let two : stage a.y ≡ 2 = moves x a.y a.feeds ∙ ap next_stage at in
    let one : stage b.y ≡ 1 = moves a.y b.y b.feeds ∙ ap next_stage two in
    let none : stage c.y ≡ 0 = moves b.y c.y c.feeds ∙ ap next_stage one in
    c.there ∙ ap Some (home b.y c.y c.feeds none)

named_stage : (x : BitAt) (name : List ℕ) → x.name ≡ name → stage_at x.path name ≡ 3 → stage x ≡ 3
named_stage x name e h = ap (stage_at x.path) e ∙ h

y_and_z : codes "y" ≡ codes "z" → ⊥
y_and_z e = let f : false ≡ true = (bytes_decides (codes "y") (codes "z")).1 e in cc

pub no_double_ring : IsLoop rings two_rings (codes "x" ∷ codes "y" ∷ codes "z" ∷ []) → ⊥
no_double_ring l =
    let bits = l.first ∷ l.rest in
    let n = length bits in
    let y = net_there (codes "x" ∷ codes "y" ∷ codes "z" ∷ []) l (codes "y") refl in
    let z = net_there (codes "x" ∷ codes "y" ∷ codes "z" ∷ []) l (codes "z") refl in
    let at_y = third_is bits l.circle.walk y.place y.bit y.there (named_stage y.bit (codes "y") y.named refl) in
    let at_z = third_is bits l.circle.walk z.place z.bit z.there (named_stage z.bit (codes "z") z.named refl) in
    let thirds : third n y.place ≡ third n z.place = l.circle.once (third n y.place) (third n z.place) net at_y at_z in
    let same : y.place ≡ z.place = behind_same n y.place z.place (behind_same n (behind n y.place) (behind n z.place) (behind_same n (behind n (behind n y.place)) (behind n (behind n z.place)) thirds)) in
    let bit_same : Some y.bit ≡ Some z.bit = sym y.there ∙ ap (slice_get bits) same ∙ z.there in
    let one : y.bit ≡ z.bit = cc in
    y_and_z (sym y.named ∙ ap (λ (v : BitAt). v.name) one ∙ z.named)
