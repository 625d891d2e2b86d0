-- A step of bits, seen from the chip context it: it stays in a part, or begins or ends at a bit of the chip.
use Rattle.std.proofs.Common.{◌≡◌, ℕ, ◌+◌, Bool, true, false, List, [], ◌∷◌, ◌++◌, Option, Some, None, refl, sym, ap, ◌∙◌}
use Rattle.std.specs.Prelude.{codes}
use Rattle.hdl_tree.specs.declared.tree.Selection.{Selection}
use Rattle.hdl_tree.specs.declared.tree.Connection.{Connection}
use Rattle.hdl_tree.specs.declared.library.Entry.{Entry}
use Rattle.hdl_tree.specs.declared.ends.End.{End}
use Rattle.hdl_tree.specs.Chips.{Chips, end_of, first}
use Rattle.hdl_tree.specs.Behaviour.{chip_at, chip_of, inner_chip}
use Rattle.hdl_plans.specs.Loops.{BitAt, bit_at, IsJoint, reaches_out, Feeds, down, up, through}
use Rattle.hdl_plans.specs.Ways.{Chain, Way, EndReaches, Joined}

-- ---- paths

pub record AtPart (chips : Chips) (chip : Entry) (i : ℕ) (path : List ℕ) (c : Entry) : Type 0 where
  pub inner : Entry
  pub found : inner_chip chips chip i ≡ Some inner
  pub rest : chip_at chips inner path ≡ Some c

abbrev pub deeper : Chips → List ℕ → Option Entry → Option Entry
deeper chips path o = elim o [ None ↦ None | Some inner ↦ chip_at chips inner path ]

at_by : (chips : Chips) (chip : Entry) (i : ℕ) (path : List ℕ) (c : Entry) (o : Option Entry) → inner_chip chips chip i ≡ o → deeper chips path o ≡ Some c → AtPart chips chip i path c
at_by chips chip i path c None e h = absurd cc
at_by chips chip i path c (Some inner) e h = record { inner = inner; found = e; rest = h }

pub at_part : (chips : Chips) (chip : Entry) (i : ℕ) (path : List ℕ) (c : Entry) → chip_at chips chip (i ∷ path) ≡ Some c → AtPart chips chip i path c
at_part chips chip i path c h = at_by chips chip i path c (inner_chip chips chip i) refl h

pub part_at : (chips : Chips) (chip : Entry) (i : ℕ) (path : List ℕ) (inner c : Entry) → inner_chip chips chip i ≡ Some inner → chip_at chips inner path ≡ Some c → chip_at chips chip (i ∷ path) ≡ Some c
part_at chips chip i path inner c found rest = ap (deeper chips path) found ∙ rest

-- ---- a step in a part, and the step in the chip context it

abbrev pub under : ℕ → BitAt → BitAt
under i x = bit_at (i ∷ x.path) x.name x.bit

pub shift : (chips : Chips) (chip : Entry) (i : ℕ) (inner : Entry) → inner_chip chips chip i ≡ Some inner → (x y : BitAt) → Feeds chips inner x y → Feeds chips chip (under i x) (under i y)
shift chips chip i inner found x y (down {path = path} j) =
    down {path = i ∷ path} (record { chip = j.chip; part = j.part; inner = j.inner; j = j.j; at = part_at chips chip i path inner j.chip found j.at; there = j.there; found = j.found; here = j.here; right = j.right; way = j.way; within = j.within })
shift chips chip i inner found x y (up {path = path} j) =
    up {path = i ∷ path} (record { chip = j.chip; part = j.part; inner = j.inner; j = j.j; at = part_at chips chip i path inner j.chip found j.at; there = j.there; found = j.found; here = j.here; right = j.right; way = j.way; within = j.within })
shift chips chip i inner found x y (through {path = path} {chip = c} at is reaches) = through {path = i ∷ path} (part_at chips chip i path inner c found at) is reaches

-- both ends of a step lie in parts
pub record Within (chips : Chips) (chip : Entry) (i j : ℕ) (p : List ℕ) (n : List ℕ) (b : ℕ) (q : List ℕ) (m : List ℕ) (k : ℕ) : Type 0 where
  pub same : i ≡ j
  pub inner : Entry
  pub found : inner_chip chips chip i ≡ Some inner
  pub feeds : Feeds chips inner (bit_at p n b) (bit_at q m k)

abbrev pub Enters : Chips → Entry → ℕ → List ℕ → List ℕ → ℕ → List ℕ → ℕ → Type 0
Enters chips chip i [] n b m k = Joined chips chip i true (bit_at [] n b) (bit_at (i ∷ []) m k)
Enters chips chip i (j ∷ q) n b m k = ⊥

abbrev pub Leaves : Chips → Entry → ℕ → List ℕ → List ℕ → ℕ → List ℕ → ℕ → Type 0
Leaves chips chip i [] n b m k = Joined chips chip i false (bit_at [] m k) (bit_at (i ∷ []) n b)
Leaves chips chip i (j ∷ p) n b m k = ⊥

abbrev pub Moves : Chips → Entry → List ℕ → List ℕ → List ℕ → ℕ → List ℕ → ℕ → Type 0
Moves chips chip [] [] n b m k = EndReaches chips chip n m
Moves chips chip [] (i ∷ q) n b m k = Enters chips chip i q n b m k
Moves chips chip (i ∷ p) [] n b m k = Leaves chips chip i p n b m k
Moves chips chip (i ∷ p) (j ∷ q) n b m k = Within chips chip i j p n b q m k

record InnerJoint (chips : Chips) (chip : Entry) (l : ℕ) (path : List ℕ) (i : ℕ) (conn : Connection) (w : Selection) (k : ℕ) (input : Bool) : Type 0 where
  pub inner : Entry
  pub found : inner_chip chips chip l ≡ Some inner
  pub joint : IsJoint chips inner path i conn w k input

inner_joint : (chips : Chips) (chip : Entry) (l : ℕ) (path : List ℕ) (i : ℕ) (conn : Connection) (w : Selection) (k : ℕ) (input : Bool) → IsJoint chips chip (l ∷ path) i conn w k input → InnerJoint chips chip l path i conn w k input
inner_joint chips chip l path i conn w k input j =
    let a = at_part chips chip l path j.chip j.at in
    record { inner = a.inner; found = a.found; joint = record { chip = j.chip; part = j.part; inner = j.inner; j = j.j; at = a.rest; there = j.there; found = j.found; here = j.here; right = j.right; way = j.way; within = j.within } }

down_moves : (chips : Chips) (chip : Entry) (path : List ℕ) (i k : ℕ) (conn : Connection) (w : Selection) → IsJoint chips chip path i conn w k true → Moves chips chip path (path ++ i ∷ []) w.name (first w.subscript + k) conn.pin.name (first conn.pin.subscript + k)
down_moves chips chip [] i k conn w j = record { conn = conn; w = w; k = k; joint = j; out_is = refl; in_is = refl }
down_moves chips chip (l ∷ path) i k conn w j =
    let r = inner_joint chips chip l path i conn w k true j in
    record { same = refl; inner = r.inner; found = r.found; feeds = down r.joint }

up_moves : (chips : Chips) (chip : Entry) (path : List ℕ) (i k : ℕ) (conn : Connection) (w : Selection) → IsJoint chips chip path i conn w k false → Moves chips chip (path ++ i ∷ []) path conn.pin.name (first conn.pin.subscript + k) w.name (first w.subscript + k)
up_moves chips chip [] i k conn w j = record { conn = conn; w = w; k = k; joint = j; out_is = refl; in_is = refl }
up_moves chips chip (l ∷ path) i k conn w j =
    let r = inner_joint chips chip l path i conn w k false j in
    record { same = refl; inner = r.inner; found = r.found; feeds = up r.joint }

through_moves : (chips : Chips) (chip : Entry) (path : List ℕ) (name : List ℕ) (bit out : ℕ) (c : Entry) (e : End) → chip_at chips chip path ≡ Some c → end_of chips.memories c ≡ Some e → reaches_out e name ≡ true → Moves chips chip path path name bit (codes "out") out
through_moves chips chip [] name bit out c e at is reaches =
    let same : c ≡ chip = cc in
    record { e = e; is = ap (end_of chips.memories) (sym same) ∙ is; reaches = reaches; named = refl }
through_moves chips chip (l ∷ path) name bit out c e at is reaches =
    let a = at_part chips chip l path c at in
    record { same = refl; inner = a.inner; found = a.found; feeds = through a.rest is reaches }

-- what a step is, seen from the chip context it
pub moves_of : (chips : Chips) (chip : Entry) (x y : BitAt) → Feeds chips chip x y → Moves chips chip x.path y.path x.name x.bit y.name y.bit
moves_of chips chip x y (down {path = path} {i = i} {k = k} {conn = conn} {w = w} j) = down_moves chips chip path i k conn w j
moves_of chips chip x y (up {path = path} {i = i} {k = k} {conn = conn} {w = w} j) = up_moves chips chip path i k conn w j
moves_of chips chip x y (through {path = path} {name = name} {bit = bit} {out = out} {chip = c} {e = e} at is reaches) = through_moves chips chip path name bit out c e at is reaches

-- ---- chains

pub join : (R : BitAt → BitAt → Type 0) (xs ys : List BitAt) (x y z : BitAt) → Chain R x xs y → Chain R y ys z → Chain R x (xs ++ y ∷ ys) z
join R [] ys x y z f g = (f, g)
join R (m ∷ ms) ys x y z f g = (f.0, join R ms ys m y z f.1 g)

pub join_ways : {R : BitAt → BitAt → Type 0} (x y z : BitAt) → Way R x y → Way R y z → Way R x z
join_ways {R = R} x y z f g = record { over = f.over ++ y ∷ g.over; steps = join R f.over g.over x y z f.steps g.steps }

pub step_way : {R : BitAt → BitAt → Type 0} (x y z : BitAt) → R x y → Way R y z → Way R x z
step_way x y z f g = record { over = y ∷ g.over; steps = (f, g.steps) }

pub one_step : {R : BitAt → BitAt → Type 0} (x y : BitAt) → R x y → Way R x y
one_step x y f = record { over = []; steps = f }

-- ---- the part of a connection

pub joined_inner : (chips : Chips) (chip : Entry) (i : ℕ) (input : Bool) (x y : BitAt) (j : Joined chips chip i input x y) → inner_chip chips chip i ≡ Some j.joint.inner
joined_inner chips chip i input x y j =
    let same : chip ≡ j.joint.chip = cc (j.joint.at) in
    ap (λ c. inner_chip chips c i) same ∙ (ap (chip_of chips) j.joint.there ∙ j.joint.found)
