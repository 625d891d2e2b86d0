-- Paths given from within, and the bits that connections join.
use Rattle.std.proofs.Common.{◌≡◌, Bool, ℕ, zero, suc, ◌+◌, ◌<◌, ◌⊎◌, inl, inr, List, [], ◌∷◌, ◌++◌, Option, Some, None, refl, sym, ap, subst, ◌∙◌, arith, append_assoc, append-nil}
use Rattle.std.specs.Prelude.{slice_get}
use Rattle.hdl_tree.specs.declared.tree.Selection.{Selection}
use Rattle.hdl_tree.specs.declared.tree.Source.{Source}
use Rattle.hdl_tree.specs.declared.tree.Source.TheVariants as source
use Rattle.hdl_tree.specs.declared.tree.Connection.{Connection}
use Rattle.hdl_tree.specs.declared.tree.Part.{Part}
use Rattle.hdl_tree.specs.declared.library.Entry.{Entry}
use Rattle.hdl_tree.specs.Chips.{Chips, find_chip, parts_of, count}
use Rattle.hdl_tree.specs.Behaviour.{chip_at, chip_of, inner_chip, width_of}
use Rattle.hdl_plans.specs.Plans.{IsSound}
use Rattle.hdl_plans.specs.Planned.{plan_of}
use Rattle.hdl_plans.specs.Loops.{BitAt, IsJoint, outside_bit, inside_bit}
use Rattle.hdl_plans.proofs.Walks.{at_part, part_at}
use Rattle.hdl_behaviours.specs.Inner.Feeding.{backwards, bits_at, connection_bits, connections_bits, part_bits, parts_bits, tree_bits, Among}

-- ---- paths

pub backwards-push : (path : List ℕ) (i : ℕ) → backwards (path ++ i ∷ []) ≡ i ∷ backwards path
backwards-push [] i = refl
backwards-push (j ∷ path) i = ap (λ (p : List ℕ). p ++ j ∷ []) (backwards-push path i)

pub backwards-twice : (path : List ℕ) → backwards (backwards path) ≡ path
backwards-twice [] = refl
backwards-twice (i ∷ path) = backwards-push (backwards path) i ∙ ap (λ (p : List ℕ). i ∷ p) (backwards-twice path)

-- the chip of a part of the chip at a path
pub chip_below : (chips : Chips) (path : List ℕ) (top chip inner : Entry) (i : ℕ) → chip_at chips top path ≡ Some chip → inner_chip chips chip i ≡ Some inner → chip_at chips top (path ++ i ∷ []) ≡ Some inner
chip_below chips [] top chip inner i at found = part_at chips top i [] inner inner (let same : top ≡ chip = cc in ap (λ (x : Entry). inner_chip chips x i) same ∙ found) refl
chip_below chips (j ∷ path) top chip inner i at found =
    let a = at_part chips top j path chip at in
    part_at chips top j (path ++ i ∷ []) a.inner inner a.found (chip_below chips path a.inner chip inner i a.rest found)

-- ---- among

pub among_left : (x : BitAt) (xs ys : List BitAt) → Among x xs → Among x (xs ++ ys)
among_left x [] ys h = absurd h
among_left x (y ∷ xs) ys (inl e) = inl e
among_left x (y ∷ xs) ys (inr h) = inr (among_left x xs ys h)

pub among_right : (x : BitAt) (xs ys : List BitAt) → Among x ys → Among x (xs ++ ys)
among_right x [] ys h = h
among_right x (y ∷ xs) ys h = inr (among_right x xs ys h)

-- both bits of a joint
abbrev pub Both : List ℕ → ℕ → Connection → Selection → ℕ → List BitAt → Type 0
Both path i conn w k xs = Among (outside_bit path w k) xs × Among (inside_bit path i conn k) xs

both_left : (path : List ℕ) (i : ℕ) (conn : Connection) (w : Selection) (k : ℕ) (xs ys : List BitAt) → Both path i conn w k xs → Both path i conn w k (xs ++ ys)
both_left path i conn w k xs ys h = (among_left (outside_bit path w k) xs ys h.0, among_left (inside_bit path i conn k) xs ys h.1)

both_right : (path : List ℕ) (i : ℕ) (conn : Connection) (w : Selection) (k : ℕ) (xs ys : List BitAt) → Both path i conn w k ys → Both path i conn w k (xs ++ ys)
both_right path i conn w k xs ys h = (among_right (outside_bit path w k) xs ys h.0, among_right (inside_bit path i conn k) xs ys h.1)

in_connection : (path : List ℕ) (i : ℕ) (conn : Connection) (w : Selection) (n k : ℕ) → conn.source ≡ source.Net w → k < n → Both path i conn w k (connection_bits path i conn n)
in_connection path i conn w zero k right lt = absurd (omega arith)
in_connection path i conn w (suc n) k right lt = by (here_or_not k n) (λ less. in_connection path i conn w n k right less)
  where
    here_or_not : (a b : ℕ) → (a ≡ b) ⊎ (a ≡ b → ⊥)
    here_or_not a b = grind arith

    by : (k ≡ n) ⊎ (k ≡ n → ⊥) → (k < n → Both path i conn w k (connection_bits path i conn n)) → Both path i conn w k (bits_at path i conn n conn.source ++ connection_bits path i conn n)
    by (inl e) go =
        both_left path i conn w k (bits_at path i conn n conn.source) (connection_bits path i conn n)
        (subst (λ (s : Source). Both path i conn w k (bits_at path i conn n s)) (sym right) (inl (ap (outside_bit path w) e), inr (inl (ap (inside_bit path i conn) e))))
    by (inr ne) go = both_right path i conn w k (bits_at path i conn n conn.source) (connection_bits path i conn n) (go (omega arith))

in_connections : (path : List ℕ) (i : ℕ) (inner : Entry) (conns : List Connection) (j : ℕ) (conn : Connection) (w : Selection) (k : ℕ) → slice_get conns j ≡ Some conn → conn.source ≡ source.Net w → k < count conn.pin.subscript (width_of inner conn.pin.name) → Both path i conn w k (connections_bits path i inner conns)
in_connections path i inner [] j conn w k here right lt = absurd cc
in_connections path i inner (c ∷ conns) zero conn w k here right lt =
    let same : conn ≡ c = cc in
    let wide = count conn.pin.subscript (width_of inner conn.pin.name) in
    subst (λ (x : Connection). Both path i conn w k (connection_bits path i x (count x.pin.subscript (width_of inner x.pin.name)) ++ connections_bits path i inner conns)) same
    (both_left path i conn w k (connection_bits path i conn (count conn.pin.subscript (width_of inner conn.pin.name))) (connections_bits path i inner conns) (in_connection path i conn w (count conn.pin.subscript (width_of inner conn.pin.name)) k right lt))
in_connections path i inner (c ∷ conns) (suc j) conn w k here right lt =
    both_right path i conn w k (connection_bits path i c (count c.pin.subscript (width_of inner c.pin.name))) (connections_bits path i inner conns) (in_connections path i inner conns j conn w k here right lt)

-- ---- the bits of a tree

-- those of a part, and of the tree below it
part_in : (chips : Chips) (below : Entry → List ℕ → List BitAt) (path : List ℕ) (base : ℕ) (parts : List Part) (m : ℕ) (part : Part) (inner : Entry) (x : BitAt) → slice_get parts m ≡ Some part → find_chip chips part.chip ≡ Some inner → Among x (connections_bits path (base + m) inner part.connections ++ below inner (path ++ (base + m) ∷ [])) → Among x (parts_bits chips below path base parts)
part_in chips below path base [] m part inner x there found h = absurd cc
part_in chips below path base (p ∷ parts) zero part inner x there found h =
    let same : part ≡ p = cc in
    let number : base + 0 ≡ base = omega arith in
    let here : Among x (part_bits below path base part.connections (Some inner)) = subst (λ (i : ℕ). Among x (connections_bits path i inner part.connections ++ below inner (path ++ i ∷ []))) number h in
    let now : Among x (part_bits below path base part.connections (find_chip chips part.chip)) = subst (λ (o : Option Entry). Among x (part_bits below path base part.connections o)) (sym found) here in
    among_left x (part_bits below path base p.connections (find_chip chips p.chip)) (parts_bits chips below path (suc base) parts)
    (subst (λ (q : Part). Among x (part_bits below path base q.connections (find_chip chips q.chip))) same now)
part_in chips below path base (p ∷ parts) (suc m) part inner x there found h =
    let number : base + suc m ≡ suc base + m = omega arith in
    among_right x (part_bits below path base p.connections (find_chip chips p.chip)) (parts_bits chips below path (suc base) parts)
    (part_in chips below path (suc base) parts m part inner x there found (subst (λ (i : ℕ). Among x (connections_bits path i inner part.connections ++ below inner (path ++ i ∷ []))) number h))

pub record PartOf (chips : Chips) (chip : Entry) (i : ℕ) (inner : Entry) : Type 0 where
  pub part : Part
  pub there : slice_get (parts_of chips chip) i ≡ Some part
  pub found : find_chip chips part.chip ≡ Some inner

pub part_of_by : (chips : Chips) (chip : Entry) (i : ℕ) (inner : Entry) (o : Option Part) → slice_get (parts_of chips chip) i ≡ o → chip_of chips o ≡ Some inner → PartOf chips chip i inner
part_of_by chips chip i inner None e f = absurd cc
part_of_by chips chip i inner (Some part) e f = record { part = part; there = e; found = f }

pub record HasJoint (chips : Chips) (chip : Entry) (i : ℕ) (conn : Connection) (w : Selection) (k : ℕ) : Type 0 where
  pub part : Part
  pub inner : Entry
  pub j : ℕ
  pub there : slice_get (parts_of chips chip) i ≡ Some part
  pub found : find_chip chips part.chip ≡ Some inner
  pub here : slice_get part.connections j ≡ Some conn
  pub right : conn.source ≡ source.Net w
  pub within : k < count conn.pin.subscript (width_of inner conn.pin.name)

in_tree : (chips : Chips) (d : ℕ) (top : Entry) (pre path : List ℕ) (chip : Entry) (i : ℕ) (conn : Connection) (w : Selection) (k : ℕ) → IsSound d chips (plan_of chips) top → chip_at chips top path ≡ Some chip → HasJoint chips chip i conn w k → Both (pre ++ path) i conn w k (tree_bits d chips top pre)
in_tree chips zero top pre path chip i conn w k sound at h = absurd sound
in_tree chips (suc d) top pre [] chip i conn w k sound at h =
    let same : chip ≡ top = cc in
    let there : slice_get (parts_of chips top) i ≡ Some h.part = ap (λ (c : Entry). slice_get (parts_of chips c) i) (sym same) ∙ h.there in
    let number : i ≡ 0 + i = omega arith in
    let whole : pre ≡ pre ++ [] = sym (append-nil pre) in
    let both = in_connections pre i h.inner h.part.connections h.j conn w k h.here h.right h.within in
    let more = both_left pre i conn w k (connections_bits pre i h.inner h.part.connections) (tree_bits d chips h.inner (pre ++ i ∷ [])) both in
    let step = λ (x : BitAt) (a : Among x (connections_bits pre i h.inner h.part.connections ++ tree_bits d chips h.inner (pre ++ i ∷ []))). part_in chips (λ inner q. tree_bits d chips inner q) pre 0 (parts_of chips top) i h.part h.inner x there h.found (subst (λ (n : ℕ). Among x (connections_bits pre n h.inner h.part.connections ++ tree_bits d chips h.inner (pre ++ n ∷ []))) number a) in
    subst (λ (p : List ℕ). Both p i conn w k (tree_bits (suc d) chips top pre)) whole (step (outside_bit pre w k) more.0, step (inside_bit pre i conn k) more.1)
in_tree chips (suc d) top pre (l ∷ path) chip i conn w k sound at h =
    let a = at_part chips top l path chip at in
    let p = part_of_by chips top l a.inner (slice_get (parts_of chips top) l) refl a.found in
    let below = in_tree chips d a.inner (pre ++ l ∷ []) path chip i conn w k (sound.2 l a.inner a.found) a.rest h in
    let number : l ≡ 0 + l = omega arith in
    let joined : (pre ++ l ∷ []) ++ path ≡ pre ++ l ∷ path = append_assoc pre (l ∷ []) path in
    let step = λ (x : BitAt) (b : Among x (tree_bits d chips a.inner (pre ++ l ∷ []))). part_in chips (λ inner q. tree_bits d chips inner q) pre 0 (parts_of chips top) l p.part a.inner x p.there p.found (subst (λ (n : ℕ). Among x (connections_bits pre n a.inner p.part.connections ++ tree_bits d chips a.inner (pre ++ n ∷ []))) number (among_right x (connections_bits pre l a.inner p.part.connections) (tree_bits d chips a.inner (pre ++ l ∷ [])) b)) in
    subst (λ (q : List ℕ). Both q i conn w k (tree_bits (suc d) chips top pre)) joined (step (outside_bit ((pre ++ l ∷ []) ++ path) w k) below.0, step (inside_bit ((pre ++ l ∷ []) ++ path) i conn k) below.1)

-- both bits of each joint of a sound tree are among its bits
pub joint_among : (chips : Chips) (d : ℕ) (top : Entry) (path : List ℕ) (i : ℕ) (conn : Connection) (w : Selection) (k : ℕ) (input : Bool) → IsSound d chips (plan_of chips) top → IsJoint chips top path i conn w k input → Both path i conn w k (tree_bits d chips top [])
joint_among chips d top path i conn w k input sound j =
    in_tree chips d top [] path j.chip i conn w k sound j.at (record { part = j.part; inner = j.inner; j = j.j; there = j.there; found = j.found; here = j.here; right = j.right; within = j.within })
