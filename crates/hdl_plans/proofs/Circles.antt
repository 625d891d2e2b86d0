-- There is a circle of bits in a tree exactly where the own graph of a chip in it has one.
use Rattle.std.proofs.Common.{◌≡◌, ℕ, zero, suc, ◌<◌, ◌⊎◌, inl, inr, Bool, true, false, List, [], ◌∷◌, length, Some, refl, sym, ap, subst, ◌∙◌, arith, nat_eq}
use Rattle.std.specs.Prelude.{slice_get, is_some, if◌then◌else◌}
use Rattle.std.proofs.lemmas.Bool.Decides.{Decides-eqb}
use Rattle.hdl_tree.specs.declared.library.Entry.{Entry}
use Rattle.hdl_tree.specs.Chips.{Chips}
use Rattle.hdl_tree.specs.Behaviour.{chip_at, inner_chip}
use Rattle.hdl_plans.specs.Plans.{is_input}
use Rattle.hdl_plans.specs.Loops.{BitAt, bit_at, outside_bit, inside_bit, Feeds, down, up, through, IsWalk, IsBitCircle, IsLoop}
use Rattle.hdl_plans.specs.Ways.{Chain, Way, HasBit, JointsFit, TreeFits, Depends, Across, Own, OwnAt, OwnCircle, HasOwnCircle, Circle, CircleAmong, IsOrdered}
use Rattle.hdl_plans.proofs.Walks.{at_part, part_at, under, shift, Within, Enters, Leaves, Moves, moves_of, join_ways, step_way, one_step, joined_inner}
use Rattle.hdl_plans.proofs.Simple.{Once, simple_round, once_are, get_among, among_get}

-- ---- a way between bits of a chip is a way of its own graph

module _ (chips : Chips) (chip : Entry) (fit : JointsFit chips chip) (y : BitAt) where
  abbrev Ends : BitAt → Type 0
  Ends x = (x ≡ y) ⊎ Way (Own chips chip) x y

  -- inside a part, the way from the bit where it was entered
  abbrev SoFar : Entry → List ℕ → ℕ → List ℕ → List ℕ → ℕ → Type 0
  SoFar inner en eb p n b = (bit_at [] en eb ≡ bit_at p n b) ⊎ Way (Feeds chips inner) (bit_at [] en eb) (bit_at p n b)

  abbrev InPart : ℕ → List ℕ → List ℕ → ℕ → Type 0
  InPart i p n b = (inner : Entry) (en : List ℕ) (eb : ℕ) → inner_chip chips chip i ≡ Some inner → HasBit inner.chip.inputs en eb → SoFar inner en eb p n b → Way (Own chips chip) (bit_at (i ∷ []) en eb) y

  abbrev Goal : List ℕ → List ℕ → ℕ → Type 0
  Goal [] n b = Way (Own chips chip) (bit_at [] n b) y
  Goal (i ∷ p) n b = InPart i p n b

  abbrev Later : List ℕ → List ℕ → ℕ → Type 0
  Later [] n b = Ends (bit_at [] n b)
  Later (i ∷ p) n b = InPart i p n b

  later : (p n : List ℕ) (b : ℕ) → Goal p n b → Later p n b
  later [] n b g = inr g
  later (i ∷ p) n b g = g

  own_step : (x z : BitAt) → Own chips chip x z → Ends z → Way (Own chips chip) x y
  own_step x z f (inl e) = one_step x y (subst (λ v. Own chips chip x v) e f)
  own_step x z f (inr w) = step_way x z y f w

  extend : (inner : Entry) (en : List ℕ) (eb : ℕ) (p n : List ℕ) (b : ℕ) (z : BitAt) → SoFar inner en eb p n b → Feeds chips inner (bit_at p n b) z → Way (Feeds chips inner) (bit_at [] en eb) z
  extend inner en eb p n b z (inl e) f = one_step (bit_at [] en eb) z (subst (λ v. Feeds chips inner v z) (sym e) f)
  extend inner en eb p n b z (inr w) f = join_ways (bit_at [] en eb) (bit_at p n b) z w (one_step (bit_at p n b) z f)

  enters : (i : ℕ) (q n : List ℕ) (b : ℕ) (m : List ℕ) (k : ℕ) → Enters chips chip i q n b m k → InPart i q m k → Way (Own chips chip) (bit_at [] n b) y
  enters i [] n b m k j next =
      let input : HasBit j.joint.inner.chip.inputs m k = subst (λ (v : BitAt). HasBit j.joint.inner.chip.inputs v.name v.bit) (sym j.in_is) (fit i j.conn j.w j.k true j.joint) in
      step_way (bit_at [] n b) (bit_at (i ∷ []) m k) y j (next j.joint.inner m k (joined_inner chips chip i true (bit_at [] n b) (bit_at (i ∷ []) m k) j) input (inl refl))
  enters i (l ∷ q) n b m k j next = absurd j

  depends : (inner : Entry) (en : List ℕ) (eb : ℕ) (n : List ℕ) (b : ℕ) → HasBit inner.chip.inputs en eb → HasBit inner.chip.outputs n b → is_input inner n ≡ false → SoFar inner en eb [] n b → Depends chips inner en eb n b
  depends inner en eb n b input output apart (inl e) =
      let named : en ≡ n = ap (λ (v : BitAt). v.name) e in
      let f : true ≡ false = sym (ap is_some input.there) ∙ (ap (is_input inner) named ∙ apart) in
      absurd cc
  depends inner en eb n b input output apart (inr w) = record { from = input; to = output; apart = apart; way = w }

  leaves : (i : ℕ) (p n : List ℕ) (b : ℕ) (m : List ℕ) (k : ℕ) → Leaves chips chip i p n b m k → Ends (bit_at [] m k) → InPart i p n b
  leaves i [] n b m k j next inner en eb found input far =
      let named : n ≡ j.conn.pin.name = ap (λ (v : BitAt). v.name) j.in_is in
      let there = joined_inner chips chip i false (bit_at [] m k) (bit_at (i ∷ []) n b) j in
      let same : inner ≡ j.joint.inner = cc (found, there) in
      let apart : is_input inner n ≡ false = ap (λ v. is_input v n) same ∙ (ap (is_input j.joint.inner) named ∙ j.joint.way) in
      let bit : HasBit j.joint.inner.chip.outputs n b = subst (λ (v : BitAt). HasBit j.joint.inner.chip.outputs v.name v.bit) (sym j.in_is) (fit i j.conn j.w j.k false j.joint) in
      let output : HasBit inner.chip.outputs n b = subst (λ (v : Entry). HasBit v.chip.outputs n b) (sym same) bit in
      let across : Across chips chip i i en eb n b = record { same = refl; inner = inner; found = found; depends = depends inner en eb n b input output apart far } in
      step_way (bit_at (i ∷ []) en eb) (bit_at (i ∷ []) n b) y across (own_step (bit_at (i ∷ []) n b) (bit_at [] m k) j next)
  leaves i (l ∷ p) n b m k j next inner en eb found input far = absurd j

  within : (i j : ℕ) (p n : List ℕ) (b : ℕ) (q m : List ℕ) (k : ℕ) → Within chips chip i j p n b q m k → InPart j q m k → InPart i p n b
  within i j p n b q m k w next inner en eb found input far =
      let same : w.inner ≡ inner = cc (w.found, found) in
      let f : Feeds chips inner (bit_at p n b) (bit_at q m k) = subst (λ v. Feeds chips v (bit_at p n b) (bit_at q m k)) same w.feeds in
      let here : InPart i q m k = subst (λ v. InPart v q m k) (sym w.same) next in
      here inner en eb found input (inr (extend inner en eb p n b (bit_at q m k) far f))

  next : (p q n : List ℕ) (b : ℕ) (m : List ℕ) (k : ℕ) → Moves chips chip p q n b m k → Later q m k → Goal p n b
  next [] [] n b m k f l = own_step (bit_at [] n b) (bit_at [] m k) f l
  next [] (i ∷ q) n b m k f l = enters i q n b m k f l
  next (i ∷ p) [] n b m k f l = leaves i p n b m k f l
  next (i ∷ p) (j ∷ q) n b m k f l = within i j p n b q m k f l

  pub walk : (at_net : y.path ≡ []) (ms : List BitAt) (p n : List ℕ) (b : ℕ) → Chain (Feeds chips chip) (bit_at p n b) ms y → Goal p n b
  walk e [] p n b f = next p [] n b y.name y.bit (subst (λ v. Moves chips chip p v n b y.name y.bit) e (moves_of chips chip (bit_at p n b) y f)) (inl (ap (λ v. bit_at v y.name y.bit) (sym e)))
  walk e (m ∷ ms) p n b f = next p m.path n b m.name m.bit (moves_of chips chip (bit_at p n b) m f.0) (later m.path m.name m.bit (walk e ms m.path m.name m.bit f.1))

pub own_way : (chips : Chips) (chip : Entry) → JointsFit chips chip → (n m : List ℕ) (b k : ℕ) → Way (Feeds chips chip) (bit_at [] n b) (bit_at [] m k) → Way (Own chips chip) (bit_at [] n b) (bit_at [] m k)
own_way chips chip fit n m b k w = walk chips chip fit (bit_at [] m k) refl w.over [] n b w.steps

-- ---- a way of a chip's own graph is a way of bits

unfoldable pub unders : ℕ → List BitAt → List BitAt
unders i [] = []
unders i (x ∷ xs) = under i x ∷ unders i xs

pub shift_chain : (chips : Chips) (chip : Entry) (i : ℕ) (inner : Entry) → inner_chip chips chip i ≡ Some inner → (ms : List BitAt) (x y : BitAt) → Chain (Feeds chips inner) x ms y → Chain (Feeds chips chip) (under i x) (unders i ms) (under i y)
unfolding unders
shift_chain chips chip i inner found [] x y f = shift chips chip i inner found x y f
shift_chain chips chip i inner found (m ∷ ms) x y f = (shift chips chip i inner found x m f.0, shift_chain chips chip i inner found ms m y f.1)

pub shift_way : (chips : Chips) (chip : Entry) (i : ℕ) (inner : Entry) → inner_chip chips chip i ≡ Some inner → (x y : BitAt) → Way (Feeds chips inner) x y → Way (Feeds chips chip) (under i x) (under i y)
shift_way chips chip i inner found x y w = record { over = unders i w.over; steps = shift_chain chips chip i inner found w.over x y w.steps }

expand_at : (chips : Chips) (chip : Entry) (p q n : List ℕ) (b : ℕ) (m : List ℕ) (k : ℕ) → OwnAt chips chip p q n b m k → Way (Feeds chips chip) (bit_at p n b) (bit_at q m k)
expand_at chips chip [] [] n b m k f =
    one_step (bit_at [] n b) (bit_at [] m k) (subst (λ v. Feeds chips chip (bit_at [] n b) (bit_at [] v k)) (sym f.named) (through {path = []} refl f.is f.reaches))
expand_at chips chip [] (i ∷ []) n b m k f =
    one_step (bit_at [] n b) (bit_at (i ∷ []) m k)
    (subst (λ v. Feeds chips chip v (bit_at (i ∷ []) m k)) (sym f.out_is) (subst (λ v. Feeds chips chip (outside_bit [] f.w f.k) v) (sym f.in_is) (down f.joint)))
expand_at chips chip [] (i ∷ j ∷ q) n b m k f = absurd f
expand_at chips chip (i ∷ []) [] n b m k f =
    one_step (bit_at (i ∷ []) n b) (bit_at [] m k)
    (subst (λ v. Feeds chips chip v (bit_at [] m k)) (sym f.in_is) (subst (λ v. Feeds chips chip (inside_bit [] i f.conn f.k) v) (sym f.out_is) (up f.joint)))
expand_at chips chip (i ∷ []) (j ∷ []) n b m k f =
    let w = shift_way chips chip i f.inner f.found (bit_at [] n b) (bit_at [] m k) f.depends.way in
    subst (λ v. Way (Feeds chips chip) (bit_at (i ∷ []) n b) (bit_at (v ∷ []) m k)) f.same w
expand_at chips chip (i ∷ []) (j ∷ l ∷ q) n b m k f = absurd f
expand_at chips chip (i ∷ l ∷ p) q n b m k f = absurd f

expand : (chips : Chips) (chip : Entry) (x y : BitAt) → Own chips chip x y → Way (Feeds chips chip) x y
expand chips chip x y f = expand_at chips chip x.path y.path x.name x.bit y.name y.bit f

expand_chain : (chips : Chips) (chip : Entry) (ms : List BitAt) (x y : BitAt) → Chain (Own chips chip) x ms y → Way (Feeds chips chip) x y
expand_chain chips chip [] x y f = expand chips chip x y f
expand_chain chips chip (m ∷ ms) x y f = join_ways x m y (expand chips chip x m f.0) (expand_chain chips chip ms m y f.1)

pub whole_way : (chips : Chips) (chip : Entry) (x y : BitAt) → Way (Own chips chip) x y → Way (Feeds chips chip) x y
whole_way chips chip x y w = expand_chain chips chip w.over x y w.steps

-- ---- round a circle: it comes to a bit of the chip, or stays in one part

pub record Round (chips : Chips) (top : Entry) : Type 0 where
  pub at : BitAt
  pub way : Way (Feeds chips top) at at

lift : (chips : Chips) (path : List ℕ) (top chip : Entry) → chip_at chips top path ≡ Some chip → Round chips chip → Round chips top
lift chips [] top chip at r = let same : chip ≡ top = cc in subst (Round chips) same r
lift chips (i ∷ path) top chip at r =
    let a = at_part chips top i path chip at in
    let s = lift chips path a.inner chip a.rest r in
    record { at = under i s.at; way = shift_way chips top i a.inner a.found s.at s.at s.way }

module _ (chips : Chips) (chip : Entry) where
  record Comes (x y : BitAt) : Type 0 where
    name : List ℕ
    bit : ℕ
    before : Way (Feeds chips chip) x (bit_at [] name bit)
    after : (bit_at [] name bit ≡ y) ⊎ Way (Feeds chips chip) (bit_at [] name bit) y

  record Stays (i : ℕ) (x y : BitAt) : Type 0 where
    inner : Entry
    found : inner_chip chips chip i ≡ Some inner
    rest : BitAt
    is : y ≡ under i rest
    way : Way (Feeds chips inner) x rest

  abbrev Split : ℕ → BitAt → BitAt → Type 0
  Split i x y = Comes (under i x) y ⊎ Stays i x y

  last_step : (i : ℕ) (x : BitAt) (q m : List ℕ) (k : ℕ) → Feeds chips chip (under i x) (bit_at q m k) → Moves chips chip (i ∷ x.path) q x.name x.bit m k → Split i x (bit_at q m k)
  last_step i x [] m k f g = inl (record { name = m; bit = k; before = one_step (under i x) (bit_at [] m k) f; after = inl refl })
  last_step i x (j ∷ q) m k f g = inr (record { inner = g.inner; found = g.found; rest = bit_at q m k; is = ap (λ v. bit_at (v ∷ q) m k) (sym g.same); way = one_step x (bit_at q m k) g.feeds })

  prefix : (i : ℕ) (x z y : BitAt) (inner : Entry) → inner_chip chips chip i ≡ Some inner → Feeds chips inner x z → Feeds chips chip (under i x) (under i z) → Split i z y → Split i x y
  prefix i x z y inner found f g (inl c) = inl (record { name = c.name; bit = c.bit; before = step_way (under i x) (under i z) (bit_at [] c.name c.bit) g c.before; after = c.after })
  prefix i x z y inner found f g (inr s) =
      let same : s.inner ≡ inner = cc (s.found, found) in
      inr (record { inner = inner; found = found; rest = s.rest; is = s.is; way = step_way x z s.rest f (subst (λ v. Way (Feeds chips v) z s.rest) same s.way) })

  first_step : (i : ℕ) (x y : BitAt) (ms : List BitAt) → ((j : ℕ) (z : BitAt) → Chain (Feeds chips chip) (under j z) ms y → Split j z y) → (q m : List ℕ) (k : ℕ) →
      Feeds chips chip (under i x) (bit_at q m k) → Moves chips chip (i ∷ x.path) q x.name x.bit m k → Chain (Feeds chips chip) (bit_at q m k) ms y → Split i x y
  first_step i x y ms go [] m k f g rest = inl (record { name = m; bit = k; before = one_step (under i x) (bit_at [] m k) f; after = inr (record { over = ms; steps = rest }) })
  first_step i x y ms go (j ∷ q) m k f g rest =
      let z = bit_at q m k in
      let here : Chain (Feeds chips chip) (under i z) ms y = subst (λ v. Chain (Feeds chips chip) (bit_at (v ∷ q) m k) ms y) (sym g.same) rest in
      prefix i x z y g.inner g.found g.feeds (shift chips chip i g.inner g.found x z g.feeds) (go i z here)

  split : (ms : List BitAt) (y : BitAt) (i : ℕ) (x : BitAt) → Chain (Feeds chips chip) (under i x) ms y → Split i x y
  split [] y i x f = last_step i x y.path y.name y.bit f (moves_of chips chip (under i x) y f)
  split (m ∷ ms) y i x f = first_step i x y ms (λ j z c. split ms y j z c) m.path m.name m.bit f.0 (moves_of chips chip (under i x) m f.0) f.1

  -- a circle that comes to a bit of the chip can begin there
  turned : JointsFit chips chip → (i : ℕ) (x : BitAt) → Comes (under i x) (under i x) → OwnCircle chips chip
  turned fit i x c = by c.after
    where
      by : (bit_at [] c.name c.bit ≡ under i x) ⊎ Way (Feeds chips chip) (bit_at [] c.name c.bit) (under i x) → OwnCircle chips chip
      by (inl e) = let f : [] ≡ i ∷ x.path = ap (λ (v : BitAt). v.path) e in absurd cc
      by (inr w) = record { name = c.name; bit = c.bit; way = own_way chips chip fit c.name c.name c.bit c.bit (join_ways (bit_at [] c.name c.bit) (under i x) (bit_at [] c.name c.bit) w c.before) }

abbrev pub tail_of : List ℕ → List ℕ
tail_of [] = []
tail_of (i ∷ p) = p

below : (chips : Chips) (chip : Entry) (i : ℕ) (inner : Entry) → inner_chip chips chip i ≡ Some inner → HasOwnCircle chips inner → HasOwnCircle chips chip
below chips chip i inner found h = record { path = i ∷ h.path; chip = h.chip; at = part_at chips chip i h.path inner h.chip found h.at; circle = h.circle }

turn_or_below : (chips : Chips) (chip : Entry) → TreeFits chips chip → (i : ℕ) (p n : List ℕ) (b : ℕ) → ((inner : Entry) → TreeFits chips inner → Way (Feeds chips inner) (bit_at p n b) (bit_at p n b) → HasOwnCircle chips inner) → Split chips chip i (bit_at p n b) (bit_at (i ∷ p) n b) → HasOwnCircle chips chip
turn_or_below chips chip fit i p n b go (inl c) = record { path = []; chip = chip; at = refl; circle = turned chips chip (fit [] chip refl) i (bit_at p n b) c }
turn_or_below chips chip fit i p n b go (inr s) =
    let same : s.rest ≡ bit_at p n b = ap (λ (v : BitAt). bit_at (tail_of v.path) v.name v.bit) (sym s.is) in
    below chips chip i s.inner s.found (go s.inner (λ q c h. fit (i ∷ q) c (part_at chips chip i q s.inner c s.found h)) (subst (λ v. Way (Feeds chips s.inner) (bit_at p n b) v) same s.way))

-- by the length of the path of a bit of the circle
descend : (chips : Chips) (path n : List ℕ) (b : ℕ) (chip : Entry) → TreeFits chips chip → Way (Feeds chips chip) (bit_at path n b) (bit_at path n b) → HasOwnCircle chips chip
descend chips [] n b chip fit w = record { path = []; chip = chip; at = refl; circle = record { name = n; bit = b; way = own_way chips chip (fit [] chip refl) n n b b w } }
descend chips (i ∷ p) n b chip fit w =
    turn_or_below chips chip fit i p n b (λ inner f v. descend chips p n b inner f v) (split chips chip w.over (bit_at (i ∷ p) n b) i (bit_at p n b) w.steps)

-- ---- lists of bits that close

chain_of : {R : BitAt → BitAt → Type 0} (ms : List BitAt) (x y : BitAt) → ((k : ℕ) (a b : BitAt) → slice_get (x ∷ ms) k ≡ Some a → slice_get (x ∷ ms) (suc k) ≡ Some b → R a b) → ((a : BitAt) → slice_get (x ∷ ms) (length ms) ≡ Some a → R a y) → Chain R x ms y
chain_of [] x y steps last = last x refl
chain_of (m ∷ ms) x y steps last = (steps 0 x m refl refl, chain_of ms m y (λ k a b e f. steps (suc k) a b e f) (λ a e. last a e))

get_below : (bits : List BitAt) (k : ℕ) (a : BitAt) → slice_get bits k ≡ Some a → k < length bits
get_below [] k a e = absurd cc
get_below (x ∷ xs) zero a e = omega arith
get_below (x ∷ xs) (suc k) a e = let h = get_below xs k a e in omega (arith, h)

differs : (a b : ℕ) → a < b → nat_eq a b ≡ false
differs a b lt = by (nat_eq a b) refl
  where
    by : (t : Bool) → nat_eq a b ≡ t → t ≡ false
    by false e = refl
    by true e = let same : a ≡ b = (Decides-eqb a b).0 e in absurd (omega arith)

same_eq : (a : ℕ) → nat_eq a a ≡ true
same_eq a = (Decides-eqb a a).1 refl

pub chain_round : (chips : Chips) (top : Entry) (ms : List BitAt) (x : BitAt) → IsWalk chips top (x ∷ ms) → Chain (Feeds chips top) x ms x
chain_round chips top ms x c =
    chain_of ms x x
    (λ k a b e f.
    let lt : suc k < suc (length ms) = get_below (x ∷ ms) (suc k) b f in
    c.feeds k a b e (ap (λ (t : Bool). if t then slice_get (x ∷ ms) 0 else slice_get (x ∷ ms) (suc k)) (differs (suc k) (suc (length ms)) lt) ∙ f))
    (λ a e. c.feeds (length ms) a x e (ap (λ (t : Bool). if t then slice_get (x ∷ ms) 0 else slice_get (x ∷ ms) (suc (length ms))) (same_eq (suc (length ms)))))

round_of : (chips : Chips) (top : Entry) (bits : List BitAt) → IsWalk chips top bits → Round chips top
round_of chips top [] c = absurd (let h : 0 < 0 = c.some in omega (arith, h))
round_of chips top (x ∷ ms) c = record { at = x; way = record { over = ms; steps = chain_round chips top ms x c } }

nat_eq_suc : (a b : ℕ) → nat_eq a b ≡ nat_eq (suc a) (suc b)
nat_eq_suc a b = by (nat_eq a b) (nat_eq (suc a) (suc b)) refl refl
  where
    by : (s t : Bool) → nat_eq a b ≡ s → nat_eq (suc a) (suc b) ≡ t → s ≡ t
    by true true e f = refl
    by false false e f = refl
    by true false e f = let h : a ≡ b = (Decides-eqb a b).0 e in let g : nat_eq (suc a) (suc b) ≡ true = (Decides-eqb (suc a) (suc b)).1 (ap suc h) in absurd cc
    by false true e f = let h : suc a ≡ suc b = (Decides-eqb (suc a) (suc b)).0 f in let g : nat_eq a b ≡ true = (Decides-eqb a b).1 (omega arith) in absurd cc

-- the step after place k of a chain
step_at : (R : BitAt → BitAt → Type 0) (ms : List BitAt) (x y : BitAt) → Chain R x ms y → (k : ℕ) (a b : BitAt) (t : Bool) → slice_get (x ∷ ms) k ≡ Some a → nat_eq (suc k) (suc (length ms)) ≡ t → (if t then Some y else slice_get (x ∷ ms) (suc k)) ≡ Some b → R a b
step_at R [] x y f zero a b true e t h = let p : x ≡ a = cc in let q : y ≡ b = cc in subst (λ v. R v b) p (subst (λ v. R x v) q f)
step_at R [] x y f zero a b false e t h = absurd cc
step_at R [] x y f (suc k) a b t e s h = absurd cc
step_at R (m ∷ ms) x y f zero a b true e t h = let same : 1 ≡ suc (suc (length ms)) = (Decides-eqb 1 (suc (suc (length ms)))).0 t in absurd (omega arith)
step_at R (m ∷ ms) x y f zero a b false e t h = let p : x ≡ a = cc in let q : m ≡ b = cc in subst (λ v. R v b) p (subst (λ v. R x v) q f.0)
step_at R (m ∷ ms) x y f (suc k) a b t e s h = step_at R ms m y f.1 k a b t e (nat_eq_suc (suc k) (suc (length ms)) ∙ s) h

pub walk_of : (chips : Chips) (top : Entry) (ms : List BitAt) (x : BitAt) → Chain (Feeds chips top) x ms x → IsWalk chips top (x ∷ ms)
walk_of chips top ms x f = record {
  some = omega arith;
  feeds = λ k a b e h. step_at (Feeds chips top) ms x x f k a b (nat_eq (suc k) (suc (length ms))) e refl h;
}

pub circle_of : (chips : Chips) (top : Entry) (ms : List BitAt) (x : BitAt) → Chain (Feeds chips top) x ms x → Once (x ∷ ms) → IsBitCircle chips top (x ∷ ms)
circle_of chips top ms x f o = record { walk = walk_of chips top ms x f; once = once_are (x ∷ ms) o }

-- a walk that comes back has a circle among its bits
pub circle_among : (chips : Chips) (top : Entry) (bits : List BitAt) → IsWalk chips top bits → CircleAmong chips top bits
circle_among chips top [] c = absurd (let h : 0 < 0 = c.some in omega (arith, h))
circle_among chips top (x ∷ ms) c =
    let s = simple_round (Feeds chips top) ms x (chain_round chips top ms x c) in
    record {
      circle = record { bits = s.at ∷ s.over; is = circle_of chips top s.over s.at s.steps s.once };
      among = λ k v e. among_get (x ∷ ms) v (s.among v (get_among (s.at ∷ s.over) k v e));
    }

-- ---- both directions

pub circle_to_own : (chips : Chips) (top : Entry) → TreeFits chips top → (bits : List BitAt) → IsWalk chips top bits → HasOwnCircle chips top
circle_to_own chips top fit bits c = let r = round_of chips top bits c in descend chips r.at.path r.at.name r.at.bit top fit r.way

pub own_to_circle : (chips : Chips) (top : Entry) → HasOwnCircle chips top → Circle chips top
own_to_circle chips top h =
    let x = bit_at [] h.circle.name h.circle.bit in
    let r = lift chips h.path top h.chip h.at (record { at = x; way = whole_way chips h.chip x x h.circle.way }) in
    (circle_among chips top (r.at ∷ r.way.over) (walk_of chips top r.way.over r.at r.way.steps)).circle

-- ---- order

rises_along : (chips : Chips) (chip : Entry) (o : IsOrdered chips chip) (ms : List BitAt) (x y : BitAt) → Chain (Own chips chip) x ms y → o.rank x < o.rank y
rises_along chips chip o [] x y f = o.rises x y f
rises_along chips chip o (m ∷ ms) x y f = let a = o.rises x m f.0 in let b = rises_along chips chip o ms m y f.1 in omega (arith, a, b)

pub ordered_no_loop : (chips : Chips) (top : Entry) → TreeFits chips top → ((path : List ℕ) (chip : Entry) → chip_at chips top path ≡ Some chip → IsOrdered chips chip) → (nets : List (List ℕ)) → IsLoop chips top nets → ⊥
ordered_no_loop chips top fit order nets l =
    let h = circle_to_own chips top fit (l.first ∷ l.rest) l.circle.walk in
    let o = order h.path h.chip h.at in
    let x = bit_at [] h.circle.name h.circle.bit in
    let f = rises_along chips h.chip o h.circle.way.over x x h.circle.way.steps in
    omega (arith, f)
