-- A library whose chips have levels has no loop, and its outputs depend on its inputs at most as the pairs say.
use Rattle.std.proofs.Common.{◌≡◌, ℕ, zero, suc, ◌<◌, ◌≤◌, ◌⊎◌, inl, inr, Bool, true, false, cond, List, [], ◌∷◌, Option, Some, None, refl, sym, ap, subst, ◌∙◌, arith, nat_lt}
use Rattle.std.specs.Prelude.{slice_get, is_some, ◌&&◌, ◌||◌, codes}
use Rattle.std.specs.Str.{bytes_eq}
use Rattle.std.specs.Cmp.Lexicographic.{bytes_decides}
use Rattle.std.proofs.lemmas.Bool.Decides.{leb_tells, Decides-ltb}
use Rattle.hdl_tree.specs.declared.tree.Pin.{Pin}
use Rattle.hdl_tree.specs.declared.tree.Selection.{Selection}
use Rattle.hdl_tree.specs.declared.tree.Source.{Source}
use Rattle.hdl_tree.specs.declared.tree.Source.TheVariants as source
use Rattle.hdl_tree.specs.declared.tree.Part.{Part}
use Rattle.hdl_tree.specs.declared.tree.Connection.{Connection}
use Rattle.hdl_tree.specs.declared.library.Entry.{Entry}
use Rattle.hdl_tree.specs.declared.ends.End.{End}
use Rattle.hdl_tree.specs.declared.ends.End.TheVariants as ends
use Rattle.hdl_tree.specs.Chips.{Chips, end_of, find_chip, parts_of, parts_unless, parts_of_body, pin_width}
use Rattle.hdl_tree.specs.Behaviour.{chip_at, chip_of, inner_chip, width_in}
use Rattle.hdl_tree.specs.Writable.{all, is_among}
use Rattle.hdl_plans.specs.Plans.{is_input}
use Rattle.hdl_plans.specs.Loops.{BitAt, bit_at, IsJoint, reaches_out}
use Rattle.hdl_plans.specs.Ways.{Chain, Depends, JointsFit, Joined, Own, OwnAt, EndReaches, IsOrdered}
use Rattle.hdl_plans.proofs.Walks.{at_part}
use Rattle.hdl_plans.proofs.Fits.{tree_fits}
use Rattle.hdl_plans.proofs.Circles.{own_way, ordered_no_loop}
use Rattle.hdl_behaviours.specs.Clean.{place_of, AreClean}
use Rattle.hdl_behaviours.specs.Levels.{Pairs, is_pair, Level, level_of, lowest, higher, with_names, over, is_below, over_source, input_level, output_level, pin_level, drives_higher, inner_is_levelled, part_is_levelled, reaching, end_is_levelled, steps_rise, passes_on, is_told, is_levelled, AreLevelled}
use Rattle.hdl_behaviours.specs.Laws.{IsLoopless}
use Rattle.hdl_behaviours.proofs.Clean.{and_left, and_right, find_in, earlier, clean_faultless}

-- ---- tests of lists

or_left : (a b : Bool) → a ≡ true → (a || b) ≡ true
or_left true b h = refl
or_left false b h = absurd cc

or_right : (a b : Bool) → b ≡ true → (a || b) ≡ true
or_right true b h = refl
or_right false b h = h

all_by : (test : List ℕ → Bool) (y x : List ℕ) (ys : List (List ℕ)) (b : Bool) → bytes_eq x y ≡ b → (b || is_among x ys) ≡ true → test y ≡ true → (is_among x ys ≡ true → test x ≡ true) → test x ≡ true
all_by test y x ys true q h t go = ap test ((bytes_decides x y).0 q) ∙ t
all_by test y x ys false q h t go = go h

pub all_tells : (test : List ℕ → Bool) (xs : List (List ℕ)) → all test xs ≡ true → (x : List ℕ) → is_among x xs ≡ true → test x ≡ true
all_tells test [] h x i = absurd cc
all_tells test (y ∷ ys) h x i = all_by test y x ys (bytes_eq x y) refl i (and_left (test y) (all test ys) h) (all_tells test ys (and_right (test y) (all test ys) h) x)

pub all_at : {X : Type 0} (test : X → Bool) (xs : List X) → all test xs ≡ true → (i : ℕ) (x : X) → slice_get xs i ≡ Some x → test x ≡ true
all_at test [] h i x e = absurd cc
all_at test (y ∷ ys) h zero x e = let same : y ≡ x = cc in sym (ap test same) ∙ and_left (test y) (all test ys) h
all_at test (y ∷ ys) h (suc i) x e = all_at test ys (and_right (test y) (all test ys) h) i x e

pin_by : (test : List ℕ → Bool) (name : List ℕ) (p : Pin) (b : Bool) → bytes_eq name p.name ≡ b → test p.name ≡ true → (b ≡ false → test name ≡ true) → test name ≡ true
pin_by test name p true q t go = ap test ((bytes_decides name p.name).0 q) ∙ t
pin_by test name p false q t go = go refl

rest_of : (b : Bool) (w width : ℕ) (o : Option ℕ) → cond b (Some w) o ≡ Some width → b ≡ false → o ≡ Some width
rest_of true w width o h q = absurd cc
rest_of false w width o h q = h

pub pin_tells : (test : List ℕ → Bool) (pins : List Pin) → all (λ (p : Pin). test p.name) pins ≡ true → (name : List ℕ) (width : ℕ) → width_in pins name ≡ Some width → test name ≡ true
pin_tells test [] h name width e = absurd cc
pin_tells test (p ∷ ps) h name width e =
    pin_by test name p (bytes_eq name p.name) refl (and_left (test p.name) (all (λ (q : Pin). test q.name) ps) h) (λ q. pin_tells test ps (and_right (test p.name) (all (λ (r : Pin). test r.name) ps) h) name width (rest_of (bytes_eq name p.name) (pin_width p) width (width_in ps name) e q))

-- ---- levels

record Lies (a b : Level) : Type 0 where
  less : a.rank < b.rank
  kept : (x : List ℕ) → is_among x a.from ≡ true → is_among x b.from ≡ true

record NoHigher (a b : Level) : Type 0 where
  no_more : a.rank ≤ b.rank
  kept : (x : List ℕ) → is_among x a.from ≡ true → is_among x b.from ≡ true

lies : (a b : Level) → is_below a b ≡ true → Lies a b
lies a b h = record { less = (Decides-ltb a.rank b.rank).0 (and_left (nat_lt a.rank b.rank) (all (λ x. is_among x b.from) a.from) h); kept = all_tells (λ x. is_among x b.from) a.from (and_right (nat_lt a.rank b.rank) (all (λ x. is_among x b.from) a.from) h) }

lies_under : (a b c : Level) → Lies a b → NoHigher b c → Lies a c
lies_under a b c l n = record { less = omega (arith, l.less, n.no_more); kept = λ x h. n.kept x (l.kept x h) }

same_level : (a : Level) → NoHigher a a
same_level a = record { no_more = omega arith; kept = λ x h. h }

higher_left : (a b : ℕ) → a ≤ higher a b
higher_left a b = by (leb_tells (suc a) b)
  where
    by : ((nat_lt a b ≡ true) × (suc a ≤ b)) ⊎ ((nat_lt a b ≡ false) × (b < suc a)) → a ≤ higher a b
    by (inl p) = subst (λ (t : Bool). a ≤ cond t b a) (sym p.0) (omega (arith, p.1))
    by (inr p) = subst (λ (t : Bool). a ≤ cond t b a) (sym p.0) (omega arith)

higher_right : (a b : ℕ) → b ≤ higher a b
higher_right a b = by (leb_tells (suc a) b)
  where
    by : ((nat_lt a b ≡ true) × (suc a ≤ b)) ⊎ ((nat_lt a b ≡ false) × (b < suc a)) → b ≤ higher a b
    by (inl p) = subst (λ (t : Bool). b ≤ cond t b a) (sym p.0) (omega arith)
    by (inr p) = subst (λ (t : Bool). b ≤ cond t b a) (sym p.0) (omega (arith, p.1))

stays_in : (x y : List ℕ) (ys : List (List ℕ)) (t : Bool) → is_among x ys ≡ true → is_among x (cond t ys (y ∷ ys)) ≡ true
stays_in x y ys true h = h
stays_in x y ys false h = or_right (bytes_eq x y) (is_among x ys) h

comes_in : (y : List ℕ) (ys : List (List ℕ)) (t : Bool) → is_among y ys ≡ t → is_among y (cond t ys (y ∷ ys)) ≡ true
comes_in y ys true h = h
comes_in y ys false h = or_left (bytes_eq y y) (is_among y ys) ((bytes_decides y y).1 refl)

names_right : (xs names : List (List ℕ)) (x : List ℕ) → is_among x names ≡ true → is_among x (with_names xs names) ≡ true
names_right [] names x h = h
names_right (y ∷ ys) names x h = stays_in x y (with_names ys names) (is_among y (with_names ys names)) (names_right ys names x h)

left_by : (x y : List ℕ) (ys names : List (List ℕ)) (b : Bool) → bytes_eq x y ≡ b → (b || is_among x ys) ≡ true → (is_among x ys ≡ true → is_among x (with_names ys names) ≡ true) → is_among x (with_names (y ∷ ys) names) ≡ true
left_by x y ys names true q h go = subst (λ z. is_among z (with_names (y ∷ ys) names) ≡ true) (sym ((bytes_decides x y).0 q)) (comes_in y (with_names ys names) (is_among y (with_names ys names)) refl)
left_by x y ys names false q h go = stays_in x y (with_names ys names) (is_among y (with_names ys names)) (go h)

names_left : (xs names : List (List ℕ)) (x : List ℕ) → is_among x xs ≡ true → is_among x (with_names xs names) ≡ true
names_left [] names x h = absurd cc
names_left (y ∷ ys) names x h = left_by x y ys names (bytes_eq x y) refl h (names_left ys names x)

over_left : (a b : Level) → Lies a (over a b)
over_left a b = let h = higher_left (suc a.rank) b.rank in record { less = h; kept = names_left a.from b.from }

over_right : (a b : Level) → NoHigher b (over a b)
over_right a b = record { no_more = higher_right (suc a.rank) b.rank; kept = names_right a.from b.from }

-- ---- the pins of a part

module _ (levels : List (List ℕ × Level)) where
  source_right : (s : Source) (rest : Level) → NoHigher rest (over_source levels s rest)
  source_right (source.Net w) rest = over_right (level_of levels w.name) rest
  source_right (source.Constant b) rest = same_level rest

  source_stays : (s : Source) (rest : Level) (b : Bool) → NoHigher rest (cond b (over_source levels s rest) rest)
  source_stays s rest true = source_right s rest
  source_stays s rest false = same_level rest

  source_left : (s : Source) (w : Selection) (rest : Level) (b : Bool) → s ≡ source.Net w → b ≡ true → Lies (level_of levels w.name) (cond b (over_source levels s rest) rest)
  source_left s w rest true e q = subst (λ (t : Source). Lies (level_of levels w.name) (over_source levels t rest)) (sym e) (over_left (level_of levels w.name) rest)
  source_left s w rest false e q = absurd cc

  input_over : (conns : List Connection) (j : ℕ) (conn : Connection) (w : Selection) → slice_get conns j ≡ Some conn → conn.source ≡ source.Net w → Lies (level_of levels w.name) (input_level levels conns conn.pin.name)
  input_over [] j conn w h e = absurd cc
  input_over (c ∷ cs) zero conn w h e =
      let same : conn ≡ c = cc in
      subst (λ (d : Connection). Lies (level_of levels w.name) (cond (bytes_eq conn.pin.name d.pin.name) (over_source levels d.source (input_level levels cs conn.pin.name)) (input_level levels cs conn.pin.name))) same
      (source_left conn.source w (input_level levels cs conn.pin.name) (bytes_eq conn.pin.name conn.pin.name) e ((bytes_decides conn.pin.name conn.pin.name).1 refl))
  input_over (c ∷ cs) (suc j) conn w h e =
      lies_under (level_of levels w.name) (input_level levels cs conn.pin.name) (input_level levels (c ∷ cs) conn.pin.name) (input_over cs j conn w h e)
      (source_stays c.source (input_level levels cs conn.pin.name) (bytes_eq conn.pin.name c.pin.name))

  pair_stays : (a rest : Level) (b : Bool) → NoHigher rest (cond b (over a rest) rest)
  pair_stays a rest true = over_right a rest
  pair_stays a rest false = same_level rest

  pair_by : (conns : List Connection) (p q : List ℕ) (r : List ℕ × List ℕ) (rest : Level) (a b : Bool) → bytes_eq p r.0 ≡ a → bytes_eq q r.1 ≡ b → ((a && b) ≡ true) ⊎ Lies (input_level levels conns p) rest → Lies (input_level levels conns p) (cond b (over (input_level levels conns r.0) rest) rest)
  pair_by conns p q r rest true true e f (inl h) = subst (λ x. Lies (input_level levels conns x) (over (input_level levels conns r.0) rest)) (sym ((bytes_decides p r.0).0 e)) (over_left (input_level levels conns r.0) rest)
  pair_by conns p q r rest true false e f (inl h) = absurd cc
  pair_by conns p q r rest false b e f (inl h) = absurd cc
  pair_by conns p q r rest a b e f (inr l) = lies_under (input_level levels conns p) rest (cond b (over (input_level levels conns r.0) rest) rest) l (pair_stays (input_level levels conns r.0) rest b)

  which : {A : Type 0} (a b : Bool) → (a || b) ≡ true → (b ≡ true → A) → (a ≡ true) ⊎ A
  which true b h go = inl refl
  which false b h go = inr (go h)

  output_over : (conns : List Connection) (pairs : Pairs) (p q : List ℕ) → is_pair p q pairs ≡ true → Lies (input_level levels conns p) (output_level levels conns pairs q)
  output_over conns [] p q h = absurd cc
  output_over conns (r ∷ rs) p q h =
      pair_by conns p q r (output_level levels conns rs q) (bytes_eq p r.0) (bytes_eq q r.1) refl refl (which (bytes_eq p r.0 && bytes_eq q r.1) (is_pair p q rs) h (output_over conns rs p q))

-- ---- one chip

reaching_told : (e : End) (name : List ℕ) → reaches_out e name ≡ true → is_among name (reaching e) ≡ true
reaching_told ends.Nand name h = nand_by (bytes_eq name (codes "a")) (bytes_eq name (codes "b")) h
  where
    nand_by : (a b : Bool) → cond a true b ≡ true → (a || (b || false)) ≡ true
    nand_by true b h = refl
    nand_by false true h = refl
    nand_by false false h = absurd cc
reaching_told ends.Dff name h = absurd cc
reaching_told ends.Keyboard name h = absurd cc
reaching_told ends.Rom name h = or_left (bytes_eq name (codes "address")) false h
reaching_told (ends.Block bits) name h = or_left (bytes_eq name (codes "address")) false h

module _ (chips : Chips) (pairs : List ℕ → Pairs) (chip : Entry) (levels : List (List ℕ × Level)) (good : is_levelled chips pairs levels chip ≡ true) where
  abbrev pins_good : Bool
  pins_good = all (passes_on levels) chip.chip.inputs && all (is_told levels (pairs chip.name)) chip.chip.outputs

  rising : steps_rise chips pairs levels chip ≡ true
  rising = and_left (steps_rise chips pairs levels chip) pins_good good

  -- the level of a pin of a part
  inner_level : Part → List ℕ → Option Entry → Level
  inner_level part name None = lowest
  inner_level part name (Some inner) = pin_level levels part.connections (pairs inner.name) inner name

  part_level : List ℕ → Option Part → Level
  part_level name None = lowest
  part_level name (Some part) = inner_level part name (find_chip chips part.chip)

  level_at : List ℕ → List ℕ → Level
  level_at [] name = level_of levels name
  level_at (i ∷ path) name = part_level name (slice_get (parts_of chips chip) i)

  level_is : (i : ℕ) (path name : List ℕ) (part : Part) (inner : Entry) (input : Bool) → slice_get (parts_of chips chip) i ≡ Some part → find_chip chips part.chip ≡ Some inner → is_input inner name ≡ input → level_at (i ∷ path) name ≡ cond input (input_level levels part.connections name) (output_level levels part.connections (pairs inner.name) name)
  unfolding level_at part_level inner_level
  level_is i path name part inner input e f g =
      ap (part_level name) e ∙ ap (inner_level part name) f ∙ ap (λ (b : Bool). cond b (input_level levels part.connections name) (output_level levels part.connections (pairs inner.name) name)) g

  abbrev Rises : List ℕ → List ℕ → List ℕ → List ℕ → Type 0
  Rises p n q m = Lies (level_at p n) (level_at q m)

  end_rises : (e : End) (o : Option End) (n : List ℕ) → o ≡ Some e → elim o [ None ↦ all (part_is_levelled chips pairs levels) (parts_of chips chip) | Some e ↦ end_is_levelled levels e ] ≡ true → reaches_out e n ≡ true → Lies (level_of levels n) (level_of levels (codes "out"))
  end_rises e None n q h r = absurd cc
  end_rises e (Some f) n q h r =
      let same : f ≡ e = cc in
      let told : end_is_levelled levels e ≡ true = sym (ap (end_is_levelled levels) same) ∙ h in
      lies (level_of levels n) (level_of levels (codes "out")) (all_tells (λ pin. is_below (level_of levels pin) (level_of levels (codes "out"))) (reaching e) told n (reaching_told e n r))

  part_told : (o : Option End) (i : ℕ) (part : Part) → end_of chips.memories chip ≡ o → elim o [ None ↦ all (part_is_levelled chips pairs levels) (parts_of chips chip) | Some e ↦ end_is_levelled levels e ] ≡ true → slice_get (parts_of chips chip) i ≡ Some part → part_is_levelled chips pairs levels part ≡ true
  part_told None i part q h e = all_at (part_is_levelled chips pairs levels) (parts_of chips chip) h i part e
  part_told (Some end) i part q h e = let none : slice_get [] i ≡ Some part = ap (λ (x : Option End). slice_get (parts_unless x (parts_of_body chip.chip.body)) i) (sym q) ∙ e in absurd cc

  -- a joint of the chip itself
  record OwnJoint (i : ℕ) (conn : Connection) (w : Selection) (input : Bool) : Type 0 where
    part : Part
    inner : Entry
    j : ℕ
    there : slice_get (parts_of chips chip) i ≡ Some part
    found : find_chip chips part.chip ≡ Some inner
    here : slice_get part.connections j ≡ Some conn
    right : conn.source ≡ source.Net w
    way : is_input inner conn.pin.name ≡ input

  own_joint : (i : ℕ) (conn : Connection) (w : Selection) (k : ℕ) (input : Bool) → IsJoint chips chip [] i conn w k input → OwnJoint i conn w input
  own_joint i conn w k input j =
      let same : chip ≡ j.chip = cc (j.at) in
      record { part = j.part; inner = j.inner; j = j.j; there = ap (λ c. slice_get (parts_of chips c) i) same ∙ j.there; found = j.found; here = j.here; right = j.right; way = j.way }

  down_rises : (i : ℕ) (n m : List ℕ) (b k : ℕ) → Joined chips chip i true (bit_at [] n b) (bit_at (i ∷ []) m k) → Rises [] n (i ∷ []) m
  unfolding level_at
  down_rises i n m b k f =
      let j = own_joint i f.conn f.w f.k true f.joint in
      let n_is : f.w.name ≡ n = sym (ap (λ (x : BitAt). x.name) f.out_is) in
      let m_is : f.conn.pin.name ≡ m = sym (ap (λ (x : BitAt). x.name) f.in_is) in
      let up = input_over levels j.part.connections j.j f.conn f.w j.here j.right in
      let at : Lies (level_of levels f.w.name) (level_at (i ∷ []) f.conn.pin.name) = subst (λ x. Lies (level_of levels f.w.name) x) (sym (level_is i [] f.conn.pin.name j.part j.inner true j.there j.found j.way)) up in
      subst (λ x. Lies (level_of levels x) (level_at (i ∷ []) m)) n_is (subst (λ x. Lies (level_of levels f.w.name) (level_at (i ∷ []) x)) m_is at)

  driven_by : (conns : List Connection) (ps : Pairs) (inner : Entry) (conn : Connection) (w : Selection) (s : Source) (b : Bool) → s ≡ source.Net w → is_input inner conn.pin.name ≡ false → drives_higher levels conns ps inner conn s ≡ true → Lies (output_level levels conns ps conn.pin.name) (level_of levels w.name)
  driven_by conns ps inner conn w s b e way h =
      let told : drives_higher levels conns ps inner conn (source.Net w) ≡ true = sym (ap (drives_higher levels conns ps inner conn) e) ∙ h in
      lies (output_level levels conns ps conn.pin.name) (level_of levels w.name) (sym (ap (λ (x : Bool). x || is_below (output_level levels conns ps conn.pin.name) (level_of levels w.name)) way) ∙ told)

  up_rises : (i : ℕ) (n m : List ℕ) (b k : ℕ) → Joined chips chip i false (bit_at [] m k) (bit_at (i ∷ []) n b) → Rises (i ∷ []) n [] m
  unfolding level_at
  up_rises i n m b k f =
      let j = own_joint i f.conn f.w f.k false f.joint in
      let m_is : f.w.name ≡ m = sym (ap (λ (x : BitAt). x.name) f.out_is) in
      let n_is : f.conn.pin.name ≡ n = sym (ap (λ (x : BitAt). x.name) f.in_is) in
      let told : part_is_levelled chips pairs levels j.part ≡ true = part_told (end_of chips.memories chip) i j.part refl rising j.there in
      let each : inner_is_levelled pairs levels j.part (Some j.inner) ≡ true = sym (ap (inner_is_levelled pairs levels j.part) j.found) ∙ told in
      let here = all_at (λ conn. drives_higher levels j.part.connections (pairs j.inner.name) j.inner conn conn.source) j.part.connections each j.j f.conn j.here in
      let up = driven_by j.part.connections (pairs j.inner.name) j.inner f.conn f.w f.conn.source true j.right j.way here in
      let at : Lies (level_at (i ∷ []) f.conn.pin.name) (level_of levels f.w.name) = subst (λ x. Lies x (level_of levels f.w.name)) (sym (level_is i [] f.conn.pin.name j.part j.inner false j.there j.found j.way)) up in
      subst (λ x. Lies (level_at (i ∷ []) n) (level_of levels x)) m_is (subst (λ x. Lies (level_at (i ∷ []) x) (level_of levels f.w.name)) n_is at)

  -- what an inner chip's outputs depend on is among its pairs
  abbrev Covers : Entry → Type 0
  Covers inner = (n : List ℕ) (b : ℕ) (m : List ℕ) (k : ℕ) → Depends chips inner n b m k → is_pair n m (pairs inner.name) ≡ true

  across_by : (i : ℕ) (n m : List ℕ) (b k : ℕ) (inner : Entry) (o : Option Part) → slice_get (parts_of chips chip) i ≡ o → chip_of chips o ≡ Some inner → Depends chips inner n b m k → is_pair n m (pairs inner.name) ≡ true → Rises (i ∷ []) n (i ∷ []) m
  across_by i n m b k inner None e f d h = absurd cc
  across_by i n m b k inner (Some part) e f d h =
      let from = level_is i [] n part inner true e f (ap is_some d.from.there) in
      let to = level_is i [] m part inner false e f d.apart in
      subst (λ x. Lies x (level_at (i ∷ []) m)) (sym from) (subst (λ x. Lies (input_level levels part.connections n) x) (sym to) (output_over levels part.connections (pairs inner.name) n m h))

  end_step : (n m : List ℕ) → EndReaches chips chip n m → Rises [] n [] m
  unfolding level_at
  end_step n m g = subst (λ x. Lies (level_of levels n) (level_of levels x)) (sym g.named) (end_rises g.e (end_of chips.memories chip) n g.is rising g.reaches)

  rises_at : ((i : ℕ) (inner : Entry) → inner_chip chips chip i ≡ Some inner → Covers inner) → (p q n : List ℕ) (b : ℕ) (m : List ℕ) (k : ℕ) → OwnAt chips chip p q n b m k → Rises p n q m
  rises_at cover [] [] n b m k f = end_step n m f
  rises_at cover [] (i ∷ []) n b m k f = down_rises i n m b k f
  rises_at cover [] (i ∷ j ∷ q) n b m k f = absurd f
  rises_at cover (i ∷ []) [] n b m k f = up_rises i n m b k f
  rises_at cover (i ∷ []) (j ∷ []) n b m k f =
      subst (λ x. Rises (i ∷ []) n (x ∷ []) m) f.same (across_by i n m b k f.inner (slice_get (parts_of chips chip) i) refl f.found f.depends (cover i f.inner f.found n b m k f.depends))
  rises_at cover (i ∷ []) (j ∷ l ∷ q) n b m k f = absurd f
  rises_at cover (i ∷ l ∷ p) q n b m k f = absurd f

  ordered : ((i : ℕ) (inner : Entry) → inner_chip chips chip i ≡ Some inner → Covers inner) → IsOrdered chips chip
  ordered cover = record { rank = λ x. (level_at x.path x.name).rank; rises = λ x y f. (rises_at cover x.path y.path x.name x.bit y.name y.bit f).less }

  kept_along : ((i : ℕ) (inner : Entry) → inner_chip chips chip i ≡ Some inner → Covers inner) → (ms : List BitAt) (x y : BitAt) → Chain (Own chips chip) x ms y → (z : List ℕ) → is_among z (level_at x.path x.name).from ≡ true → is_among z (level_at y.path y.name).from ≡ true
  kept_along cover [] x y f z h = (rises_at cover x.path y.path x.name x.bit y.name y.bit f).kept z h
  kept_along cover (m ∷ ms) x y f z h = kept_along cover ms m y f.1 z ((rises_at cover x.path m.path x.name x.bit m.name m.bit f.0).kept z h)

  covers : ((i : ℕ) (inner : Entry) → inner_chip chips chip i ≡ Some inner → Covers inner) → JointsFit chips chip → Covers chip
  unfolding level_at
  covers cover fit n b m k d =
      let way = own_way chips chip fit n m b k d.way in
      let pins = and_right (steps_rise chips pairs levels chip) pins_good good in
      let starts : is_among n (level_of levels n).from ≡ true = pin_tells (λ name. is_among name (level_of levels name).from) chip.chip.inputs (and_left (all (passes_on levels) chip.chip.inputs) (all (is_told levels (pairs chip.name)) chip.chip.outputs) pins) n d.from.width d.from.there in
      let ends : is_among n (level_of levels m).from ≡ true = kept_along cover way.over (bit_at [] n b) (bit_at [] m k) way.steps n starts in
      let told = pin_tells (λ name. all (λ input. is_pair input name (pairs chip.name)) (level_of levels name).from) chip.chip.outputs (and_right (all (passes_on levels) chip.chip.inputs) (all (is_told levels (pairs chip.name)) chip.chip.outputs) pins) m d.to.width d.to.there in
      all_tells (λ input. is_pair input m (pairs chip.name)) (level_of levels m).from told n ends

-- ---- all chips of a library

module _ (chips : Chips) (pairs : List ℕ → Pairs) (levels : Entry → List (List ℕ × Level)) (clean : AreClean chips) (levelled : AreLevelled chips pairs levels) where
  record Before (entry inner : Entry) : Type 0 where
    place : ℕ
    there : slice_get chips.entries place ≡ Some inner
    before : place_of chips.entries inner.name < place_of chips.entries entry.name

  before_by : (k : ℕ) (entry : Entry) (i : ℕ) (inner : Entry) (o : Option Part) → slice_get chips.entries k ≡ Some entry → slice_get (parts_of chips entry) i ≡ o → chip_of chips o ≡ Some inner → Before entry inner
  before_by k entry i inner None at e f = absurd cc
  before_by k entry i inner (Some part) at e f =
      let p = earlier chips entry i part (clean k entry at) e in
      let same : p.inner ≡ inner = cc (p.found, f) in
      let r = find_in chips.entries part.chip inner f in
      record { place = r.place; there = r.there; before = subst (λ x. place_of chips.entries x.name < place_of chips.entries entry.name) same p.before }

  before : (k : ℕ) (entry : Entry) (i : ℕ) (inner : Entry) → slice_get chips.entries k ≡ Some entry → inner_chip chips entry i ≡ Some inner → Before entry inner
  before k entry i inner at e = before_by k entry i inner (slice_get (parts_of chips entry) i) at refl e

  abbrev Covered : Entry → Type 0
  Covered entry = (n : List ℕ) (b : ℕ) (m : List ℕ) (l : ℕ) → Depends chips entry n b m l → is_pair n m (pairs entry.name) ≡ true

  covered : (d k : ℕ) (entry : Entry) → slice_get chips.entries k ≡ Some entry → place_of chips.entries entry.name < d → Covered entry
  covered zero k entry at lt = absurd (omega (arith, lt))
  covered (suc d) k entry at lt =
      covers chips pairs entry (levels entry) (levelled k entry at)
      (λ i inner e. let p = before k entry i inner at e in covered d p.place inner p.there (omega (arith, p.before, lt)))
      (tree_fits chips (entry.name ∷ []) entry (clean_faultless chips clean k entry at) [] entry refl)

  all_covered : (k : ℕ) (entry : Entry) → slice_get chips.entries k ≡ Some entry → Covered entry
  all_covered k entry at = covered (suc (place_of chips.entries entry.name)) k entry at (omega arith)

  in_order : (k : ℕ) (entry : Entry) → slice_get chips.entries k ≡ Some entry → IsOrdered chips entry
  in_order k entry at = ordered chips pairs entry (levels entry) (levelled k entry at) (λ i inner e. let p = before k entry i inner at e in all_covered p.place inner p.there)

  order_along : (path : List ℕ) (k : ℕ) (entry chip : Entry) → slice_get chips.entries k ≡ Some entry → chip_at chips entry path ≡ Some chip → IsOrdered chips chip
  order_along [] k entry chip at e = let same : entry ≡ chip = cc in subst (λ x. IsOrdered chips x) same (in_order k entry at)
  order_along (i ∷ path) k entry chip at e =
      let a = at_part chips entry i path chip e in
      let p = before k entry i a.inner at a.found in
      order_along path p.place a.inner chip p.there a.rest

  all_loopless : (k : ℕ) (entry : Entry) → slice_get chips.entries k ≡ Some entry → IsLoopless chips pairs entry
  all_loopless k entry at = record {
    no_loop = ordered_no_loop chips entry (tree_fits chips (entry.name ∷ []) entry (clean_faultless chips clean k entry at)) (λ path chip e. order_along path k entry chip at e);
    depends = all_covered k entry at;
  }

pub loopless : (chips : Chips) (pairs : List ℕ → Pairs) (levels : Entry → List (List ℕ × Level)) → AreClean chips → AreLevelled chips pairs levels → (i : ℕ) (entry : Entry) → slice_get chips.entries i ≡ Some entry → IsLoopless chips pairs entry
loopless chips pairs levels clean levelled i entry at = all_loopless chips pairs levels clean levelled i entry at
