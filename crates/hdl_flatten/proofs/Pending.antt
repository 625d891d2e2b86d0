-- Chips are begun, go on and are put.
use Rattle.std.proofs.Common.{◌≡◌, ℕ, zero, suc, ◌+◌, ◌<◌, ◌≤◌, List, [], ◌∷◌, ◌++◌, length, length-append, map, get_or, Option, Some, None, refl, sym, ap, subst, ◌∙◌, arith}
use Rattle.std.specs.Prelude.{slice_get, sum_by}
use Rattle.std.proofs.lemmas.Option.{slice_get_within}
use Rattle.std.proofs.lemmas.List.Sums.{sum_by-cons}
use Rattle.hdl_tree.specs.declared.tree.Part.{Part}
use Rattle.hdl_tree.specs.declared.ends.End.{End}
use Rattle.hdl_tree.specs.Chips.{Chips, parts_of}
use Rattle.hdl_check.specs.Inner.Stacks.{from_bottom}
use Rattle.hdl_check.proofs.Stacks.{top_of}
use Rattle.hdl_flatten.specs.declared.wires.Origin.{Origin}
use Rattle.hdl_flatten.specs.declared.plan.Plan.{Plan}
use Rattle.hdl_flatten.specs.declared.plan.PartPlan.{PartPlan}
use Rattle.hdl_flatten.specs.declared.flat.PartAt.{PartAt}
use Rattle.hdl_flatten.specs.declared.flat.Growing.{Growing}
use Rattle.hdl_flatten.specs.declared.flat.Unfinished.{Unfinished}
use Rattle.hdl_flatten.specs.Ends.{EndsHavePins}
use Rattle.hdl_flatten.specs.Flat.{block_at}
use Rattle.hdl_flatten.specs.Inner.Feeds.{feed_origins}
use Rattle.hdl_flatten.specs.Inner.Plans.{ArePlans, HavePlans, places}
use Rattle.hdl_flatten.specs.Inner.Puts.{node_of}
use Rattle.hdl_flatten.specs.Inner.Fed.{nodes_in}
use Rattle.hdl_flatten.specs.Inner.Putting.{MayPut, IsPut, IsGoing}
use Rattle.hdl_flatten.specs.Inner.Unfinished.{Task, IsDone, IsUnfinished, IsPending, ArePending, CanBegin, IsBegunBy, IsBegun, parts_planned, steps_of, steps_left, all_steps}
use Rattle.hdl_flatten.proofs.Putting.{all_put, none_put, end_fed, end_put, plan_there, Head, head_next, head_put}

pub head_there : (chips : Chips) (plans : List Plan) (place : ℕ) (plan : Plan) (inputs : List ℕ) (old now : Growing) (q : PartPlan) (qs : List PartPlan) (h : Head chips plans place plan inputs old now q qs) (y : Plan) → y ≡ get_or plans q.place y → slice_get plans q.place ≡ Some y
head_there chips plans place plan inputs old now q qs h y is =
    let next = head_next chips plans place plan inputs old now q qs h in
    (plan_there plans q.place next.x y next.has.at is).0

pub may_begin : (chips : Chips) (plans : List Plan) (place : ℕ) (plan : Plan) (inputs : List ℕ) (old : Growing) → ArePlans chips plans → EndsHavePins chips → MayPut plans place inputs old → plan ≡ get_or plans place plan → CanBegin plan inputs old
may_begin chips plans place plan inputs old are pins m is =
    let at = plan_there plans place m.plan plan m.there is in
    let few = m.few in
    let room = m.room in
    record { fed = λ e ends. end_fed chips plans place plan e inputs (are place plan at.0) pins ends (m.long ∙ ap (λ (x : Plan). length x.inputs.items) at.1); few = omega (arith, few, room) }

pub nodes_are : (os : List Origin) (base old : ℕ) (inputs nodes : List ℕ) → nodes ≡ map (node_of base inputs) os → base ≡ old → nodes ≡ map (node_of old inputs) os
nodes_are os base old inputs nodes e g = e ∙ ap (λ n. map (node_of n inputs) os) g

module _ (chips : Chips) (plans : List Plan) (are : ArePlans chips plans) (pins : EndsHavePins chips) (task : Task) where
  -- ---- a chip is begun

  pub entered : (place : ℕ) (plan : Plan) (inputs : List ℕ) (old new : Growing) (stack before after : List Unfinished) → slice_get plans place ≡ Some plan → length inputs ≡ length plan.inputs.items → length old.nodes.items + plan.size.nodes ≤ 16777216 → length old.blocks.items ≤ length old.nodes.items →
      before ≡ from_bottom stack → ((x : Growing) → IsPut chips plan inputs old x → IsPending chips plans task stack x) → (o : Option End) → plan.end ≡ o → IsBegunBy o plan inputs old new before after → ArePending chips plans task after new
  entered place plan inputs old new stack before after there long room few items goes_on (Some e) is b = record {
    stack = stack;
    items_are = b.1 ∙ items;
    pending = goes_on new (end_put chips plans place plan e inputs old new are pins there is long few b.0.nodes b.0.blocks b.0.parts);
  }
  entered place plan inputs old new stack before after there long room few items goes_on None is b =
      let u = b.1.chip in
      let p = are place plan there in
      let begun : IsUnfinished chips plans old u = record {
        place = place;
        plan = plan;
        old = old;
        there = there;
        none = is;
        long = ap length b.1.inputs_are ∙ long;
        room = room;
        base_is = b.1.base_is;
        going = subst (λ (t : List PartPlan). IsGoing chips plans place plan (nodes_in u.inputs) old old t) (sym b.1.rest_is) (none_put chips plans place plan (nodes_in u.inputs) old p (sym p.is_end ∙ is) few);
      } in
      record {
        stack = u ∷ stack;
        items_are = b.1.longer ∙ ap (λ t. t ++ u ∷ []) items;
        pending = subst (λ (g : Growing). IsPending chips plans task (u ∷ stack) g) (sym b.0) (begun, λ x put. goes_on x (subst (λ (is : List ℕ). IsPut chips plan is old x) b.1.inputs_are put));
      }

  pub entered_next : (place : ℕ) (plan : Plan) (inputs : List ℕ) (old new : Growing) (stack before after : List Unfinished) → MayPut plans place inputs old → plan ≡ get_or plans place plan → before ≡ from_bottom stack → ((x : Growing) → IsPut chips plan inputs old x → IsPending chips plans task stack x) →
      IsBegun plan inputs old new before after → ArePending chips plans task after new
  entered_next place plan inputs old new stack before after m is items goes_on b =
      let at = plan_there plans place m.plan plan m.there is in
      entered place plan inputs old new stack before after at.0 (m.long ∙ ap (λ (x : Plan). length x.inputs.items) at.1) (subst (λ (x : Plan). length old.nodes.items + x.size.nodes ≤ 16777216) at.1 m.room) m.few items goes_on plan.end refl b

  -- ---- a chip goes on

  pub head : (flat : Growing) (u : Unfinished) (o : IsUnfinished chips plans flat u) (q : PartPlan) (qs : List PartPlan) → u.rest.now ≡ q ∷ qs → Head chips plans o.place o.plan (nodes_in u.inputs) o.old flat q qs
  head flat u o q qs e = record { are = are; pins = pins; there = o.there; long = o.long; room = o.room; going = subst (λ (t : List PartPlan). IsGoing chips plans o.place o.plan (nodes_in u.inputs) o.old flat t) e o.going }

  pub further : (flat mid new : Growing) (u v : Unfinished) (o : IsUnfinished chips plans flat u) (q : PartPlan) (qs : List PartPlan) (h : Head chips plans o.place o.plan (nodes_in u.inputs) o.old flat q qs) (y : Plan) → y ≡ get_or plans q.place y → (nodes : List ℕ) (listed : PartAt) → v.base ≡ u.base → (nodes_in v.inputs) ≡ (nodes_in u.inputs) → v.rest.now ≡ qs →
      nodes ≡ map (node_of (length o.old.nodes.items) (nodes_in u.inputs)) (feed_origins q.feeds) → mid.nodes.items ≡ flat.nodes.items → mid.blocks.items ≡ flat.blocks.items → mid.parts ≡ flat.parts ++ listed ∷ [] →
      listed.chip ≡ y.entry.now.name → listed.outs ≡ map (node_of (length flat.nodes.items) nodes) y.outs.items → listed.block ≡ block_at y.end (length flat.blocks.items) → ((x : Plan) → slice_get plans q.place ≡ Some x → IsPut chips x nodes mid new) → IsUnfinished chips plans new v
  further flat mid new u v o q qs h y is nodes listed base inputs rest fed at_nodes at_blocks at_parts name outs block put = record {
    place = o.place;
    plan = o.plan;
    old = o.old;
    there = o.there;
    none = o.none;
    long = ap length inputs ∙ o.long;
    room = o.room;
    base_is = base ∙ o.base_is;
    going = subst (λ (is : List ℕ). IsGoing chips plans o.place o.plan is o.old new v.rest.now) (sym inputs) (subst (λ (t : List PartPlan). IsGoing chips plans o.place o.plan (nodes_in u.inputs) o.old new t) (sym rest)
        (head_put chips plans o.place o.plan (nodes_in u.inputs) o.old flat q qs h y is nodes mid new listed fed at_nodes at_blocks at_parts name outs block put));
  }

  pub carried : (flat mid new : Growing) (u v : Unfinished) (us : List Unfinished) (o : IsUnfinished chips plans flat u) (q : PartPlan) (qs : List PartPlan) (h : Head chips plans o.place o.plan (nodes_in u.inputs) o.old flat q qs) (y : Plan) → y ≡ get_or plans q.place y → (nodes : List ℕ) (listed : PartAt) → v.base ≡ u.base → (nodes_in v.inputs) ≡ (nodes_in u.inputs) → v.rest.now ≡ qs →
      nodes ≡ map (node_of (length o.old.nodes.items) (nodes_in u.inputs)) (feed_origins q.feeds) → mid.nodes.items ≡ flat.nodes.items → mid.blocks.items ≡ flat.blocks.items → mid.parts ≡ flat.parts ++ listed ∷ [] →
      listed.chip ≡ y.entry.now.name → listed.outs ≡ map (node_of (length flat.nodes.items) nodes) y.outs.items → listed.block ≡ block_at y.end (length flat.blocks.items) → ((x : Growing) → IsPut chips o.plan (nodes_in u.inputs) o.old x → IsPending chips plans task us x) → IsPut chips y nodes mid new → IsPending chips plans task (v ∷ us) new
  unfolding further
  carried flat mid new u v us o q qs h y is nodes listed base inputs rest fed at_nodes at_blocks at_parts name outs block goes_on put =
      let there = head_there chips plans o.place o.plan (nodes_in u.inputs) o.old flat q qs h y is in (
        further flat mid new u v o q qs h y is nodes listed base inputs rest fed at_nodes at_blocks at_parts name outs block
            (λ x at. let both : Some y ≡ Some x = sym there ∙ at in let same : y ≡ x = cc in subst (λ (z : Plan). IsPut chips z nodes mid new) same put),
        λ x whole. goes_on x (subst (λ (is : List ℕ). IsPut chips o.plan is o.old x) inputs whole),
      )

  -- ---- a chip is put

  pub finished : (flat : Growing) (u : Unfinished) (stack : List Unfinished) (o : IsUnfinished chips plans flat u) → u.rest.now ≡ [] → ((new : Growing) → IsPut chips o.plan (nodes_in u.inputs) o.old new → IsPending chips plans task stack new) → IsPending chips plans task stack flat
  finished flat u stack o e goes_on =
      let p = are o.place o.plan o.there in
      goes_on flat (all_put chips plans o.place o.plan (nodes_in u.inputs) o.old flat u.rest.now are pins (sym p.is_end ∙ o.none) o.room e o.going)

-- ---- the chip on top

pub record OnTop (chips : Chips) (plans : List Plan) (task : Task) (items : List Unfinished) (u : Unfinished) (flat : Growing) : Type 0 where
  pub below : List Unfinished
  pub items_are : items ≡ from_bottom below
  pub pending : IsPending chips plans task (u ∷ below) flat

pub on_top : (chips : Chips) (plans : List Plan) (task : Task) (items : List Unfinished) (u : Unfinished) (flat : Growing) → ArePending chips plans task (items ++ u ∷ []) flat → OnTop chips plans task items u flat
on_top chips plans task items u flat a =
    let t = top_of a.stack items u a.items_are in
    record { below = t.below; items_are = t.items; pending = subst (λ (us : List Unfinished). IsPending chips plans task us flat) t.is a.pending }

none_left : (stack : List Unfinished) → length (from_bottom stack) ≡ 0 → stack ≡ []
none_left [] h = refl
none_left (u ∷ us) h = absurd (omega (arith, h, length-append (from_bottom us) (u ∷ [])))

pub nothing_left : (chips : Chips) (plans : List Plan) (task : Task) (items : List Unfinished) (flat : Growing) → length items ≡ 0 → ArePending chips plans task items flat → IsDone chips plans task flat
nothing_left chips plans task items flat e a = subst (λ (us : List Unfinished). IsPending chips plans task us flat) (none_left a.stack (ap length (sym a.items_are) ∙ e)) a.pending

-- ---- the measure

abbrev pub AllBelow : ℕ → List ℕ → Type 0
AllBelow i [] = Unit {0}
AllBelow i (r ∷ rs) = (r < i) × AllBelow i rs

have_below : (chips : Chips) (plans : List Plan) (i : ℕ) (ps : List Part) (xs : List Plan) (rs : List ℕ) → HavePlans chips plans i ps xs rs → AllBelow i rs
have_below chips plans i [] [] [] h = tt
have_below chips plans i [] [] (r ∷ rs) h = absurd h
have_below chips plans i [] (x ∷ xs) rs h = absurd h
have_below chips plans i (p ∷ ps) [] rs h = absurd h
have_below chips plans i (p ∷ ps) (x ∷ xs) [] h = absurd h
have_below chips plans i (p ∷ ps) (x ∷ xs) (r ∷ rs) h = (h.0.before, have_below chips plans i ps xs rs h.1)

same_sum : (f g : ℕ → ℕ) (i : ℕ) (rs : List ℕ) → AllBelow i rs → ((r : ℕ) → r < i → f r ≡ g r) → sum_by f rs ≡ sum_by g rs
same_sum f g i [] h e = refl
same_sum f g i (r ∷ rs) h e =
    let a = sum_by-cons f r rs in
    let b = sum_by-cons g r rs in
    let one = e r h.0 in
    let more = same_sum f g i rs h.1 e in
    omega (arith, a, b, one, more)

module _ (chips : Chips) (plans : List Plan) (are : ArePlans chips plans) where
  planned_below : (place : ℕ) (o : Option Plan) → slice_get plans place ≡ o → AllBelow place (places (parts_planned o))
  planned_below place None e = tt
  planned_below place (Some x) e = let p = are place x e in have_below chips plans place (parts_of chips x.entry.now) p.inner (places x.parts.items) p.placed

  stable : (d place : ℕ) → place < d → steps_of d plans place ≡ steps_of (suc d) plans place
  stable zero place lt = absurd (omega (arith, lt))
  stable (suc d) place lt =
      ap (λ n. 2 + n) (same_sum (steps_of d plans) (steps_of (suc d) plans) place (places (parts_planned (slice_get plans place))) (planned_below place (slice_get plans place) refl)
      (λ r below. stable d r (omega (arith, lt, below))))

  -- a chip takes two steps more than its parts
  pub steps_are : (n place : ℕ) (plan : Plan) → n ≡ length plans → slice_get plans place ≡ Some plan → steps_of n plans place ≡ 2 + steps_left n plans plan.parts.items
  steps_are zero place plan long there = absurd (omega (arith, long, slice_get_within plans place plan there))
  steps_are (suc n) place plan long there =
      let lt : place < suc n = omega (arith, long, slice_get_within plans place plan there) in
      ap (λ (o : Option Plan). 2 + sum_by (steps_of n plans) (places (parts_planned o))) there
      ∙ ap (λ m. 2 + m) (same_sum (steps_of n plans) (steps_of (suc n) plans) place (places plan.parts.items) (planned_below place (Some plan) there) (λ r below. stable n r (omega (arith, lt, below))))

all_steps-append : (plans : List Plan) (us vs : List Unfinished) → all_steps plans (us ++ vs) ≡ all_steps plans us + all_steps plans vs
all_steps-append plans [] vs = omega arith
all_steps-append plans (u ∷ us) vs = let i = all_steps-append plans us vs in omega (arith, i)

pub one_less : (plans : List Plan) (us : List Unfinished) (u : Unfinished) → all_steps plans us < all_steps plans (us ++ u ∷ [])
one_less plans us u = let a = all_steps-append plans us (u ∷ []) in omega (arith, a)

-- a chip that is begun takes less than the part did
begun_by : (chips : Chips) (plans : List Plan) (are : ArePlans chips plans) (place : ℕ) (plan : Plan) (inputs : List ℕ) (old new : Growing) (before after : List Unfinished) → slice_get plans place ≡ Some plan → (o : Option End) → IsBegunBy o plan inputs old new before after → all_steps plans after < all_steps plans before + steps_of (length plans) plans place
begun_by chips plans are place plan inputs old new before after there (Some e) b =
    let s = steps_are chips plans are (length plans) place plan refl there in
    let same = ap (all_steps plans) b.1 in
    omega (arith, s, same)
begun_by chips plans are place plan inputs old new before after there None b =
    let s = steps_are chips plans are (length plans) place plan refl there in
    let longer = ap (all_steps plans) b.1.longer ∙ all_steps-append plans before (b.1.chip ∷ []) in
    let rest = ap (steps_left (length plans) plans) b.1.rest_is in
    omega (arith, s, longer, rest)

pub step_less : (chips : Chips) (plans : List Plan) (are : ArePlans chips plans) (items after : List Unfinished) (u v : Unfinished) (q : PartPlan) (qs : List PartPlan) (y : Plan) (inputs : List ℕ) (old new : Growing) → slice_get plans q.place ≡ Some y → u.rest.now ≡ q ∷ qs → v.rest.now ≡ qs → IsBegun y inputs old new (items ++ v ∷ []) after → all_steps plans after < all_steps plans (items ++ u ∷ [])
step_less chips plans are items after u v q qs y inputs old new there rest others begun =
    let less = begun_by chips plans are q.place y inputs old new (items ++ v ∷ []) after there y.end begun in
    let a = all_steps-append plans items (u ∷ []) in
    let b = all_steps-append plans items (v ∷ []) in
    let n = length plans in
    let e : steps_left n plans u.rest.now ≡ steps_of n plans q.place + steps_left n plans qs = ap (steps_left n plans) rest ∙ sum_by-cons (steps_of n plans) q.place (places qs) in
    let f : steps_left n plans v.rest.now ≡ steps_left n plans qs = ap (steps_left n plans) others in
    omega (arith, less, a, b, e, f)
