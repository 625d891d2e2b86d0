-- Chips that are put one after another.
use Rattle.std.proofs.Common.{◌≡◌, ℕ, zero, suc, ◌+◌, ◌<◌, ◌≤◌, ◌⊎◌, inl, inr, Bool, true, false, cond, take, drop, get_or, Result, Ok, Err, OnOk, List, [], ◌∷◌, ◌++◌, length, length-append, Option, Some, None, map, refl, sym, ap, subst, ◌∙◌, arith}
use Rattle.std.specs.Prelude.{slice_get, slice_index, slice_index_or, unwrap_or}
use Rattle.std.specs.List.{All}
use Rattle.hdl_tree.specs.declared.tree.Part.{Part}
use Rattle.hdl_tree.specs.declared.library.Entry.{Entry}
use Rattle.hdl_tree.specs.declared.ends.End.{End}
use Rattle.hdl_tree.specs.declared.ends.End.TheVariants as ends
use Rattle.hdl_tree.specs.declared.ends.Memories.{Memories}
use Rattle.netlist.specs.declared.node.Node.TheVariants as nodes
use Rattle.std.proofs.lemmas.List.Elements.{All-append}
use Rattle.std.proofs.lemmas.Option.{slice_get_read, slice_get_within}
use Rattle.hdl_flatten.proofs.EndsPlaced.{end_placed}
use Rattle.hdl_tree.specs.Chips.{Chips, end_of, end_of_shipped, end_named, parts_of, parts_of_body, parts_unless}
use Rattle.hdl_tree.specs.Behaviour.{Wires}
use Rattle.hdl_check.specs.Tables.{BitOf}
use Rattle.netlist.specs.Net.{Net}
use Rattle.hdl_flatten.specs.declared.size.Size.{Size}
use Rattle.hdl_flatten.specs.declared.wires.Origin.{Origin}
use Rattle.hdl_flatten.specs.declared.wires.Origin.TheVariants.{Low, High, Input, Gate}
use Rattle.netlist.specs.Order.{HasInputs}
use Rattle.netlist.specs.declared.node.Node.{Node}
use Rattle.netlist.specs.declared.node.Block.{Block}
use Rattle.hdl_check.specs.Faults.{ports_of}
use Rattle.hdl_flatten.specs.declared.plan.Plan.{Plan}
use Rattle.hdl_flatten.specs.declared.plan.PartPlan.{PartPlan}
use Rattle.hdl_flatten.specs.declared.flat.PartAt.{PartAt}
use Rattle.hdl_flatten.specs.declared.flat.Growing.{Growing}
use Rattle.hdl_flatten.specs.Trees.{end_nodes, PartIn, AreListed, none, next, within, all_bits, capped_count, chip_nodes, part_nodes}
use Rattle.hdl_flatten.specs.Flat.{Reads, nodes_at, block_at, part_at}
use Rattle.hdl_flatten.specs.Ends.{end_inputs, EndsHavePins}
use Rattle.hdl_flatten.specs.Inner.Sizes.{joined_size}
use Rattle.hdl_flatten.specs.Inner.Feeds.{feed_origins, FewAre}
use Rattle.hdl_flatten.specs.Inner.Fed.{MayFeed}
use Rattle.hdl_flatten.specs.declared.feeds.Feeds.{Feeds}
use Rattle.hdl_flatten.specs.declared.feeds.Feeds.TheVariants as feeds
use Rattle.hdl_flatten.specs.Inner.Plans.{ArePlans, IsPlanned, IsPartPlan, HasPlan, HavePlans, ArePartPlans, all_sized, part_entries, all_fed, own_size, places}
use Rattle.hdl_flatten.specs.Inner.Puts.{node_of, EndPut, IsPlaced}
use Rattle.hdl_flatten.specs.Inner.Wired.{bit_of, wires_of, origin_at, origins_at}
use Rattle.hdl_flatten.specs.Inner.Putting.{IsWithin, AreWithin, pins, words, end_puts, end_blocks, rom_of, memory_of, IsEndFed, MayPut, Longer, ReadsBelow, HasWords, IsPut, Instance, listed_by, tree_of, IsInstance, AreInstances, no_more, one_more, IsGoing}
use Rattle.hdl_flatten.proofs.Lists.{assoc, nil_after, get_front, get_behind, get_last}
use Rattle.hdl_flatten.proofs.Composite.{composite}
use Rattle.hdl_flatten.proofs.Words.{length_words, length_pins, end_words}
use Rattle.hdl_flatten.proofs.Within.{widths, length_all, sized_grows, chip_within, with_origins, with_all_fed}
use Rattle.hdl_flatten.proofs.Planning.{length_map}
use Rattle.hdl_flatten.proofs.Sizing.{part_nodes-append, part_nodes-within, nodes_sum, told_small, end_small}

-- ---- what is longer

pub longer_none : {X : Type 0} (xs : List X) → Longer xs xs
longer_none xs = record { more = []; longer = sym (nil_after xs) }

pub longer_more : {X : Type 0} (a b c : List X) → Longer a b → Longer b c → Longer a c
longer_more a b c f g = record { more = f.more ++ g.more; longer = g.longer ∙ ap (λ t. t ++ g.more) f.longer ∙ assoc a f.more g.more }

pub longer_length : {X : Type 0} (a b : List X) → Longer a b → length a ≤ length b
longer_length a b f = let e = ap length f.longer in let g = length-append a f.more in omega (arith, e, g)

-- ---- instances

-- the instance at a place, if there is one
abbrev pub no_instance : Entry → Instance
no_instance chip = record { chip = chip; tree = []; block = λ path. 0; at = λ path name bit. 0 }

abbrev pub instance_at : Entry → List Instance → ℕ → Instance
instance_at chip [] j = no_instance chip
instance_at chip (s ∷ ss) zero = s
instance_at chip (s ∷ ss) (suc j) = instance_at chip ss j

module _ (chips : Chips) (net : Net) (base : ℕ) (inputs : List ℕ) where
  instance_there : (chip : Entry) (ps : List Part) (xs : List Plan) (qs : List PartPlan) (ss : List Instance) → AreInstances chips net base inputs ps xs qs ss → (j : ℕ) (x : Plan) (q : PartPlan) → slice_get xs j ≡ Some x → slice_get qs j ≡ Some q →
      IsPlaced chips net x (base + q.offset) (map (node_of base inputs) (feed_origins q.feeds)) (instance_at chip ss j).block (instance_at chip ss j).at
  instance_there chip [] [] [] [] no_more j x q e f = absurd cc
  instance_there chip [] [] [] (s ∷ ss) h j x q e f = elim h [ ]
  instance_there chip [] [] (r ∷ rs) ss h j x q e f = elim h [ ]
  instance_there chip [] (y ∷ ys) qs ss h j x q e f = elim h [ ]
  instance_there chip (p ∷ ps) [] qs ss h j x q e f = elim h [ ]
  instance_there chip (p ∷ ps) (y ∷ ys) [] ss h j x q e f = elim h [ ]
  instance_there chip (p ∷ ps) (y ∷ ys) (r ∷ rs) [] h j x q e f = elim h [ ]
  instance_there chip (p ∷ ps) (y ∷ ys) (r ∷ rs) (s ∷ ss) (one_more one more) zero x q e f =
      let same_x : y ≡ x = cc in
      let same_q : r ≡ q = cc in
      subst (λ (z : Plan). IsPlaced chips net z (base + q.offset) (map (node_of base inputs) (feed_origins q.feeds)) s.block s.at) same_x
      (subst (λ (z : PartPlan). IsPlaced chips net y (base + z.offset) (map (node_of base inputs) (feed_origins z.feeds)) s.block s.at) same_q one.placed)
  instance_there chip (p ∷ ps) (y ∷ ys) (r ∷ rs) (s ∷ ss) (one_more one more) (suc j) x q e f = instance_there chip ps ys rs ss more j x q e f

  instances_listed : (i : ℕ) (ps : List Part) (xs : List Plan) (qs : List PartPlan) (ss : List Instance) → AreInstances chips net base inputs ps xs qs ss → AreListed chips i ps (tree_of i ss)
  instances_listed i [] [] [] [] no_more = none
  instances_listed i [] [] [] (s ∷ ss) h = elim h [ ]
  instances_listed i [] [] (q ∷ qs) ss h = elim h [ ]
  instances_listed i [] (x ∷ xs) qs ss h = elim h [ ]
  instances_listed i (p ∷ ps) [] qs ss h = elim h [ ]
  instances_listed i (p ∷ ps) (x ∷ xs) [] ss h = elim h [ ]
  instances_listed i (p ∷ ps) (x ∷ xs) (q ∷ qs) [] h = elim h [ ]
  instances_listed i (p ∷ ps) (x ∷ xs) (q ∷ qs) (s ∷ ss) (one_more one more) = next one.found one.listed (instances_listed (suc i) ps xs qs ss more)

  instances_counted : (i : ℕ) (size : Size) (ps : List Part) (xs : List Plan) (qs : List PartPlan) (ss : List Instance) → AreInstances chips net base inputs ps xs qs ss → size.nodes ≤ 1000000000 → (all_sized size xs).nodes ≡ capped_count (size.nodes + part_nodes chips (tree_of i ss))
  instances_counted i size [] [] [] [] no_more small = omega (arith, small)
  instances_counted i size [] [] [] (s ∷ ss) h small = elim h [ ]
  instances_counted i size [] [] (q ∷ qs) ss h small = elim h [ ]
  instances_counted i size [] (x ∷ xs) qs ss h small = elim h [ ]
  instances_counted i size (p ∷ ps) [] qs ss h small = elim h [ ]
  instances_counted i size (p ∷ ps) (x ∷ xs) [] ss h small = elim h [ ]
  instances_counted i size (p ∷ ps) (x ∷ xs) (q ∷ qs) [] h small = elim h [ ]
  instances_counted i size (p ∷ ps) (x ∷ xs) (q ∷ qs) (s ∷ ss) (one_more one more) small =
      let rest = tree_of (suc i) ss in
      let nodes_are : part_nodes chips (within i s.tree ++ rest) ≡ part_nodes chips s.tree + part_nodes chips rest =
      part_nodes-append chips (within i s.tree) rest ∙ ap (λ n. n + part_nodes chips rest) (part_nodes-within chips i s.tree) in
      instances_counted (suc i) (joined_size size x.size) ps xs qs ss more (told_small _)
      ∙ nodes_sum size.nodes x.size.nodes (chip_nodes chips s.chip) (part_nodes chips s.tree) (part_nodes chips rest) (part_nodes chips (within i s.tree ++ rest)) one.counted nodes_are

-- the directory
pub map_both : {X Y : Type 0} (f : X → Y) (a b : List X) → map f (a ++ b) ≡ map f a ++ map f b
map_both f [] b = refl
map_both f (x ∷ a) b = ap (λ t. f x ∷ t) (map_both f a b)

listed_within : (chips : Chips) (at : List ℕ → Wires ℕ) (block : List ℕ → ℕ) (i : ℕ) (tree : List PartIn) → map (part_at chips at block) (within i tree) ≡ map (part_at chips (λ path. at (i ∷ path)) (λ path. block (i ∷ path))) tree
listed_within chips at block i [] = refl
listed_within chips at block i (p ∷ tree) = ap (λ (t : List PartAt). part_at chips at block (record { path = i ∷ p.path; chip = p.chip }) ∷ t) (listed_within chips at block i tree)

instances_are : (chips : Chips) (chip : Entry) (at : List ℕ → Wires ℕ) (block : List ℕ → ℕ) (i : ℕ) (ss : List Instance) → ((j k : ℕ) → k ≡ i + j → (λ path. at (k ∷ path)) ≡ (instance_at chip ss j).at) → ((j k : ℕ) → k ≡ i + j → (λ path. block (k ∷ path)) ≡ (instance_at chip ss j).block) →
    map (part_at chips at block) (tree_of i ss) ≡ listed_by chips ss
instances_are chips chip at block i [] f g = refl
instances_are chips chip at block i (s ∷ ss) f g =
    let f0 : (λ path. at (i ∷ path)) ≡ s.at = f 0 i (omega arith) in
    let g0 : (λ path. block (i ∷ path)) ≡ s.block = g 0 i (omega arith) in
    let rest = instances_are chips chip at block (suc i) ss (λ j k e. f (suc j) k (omega (arith, e))) (λ j k e. g (suc j) k (omega (arith, e))) in
    let inner : map (part_at chips at block) (within i s.tree) ≡ map (part_at chips s.at s.block) s.tree =
    listed_within chips at block i s.tree ∙ ap (λ (w : List ℕ → Wires ℕ). map (part_at chips w (λ path. block (i ∷ path))) s.tree) f0 ∙ ap (λ (w : List ℕ → ℕ). map (part_at chips s.at w) s.tree) g0 in
    let head : part_at chips at block (record { path = i ∷ []; chip = s.chip }) ≡ part_at chips s.at s.block (record { path = []; chip = s.chip }) =
    ap (λ (w : List ℕ → Wires ℕ). part_at chips w (λ path. block (i ∷ path)) (record { path = []; chip = s.chip })) f0 ∙ ap (λ (w : List ℕ → ℕ). part_at chips s.at w (record { path = []; chip = s.chip })) g0 in
    ap (λ (t : List PartAt). part_at chips at block (record { path = i ∷ []; chip = s.chip }) ∷ t) (map_both (part_at chips at block) (within i s.tree) (tree_of (suc i) ss) ∙ ap (λ (t : List PartAt). t ++ map (part_at chips at block) (tree_of (suc i) ss)) inner ∙ ap (λ (t : List PartAt). map (part_at chips s.at s.block) s.tree ++ t) rest)
    ∙ ap (λ (y : PartAt). y ∷ (map (part_at chips s.at s.block) s.tree ++ listed_by chips ss)) head

listed_more : (chips : Chips) (ss : List Instance) (s : Instance) → listed_by chips (ss ++ s ∷ []) ≡ listed_by chips ss ++ (part_at chips s.at s.block (record { path = []; chip = s.chip }) ∷ map (part_at chips s.at s.block) s.tree)
listed_more chips [] s = ap (λ (t : List PartAt). part_at chips s.at s.block (record { path = []; chip = s.chip }) ∷ t) (nil_after (map (part_at chips s.at s.block) s.tree))
listed_more chips (z ∷ ss) s =
    ap (λ (t : List PartAt). part_at chips z.at z.block (record { path = []; chip = z.chip }) ∷ (map (part_at chips z.at z.block) z.tree ++ t)) (listed_more chips ss s)
    ∙ ap (λ (t : List PartAt). part_at chips z.at z.block (record { path = []; chip = z.chip }) ∷ t) (sym (assoc (map (part_at chips z.at z.block) z.tree) (listed_by chips ss) (part_at chips s.at s.block (record { path = []; chip = s.chip }) ∷ map (part_at chips s.at s.block) s.tree)))

-- ---- a chip whose parts are all put

abbrev whole_at : Plan → ℕ → List ℕ → List Instance → List ℕ → Wires ℕ
whole_at plan base inputs ss [] = λ name bit. node_of base inputs (origin_at (wires_of plan.wires) name bit)
whole_at plan base inputs ss (j ∷ path) = (instance_at plan.entry.now ss j).at path

abbrev whole_block : Plan → List Instance → List ℕ → ℕ
whole_block plan ss [] = 0
whole_block plan ss (j ∷ path) = (instance_at plan.entry.now ss j).block path

no_parts : (chips : Chips) (plans : List Plan) (i : ℕ) (ps : List Part) (xs : List Plan) (rs : List ℕ) → HavePlans chips plans i ps xs rs → rs ≡ [] → (ps ≡ []) × (xs ≡ [])
no_parts chips plans i [] [] rs h e = (refl, refl)
no_parts chips plans i [] (x ∷ xs) rs h e = absurd h
no_parts chips plans i (p ∷ ps) [] rs h e = absurd h
no_parts chips plans i (p ∷ ps) (x ∷ xs) [] h e = absurd h
no_parts chips plans i (p ∷ ps) (x ∷ xs) (r ∷ rs) h e = absurd cc

pub all_put : (chips : Chips) (plans : List Plan) (place : ℕ) (plan : Plan) (inputs : List ℕ) (old now : Growing) (rest : List PartPlan) → ArePlans chips plans → EndsHavePins chips → end_of chips.memories plan.entry.now ≡ None → length old.nodes.items + plan.size.nodes ≤ 16777216 → rest ≡ [] → IsGoing chips plans place plan inputs old now rest → IsPut chips plan inputs old now
all_put chips plans place plan inputs old now rest are pins none_is room e g =
    let base = length old.nodes.items in
    let left = no_parts chips plans place g.parts_left g.plans_left (places rest) g.placed (ap places e) in
    let ss = g.done in
    let ps_is : g.parts_left ≡ [] = left.0 in
    let xs_is : g.plans_left ≡ [] = left.1 in
    let stand : (net : Net) → Longer now.nodes.items net.nodes → Longer now.blocks.items net.blocks → AreInstances chips net base inputs (parts_of chips plan.entry.now) g.planned.inner plan.parts.items ss =
    λ net f h. subst (λ (t : List Instance). AreInstances chips net base inputs (parts_of chips plan.entry.now) g.planned.inner plan.parts.items t) (nil_after ss)
    (g.stand net f h [] (subst (λ (ps : List Part). AreInstances chips net base inputs ps g.plans_left rest []) (sym ps_is) (subst (λ (xs : List Plan). AreInstances chips net base inputs [] xs rest []) (sym xs_is) (subst (λ (qs : List PartPlan). AreInstances chips net base inputs [] [] qs []) (sym e) no_more)))) in
    let size_is : g.sum ≡ plan.size = ap (all_sized g.sum) (sym xs_is) ∙ g.whole in
    let small : plan.size.nodes ≤ 16777216 = omega arith in
    let at = whole_at plan base inputs ss in
    let block = whole_block plan ss in
    let here : Net = record { nodes = now.nodes.items; blocks = now.blocks.items } in
    record {
      nodes = g.nodes;
      blocks = g.blocks;
      size = g.size ∙ ap (λ (s : Size). base + s.nodes) size_is;
      few = g.few;
      tree = tree_of 0 ss;
      listed = instances_listed chips here base inputs 0 (parts_of chips plan.entry.now) g.planned.inner plan.parts.items ss (stand here (longer_none now.nodes.items) (longer_none now.blocks.items));
      counted =
          let few = end_small (end_of chips.memories plan.entry.now) in
          ap (λ (s : Size). s.nodes) g.planned.size
          ∙ instances_counted chips here base inputs 0 (own_size chips plan.entry.now) (parts_of chips plan.entry.now) g.planned.inner plan.parts.items ss (stand here (longer_none now.nodes.items) (longer_none now.blocks.items)) (omega (arith, few));
      block = block;
      at = at;
      parts = g.parts ∙ ap (λ (t : List PartAt). old.parts ++ t) (sym (instances_are chips plan.entry.now at block 0 ss (λ j k e. let same : k ≡ j = omega (arith, e) in ap (λ (n : ℕ). (instance_at plan.entry.now ss n).at) same) (λ j k e. let same : k ≡ j = omega (arith, e) in ap (λ (n : ℕ). (instance_at plan.entry.now ss n).block) same)));
      own_block = ap (λ (o : Option End). block_at o 0) none_is ∙ sym (ap (λ (o : Option End). block_at o (length old.blocks.items)) none_is);
      placed = λ net f h. composite chips net plans place plan g.planned are pins none_is small base inputs block at (λ name bit. refl)
          (λ j x q e f2. instance_there chips net base inputs plan.entry.now (parts_of chips plan.entry.now) g.planned.inner plan.parts.items ss (stand net f h) j x q e f2);
      reads = g.reads;
      words = g.words;
    }

-- ---- nothing is put yet

pub none_put : (chips : Chips) (plans : List Plan) (place : ℕ) (plan : Plan) (inputs : List ℕ) (old : Growing) → IsPlanned chips plans place plan → end_of chips.memories plan.entry.now ≡ None → length old.blocks.items ≤ length old.nodes.items → IsGoing chips plans place plan inputs old old plan.parts.items
none_put chips plans place plan inputs old p none_is few =
    let own : own_size chips plan.entry.now ≡ record { nodes = 0; parts = 0 } = ap (λ (o : Option End). record { nodes = end_nodes o; parts = 0 }) none_is in
    record {
      planned = p;
      parts_left = parts_of chips plan.entry.now;
      plans_left = p.inner;
      sum = record { nodes = 0; parts = 0 };
      done = [];
      placed = p.placed;
      planned_left = subst (λ (z : Size). ArePartPlans (wires_of plan.wires) z (parts_of chips plan.entry.now) p.inner plan.parts.items) own p.parts;
      whole = ap (λ (z : Size). all_sized z p.inner) (sym own) ∙ sym p.size;
      size = omega arith;
      nodes = longer_none old.nodes.items;
      blocks = longer_none old.blocks.items;
      few = few;
      parts = sym (nil_after old.parts);
      reads = λ n m a b c d e. e;
      words = λ h. h;
      stand = λ net f h tail t. t;
    }

-- ---- lists of nodes

pub length_nodes : (f : Origin → ℕ) (os : List Origin) → length (map f os) ≡ length os
length_nodes f [] = refl
length_nodes f (o ∷ os) = ap suc (length_nodes f os)

length_origins : (es : List (BitOf × Origin)) (bits : List BitOf) → length (origins_at es bits) ≡ length bits
length_origins es [] = refl
length_origins es (b ∷ bits) = ap suc (length_origins es bits)

outs_are : (base : ℕ) (inputs : List ℕ) (es : List (BitOf × Origin)) (at : Wires ℕ) → ((name : List ℕ) (bit : ℕ) → at name bit ≡ node_of base inputs (origin_at es name bit)) → (bits : List BitOf) → map (node_of base inputs) (origins_at es bits) ≡ nodes_at at bits
outs_are base inputs es at own [] = refl
outs_are base inputs es at own (b ∷ bits) = ap (λ (t : List ℕ). node_of base inputs (origin_at es b.name b.bit) ∷ t) (outs_are base inputs es at own bits) ∙ ap (λ (n : ℕ). n ∷ nodes_at at bits) (sym (own b.name b.bit))

part_is : (a b : PartAt) → a.chip ≡ b.chip → a.outs ≡ b.outs → a.block ≡ b.block → a ≡ b
part_is a b f g h =
    let one : a ≡ record { chip = b.chip; outs = a.outs; block = a.block } = ap (λ (n : List ℕ). record { chip = n; outs = a.outs; block = a.block }) f in
    let two : record { chip = b.chip; outs = a.outs; block = a.block } ≡ record { chip = b.chip; outs = b.outs; block = a.block } = ap (λ (n : List ℕ). record { chip = b.chip; outs = n; block = a.block }) g in
    let three : record { chip = b.chip; outs = b.outs; block = a.block } ≡ b = ap (λ (n : Option ℕ). record { chip = b.chip; outs = b.outs; block = n }) h in
    one ∙ two ∙ three

pub node_below : (base : ℕ) (inputs : List ℕ) (n m k : ℕ) (o : Origin) → length inputs ≡ n → All (λ i. i < k) inputs → 1 < k → base + m ≤ k → IsWithin n m o → node_of base inputs o < k
node_below base inputs n m k Low long a b c h = omega (arith, b)
node_below base inputs n m k High long a b c h = b
node_below base inputs n m k (Input j) long a b c h = a j 0 (omega (arith, long, h))
node_below base inputs n m k (Gate j) long a b c h = omega (arith, c, h)

nodes_below : (base : ℕ) (inputs : List ℕ) (n m k : ℕ) → length inputs ≡ n → All (λ i. i < k) inputs → 1 < k → base + m ≤ k → (os : List Origin) → All (IsWithin n m) os → All (λ i. i < k) (map (node_of base inputs) os)
nodes_below base inputs n m k long a b c [] h j d lt = absurd (omega (arith, lt))
nodes_below base inputs n m k long a b c (o ∷ os) h zero d lt = node_below base inputs n m k o long a b c (h 0 o (omega arith))
nodes_below base inputs n m k long a b c (o ∷ os) h (suc j) d lt = nodes_below base inputs n m k long a b c os (λ i e l. h (suc i) e (omega (arith, l))) j d (omega (arith, lt))

pub wider : (n m k : ℕ) (o : Origin) → m ≤ k → IsWithin n m o → IsWithin n k o
wider n m k Low h f = tt
wider n m k High h f = tt
wider n m k (Input j) h f = f
wider n m k (Gate j) h f = omega (arith, h, f)

pub all_wider : (n m k : ℕ) (os : List Origin) → m ≤ k → All (IsWithin n m) os → All (IsWithin n k) os
all_wider n m k os h f j d lt = wider n m k (slice_index_or os j d) h (f j d lt)

pub may_feed : (n m : ℕ) (f : Feeds) (bits : List BitOf) (es : List (BitOf × Origin)) → m ≤ 16777216 → All (IsWithin n 16777216) (feed_origins f) → FewAre f bits es → AreWithin n m es → MayFeed n f bits
may_feed n m (feeds.All v) bits es small far few good = far
may_feed n m (feeds.Few of_pins w) bits es small far few good =
    (few.0, λ name bit. subst (λ (o : Option Origin). IsWithin n 16777216 (unwrap_or o Low)) (sym (few.1 name bit)) (wider n m 16777216 (origin_at es name bit) small (good name bit)))

-- ---- the next part

pub all_one : {X : Type 0} (P : X → Type 0) (x : X) → P x → All P (x ∷ [])
all_one P x h zero d lt = h
all_one P x h (suc k) d lt = absurd (omega (arith, lt))

pub record NextPart (chips : Chips) (plans : List Plan) (place : ℕ) (plan : Plan) (ps : List Part) (xs : List Plan) (sum : Size) (q : PartPlan) (qs : List PartPlan) : Type 0 where
  pub p : Part
  pub others : List Part
  pub x : Plan
  pub behind : List Plan
  pub parts_are : ps ≡ p ∷ others
  pub plans_are : xs ≡ x ∷ behind
  pub has : HasPlan chips plans place p x q.place
  pub have : HavePlans chips plans place others behind (places qs)
  pub is : IsPartPlan (wires_of plan.wires) sum p x q
  pub are : ArePartPlans (wires_of plan.wires) (joined_size sum x.size) others behind qs

next_of : (chips : Chips) (plans : List Plan) (place : ℕ) (plan : Plan) (ps : List Part) (xs : List Plan) (sum : Size) (q : PartPlan) (qs : List PartPlan) → HavePlans chips plans place ps xs (q.place ∷ places qs) → ArePartPlans (wires_of plan.wires) sum ps xs (q ∷ qs) → NextPart chips plans place plan ps xs sum q qs
next_of chips plans place plan [] [] sum q qs h a = absurd h
next_of chips plans place plan [] (x ∷ xs) sum q qs h a = absurd h
next_of chips plans place plan (p ∷ ps) [] sum q qs h a = absurd h
next_of chips plans place plan (p ∷ ps) (x ∷ xs) sum q qs h a = record { p = p; others = ps; x = x; behind = xs; parts_are = refl; plans_are = refl; has = h.0; have = h.1; is = a.0; are = a.1 }

module _ (chips : Chips) (plans : List Plan) (place : ℕ) (plan : Plan) (inputs : List ℕ) (old now : Growing) (q : PartPlan) (qs : List PartPlan) (are : ArePlans chips plans) (pins : EndsHavePins chips) (there : slice_get plans place ≡ Some plan) (long : length inputs ≡ length plan.inputs.items) (room : length old.nodes.items + plan.size.nodes ≤ 16777216) (g : IsGoing chips plans place plan inputs old now (q ∷ qs)) where
  pub next_part : NextPart chips plans place plan g.parts_left g.plans_left g.sum q qs
  next_part = next_of chips plans place plan g.parts_left g.plans_left g.sum q qs g.placed g.planned_left

  -- the sum is exact
  pub whole_next : all_sized (joined_size g.sum next_part.x.size) next_part.behind ≡ plan.size
  whole_next = ap (all_sized g.sum) (sym next_part.plans_are) ∙ g.whole

  pub fits : ((joined_size g.sum next_part.x.size).nodes ≡ g.sum.nodes + next_part.x.size.nodes) × (g.sum.nodes + next_part.x.size.nodes ≤ plan.size.nodes)
  fits =
      let size = ap (λ (s : Size). s.nodes) whole_next in
      let grows = sized_grows next_part.behind (joined_size g.sum next_part.x.size) (omega (arith, size, room)) in
      (omega (arith, size, grows, room), omega (arith, size, grows, room))

  pub small_part : next_part.x.size.nodes ≤ 16777216
  small_part = let f = fits.1 in omega (arith, f, room)

  pub fed_good : AreWithin (length inputs) plan.size.nodes (part_entries (wires_of plan.wires) next_part.p next_part.x)
  fed_good = with_all_fed (length inputs) plan.size.nodes (wires_of plan.wires) (subst (λ (n : ℕ). AreWithin n plan.size.nodes (wires_of plan.wires)) (sym long) (chip_within chips plans are pins place plan there (omega (arith, room)))) (ports_of next_part.x.entry.now.chip) next_part.p.connections

  pub fed_within : All (IsWithin (length inputs) plan.size.nodes) (feed_origins q.feeds)
  fed_within = subst (λ (os : List Origin). All (IsWithin (length inputs) plan.size.nodes) os) (sym next_part.is.origins)
      (with_origins (length inputs) plan.size.nodes (part_entries (wires_of plan.wires) next_part.p next_part.x) fed_good (map bit_of next_part.x.inputs.items))

  pub fed_long : length (feed_origins q.feeds) ≡ length next_part.x.inputs.items
  fed_long = ap length next_part.is.origins ∙ length_origins (all_fed (wires_of plan.wires) (ports_of next_part.x.entry.now.chip) next_part.p.connections) (map bit_of next_part.x.inputs.items) ∙ length_map next_part.x.inputs.items

  pub outs_within : All (IsWithin (length (feed_origins q.feeds)) next_part.x.size.nodes) next_part.x.outs.items
  outs_within =
      let y = are q.place next_part.x next_part.has.at in
      subst (λ (os : List Origin). All (IsWithin (length (feed_origins q.feeds)) next_part.x.size.nodes) os) (sym y.outs)
      (with_origins (length (feed_origins q.feeds)) next_part.x.size.nodes (wires_of next_part.x.wires) (subst (λ (n : ℕ). AreWithin n next_part.x.size.nodes (wires_of next_part.x.wires)) (sym fed_long) (chip_within chips plans are pins q.place next_part.x next_part.has.at small_part)) (all_bits next_part.x.entry.now.chip.outputs))

  pub may_put : (nodes : List ℕ) (mid : Growing) → nodes ≡ map (node_of (length old.nodes.items) inputs) (feed_origins q.feeds) → mid.nodes.items ≡ now.nodes.items → mid.blocks.items ≡ now.blocks.items → MayPut plans q.place nodes mid
  may_put nodes mid e f h =
      let fit = fits.1 in
      let size = g.size in
      let few = g.few in
      let ln = ap length f in
      let lb = ap length h in
      record {
        plan = next_part.x;
        there = next_part.has.at;
        long = ap length e ∙ length_nodes (node_of (length old.nodes.items) inputs) (feed_origins q.feeds) ∙ fed_long;
        room = omega (arith, fit, size, ln, room);
        few = omega (arith, few, ln, lb);
      }

  pub part_put : (nodes : List ℕ) (mid new : Growing) (listed : PartAt) → nodes ≡ map (node_of (length old.nodes.items) inputs) (feed_origins q.feeds) → mid.nodes.items ≡ now.nodes.items → mid.blocks.items ≡ now.blocks.items → mid.parts ≡ now.parts ++ listed ∷ [] →
      listed.chip ≡ next_part.x.entry.now.name → listed.outs ≡ map (node_of (length now.nodes.items) nodes) next_part.x.outs.items → listed.block ≡ block_at next_part.x.end (length now.blocks.items) → IsPut chips next_part.x nodes mid new → IsGoing chips plans place plan inputs old new qs
  part_put nodes mid new listed e f h k name outs block put =
      let base = length old.nodes.items in
      let n = next_part in
      let x = n.x in
      let y : IsPlanned chips plans q.place x = are q.place x n.has.at in
      let s : Instance = record { chip = x.entry.now; tree = put.tree; block = put.block; at = put.at } in
      let ln = ap length f in
      let lb = ap length h in
      let sized : length mid.nodes.items ≡ base + g.sum.nodes = ln ∙ g.size in
      let stands : length mid.nodes.items ≡ base + q.offset = sized ∙ ap (λ (m : ℕ). base + m) (sym n.is.offset) in
      let exact = fits.0 in
      let put_size = put.size in
      let grows : Longer now.nodes.items new.nodes.items = subst (λ (t : List Node). Longer t new.nodes.items) f put.nodes in
      let grows_blocks : Longer now.blocks.items new.blocks.items = subst (λ (t : List Block). Longer t new.blocks.items) h put.blocks in
      let here : Net = record { nodes = new.nodes.items; blocks = new.blocks.items } in
      let own = (put.placed here (longer_none new.nodes.items) (longer_none new.blocks.items)).own in
      let outs_is : listed.outs ≡ nodes_at (put.at []) (all_bits x.entry.now.chip.outputs) =
      outs ∙ ap (map (node_of (length now.nodes.items) nodes)) y.outs ∙ ap (λ (b : ℕ). map (node_of b nodes) (origins_at (wires_of x.wires) (all_bits x.entry.now.chip.outputs))) (sym ln)
      ∙ outs_are (length mid.nodes.items) nodes (wires_of x.wires) (put.at []) own (all_bits x.entry.now.chip.outputs) in
      let block_is : listed.block ≡ block_at (end_of chips.memories x.entry.now) (put.block []) =
      block ∙ ap (λ (o : Option End). block_at o (length now.blocks.items)) y.is_end ∙ ap (block_at (end_of chips.memories x.entry.now)) (sym lb) ∙ sym put.own_block in
      let listed_is : listed ≡ part_at chips put.at put.block (record { path = []; chip = x.entry.now }) = part_is listed (part_at chips put.at put.block (record { path = []; chip = x.entry.now })) name outs_is block_is in
      record {
        planned = g.planned;
        parts_left = n.others;
        plans_left = n.behind;
        sum = joined_size g.sum x.size;
        done = g.done ++ s ∷ [];
        placed = n.have;
        planned_left = n.are;
        whole = whole_next;
        size = omega (arith, put_size, sized, exact);
        nodes = longer_more old.nodes.items now.nodes.items new.nodes.items g.nodes grows;
        blocks = longer_more old.blocks.items now.blocks.items new.blocks.items g.blocks grows_blocks;
        few = put.few;
        parts = put.parts ∙ ap (λ (t : List PartAt). t ++ map (part_at chips put.at put.block) put.tree) k
            ∙ assoc now.parts (listed ∷ []) (map (part_at chips put.at put.block) put.tree)
            ∙ ap (λ (z : PartAt). now.parts ++ (z ∷ map (part_at chips put.at put.block) put.tree)) listed_is
            ∙ ap (λ (t : List PartAt). t ++ (part_at chips put.at put.block (record { path = []; chip = x.entry.now }) ∷ map (part_at chips put.at put.block) put.tree)) g.parts
            ∙ assoc old.parts (listed_by chips g.done) (part_at chips put.at put.block (record { path = []; chip = x.entry.now }) ∷ map (part_at chips put.at put.block) put.tree)
            ∙ ap (λ (t : List PartAt). old.parts ++ t) (sym (listed_more chips g.done s));
        reads = λ n2 m a b c d r.
            let few = longer_length now.blocks.items new.blocks.items grows_blocks in
            let before = g.reads n2 m a b c (omega (arith, few, d)) r in
            let fit = fits.1 in
            let fed : All (λ i. i < n2) nodes = subst (λ (t : List ℕ). All (λ i. i < n2) t) (sym e) (nodes_below base inputs (length inputs) plan.size.nodes n2 refl a b c (feed_origins q.feeds) fed_within) in
            let fed_count : length nodes ≡ length (feed_origins q.feeds) = ap length e ∙ length_nodes (node_of base inputs) (feed_origins q.feeds) in
            let outs_below : All (λ i. i < n2) listed.outs = subst (λ (t : List ℕ). All (λ i. i < n2) t) (sym outs) (nodes_below (length now.nodes.items) nodes (length (feed_origins q.feeds)) x.size.nodes n2 fed_count fed b (omega (arith, c, fit, g.size)) x.outs.items outs_within) in
            put.reads n2 m fed b (omega (arith, c, fit, sized)) d
            (record {
              nodes = subst (λ (t : List Node). All (Reads n2 m) t) (sym f) before.nodes;
              blocks = subst (λ (t : List Block). All (HasInputs n2) t) (sym h) before.blocks;
              parts = subst (λ (t : List PartAt). All (λ p. All (λ i. i < n2) p.outs) t) (sym k) (All-append (λ p. All (λ i. i < n2) p.outs) now.parts (listed ∷ []) before.parts (all_one (λ p. All (λ i. i < n2) p.outs) listed outs_below));
            });
        words = λ w. put.words (subst (λ (t : List Block). HasWords mid.nodes.items (length t)) (sym h) (subst (λ (t : List Node). HasWords t (length now.blocks.items)) (sym f) (g.words w)));
        stand = λ net a b tail t.
            let placed : IsPlaced chips net x (base + q.offset) (map (node_of base inputs) (feed_origins q.feeds)) put.block put.at =
            subst (λ (m : ℕ). IsPlaced chips net x m (map (node_of base inputs) (feed_origins q.feeds)) put.block put.at) stands (subst (λ (is : List ℕ). IsPlaced chips net x (length mid.nodes.items) is put.block put.at) e (put.placed net a b)) in
            let one : IsInstance chips net base inputs n.p x q s = record { found = n.has.found; listed = put.listed; counted = put.counted; placed = placed } in
            let all = g.stand net (longer_more now.nodes.items new.nodes.items net.nodes grows a) (longer_more now.blocks.items new.blocks.items net.blocks grows_blocks b) (s ∷ tail)
            (subst (λ (ps : List Part). AreInstances chips net base inputs ps g.plans_left (q ∷ qs) (s ∷ tail)) (sym n.parts_are) (subst (λ (xs : List Plan). AreInstances chips net base inputs (n.p ∷ n.others) xs (q ∷ qs) (s ∷ tail)) (sym n.plans_are) (one_more one t))) in
            subst (λ (ss : List Instance). AreInstances chips net base inputs (parts_of chips plan.entry.now) g.planned.inner plan.parts.items ss) (sym (assoc g.done (s ∷ []) tail)) all;
      }

-- ---- an end

pub all_none : {X : Type 0} (P : X → Type 0) → All P []
all_none P k d lt = absurd (omega (arith, lt))

all_drop : (n j : ℕ) (xs : List ℕ) → All (λ i. i < n) xs → All (λ i. i < n) (drop j xs)
all_drop n zero xs h k d lt = h k d lt
all_drop n (suc j) [] h k d lt = absurd (omega (arith, lt))
all_drop n (suc j) (x ∷ xs) h k d lt = all_drop n j xs (λ i e l. h (suc i) e (omega (arith, l))) k d lt

all_take : (n j : ℕ) (xs : List ℕ) → All (λ i. i < n) xs → All (λ i. i < n) (take j xs)
all_take n zero xs h k d lt = absurd (omega (arith, lt))
all_take n (suc j) [] h k d lt = absurd (omega (arith, lt))
all_take n (suc j) (x ∷ xs) h zero d lt = h 0 d (omega arith)
all_take n (suc j) (x ∷ xs) h (suc k) d lt = all_take n j xs (λ i e l. h (suc i) e (omega (arith, l))) k d (omega (arith, lt))

take_few : (j : ℕ) (xs : List ℕ) → length (take j xs) ≤ j
take_few zero xs = omega arith
take_few (suc j) [] = omega arith
take_few (suc j) (x ∷ xs) = let h = take_few j xs in omega (arith, h)

-- a memory's address has at most fourteen bits
end_shipped : (memories : Memories) (chip : Entry) {e : Option End} → end_of memories chip ≡ e → end_of_shipped memories chip.shipped ≡ e
unfolding end_of
end_shipped memories chip h = h

abbrev small_if : Option End → Type 0
small_if o = (bits : ℕ) → o ≡ Some (ends.Block bits) → bits ≤ 14

small_by : (b : Bool) (x y : Option End) → small_if x → small_if y → small_if (cond b x y)
small_by true x y f g bits h = f bits h
small_by false x y f g bits h = g bits h

small_block : (k : ℕ) → k ≤ 14 → small_if (Some (ends.Block k))
small_block k h bits e = let same : k ≡ bits = cc in omega (arith, same, h)

nand_small : small_if (Some ends.Nand)
nand_small bits h = absurd cc

dff_small : small_if (Some ends.Dff)
dff_small bits h = absurd cc

keyboard_small : small_if (Some ends.Keyboard)
keyboard_small bits h = absurd cc

rom_small : small_if (Some ends.Rom)
rom_small bits h = absurd cc

none_small : small_if None
none_small bits h = absurd cc

small_named : (memories : Memories) (name : List ℕ) → small_if (end_named memories name)
small_named memories name =
    small_by _ _ _ nand_small (small_by _ _ _ dff_small (small_by _ _ _ keyboard_small (small_by _ _ _ rom_small
    (small_by _ _ _ (small_block 3 (omega arith)) (small_by _ _ _ (small_block 6 (omega arith)) (small_by _ _ _ (small_block 9 (omega arith)) (small_by _ _ _ (small_block 12 (omega arith)) (small_by _ _ _ (small_block 14 (omega arith)) (small_by _ _ _ (small_block 13 (omega arith)) none_small)))))))))

block_small : (memories : Memories) (name : Option (List ℕ)) (bits : ℕ) → end_of_shipped memories name ≡ Some (ends.Block bits) → bits ≤ 14
block_small memories None bits h = absurd cc
block_small memories (Some name) bits h = small_named memories name bits h

-- what was put stands, whatever comes after
there_in : {X : Type 0} (old xs new all : List X) → new ≡ old ++ xs → Longer new all → (k : ℕ) (x : X) → slice_get xs k ≡ Some x → slice_get all (length old + k) ≡ Some x
there_in old xs new all e f k x h =
    ap (λ t. slice_get t (length old + k)) (f.longer ∙ ap (λ t. t ++ f.more) e ∙ assoc old xs f.more) ∙ get_behind old (xs ++ f.more) k ∙ get_front xs f.more k x h

pub lt_or : (n k : ℕ) → k < suc n → (k < n) ⊎ (k ≡ n)
lt_or zero zero h = inr refl
lt_or zero (suc k) h = absurd (omega (arith, h))
lt_or (suc n) zero h = inl (omega arith)
lt_or (suc n) (suc k) h = elim (lt_or n k (omega (arith, h))) [ inl a ↦ inl (omega (arith, a)) | inr e ↦ inr (ap suc e) ]

last_at : {X : Type 0} (xs : List X) (x : X) (n k : ℕ) → length xs ≡ n → k ≡ n → slice_get (xs ++ x ∷ []) k ≡ Some x
last_at xs x n k l e = ap (slice_get (xs ++ x ∷ [])) (e ∙ sym l) ∙ get_last xs x

words_step : (b n k : ℕ) → (k < n) ⊎ (k ≡ n) → (k < n → slice_get (words b n) k ≡ Some (nodes.Word b k)) → slice_get (words b n ++ nodes.Word b n ∷ []) k ≡ Some (nodes.Word b k)
words_step b n k (inl lt) f = get_front (words b n) (nodes.Word b n ∷ []) k (nodes.Word b k) (f lt)
words_step b n k (inr e) f = last_at (words b n) (nodes.Word b n) n k (length_words b n) e ∙ ap (λ (m : ℕ). Some (nodes.Word b m)) (sym e)

words_at : (b n k : ℕ) → k < n → slice_get (words b n) k ≡ Some (nodes.Word b k)
words_at b zero k h = absurd (omega (arith, h))
words_at b (suc n) k h = words_step b n k (lt_or n k h) (λ lt. words_at b n k lt)

pins_step : (n k : ℕ) → (k < n) ⊎ (k ≡ n) → (k < n → slice_get (pins n) k ≡ Some nodes.Pin) → slice_get (pins n ++ nodes.Pin ∷ []) k ≡ Some nodes.Pin
pins_step n k (inl lt) f = get_front (pins n) (nodes.Pin ∷ []) k nodes.Pin (f lt)
pins_step n k (inr e) f = last_at (pins n) nodes.Pin n k (length_pins n) e

pub pins_at : (n k : ℕ) → k < n → slice_get (pins n) k ≡ Some nodes.Pin
pins_at zero k h = absurd (omega (arith, h))
pins_at (suc n) k h = pins_step n k (lt_or n k h) (λ lt. pins_at n k lt)

length_end : (e : End) (inputs : List ℕ) (b : ℕ) → length (end_puts e inputs b) ≡ end_nodes (Some e)
length_end ends.Nand inputs b = refl
length_end ends.Dff inputs b = refl
length_end ends.Keyboard inputs b = length_pins 16
length_end ends.Rom inputs b = length_words b 16
length_end (ends.Block bits) inputs b = length_words b 16

few_end : (e : End) (inputs : List ℕ) (b : ℕ) → length (end_blocks e inputs) ≤ length (end_puts e inputs b)
few_end ends.Nand inputs b = omega arith
few_end ends.Dff inputs b = omega arith
few_end ends.Keyboard inputs b = omega arith
few_end ends.Rom inputs b = omega (arith, length_words b 16)
few_end (ends.Block bits) inputs b = omega (arith, length_words b 16)

stands_end : (net : Net) (old new : Growing) (e : End) (inputs : List ℕ) → new.nodes.items ≡ old.nodes.items ++ end_puts e inputs (length old.blocks.items) → new.blocks.items ≡ old.blocks.items ++ end_blocks e inputs → Longer new.nodes.items net.nodes → Longer new.blocks.items net.blocks →
    EndPut net (length old.nodes.items) e inputs (length old.blocks.items)
stands_end net old new ends.Nand inputs f g a b = ap (slice_get net.nodes) (omega arith) ∙ there_in old.nodes.items (end_puts ends.Nand inputs (length old.blocks.items)) new.nodes.items net.nodes f a 0 (nodes.Nand (slice_index inputs 0) (slice_index inputs 1)) refl
stands_end net old new ends.Dff inputs f g a b = ap (slice_get net.nodes) (omega arith) ∙ there_in old.nodes.items (end_puts ends.Dff inputs (length old.blocks.items)) new.nodes.items net.nodes f a 0 (nodes.Flip (slice_index inputs 0)) refl
stands_end net old new ends.Keyboard inputs f g a b = λ k lt. there_in old.nodes.items (pins 16) new.nodes.items net.nodes f a k nodes.Pin (pins_at 16 k lt)
stands_end net old new ends.Rom inputs f g a b = record {
  there = ap (slice_get net.blocks) (omega arith) ∙ there_in old.blocks.items (rom_of inputs ∷ []) new.blocks.items net.blocks g b 0 (rom_of inputs) refl;
  words = λ k lt. there_in old.nodes.items (words (length old.blocks.items) 16) new.nodes.items net.nodes f a k (nodes.Word (length old.blocks.items) k) (words_at (length old.blocks.items) 16 k lt);
}
stands_end net old new (ends.Block bits) inputs f g a b = record {
  there = ap (slice_get net.blocks) (omega arith) ∙ there_in old.blocks.items (memory_of bits inputs ∷ []) new.blocks.items net.blocks g b 0 (memory_of bits inputs) refl;
  words = λ k lt. there_in old.nodes.items (words (length old.blocks.items) 16) new.nodes.items net.nodes f a k (nodes.Word (length old.blocks.items) k) (words_at (length old.blocks.items) 16 k lt);
}

-- an end is fed all its input bits
fed_by_width : (chips : Chips) (chip : Entry) (e : End) (n w : ℕ) → n ≡ w → w ≡ widths (end_inputs e) → end_of chips.memories chip ≡ Some e → IsEndFed e n
fed_by_width chips chip ends.Nand n w f g is = f ∙ g
fed_by_width chips chip ends.Dff n w f g is = f ∙ g
fed_by_width chips chip ends.Keyboard n w f g is = f ∙ g
fed_by_width chips chip ends.Rom n w f g is = f ∙ g
fed_by_width chips chip (ends.Block bits) n w f g is = (omega (arith, f, g), block_small chips.memories chip.shipped bits (end_shipped chips.memories chip is))

pub end_fed : (chips : Chips) (plans : List Plan) (place : ℕ) (plan : Plan) (e : End) (inputs : List ℕ) → IsPlanned chips plans place plan → EndsHavePins chips → plan.end ≡ Some e → length inputs ≡ length plan.inputs.items → IsEndFed e (length inputs)
end_fed chips plans place plan e inputs p pins is long =
    let is_end : end_of chips.memories plan.entry.now ≡ Some e = sym p.is_end ∙ is in
    let has = pins p.fine.name plan.entry.now e p.fine.found is_end in
    fed_by_width chips plan.entry.now e (length inputs) (length (all_bits plan.entry.now.chip.inputs)) (long ∙ sym (length_map plan.inputs.items) ∙ ap length p.inputs) (length_all plan.entry.now.chip.inputs ∙ ap widths has.inputs) is_end

no_plans : (chips : Chips) (plans : List Plan) (i : ℕ) (ps : List Part) (xs : List Plan) (rs : List ℕ) → HavePlans chips plans i ps xs rs → ps ≡ [] → xs ≡ []
no_plans chips plans i [] [] rs h e = refl
no_plans chips plans i [] (x ∷ xs) rs h e = absurd h
no_plans chips plans i (p ∷ ps) xs rs h e = absurd cc

-- what an end reads is there
words_read : (n m b k : ℕ) → b < m → k ≤ 16 → All (Reads n m) (words b k)
words_read n m b zero lt le j d h = absurd (omega (arith, h))
words_read n m b (suc k) lt le j d h = All-append (Reads n m) (words b k) (nodes.Word b k ∷ []) (words_read n m b k lt (omega (arith, le))) (all_one (Reads n m) (nodes.Word b k) (lt, omega (arith, le))) j d h

pub pins_read : (n m k : ℕ) → All (Reads n m) (pins k)
pins_read n m zero j d h = absurd (omega (arith, h))
pins_read n m (suc k) j d h = All-append (Reads n m) (pins k) (nodes.Pin ∷ []) (pins_read n m k) (all_one (Reads n m) nodes.Pin tt) j d h

end_nodes_read : (n m : ℕ) (e : End) (inputs : List ℕ) (b : ℕ) → IsEndFed e (length inputs) → All (λ i. i < n) inputs → b + length (end_blocks e inputs) ≤ m → All (Reads n m) (end_puts e inputs b)
end_nodes_read n m ends.Nand inputs b fed a d = all_one (Reads n m) (nodes.Nand (slice_index inputs 0) (slice_index inputs 1)) (a 0 0 (omega (arith, fed)), a 1 0 (omega (arith, fed)))
end_nodes_read n m ends.Dff inputs b fed a d = all_one (Reads n m) (nodes.Flip (slice_index inputs 0)) (a 0 0 (omega (arith, fed)))
end_nodes_read n m ends.Keyboard inputs b fed a d = pins_read n m 16
end_nodes_read n m ends.Rom inputs b fed a d = words_read n m b 16 (omega (arith, d)) (omega arith)
end_nodes_read n m (ends.Block bits) inputs b fed a d = words_read n m b 16 (omega (arith, d)) (omega arith)

end_blocks_read : (n : ℕ) (e : End) (inputs : List ℕ) → IsEndFed e (length inputs) → All (λ i. i < n) inputs → 1 < n → All (HasInputs n) (end_blocks e inputs)
end_blocks_read n ends.Nand inputs fed a b = all_none (HasInputs n)
end_blocks_read n ends.Dff inputs fed a b = all_none (HasInputs n)
end_blocks_read n ends.Keyboard inputs fed a b = all_none (HasInputs n)
end_blocks_read n ends.Rom inputs fed a b = all_one (HasInputs n) (rom_of inputs) (a, all_none (λ i. i < n), omega (arith, b), omega arith)
end_blocks_read n (ends.Block bits) inputs fed a b = all_one (HasInputs n) (memory_of bits inputs) (all_drop n 17 inputs a, all_take n 16 inputs a, a 16 0 (omega (arith, fed.0)), take_few 16 inputs)

end_reads : (n m : ℕ) (old new : Growing) (e : End) (inputs : List ℕ) → new.nodes.items ≡ old.nodes.items ++ end_puts e inputs (length old.blocks.items) → new.blocks.items ≡ old.blocks.items ++ end_blocks e inputs → new.parts ≡ old.parts → IsEndFed e (length inputs) → All (λ i. i < n) inputs → 1 < n → length new.blocks.items ≤ m → ReadsBelow n m old → ReadsBelow n m new
end_reads n m old new e inputs f g h fed a b d r =
    let lb = ap length g ∙ length-append old.blocks.items (end_blocks e inputs) in
    record {
      nodes = subst (λ (t : List Node). All (Reads n m) t) (sym f) (All-append (Reads n m) old.nodes.items (end_puts e inputs (length old.blocks.items)) r.nodes (end_nodes_read n m e inputs (length old.blocks.items) fed a (omega (arith, lb, d))));
      blocks = subst (λ (t : List Block). All (HasInputs n) t) (sym g) (All-append (HasInputs n) old.blocks.items (end_blocks e inputs) r.blocks (end_blocks_read n e inputs fed a b));
      parts = subst (λ (t : List PartAt). All (λ p. All (λ i. i < n) p.outs) t) (sym h) r.parts;
    }

pub end_put : (chips : Chips) (plans : List Plan) (place : ℕ) (plan : Plan) (e : End) (inputs : List ℕ) (old new : Growing) → ArePlans chips plans → EndsHavePins chips → slice_get plans place ≡ Some plan → plan.end ≡ Some e → length inputs ≡ length plan.inputs.items → length old.blocks.items ≤ length old.nodes.items →
    new.nodes.items ≡ old.nodes.items ++ end_puts e inputs (length old.blocks.items) → new.blocks.items ≡ old.blocks.items ++ end_blocks e inputs → new.parts ≡ old.parts → IsPut chips plan inputs old new
end_put chips plans place plan e inputs old new are pins there is long few f g h =
    let p : IsPlanned chips plans place plan = are place plan there in
    let is_end : end_of chips.memories plan.entry.now ≡ Some e = sym p.is_end ∙ is in
    let no_parts_in : parts_of chips plan.entry.now ≡ [] = ap (λ (o : Option End). parts_unless o (parts_of_body plan.entry.now.chip.body)) is_end in
    let at : List ℕ → Wires ℕ = λ path name bit. node_of (length old.nodes.items) inputs (origin_at (wires_of plan.wires) name bit) in
    let size : plan.size.nodes ≡ end_nodes (Some e) = ap (λ (z : Size). z.nodes) (p.size ∙ ap (all_sized (own_size chips plan.entry.now)) (no_plans chips plans place (parts_of chips plan.entry.now) p.inner (places plan.parts.items) p.placed no_parts_in)) ∙ ap end_nodes is_end in
    let ln = ap length f ∙ length-append old.nodes.items (end_puts e inputs (length old.blocks.items)) in
    let lb = ap length g ∙ length-append old.blocks.items (end_blocks e inputs) in
    let le = length_end e inputs (length old.blocks.items) in
    let lf = few_end e inputs (length old.blocks.items) in
    record {
      nodes = record { more = end_puts e inputs (length old.blocks.items); longer = f };
      blocks = record { more = end_blocks e inputs; longer = g };
      size = omega (arith, ln, le, size);
      few = omega (arith, ln, lb, lf, few);
      tree = [];
      listed = subst (λ (ps : List Part). AreListed chips 0 ps []) (sym no_parts_in) none;
      counted =
          let few = end_small (Some e) in
          let here = ap end_nodes is_end in
          omega (arith, size, few, here);
      block = λ path. length old.blocks.items;
      at = at;
      parts = h ∙ sym (nil_after old.parts);
      own_block = refl;
      placed = λ net a b. end_placed chips net plans place plan p pins e is_end (length old.nodes.items) inputs (length old.blocks.items) at long (λ name bit. refl) (stands_end net old new e inputs f g a b);
      reads = λ n m a b c d r. end_reads n m old new e inputs f g h (end_fed chips plans place plan e inputs p pins is long) a b d r;
      words = λ w. subst (λ (t : List Block). HasWords new.nodes.items (length t)) (sym g) (subst (λ (t : List Node). HasWords t (length (old.blocks.items ++ end_blocks e inputs))) (sym f) (end_words e inputs old.nodes.items old.blocks.items w));
    }

-- ---- what the code reads

pub plan_there : (plans : List Plan) (place : ℕ) (x plan : Plan) → slice_get plans place ≡ Some x → plan ≡ get_or plans place plan → (slice_get plans place ≡ Some plan) × (x ≡ plan)
plan_there plans place x plan h e =
    let here : slice_get plans place ≡ Some plan = slice_get_read plans (length plans) place plan refl (slice_get_within plans place x h) e in
    let both : Some x ≡ Some plan = sym h ∙ here in
    let same : x ≡ plan = cc in
    (here, same)

pub rest_is_none : {X : Type 0} (xs : List X) → length xs ≡ 0 → xs ≡ []
rest_is_none [] h = refl
rest_is_none (x ∷ xs) h = absurd (omega (arith, h))

pub on_both : {T E A B D : Type 0} (r : Result T E) → OnOk r A → OnOk r B → (A → B → D) → OnOk r D
on_both (Ok v) a b f = f a b
on_both (Err e) a b f = tt

-- a part that is to be put
pub record Head (chips : Chips) (plans : List Plan) (place : ℕ) (plan : Plan) (inputs : List ℕ) (old now : Growing) (q : PartPlan) (qs : List PartPlan) : Type 0 where
  pub are : ArePlans chips plans
  pub pins : EndsHavePins chips
  pub there : slice_get plans place ≡ Some plan
  pub long : length inputs ≡ length plan.inputs.items
  pub room : length old.nodes.items + plan.size.nodes ≤ 16777216
  pub going : IsGoing chips plans place plan inputs old now (q ∷ qs)

module _ (chips : Chips) (plans : List Plan) (place : ℕ) (plan : Plan) (inputs : List ℕ) (old now : Growing) (q : PartPlan) (qs : List PartPlan) (h : Head chips plans place plan inputs old now q qs) where
  pub head_next : NextPart chips plans place plan h.going.parts_left h.going.plans_left h.going.sum q qs
  head_next = next_part chips plans place plan inputs old now q qs h.are h.pins h.there h.long h.room h.going

  pub head_place : q.place < length plans
  head_place = slice_get_within plans q.place head_next.x head_next.has.at

  pub head_base : length old.nodes.items ≤ 16777216
  head_base = let room = h.room in omega (arith, room)

  pub head_long : length now.nodes.items ≤ 16777216
  head_long = let fit = (fits chips plans place plan inputs old now q qs h.are h.pins h.there h.long h.room h.going).1 in let size = h.going.size in let room = h.room in omega (arith, fit, size, room)

  pub head_few : length now.blocks.items ≤ 16777216
  head_few = let few = h.going.few in let long = head_long in omega (arith, few, long)

  module _ (y : Plan) (is : y ≡ get_or plans q.place y) where
    pub head_same : head_next.x ≡ y
    head_same = (plan_there plans q.place head_next.x y head_next.has.at is).1

    pub head_number : y.number < length chips.entries
    head_number = slice_get_within chips.entries y.number y.entry.now (h.are q.place y (plan_there plans q.place head_next.x y head_next.has.at is).0).there

    pub head_entry : slice_get chips.entries y.number ≡ Some y.entry.now
    head_entry = (h.are q.place y (plan_there plans q.place head_next.x y head_next.has.at is).0).there

    pub head_fed : MayFeed (length inputs) q.feeds (map bit_of y.inputs.items)
    unfolding head_next next_part
    head_fed =
        let room = h.room in
        let good = fed_good chips plans place plan inputs old now q qs h.are h.pins h.there h.long h.room h.going in
        let far = all_wider (length inputs) plan.size.nodes 16777216 (feed_origins q.feeds) (omega (arith, room)) (fed_within chips plans place plan inputs old now q qs h.are h.pins h.there h.long h.room h.going) in
        subst (λ (x : Plan). MayFeed (length inputs) q.feeds (map bit_of x.inputs.items)) head_same
        (may_feed (length inputs) plan.size.nodes q.feeds (map bit_of head_next.x.inputs.items) (part_entries (wires_of plan.wires) head_next.p head_next.x) (omega (arith, room)) far head_next.is.few good)

    pub head_outs : (nodes : List ℕ) → nodes ≡ map (node_of (length old.nodes.items) inputs) (feed_origins q.feeds) → All (IsWithin (length nodes) 16777216) y.outs.items
    unfolding head_next next_part
    head_outs nodes e =
        let small = small_part chips plans place plan inputs old now q qs h.are h.pins h.there h.long h.room h.going in
        subst (λ (n : ℕ). All (IsWithin n 16777216) y.outs.items) (sym (ap length e ∙ length_nodes (node_of (length old.nodes.items) inputs) (feed_origins q.feeds)))
        (subst (λ (x : Plan). All (IsWithin (length (feed_origins q.feeds)) 16777216) x.outs.items) head_same
        (all_wider (length (feed_origins q.feeds)) head_next.x.size.nodes 16777216 head_next.x.outs.items small (outs_within chips plans place plan inputs old now q qs h.are h.pins h.there h.long h.room h.going)))

    pub head_put : (nodes : List ℕ) (mid new : Growing) (listed : PartAt) → nodes ≡ map (node_of (length old.nodes.items) inputs) (feed_origins q.feeds) → mid.nodes.items ≡ now.nodes.items → mid.blocks.items ≡ now.blocks.items → mid.parts ≡ now.parts ++ listed ∷ [] →
        listed.chip ≡ y.entry.now.name → listed.outs ≡ map (node_of (length now.nodes.items) nodes) y.outs.items → listed.block ≡ block_at y.end (length now.blocks.items) → ((x : Plan) → slice_get plans q.place ≡ Some x → IsPut chips x nodes mid new) → IsGoing chips plans place plan inputs old new qs
    unfolding head_next next_part
    head_put nodes mid new listed e f g k name outs block put =
        part_put chips plans place plan inputs old now q qs h.are h.pins h.there h.long h.room h.going nodes mid new listed e f g k
        (name ∙ ap (λ (x : Plan). x.entry.now.name) (sym head_same)) (outs ∙ ap (λ (x : Plan). map (node_of (length now.nodes.items) nodes) x.outs.items) (sym head_same)) (block ∙ ap (λ (x : Plan). block_at x.end (length now.blocks.items)) (sym head_same)) (put head_next.x head_next.has.at)

  pub head_may : (nodes : List ℕ) (mid : Growing) → nodes ≡ map (node_of (length old.nodes.items) inputs) (feed_origins q.feeds) → mid.nodes.items ≡ now.nodes.items → mid.blocks.items ≡ now.blocks.items → MayPut plans q.place nodes mid
  head_may = may_put chips plans place plan inputs old now q qs h.are h.pins h.there h.long h.room h.going
