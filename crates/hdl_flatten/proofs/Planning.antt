-- The entries of a chip's wires, and the plans of its parts.
use Rattle.std.proofs.Common.{◌≡◌, ℕ, zero, suc, ◌+◌, ◌<◌, ◌≤◌, ◌⊎◌, inl, inr, Bool, true, false, cond, List, [], ◌∷◌, ◌++◌, length, length-append, take, map, Option, Some, None, IsSome, refl, sym, ap, subst, ◌∙◌, arith}
use Rattle.std.specs.Prelude.{slice_get, slice_index_or, unwrap_or}
use Rattle.std.proofs.lemmas.Option.{slice_get_within}
use Rattle.hdl_tree.specs.declared.tree.Pin.{Pin}
use Rattle.hdl_tree.specs.declared.tree.Part.{Part}
use Rattle.hdl_tree.specs.declared.tree.Connection.{Connection}
use Rattle.hdl_tree.specs.declared.tree.Selection.{Selection}
use Rattle.hdl_tree.specs.declared.tree.Source.TheVariants as source
use Rattle.hdl_tree.specs.declared.library.Entry.{Entry}
use Rattle.hdl_tree.specs.declared.ends.End.{End}
use Rattle.hdl_tree.specs.declared.ends.End.TheVariants as ends
use Rattle.hdl_tree.specs.Chips.{Chips, end_of, parts_of, pin_width, first, count}
use Rattle.name_table.specs.Names.{first_of}
use Rattle.hdl_check.specs.Tables.{BitOf, bits_of}
use Rattle.hdl_check.specs.Faults.{ports_of}
use Rattle.hdl_check.specs.declared.check.Port.{Port}
use Rattle.hdl_check.proofs.Rows.{take_next}
use Rattle.hdl_flatten.specs.declared.size.Size.{Size}
use Rattle.hdl_flatten.specs.declared.nest.Nested.{Nested}
use Rattle.hdl_flatten.specs.declared.wires.Bit.{Bit}
use Rattle.hdl_flatten.specs.declared.wires.Origin.{Origin}
use Rattle.hdl_flatten.specs.declared.wires.Origin.TheVariants.{Low, Input}
use Rattle.hdl_flatten.specs.declared.plan.Plan.{Plan}
use Rattle.hdl_flatten.specs.declared.plan.PartPlan.{PartPlan}
use Rattle.hdl_flatten.specs.Trees.{all_bits, end_nodes}
use Rattle.hdl_flatten.specs.Ends.{named_pins, end_outputs, EndsHavePins}
use Rattle.hdl_flatten.specs.Inner.Nests.{IsFine, AreAt, IsNested}
use Rattle.hdl_flatten.specs.Inner.Sizes.{joined_size, IsSmall}
use Rattle.hdl_flatten.specs.Inner.Wired.{bit_of, wires_of, found_bit, origin_at, origins_at, FindsMore}
use Rattle.hdl_flatten.specs.Inner.Feeds.{FewAre}
use Rattle.hdl_flatten.specs.declared.feeds.Feeds.{Feeds}
use Rattle.hdl_flatten.specs.declared.feeds.Feeds.TheVariants as feeds
use Rattle.hdl_flatten.specs.Inner.Plans.{numbered_bits, end_gates, own_size, own_wires, driven_bits, driven_to, driven_by, all_driven, fed_bits, fed_by, all_sized, plan_or, plans_at, places, parts_driven, IsPartPlan, ArePartPlans, HavePlans, IsPlanned, ArePlans, AreAtHand, FollowNest}
use Rattle.hdl_flatten.proofs.Lists.{assoc, get_there, get_front, last_or}
use Rattle.hdl_flatten.proofs.Wiring.{found-append, more_then}

-- ---- numbers

numbered_more : (f : ℕ → Origin) (i : ℕ) (xs : List BitOf) (x : BitOf) → numbered_bits f i (xs ++ x ∷ []) ≡ numbered_bits f i xs ++ (x, f (i + length xs)) ∷ []
numbered_more f i [] x = let e : i ≡ i + 0 = omega arith in ap (λ (n : ℕ). (x, f n) ∷ []) e
numbered_more f i (y ∷ ys) x =
    let e : suc i + length ys ≡ i + suc (length ys) = omega arith in
    ap (λ (t : List (BitOf × Origin)). (y, f i) ∷ t) (numbered_more f (suc i) ys x ∙ ap (λ (n : ℕ). numbered_bits f (suc i) ys ++ (x, f n) ∷ []) e)

map_more : (xs : List Bit) (x : Bit) → map bit_of (xs ++ x ∷ []) ≡ map bit_of xs ++ bit_of x ∷ []
map_more [] x = refl
map_more (y ∷ ys) x = ap (λ (t : List BitOf). bit_of y ∷ t) (map_more ys x)

pub length_map : (xs : List Bit) → length (map bit_of xs) ≡ length xs
length_map [] = refl
length_map (x ∷ xs) = ap suc (length_map xs)

length_take : (xs : List Bit) (k : ℕ) → k < length xs → length (take k xs) ≡ k
length_take [] k lt = absurd (omega (arith, lt))
length_take (x ∷ xs) zero lt = refl
length_take (x ∷ xs) (suc k) lt = ap suc (length_take xs k (omega (arith, lt)))

pub numbered_take : (f : ℕ → Origin) (xs : List Bit) (k : ℕ) (x : Bit) → slice_get xs k ≡ Some x → numbered_bits f 0 (map bit_of (take k xs)) ++ (bit_of x, f k) ∷ [] ≡ numbered_bits f 0 (map bit_of (take (k + 1) xs))
numbered_take f xs k x e =
    let long : length (map bit_of (take k xs)) ≡ k = length_map (take k xs) ∙ length_take xs k (slice_get_within xs k x e) in
    let at : 0 + length (map bit_of (take k xs)) ≡ k = omega arith in
    sym (ap (λ (t : List Bit). numbered_bits f 0 (map bit_of t)) (take_next xs k x e)
    ∙ ap (numbered_bits f 0) (map_more (take k xs) x)
    ∙ numbered_more f 0 (map bit_of (take k xs)) (bit_of x)
    ∙ ap (λ (n : ℕ). numbered_bits f 0 (map bit_of (take k xs)) ++ (bit_of x, f n) ∷ []) at)

-- ---- one thing after another

pub front_more : (es new xs rest : List (BitOf × Origin)) → FindsMore es new xs → (name : List ℕ) (bit : ℕ) → found_bit name bit (new ++ rest) ≡ found_bit name bit (es ++ (xs ++ rest))
front_more es new xs rest h name bit =
    found-append name bit new rest ∙ ap (λ (o : Option Origin). first_of o (found_bit name bit rest)) (h name bit) ∙ sym (found-append name bit (es ++ xs) rest) ∙ ap (found_bit name bit) (assoc es xs rest)

-- ---- plans at places

pub plans_next : (plans : List Plan) (r : ℕ) (rs : List ℕ) (x : Plan) → slice_get plans r ≡ Some x → plans_at plans (r ∷ rs) ≡ x ∷ plans_at plans rs
plans_next plans r rs x e = ap (plan_or (plans_at plans rs)) e

pub sized_next : (plans : List Plan) (size : Size) (r : ℕ) (rs all : List ℕ) (x : Plan) → slice_get plans r ≡ Some x → all ≡ r ∷ rs → all_sized (joined_size size x.size) (plans_at plans rs) ≡ all_sized size (plans_at plans all)
sized_next plans size r rs all x e f = sym (ap (λ (t : List ℕ). all_sized size (plans_at plans t)) f ∙ ap (all_sized size) (plans_next plans r rs x e))

pub tail_below : (n x : ℕ) (xs all : List ℕ) → all ≡ x ∷ xs → ((k d : ℕ) → k < length all → slice_index_or all k d < n) → (k d : ℕ) → k < length xs → slice_index_or xs k d < n
tail_below n x xs all e h k d lt = below (suc k) d (omega (arith, lt))
  where
    below : (k d : ℕ) → k < length (x ∷ xs) → slice_index_or (x ∷ xs) k d < n
    below = subst (λ (t : List ℕ). (k d : ℕ) → k < length t → slice_index_or t k d < n) e h

pub head_below : (n x : ℕ) (xs all : List ℕ) → all ≡ x ∷ xs → ((k d : ℕ) → k < length all → slice_index_or all k d < n) → x < n
head_below n x xs all e h = below 0 0 (omega arith)
  where
    below : (k d : ℕ) → k < length (x ∷ xs) → slice_index_or (x ∷ xs) k d < n
    below = subst (λ (t : List ℕ). (k d : ℕ) → k < length t → slice_index_or t k d < n) e h

pub driven_next : (plans : List Plan) (size : Size) (p : Part) (ps rest : List Part) (r : ℕ) (rs behind : List ℕ) (x : Plan) → slice_get plans r ≡ Some x → rest ≡ p ∷ ps → behind ≡ r ∷ rs →
    all_driven (wires_of x.wires) size.nodes (ports_of x.entry.now.chip) p.connections ++ parts_driven (joined_size size x.size) ps (plans_at plans rs) ≡ parts_driven size rest (plans_at plans behind)
driven_next plans size p ps rest r rs behind x e f g =
    sym (ap (λ (t : List Part). parts_driven size t (plans_at plans behind)) f ∙ ap (λ (t : List ℕ). parts_driven size (p ∷ ps) (plans_at plans t)) g ∙ ap (parts_driven size (p ∷ ps)) (plans_next plans r rs x e))

pub part_plans_next : (wires : List (BitOf × Origin)) (plans : List Plan) (size : Size) (p : Part) (ps rest : List Part) (r : ℕ) (rs behind : List ℕ) (x : Plan) (q : PartPlan) (tail : List PartPlan) → slice_get plans r ≡ Some x → rest ≡ p ∷ ps → behind ≡ r ∷ rs →
    IsPartPlan wires size p x q → ArePartPlans wires (joined_size size x.size) ps (plans_at plans rs) tail → ArePartPlans wires size rest (plans_at plans behind) (q ∷ tail)
part_plans_next wires plans size p ps rest r rs behind x q tail e f g one more =
    subst (λ (t : List Part). ArePartPlans wires size t (plans_at plans behind) (q ∷ tail)) (sym f)
    (subst (λ (t : List ℕ). ArePartPlans wires size (p ∷ ps) (plans_at plans t) (q ∷ tail)) (sym g)
    (subst (λ (t : List Plan). ArePartPlans wires size (p ∷ ps) t (q ∷ tail)) (sym (plans_next plans r rs x e)) (one, more)))

pub part_plans_end : (wires : List (BitOf × Origin)) (size : Size) (rest : List Part) (xs : List Plan) → length rest ≡ 0 → ArePartPlans wires size rest xs []
part_plans_end wires size [] xs e = tt
part_plans_end wires size (p ∷ ps) xs e = absurd (omega (arith, e))

pub places_more : (qs : List PartPlan) (q : PartPlan) → places (qs ++ q ∷ []) ≡ places qs ++ q.place ∷ []
places_more [] q = refl
places_more (x ∷ qs) q = ap (λ (t : List ℕ). x.place ∷ t) (places_more qs q)

pub joined_is_small : (size z s : Size) → s ≡ joined_size size z → IsSmall s
joined_is_small size z s e = subst IsSmall (sym e) (omega arith, omega arith)

pub origins_same : (es fs : List (BitOf × Origin)) (bits : List BitOf) → ((name : List ℕ) (bit : ℕ) → found_bit name bit es ≡ found_bit name bit fs) → origins_at es bits ≡ origins_at fs bits
origins_same es fs [] h = refl
origins_same es fs (b ∷ bits) h =
    ap (λ (t : List Origin). origin_at es b.name b.bit ∷ t) (origins_same es fs bits h) ∙ ap (λ (o : Option Origin). unwrap_or o Low ∷ origins_at fs bits) (h b.name b.bit)

pub few_same : (f : Feeds) (bits more : List BitOf) (es fs : List (BitOf × Origin)) → bits ≡ more → ((name : List ℕ) (bit : ℕ) → found_bit name bit es ≡ found_bit name bit fs) → FewAre f bits es → FewAre f more fs
few_same (feeds.All v) bits more es fs e h few = tt
few_same (feeds.Few pins w) bits more es fs e h few = (few.0 ∙ e, λ name bit. few.1 name bit ∙ h name bit)

-- ---- one connection

pub drive_is : (inner : List (BitOf × Origin)) (offset : ℕ) (port : Port) (conn : Connection) (w : Selection) (pin name : List ℕ) (from to k : ℕ) → pin ≡ conn.pin.name → from ≡ first conn.pin.subscript → name ≡ w.name → to ≡ first w.subscript → k ≡ count conn.pin.subscript port.width → port.input ≡ false → conn.source ≡ source.Net w →
    driven_bits inner offset pin from name to k ≡ driven_by inner offset (Some port) conn
drive_is inner offset port conn w pin name from to k a b c d e f g =
    ap (λ (x : List ℕ). driven_bits inner offset x from name to k) a
    ∙ ap (λ (x : ℕ). driven_bits inner offset conn.pin.name x name to k) b
    ∙ ap (λ (x : List ℕ). driven_bits inner offset conn.pin.name (first conn.pin.subscript) x to k) c
    ∙ ap (λ (x : ℕ). driven_bits inner offset conn.pin.name (first conn.pin.subscript) w.name x k) d
    ∙ ap (λ (x : ℕ). driven_bits inner offset conn.pin.name (first conn.pin.subscript) w.name (first w.subscript) x) e
    ∙ sym (ap (λ (t : Bool). cond t [] (driven_to inner offset conn (count conn.pin.subscript port.width) conn.source)) f ∙ ap (driven_to inner offset conn (count conn.pin.subscript port.width)) g)

pub feed_is : (wires : List (BitOf × Origin)) (port : Port) (conn : Connection) (pin : List ℕ) (from k : ℕ) → pin ≡ conn.pin.name → from ≡ first conn.pin.subscript → k ≡ count conn.pin.subscript port.width → port.input ≡ true → fed_bits wires conn.source pin from k ≡ fed_by wires (Some port) conn
feed_is wires port conn pin from k a b e f =
    ap (λ (x : List ℕ). fed_bits wires conn.source x from k) a
    ∙ ap (λ (x : ℕ). fed_bits wires conn.source conn.pin.name x k) b
    ∙ ap (λ (x : ℕ). fed_bits wires conn.source conn.pin.name (first conn.pin.subscript) x) e
    ∙ sym (ap (λ (t : Bool). cond t (fed_bits wires conn.source conn.pin.name (first conn.pin.subscript) (count conn.pin.subscript port.width)) []) f)

-- ---- a whole chip

at_length : (chips : Chips) (nest : List Nested) (i : ℕ) (ps : List Part) (rs : List ℕ) → AreAt chips nest i ps rs → length rs ≡ length ps
at_length chips nest i [] [] h = refl
at_length chips nest i [] (r ∷ rs) h = absurd h
at_length chips nest i (p ∷ ps) [] h = absurd h
at_length chips nest i (p ∷ ps) (r ∷ rs) h = ap suc (at_length chips nest i ps rs h.1)

at_below : (chips : Chips) (nest : List Nested) (i : ℕ) (ps : List Part) (rs : List ℕ) → AreAt chips nest i ps rs → (k d : ℕ) → k < length rs → slice_index_or rs k d < i
at_below chips nest i [] [] h k d lt = absurd (omega (arith, lt))
at_below chips nest i [] (r ∷ rs) h k d lt = absurd h
at_below chips nest i (p ∷ ps) [] h k d lt = absurd h
at_below chips nest i (p ∷ ps) (r ∷ rs) h zero d lt = h.0.before
at_below chips nest i (p ∷ ps) (r ∷ rs) h (suc k) d lt = at_below chips nest i ps rs h.1 k d (omega (arith, lt))

module _ (chips : Chips) (nest : List Nested) (plans : List Plan) (nested : Nested) (is : IsNested chips nest (length plans) nested) where
  pub at_hand : ArePlans chips plans → AreAtHand chips plans nested.parts.items
  at_hand planned = record {
    within = at_below chips nest (length plans) (parts_of chips is.chip) nested.parts.items is.parts;
    there = λ i plan e. (planned i plan e).there;
    inputs = λ i plan e. (planned i plan e).inputs;
  }

  pub parts_long : (chip : Entry) → slice_get chips.entries nested.number ≡ Some chip → length nested.parts.items ≡ length (parts_of chips chip)
  parts_long chip there =
      let both : Some is.chip ≡ Some chip = sym is.there ∙ there in
      let same : is.chip ≡ chip = cc in
      at_length chips nest (length plans) (parts_of chips is.chip) nested.parts.items is.parts ∙ ap (λ (x : Entry). length (parts_of chips x)) same

  have : ArePlans chips plans → FollowNest nest plans → (ps : List Part) (rs : List ℕ) → AreAt chips nest (length plans) ps rs → HavePlans chips plans (length plans) ps (plans_at plans rs) rs
  have planned follow [] [] h = tt
  have planned follow [] (r ∷ rs) h = absurd h
  have planned follow (p ∷ ps) [] h = absurd h
  have planned follow (p ∷ ps) (r ∷ rs) h =
      let s = h.0 in
      let got = get_there plans r s.before in
      let number : got.0.number ≡ s.nested.number = follow r s.nested got.0 s.at got.1 in
      let both : Some s.chip ≡ Some got.0.entry.now = sym s.there ∙ ap (slice_get chips.entries) (sym number) ∙ (planned r got.0 got.1).there in
      subst (λ (t : List Plan). HavePlans chips plans (length plans) (p ∷ ps) t (r ∷ rs)) (sym (plans_next plans r rs got.0 got.1))
      (record { before = s.before; at = got.1; found = s.found ∙ both }, have planned follow ps rs h.1)

  pub placed : ArePlans chips plans → FollowNest nest plans → (chip : Entry) → slice_get chips.entries nested.number ≡ Some chip → IsFine chips chip × HavePlans chips plans (length plans) (parts_of chips chip) (plans_at plans nested.parts.items) nested.parts.items
  placed planned follow chip there =
      let both : Some is.chip ≡ Some chip = sym is.there ∙ there in
      let same : is.chip ≡ chip = cc in
      subst (λ (x : Entry). IsFine chips x × HavePlans chips plans (length plans) (parts_of chips x) (plans_at plans nested.parts.items) nested.parts.items) same
      (is.fine, have planned follow (parts_of chips is.chip) nested.parts.items is.parts)

-- ---- how many output bits an end has

pub length_bits : (name : List ℕ) (from n : ℕ) → length (bits_of name from n) ≡ n
length_bits name from zero = refl
length_bits name from (suc n) = omega (arith, length-append (bits_of name from n) (record { name = name; bit = from + n } ∷ []), length_bits name from n)

pub widths : List (List ℕ × ℕ) → ℕ
widths [] = 0
widths (e ∷ es) = e.1 + widths es

pub length_all : (pins : List Pin) → length (all_bits pins) ≡ widths (named_pins pins)
unfolding widths
length_all [] = refl
length_all (p ∷ ps) = omega (arith, length-append (bits_of p.name 0 (pin_width p)) (all_bits ps), length_bits p.name 0 (pin_width p), length_all ps)

end_few : (e : End) → widths (end_outputs e) ≤ 16
unfolding widths
end_few ends.Nand = omega arith
end_few ends.Dff = omega arith
end_few ends.Keyboard = omega arith
end_few ends.Rom = omega arith
end_few (ends.Block bits) = omega arith

pub end_wide : (e : End) → widths (end_outputs e) ≡ end_nodes (Some e)
unfolding widths
end_wide ends.Nand = refl
end_wide ends.Dff = refl
end_wide ends.Keyboard = refl
end_wide ends.Rom = refl
end_wide (ends.Block bits) = refl

few_by : (chips : Chips) (chip : Entry) (outputs : List Bit) (o : Option End) → EndsHavePins chips → IsFine chips chip → map bit_of outputs ≡ all_bits chip.chip.outputs → end_of chips.memories chip ≡ o → IsSome o → length outputs ≤ 16
few_by chips chip outputs None ends fine e is some = absurd cc
few_by chips chip outputs (Some x) ends fine e is some =
    let pins = ends fine.name chip x fine.found is in
    let long : length outputs ≡ widths (end_outputs x) = sym (length_map outputs) ∙ ap length e ∙ length_all chip.chip.outputs ∙ ap widths pins.outputs in
    omega (arith, end_few x)

pub few_outputs : (chips : Chips) (chip : Entry) (outputs : List Bit) → EndsHavePins chips → IsFine chips chip → map bit_of outputs ≡ all_bits chip.chip.outputs → IsSome (end_of chips.memories chip) → length outputs ≤ 16
few_outputs chips chip outputs ends fine e some = few_by chips chip outputs (end_of chips.memories chip) ends fine e refl some

-- ---- one plan more

have_grows : (chips : Chips) (plans more : List Plan) (i : ℕ) (ps : List Part) (xs : List Plan) (rs : List ℕ) → HavePlans chips plans i ps xs rs → HavePlans chips (plans ++ more) i ps xs rs
have_grows chips plans more i [] [] [] h = tt
have_grows chips plans more i [] [] (r ∷ rs) h = absurd h
have_grows chips plans more i [] (x ∷ xs) rs h = absurd h
have_grows chips plans more i (p ∷ ps) [] rs h = absurd h
have_grows chips plans more i (p ∷ ps) (x ∷ xs) [] h = absurd h
have_grows chips plans more i (p ∷ ps) (x ∷ xs) (r ∷ rs) h = (record { before = h.0.before; at = get_front plans more r x h.0.at; found = h.0.found }, have_grows chips plans more i ps xs rs h.1)

planned_grows : (chips : Chips) (plans more : List Plan) (i : ℕ) (plan : Plan) → IsPlanned chips plans i plan → IsPlanned chips (plans ++ more) i plan
planned_grows chips plans more i plan p = record {
  there = p.there;
  fine = p.fine;
  is_end = p.is_end;
  inner = p.inner;
  placed = have_grows chips plans more i (parts_of chips plan.entry.now) p.inner (places plan.parts.items) p.placed;
  size = p.size;
  inputs = p.inputs;
  wires = p.wires;
  outs = p.outs;
  parts = p.parts;
}

pub plans_more : (chips : Chips) (plans : List Plan) (plan : Plan) → ArePlans chips plans → IsPlanned chips plans (length plans) plan → ArePlans chips (plans ++ plan ∷ [])
plans_more chips plans plan are one i other got = by (last_or plans plan other i got)
  where
    by : (slice_get plans i ≡ Some other) ⊎ ((i ≡ length plans) × (plan ≡ other)) → IsPlanned chips (plans ++ plan ∷ []) i other
    by (inl h) = planned_grows chips plans (plan ∷ []) i other (are i other h)
    by (inr h) = subst (λ (z : Plan). IsPlanned chips (plans ++ plan ∷ []) i z) h.1 (subst (λ (n : ℕ). IsPlanned chips (plans ++ plan ∷ []) n plan) (sym h.0) (planned_grows chips plans (plan ∷ []) (length plans) plan one))

pub follow_more : (nest : List Nested) (plans : List Plan) (nested : Nested) (plan : Plan) → FollowNest nest plans → slice_get nest (length plans) ≡ Some nested → plan.number ≡ nested.number → FollowNest nest (plans ++ plan ∷ [])
follow_more nest plans nested plan follow here number i other x e got = by (last_or plans plan x i got)
  where
    by : (slice_get plans i ≡ Some x) ⊎ ((i ≡ length plans) × (plan ≡ x)) → x.number ≡ other.number
    by (inl h) = follow i other x e h
    by (inr h) =
        let both : Some nested ≡ Some other = sym here ∙ ap (slice_get nest) (sym h.0) ∙ e in
        let same : nested ≡ other = cc in
        ap (λ (z : Plan). z.number) (sym h.1) ∙ number ∙ ap (λ (z : Nested). z.number) same

-- ---- what a chip's wires and its plan are

pub wires_are : (chips : Chips) (entry : Entry) (inner : List Plan) (a b c d : List (BitOf × Origin)) (ins outs : List BitOf) (e : Option End) (own : Size) (parts : List Part) → a ≡ [] → ins ≡ all_bits entry.chip.inputs → outs ≡ all_bits entry.chip.outputs → e ≡ end_of chips.memories entry → own ≡ own_size chips entry → parts ≡ parts_of chips entry →
    FindsMore a b (numbered_bits Input 0 ins) → FindsMore b c (end_gates e outs) → FindsMore c d (parts_driven own parts inner) → (name : List ℕ) (bit : ℕ) → found_bit name bit d ≡ found_bit name bit (own_wires chips entry inner)
wires_are chips entry inner a b c d ins outs e own parts none i o is size ps f g h name bit =
    let last : FindsMore b d (end_gates e outs ++ parts_driven own parts inner) = more_then b c d (end_gates e outs) (parts_driven own parts inner) g h in
    let all : FindsMore a d (numbered_bits Input 0 ins ++ (end_gates e outs ++ parts_driven own parts inner)) = more_then a b d (numbered_bits Input 0 ins) (end_gates e outs ++ parts_driven own parts inner) f last in
    all name bit
    ∙ ap (λ (t : List (BitOf × Origin)). found_bit name bit (t ++ (numbered_bits Input 0 ins ++ (end_gates e outs ++ parts_driven own parts inner)))) none
    ∙ ap (λ (t : List BitOf). found_bit name bit (numbered_bits Input 0 t ++ (end_gates e outs ++ parts_driven own parts inner))) i
    ∙ ap (λ (t : List BitOf). found_bit name bit (numbered_bits Input 0 (all_bits entry.chip.inputs) ++ (end_gates e t ++ parts_driven own parts inner))) o
    ∙ ap (λ (t : Option End). found_bit name bit (numbered_bits Input 0 (all_bits entry.chip.inputs) ++ (end_gates t (all_bits entry.chip.outputs) ++ parts_driven own parts inner))) is
    ∙ ap (λ (t : Size). found_bit name bit (numbered_bits Input 0 (all_bits entry.chip.inputs) ++ (end_gates (end_of chips.memories entry) (all_bits entry.chip.outputs) ++ parts_driven t parts inner))) size
    ∙ ap (λ (t : List Part). found_bit name bit (numbered_bits Input 0 (all_bits entry.chip.inputs) ++ (end_gates (end_of chips.memories entry) (all_bits entry.chip.outputs) ++ parts_driven (own_size chips entry) t inner))) ps

pub plan_is : (chips : Chips) (nest : List Nested) (plans : List Plan) (nested : Nested) → IsNested chips nest (length plans) nested → ArePlans chips plans → FollowNest nest plans → (plan : Plan) (own : Size) → plan.number ≡ nested.number → slice_get chips.entries nested.number ≡ Some plan.entry.now → plan.end ≡ end_of chips.memories plan.entry.now → own ≡ own_size chips plan.entry.now →
    plan.size ≡ all_sized own (plans_at plans nested.parts.items) → map bit_of plan.inputs.items ≡ all_bits plan.entry.now.chip.inputs → ((name : List ℕ) (bit : ℕ) → found_bit name bit (wires_of plan.wires) ≡ found_bit name bit (own_wires chips plan.entry.now (plans_at plans nested.parts.items))) → plan.outs.items ≡ origins_at (wires_of plan.wires) (all_bits plan.entry.now.chip.outputs) →
    ArePartPlans (wires_of plan.wires) own (parts_of chips plan.entry.now) (plans_at plans nested.parts.items) plan.parts.items → places plan.parts.items ≡ nested.parts.items → IsPlanned chips plans (length plans) plan
plan_is chips nest plans nested is are follow plan own number there end own_is size inputs wires outs parts at =
    let f = placed chips nest plans nested is are follow plan.entry.now there in
    record {
      there = ap (slice_get chips.entries) number ∙ there;
      fine = f.0;
      is_end = end;
      inner = plans_at plans nested.parts.items;
      placed = subst (λ (rs : List ℕ). HavePlans chips plans (length plans) (parts_of chips plan.entry.now) (plans_at plans nested.parts.items) rs) (sym at) f.1;
      size = size ∙ ap (λ (s : Size). all_sized s (plans_at plans nested.parts.items)) own_is;
      inputs = inputs;
      wires = wires;
      outs = outs;
      parts = subst (λ (s : Size). ArePartPlans (wires_of plan.wires) s (parts_of chips plan.entry.now) (plans_at plans nested.parts.items) plan.parts.items) own_is parts;
    }
