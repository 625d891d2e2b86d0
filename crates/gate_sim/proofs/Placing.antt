-- Lists under other names.
use Rattle.std.proofs.Common.{◌≡◌, ◌≢◌, ◌<◌, ℕ, Bool, true, false, List, length, refl, set, arith, ap, sym, ◌∙◌, subst}
use Rattle.std.specs.Prelude.{not, slice_index}
use Rattle.std.proofs.lemmas.Bool.{false≢true}
use Rattle.netlist.specs.declared.node.Node.{Node}
use Rattle.netlist.specs.declared.node.Block.{Block}
use Rattle.gate_sim.specs.declared.pieces.Span.{Span}
use Rattle.gate_sim.specs.declared.plan.Lane.{Lane}
use Rattle.gate_sim.specs.declared.plan.Op.{Op}
use Rattle.gate_sim.specs.declared.plan.Slot.{Slot}
use Rattle.gate_sim.specs.declared.plan.Take.{Take}
use Rattle.netlist.specs.Present.{value_in}
use Rattle.gate_sim.specs.Inner.Pieces.{piece_of, pieces_in, AreReaders, AreIdle, AreGiven, take_mark}
use Rattle.gate_sim.specs.Inner.Plans.{node_at, place_of, IsPlan}
use Rattle.gate_sim.specs.Inner.Slots.{ArePlacedIn, bits_of, value_at, values_of, word_lane}
use Rattle.gate_sim.specs.Inner.Takes.{AreTakes}
use Rattle.gate_sim.proofs.Passing.{value_placed}

-- what is so of lists is so of those that they equal
pub over_lists : (P : List Node → List Block → List ℕ → List Lane → List Slot → Type 0) (nodes nodes' : List Node) (blocks blocks' : List Block) (lanes lanes' : List ℕ) (places places' : List Lane) (slots slots' : List Slot) → nodes' ≡ nodes → blocks' ≡ blocks → lanes' ≡ lanes → places' ≡ places → slots' ≡ slots → P nodes' blocks' lanes' places' slots' → P nodes blocks lanes places slots
over_lists P nodes nodes' blocks blocks' lanes lanes' places places' slots slots' en eb el ep es h =
    subst (λ x. P x blocks lanes places slots) en
    (subst (λ x. P nodes' x lanes places slots) eb
    (subst (λ x. P nodes' blocks' x places slots) el
    (subst (λ x. P nodes' blocks' lanes' x slots) ep
    (subst (λ x. P nodes' blocks' lanes' places' x) es h))))

-- places of a plan are lanes of its slots
pub placed_in : (nodes : List Node) (blocks : List Block) (ops : List Op) (lanes : List ℕ) (places : List Lane) (slots : List Slot) → IsPlan nodes blocks ops lanes places → length slots ≡ length ops → ArePlacedIn (length slots) places
placed_in nodes blocks ops lanes places slots plan long k less =
    let nodes_long = plan.places_long in
    let is = plan.placed k (omega arith) in
    let slot = is.slot in
    (omega arith, is.at)

pub placed_over : (places places' : List Lane) (slots slots' : List Slot) → places' ≡ places → slots' ≡ slots → ArePlacedIn (length slots) places → ArePlacedIn (length slots') places'
placed_over places places' slots slots' ep es h = subst (λ p. ArePlacedIn (length slots') p) (sym ep) (subst (λ s. ArePlacedIn (length s) places) (sym es) h)

pub value_over : (places places' : List Lane) (slots slots' : List Slot) (k : ℕ) → places' ≡ places → slots' ≡ slots → k < length places → value_at places' slots' k ≡ value_in (values_of places slots) k
value_over places places' slots slots' k ep es less =
    ap (λ p. value_at p slots' k) ep ∙ ap (λ s. value_at places s k) es ∙ sym (value_placed places slots k less)

-- the same the other way, with what flip-flops take
pub to_lists : {X : Type 0} (P : List Node → List ℕ → List Lane → List Take → List X → Type 0) (nodes nodes' : List Node) (lanes lanes' : List ℕ) (places places' : List Lane) (takes takes' : List Take) (slots slots' : List X) → nodes' ≡ nodes → lanes' ≡ lanes → places' ≡ places → takes' ≡ takes → slots' ≡ slots → P nodes lanes places takes slots → P nodes' lanes' places' takes' slots'
to_lists P nodes nodes' lanes lanes' places places' takes takes' slots slots' en el ep et es h =
    subst (λ x. P x lanes' places' takes' slots') (sym en)
    (subst (λ x. P nodes x places' takes' slots') (sym el)
    (subst (λ x. P nodes lanes x takes' slots') (sym ep)
    (subst (λ x. P nodes lanes places x slots') (sym et)
    (subst (λ x. P nodes lanes places takes x) (sym es) h))))

pub placed_to : (nodes : List Node) (blocks : List Block) (ops : List Op) (lanes : List ℕ) (places : List Lane) (n : ℕ) → IsPlan nodes blocks ops lanes places → n ≡ length ops → ArePlacedIn n places
placed_to nodes blocks ops lanes places n plan long k less =
    let nodes_long = plan.places_long in
    let is = plan.placed k (omega arith) in
    let slot = is.slot in
    (omega arith, is.at)

-- no two nodes have one place
pub apart_in : (nodes : List Node) (blocks : List Block) (ops : List Op) (lanes : List ℕ) (places : List Lane) → IsPlan nodes blocks ops lanes places → (i j : ℕ) → i < length places → j < length places → (place_of places i).slot ≡ (place_of places j).slot → (place_of places i).at ≡ (place_of places j).at → i ≡ j
apart_in nodes blocks ops lanes places plan i j a b es ea =
    let long = plan.places_long in
    let first = plan.placed i (omega arith) in
    let second = plan.placed j (omega arith) in
    sym first.same ∙ ap (λ q. node_at lanes q (place_of places i).at) es ∙ ap (node_at lanes (place_of places j).slot) ea ∙ second.same

pub bits_over : (places places' : List Lane) (old old' new : List ℕ) (k : ℕ) (bit : Bool) → places' ≡ places → old' ≡ old → bits_of places' new ≡ set (bits_of places' old') k bit → bits_of places new ≡ set (bits_of places old) k bit
bits_over places places' old old' new k bit ep eo h = subst (λ p. bits_of p new ≡ set (bits_of p old) k bit) ep (subst (λ o. bits_of places' new ≡ set (bits_of places' o) k bit) eo h)

-- the bits of a node, under other names of the lists
pub lane_over : (places places' : List Lane) (new old old' : List ℕ) (k : ℕ) → places' ≡ places → old' ≡ old → word_lane new (place_of places' k) ≡ word_lane old' (place_of places' k) → word_lane new (place_of places k) ≡ word_lane old (place_of places k)
lane_over places places' new old old' k ep eo h =
    subst (λ p. word_lane new (place_of p k) ≡ word_lane old (place_of p k)) ep
    (subst (λ o. word_lane new (place_of places' k) ≡ word_lane o (place_of places' k)) eo h)

pub lane_value_over : (places places' : List Lane) (new : List ℕ) (slots slots' : List Slot) (k i : ℕ) → places' ≡ places → slots' ≡ slots → word_lane new (place_of places' k) ≡ value_in (values_of places' slots') i → word_lane new (place_of places k) ≡ value_in (values_of places slots) i
lane_value_over places places' new slots slots' k i ep es h =
    subst (λ p. word_lane new (place_of p k) ≡ value_in (values_of p slots) i) ep
    (subst (λ s. word_lane new (place_of places' k) ≡ value_in (values_of places' s) i) es h)

pub plan_over : (nodes : List Node) (blocks : List Block) (ops ops' : List Op) (lanes lanes' : List ℕ) (places places' : List Lane) → ops' ≡ ops → lanes' ≡ lanes → places' ≡ places → IsPlan nodes blocks ops' lanes' places' → IsPlan nodes blocks ops lanes places
plan_over nodes blocks ops ops' lanes lanes' places places' eo el ep h =
    subst (λ x. IsPlan nodes blocks x lanes places) eo
    (subst (λ x. IsPlan nodes blocks ops' x places) el
    (subst (λ x. IsPlan nodes blocks ops' lanes' x) ep h))

pub takes_over : (nodes : List Node) (n n' : ℕ) (lanes lanes' : List ℕ) (places places' : List Lane) (takes takes' : List Take) → n' ≡ n → lanes' ≡ lanes → places' ≡ places → takes' ≡ takes → AreTakes nodes n' lanes' places' takes' → AreTakes nodes n lanes places takes
takes_over nodes n n' lanes lanes' places places' takes takes' en el ep et h =
    subst (λ x. AreTakes nodes x lanes places takes) en
    (subst (λ x. AreTakes nodes n' x places takes) el
    (subst (λ x. AreTakes nodes n' lanes' x takes) ep
    (subst (λ x. AreTakes nodes n' lanes' places' x) et h)))

-- ---- pieces, under other names of the lists

pub idle_over : (nodes nodes' : List Node) (lanes lanes' : List ℕ) (places places' : List Lane) (start start' : List ℕ) (ops ops' : List Op) (slots slots' : List Slot) (marks marks' : List Bool) → nodes' ≡ nodes → lanes' ≡ lanes → places' ≡ places → start' ≡ start → ops' ≡ ops → slots' ≡ slots → marks' ≡ marks → AreIdle (length nodes') lanes' (value_in (bits_of places' start')) ops' slots' marks' → AreIdle (length nodes) lanes (value_in (bits_of places start)) ops slots marks
idle_over nodes nodes' lanes lanes' places places' start start' ops ops' slots slots' marks marks' en el ep es eo et em h =
    subst (λ x. AreIdle (length x) lanes (value_in (bits_of places start)) ops slots marks) en
    (subst (λ x. AreIdle (length nodes') x (value_in (bits_of places start)) ops slots marks) el
    (subst (λ x. AreIdle (length nodes') lanes' (value_in (bits_of x start)) ops slots marks) ep
    (subst (λ x. AreIdle (length nodes') lanes' (value_in (bits_of places' x)) ops slots marks) es
    (subst (λ x. AreIdle (length nodes') lanes' (value_in (bits_of places' start')) x slots marks) eo
    (subst (λ x. AreIdle (length nodes') lanes' (value_in (bits_of places' start')) ops' x marks) et
    (subst (λ x. AreIdle (length nodes') lanes' (value_in (bits_of places' start')) ops' slots' x) em h))))))

pub given_over : (nodes nodes' : List Node) (places places' : List Lane) (takes takes' : List Take) (n n' : ℕ) (marks marks' : List Bool) (slots slots' : List Slot) (fixed fixed' : List ℕ) → nodes' ≡ nodes → places' ≡ places → takes' ≡ takes → n' ≡ n → marks' ≡ marks → slots' ≡ slots → fixed' ≡ fixed → AreGiven nodes' places' takes' (take_mark (pieces_in n') marks') (λ k i. value_in (values_of places' slots') i) fixed' → AreGiven nodes places takes (take_mark (pieces_in n) marks) (λ k i. value_in (values_of places slots) i) fixed
given_over nodes nodes' places places' takes takes' n n' marks marks' slots slots' fixed fixed' en ep et eo em es ef h =
    subst (λ x. AreGiven x places takes (take_mark (pieces_in n) marks) (λ k i. value_in (values_of places slots) i) fixed) en
    (subst (λ x. AreGiven nodes' x takes (take_mark (pieces_in n) marks) (λ k i. value_in (values_of x slots) i) fixed) ep
    (subst (λ x. AreGiven nodes' places' x (take_mark (pieces_in n) marks) (λ k i. value_in (values_of places' slots) i) fixed) et
    (subst (λ x. AreGiven nodes' places' takes' (take_mark (pieces_in x) marks) (λ k i. value_in (values_of places' slots) i) fixed) eo
    (subst (λ x. AreGiven nodes' places' takes' (take_mark (pieces_in n') x) (λ k i. value_in (values_of places' slots) i) fixed) em
    (subst (λ x. AreGiven nodes' places' takes' (take_mark (pieces_in n') marks') (λ k i. value_in (values_of places' x) i) fixed) es
    (subst (λ x. AreGiven nodes' places' takes' (take_mark (pieces_in n') marks') (λ k i. value_in (values_of places' slots') i) x) ef h))))))

pub taken_over : (nodes nodes' : List Node) (places places' : List Lane) (takes takes' : List Take) (due due' : List Bool) (fixed fixed' start start' : List ℕ) → nodes' ≡ nodes → places' ≡ places → takes' ≡ takes → due' ≡ due → fixed' ≡ fixed → start' ≡ start → AreGiven nodes' places' takes' (λ t. value_in due' (piece_of t)) (λ k i. word_lane fixed' (place_of places' k)) start' → AreGiven nodes places takes (λ t. value_in due (piece_of t)) (λ k i. word_lane fixed (place_of places k)) start
taken_over nodes nodes' places places' takes takes' due due' fixed fixed' start start' en ep et ed ef es h =
    subst (λ x. AreGiven x places takes (λ t. value_in due (piece_of t)) (λ k i. word_lane fixed (place_of places k)) start) en
    (subst (λ x. AreGiven nodes' x takes (λ t. value_in due (piece_of t)) (λ k i. word_lane fixed (place_of x k)) start) ep
    (subst (λ x. AreGiven nodes' places' x (λ t. value_in due (piece_of t)) (λ k i. word_lane fixed (place_of places' k)) start) et
    (subst (λ x. AreGiven nodes' places' takes' (λ t. value_in x (piece_of t)) (λ k i. word_lane fixed (place_of places' k)) start) ed
    (subst (λ x. AreGiven nodes' places' takes' (λ t. value_in due' (piece_of t)) (λ k i. word_lane x (place_of places' k)) start) ef
    (subst (λ x. AreGiven nodes' places' takes' (λ t. value_in due' (piece_of t)) (λ k i. word_lane fixed' (place_of places' k)) x) es h)))))

pub grows_over : (marks marks' new : List Bool) → marks' ≡ marks → ((m : ℕ) → value_in new m ≡ false → value_in marks' m ≡ false) → (m : ℕ) → value_in new m ≡ false → value_in marks m ≡ false
grows_over marks marks' new e grows = subst (λ x. (m : ℕ) → value_in new m ≡ false → value_in x m ≡ false) e grows

pub same_over : (words words' new : List ℕ) (marks : List Bool) → words' ≡ words → ((q : ℕ) → value_in marks (piece_of q) ≡ false → slice_index new q ≡ slice_index words' q) → (q : ℕ) → value_in marks (piece_of q) ≡ false → slice_index new q ≡ slice_index words q
same_over words words' new marks e same = subst (λ x. (q : ℕ) → value_in marks (piece_of q) ≡ false → slice_index new q ≡ slice_index x q) e same

-- where a pin was set only the word of its slot is another one, and that slot's piece is marked
pub same_set : (places places1 places2 : List Lane) (words words' new : List ℕ) (marks : List Bool) (node : ℕ) → places1 ≡ places → places2 ≡ places → words' ≡ words → ((q : ℕ) → q ≢ (place_of places1 node).slot → slice_index new q ≡ slice_index words' q) → value_in marks (piece_of (place_of places2 node).slot) ≡ true → (q : ℕ) → value_in marks (piece_of q) ≡ false → slice_index new q ≡ slice_index words q
same_set places places1 places2 words words' new marks node e1 e2 ew others on q off =
    others q (λ e. false≢true (sym off ∙ ap (λ x. value_in marks (piece_of x)) (e ∙ ap (λ p. (place_of p node).slot) (e1 ∙ sym e2)) ∙ on))
    ∙ ap (λ w. slice_index w q) ew

pub readers_over : (ops ops' : List Op) (takes takes' : List Take) (spans spans' : List Span) (list list' : List ℕ) (always always' : List Bool) → ops' ≡ ops → takes' ≡ takes → spans' ≡ spans → list' ≡ list → always' ≡ always → AreReaders ops' takes' spans' list' always' → AreReaders ops takes spans list always
readers_over ops ops' takes takes' spans spans' list list' always always' eo et es el ea h =
    subst (λ x. AreReaders x takes spans list always) eo
    (subst (λ x. AreReaders ops' x spans list always) et
    (subst (λ x. AreReaders ops' takes' x list always) es
    (subst (λ x. AreReaders ops' takes' spans' x always) el
    (subst (λ x. AreReaders ops' takes' spans' list' x) ea h))))

pub not_false : (b : Bool) → not b ≡ false → b ≡ true
not_false true e = refl
not_false false e = absurd (false≢true (sym e))
