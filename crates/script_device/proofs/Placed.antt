-- What a simulator of a chip shows by the nodes of the chip, where its netlist is simplified, or not.
use Rattle.std.proofs.Common.{◌≡◌, ℕ, ◌<◌, Bool, true, ltb-true, List, [], ◌∷◌, length, Option, Some, None, refl, ap, sym, ◌∙◌, subst}
use Rattle.std.specs.Prelude.{slice_get, slice_index, MatchOption}
use Rattle.std.specs.Option.{option_map}
use Rattle.std.specs.List.{Contains}
use Rattle.std.proofs.lemmas.List.{get_or_default}
use Rattle.netlist.specs.declared.node.Node.TheVariants.{Pin}
use Rattle.netlist.specs.declared.node.Block.{Block}
use Rattle.netlist.specs.Net.{Net}
use Rattle.netlist.specs.Present.{value_in}
use Rattle.netlist.specs.Histories.{rank}
use Rattle.net_simplify.specs.Same.{shape}
use Rattle.gate_sim.specs.Calls.{Call, cycle_of, evaluated_calls}
use Rattle.gate_sim.specs.Calls.Call.{Load, Set, Eval, Tick, Tock}
use Rattle.gate_sim.specs.State.{SimState}
use Rattle.gate_sim.specs.Stands.{StandsFor}
use Rattle.gate_sim.specs.Values.{ArePast, AreValues, words_of}
use Rattle.gate_sim.proofs.Exist.{values_of}
use Rattle.script_device.specs.declared.chip_sim.WholeNet.{WholeNet}
use Rattle.script_device.specs.Simulated.{ChipState, IsPlaced, IsSeen, StandsIn, can_read, WasTold, net_of, place_in, stored_at, whole_net}
use Rattle.script_device.proofs.Alike.{IsKept, kept_alike, kept_pin, kept_words}
use Rattle.script_device.proofs.Keeping.{among_contains}
use Rattle.script_device.proofs.Told.{past_now}

-- ---- calls

same_some : (x y : List Call) → Some x ≡ Some y → x ≡ y
same_some x y e = cc

-- after the last evaluation no cycle is over
told_cycle : (calls told : List Call) → evaluated_calls calls ≡ Some told → cycle_of calls ≡ cycle_of told
told_cycle [] told e = absurd cc
told_cycle (Load block from words ∷ calls) told e = told_cycle calls told e
told_cycle (Set node bit ∷ calls) told e = told_cycle calls told e
told_cycle (Eval ∷ calls) told e = ap cycle_of (same_some (Eval ∷ calls) told e)
told_cycle (Tick ∷ calls) told e = ap cycle_of (same_some (Tick ∷ calls) told e)
told_cycle (Tock ∷ calls) told e = ap cycle_of (same_some (Tock ∷ calls) told e)

-- ---- blocks of one shape

abbrev words_in : Option (ℕ × ℕ × ℕ) → ℕ
words_in None = 0
words_in (Some s) = s.0

room_too : (P : ℕ → Type 0) (o o' : Option Block) → option_map shape o ≡ option_map shape o' → MatchOption o ⊥ (λ b. P b.words) → MatchOption o' ⊥ (λ b. P b.words)
room_too P None o' e h = absurd h
room_too P (Some b) None e h = absurd (let no : ⊥ = cc in no)
room_too P (Some b) (Some b') e h = subst P (ap words_in e) h

block_too : (P : ℕ → Type 0) (whole : Option WholeNet) (net : Net) → StandsIn whole net → (b : ℕ) → MatchOption (slice_get (whole_net whole net).blocks b) ⊥ (λ k. P k.words) → MatchOption (slice_get net.blocks b) ⊥ (λ k. P k.words)
block_too P None net p b h = h
block_too P (Some whole) net p b h = room_too P (slice_get whole.net.blocks b) (slice_get net.blocks b) (p.simplified.same.blocks b) h

-- ---- nodes that are kept

module _ (whole : WholeNet) (net : Net) (p : IsPlaced whole net) where
  abbrev at : ℕ → ℕ
  at = slice_index whole.places.items

  abbrev IsKeptNode : ℕ → Type 0
  IsKeptNode = IsKept whole.net net whole.kept.items p.place at p.ordered p.folded p.at

  pub kept_of : (k : ℕ) → Contains whole.kept.items k → IsKeptNode k
  kept_of k (i, less, e) = (i, less, get_or_default whole.kept.items i 0 k less ∙ e)

  pub pin_kept : (k : ℕ) → slice_get whole.net.nodes k ≡ Some Pin → (slice_get net.nodes (at k) ≡ Some Pin) × (rank whole.net.nodes k ≡ rank net.nodes (at k))
  pin_kept k pin = kept_pin whole.net net whole.kept.items p.place at p.ordered p.folded p.at k (kept_of k (p.pins k pin)) pin

  within : (k : ℕ) → IsKeptNode k → k < length whole.net.nodes
  within k (i, less, e) = subst (λ n. n < length whole.net.nodes) e (p.inside i 0 less)

  inside_too : (k : ℕ) → IsKeptNode k → at k < length net.nodes
  inside_too k (i, less, e) =
      subst (λ n. n < length net.nodes) (sym (p.at i less) ∙ ap at e) (p.simplified.same.inside i less)

  module _ (sim : SimState) (same : sim.net ≡ net) (calls told : List Call) (v : ℕ → ℕ → Bool) (stands : StandsFor sim calls) (last : evaluated_calls calls ≡ Some told) (are : AreValues whole.net told v) where
    own : (u : ℕ → ℕ → Bool) × AreValues net told u
    own = values_of net p.own_ordered told

    node_value : (k : ℕ) → IsKeptNode k → value_in sim.values (at k) ≡ v k (cycle_of told)
    node_value k kept =
        stands.values told last own.0 (subst (λ n. AreValues n told own.0) (sym same) own.1) (at k)
        (subst (λ (n : Net). at k < length n.nodes) (sym same) (inside_too k kept))
        ∙ sym (kept_alike whole.net net whole.kept.items p.place at p.ordered p.folded p.at told v own.0 are own.1 k kept (within k kept))

    own_past : ArePast sim.net calls (cycle_of calls) own.0
    own_past = subst (λ n. ArePast n calls (cycle_of calls) own.0) (sym same) (past_now net calls told own.0 last own.1.0)

    words_too : (b a : ℕ) → words_of sim.net.blocks own.0 calls b a ≡ words_of whole.net.blocks v calls b a
    words_too b a =
        ap (λ (n : Net). words_of n.blocks own.0 calls b a) same
        ∙ sym (kept_words whole.net net whole.kept.items p.place at p.ordered p.folded p.at told calls (told_cycle calls told last) v own.0 are own.1 b a)

-- ---- a simulator of a chip

abbrev pub state_of : SimState → Option WholeNet → ChipState
state_of sim whole = record { sim = sim; frame = record { whole = whole; net = sim.net } }

pin_at : (whole : Option WholeNet) (net : Net) → StandsIn whole net → (k : ℕ) → slice_get (whole_net whole net).nodes k ≡ Some Pin
    → (slice_get net.nodes (place_in whole k) ≡ Some Pin) × (rank (whole_net whole net).nodes k ≡ rank net.nodes (place_in whole k))
pin_at None net p k e = (e, refl)
pin_at (Some whole) net p k e = pin_kept whole net p k e

is_inside : (whole : Option WholeNet) (net : Net) → StandsIn whole net → (k : ℕ) → can_read whole net k ≡ true → place_in whole k < length net.nodes
is_inside None net p k seen = ltb-true k (length net.nodes) seen
is_inside (Some whole) net p k seen = inside_too whole net p k (kept_of whole net p k (among_contains whole.kept.items k seen))

seen_in : (sim : SimState) (whole : Option WholeNet) → StandsIn whole sim.net → (calls told : List Call) (v : ℕ → ℕ → Bool) → StandsFor sim calls
    → evaluated_calls calls ≡ Some told → AreValues (whole_net whole sim.net) told v
    → (k : ℕ) → can_read whole sim.net k ≡ true → value_in sim.values (place_in whole k) ≡ v k (cycle_of told)
seen_in sim None p calls told v stands last are k seen = stands.values told last v are k (ltb-true k (length sim.net.nodes) seen)
seen_in sim (Some whole) p calls told v stands last are k seen = node_value whole sim.net p sim refl calls told v stands last are k (kept_of whole sim.net p k (among_contains whole.kept.items k seen))

-- what it stores shows the values
abbrev Shows : ChipState → Type 0
Shows s = (calls told : List Call) (v : ℕ → ℕ → Bool) → WasTold s calls → evaluated_calls calls ≡ Some told → AreValues (net_of s.frame) told v → (k : ℕ) → IsSeen s.frame k → stored_at s k ≡ v k (cycle_of told)

pub value_seen : (s : ChipState) (sim : SimState) (whole : Option WholeNet) → state_of sim whole ≡ s → StandsIn whole sim.net → Shows s
value_seen s sim whole view p = subst Shows view (λ calls told v was last are k seen. seen_in sim whole p calls told v was last are k seen)

word_in : (sim : SimState) (whole : Option WholeNet) → StandsIn whole sim.net → (calls told : List Call) (v : ℕ → ℕ → Bool) → StandsFor sim calls
    → evaluated_calls calls ≡ Some told → AreValues (whole_net whole sim.net) told v → (b a word : ℕ)
    → ((calls' : List Call) (u : ℕ → ℕ → Bool) → StandsFor sim calls' → ArePast sim.net calls' (cycle_of calls') u → word ≡ words_of sim.net.blocks u calls' b a)
    → word ≡ words_of (whole_net whole sim.net).blocks v calls b a
word_in sim None p calls told v stands last are b a word by = by calls v stands (past_now sim.net calls told v last are.0)
word_in sim (Some whole) p calls told v stands last are b a word by =
    by calls (own whole sim.net p sim refl calls told v stands last are).0 stands (own_past whole sim.net p sim refl calls told v stands last are)
    ∙ words_too whole sim.net p sim refl calls told v stands last are b a

-- the word is what stands in the block
abbrev ShowsWord : ℕ → ℕ → ℕ → ChipState → Type 0
ShowsWord b a word s = (calls told : List Call) (v : ℕ → ℕ → Bool) → WasTold s calls → evaluated_calls calls ≡ Some told → AreValues (net_of s.frame) told v → word ≡ words_of (net_of s.frame).blocks v calls b a

pub word_seen : (s : ChipState) (sim : SimState) (whole : Option WholeNet) → state_of sim whole ≡ s → StandsIn whole sim.net → (b a word : ℕ)
    → ((calls' : List Call) (u : ℕ → ℕ → Bool) → StandsFor sim calls' → ArePast sim.net calls' (cycle_of calls') u → word ≡ words_of sim.net.blocks u calls' b a)
    → ShowsWord b a word s
word_seen s sim whole view p b a word by =
    subst (ShowsWord b a word) view (λ calls told v was last are. word_in sim whole p calls told v was last are b a word by)

abbrev HasValues : ChipState → Type 0
HasValues s = (calls : List Call) → (v : ℕ → ℕ → Bool) × AreValues (net_of s.frame) calls v

values_in : (whole : Option WholeNet) (net : Net) → StandsIn whole net → (calls : List Call) → (v : ℕ → ℕ → Bool) × AreValues (whole_net whole net) calls v
values_in None net p calls = values_of net p calls
values_in (Some whole) net p calls = values_of whole.net p.ordered calls

pub has_values : (s : ChipState) (sim : SimState) (whole : Option WholeNet) → state_of sim whole ≡ s → StandsIn whole sim.net → HasValues s
has_values s sim whole view p = subst HasValues view (values_in whole sim.net p)

-- ---- what is asked of its simulator

module _ (s : ChipState) (sim : SimState) (whole : Option WholeNet) (view : state_of sim whole ≡ s) (p : StandsIn whole sim.net) where
  pub room_in : (P : ℕ → Type 0) (b : ℕ) → MatchOption (slice_get (net_of s.frame).blocks b) ⊥ (λ k. P k.words) → MatchOption (slice_get sim.net.blocks b) ⊥ (λ k. P k.words)
  room_in P b h = block_too P whole sim.net p b (subst (λ (x : ChipState). MatchOption (slice_get (net_of x.frame).blocks b) ⊥ (λ k. P k.words)) (sym view) h)

  pub seen_inside : (k : ℕ) → IsSeen s.frame k → place_in whole k < length sim.net.nodes
  seen_inside k seen = is_inside whole sim.net p k (subst (λ (x : ChipState). IsSeen x.frame k) (sym view) seen)

  pub pin_inside : (k : ℕ) → slice_get (net_of s.frame).nodes k ≡ Some Pin → (slice_get sim.net.nodes (place_in whole k) ≡ Some Pin) × (rank (net_of s.frame).nodes k ≡ rank sim.net.nodes (place_in whole k))
  pin_inside k pin =
      let there = pin_at whole sim.net p k (subst (λ (x : ChipState). slice_get (net_of x.frame).nodes k ≡ Some Pin) (sym view) pin) in
      (there.0, subst (λ (x : ChipState). rank (net_of x.frame).nodes k ≡ rank sim.net.nodes (place_in whole k)) view there.1)

-- ---- a call that leaves the netlist as it was

pub told_next : (s : ChipState) (old new : SimState) (whole : Option WholeNet) → state_of old whole ≡ s → (calls next : List Call) → (StandsFor old calls → StandsFor new next) → WasTold s calls → WasTold (state_of new whole) next
told_next s old new whole view calls next goes was = goes (subst (λ (x : ChipState). WasTold x calls) (sym view) was)
