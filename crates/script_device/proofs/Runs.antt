-- Which netlist runs for a chip.
use Rattle.std.proofs.Common.{◌≡◌, ◌⊎◌, ℕ, Bool, true, false, List, [], ◌∷◌, Option, Some, None, refl, ap, inl, inr}
use Rattle.std.specs.Prelude.{◌&&◌, ◌||◌, MatchOption, slice_get}
use Rattle.std.specs.List.{All}
use Rattle.std.proofs.lemmas.List.Elements.{All-cons, All-head, All-nil, All-tail}
use Rattle.netlist.specs.declared.node.Node.{Node}
use Rattle.netlist.specs.declared.node.Node.TheVariants.{Pin, Nand, Flip, Word, Zero}
use Rattle.gate_sim.specs.Calls.{is_pin}
use Rattle.script_device.specs.declared.chip_sim.WholeNet.{WholeNet}
use Rattle.script_device.specs.Simulated.{Frame, IsPlaced, IsSimple, IsWanted, RunsNet, is_among}
use Rattle.script_device.specs.Inner.Wanted.{are_wanted, keeps_wanted}
use Rattle.script_device.proofs.Keeping.{among_contains, contains_among}

-- ---- what is kept

pin_is : (node : Option Node) → is_pin node ≡ true → node ≡ Some Pin
pin_is None e = absurd (let no : ⊥ = cc in no)
pin_is (Some Pin) e = refl
pin_is (Some (Nand i j)) e = absurd (let no : ⊥ = cc in no)
pin_is (Some (Flip i)) e = absurd (let no : ⊥ = cc in no)
pin_is (Some (Word b bit)) e = absurd (let no : ⊥ = cc in no)
pin_is (Some Zero) e = absurd (let no : ⊥ = cc in no)

or_either : (b c : Bool) → (b || c) ≡ true → (b ≡ true) ⊎ (c ≡ true)
or_either true c e = inl refl
or_either false c e = inr e

or_left : (b c : Bool) → b ≡ true → (b || c) ≡ true
or_left true c e = refl
or_left false c e = absurd (let no : ⊥ = cc in no)

or_right : (b c : Bool) → c ≡ true → (b || c) ≡ true
or_right true c e = refl
or_right false c e = e

and_both : (b c : Bool) → b ≡ true → c ≡ true → (b && c) ≡ true
and_both true c e f = f
and_both false c e f = e

and_first : (b c : Bool) → (b && c) ≡ true → b ≡ true
and_first true c e = refl
and_first false c e = e

and_second : (b c : Bool) → (b && c) ≡ true → c ≡ true
and_second true c e = e
and_second false c e = absurd (let no : ⊥ = cc in no)

module _ (nodes : List Node) (named : List ℕ) where
  told : (k : ℕ) → IsWanted nodes named k → (is_pin (slice_get nodes k) || is_among named k) ≡ true
  told k (inl pin) = or_left (is_pin (slice_get nodes k)) (is_among named k) (ap is_pin pin)
  told k (inr has) = or_right (is_pin (slice_get nodes k)) (is_among named k) (contains_among named k has)

  found : (k : ℕ) → (is_pin (slice_get nodes k) || is_among named k) ≡ true → IsWanted nodes named k
  found k e = elim (or_either (is_pin (slice_get nodes k)) (is_among named k) e) [
    | inl pin ↦ inl (pin_is (slice_get nodes k) pin)
    | inr has ↦ inr (among_contains named k has)
  ]

  all_told : (kept : List ℕ) → All (IsWanted nodes named) kept → are_wanted nodes named kept ≡ true
  all_told [] all = refl
  all_told (k ∷ kept) all = and_both _ _ (told k (All-head (IsWanted nodes named) k kept all)) (all_told kept (All-tail (IsWanted nodes named) k kept all))

  all_found : (kept : List ℕ) → are_wanted nodes named kept ≡ true → All (IsWanted nodes named) kept
  all_found [] e = All-nil (IsWanted nodes named)
  all_found (k ∷ kept) e = All-cons (IsWanted nodes named) k kept (found k (and_first _ _ e)) (all_found kept (and_second _ _ e))

-- ---- the netlist that runs

-- of a simplified netlist no node is kept that is not wanted
simple_in : (named : List ℕ) (f : Frame) (w : Option WholeNet) → MatchOption w ⊥ (λ whole. IsPlaced whole f.net × All (IsWanted whole.net.nodes named) whole.kept.items) → keeps_wanted named w ≡ true
simple_in named f None h = absurd h
simple_in named f (Some whole) h = all_told whole.net.nodes named whole.kept.items h.1

pub simple_wanted : (named : List ℕ) (f : Frame) → IsSimple named f → keeps_wanted named f.whole ≡ true
simple_wanted named f h = simple_in named f f.whole h

pub own_wanted : (named : List ℕ) (f : Frame) → f.whole ≡ None → keeps_wanted named f.whole ≡ true
own_wanted named f e = ap (keeps_wanted named) e

-- so it is a simplified one, or its own
placed_in : (named : List ℕ) (f : Frame) (w : Option WholeNet) → MatchOption w ⊥ (λ whole. IsPlaced whole f.net) → keeps_wanted named w ≡ true → MatchOption w ⊥ (λ whole. IsPlaced whole f.net × All (IsWanted whole.net.nodes named) whole.kept.items)
placed_in named f None h e = h
placed_in named f (Some whole) h e = (h, all_found whole.net.nodes named whole.kept.items e)

pub runs_told : (named : List ℕ) (f : Frame) (simplified : Bool) → (simplified ≡ true → MatchOption f.whole ⊥ (λ whole. IsPlaced whole f.net)) → (simplified ≡ false → f.whole ≡ None) → keeps_wanted named f.whole ≡ true → RunsNet simplified named f
runs_told named f true simple own wanted = placed_in named f f.whole (simple refl) wanted
runs_told named f false simple own wanted = own refl
