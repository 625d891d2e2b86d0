-- Which nodes are kept: those that are named, and all pins.
use Rattle.std.proofs.Common.{◌≡◌, ℕ, zero, suc, Bool, true, false, eq-eqb, eqb-true, ◌+◌, ◌<◌, List, [], ◌∷◌, length, get_or, Some, refl, sym, ap, subst, ◌∙◌, arith, inl, inr}
use Rattle.std.specs.Prelude.{◌||◌, nat_eq, slice_get, slice_index}
use Rattle.std.specs.List.{All, Contains}
use Rattle.std.proofs.lemmas.Bool.{cases_eq}
use Rattle.std.proofs.lemmas.Option.{get_or_from_slice_get, slice_get-get_or}
use Rattle.std.proofs.lemmas.List.Elements.{All-contains_itself, All-push, All-weaker, Contains-append_left, Contains-push}
use Rattle.netlist.specs.declared.node.Node.{Node}
use Rattle.netlist.specs.declared.node.Node.TheVariants.{Pin, Nand, Flip, Word, Zero}
use Rattle.netlist.specs.Net.{Net}
use Rattle.net_simplify.specs.Twice.{IsFoldedTwice}
use Rattle.script_device.specs.Inner.Naming.{with_pin}
use Rattle.script_device.specs.Simulated.{IsWanted, is_among}

pub still : (kept : List ℕ) (k j : ℕ) (node : Node) → Contains kept j → Contains (with_pin kept k node) j
still kept k j Pin h = Contains-append_left kept (k ∷ []) j h
still kept k j (Nand a b) h = h
still kept k j (Flip a) h = h
still kept k j (Word a b) h = h
still kept k j Zero h = h

pub now_kept : (kept : List ℕ) (k : ℕ) (node : Node) → node ≡ Pin → Contains (with_pin kept k node) k
now_kept kept k Pin e = Contains-push kept k
now_kept kept k (Nand a b) e = absurd (let no : ⊥ = cc in no)
now_kept kept k (Flip a) e = absurd (let no : ⊥ = cc in no)
now_kept kept k (Word a b) e = absurd (let no : ⊥ = cc in no)
now_kept kept k Zero e = absurd (let no : ⊥ = cc in no)

pub all_there : (P : ℕ → Type 0) (kept : List ℕ) (k : ℕ) (node : Node) → P k → All P kept → All P (with_pin kept k node)
all_there P kept k Pin p h = All-push P kept k h p
all_there P kept k (Nand a b) p h = h
all_there P kept k (Flip a) p h = h
all_there P kept k (Word a b) p h = h
all_there P kept k Zero p h = h

-- of one node more
pub pin_next : (nodes : List Node) (kept : List ℕ) (k : ℕ) → ((j : ℕ) → j < k → slice_get nodes j ≡ Some Pin → Contains kept j) → (j : ℕ) → j < k + 1 → slice_get nodes j ≡ Some Pin
    → Contains (with_pin kept k (get_or nodes k Pin)) j
pin_next nodes kept k before j less pin =
    let node : Node = get_or nodes k Pin in
    elim (cases_eq j k) [
      | inl same ↦
          let here : slice_get nodes k ≡ Some Pin = subst (λ n. slice_get nodes n ≡ Some Pin) same pin in
          subst (Contains (with_pin kept k node)) (sym same) (now_kept kept k node (get_or_from_slice_get nodes k Pin Pin here))
      | inr other ↦ still kept k j node (before j (omega arith) pin)
    ]

-- only the named ones, and pins
pub only_named : (nodes : List Node) (named kept : List ℕ) → kept ≡ named → All (IsWanted nodes named) kept
only_named nodes named kept e =
    subst (All (IsWanted nodes named)) (sym e) (All-weaker (Contains named) (IsWanted nodes named) (λ k h. inr h) named (All-contains_itself named))

only_pin : (nodes : List Node) (named kept : List ℕ) (k : ℕ) (node : Node) → (node ≡ Pin → slice_get nodes k ≡ Some Pin) → All (IsWanted nodes named) kept → All (IsWanted nodes named) (with_pin kept k node)
only_pin nodes named kept k Pin is h = All-push (IsWanted nodes named) kept k h (inl (is refl))
only_pin nodes named kept k (Nand a b) is h = h
only_pin nodes named kept k (Flip a) is h = h
only_pin nodes named kept k (Word a b) is h = h
only_pin nodes named kept k Zero is h = h

pub only_next : (nodes : List Node) (named kept : List ℕ) (k : ℕ) → k < length nodes → All (IsWanted nodes named) kept → All (IsWanted nodes named) (with_pin kept k (get_or nodes k Pin))
only_next nodes named kept k less h = only_pin nodes named kept k (get_or nodes k Pin) (λ e. slice_get-get_or nodes k Pin less ∙ ap Some e) h

-- a node has one place alone
pub single_places : (old new : Net) (keep place k p : List ℕ) → IsFoldedTwice old new keep place → k ≡ keep → p ≡ place → (on : ℕ → ℕ) × ((i : ℕ) → i < length k → slice_index p i ≡ on (slice_index k i))
single_places old new keep place k p twice e f =
    let P : List ℕ → List ℕ → Type 0 = λ ks ps. (on : ℕ → ℕ) × ((i : ℕ) → i < length ks → slice_index ps i ≡ on (slice_index ks i)) in
    subst (λ ks. P ks p) (sym e) (subst (P keep) (sym f) ((λ l. twice.on (twice.to l)), λ i less. (twice.kept i less).2))

-- ---- the nodes that can be read

in_rest : (x : ℕ) (xs : List ℕ) (k : ℕ) → Contains xs k → Contains (x ∷ xs) k
in_rest x xs k (i, within, e) = (suc i, omega (arith, within), e)

pub among_contains : (xs : List ℕ) (k : ℕ) → is_among xs k ≡ true → Contains xs k
among_contains [] k e = absurd (let no : ⊥ = cc in no)
among_contains (x ∷ xs) k e = by (nat_eq x k) refl (among_contains xs k) e where
  by : (b : Bool) → nat_eq x k ≡ b → (is_among xs k ≡ true → Contains xs k) → (b || is_among xs k) ≡ true → Contains (x ∷ xs) k
  by true same rest h = (0, omega arith, eqb-true x k same)
  by false other rest h = in_rest x xs k (rest h)

or_right : (b c : Bool) → c ≡ true → (b || c) ≡ true
or_right true c e = refl
or_right false c e = e

pub contains_among : (xs : List ℕ) (k : ℕ) → Contains xs k → is_among xs k ≡ true
contains_among [] k h = let none = h.1 in absurd (omega (arith, none))
contains_among (x ∷ xs) k (zero, within, e) = let t : nat_eq x k ≡ true = eq-eqb x k e in rw t refl
contains_among (x ∷ xs) k (suc i, within, e) = or_right (nat_eq x k) (is_among xs k) (contains_among xs k (i, omega (arith, within), e))
