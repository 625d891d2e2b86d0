-- What an evaluation takes, and what it leaves.
use Rattle.std.proofs.Common.{◌≡◌, ℕ, suc, ◌<◌, ◌≤◌, Bool, true, false, List, [], ◌∷◌, Some, None, Option, refl, ap, sym, ◌∙◌, arith, subst, inl, inr, length}
use Rattle.std.specs.Prelude.{◌||◌, slice_get, MatchOption, cond}
use Rattle.std.specs.List.{All, list_any, count_by}
use Rattle.std.proofs.lemmas.Bool.{cases_lt, or_parts}
use Rattle.std.proofs.lemmas.Option.{slice_get_past}
use Rattle.std.proofs.lemmas.List.Elements.{All-head, All-tail, All-nil, All-cons}
use Rattle.std.proofs.lemmas.List.Sums.{sum_by-cons}
use Rattle.word16.specs.Words.{has_bit}
use Rattle.netlist.specs.declared.node.Node.{Node}
use Rattle.netlist.specs.declared.node.Node.TheVariants.{Pin, Nand, Flip, Word, Zero}
use Rattle.netlist.specs.declared.node.Block.{Block}
use Rattle.netlist.specs.Order.{IsReadable}
use Rattle.netlist.specs.Value.{shown_value, spelled_number}
use Rattle.netlist.specs.Present.{IsRow}
use Rattle.netlist.specs.Reads.{address_in}
use Rattle.netlist.specs.Touched.{is_other, is_step, is_touched}
use Rattle.netlist.specs.Settled.{AreSettled}
use Rattle.netlist.specs.Inner.Taken.{is_taken}
use Rattle.netlist.proofs.Rows.{spelled_same}

pub other_self : (a : Bool) → is_other a a ≡ false
other_self true = refl
other_self false = refl

pub other_same : (a b : Bool) → is_other a b ≡ false → a ≡ b
other_same true true e = refl
other_same true false e = cc
other_same false true e = cc
other_same false false e = refl

drop_false : (a b : Bool) → ((a || (b || false)) || false) ≡ (a || b)
drop_false true b = refl
drop_false false true = refl
drop_false false false = refl

pub taken_gate : (whole : Bool) (blocks : List Block) (fin written : ℕ → Bool) (i j : ℕ) → is_taken whole blocks fin written (Nand i j) ≡ (whole || (fin i || fin j))
taken_gate true blocks fin written i j = refl
taken_gate false blocks fin written i j = drop_false (fin i) (fin j)

pub list_any_same : (f g : ℕ → Bool) (xs : List ℕ) → All (λ i. f i ≡ g i) xs → list_any f xs ≡ list_any g xs
list_any_same f g [] same = refl
list_any_same f g (x ∷ xs) same =
    let here : f x ≡ g x = All-head (λ i. f i ≡ g i) x xs same in
    let rest = list_any_same f g xs (All-tail (λ i. f i ≡ g i) x xs same) in
    rw (here, rest) refl

pub list_any_off : (f : ℕ → Bool) (xs : List ℕ) → list_any f xs ≡ false → All (λ i. f i ≡ false) xs
list_any_off f [] off = All-nil (λ i. f i ≡ false)
list_any_off f (x ∷ xs) off =
    let parts = or_parts (f x) (list_any f xs) off in
    All-cons (λ i. f i ≡ false) x xs parts.0 (list_any_off f xs parts.1)

pub shown_on : (o : Option Block) (words : ℕ → ℕ) (f g : ℕ → Bool) → All (λ i. f i ≡ g i) (address_in o) → shown_value o words f ≡ shown_value o words g
shown_on None words f g same = refl
shown_on (Some block) words f g same = let e = spelled_same f g block.address same in rw e refl

pub taken_bit : (whole : Bool) (blocks : List Block) (fin c written : ℕ → Bool) (b at : ℕ) → All (λ i. fin i ≡ c i) (address_in (slice_get blocks b)) → is_taken whole blocks fin written (Word b at) ≡ ((whole || written b) || list_any c (address_in (slice_get blocks b)))
taken_bit true blocks fin c written b at same = refl
taken_bit false blocks fin c written b at same = ap (λ x. x || written b) (list_any_same fin c (address_in (slice_get blocks b)) same) ∙ turn (list_any c (address_in (slice_get blocks b))) (written b)
  where
    turn : (x y : Bool) → (x || y) ≡ (y || x)
    turn true true = refl
    turn true false = refl
    turn false true = refl
    turn false false = refl

-- the address of a block that can be read
pub address_early : (o : Option Block) (n m : ℕ) → MatchOption o ⊥ (IsReadable n m) → All (λ i. i < n) (address_in o)
address_early None n m can = absurd can
address_early (Some block) n m can = can.0

pub touched_step : (blocks : List Block) (differs written : ℕ → Bool) (node : Node) → is_touched blocks differs written node ≡ true → is_step node ≡ true
touched_step blocks differs written Pin e = e
touched_step blocks differs written (Nand i j) e = refl
touched_step blocks differs written (Flip i) e = e
touched_step blocks differs written (Word b bit) e = refl
touched_step blocks differs written Zero e = e

pub taken_step : (whole : Bool) (blocks : List Block) (differs written : ℕ → Bool) (node : Node) → is_taken whole blocks differs written node ≡ true → is_step node ≡ true
taken_step true blocks differs written node e = e
taken_step false blocks differs written node e = touched_step blocks differs written node e

-- fewer pass a stronger test
pub count_weaker : (p q : Node → Bool) (nodes : List Node) → ((k : ℕ) (node : Node) → slice_get nodes k ≡ Some node → p node ≡ true → q node ≡ true) → count_by p nodes ≤ count_by q nodes
count_weaker p q [] weaker = omega arith
count_weaker p q (node ∷ nodes) weaker =
    let rest = count_weaker p q nodes (λ k other at. weaker (suc k) other at) in
    let a = sum_by-cons (λ x. cond (p x) 1 0) node nodes in
    let b = sum_by-cons (λ x. cond (q x) 1 0) node nodes in
    let here = one (p node) (q node) (weaker 0 node refl) in
    omega arith
  where
    one : (x y : Bool) → (x ≡ true → y ≡ true) → cond x 1 0 ≤ cond y 1 0
    one true y h = let e = h refl in rw e (omega arith)
    one false true h = omega arith
    one false false h = omega arith

-- rows are settled
pub settled_row : (nodes : List Node) (blocks : List Block) (written : ℕ → Bool) (start : ℕ → Bool) (words : ℕ → ℕ → ℕ) (row : ℕ → Bool) → IsRow nodes blocks start words row → AreSettled nodes blocks written words row
settled_row nodes blocks written start words row is = record { gates = λ k i j at. is k (Nand i j) at; bits = λ k b bit at off. is k (Word b bit) at }

shown_words : (o : Option Block) (w x : ℕ → ℕ) (row : ℕ → Bool) → ((a : ℕ) → w a ≡ x a) → shown_value o w row ≡ shown_value o x row
shown_words None w x row same = refl
shown_words (Some block) w x row same = rw (same (spelled_number row block.address)) refl

-- more blocks count as written, and words of those may have changed
pub settled_words : (nodes : List Node) (blocks : List Block) (written more : ℕ → Bool) (words new : ℕ → ℕ → ℕ) (row : ℕ → Bool) → ((b : ℕ) → more b ≡ false → written b ≡ false) → ((b a : ℕ) → more b ≡ false → new b a ≡ words b a) → AreSettled nodes blocks written words row → AreSettled nodes blocks more new row
settled_words nodes blocks written more words new row fewer same settled = record {
  gates = settled.gates;
  bits = λ k b bit at off. settled.bits k b bit at (fewer b off) ∙ ap (λ w. has_bit w bit) (shown_words (slice_get blocks b) (words b) (new b) row (λ a. sym (same b a off)));
}

-- the number of a block that is there
pub block_inside : (blocks : List Block) (b : ℕ) (P : Block → Type 0) → MatchOption (slice_get blocks b) ⊥ P → b < length blocks
block_inside blocks b P m = elim (cases_lt b (length blocks)) [ inl less ↦ less | inr past ↦ absurd (subst (λ o. MatchOption o ⊥ P) (slice_get_past blocks b past) m) ]
