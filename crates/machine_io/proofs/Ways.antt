-- The machines that a drive leads through, one more at a time, and a test that holds of none of them.
use Rattle.std.proofs.Common.{◌≡◌, ◌≤◌, ◌<◌, ◌+◌, inl, inr, ℕ, zero, suc, Bool, true, false, cond, List, [], refl, sym, ◌∙◌, ap, subst, arith, add-one}
use Rattle.std.proofs.Math.Dec.{leb}
use Rattle.std.proofs.Math.Nat.{eq-or-lt_of_le}
use Rattle.std.proofs.lemmas.Bool.Decides.{leb_tells}
use Rattle.machine_io.specs.Driven.{Goes}
use Rattle.machine_io.specs.History.{Turn}
use Rattle.machine_io.specs.Reading.{Reading}
use Rattle.machine_io.specs.Until.{IsFound, IsNotFound, IsWay, holds_at, steps_before}
use Rattle.machine_io.proofs.Drives.{goes_none}

-- i moves have led to this machine, before the last of which this many steps were made, and the test held nowhere
-- before
pub record HasCome {M P : Type 0} (test : ℕ → Reading P → Bool) (stands : M → List Turn → Type 0) (reading : M → Reading P) (code : ℕ → ℕ) (old : M) (i steps : ℕ) (here : M) : Type 0 where
  pub way : ℕ → M
  pub is_way : IsWay stands reading code old i way
  pub last : way i ≡ here
  pub not_before : (k : ℕ) → k < i → holds_at test reading way k ≡ false
  pub before : steps ≡ steps_before reading way i

-- one more machine, after those up to the i-th
extended : {M : Type 0} → (ℕ → M) → ℕ → M → ℕ → M
extended way i new k = cond (leb k i) (way k) new

up_to : {M : Type 0} (way : ℕ → M) (i : ℕ) (new : M) (k : ℕ) → k ≤ i → extended way i new k ≡ way k
unfolding extended
up_to way i new k le =
    elim (leb_tells k i) [ inl h ↦ ap (λ b. cond b (way k) new) h.0 | inr h ↦ absurd (let past = h.1 in let no : ⊥ = omega (arith, le, past) in no) ]

at_end : {M : Type 0} (way : ℕ → M) (i : ℕ) (new : M) → extended way i new (suc i) ≡ new
unfolding extended
at_end way i new =
    elim (leb_tells (suc i) i) [ inl h ↦ absurd (let le = h.1 in let no : ⊥ = omega (arith, le) in no) | inr h ↦ ap (λ b. cond b (way (suc i)) new) h.0 ]

module _ {M P : Type 0} (test : ℕ → Reading P → Bool) (stands : M → List Turn → Type 0) (reading : M → Reading P) (code : ℕ → ℕ) (old : M) where
  -- no move yet
  pub come_none : HasCome test stands reading code old 0 (reading old).steps old
  come_none = record {
    way = λ _. old;
    is_way = record {
      first = refl;
      leads = λ k le.
          let none : 0 ≡ k = omega (arith, le) in
          subst (λ z. Goes code (stands old) (reading old).moves z [] (stands old) (reading old).moves) none (goes_none code (stands old) (reading old).moves);
    };
    last = refl;
    not_before = λ k lt. absurd (let no : ⊥ = omega (arith, lt) in no);
    before = refl;
  }

  -- what the test says of the machine that the way has come to
  asked : (i steps : ℕ) (here : M) (come : HasCome test stands reading code old i steps here) → holds_at test reading come.way i ≡ test steps (reading here)
  asked i steps here come = ap (λ s. test s (reading (come.way i))) (sym come.before) ∙ ap (λ m. test steps (reading m)) come.last

  -- it holds there
  pub found : (n i steps : ℕ) (here : M) (answer : Bool) → HasCome test stands reading code old i steps here → i ≤ n → answer ≡ true → answer ≡ test steps (reading here)
      → IsFound test stands reading code old n here
  found n i steps here answer come few does is = record {
    moves = i;
    few = few;
    way = come.way;
    is_way = come.is_way;
    last = come.last;
    not_before = come.not_before;
    holds = asked i steps here come ∙ sym is ∙ does;
  }

  -- it holds neither there nor before
  nowhere : (i steps : ℕ) (here : M) (answer : Bool) (come : HasCome test stands reading code old i steps here) → answer ≡ false → answer ≡ test steps (reading here)
      → (k : ℕ) → k ≤ i → holds_at test reading come.way k ≡ false
  nowhere i steps here answer come fails is k le =
      elim (eq-or-lt_of_le le) [
        | inl same ↦ ap (holds_at test reading come.way) same ∙ asked i steps here come ∙ sym is ∙ fails
        | inr lt ↦ come.not_before k lt
      ]

  -- and the moves end there, in a machine that has made as many
  pub not_found : (i steps : ℕ) (here new : M) (answer : Bool) → HasCome test stands reading code old i steps here → answer ≡ false → answer ≡ test steps (reading here)
      → (reading new).moves ≡ (reading old).moves + i → IsNotFound test stands reading code old new
  not_found i steps here new answer come fails is made = record {
    moves = i;
    way = come.way;
    is_way = come.is_way;
    made = made;
    never = nowhere i steps here answer come fails is;
  }

  -- or one more move is made
  steps_kept : (way : ℕ → M) (i : ℕ) (new : M) (k : ℕ) → k ≤ i → steps_before reading (extended way i new) k ≡ steps_before reading way k
  steps_kept way i new zero le = ap (λ m. (reading m).steps) (up_to way i new 0 le)
  steps_kept way i new (suc k) le = ap (λ m. (reading m).steps) (up_to way i new k (omega (arith, le)))

  kept : (way : ℕ → M) (i : ℕ) (new : M) (k : ℕ) → k ≤ i → holds_at test reading (extended way i new) k ≡ holds_at test reading way k
  kept way i new k le =
      ap (λ s. test s (reading (extended way i new k))) (steps_kept way i new k le) ∙ ap (λ m. test (steps_before reading way k) (reading m)) (up_to way i new k le)

  later : (i steps : ℕ) (here new : M) (answer : Bool) → HasCome test stands reading code old i steps here → answer ≡ false → answer ≡ test steps (reading here)
      → Goes code (stands old) (reading old).moves (suc i) [] (stands new) (reading new).moves → HasCome test stands reading code old (suc i) (reading here).steps new
  later i steps here new answer come fails is goes =
      let way = extended come.way i new in
      let L : ℕ → M → Type 0 = λ k m. Goes code (stands old) (reading old).moves k [] (stands m) (reading m).moves in
      record {
        way = way;
        is_way = record {
          first = up_to come.way i new 0 (omega arith) ∙ come.is_way.first;
          leads = λ k le.
              elim (eq-or-lt_of_le le) [
                | inl same ↦ subst (λ z. L z (way z)) (sym same) (subst (L (suc i)) (sym (at_end come.way i new)) goes)
                | inr lt ↦ let below : k ≤ i = omega (arith, lt) in subst (L k) (sym (up_to come.way i new k below)) (come.is_way.leads k below)
              ];
        };
        last = at_end come.way i new;
        not_before = λ k lt. let below : k ≤ i = omega (arith, lt) in kept come.way i new k below ∙ nowhere i steps here answer come fails is k below;
        before = ap (λ m. (reading m).steps) (sym come.last) ∙ sym (ap (λ m. (reading m).steps) (up_to come.way i new i (omega arith)));
      }

  pub come_more : (i steps count : ℕ) (here new : M) (answer : Bool) → HasCome test stands reading code old i steps here → answer ≡ false → answer ≡ test steps (reading here)
      → count ≡ (reading here).steps → Goes code (stands old) (reading old).moves (i + 1) [] (stands new) (reading new).moves
      → HasCome test stands reading code old (i + 1) count new
  come_more i steps count here new answer come fails is counted goes =
      let e : i + 1 ≡ suc i = add-one i in
      let all = later i steps here new answer come fails is (subst (λ z. Goes code (stands old) (reading old).moves z [] (stands new) (reading new).moves) e goes) in
      subst (λ z. HasCome test stands reading code old z count new) (sym e) (subst (λ s. HasCome test stands reading code old (suc i) s new) (sym counted) all)
