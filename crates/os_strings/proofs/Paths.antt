-- Paths from state to state under given keys, on which the frames never get too few.
use Rattle.std.proofs.Common.{◌≡◌, ℕ, zero, suc, ◌+◌, ◌-◌, ◌<◌, ◌≤◌, List, length, Some, option_and_then, sym, ap, ◌∙◌, arith, ⊎_elim}
use Rattle.std.proofs.lemmas.Bool.{cases_lt}
use Rattle.jack_meaning.specs.Text.{Subroutine}
use Rattle.jack_meaning.specs.Meaning.{State, step}
use Rattle.jack_meaning.specs.Level.{next_of}
use Rattle.os_laws.specs.Calls.{after}
use Rattle.os_functions.proofs.Ways.{Way, after_split, keys_behind}
use Rattle.os_strings.specs.KeyLaws.{ReturnsUnder}

pub record Path (subs : List Subroutine) (keys : ℕ → ℕ) (least n : ℕ) (s s' : State) : Type 0 where
  pub leads : after subs keys n s ≡ Some s'
  pub each : (j : ℕ) → j < n → (t : State) × (after subs keys j s ≡ Some t) × (least ≤ length t.frames)

pub path_of_way : (subs : List Subroutine) (keys : ℕ → ℕ) (least n : ℕ) (s s' : State) → Way subs least n s s' → Path subs keys least n s s'
path_of_way subs keys least n s s' w = record { leads = w.leads keys; each = w.each keys }

pub path_one : (subs : List Subroutine) (keys : ℕ → ℕ) (least : ℕ) (s s' : State) → least ≤ length s.frames → next_of (step subs (keys 0) s) ≡ Some s' → Path subs keys least 1 s s'
path_one subs keys least s s' deep e = record {
  leads = ap (option_and_then (after subs (λ i. keys (suc i)) zero)) e;
  each = λ j l. let z : 0 ≡ j = omega (arith, l) in (s, ap (λ i. after subs keys i s) (sym z), deep);
}

pub path_then : (subs : List Subroutine) (keys : ℕ → ℕ) (least m n : ℕ) (s t u : State) → Path subs keys least m s t → Path subs (keys_behind m keys) least n t u → Path subs keys least (m + n) s u
path_then subs keys least m n s t u a b = record {
  leads = after_split subs m n keys s ∙ ap (option_and_then (after subs (keys_behind m keys) n)) a.leads ∙ b.leads;
  each = λ j h. ⊎_elim (λ l. a.each j l) (λ g. behind j h g) (cases_lt j m);
}
  where
    behind : (j : ℕ) → j < m + n → m ≤ j → (x : State) × (after subs keys j s ≡ Some x) × (least ≤ length x.frames)
    behind j h g =
        let k = j - m in
        let r = b.each k (omega (arith, h, g)) in
        let e : j ≡ m + k = omega (arith, g) in
        (r.0, ap (λ i. after subs keys i s) e ∙ after_split subs m k keys s ∙ ap (option_and_then (after subs (keys_behind m keys) k)) a.leads ∙ r.1, r.2)

pub path_weaker : (subs : List Subroutine) (keys : ℕ → ℕ) (least more n : ℕ) (s s' : State) → least ≤ more → Path subs keys more n s s' → Path subs keys least n s s'
path_weaker subs keys least more n s s' h w = record { leads = w.leads; each = λ j l. let r = w.each j l in (r.0, r.1, omega (arith, h, r.2)) }

-- the key after the first m
pub behind_at : (m i : ℕ) (keys : ℕ → ℕ) → keys_behind m keys i ≡ keys (m + i)
behind_at zero i keys = ap keys (let e : i ≡ 0 + i = omega arith in e)
behind_at (suc m) i keys = behind_at m i (λ j. keys (suc j)) ∙ ap keys (let e : suc (m + i) ≡ suc m + i = omega arith in e)

-- a path through a call and out of it
pub returns_under : (subs : List Subroutine) (keys : ℕ → ℕ) (n : ℕ) (s t s' : State) → Path subs keys (length s.frames) 1 s t → Path subs (keys_behind 1 keys) (suc (length s.frames)) n t s' → length s'.frames ≡ length s.frames → ReturnsUnder subs keys s (1 + n) s'
returns_under subs keys n s t s' a b deep =
    let whole = path_then subs keys (length s.frames) 1 n s t s' a (path_weaker subs (keys_behind 1 keys) (length s.frames) (suc (length s.frames)) n t s' (omega arith) b) in
    record { some = omega arith; leads = whole.leads; frames = deep; inside = λ j low high. inside j low high }
  where
    inside : (j : ℕ) → 0 < j → j < 1 + n → (x : State) × (after subs keys j s ≡ Some x) × (length s.frames < length x.frames)
    inside j low high =
        let k = j - 1 in
        let r = b.each k (omega (arith, low, high)) in
        let e : j ≡ 1 + k = omega (arith, low) in
        (r.0, ap (λ i. after subs keys i s) e ∙ after_split subs 1 k keys s ∙ ap (option_and_then (after subs (keys_behind 1 keys) k)) a.leads ∙ r.1, (let q = r.2 in omega (arith, q)))
