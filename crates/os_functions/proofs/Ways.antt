-- Ways from state to state under any keys, on which the frames never get too few; and calls that are made of them.
use Rattle.std.proofs.Common.{◌≡◌, ◌≢◌, ℕ, zero, suc, ◌+◌, ◌-◌, ◌<◌, ◌≤◌, false, List, ◌∷◌, length, Option, Some, None, option_and_then, refl, sym, ap, ◌∙◌, arith, suc-add, ⊎_elim}
use Rattle.std.proofs.lemmas.Bool.{cases_lt}
use Rattle.jack_meaning.specs.Text.{Text, Subroutine}
use Rattle.jack_meaning.specs.Meaning.{Frame, State, Acts, step, new_frame, with_top, subroutine_at, filled_text}
use Rattle.jack_meaning.specs.Level.{next_of}
use Rattle.os_laws.specs.Calls.{NextCall, ComesBack, ComesToCall, after, given_back}
use Rattle.os_laws.proofs.Basics.{frame_with, enters}
use Rattle.os_laws.proofs.Runs.{Call, over, run, next_at, run_before, run_over, run_ends}
use Rattle.os_laws.proofs.Returns.{returning, comes_back}
use Rattle.os_functions.specs.Calls.{Returns}

-- the keys after the first m
abbrev pub keys_behind : ℕ → (ℕ → ℕ) → (ℕ → ℕ)
keys_behind zero keys = keys
keys_behind (suc m) keys = keys_behind m (λ i. keys (suc i))

split_behind : (subs : List Subroutine) (m n : ℕ) (keys : ℕ → ℕ) → ((t : State) → after subs keys (m + n) t ≡ option_and_then (after subs (keys_behind m keys) n) (after subs keys m t)) → (o : Option State)
    → option_and_then (after subs keys (m + n)) o ≡ option_and_then (after subs (keys_behind m keys) n) (option_and_then (after subs keys m) o)
split_behind subs m n keys h None = refl
split_behind subs m n keys h (Some t) = h t

pub after_split : (subs : List Subroutine) (m n : ℕ) (keys : ℕ → ℕ) (s : State) → after subs keys (m + n) s ≡ option_and_then (after subs (keys_behind m keys) n) (after subs keys m s)
after_split subs zero n keys s = ap (λ k. after subs keys k s) (let z : 0 + n ≡ n = omega arith in z)
after_split subs (suc m) n keys s =
    ap (λ k. after subs keys k s) (suc-add m n) ∙ split_behind subs m n (λ i. keys (suc i)) (λ t. after_split subs m n (λ i. keys (suc i)) t) (next_of (step subs (keys 0) s))

-- Under every key n steps lead from a state to another, and the states before the last have this many frames at
-- least.
pub record Way (subs : List Subroutine) (least n : ℕ) (s s' : State) : Type 0 where
  pub leads : (keys : ℕ → ℕ) → after subs keys n s ≡ Some s'
  pub each : (keys : ℕ → ℕ) (j : ℕ) → j < n → (t : State) × (after subs keys j s ≡ Some t) × (least ≤ length t.frames)

pub way_then : (subs : List Subroutine) (least m n : ℕ) (s t u : State) → Way subs least m s t → Way subs least n t u → Way subs least (m + n) s u
way_then subs least m n s t u a b = record {
  leads = λ keys. after_split subs m n keys s ∙ ap (option_and_then (after subs (keys_behind m keys) n)) (a.leads keys) ∙ b.leads (keys_behind m keys);
  each = λ keys j h. ⊎_elim (λ l. a.each keys j l) (λ g. behind keys j h g) (cases_lt j m);
}
  where
    behind : (keys : ℕ → ℕ) (j : ℕ) → j < m + n → m ≤ j → (x : State) × (after subs keys j s ≡ Some x) × (least ≤ length x.frames)
    behind keys j h g =
        let k = j - m in
        let r = b.each (keys_behind m keys) k (omega (arith, h, g)) in
        let e : j ≡ m + k = omega (arith, g) in
        (r.0, ap (λ i. after subs keys i s) e ∙ after_split subs m k keys s ∙ ap (option_and_then (after subs (keys_behind m keys) k)) (a.leads keys) ∙ r.1, r.2)

-- a run of a call by itself
pub way_of_run : (subs : List Subroutine) (below : List Frame) (n : ℕ) (c d : Call) → run subs n c ≡ Some d → Way subs (suc (length below)) n (over below c) (over below d)
way_of_run subs below n c d ran = record {
  leads = λ keys. run_over subs below keys n c d ran;
  each = λ keys j h. let r = run_before subs n j c d ran (omega (arith, h)) in (over below r.0, run_over subs below keys j c r.0 r.1, omega arith);
}

-- a call that comes back
pub way_of_call : (subs : List Subroutine) (least n : ℕ) (s s' : State) → least ≤ length s.frames → Returns subs s n s' → Way subs least n s s'
way_of_call subs least n s s' h r = record { leads = r.leads; each = λ keys j l. at keys j l }
  where
    at : (keys : ℕ → ℕ) (j : ℕ) → j < n → (t : State) × (after subs keys j s ≡ Some t) × (least ≤ length t.frames)
    at keys zero l = (s, refl, h)
    at keys (suc j) l = let i = r.inside keys (suc j) (omega arith) l in (i.0, i.1, omega (arith, h, i.2))

-- a call whose callee calls nothing
pub returns : (subs : List Subroutine) (n : ℕ) (s s' : State) → ComesBack subs s n s' → Returns subs s n s'
returns subs n s s' c = record {
  some = c.some;
  leads = c.leads;
  frames = c.frames;
  inside = λ keys j low high. let i = c.inside keys j low high in (i.0, i.1, omega (arith, i.2));
}

module _ (subs : List Subroutine) (s : State) (g : ℕ) (values : List ℕ) (c : NextCall subs s g values) where
  -- the state after the step that makes the call
  abbrev pub opened : State
  opened = with_top s (c.caller ∷ c.below) (new_frame subs g values)

  deep : length s.frames ≡ suc (length c.below)
  deep = ap length c.frames

  -- from the state after it up to a `return` of a value
  pub returns_by : (n : ℕ) (f : Frame) (ss ws : List ℕ) (k w : ℕ) (rest : Text)
      → Way subs (suc (suc (length c.below))) n opened (over (c.caller ∷ c.below) (record { frame = returning f k w rest; statics = ss; words = ws }))
      → Returns subs s (suc (suc n)) (record (given_back s c.caller c.below w) { statics = ss; words = ws })
  returns_by n f ss ws k w rest way =
      let end : Call = record { frame = returning f k w rest; statics = ss; words = ws } in
      let last : State = record (given_back s c.caller c.below w) { statics = ss; words = ws } in
      let back : Way subs (suc (suc (length c.below))) 1 (over (c.caller ∷ c.below) end) last = one_back end last (λ key. refl) in
      let whole = way_then subs (suc (suc (length c.below))) n 1 opened (over (c.caller ∷ c.below) end) last way back in
      let count : n + 1 ≡ suc n = omega arith in
      record {
        some = omega arith;
        leads = λ keys. ap (option_and_then (after subs (λ i. keys (suc i)) (suc n))) (next_at subs s opened (keys 0) c.calls) ∙ ap (λ k. after subs (λ i. keys (suc i)) k opened) (sym count) ∙ whole.leads (λ i. keys (suc i));
        frames = sym deep;
        inside = λ keys j low high. before keys j low high whole;
      }
    where
      one_back : (end : Call) (last : State) → ((key : ℕ) → next_of (step subs key (over (c.caller ∷ c.below) end)) ≡ Some last) → Way subs (suc (suc (length c.below))) 1 (over (c.caller ∷ c.below) end) last
      one_back end last h = record {
        leads = λ keys. ap (option_and_then (after subs (λ i. keys (suc i)) zero)) (h (keys 0));
        each = λ keys j l. let e : 0 ≡ j = omega (arith, l) in (over (c.caller ∷ c.below) end, ap (λ i. after subs keys i (over (c.caller ∷ c.below) end)) (sym e), omega arith);
      }

      before : (keys : ℕ → ℕ) (j : ℕ) → 0 < j → j < suc (suc n) → {last : State} → Way subs (suc (suc (length c.below))) (n + 1) opened last
          → (t : State) × (after subs keys j s ≡ Some t) × (length s.frames < length t.frames)
      before keys zero low high way' = absurd (omega (arith, low))
      before keys (suc j) low high way' =
          let r = way'.each (λ i. keys (suc i)) j (omega (arith, high)) in
          (r.0, ap (option_and_then (after subs (λ i. keys (suc i)) j)) (next_at subs s opened (keys 0) c.calls) ∙ r.1, omega (arith, r.2, deep))

  -- where n steps of the call by itself lead to a call, that call is made in n + 2
  pub comes_to : (n : ℕ) (sub : Subroutine) (f waits : Frame) (g' : ℕ) (values' : List ℕ) → subroutine_at subs g ≡ sub
      → run subs n (record { frame = frame_with g sub values; statics = s.statics; words = s.words }) ≡ Some (record { frame = f; statics = s.statics; words = s.words })
      → ((below : List Frame) → step subs 0 (record s { frames = f ∷ below }) ≡ Acts false (record s { frames = new_frame subs g' values' ∷ waits ∷ below }))
      → ComesToCall c g' values' (suc (suc n))
  comes_to n sub f waits g' values' is ran calls =
      let below = c.caller ∷ c.below in
      let first : Call = record { frame = new_frame subs g values; statics = s.statics; words = s.words } in
      let end : Call = record { frame = f; statics = s.statics; words = s.words } in
      let last : State = record s { frames = new_frame subs g' values' ∷ waits ∷ below } in
      let entered : run subs n first ≡ Some end = ap (λ (z : Frame). run subs n (record { frame = z; statics = s.statics; words = s.words })) (enters subs g sub values is) ∙ ran in
      let whole : (keys : ℕ → ℕ) → after subs keys (suc n) (over below first) ≡ Some last = λ keys. run_ends subs below keys n first end last entered (λ key. next_at subs (over below end) last key (calls below)) in
      record {
        callee = waits;
        stops = λ keys. record {
          some = omega arith;
          leads = ap (option_and_then (after subs (λ i. keys (suc i)) (suc n))) (next_at subs s opened (keys 0) c.calls) ∙ whole (λ i. keys (suc i));
          there = omega (arith, deep);
          before = λ j low high. until end entered keys j low high;
        };
      }
    where
      until : (end : Call) → run subs n (record { frame = new_frame subs g values; statics = s.statics; words = s.words }) ≡ Some end → (keys : ℕ → ℕ) (j : ℕ) → 0 < j → j < suc (suc n)
          → (t : State) × (after subs keys j s ≡ Some t) × (length t.frames ≢ suc (suc (length s.frames)))
      until end entered keys zero low high = absurd (omega (arith, low))
      until end entered keys (suc j) low high =
          let below = c.caller ∷ c.below in
          let first : Call = record { frame = new_frame subs g values; statics = s.statics; words = s.words } in
          let r = run_before subs n j first end entered (omega (arith, high)) in
          (over below r.0, ap (option_and_then (after subs (λ i. keys (suc i)) j)) (next_at subs s opened (keys 0) c.calls) ∙ run_over subs below (λ i. keys (suc i)) j first r.0 r.1, (λ e. omega (arith, deep, e)))

  -- a call whose callee calls nothing, from its own frame to a `return` of a value
  pub leaf : (n : ℕ) (sub : Subroutine) (f : Frame) (ss ws : List ℕ) (k w : ℕ) (rest : Text) → subroutine_at subs g ≡ sub
      → run subs n (record { frame = frame_with g sub values; statics = s.statics; words = s.words }) ≡ Some (record { frame = returning f k w rest; statics = ss; words = ws })
      → Returns subs s (suc (suc n)) (record (given_back s c.caller c.below w) { statics = ss; words = ws })
  leaf n sub f ss ws k w rest is ran =
      returns subs (suc (suc n)) s (record (given_back s c.caller c.below w) { statics = ss; words = ws })
      (comes_back subs s g values c n f ss ws k w rest (ap (λ (z : Frame). run subs n (record { frame = z; statics = s.statics; words = s.words })) (enters subs g sub values is) ∙ ran))

-- a call within a call, whose callee calls nothing
pub inner_leaf : (subs : List Subroutine) (below : List Frame) (f waits : Frame) (ss ws ss' ws' : List ℕ) (g : ℕ) (values : List ℕ) (sub : Subroutine) (n k w : ℕ) (rest : Text) (end : Frame) → subroutine_at subs g ≡ sub
    → step subs 0 (record { frames = f ∷ below; statics = ss; words = ws }) ≡ Acts false (record { frames = new_frame subs g values ∷ waits ∷ below; statics = ss; words = ws })
    → run subs n (record { frame = frame_with g sub values; statics = ss; words = ws }) ≡ Some (record { frame = returning end k w rest; statics = ss'; words = ws' })
    → Way subs (suc (length below)) (suc (suc n)) (record { frames = f ∷ below; statics = ss; words = ws })
    (record { frames = record waits { text = filled_text w waits.text } ∷ below; statics = ss'; words = ws' })
inner_leaf subs below f waits ss ws ss' ws' g values sub n k w rest end is calls ran =
    let s : State = record { frames = f ∷ below; statics = ss; words = ws } in
    let c : NextCall subs s g values = record { top = f; caller = waits; below = below; frames = refl; calls = calls } in
    way_of_call subs (suc (length below)) (suc (suc n)) s (record { frames = record waits { text = filled_text w waits.text } ∷ below; statics = ss'; words = ws' }) (omega arith)
    (leaf subs s g values c n sub end ss' ws' k w rest is ran)
