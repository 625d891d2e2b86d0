-- A call from its opening to its return.
use Rattle.std.proofs.Common.{◌≡◌, ℕ, zero, suc, ◌<◌, List, ◌∷◌, length, Some, option_and_then, refl, sym, ap, ◌∙◌, arith}
use Rattle.jack_meaning.specs.Text.{Value, Return, Text, Next, Subroutine}
use Rattle.jack_meaning.specs.Meaning.{Frame, State, new_frame}
use Rattle.os_laws.specs.Calls.{NextCall, ComesBack, after, given_back}
use Rattle.os_laws.proofs.Runs.{Call, over, run, next_at, run_before, run_over, run_ends}

-- the frame with a `return` of a value first
abbrev pub returning : Frame → ℕ → ℕ → Text → Frame
returning f k w rest = record f { text = Next (Return k (Value w)) rest }

-- Where n steps of the call by itself lead to a `return` of a value, it comes back with it in n + 2.
pub comes_back : (subs : List Subroutine) (s : State) (g : ℕ) (values : List ℕ) (c : NextCall subs s g values) (n : ℕ) (f : Frame) (ss ws : List ℕ) (k w : ℕ) (rest : Text)
    → run subs n (record { frame = new_frame subs g values; statics = s.statics; words = s.words }) ≡ Some (record { frame = returning f k w rest; statics = ss; words = ws })
    → ComesBack subs s (suc (suc n)) (record (given_back s c.caller c.below w) { statics = ss; words = ws })
comes_back subs s g values c n f ss ws k w rest ran =
    let below = c.caller ∷ c.below in
    let first : Call = record { frame = new_frame subs g values; statics = s.statics; words = s.words } in
    let end : Call = record { frame = returning f k w rest; statics = ss; words = ws } in
    let back : State = record (given_back s c.caller c.below w) { statics = ss; words = ws } in
    let deep : length s.frames ≡ suc (length c.below) = ap length c.frames in
    let whole : (keys : ℕ → ℕ) → after subs keys (suc n) (over below first) ≡ Some back = λ keys. run_ends subs below keys n first end back ran (λ key. refl) in
    record {
      some = omega arith;
      leads = λ keys. ap (option_and_then (after subs (λ i. keys (suc i)) (suc n))) (next_at subs s _ (keys 0) c.calls) ∙ whole (λ i. keys (suc i));
      frames = sym deep;
      inside = λ keys j low high. before subs s g values c n end ran keys j low high;
    }
  where
    before : (subs : List Subroutine) (s : State) (g : ℕ) (values : List ℕ) (c : NextCall subs s g values) (n : ℕ) (end : Call)
        → run subs n (record { frame = new_frame subs g values; statics = s.statics; words = s.words }) ≡ Some end
        → (keys : ℕ → ℕ) (j : ℕ) → 0 < j → j < suc (suc n) → (t : State) × (after subs keys j s ≡ Some t) × (length t.frames ≡ suc (length s.frames))
    before subs s g values c n end ran keys zero low high = absurd (omega (arith, low))
    before subs s g values c n end ran keys (suc j) low high =
        let below = c.caller ∷ c.below in
        let first : Call = record { frame = new_frame subs g values; statics = s.statics; words = s.words } in
        let r = run_before subs n j first end ran (omega (arith, high)) in
        let deep : length s.frames ≡ suc (length c.below) = ap length c.frames in (
          over below r.0,
          ap (option_and_then (after subs (λ i. keys (suc i)) j)) (next_at subs s _ (keys 0) c.calls) ∙ run_over subs below (λ i. keys (suc i)) j first r.0 r.1,
          omega (arith, deep),
        )
