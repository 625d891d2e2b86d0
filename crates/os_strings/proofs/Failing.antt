-- Ways to a call of Sys.error, from call to call.
use Rattle.std.proofs.Common.{◌≡◌, ℕ, zero, suc, ◌+◌, ◌<◌, ◌≤◌, List, [], ◌∷◌, ◌++◌, length, Some, option_and_then, codes, refl, sym, ap, ◌∙◌, arith, append_assoc}
use Rattle.jack_core.specs.declared.program.Core.{Core}
use Rattle.jack_core.specs.Texts.{the_subroutines}
use Rattle.jack_meaning.specs.Text.{Value, Call as Calling, Open, NoMore, More, Do, Text, Next, Subroutine}
use Rattle.jack_meaning.specs.Meaning.{Frame, State, step, subroutine_at, new_frame}
use Rattle.jack_meaning.specs.Level.{next_of}
use Rattle.os_laws.specs.Calls.{NextCall, after}
use Rattle.os_laws.specs.Names.{IsShipped}
use Rattle.os_laws.proofs.Basics.{frame_with, enters}
use Rattle.os_laws.proofs.Runs.{Call, over, run, next_at}
use Rattle.os_functions.specs.Calls.{routine_number}
use Rattle.os_functions.proofs.Ways.{Way, way_then, way_of_run, opened}
use Rattle.os_strings.specs.Errors.{ComesToError}

-- the step that makes a call
pub way_opens : (subs : List Subroutine) (s : State) (g : ℕ) (values : List ℕ) (c : NextCall subs s g values) → Way subs (suc (length c.below)) 1 s (opened subs s g values c)
way_opens subs s g values c = record {
  leads = λ keys. ap (option_and_then (after subs (λ i. keys (suc i)) zero)) (next_at subs s (opened subs s g values c) (keys 0) c.calls);
  each = λ keys j l. let e : 0 ≡ j = omega (arith, l) in (s, ap (λ i. after subs keys i s) (sym e), (let d : length s.frames ≡ suc (length c.below) = ap length c.frames in omega (arith, d)));
}

-- more frames than were asked for
pub way_weaker : (subs : List Subroutine) (least more n : ℕ) (s s' : State) → least ≤ more → Way subs more n s s' → Way subs least n s s'
way_weaker subs least more n s s' h w = record { leads = w.leads; each = λ keys j l. let r = w.each keys j l in (r.0, r.1, omega (arith, h, r.2)) }

-- From a state n steps at most lead to one whose next step calls the routine `error` with this number; frames that wait
-- stand over those below.
pub record Fails (subs : List Subroutine) (error number least : ℕ) (below : List Frame) (most : ℕ) (s : State) (ss ws : List ℕ) : Type 0 where
  pub n : ℕ
  pub few : n ≤ most
  pub last : State
  pub way : Way subs least n s last
  pub deep : least ≤ length last.frames
  pub waits : List Frame
  pub calls : (key : ℕ) → next_of (step subs key last) ≡ Some (record { frames = new_frame subs error (number ∷ []) ∷ (waits ++ below); statics = ss; words = ws })

module _ (subs : List Subroutine) (error number : ℕ) where
  pub fails_then : (least k most : ℕ) (below : List Frame) (s t : State) (ss ws : List ℕ) → Way subs least k s t → Fails subs error number least below most t ss ws → Fails subs error number least below (k + most) s ss ws
  fails_then least k most below s t ss ws way f =
      let few = f.few in
      record { n = k + f.n; few = omega (arith, few); last = f.last; way = way_then subs least k f.n s t f.last way f.way; deep = f.deep; waits = f.waits; calls = f.calls }

  pub fails_within : (least least' most most' : ℕ) (below : List Frame) (g : Frame) (s : State) (ss ws : List ℕ) → least' ≤ least → most ≤ most' → Fails subs error number least (g ∷ below) most s ss ws → Fails subs error number least' below most' s ss ws
  fails_within least least' most most' below g s ss ws h m f =
      let few = f.few in
      let deep = f.deep in
      record {
        n = f.n;
        few = omega (arith, few, m);
        last = f.last;
        way = way_weaker subs least' least f.n s f.last h f.way;
        deep = omega (arith, deep, h);
        waits = f.waits ++ g ∷ [];
        calls = λ key. f.calls key ∙ ap (λ (fs : List Frame). Some (let z : State = record { frames = new_frame subs error (number ∷ []) ∷ fs; statics = ss; words = ws } in z)) (sym (append_assoc f.waits (g ∷ []) below));
      }

  -- the frame with a call of `error` first
  abbrev pub calling : Frame → ℕ → Text → Frame
  calling f k rest = record f { text = Next (Do k (Calling error (More (Value number) NoMore))) rest }

  -- a call by itself that comes to it
  pub fails_by_run : (below : List Frame) (n : ℕ) (first : Call) (f : Frame) (ss ws : List ℕ) (k : ℕ) (rest : Text) → run subs n first ≡ Some (record { frame = calling f k rest; statics = ss; words = ws })
      → Fails subs error number (suc (length below)) below n (over below first) ss ws
  fails_by_run below n first f ss ws k rest ran =
      let end : Call = record { frame = calling f k rest; statics = ss; words = ws } in
      record {
        n = n;
        few = omega arith;
        last = over below end;
        way = way_of_run subs below n first end ran;
        deep = omega arith;
        waits = record f { text = Next (Do k Open) rest } ∷ [];
        calls = λ key. refl;
      }

  -- a routine that is called and comes to it
  pub fails_by_call : (s : State) (g : ℕ) (values : List ℕ) (c : NextCall subs s g values) (sub : Subroutine) → subroutine_at subs g ≡ sub → (n : ℕ) (f : Frame) (k : ℕ) (rest : Text)
      → run subs n (record { frame = frame_with g sub values; statics = s.statics; words = s.words }) ≡ Some (record { frame = calling f k rest; statics = s.statics; words = s.words })
      → Fails subs error number (suc (suc (length c.below))) (c.caller ∷ c.below) n (opened subs s g values c) s.statics s.words
  fails_by_call s g values c sub is n f k rest ran =
      fails_by_run (c.caller ∷ c.below) n (record { frame = new_frame subs g values; statics = s.statics; words = s.words }) f s.statics s.words k rest
      (ap (λ (z : Frame). run subs n (record { frame = z; statics = s.statics; words = s.words })) (enters subs g sub values is) ∙ ran)

  -- the step that makes the call, before it
  pub fails_called : (s : State) (g : ℕ) (values : List ℕ) (c : NextCall subs s g values) (most : ℕ) (ss ws : List ℕ) → Fails subs error number (suc (suc (length c.below))) (c.caller ∷ c.below) most (opened subs s g values c) ss ws
      → Fails subs error number (suc (length c.below)) c.below (1 + most) s ss ws
  fails_called s g values c most ss ws f =
      fails_then (suc (length c.below)) 1 most c.below s (opened subs s g values c) ss ws (way_opens subs s g values c)
      (fails_within (suc (suc (length c.below))) (suc (length c.below)) most most c.below c.caller (opened subs s g values c) ss ws (omega arith) (omega arith) f)

-- what is said of the whole call
pub comes_to_error : {core : Core} (p : IsShipped core) (s : State) (g : ℕ) (values : List ℕ) (c : NextCall (the_subroutines core) s g values) (number most : ℕ) (ss ws : List ℕ)
    → Fails (the_subroutines core) (routine_number p (codes "Sys") (codes "error")) number (suc (suc (length c.below))) (c.caller ∷ c.below) most (opened (the_subroutines core) s g values c) ss ws
    → ComesToError p c (2 + most) number ss ws
comes_to_error {core} p s g values c number most ss ws f =
    let subs = the_subroutines core in
    let few = f.few in
    let end : State = record { frames = new_frame subs (routine_number p (codes "Sys") (codes "error")) (number ∷ []) ∷ (f.waits ++ c.caller ∷ c.below); statics = ss; words = ws } in
    let least = suc (suc (length c.below)) in
    let one : Way subs least 1 f.last end = record {
      leads = λ keys. ap (option_and_then (after subs (λ i. keys (suc i)) zero)) (f.calls (keys 0));
      each = λ keys j l. let e : 0 ≡ j = omega (arith, l) in (f.last, ap (λ i. after subs keys i f.last) (sym e), f.deep);
    } in
    let whole = way_then subs least f.n 1 (opened subs s g values c) f.last end f.way one in
    let count : suc (suc f.n) ≡ suc (f.n + 1) = omega arith in
    record {
      n = suc (suc f.n);
      few = omega (arith, few);
      waits = f.waits;
      leads = λ keys. ap (λ k. after subs keys k s) count ∙ ap (option_and_then (after subs (λ i. keys (suc i)) (f.n + 1))) (next_at subs s (opened subs s g values c) (keys 0) c.calls) ∙ whole.leads (λ i. keys (suc i));
      inside = λ keys j low high. behind (f.n + 1) end whole keys j low (omega (arith, high));
    }
  where
    behind : (n : ℕ) (end : State) → Way (the_subroutines core) (suc (suc (length c.below))) n (opened (the_subroutines core) s g values c) end → (keys : ℕ → ℕ) (j : ℕ) → 0 < j → j < suc n
        → (t : State) × (after (the_subroutines core) keys j s ≡ Some t) × (length s.frames < length t.frames)
    behind n end w keys zero low high = absurd (omega (arith, low))
    behind n end w keys (suc j) low high =
        let r = w.each (λ i. keys (suc i)) j (omega (arith, high)) in
        let deep : length s.frames ≡ suc (length c.below) = ap length c.frames in (
          r.0,
          ap (option_and_then (after (the_subroutines core) (λ i. keys (suc i)) j)) (next_at (the_subroutines core) s (opened (the_subroutines core) s g values c) (keys 0) c.calls) ∙ r.1,
          omega (arith, r.2, deep),
        )
