-- Paths of single steps that hear no key, in each of whose states a plain routine runs and the stack has room.
use Rattle.std.proofs.Common.{◌≡◌, ℕ, zero, suc, ◌+◌, ◌<◌, ◌≤◌, Bool, true, false, nat_le, List, [], ◌∷◌, length, Option, Some, None, option_and_then, refl, sym, ap, ◌∙◌, subst, arith, suc-add}
use Rattle.std.specs.Prelude.{if◌then◌else◌, option_map}
use Rattle.std.proofs.lemmas.Bool.Decides.{nat_tests}
use Rattle.simulation.specs.System.{Listening, other_keys}
use Rattle.jack_meaning.specs.Text.{Text, Subroutine}
use Rattle.jack_meaning.specs.Meaning.{Frame, State, Outcome, Acts, Stray, Done, step, subroutine_at, new_frame, filled_text}
use Rattle.jack_meaning.specs.StackWords.{stack_words, standing_first}
use Rattle.jack_meaning.specs.Level.{next_of, is_done, meaning_of}
use Rattle.os_laws.proofs.Basics.{frame_with, enters, some_is, none-some}
use Rattle.os_laws.proofs.Returns.{returning}
use Rattle.os_laws.proofs.Runs.{Call, over, next, run}
use Rattle.os_functions.proofs.Quiet.{Quiet, one, quiet_then, quiet_run}
use Rattle.os_start.proofs.Narrow.{wide_text, stands_first, Keeps, keeps_itself, next_first, first_keeps_it, run_keeps}
use Rattle.os_start.proofs.Plain.{is_plain, runs_plain, plain_meaning, both_true}

-- the stack has room, and a plain routine runs
pub record Calm (subs : List Subroutine) (s : State) : Type 0 where
  pub room : stack_words s.frames + 8 ≤ 1792
  pub plain : runs_plain subs s.frames ≡ true

fits_if : (w : ℕ) → w + 8 ≤ 1792 → nat_le (w + 8) 1792 ≡ true
fits_if w h = grind (arith, nat_tests)

pub calm_fits : (subs : List Subroutine) (s : State) → Calm subs s → (meaning_of subs).fits s ≡ true
calm_fits subs s c = fits_if (stack_words s.frames) c.room

pub calm_plain : (subs : List Subroutine) (s : State) → Calm subs s → (plain_meaning subs).fits s ≡ true
calm_plain subs s c = both_true (nat_le (stack_words s.frames + 8) 1792) (runs_plain subs s.frames) (calm_fits subs s c) c.plain

-- n such steps; nothing is said of the last state
pub data Path (subs : List Subroutine) : ℕ → State → State → Type 0 where
  here : (s : State) → Path subs 0 s s
  onward : (n : ℕ) (s t u : State) → Calm subs s → Quiet subs 1 s t → Path subs n t u → Path subs (suc n) s u

pub path_one : (subs : List Subroutine) (s t : State) → Calm subs s → Quiet subs 1 s t → Path subs 1 s t
path_one subs s t c q = onward 0 s t t c q (here t)

pub path_then : (subs : List Subroutine) (m n : ℕ) (s t u : State) → Path subs m s t → Path subs n t u → Path subs (m + n) s u
path_then subs m n s t u (here _) b = subst (λ (k : ℕ). Path subs k s u) (let z : n ≡ 0 + n = omega arith in z) b
path_then subs m n s t u (onward m' _ r _ c q a) b = subst (λ (k : ℕ). Path subs k s u) (sym (suc-add m' n)) (onward (m' + n) s r u c q (path_then subs m' n r t u a b))

-- ---- a call by itself over other frames

module _ (subs : List Subroutine) (b : Frame) (bs : List Frame) where
  abbrev pub Room : Frame → Type 0
  Room f = stack_words (b ∷ bs) + length f.arguments + 5 + length f.locals + wide_text f.text + 8 ≤ 1792

  pub calm_kept : (f f' : Frame) (ss ws : List ℕ) → is_plain (subroutine_at subs f.subroutine) ≡ true → Room f → Keeps f f' → Calm subs (record { frames = f' ∷ b ∷ bs; statics = ss; words = ws })
  calm_kept f f' ss ws plain room k = record {
    room = omega (arith, room, k.arguments, k.locals, k.narrow, stands_first f'.text);
    plain = ap (λ (g : ℕ). is_plain (subroutine_at subs g)) k.subroutine ∙ plain;
  }

  pub path_run : (n : ℕ) (c d : Call) → is_plain (subroutine_at subs c.frame.subroutine) ≡ true → Room c.frame → run subs n c ≡ Some d → Path subs n (over (b ∷ bs) c) (over (b ∷ bs) d)
  path_run zero c d plain room e = subst (λ (z : Call). Path subs 0 (over (b ∷ bs) c) (over (b ∷ bs) z)) (some_is c d e) (here (over (b ∷ bs) c))
  path_run (suc n) c d plain room e =
      let (m, first, rest) = next_first subs n (next subs c) d e in
      let k = first_keeps_it subs c m first in
      let one_step : run subs 1 c ≡ Some m = ap (option_and_then (run subs 0)) first in
      onward n (over (b ∷ bs) c) (over (b ∷ bs) m) (over (b ∷ bs) d) (calm_kept c.frame c.frame c.statics c.words plain room (keeps_itself c.frame))
      (quiet_run subs (b ∷ bs) 1 c m one_step)
      (path_run n m d (ap (λ (g : ℕ). is_plain (subroutine_at subs g)) k.subroutine ∙ plain) (omega (arith, room, k.arguments, k.locals, k.narrow)) rest)

  -- a step of a text, whose first statement alone counts
  pub calm_here : (f : Frame) (ss ws : List ℕ) → is_plain (subroutine_at subs f.subroutine) ≡ true → stack_words (b ∷ bs) + length f.arguments + 5 + length f.locals + standing_first f.text + 8 ≤ 1792 → Calm subs (record { frames = f ∷ b ∷ bs; statics = ss; words = ws })
  calm_here f ss ws plain room = record { room = room; plain = plain }

-- A call whose callee calls nothing, from the step that makes it to its value. The caller waits over other frames.
module _ (subs : List Subroutine) (b : Frame) (bs : List Frame) (f waits : Frame) (ss ws ss' ws' : List ℕ) (g : ℕ) (values : List ℕ) (sub : Subroutine) (n k w : ℕ) (rest : Text) (end : Frame) where
  abbrev asks : State
  asks = record { frames = f ∷ b ∷ bs; statics = ss; words = ws }

  abbrev first : Call
  first = record { frame = frame_with g sub values; statics = ss; words = ws }

  abbrev done : Call
  done = record { frame = returning end k w rest; statics = ss'; words = ws' }

  abbrev entered : State
  entered = over (waits ∷ b ∷ bs) first

  abbrev left : State
  left = over (waits ∷ b ∷ bs) done

  abbrev back : State
  back = record { frames = record waits { text = filled_text w waits.text } ∷ b ∷ bs; statics = ss'; words = ws' }

  pub path_call : subroutine_at subs g ≡ sub → is_plain sub ≡ true → Calm subs asks → Room subs waits (b ∷ bs) (frame_with g sub values)
      → step subs 0 asks ≡ Acts false (record { frames = new_frame subs g values ∷ waits ∷ b ∷ bs; statics = ss; words = ws }) → run subs n first ≡ Some done → Path subs (1 + (n + 1)) asks back
  path_call is plain calm room calls ran =
      let runs : is_plain (subroutine_at subs g) ≡ true = ap is_plain is ∙ plain in
      let made : step subs 0 asks ≡ Acts false entered = calls ∙ ap (λ (z : Frame). Acts false (record { frames = z ∷ waits ∷ b ∷ bs; statics = ss; words = ws })) (enters subs g sub values is) in
      let inside : Path subs n entered left = path_run subs waits (b ∷ bs) n first done runs room ran in
      let last : Calm subs left = calm_kept subs waits (b ∷ bs) first.frame done.frame ss' ws' runs room (run_keeps subs n first done ran) in
      path_then subs 1 (n + 1) asks entered back (path_one subs asks entered calm (one subs asks entered made)) (path_then subs n 1 entered left back inside (path_one subs left back last (one subs left back refl)))

-- ---- what a path says

-- each state before the last, and the steps to it
pub record Passes (subs : List Subroutine) (s : State) (j : ℕ) : Type 0 where
  pub state : State
  pub quiet : Quiet subs j s state
  pub calm : Calm subs state

quiet_none : (subs : List Subroutine) (s : State) → Quiet subs 0 s s
quiet_none subs s = record { leads = λ keys. refl }

pub path_passes : (subs : List Subroutine) (n : ℕ) (s u : State) → Path subs n s u → (j : ℕ) → j < n → Passes subs s j
path_passes subs n s u (here _) j h = absurd (omega (arith, h))
path_passes subs n s u (onward m _ t _ c q p) zero h = record { state = s; quiet = quiet_none subs s; calm = c }
path_passes subs n s u (onward m _ t _ c q p) (suc j) h =
    let r = path_passes subs m t u p j (omega (arith, h)) in
    record { state = r.state; quiet = subst (λ (k : ℕ). Quiet subs k s r.state) (let z : 1 + j ≡ suc j = omega arith in z) (quiet_then subs 1 j s t r.state q r.quiet); calm = r.calm }

pub path_quiet : (subs : List Subroutine) (n : ℕ) (s u : State) → Path subs n s u → Quiet subs n s u
path_quiet subs n s u (here _) = quiet_none subs s
path_quiet subs n s u (onward m _ t _ c q p) = subst (λ (k : ℕ). Quiet subs k s u) (let z : 1 + m ≡ suc m = omega arith in z) (quiet_then subs 1 m s t u q (path_quiet subs m t u p))

-- ---- one such step under any key

mapped : (f : State → Listening State) (o : Option State) (l : Listening State) → option_map f o ≡ Some l → (x : State) × (o ≡ Some x) × (f x ≡ l)
mapped f None l e = absurd (none-some l e)
mapped f (Some x) l e = (x, refl, some_is (f x) l e)

abbrev listening : (subs : List Subroutine) (s : State) (keys : List ℕ) → State → Listening State
listening subs s keys x = record { state = x; keys = if (meaning_of subs).hears s then other_keys keys else keys }

told_deaf : (b : Bool) (k : ℕ) → (if b then [] else k ∷ []) ≡ k ∷ [] → b ≡ false
told_deaf true k e = absurd (cc e)
told_deaf false k e = refl

goes_on : (o : Outcome) (t : State) → next_of o ≡ Some t → is_done o ≡ false
goes_on (Acts heard s) t e = refl
goes_on (Stray a) t e = refl
goes_on Done t e = absurd (none-some t e)

-- a step that hears no key is the same under every key
pub record Steps (subs : List Subroutine) (s t : State) : Type 0 where
  pub step : (key : ℕ) → (meaning_of subs).step key s ≡ Some t
  pub unheard : (meaning_of subs).hears s ≡ false
  pub going : (meaning_of subs).halted s ≡ false

pub quiet_steps : (subs : List Subroutine) (s t : State) → Quiet subs 1 s t → Steps subs s t
quiet_steps subs s t q = record { step = under; unheard = told_deaf ((meaning_of subs).hears s) 0 (ap (λ (l : Listening State). l.keys) (at 0).2); going = goes_on (step subs 0 s) t (under 0) }
  where
    at : (key : ℕ) → (x : State) × ((meaning_of subs).step key s ≡ Some x) × (listening subs s (key ∷ []) x ≡ record { state = t; keys = key ∷ [] })
    at key = mapped (listening subs s (key ∷ [])) ((meaning_of subs).step key s) (record { state = t; keys = key ∷ [] }) (q.leads (key ∷ []))

    under : (key : ℕ) → (meaning_of subs).step key s ≡ Some t
    under key = let r = at key in r.1 ∙ ap (λ (l : Listening State). Some l.state) r.2
