-- Steps that hear no key: the same state is reached over every list of keys, and all of them are left.
use Rattle.std.proofs.Common.{◌≡◌, ℕ, zero, suc, ◌+◌, Bool, true, false, nat_lt, List, [], ◌∷◌, Option, Some, None, option_and_then, refl, ap, ◌∙◌, subst, arith}
use Rattle.std.specs.Prelude.{if◌then◌else◌, slice_set, option_map}
use Rattle.word16.specs.Words.{word_add}
use Rattle.simulation.specs.System.{Listening, first_key, other_keys, step_from, run_of}
use Rattle.jack_meaning.specs.Text.{Variable, Argument, Local, Static, Let, LetField, LetThis, Store, Do, If, While, Return, Text, End, Next, Subroutine}
use Rattle.jack_meaning.specs.Expressions.{Move, Stands, Rewrites, Calls, Strays, rewrite, value_of}
use Rattle.jack_meaning.specs.Meaning.{Frame, State, Outcome, Acts, Stray, Done, view_of, step_part, after_assignment, after_store, passed_over, after_return, step_first, step, subroutine_at, new_frame, filled_text}
use Rattle.jack_meaning.specs.Level.{next_of, has_heard, meaning_of}
use Rattle.os_laws.proofs.Basics.{none-some, some_is, frame_with, enters}
use Rattle.os_laws.proofs.Returns.{returning}
use Rattle.os_laws.proofs.Runs.{Call, over, call_in, next, run, next_at, next_over}

-- ---- whether a step hears the key does not depend on the frames below

module _ (subs : List Subroutine) (below : List Frame) (f : Frame) (ss ws : List ℕ) where
  abbrev low : State
  low = record { frames = f ∷ []; statics = ss; words = ws }

  abbrev high : State
  high = record { frames = f ∷ below; statics = ss; words = ws }

  abbrev Alike : Outcome → Outcome → Type 0
  Alike o o' = has_heard o' ≡ has_heard o

  part_heard : {A : Type 0} (m : Move A) (whole : A → Text) (o o' : Outcome) → Alike o o' → Alike (step_part subs low f [] m whole o) (step_part subs high f below m whole o')
  part_heard Stands whole o o' h = h
  part_heard (Rewrites heard a) whole o o' h = refl
  part_heard (Calls g xs a) whole o o' h = refl
  part_heard (Strays a) whole o o' h = refl

  assigned_heard : (rest : Text) (x : Variable) (w : ℕ) → Alike (after_assignment low f [] rest x w) (after_assignment high f below rest x w)
  assigned_heard rest (Argument k) w = refl
  assigned_heard rest (Local k) w = refl
  assigned_heard rest (Static k) w = refl

  stored_with : (b b' : Bool) (rest : Text) (a w k : ℕ)
      → Alike (if b then Stray a else (if b' then passed_over (record low { words = slice_set ws k w }) f [] rest else Stray a)) (if b then Stray a else (if b' then passed_over (record high { words = slice_set ws k w }) f below rest else Stray a))
  stored_with true b' rest a w k = refl
  stored_with false true rest a w k = refl
  stored_with false false rest a w k = refl

  stored_heard : (rest : Text) (a w : ℕ) → Alike (after_store low f [] rest a w) (after_store high f below rest a w)
  stored_heard rest a w = stored_with (nat_lt a 2048) (nat_lt a 24576) rest a w _

  returned_heard : (fs : List Frame) (w : ℕ) → has_heard (after_return high fs w) ≡ false
  returned_heard [] w = refl
  returned_heard (g ∷ gs) w = refl

  first_heard : (t : Text) → Alike (step_first subs 0 low f [] t) (step_first subs 0 high f below t)
  first_heard End = refl
  first_heard (Next (Let n x e) rest) = part_heard (rewrite (view_of 0 low f) e) _ _ _ (assigned_heard rest x (value_of e))
  first_heard (Next (LetField n k e) rest) = part_heard (rewrite (view_of 0 low f) e) _ _ _ (stored_heard rest (word_add f.this k) (value_of e))
  first_heard (Next (LetThis n e) rest) = part_heard (rewrite (view_of 0 low f) e) _ _ _ refl
  first_heard (Next (Store n a i e) rest) =
      part_heard (rewrite (view_of 0 low f) a) _ _ _
      (part_heard (rewrite (view_of 0 low f) i) _ _ _
      (part_heard (rewrite (view_of 0 low f) e) _ _ _ (stored_heard rest (word_add (value_of a) (value_of i)) (value_of e))))
  first_heard (Next (Do n e) rest) = part_heard (rewrite (view_of 0 low f) e) _ _ _ refl
  first_heard (Next (If n o c a b) rest) = part_heard (rewrite (view_of 0 low f) c) _ _ _ refl
  first_heard (Next (While n c a) rest) = part_heard (rewrite (view_of 0 low f) c) _ _ _ refl
  first_heard (Next (Return n e) rest) = part_heard (rewrite (view_of 0 low f) e) _ _ _ (returned_heard below (value_of e))

-- what goes on by itself has heard no key
unheard : (o : Outcome) (c : Call) → call_in o ≡ Some c → has_heard o ≡ false
unheard (Acts true s) c e = absurd (none-some c e)
unheard (Acts false s) c e = refl
unheard (Stray a) c e = refl
unheard Done c e = refl

acts : (o : Outcome) (t : State) → next_of o ≡ Some t → has_heard o ≡ false → o ≡ Acts false t
acts (Acts true s) t e h = let f : true ≡ false = h in absurd (cc f)
acts (Acts false s) t e h = ap (Acts false) (some_is s t e)
acts (Stray a) t e h = absurd (none-some t e)
acts Done t e h = absurd (none-some t e)

-- a step of the call by itself
step_over : (subs : List Subroutine) (below : List Frame) (c c' : Call) → next subs c ≡ Some c' → step subs 0 (over below c) ≡ Acts false (over below c')
step_over subs below c c' e =
    acts (step subs 0 (over below c)) (over below c') (next_over subs below 0 c c' e)
    (first_heard subs below c.frame c.statics c.words c.frame.text ∙ unheard (step subs 0 (over [] c)) c' e)

-- ---- steps of a state

-- n steps lead from a state to another, and none hears a key
pub record Quiet (subs : List Subroutine) (n : ℕ) (s s' : State) : Type 0 where
  pub leads : (keys : List ℕ) → run_of (meaning_of subs) s keys n ≡ Some (record { state = s'; keys = keys })

left_over : {A : Type 0} (b : Bool) (a a' : A) → b ≡ false → (if b then a else a') ≡ a'
left_over b a a' e = ap (λ z. if z then a else a') e

pub one : (subs : List Subroutine) (s t : State) → step subs 0 s ≡ Acts false t → Quiet subs 1 s t
one subs s t e = record { leads = λ keys. leads keys }
  where
    heard : has_heard (step subs 0 s) ≡ false
    heard = ap has_heard e

    leads : (keys : List ℕ) → run_of (meaning_of subs) s keys 1 ≡ Some (record { state = t; keys = keys })
    leads keys =
        ap (option_map (λ (z : State). let l : Listening State = record { state = z; keys = if has_heard (step subs 0 s) then other_keys keys else keys } in l)) (next_at subs s t (first_key keys) e)
        ∙ ap (λ (ks : List ℕ). Some (let l : Listening State = record { state = t; keys = ks } in l)) (left_over (has_heard (step subs 0 s)) (other_keys keys) keys heard)

pub quiet_then : (subs : List Subroutine) (m n : ℕ) (s t u : State) → Quiet subs m s t → Quiet subs n t u → Quiet subs (m + n) s u
quiet_then subs m n s t u a b = record { leads = λ keys. split keys n ∙ b.leads keys }
  where
    split : (keys : List ℕ) (k : ℕ) → run_of (meaning_of subs) s keys (m + k) ≡ run_of (meaning_of subs) t keys k
    split keys zero = ap (run_of (meaning_of subs) s keys) (let z : m + 0 ≡ m = omega arith in z) ∙ a.leads keys
    split keys (suc k) = ap (run_of (meaning_of subs) s keys) (let z : m + suc k ≡ suc (m + k) = omega arith in z) ∙ ap (option_and_then (step_from (meaning_of subs))) (split keys k)

next_first : (subs : List Subroutine) (n : ℕ) (o : Option Call) (c' : Call) → option_and_then (run subs n) o ≡ Some c' → (m : Call) × (o ≡ Some m) × (run subs n m ≡ Some c')
next_first subs n None c' e = absurd (none-some c' e)
next_first subs n (Some m) c' e = (m, refl, e)

pub quiet_run : (subs : List Subroutine) (below : List Frame) (n : ℕ) (c d : Call) → run subs n c ≡ Some d → Quiet subs n (over below c) (over below d)
quiet_run subs below zero c d e = record { leads = λ keys. ap (λ (z : Call). Some (let l : Listening State = record { state = over below z; keys = keys } in l)) (some_is c d e) }
quiet_run subs below (suc n) c d e =
    let (m, first, rest) = next_first subs n (next subs c) d e in
    let whole = quiet_then subs 1 n (over below c) (over below m) (over below d) (one subs (over below c) (over below m) (step_over subs below c m first)) (quiet_run subs below n m d rest) in
    subst (λ k. Quiet subs k (over below c) (over below d)) (let z : 1 + n ≡ suc n = omega arith in z) whole

-- a call whose callee calls nothing, from the step that makes it to its value
pub quiet_call : (subs : List Subroutine) (below : List Frame) (f waits : Frame) (ss ws ss' ws' : List ℕ) (g : ℕ) (values : List ℕ) (sub : Subroutine) (n k w : ℕ) (rest : Text) (end : Frame) → subroutine_at subs g ≡ sub
    → step subs 0 (record { frames = f ∷ below; statics = ss; words = ws }) ≡ Acts false (record { frames = new_frame subs g values ∷ waits ∷ below; statics = ss; words = ws })
    → run subs n (record { frame = frame_with g sub values; statics = ss; words = ws }) ≡ Some (record { frame = returning end k w rest; statics = ss'; words = ws' })
    → Quiet subs (1 + (n + 1)) (record { frames = f ∷ below; statics = ss; words = ws }) (record { frames = record waits { text = filled_text w waits.text } ∷ below; statics = ss'; words = ws' })
quiet_call subs below f waits ss ws ss' ws' g values sub n k w rest end is calls ran =
    let s : State = record { frames = f ∷ below; statics = ss; words = ws } in
    let first : Call = record { frame = new_frame subs g values; statics = ss; words = ws } in
    let last : Call = record { frame = returning end k w rest; statics = ss'; words = ws' } in
    let back : State = record { frames = record waits { text = filled_text w waits.text } ∷ below; statics = ss'; words = ws' } in
    let entered : run subs n first ≡ Some last = ap (λ (z : Frame). run subs n (record { frame = z; statics = ss; words = ws })) (enters subs g sub values is) ∙ ran in
    let inside = quiet_then subs n 1 (over (waits ∷ below) first) (over (waits ∷ below) last) back (quiet_run subs (waits ∷ below) n first last entered) (one subs (over (waits ∷ below) last) back refl) in
    quiet_then subs 1 (n + 1) s (over (waits ∷ below) first) back (one subs s (over (waits ∷ below) first) calls) inside
