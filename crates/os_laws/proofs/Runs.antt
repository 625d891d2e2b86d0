-- Runs of a call by itself, whatever frames wait below it.
use Rattle.std.proofs.Common.{◌≡◌, ℕ, zero, suc, ◌+◌, ◌≤◌, Bool, true, false, nat_lt, List, [], ◌∷◌, Option, Some, None, option_and_then, refl, ap, ◌∙◌, arith, suc-add}
use Rattle.std.specs.Prelude.{if◌then◌else◌, slice_set}
use Rattle.word16.specs.Words.{word_add}
use Rattle.jack_meaning.specs.Text.{Variable, Argument, Local, Static, Let, LetField, LetThis, Store, Do, If, While, Return, Text, End, Next, Subroutine, Program}
use Rattle.jack_meaning.specs.Expressions.{Move, Stands, Rewrites, Calls, Strays, rewrite, value_of}
use Rattle.jack_meaning.specs.Meaning.{Frame, State, Outcome, Acts, Stray, Done, view_of, step_part, after_assignment, after_store, passed_over, after_return, step_first, step}
use Rattle.jack_meaning.specs.Level.{next_of, has_heard}
use Rattle.jack_meaning.proofs.Deaf.{law as meaning_law}
use Rattle.os_laws.specs.Calls.{after}
use Rattle.os_laws.proofs.Basics.{none-some, some_is}

-- a call as it stands: its frame, the statics, the words of heap and screen
pub record Call : Type 0 where
  pub frame : Frame
  pub statics : List ℕ
  pub words : List ℕ

-- the state in which it stands over these frames
abbrev pub over : List Frame → Call → State
over below c = record { frames = c.frame ∷ below; statics = c.statics; words = c.words }

-- the call with nothing above or below it
abbrev pub alone : List Frame → List ℕ → List ℕ → Option Call
alone [] ss ws = None
alone (f ∷ []) ss ws = Some (record { frame = f; statics = ss; words = ws })
alone (f ∷ g ∷ fs) ss ws = None

abbrev pub call_in : Outcome → Option Call
call_in (Acts true s) = None
call_in (Acts false s) = alone s.frames s.statics s.words
call_in (Stray a) = None
call_in Done = None

-- One step of the call by itself, where it neither calls nor returns nor hears a key, and n such steps.
abbrev pub next : List Subroutine → Call → Option Call
next subs c = call_in (step subs 0 (over [] c))

abbrev pub run : List Subroutine → ℕ → Call → Option Call
run subs zero c = Some c
run subs (suc n) c = option_and_then (run subs n) (next subs c)

-- ---- a step over other frames

-- what the step alone comes to, it comes to over any frames
abbrev Lifts : List Frame → Outcome → Outcome → Type 0
Lifts below o o' = (c' : Call) → call_in o ≡ Some c' → o' ≡ Acts false (over below c')

acts_lifts : (below : List Frame) (heard : Bool) (f : Frame) (ss ws : List ℕ) → Lifts below (Acts heard (record { frames = f ∷ []; statics = ss; words = ws })) (Acts heard (record { frames = f ∷ below; statics = ss; words = ws }))
acts_lifts below true f ss ws c' e = absurd (none-some c' e)
acts_lifts below false f ss ws c' e = ap (λ (c : Call). Acts false (over below c)) (some_is _ c' e)

module _ (subs : List Subroutine) (below : List Frame) (f : Frame) (ss ws : List ℕ) where
  abbrev low : State
  low = record { frames = f ∷ []; statics = ss; words = ws }

  abbrev high : State
  high = record { frames = f ∷ below; statics = ss; words = ws }

  part_lifts : {A : Type 0} (m : Move A) (whole : A → Text) (o o' : Outcome) → Lifts below o o' → Lifts below (step_part subs low f [] m whole o) (step_part subs high f below m whole o')
  part_lifts Stands whole o o' h = h
  part_lifts (Rewrites heard a) whole o o' h = acts_lifts below heard (record f { text = whole a }) ss ws
  part_lifts (Calls g xs a) whole o o' h = λ c' e. absurd (none-some c' e)
  part_lifts (Strays a) whole o o' h = λ c' e. absurd (none-some c' e)

  assigned_lifts : (rest : Text) (x : Variable) (w : ℕ) → Lifts below (after_assignment low f [] rest x w) (after_assignment high f below rest x w)
  assigned_lifts rest (Argument k) w = acts_lifts below false (record f { text = rest; arguments = slice_set f.arguments k w }) ss ws
  assigned_lifts rest (Local k) w = acts_lifts below false (record f { text = rest; locals = slice_set f.locals k w }) ss ws
  assigned_lifts rest (Static k) w = acts_lifts below false (record f { text = rest }) (slice_set ss k w) ws

  stored_with : (b b' : Bool) (rest : Text) (a w k : ℕ)
      → Lifts below (if b then Stray a else (if b' then passed_over (record low { words = slice_set ws k w }) f [] rest else Stray a)) (if b then Stray a else (if b' then passed_over (record high { words = slice_set ws k w }) f below rest else Stray a))
  stored_with true b' rest a w k = λ c' e. absurd (none-some c' e)
  stored_with false true rest a w k = acts_lifts below false (record f { text = rest }) ss (slice_set ws k w)
  stored_with false false rest a w k = λ c' e. absurd (none-some c' e)

  stored_lifts : (rest : Text) (a w : ℕ) → Lifts below (after_store low f [] rest a w) (after_store high f below rest a w)
  stored_lifts rest a w = stored_with (nat_lt a 2048) (nat_lt a 24576) rest a w _

  passed_lifts : (g : Frame) (rest : Text) → Lifts below (passed_over low g [] rest) (passed_over high g below rest)
  passed_lifts g rest = acts_lifts below false (record g { text = rest }) ss ws

  returned_lifts : (w : ℕ) → Lifts below (after_return low [] w) (after_return high below w)
  returned_lifts w c' e = absurd (none-some c' e)

  first_lifts : (t : Text) → Lifts below (step_first subs 0 low f [] t) (step_first subs 0 high f below t)
  first_lifts End = λ c' e. absurd (none-some c' e)
  first_lifts (Next (Let n x e) rest) = part_lifts (rewrite (view_of 0 low f) e) _ _ _ (assigned_lifts rest x (value_of e))
  first_lifts (Next (LetField n k e) rest) = part_lifts (rewrite (view_of 0 low f) e) _ _ _ (stored_lifts rest (word_add f.this k) (value_of e))
  first_lifts (Next (LetThis n e) rest) = part_lifts (rewrite (view_of 0 low f) e) _ _ _ (passed_lifts (record f { this = value_of e }) rest)
  first_lifts (Next (Store n a i e) rest) =
      part_lifts (rewrite (view_of 0 low f) a) _ _ _
      (part_lifts (rewrite (view_of 0 low f) i) _ _ _
      (part_lifts (rewrite (view_of 0 low f) e) _ _ _ (stored_lifts rest (word_add (value_of a) (value_of i)) (value_of e))))
  first_lifts (Next (Do n e) rest) = part_lifts (rewrite (view_of 0 low f) e) _ _ _ (passed_lifts f rest)
  first_lifts (Next (If n o c a b) rest) = part_lifts (rewrite (view_of 0 low f) c) _ _ _ (passed_lifts f _)
  first_lifts (Next (While n c a) rest) = part_lifts (rewrite (view_of 0 low f) c) _ _ _ (passed_lifts f _)
  first_lifts (Next (Return n e) rest) = part_lifts (rewrite (view_of 0 low f) e) _ _ _ (returned_lifts (value_of e))

-- a step that hears no key is one under every key
pub next_at : (subs : List Subroutine) (s t : State) (key : ℕ) → step subs 0 s ≡ Acts false t → next_of (step subs key s) ≡ Some t
next_at subs s t key e = let program : Program = record { classes = []; subroutines = subs; init = 0 } in ap next_of (meaning_law.deaf program s 0 key (ap has_heard e) ∙ e)

-- a step of the call by itself is one over any frames, under every key
pub next_over : (subs : List Subroutine) (below : List Frame) (key : ℕ) (c c' : Call) → next subs c ≡ Some c' → next_of (step subs key (over below c)) ≡ Some (over below c')
next_over subs below key c c' e = next_at subs (over below c) (over below c') key (first_lifts subs below c.frame c.statics c.words c.frame.text c' e)

-- ---- runs, one after another

-- a first step and the rest
next_first : (subs : List Subroutine) (n : ℕ) (o : Option Call) (c' : Call) → option_and_then (run subs n) o ≡ Some c' → (m : Call) × (o ≡ Some m) × (run subs n m ≡ Some c')
next_first subs n None c' e = absurd (none-some c' e)
next_first subs n (Some m) c' e = (m, refl, e)

pub run_then : (subs : List Subroutine) (m n : ℕ) (c d e : Call) → run subs m c ≡ Some d → run subs n d ≡ Some e → run subs (m + n) c ≡ Some e
run_then subs zero n c d e p q = ap (λ k. run subs k c) (let z : 0 + n ≡ n = omega arith in z) ∙ ap (run subs n) (some_is c d p) ∙ q
run_then subs (suc m) n c d e p q =
    let s = next_first subs m (next subs c) d p in
    ap (λ k. run subs k c) (suc-add m n) ∙ ap (option_and_then (run subs (m + n))) s.1 ∙ run_then subs m n s.0 d e s.2 q

-- each state on the way
pub run_before : (subs : List Subroutine) (n j : ℕ) (c c' : Call) → run subs n c ≡ Some c' → j ≤ n → (m : Call) × (run subs j c ≡ Some m)
run_before subs n zero c c' e h = (c, refl)
run_before subs zero (suc j) c c' e h = absurd (omega (arith, h))
run_before subs (suc n) (suc j) c c' e h =
    let s = next_first subs n (next subs c) c' e in
    let r = run_before subs n j s.0 c' s.2 (omega (arith, h)) in
    (r.0, ap (option_and_then (run subs j)) s.1 ∙ r.1)

-- a run is one over any frames, under every key
pub run_over : (subs : List Subroutine) (below : List Frame) (keys : ℕ → ℕ) (n : ℕ) (c c' : Call) → run subs n c ≡ Some c' → after subs keys n (over below c) ≡ Some (over below c')
run_over subs below keys zero c c' e = ap (λ (d : Call). Some (over below d)) (some_is c c' e)
run_over subs below keys (suc n) c c' e =
    let s = next_first subs n (next subs c) c' e in
    ap (option_and_then (after subs (λ i. keys (suc i)) n)) (next_over subs below (keys 0) c s.0 s.1) ∙ run_over subs below (λ i. keys (suc i)) n s.0 c' s.2

-- and so it is with one step more, which is the same under every key
pub run_ends : (subs : List Subroutine) (below : List Frame) (keys : ℕ → ℕ) (n : ℕ) (c c' : Call) (t : State) → run subs n c ≡ Some c' → ((key : ℕ) → next_of (step subs key (over below c')) ≡ Some t) → after subs keys (suc n) (over below c) ≡ Some t
run_ends subs below keys zero c c' t e last =
    ap (λ (d : Call). option_and_then (after subs (λ i. keys (suc i)) zero) (next_of (step subs (keys 0) (over below d)))) (some_is c c' e) ∙ ap (option_and_then (after subs (λ i. keys (suc i)) zero)) (last (keys 0))
run_ends subs below keys (suc n) c c' t e last =
    let s = next_first subs n (next subs c) c' e in
    ap (option_and_then (after subs (λ i. keys (suc i)) (suc n))) (next_over subs below (keys 0) c s.0 s.1) ∙ run_ends subs below (λ i. keys (suc i)) n s.0 c' t s.2 last
