-- Calls on a stack of words.
use Rattle.std.proofs.Common.{◌≡◌, ℕ, zero, suc, ◌+◌, ◌-◌, ◌*◌, ◌<◌, ◌≤◌, List, [], ◌∷◌, ◌++◌, length, arith, refl, sym, ap, ◌∙◌, subst, drop, take, reverse, get_or, add-one, nat_lt, replicate}
use Rattle.std.specs.Prelude.{Some, None, slice_get, slice_index, slice_set}
use Rattle.std.proofs.lemmas.Grind.{reverse_onto}
use Rattle.std.proofs.lemmas.List.{get_or-set_same, get_or-set_other, get_or_read_under, length-set}
use Rattle.std.proofs.lemmas.Bool.Decides.{nat_tests}
use Rattle.vm_machine.specs.Step.{called_frame}
use Rattle.vm_machine.specs.State.{Frame, words_in_use}
use Rattle.vm_machine.specs.declared.stack.Call.{Call}
use Rattle.vm_machine.specs.Calls.{Calls, calls_of, range, values_from, frame_of, no_call, call_at, below_of, IsLaid, AreLaid, IsStack}

pub length_range : (words : List ℕ) (a n : ℕ) → length (range words a n) ≡ n
length_range words a zero = refl
length_range words a (suc n) = omega (arith, length_range words (suc a) n)

pub length_values : (words : List ℕ) (a n : ℕ) → length (values_from words a n) ≡ n
length_values words a zero = refl
length_values words a (suc n) = omega (arith, length_values words a n)

pub range_some : (words : List ℕ) (a n i at : ℕ) → at ≡ a + i → i < n → slice_get (range words a n) i ≡ Some (slice_index words at)
range_some words a zero i at e h = absurd (omega (arith, h))
range_some words a (suc n) zero at e h = let f : a ≡ at = omega arith in rw f refl
range_some words a (suc n) (suc i) at e h = range_some words (suc a) n i at (omega arith) (omega arith)

pub range_none : (words : List ℕ) (a n i : ℕ) → n ≤ i → slice_get (range words a n) i ≡ None
range_none words a zero i h = refl
range_none words a (suc n) zero h = absurd (omega (arith, h))
range_none words a (suc n) (suc i) h = range_none words (suc a) n i (omega arith)

pub value_some : (words : List ℕ) (a n i at : ℕ) → at + i + 1 ≡ a + n → i < n → slice_get (values_from words a n) i ≡ Some (slice_index words at)
value_some words a zero i at e h = absurd (omega (arith, h))
value_some words a (suc n) zero at e h = let f : a + n ≡ at = omega arith in rw f refl
value_some words a (suc n) (suc i) at e h = value_some words a n i at (omega arith) (omega arith)

pub value_none : (words : List ℕ) (a n i : ℕ) → n ≤ i → slice_get (values_from words a n) i ≡ None
value_none words a zero i h = refl
value_none words a (suc n) zero h = absurd (omega (arith, h))
value_none words a (suc n) (suc i) h = value_none words a n i (omega arith)

-- the words in use end where the topmost value ends
pub used : (words : List ℕ) (calls : List Call) (d : ℕ) (c : Call) (end : ℕ) → AreLaid calls d c → IsLaid c end
    → words_in_use (frame_of words c end ∷ below_of words calls d c.arguments) ≡ end
used words calls zero c end h l = omega (arith, length_values words c.values (end - c.values), h.2)
used words calls (suc d) c end h l =
    let rest = used words calls d (call_at calls d) c.arguments h.2 h.1 in
    omega (arith, rest, h.0, l.arguments, l.locals, l.values, length_range words c.arguments (c.locals - 5 - c.arguments), length_range words c.locals (c.values - c.locals), length_values words c.values (end - c.values))

pub in_use : (words : List ℕ) (calls : List Call) (d : ℕ) (c : Call) (end : ℕ) (now : Calls) → calls_of words calls d c end ≡ now → IsStack words calls d c end
    → words_in_use (now.top ∷ now.below) ≡ end
in_use words calls d c end now e s = ap (λ (z : Calls). words_in_use (z.top ∷ z.below)) (sym e) ∙ used words calls d c end s.laid s.top_laid

-- the number of values of the innermost frame
pub in_values : (words : List ℕ) (calls : List Call) (d : ℕ) (c : Call) (end : ℕ) (now : Calls) → calls_of words calls d c end ≡ now → length now.top.values ≡ end - c.values
in_values words calls d c end now e = ap (λ (z : Calls). length z.top.values) (sym e) ∙ length_values words c.values (end - c.values)

-- what is read of a list
pub reads : (words : List ℕ) (i w : ℕ) → w ≡ get_or words i w → i < length words → w ≡ slice_index words i
reads words i w e h = get_or_read_under words i (length words) w 0 e h refl

-- each call takes five words
pub deep : (calls : List Call) (d : ℕ) (c : Call) → AreLaid calls d c → 5 * d ≤ c.locals
deep calls zero c h = omega arith
deep calls (suc d) c h = omega (arith, deep calls d (call_at calls d) h.2, h.0, h.1.locals, h.1.values)

-- the place of a call's next command does not lie on the stack
pub laid_place : (calls : List Call) (d : ℕ) (c : Call) (place : ℕ) → AreLaid calls d c → AreLaid calls d (record c { place = place })
laid_place calls zero c place h = h
laid_place calls (suc d) c place h = h

-- nor do its pointers
pub laid_pointers : (calls : List Call) (d : ℕ) (c : Call) (this that : ℕ) → AreLaid calls d c → AreLaid calls d (record c { this = this; that = that })
laid_pointers calls zero c this that h = h
laid_pointers calls (suc d) c this that h = h

-- the words from a up to b are the same
abbrev pub Same : List ℕ → List ℕ → ℕ → ℕ → Type 0
Same words words' a b = (k : ℕ) → a ≤ k → k < b → slice_index words' k ≡ slice_index words k

pub set_after : (words : List ℕ) (i w a b : ℕ) → b ≤ i → Same words (slice_set words i w) a b
set_after words i w a b h = λ k l m. get_or-set_other words i k w 0 (λ e. omega (arith, e, m, h))

pub set_before : (words : List ℕ) (i w a b : ℕ) → i < a → Same words (slice_set words i w) a b
set_before words i w a b h = λ k l m. get_or-set_other words i k w 0 (λ e. omega (arith, e, l, h))

pub range_kept : (words words' : List ℕ) (a n lo hi : ℕ) → Same words words' lo hi → lo ≤ a → a + n ≤ hi → range words' a n ≡ range words a n
range_kept words words' a zero lo hi s l h = refl
range_kept words words' a (suc n) lo hi s l h = λ i. s a l (omega arith) i ∷ range_kept words words' (suc a) n lo hi s (omega arith) (omega arith) i

pub values_kept : (words words' : List ℕ) (a n lo hi : ℕ) → Same words words' lo hi → lo ≤ a → a + n ≤ hi → values_from words' a n ≡ values_from words a n
values_kept words words' a zero lo hi s l h = refl
values_kept words words' a (suc n) lo hi s l h = λ i. s (a + n) (omega arith) (omega arith) i ∷ values_kept words words' a n lo hi s l (omega arith) i

pub frame_kept : (words words' : List ℕ) (c : Call) (end m : ℕ) → Same words words' 0 m → IsLaid c end → end ≤ m → frame_of words' c end ≡ frame_of words c end
frame_kept words words' c end m s l h = λ i. record {
  function = c.function;
  place = c.place;
  arguments = range_kept words words' c.arguments (c.locals - 5 - c.arguments) 0 m s (omega arith) (omega (arith, l.arguments, l.locals, l.values)) i;
  locals = range_kept words words' c.locals (c.values - c.locals) 0 m s (omega arith) (omega (arith, l.arguments, l.locals, l.values)) i;
  values = values_kept words words' c.values (end - c.values) 0 m s (omega arith) (omega (arith, l.arguments, l.locals, l.values)) i;
  this = c.this;
  that = c.that;
}

pub below_kept : (words words' : List ℕ) (calls : List Call) (d : ℕ) (c : Call) (m : ℕ) → Same words words' 0 m → AreLaid calls d c → c.arguments ≤ m
    → below_of words' calls d c.arguments ≡ below_of words calls d c.arguments
below_kept words words' calls zero c m s h l = refl
below_kept words words' calls (suc d) c m s h l = λ i. frame_kept words words' (call_at calls d) c.arguments m s h.1 l i
    ∷ below_kept words words' calls d (call_at calls d) m s h.2 (omega (arith, h.1.arguments, h.1.locals, h.1.values, l)) i

-- the first d calls are the same
abbrev pub SameCalls : List Call → List Call → ℕ → Type 0
SameCalls calls calls' d = (k : ℕ) → k < d → call_at calls' k ≡ call_at calls k

pub below_same : (words : List ℕ) (calls calls' : List Call) (d e : ℕ) → SameCalls calls calls' d → below_of words calls' d e ≡ below_of words calls d e
below_same words calls calls' zero e s = refl
below_same words calls calls' (suc d) e s =
    ap (λ (c : Call). frame_of words c e ∷ below_of words calls' d c.arguments) (s d (omega arith))
    ∙ ap (λ (l : List Frame). frame_of words (call_at calls d) e ∷ l) (below_same words calls calls' d (call_at calls d).arguments (λ k h. s k (omega (arith, h))))

pub laid_same : (calls calls' : List Call) (d : ℕ) (c : Call) → SameCalls calls calls' d → AreLaid calls d c → AreLaid calls' d c
laid_same calls calls' zero c s h = h
laid_same calls calls' (suc d) c s h =
    let e = sym (s d (omega arith)) in
    (h.0, subst (λ x. IsLaid x c.arguments) e h.1, subst (λ x. AreLaid calls' d x) e (laid_same calls calls' d (call_at calls d) (λ k m. s k (omega (arith, m))) h.2))

-- values that are dropped
pub drop_values : (words : List ℕ) (a m n : ℕ) → drop n (values_from words a (m + n)) ≡ values_from words a m
drop_values words a m zero = let e : m + 0 ≡ m = omega arith in ap (values_from words a) e
drop_values words a m (suc n) = let e : m + suc n ≡ suc (m + n) = omega arith in ap (λ k. drop (suc n) (values_from words a k)) e ∙ drop_values words a m n

values_set : (words : List ℕ) (a m w : ℕ) → a + m < length words → values_from (slice_set words (a + m) w) a (suc m) ≡ w ∷ values_from words a m
values_set words a m w h = λ i. get_or-set_same words (a + m) w 0 h i
    ∷ values_kept words (slice_set words (a + m) w) a m 0 (a + m) (set_after words (a + m) w 0 (a + m) (omega arith)) (omega arith) (omega arith) i

replace_values : (words : List ℕ) (a end n m w : ℕ) → end ≡ a + m + n → a + m < length words
    → values_from (slice_set words (end - n) w) a (end - n + 1 - a) ≡ w ∷ drop n (values_from words a (end - a))
replace_values words a end n m w e h =
    let many : end - n + 1 - a ≡ suc m = omega arith in
    let here : end - n ≡ a + m = omega arith in
    let all : end - a ≡ m + n = omega arith in
    ap (λ k. values_from (slice_set words (end - n) w) a k) many
    ∙ ap (λ k. values_from (slice_set words k w) a (suc m)) here
    ∙ values_set words a m w h
    ∙ ap (λ (l : List ℕ). w ∷ l) (sym (ap (λ k. drop n (values_from words a k)) all ∙ drop_values words a m n))

-- in place of the n topmost values stands another
pub replaced : (words : List ℕ) (c : Call) (end n w place : ℕ) → IsLaid c end → n ≤ end - c.values → end - n < length words
    → frame_of (slice_set words (end - n) w) (record c { place = place }) (end - n + 1) ≡ record (frame_of words c end) { place = place; values = w ∷ drop n (values_from words c.values (end - c.values)) }
replaced words c end n w place l few room = λ i. record {
  function = c.function;
  place = place;
  arguments = range_kept words (slice_set words (end - n) w) c.arguments (c.locals - 5 - c.arguments) 0 (end - n) (set_after words (end - n) w 0 (end - n) (omega arith)) (omega arith) (omega (arith, l.arguments, l.locals, l.values, few)) i;
  locals = range_kept words (slice_set words (end - n) w) c.locals (c.values - c.locals) 0 (end - n) (set_after words (end - n) w 0 (end - n) (omega arith)) (omega arith) (omega (arith, l.arguments, l.locals, l.values, few)) i;
  values = replace_values words c.values end n (end - n - c.values) w (omega (arith, l.values, few)) (omega (arith, l.values, few, room)) i;
  this = c.this;
  that = c.that;
}

-- the topmost value is taken away
pub discarded : (words : List ℕ) (c : Call) (end place : ℕ) → 1 ≤ length (values_from words c.values (end - c.values))
    → frame_of words (record c { place = place }) (end - 1) ≡ record (frame_of words c end) { place = place; values = drop 1 (values_from words c.values (end - c.values)) }
discarded words c end place h =
    let many = rw (length_values words c.values (end - c.values)) at h in
    let m : end - c.values ≡ (end - 1 - c.values) + 1 = omega (arith, many) in
    let e = sym (ap (λ k. drop 1 (values_from words c.values k)) m ∙ drop_values words c.values (end - 1 - c.values) 1) in
    λ i. record {
      function = c.function;
      place = place;
      arguments = range words c.arguments (c.locals - 5 - c.arguments);
      locals = range words c.locals (c.values - c.locals);
      values = e i;
      this = c.this;
      that = c.that;
    }

set_range : (words : List ℕ) (a n i w : ℕ) → i < n → a + i < length words → range (slice_set words (a + i) w) a n ≡ slice_set (range words a n) i w
set_range words a zero i w h room = absurd (omega (arith, h))
set_range words a (suc n) zero w h room =
    let e : a ≡ a + 0 = omega arith in
    subst (λ k. range (slice_set words k w) a (suc n) ≡ w ∷ range words (suc a) n) e
    (λ j. get_or-set_same words a w 0 (omega (arith, room)) j ∷ range_kept words (slice_set words a w) (suc a) n (suc a) (suc a + n) (set_before words a w (suc a) (suc a + n) (omega arith)) (omega arith) (omega arith) j)
set_range words a (suc n) (suc i) w h room =
    let e : suc a + i ≡ a + suc i = omega arith in
    subst (λ k. range (slice_set words k w) a (suc n) ≡ slice_index words a ∷ slice_set (range words (suc a) n) i w) e
    (λ j. set_after words (suc a + i) w 0 (suc a + i) (omega arith) a (omega arith) (omega arith) j ∷ set_range words (suc a) n i w (omega (arith, h)) (omega (arith, room)) j)

range_last : (words : List ℕ) (a n : ℕ) → range words a (suc n) ≡ range words a n ++ slice_index words (a + n) ∷ []
range_last words a zero = let e : a ≡ a + 0 = omega arith in ap (λ k. slice_index words k ∷ []) e
range_last words a (suc n) = let e : suc a + n ≡ a + suc n = omega arith in ap (λ (l : List ℕ). slice_index words a ∷ l) (range_last words (suc a) n ∙ ap (λ k. range words (suc a) n ++ slice_index words k ∷ []) e)

taken : (words : List ℕ) (a m n : ℕ) → reverse (take n (values_from words a (m + n))) ≡ range words (a + m) n
taken words a m zero = refl
taken words a m (suc n) =
    let e : m + suc n ≡ suc (m + n) = omega arith in
    let f : a + (m + n) ≡ a + m + n = omega arith in
    ap (λ k. reverse (take (suc n) (values_from words a k))) e
    ∙ reverse_onto (take n (values_from words a (m + n))) (slice_index words (a + (m + n))) []
    ∙ ap (λ (l : List ℕ). l ++ slice_index words (a + (m + n)) ∷ []) (taken words a m n)
    ∙ ap (λ k. range words (a + m) n ++ slice_index words k ∷ []) f
    ∙ sym (range_last words (a + m) n)

-- a word that is an argument or a local is replaced
pub argument_set : (words : List ℕ) (c : Call) (end i w : ℕ) → IsLaid c end → c.arguments + i + 5 < c.locals → c.arguments + i < length words
    → frame_of (slice_set words (c.arguments + i) w) c end ≡ record (frame_of words c end) { arguments = slice_set (range words c.arguments (c.locals - 5 - c.arguments)) i w }
argument_set words c end i w l h room = λ j. record {
  function = c.function;
  place = c.place;
  arguments = set_range words c.arguments (c.locals - 5 - c.arguments) i w (omega (arith, h)) room j;
  locals = range_kept words (slice_set words (c.arguments + i) w) c.locals (c.values - c.locals) c.locals (c.locals + (c.values - c.locals)) (set_before words (c.arguments + i) w c.locals (c.locals + (c.values - c.locals)) (omega (arith, h))) (omega arith) (omega arith) j;
  values = values_kept words (slice_set words (c.arguments + i) w) c.values (end - c.values) c.values (c.values + (end - c.values)) (set_before words (c.arguments + i) w c.values (c.values + (end - c.values)) (omega (arith, h, l.locals))) (omega arith) (omega arith) j;
  this = c.this;
  that = c.that;
}

pub local_set : (words : List ℕ) (c : Call) (end i w : ℕ) → IsLaid c end → c.locals + i < c.values → c.locals + i < length words
    → frame_of (slice_set words (c.locals + i) w) c end ≡ record (frame_of words c end) { locals = slice_set (range words c.locals (c.values - c.locals)) i w }
local_set words c end i w l h room = λ j. record {
  function = c.function;
  place = c.place;
  arguments = range_kept words (slice_set words (c.locals + i) w) c.arguments (c.locals - 5 - c.arguments) 0 c.locals (set_after words (c.locals + i) w 0 c.locals (omega arith)) (omega arith) (omega (arith, l.arguments)) j;
  locals = set_range words c.locals (c.values - c.locals) i w (omega (arith, h)) room j;
  values = values_kept words (slice_set words (c.locals + i) w) c.values (end - c.values) c.values (c.values + (end - c.values)) (set_before words (c.locals + i) w c.values (c.values + (end - c.values)) h) (omega arith) (omega arith) j;
  this = c.this;
  that = c.that;
}

-- an index among the arguments, or the locals
pub argument_test : (a i n m : ℕ) → m ≡ n - 5 - a → nat_lt (a + i + 5) n ≡ nat_lt i m
argument_test a i n m e = grind (arith, nat_tests)

pub local_test : (a i n m : ℕ) → m ≡ n - a → nat_lt (a + i) n ≡ nat_lt i m
local_test a i n m e = grind (arith, nat_tests)

pub in_arguments : (words : List ℕ) (calls : List Call) (d : ℕ) (c : Call) (end : ℕ) (now : Calls) → calls_of words calls d c end ≡ now → length now.top.arguments ≡ c.locals - 5 - c.arguments
in_arguments words calls d c end now e = ap (λ (z : Calls). length z.top.arguments) (sym e) ∙ length_range words c.arguments (c.locals - 5 - c.arguments)

pub in_locals : (words : List ℕ) (calls : List Call) (d : ℕ) (c : Call) (end : ℕ) (now : Calls) → calls_of words calls d c end ≡ now → length now.top.locals ≡ c.values - c.locals
in_locals words calls d c end now e = ap (λ (z : Calls). length z.top.locals) (sym e) ∙ length_range words c.locals (c.values - c.locals)

-- a word past the end is not set
pub set_past : (xs : List ℕ) (i w : ℕ) → length xs ≤ i → slice_set xs i w ≡ xs
set_past [] i w h = refl
set_past (x ∷ xs) zero w h = absurd (omega (arith, h))
set_past (x ∷ xs) (suc i) w h = ap (λ (l : List ℕ). x ∷ l) (set_past xs i w (omega (arith, h)))

pub same_arguments : (f : Frame) (i w : ℕ) → length f.arguments ≤ i → f ≡ record f { arguments = slice_set f.arguments i w }
same_arguments f i w h = ap (λ (l : List ℕ). record f { arguments = l }) (sym (set_past f.arguments i w h))

pub same_locals : (f : Frame) (i w : ℕ) → length f.locals ≤ i → f ≡ record f { locals = slice_set f.locals i w }
same_locals f i w h = ap (λ (l : List ℕ). record f { locals = l }) (sym (set_past f.locals i w h))

-- the caller of a new call, and the calls below it
pub same_before : (calls : List Call) (d : ℕ) (c : Call) → SameCalls calls (slice_set calls d c) d
same_before calls d c k h = get_or-set_other calls d k c no_call (λ e. omega (arith, e, h))

pub last_call : (calls : List Call) (d : ℕ) (c : Call) → d < length calls → call_at (slice_set calls d c) d ≡ c
last_call calls d c h = get_or-set_same calls d c no_call h

-- what a call makes of the frames: `c` waits, where it goes on at its place
pub waiting : (words : List ℕ) (calls : List Call) (d : ℕ) (c : Call) (end n place : ℕ) → d < length calls → n ≤ end - c.values → c.values ≤ end
    → below_of words (slice_set calls d (record c { place = place })) (suc d) (end - n)
    ≡ record (frame_of words c end) { place = place; values = drop n (values_from words c.values (end - c.values)) } ∷ below_of words calls d c.arguments
waiting words calls d c end n place h few le =
    let w : Call = record c { place = place } in
    let e : end - c.values ≡ (end - n - c.values) + n = omega (arith, few, le) in
    ap (λ (x : Call). frame_of words x (end - n) ∷ below_of words (slice_set calls d w) d x.arguments) (last_call calls d w h)
    ∙ ap (λ (l : List Frame). frame_of words w (end - n) ∷ l) (below_same words calls (slice_set calls d w) d c.arguments (same_before calls d w))
    ∙ ap (λ (l : List ℕ). record (frame_of words c end) { place = place; values = l } ∷ below_of words calls d c.arguments)
    (sym (ap (λ k. drop n (values_from words c.values k)) e ∙ drop_values words c.values (end - n - c.values) n))

pub entered : (words : List ℕ) (g n end v : ℕ) (this that : ℕ) → n ≤ end - v → v ≤ end → range words (end - n) (end + 5 - 5 - (end - n)) ≡ reverse (take n (values_from words v (end - v)))
entered words g n end v this that few le =
    let many : end + 5 - 5 - (end - n) ≡ n = omega (arith, few, le) in
    let here : end - n ≡ v + (end - n - v) = omega (arith, few, le) in
    let all : (end - n - v) + n ≡ end - v = omega (arith, few, le) in
    ap (λ k. range words (end - n) k) many ∙ ap (λ k. range words k n) here ∙ sym (taken words v (end - n - v) n) ∙ ap (λ k. reverse (take n (values_from words v k))) all

pub call_frame : (words : List ℕ) (c : Call) (end g n : ℕ) → n ≤ end - c.values → c.values ≤ end
    → frame_of words (record { function = Some g; place = 0; arguments = end - n; locals = end + 5; values = end + 5; this = c.this; that = c.that }) (end + 5) ≡ called_frame g n (frame_of words c end)
call_frame words c end g n few le =
    let none_of : (k : ℕ) → range words k (end + 5 - (end + 5)) ≡ [] = λ k. (let e : end + 5 - (end + 5) ≡ 0 = omega arith in ap (λ m. range words k m) e) in
    let no_values : values_from words (end + 5) (end + 5 - (end + 5)) ≡ [] = (let e : end + 5 - (end + 5) ≡ 0 = omega arith in ap (λ m. values_from words (end + 5) m) e) in
    λ i. record { function = Some g; place = 0; arguments = entered words g n end c.values c.this c.that few le i; locals = none_of (end + 5) i; values = no_values i; this = c.this; that = c.that }

pub call_stack : (words : List ℕ) (calls : List Call) (d : ℕ) (c : Call) (end g n place : ℕ) → IsStack words calls d c end → n ≤ end - c.values → end + 5 ≤ 1792
    → IsStack words (slice_set calls d (record c { place = place })) (d + 1) (record { function = Some g; place = 0; arguments = end - n; locals = end + 5; values = end + 5; this = c.this; that = c.that }) (end + 5)
call_stack words calls d c end g n place s few room =
    let l = s.top_laid in
    let depth = deep calls d c s.laid in
    let w : Call = record c { place = place } in
    let t : Call = record { function = Some g; place = 0; arguments = end - n; locals = end + 5; values = end + 5; this = c.this; that = c.that } in
    let last = sym (last_call calls d w (omega (arith, depth, l.locals, l.values, room, s.call_room))) in
    let laid : AreLaid (slice_set calls d w) (suc d) t = (
      omega arith,
      subst (λ x. IsLaid x (end - n)) last (record { arguments = l.arguments; locals = l.locals; values = omega (arith, few, l.values) }),
      subst (λ x. AreLaid (slice_set calls d w) d x) last (laid_same calls (slice_set calls d w) d w (same_before calls d w) (laid_place calls d c place s.laid)),
    ) in
    record {
      room = s.room;
      call_room = length-set calls d w ∙ s.call_room;
      within = room;
      deep = omega (arith, depth, l.locals, l.values, room);
      top_laid = record { arguments = omega arith; locals = omega arith; values = omega arith };
      laid = subst (λ k. AreLaid (slice_set calls d w) k t) (sym (add-one d)) laid;
    }

pub zeros : (words : List ℕ) (a n : ℕ) → ((k : ℕ) → k < n → slice_index words (a + k) ≡ 0) → range words a n ≡ replicate n 0
zeros words a zero h = refl
zeros words a (suc n) h =
    let e : a + 0 ≡ a = omega arith in
    let first : slice_index words a ≡ 0 = subst (λ k. slice_index words k ≡ 0) e (h 0 (omega arith)) in
    let rest = zeros words (suc a) n (λ k m. (let f : a + suc k ≡ suc a + k = omega arith in subst (λ j. slice_index words j ≡ 0) f (h (suc k) (omega (arith, m))))) in
    λ i. first i ∷ rest i

-- the locals of a new call
pub begun : (words words' : List ℕ) (c : Call) (end n place : ℕ) → IsLaid c end → length (range words c.locals (c.values - c.locals)) ≡ 0 → length (values_from words c.values (end - c.values)) ≡ 0
    → Same words words' 0 end → ((k : ℕ) → k < n → slice_index words' (end + k) ≡ 0)
    → frame_of words' (record c { place = place; values = end + n }) (end + n) ≡ record (frame_of words c end) { place = place; locals = replicate n 0 }
begun words words' c end n place l few none same zero_words =
    let f = sym (length_range words c.locals (c.values - c.locals)) ∙ few in
    let g = sym (length_values words c.values (end - c.values)) ∙ none in
    let start : c.locals ≡ end = omega (arith, f, g, l.locals, l.values) in
    let many : end + n - c.locals ≡ n = omega (arith, start) in
    let no_values : end + n - (end + n) ≡ 0 = omega arith in
    let old_values : end - c.values ≡ 0 = g in
    let locals : range words' c.locals (end + n - c.locals) ≡ replicate n 0 = ap (λ k. range words' c.locals k) many ∙ ap (λ k. range words' k n) start ∙ zeros words' end n zero_words in
    let values : values_from words' (end + n) (end + n - (end + n)) ≡ values_from words c.values (end - c.values) =
    ap (λ k. values_from words' (end + n) k) no_values ∙ sym (ap (λ k. values_from words c.values k) old_values) in
    λ i. record {
      function = c.function;
      place = place;
      arguments = range_kept words words' c.arguments (c.locals - 5 - c.arguments) 0 end same (omega arith) (omega (arith, l.arguments, l.locals, l.values)) i;
      locals = locals i;
      values = values i;
      this = c.this;
      that = c.that;
    }

pub laid_begun : (calls : List Call) (d : ℕ) (c : Call) (place values : ℕ) → 1 ≤ d → AreLaid calls d c → AreLaid calls d (record c { place = place; values = values })
laid_begun calls zero c place values h l = absurd (omega (arith, h))
laid_begun calls (suc d) c place values h l = l

pub length_below : (words : List ℕ) (calls : List Call) (d e : ℕ) → length (below_of words calls d e) ≡ d
length_below words calls zero e = refl
length_below words calls (suc d) e = omega (arith, length_below words calls d (call_at calls d).arguments)

-- the number of calls below
pub in_below : (words : List ℕ) (calls : List Call) (d : ℕ) (c : Call) (end : ℕ) (now : Calls) → calls_of words calls d c end ≡ now → length now.below ≡ d
in_below words calls d c end now e = ap (λ (z : Calls). length z.below) (sym e) ∙ length_below words calls d c.arguments

-- a call that returns has room for its value
pub returns_within : (words : List ℕ) (calls : List Call) (d : ℕ) (c : Call) (end : ℕ) → IsStack words calls d c end → 1 ≤ d → c.arguments + 5 ≤ end
returns_within words calls zero c end s h = absurd (omega (arith, h))
returns_within words calls (suc d) c end s h = omega (arith, s.laid.0, s.top_laid.locals, s.top_laid.values)

-- the caller goes on
pub record Left (words : List ℕ) (calls : List Call) (d : ℕ) (c x : Call) (w : ℕ) : Type 0 where
  pub stack : IsStack (slice_set words c.arguments w) calls (d - 1) x (c.arguments + 1)
  pub top : (f : Frame) (rest : List Frame) → below_of words calls d c.arguments ≡ f ∷ rest → frame_of (slice_set words c.arguments w) x (c.arguments + 1) ≡ record f { values = w ∷ f.values }
  pub below : (f : Frame) (rest : List Frame) → below_of words calls d c.arguments ≡ f ∷ rest → below_of (slice_set words c.arguments w) calls (d - 1) x.arguments ≡ rest

left_by : (words : List ℕ) (calls : List Call) (d : ℕ) (c : Call) (end w : ℕ) → IsStack words calls (suc d) c end → Left words calls (suc d) c (call_at calls d) w
left_by words calls d c end w s =
    let l = s.top_laid in
    let x = call_at calls d in
    let within : c.arguments < length words = omega (arith, s.room, s.within, l.arguments, l.locals, l.values, s.laid.0) in
    let e : suc d - 1 ≡ d = omega arith in
    let same = set_after words c.arguments w 0 c.arguments (omega arith) in
    let shown : frame_of (slice_set words c.arguments w) x (c.arguments + 1) ≡ record (frame_of words x c.arguments) { values = w ∷ values_from words x.values (c.arguments - x.values) } =
    (let none : c.arguments - 0 ≡ c.arguments = omega arith in
    subst (λ k. frame_of (slice_set words k w) x (k + 1) ≡ record (frame_of words x c.arguments) { values = w ∷ values_from words x.values (c.arguments - x.values) }) none
    (replaced words x c.arguments 0 w x.place s.laid.1 (omega arith) (omega (arith, within)))) in
    let kept : below_of (slice_set words c.arguments w) calls d x.arguments ≡ below_of words calls d x.arguments =
    below_kept words (slice_set words c.arguments w) calls d x c.arguments same s.laid.2 (omega (arith, s.laid.1.arguments, s.laid.1.locals, s.laid.1.values)) in
    record {
      stack = subst (λ k. IsStack (slice_set words c.arguments w) calls k x (c.arguments + 1)) (sym e) (record {
        room = length-set words c.arguments w ∙ s.room;
        call_room = s.call_room;
        within = omega (arith, s.within, l.arguments, l.locals, l.values, s.laid.0);
        deep = omega (arith, s.deep);
        top_laid = record { arguments = s.laid.1.arguments; locals = s.laid.1.locals; values = omega (arith, s.laid.1.values) };
        laid = s.laid.2;
      });
      top = λ f rest h. shown ∙ ap (λ (g : Frame). record g { values = w ∷ g.values }) (cc h);
      below = λ f rest h. ap (λ k. below_of (slice_set words c.arguments w) calls k x.arguments) e ∙ kept ∙ cc h;
    }

pub left : (words : List ℕ) (calls : List Call) (d : ℕ) (c x : Call) (end w : ℕ) → IsStack words calls d c end → 1 ≤ d → x ≡ call_at calls (d - 1) → Left words calls d c x w
left words calls zero c x end w s h e = absurd (omega (arith, h))
left words calls (suc d) c x end w s h e =
    let f : suc d - 1 ≡ d = omega arith in
    subst (λ y. Left words calls (suc d) c y w) (sym (e ∙ ap (call_at calls) f)) (left_by words calls d c end w s)

pub reads_call : (calls : List Call) (i : ℕ) (x : Call) → x ≡ get_or calls i x → i < length calls → x ≡ call_at calls i
reads_call calls i x e h = get_or_read_under calls i (length calls) x no_call e h refl
