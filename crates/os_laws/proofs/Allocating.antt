-- A whole call of alloc.
use Rattle.std.proofs.Common.{◌≡◌, ◌≢◌, ◌⊎◌, inl, inr, ⊎_elim, ℕ, suc, ◌+◌, ◌-◌, ◌*◌, ◌<◌, ◌≤◌, Bool, true, false, nat_lt, List, [], ◌∷◌, ◌++◌, map, length, Option, Some, None, option_map, refl, sym, ap, ◌∙◌, subst, arith, length-set, append_assoc}
use Rattle.std.specs.Prelude.{slice_index, slice_set, if◌then◌else◌}
use Rattle.std.specs.List.{AllByRecursion}
use Rattle.std.proofs.lemmas.Bool.{cases_lt}
use Rattle.std.proofs.lemmas.Bool.Decides.{nat_tests}
use Rattle.std.proofs.lemmas.List.{get_or-set_same, get_or-set_other}
use Rattle.word16.specs.Words.{word_add, word_sub, word_lt}
use Rattle.jack_meaning.specs.Text.{Value, Return, Text, End, Next, Subroutine}
use Rattle.jack_meaning.specs.Meaning.{Frame, State, subroutine_at, new_frame}
use Rattle.os_laws.specs.Calls.{NextCall, ComesBack, given_back}
use Rattle.os_laws.specs.Kernel.{alloc_body, alloc_meaning}
use Rattle.os_laws.specs.Heap.{word_at, Block, part_at, IsInHeap, IsBlock, HeapOf, passed_block, InBlocks, IsKept}
use Rattle.os_laws.specs.HeapCalls.{Allocated}
use Rattle.os_laws.specs.Laws.{AllocLaw}
use Rattle.os_laws.proofs.Basics.{none-some, enters}
use Rattle.os_laws.proofs.Runs.{Call, run, run_then}
use Rattle.os_laws.proofs.Returns.{comes_back}
use Rattle.os_laws.proofs.Comparing.{less, not_less}
use Rattle.os_laws.proofs.Parts.{all_split, all_of_map, all_both}
use Rattle.os_laws.proofs.Storing.{other_word}
use Rattle.os_laws.proofs.Middle as middle
use Rattle.os_laws.proofs.Middle.{Known}
use Rattle.os_laws.proofs.Taking.{split, first_whole, later_whole}
use Rattle.os_laws.proofs.Searching.{Reaches, at_text, at_loop, begins, behind, behind_whole, takes_end, takes_first, takes_later, given}
use Rattle.os_laws.proofs.Walking.{reaches, here, some, last_of, IsShort, walks}

-- ---- the first part that is long enough

pub record FirstFit (ws : List ℕ) (n k : ℕ) (parts : List ℕ) : Type 0 where
  pub before : List ℕ
  pub c : ℕ
  pub after : List ℕ
  pub shape : parts ≡ before ++ c ∷ after
  pub count : length before ≡ k
  pub short : AllByRecursion (λ q. word_at ws q < n) before
  pub fits : n ≤ word_at ws c

mapped : (o : Option ℕ) (k : ℕ) → option_map (λ j. suc j) o ≡ Some k → (j : ℕ) × (o ≡ Some j) × (suc j ≡ k)
mapped None k e = absurd (none-some k e)
mapped (Some j) k e = (j, refl, (let f : Some (suc j) ≡ Some k = e in cc f))

pub is_below : (a b : ℕ) → nat_lt a b ≡ true → a < b
is_below a b h = grind (arith, nat_tests)

is_above : (a b : ℕ) → nat_lt a b ≡ false → b ≤ a
is_above a b h = grind (arith, nat_tests)

fit_with : (ws : List ℕ) (n k c : ℕ) (cs : List ℕ) → ((j : ℕ) → passed_block ws n cs ≡ Some j → FirstFit ws n j cs) → (b : Bool) → nat_lt (word_at ws c) n ≡ b
    → (if b then option_map (λ j. suc j) (passed_block ws n cs) else Some 0) ≡ Some k → FirstFit ws n k (c ∷ cs)
fit_with ws n k c cs more true t e =
    let m = mapped (passed_block ws n cs) k e in
    let f = more m.0 m.1 in
    record { before = c ∷ f.before; c = f.c; after = f.after; shape = ap (λ l. c ∷ l) f.shape; count = omega (arith, f.count, m.2); short = (is_below _ _ t, f.short); fits = f.fits }
fit_with ws n k c cs more false t e = record { before = []; c = c; after = cs; shape = refl; count = (let f : Some 0 ≡ Some k = e in cc f); short = tt; fits = is_above _ _ t }

pub first_fit : (ws : List ℕ) (n k : ℕ) (parts : List ℕ) → passed_block ws n parts ≡ Some k → FirstFit ws n k parts
first_fit ws n k [] e = absurd (none-some k e)
first_fit ws n k (c ∷ cs) e = fit_with ws n k c cs (λ j. first_fit ws n j cs) (nat_lt (word_at ws c) n) refl e

-- ---- words that are kept

-- an address of a free part is no word of a live block
not_in_blocks : (ws : List ℕ) (c a : ℕ) (live : List Block) → AllByRecursion (IsBlock ws) live → AllByRecursion (λ (b : Block). Known ws c (b.place - 1)) live → c ≤ a → a < c + word_at ws c → InBlocks live a → ⊥
not_in_blocks ws c a [] h k low high i = i
not_in_blocks ws c a (b ∷ bs) h k low high i =
    let block = h.0 in
    ⊎_elim
    (λ inside. ⊎_elim (λ l. omega (arith, l, inside, block, low, high)) (λ r. omega (arith, r, inside, block, low, high)) k.0.1)
    (λ later. not_in_blocks ws c a bs h.1 k.1 low high later) i

-- nor of the screen
not_kept : (ws : List ℕ) (c a : ℕ) (live : List Block) → AllByRecursion (IsBlock ws) live → AllByRecursion (λ (b : Block). Known ws c (b.place - 1)) live → IsInHeap (part_at ws c) → c ≤ a → a < c + word_at ws c → IsKept live a → ⊥
not_kept ws c a live h k inside low high i = ⊎_elim (not_in_blocks ws c a live h k low high) (λ s. omega (arith, s, inside, high)) i

-- they lie in the heap or above it
in_blocks_low : (ws : List ℕ) (c a : ℕ) (live : List Block) → AllByRecursion (λ (b : Block). Known ws c (b.place - 1)) live → InBlocks live a → 2048 ≤ a
in_blocks_low ws c a [] k i = absurd i
in_blocks_low ws c a (b ∷ bs) k i = let part = k.0.2 in ⊎_elim (λ inside. omega (arith, inside, part)) (λ later. in_blocks_low ws c a bs k.1 later) i

kept_low : (ws : List ℕ) (c a : ℕ) (live : List Block) → AllByRecursion (λ (b : Block). Known ws c (b.place - 1)) live → IsKept live a → 2048 ≤ a
kept_low ws c a live k i = ⊎_elim (in_blocks_low ws c a live k) (λ s. omega (arith, s)) i

-- a store into a free part changes no kept word
pub keeps_word : (ws ws0 : List ℕ) (c a b w : ℕ) (live : List Block) → AllByRecursion (IsBlock ws) live → AllByRecursion (λ (q : Block). Known ws c (q.place - 1)) live → IsInHeap (part_at ws c) → c ≤ b → b < c + word_at ws c → IsKept live a
    → word_at (slice_set ws0 (b - 2048) w) a ≡ word_at ws0 a
keeps_word ws ws0 c a b w live h k inside low high i =
    other_word ws0 b a w (omega (arith, inside, low)) (kept_low ws c a live k i) (λ e. not_kept ws c a live h k inside (omega (arith, e, low)) (omega (arith, e, high)) i)

-- ---- the last of the parts that are passed over

snoc : (xs : List ℕ) (p0 : ℕ) → (xs ≡ []) ⊎ ((bs : List ℕ) × (p : ℕ) × (xs ≡ bs ++ p ∷ []) × (last_of p0 xs ≡ p))
snoc [] p0 = inl refl
snoc (x ∷ xs) p0 = elim (snoc xs x) [ inl e ↦ inr ([], x, ap (λ l. x ∷ l) e, ap (last_of x) e) | inr r ↦ inr (x ∷ r.0, r.1, ap (λ l. x ∷ l) r.2, r.3) ]

-- ---- the whole call

-- what alloc makes of statics and words
record Gives (free size : ℕ) (live : List Block) (s : State) (place : ℕ) (statics words : List ℕ) : Type 0 where
  low : 2049 ≤ place
  high : place + size ≤ 16384
  parts : List ℕ
  heap : HeapOf words (slice_index statics free) parts (record { place = place; words = size } ∷ live)
  others : (k : ℕ) → k ≢ free → slice_index statics k ≡ slice_index s.statics k
  as_many : length statics ≡ length s.statics
  as_long : length words ≡ length s.words
  kept : (a : ℕ) → IsKept live a → word_at words a ≡ word_at s.words a

module _ (subs : List Subroutine) (s : State) (g size class error free : ℕ) (live : List Block) (low : 1 ≤ size) (high : size ≤ 14335) (kernel : subroutine_at subs g ≡ alloc_meaning class error free)
    (there : free < length s.statics) (words : length s.words ≡ 22528) (call : NextCall subs s g (size ∷ [])) (before : List ℕ) (c : ℕ) (after : List ℕ) (heap : HeapOf s.words (slice_index s.statics free) (before ++ c ∷ after) live)
    (short : AllByRecursion (λ q. word_at s.words q < size + 1) before) (fits : size + 1 ≤ word_at s.words c) where
  abbrev n : ℕ
  n = size + 1

  abbrev Goal : Type 0
  Goal = (m : ℕ) × (m ≤ 60 + 18 * length before) × (s' : State) × ComesBack subs s m s' × Allocated call free size live s'

  abbrev first : ℕ
  first = slice_index s.statics free

  abbrev start : Call
  start = at_text subs g error free s.statics s.words (alloc_body error free) s.statics s.words size 0 0 0

  entered : new_frame subs g (size ∷ []) ≡ start.frame
  entered = enters subs g (alloc_meaning class error free) (size ∷ []) kernel

  own : IsInHeap (part_at s.words c)
  own = (middle.inside s.words first before after live c heap).0

  long : 2 ≤ word_at s.words c
  long = (middle.long s.words first before after live c heap).0

  at_c : Reaches c 0 c
  at_c = here c own.0 (omega (arith, own, long))

  is_short : AllByRecursion (IsShort s.words n) before
  is_short =
      let sized = (all_split (λ q. 2 ≤ word_at s.words q) before (c ∷ after) heap.long).0 in
      let lies = all_of_map IsInHeap (part_at s.words) before (all_split IsInHeap (map (part_at s.words) before) _ (subst (AllByRecursion IsInHeap) (middle.shown s.words first before after live c heap) heap.inside)).0 in
      all_both (λ q. (2 ≤ word_at s.words q) × IsInHeap (part_at s.words q)) (λ q. word_at s.words q < n) (IsShort s.words n) before (λ q a b. (a.0, a.1.0, a.1.1, b))
      (all_both (λ q. 2 ≤ word_at s.words q) (λ q. IsInHeap (part_at s.words q)) (λ q. (2 ≤ word_at s.words q) × IsInHeap (part_at s.words q)) before (λ q a b. (a, b)) sized lies) short

  -- up to the part that is taken
  searched : run subs (14 + 18 * length before) start ≡ Some (at_loop subs g error free s.statics s.words size c (last_of 0 before) n)
  searched =
      let sum : word_add size 1 ≡ n = omega (arith, high) in
      run_then subs 14 (18 * length before) start (at_loop subs g error free s.statics s.words size first 0 n) (at_loop subs g error free s.statics s.words size c (last_of 0 before) n)
      (begins subs g error free s.statics s.words size (not_less size 1 low (omega (arith, high))) (not_less 14335 size high (omega arith)) ∙ ap (λ z. Some (at_loop subs g error free s.statics s.words size first 0 z)) sum)
      (walks subs g error free s.statics s.words size n (omega (arith, high)) before first 0 c after heap.links is_short)

  -- from there to the return
  ended : (m : ℕ) (f : Frame) (ss ws : List ℕ) (k place : ℕ) (rest : Text) → m ≤ 43 → run subs m (at_loop subs g error free s.statics s.words size c (last_of 0 before) n) ≡ Some (record { frame = record f { text = Next (Return k (Value place)) rest }; statics = ss; words = ws })
      → Gives free size live s place ss ws → Goal
  ended m f ss ws k place rest few h gives =
      let last : Call = record { frame = record f { text = Next (Return k (Value place)) rest }; statics = ss; words = ws } in
      let ran = ap (λ (z : Frame). run subs (14 + 18 * length before + m) (record { frame = z; statics = s.statics; words = s.words })) entered
      ∙ run_then subs (14 + 18 * length before) m start (at_loop subs g error free s.statics s.words size c (last_of 0 before) n) last searched h in (
        suc (suc (14 + 18 * length before + m)),
        omega (arith, few),
        record (given_back s call.caller call.below place) { statics = ss; words = ws },
        comes_back subs s g (size ∷ []) call (14 + 18 * length before + m) f ss ws k place rest ran,
        record {
          place = place;
          frames = refl;
          low = gives.low;
          high = gives.high;
          heap = (gives.parts, record { room = record { static = omega (arith, gives.as_many, there); words = gives.as_long ∙ words }; heap = gives.heap });
          keeps = record { statics = gives.others; same_length = gives.as_many; words = gives.kept };
        },
      )

  is_long : word_lt (word_at s.words c) n ≡ 0
  is_long = not_less (word_at s.words c) n fits (omega (arith, own))

  -- the end of the part
  from_end : 2 ≤ word_at s.words c - n → Goal
  from_end more =
      let m = word_at s.words c - n in
      let d = c + m in
      let whole : word_at s.words c ≡ m + n = omega (arith, fits) in
      let difference : word_sub (word_at s.words c) n ≡ m = omega (arith, fits, own) in
      let same : word_at (slice_set s.words (c - 2048) m) c ≡ m = get_or-set_same s.words (c - 2048) m 0 (omega (arith, words, own, long)) in
      let to : word_add c m ≡ d = omega (arith, own, fits) in
      let at_d : Reaches d 0 d = here d (omega (arith, own)) (omega (arith, own, fits)) in
      let one : word_add d 1 ≡ d + 1 = omega (arith, own, fits) in
      let split_heap = split s.words first before after live c heap m n size whole more low refl words in
      let known = middle.known_live s.words first before after live c heap in
      ended 41 (at_text subs g error free s.statics s.words End s.statics s.words size d (last_of 0 before) n).frame s.statics (given subs g error free s.statics s.words c m d n) 17 (d + 1) (behind subs g error free s.statics s.words) (omega arith)
      (takes_end subs g error free s.statics s.words size c (last_of 0 before) n m d (d + 1) (some c own.0) at_c is_long difference (not_less m 2 more (omega (arith, own))) same to at_d one)
      (record {
        low = omega (arith, own);
        high = omega (arith, own, fits);
        parts = before ++ c ∷ after;
        heap = split_heap;
        others = λ k h. refl;
        as_many = refl;
        as_long = length-set (slice_set s.words (c - 2048) m) (d - 2048) n ∙ length-set s.words (c - 2048) m;
        kept = λ a i. keeps_word s.words (slice_set s.words (c - 2048) m) c a d n live heap.blocks known own (omega arith) (omega (arith, whole, low)) i ∙ keeps_word s.words s.words c a c m live heap.blocks known own (omega arith) (omega (arith, long)) i;
      })

  -- the whole part: the first one
  from_first : word_at s.words c - n < 2 → before ≡ [] → Goal
  from_first little none =
      let m = word_at s.words c - n in
      let difference : word_sub (word_at s.words c) n ≡ m = omega (arith, fits, own) in
      let link = word_at s.words (c + 1) in
      let alone = subst (λ l. HeapOf s.words first (l ++ c ∷ after) live) none heap in
      let known = middle.known_live s.words first before after live c heap in
      let stored : slice_index (slice_set s.statics free link) free ≡ link = get_or-set_same s.statics free link 0 there in
      ended 31 (at_text subs g error free s.statics s.words End s.statics s.words size c 0 n).frame (slice_set s.statics free link) s.words 13 (c + 1) (behind_whole subs g error free s.statics s.words) (omega arith)
      (ap (λ z. run subs 31 (at_loop subs g error free s.statics s.words size c (last_of 0 z) n)) none
      ∙ takes_first subs g error free s.statics s.words size c n m (c + 1) (some c own.0) at_c (reaches c 1 own.0 (omega (arith, own, long))) is_long difference (less m 2 little (omega arith)))
      (record {
        low = omega (arith, own);
        high = omega (arith, own, fits);
        parts = after;
        heap = subst (λ v. HeapOf s.words v after (record { place = c + 1; words = size } ∷ live)) (sym stored) (first_whole s.words first after live c size alone low fits);
        others = λ k h. get_or-set_other s.statics free k link 0 h;
        as_many = length-set s.statics free link;
        as_long = refl;
        kept = λ a i. refl;
      })

  -- or one after another
  from_later : word_at s.words c - n < 2 → (bs : List ℕ) (p : ℕ) → before ≡ bs ++ p ∷ [] → last_of 0 before ≡ p → Goal
  from_later little bs p shape last =
      let m = word_at s.words c - n in
      let difference : word_sub (word_at s.words c) n ≡ m = omega (arith, fits, own) in
      let link = word_at s.words (c + 1) in
      let behind_p = subst (λ l. HeapOf s.words first l live) (append_assoc bs (p ∷ []) (c ∷ after)) (subst (λ l. HeapOf s.words first (l ++ c ∷ after) live) shape heap) in
      let known = middle.known_live s.words first bs (c ∷ after) live p behind_p in
      let p_part = (middle.inside s.words first bs (c ∷ after) live p behind_p).0 in
      let p_long = (middle.long s.words first bs (c ∷ after) live p behind_p).0 in
      ended 33 (at_text subs g error free s.statics s.words End s.statics s.words size c p n).frame s.statics (slice_set s.words (p + 1 - 2048) link) 13 (c + 1) (behind_whole subs g error free s.statics s.words) (omega arith)
      (ap (λ z. run subs 33 (at_loop subs g error free s.statics s.words size c z n)) last
      ∙ takes_later subs g error free s.statics s.words size c p n m (c + 1) (p + 1) (some c own.0) (some p p_part.0) at_c (reaches c 1 own.0 (omega (arith, own, long))) (reaches p 1 p_part.0 (omega (arith, p_part, p_long))) is_long difference (less m 2 little (omega arith)))
      (record {
        low = omega (arith, own);
        high = omega (arith, own, fits);
        parts = (bs ++ p ∷ []) ++ after;
        heap = later_whole s.words first bs after live p c size behind_p words low fits;
        others = λ k h. refl;
        as_many = refl;
        as_long = length-set s.words (p + 1 - 2048) link;
        kept = λ a i. keeps_word s.words s.words p a (p + 1) link live heap.blocks known p_part (omega arith) (omega (arith, p_long)) i;
      })

  whole_part : word_at s.words c - n < 2 → Goal
  whole_part little = ⊎_elim (λ e. from_first little e) (λ r. from_later little r.0 r.1 r.2 r.3) (snoc before 0)

pub law : AllocLaw
law subs s g class error free kernel c =
    let f = first_fit s.words (c.size + 1) c.k c.parts c.fit in
    let h = subst (λ l. HeapOf s.words (slice_index s.statics free) l c.live) f.shape c.heap.heap in
    subst (λ j. (n : ℕ) × (n ≤ 60 + 18 * j) × (s' : State) × ComesBack subs s n s' × Allocated c.call free c.size c.live s') f.count
    (⊎_elim
    (whole_part subs s g c.size class error free c.live c.low c.high kernel c.heap.room.static c.heap.room.words c.call f.before f.c f.after h f.short f.fits)
    (from_end subs s g c.size class error free c.live c.low c.high kernel c.heap.room.static c.heap.room.words c.call f.before f.c f.after h f.short f.fits)
    (cases_lt (word_at s.words f.c - (c.size + 1)) 2))
