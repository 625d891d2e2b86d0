-- A string made: calls of Memory.alloc and Array.new within a call.
use Rattle.std.proofs.Common.{◌≡◌, ◌⊎◌, inl, inr, ⊎_elim, ℕ, zero, suc, ◌+◌, ◌-◌, ◌*◌, ◌<◌, ◌≤◌, List, [], ◌∷◌, ◌++◌, length, Option, Some, None, codes, refl, sym, ap, ◌∙◌, subst, arith, length-append, length-set}
use Rattle.std.specs.Prelude.{slice_index}
use Rattle.std.proofs.lemmas.Bool.{cases_lt}
use Rattle.word16.specs.Words.{word_lt}
use Rattle.jack_core.specs.declared.program.Core.{Core}
use Rattle.jack_core.specs.Texts.{the_subroutines}
use Rattle.jack_meaning.specs.Text.{Expression, Value, Open, Text, End, Constructor, Subroutine}
use Rattle.jack_meaning.specs.Meaning.{Frame, State, subroutine_at, new_frame}
use Rattle.os_laws.specs.Calls.{NextCall, ComesBack, given_back}
use Rattle.os_laws.specs.Heap.{Block, word_at, passed_block}
use Rattle.os_laws.specs.HeapCalls.{Holds, IsFull, Allocated, KeepsOthers}
use Rattle.os_laws.specs.KernelCalls.{Allocating}
use Rattle.os_laws.specs.Names.{IsShipped}
use Rattle.os_laws.proofs.Allocating as allocating
use Rattle.os_laws.proofs.Basics.{enters}
use Rattle.os_laws.proofs.Comparing.{negative, not_negative}
use Rattle.os_laws.proofs.FewParts.{few_parts}
use Rattle.os_laws.proofs.Runs.{Call, over, run, run_then}
use Rattle.os_laws.proofs.Searching.{Reaches}
use Rattle.os_laws.proofs.Storing.{other_word}
use Rattle.os_laws.proofs.Walking.{here, reaches}
use Rattle.os_functions.specs.Calls.{routine_number, HasStatics, CallsNext, Returns}
use Rattle.os_functions.specs.StringLaws.{StringAt, with_heap_word}
use Rattle.os_functions.proofs.ArrayRuns.{with_frames, has_heap}
use Rattle.os_functions.proofs.Named.{leads, number_of, own_number}
use Rattle.os_functions.proofs.NewArray.{made_new}
use Rattle.os_functions.proofs.Pieces.{returns_value}
use Rattle.os_functions.proofs.StringFacts.{this_word}
use Rattle.os_functions.proofs.Texts.{routine}
use Rattle.os_functions.proofs.Ways.{Way, way_then, way_of_run, way_of_call, returns, opened, returns_by}
use Rattle.os_strings.specs.Errors.{ComesToError}
use Rattle.os_strings.specs.MakingLaws.{object_block, blocks_of, Making, IsMade, HasObject, NewLaw, NewEmptyLaw, NewErrorLaw, NewFullLaw}
use Rattle.os_strings.proofs.Allocations.{NoRoom, alloc_errs, array_errs, error_at, alloc_at, array_at, same_number, is_alloc_at}
use Rattle.os_strings.proofs.Blocks.{kept_apart, two_apart, stored_holds, stored_keeps, keeps_then}
use Rattle.os_strings.proofs.Failing.{fails_by_run, fails_called, fails_then, comes_to_error}
use Rattle.os_strings.proofs.MakingRuns.{asks_one, object_from, tests_length, sets_fields, after_fields, characters_from, new_body, at_new, with_fields, to_alloc, to_object, is_long, is_negative, sets, has_none, to_array, sets_characters}

module _ {core : Core} (p : IsShipped core) where
  abbrev pub new_at : ℕ
  new_at = routine_number p (codes "String") (codes "new")

  is_new : subroutine_at (the_subroutines core) new_at ≡ routine Constructor (own_number core p 6) 1 0 (new_body (alloc_at p) (error_at p) (array_at p))
  is_new =
      leads core p 6 0 (refl, refl)
      ∙ ap (λ (k : ℕ). routine Constructor (own_number core p 6) 1 0 (new_body k (number_of core p (codes "Sys") (codes "error")) (number_of core p (codes "Array") (codes "new")))) (same_number p (codes "Memory") (codes "alloc"))
      ∙ ap (λ (k : ℕ). routine Constructor (own_number core p 6) 1 0 (new_body (alloc_at p) k (number_of core p (codes "Array") (codes "new")))) (same_number p (codes "Sys") (codes "error"))
      ∙ ap (λ (k : ℕ). routine Constructor (own_number core p 6) 1 0 (new_body (alloc_at p) (error_at p) k)) (same_number p (codes "Array") (codes "new"))

-- the call of String.new up to its call of Memory.alloc
module _ {core : Core} (p : IsShipped core) (s : State) (max : ℕ) (c : CallsNext p (codes "String") (codes "new") s (max ∷ [])) where
  abbrev subs : List Subroutine
  subs = the_subroutines core

  abbrev below : List Frame
  below = c.caller ∷ c.below

  abbrev least : ℕ
  least = suc (length below)

  abbrev first : State
  first = opened subs s (new_at p) (max ∷ []) c

  -- the call, by its statics, its object, its words and what is left of its text
  abbrev at : List ℕ → ℕ → List ℕ → Text → Call
  at ss this ws t = at_new subs (new_at p) ss this ws t max

  abbrev object : Expression → Text
  object e = object_from e (error_at p) (array_at p)

  abbrev asking : State
  asking = over below (at s.statics 0 s.words (object (asks_one (alloc_at p) (Value 3))))

  begins : Way subs least 1 first asking
  begins =
      way_of_run subs below 1 (record { frame = new_frame subs (new_at p) (max ∷ []); statics = s.statics; words = s.words }) (at s.statics 0 s.words (object (asks_one (alloc_at p) (Value 3))))
      (ap (λ (z : Frame). run subs 1 (record { frame = z; statics = s.statics; words = s.words })) (enters subs (new_at p) _ (max ∷ []) (is_new p)) ∙ to_alloc subs (new_at p) s.statics (alloc_at p) (error_at p) (array_at p) max s.words)

  abbrev inner : NextCall subs asking (alloc_at p) (3 ∷ [])
  inner = record { top = (at s.statics 0 s.words (object (asks_one (alloc_at p) (Value 3)))).frame; caller = (at s.statics 0 s.words (object Open)).frame; below = below; frames = refl; calls = refl }

  full_by : (h : HasStatics p) (f : IsFull s h.free 3) → ComesToError p c (2 + (1 + (1 + (20 + 18 * length f.parts)))) 6 s.statics s.words
  full_by h f =
      let most = 20 + 18 * length f.parts in
      let full : IsFull asking h.free 3 = record { parts = f.parts; live = f.live; heap = f.heap; none = f.none } in
      comes_to_error p s (new_at p) (max ∷ []) c 6 (1 + (1 + most)) s.statics s.words
      (fails_then subs (error_at p) 6 least 1 (1 + most) below first asking s.statics s.words begins
      (fails_called subs (error_at p) 6 asking (alloc_at p) (3 ∷ []) inner most s.statics s.words
      (alloc_errs subs asking (alloc_at p) 3 (own_number core p 3) (error_at p) h.free (omega arith) (omega arith) (is_alloc_at p h) inner most (inr (let few : 3 ≤ 14335 = omega arith in few, full, let e : 20 + 18 * length full.parts ≤ most = omega arith in e)))))

-- after it
module _ {core : Core} {p : IsShipped core} {h : HasStatics p} {s : State} {max : ℕ} (m : Making h s max) where
  abbrev c : CallsNext p (codes "String") (codes "new") s (max ∷ [])
  c = m.call

  abbrev subs' : List Subroutine
  subs' = the_subroutines core

  abbrev under : List Frame
  under = below p s max c

  abbrev enough : ℕ
  enough = least p s max c

  abbrev start : State
  start = first p s max c

  abbrev asked : State
  asked = asking p s max c

  abbrev here_at : List ℕ → ℕ → List ℕ → Text → Call
  here_at ss this ws t = at p s max c ss this ws t

  abbrev allocates : Allocating subs' asked (alloc_at p) h.free
  allocates = record {
    size = 3;
    low = omega arith;
    high = omega arith;
    parts = m.parts;
    live = m.live;
    heap = has_heap s asked.frames h.free m.parts m.live m.heap;
    k = m.k;
    fit = m.fit;
    call = inner p s max c;
  }

  abbrev Lacks : Type 0
  Lacks = (statics words : List ℕ) × ComesToError p c (258300 + 18 * m.k) 6 statics words × HasObject m statics words × ((14335 < max) ⊎ IsFull (record s { statics = statics; words = words }) h.free max)

  abbrev Outcome : Type 0
  Outcome = ((n : ℕ) × (n ≤ 258300 + 18 * m.k) × (s' : State) × Returns subs' s n s' × IsMade m s') ⊎ Lacks

  -- the first allocation has come back
  module _ (n1 : ℕ) (few1 : n1 ≤ 60 + 18 * m.k) (t1 : State) (back1 : ComesBack subs' asked n1 t1) (got1 : Allocated allocates.call h.free 3 m.live t1) where
    abbrev o : ℕ
    o = got1.place

    abbrev ss : List ℕ
    ss = t1.statics

    abbrev ws1 : List ℕ
    ws1 = t1.words

    abbrev ws3 : List ℕ
    ws3 = with_fields subs' (new_at p) ss o max ws1

    low_object : 2049 ≤ o
    low_object = got1.low

    high_object : o + 3 ≤ 16384
    high_object = got1.high

    reach0 : Reaches o 0 o
    reach0 = let l = low_object in let i = high_object in here o (omega (arith, l)) (omega (arith, i))

    reach1 : Reaches o 1 (o + 1)
    reach1 = let l = low_object in let i = high_object in reaches o 1 (omega (arith, l)) (omega (arith, i))

    reach2 : Reaches o 2 (o + 2)
    reach2 = let l = low_object in let i = high_object in reaches o 2 (omega (arith, l)) (omega (arith, i))

    to_test : Way subs' enough (1 + (n1 + 1)) start (over under (here_at ss o ws1 (tests_length (error_at p) (array_at p))))
    to_test =
        let object_made = here_at ss 0 ws1 (object p s max c (Value o)) in
        let tested = here_at ss o ws1 (tests_length (error_at p) (array_at p)) in
        let same : t1 ≡ over under object_made = ap (λ (fs : List Frame). with_frames t1 fs) got1.frames in
        let inside : Way subs' enough n1 asked (over under object_made) =
        subst (λ (z : State). Way subs' enough n1 asked z) same (way_of_call subs' enough n1 asked t1 (omega arith) (returns subs' n1 asked t1 back1)) in
        way_then subs' enough 1 (n1 + 1) start asked (over under tested) (begins p s max c)
        (way_then subs' enough n1 1 asked (over under object_made) (over under tested) inside
        (way_of_run subs' under 1 object_made tested (to_object subs' (new_at p) ss o (error_at p) (array_at p) max ws1)))

    keeps1 : KeepsOthers h.free m.live s t1
    keeps1 = record { statics = got1.keeps.statics; same_length = got1.keeps.same_length; words = got1.keeps.words }

    -- a length below 0
    negative_errs : word_lt max 0 ≡ 65535 → ComesToError p c (2 + ((1 + (n1 + 1)) + 5)) 14 ss ws1
    negative_errs is =
        let tested = here_at ss o ws1 (tests_length (error_at p) (array_at p)) in
        comes_to_error p s (new_at p) (max ∷ []) c 14 ((1 + (n1 + 1)) + 5) ss ws1
        (fails_then subs' (error_at p) 14 enough (1 + (n1 + 1)) 5 under start (over under tested) ss ws1 to_test
        (fails_by_run subs' (error_at p) 14 under 5 tested (here_at ss o ws1 End).frame ss ws1 2 (sets_fields (array_at p)) (is_negative subs' (new_at p) ss o (error_at p) (array_at p) max ws1 is)))

    has_object : HasObject m ss ws1
    has_object = record {
      place = o;
      heap = (got1.heap.0, record { room = record { static = got1.heap.1.room.static; words = got1.heap.1.room.words }; heap = got1.heap.1.heap });
      keeps = record { statics = got1.keeps.statics; same_length = got1.keeps.same_length; words = got1.keeps.words };
    }

    -- the fields set
    abbrev t3 : State
    t3 = record { frames = t1.frames; statics = ss; words = ws3 }

    abbrev live1 : List Block
    live1 = object_block o ∷ m.live

    holds3 : Holds t3 h.free live1
    holds3 =
        let a = stored_holds t1 h.free live1 o 0 (inl (inl (let l : o ≤ o = omega arith in l, let i : o < o + 3 = omega arith in i))) got1.heap in
        let ta : State = record t1 { words = with_heap_word ws1 o 0 } in
        let b = stored_holds ta h.free live1 (o + 1) 0 (inl (inl (let l : o ≤ o + 1 = omega arith in l, let i : o + 1 < o + 3 = omega arith in i))) a in
        let tb : State = record t1 { words = with_heap_word (with_heap_word ws1 o 0) (o + 1) 0 } in
        stored_holds tb h.free live1 (o + 2) max (inl (inl (let l : o ≤ o + 2 = omega arith in l, let i : o + 2 < o + 3 = omega arith in i))) b

    keeps3 : KeepsOthers h.free m.live s t3
    keeps3 =
        let ta : State = record t1 { words = with_heap_word ws1 o 0 } in
        let tb : State = record t1 { words = with_heap_word (with_heap_word ws1 o 0) (o + 1) 0 } in
        let a = stored_holds t1 h.free live1 o 0 (inl (inl (let l : o ≤ o = omega arith in l, let i : o < o + 3 = omega arith in i))) got1.heap in
        let b = stored_holds ta h.free live1 (o + 1) 0 (inl (inl (let l : o ≤ o + 1 = omega arith in l, let i : o + 1 < o + 3 = omega arith in i))) a in
        keeps_then h.free m.live s t1 t3 keeps1
        (keeps_then h.free m.live t1 ta t3 (stored_keeps t1 h.free (object_block o) m.live o 0 got1.heap (omega arith) (omega arith))
        (keeps_then h.free m.live ta tb t3 (stored_keeps ta h.free (object_block o) m.live (o + 1) 0 a (omega arith) (omega arith)) (stored_keeps tb h.free (object_block o) m.live (o + 2) max b (omega arith) (omega arith))))

    long1 : length ws1 ≡ 22528
    long1 = got1.heap.1.room.words

    long3 : length ws3 ≡ 22528
    long3 = holds3.1.room.words

    long_b : length (with_heap_word (with_heap_word ws1 o 0) (o + 1) 0) ≡ 22528
    long_b = length-set (with_heap_word ws1 o 0) (o + 1 - 2048) 0 ∙ length-set ws1 (o - 2048) 0 ∙ long1

    field0 : word_at ws3 o ≡ 0
    field0 =
        let l = low_object in
        let i = high_object in
        other_word (with_heap_word (with_heap_word ws1 o 0) (o + 1) 0) (o + 2) o max (omega arith) (omega (arith, l)) (λ e. omega (arith, e))
        ∙ other_word (with_heap_word ws1 o 0) (o + 1) o 0 (omega (arith, l)) (omega (arith, l)) (λ e. omega (arith, e)) ∙ this_word ws1 o 0 long1 (omega (arith, l)) (omega (arith, i))

    field1 : word_at ws3 (o + 1) ≡ 0
    field1 =
        let l = low_object in
        let i = high_object in
        other_word (with_heap_word (with_heap_word ws1 o 0) (o + 1) 0) (o + 2) (o + 1) max (omega arith) (omega (arith, l)) (λ e. omega (arith, e))
        ∙ this_word (with_heap_word ws1 o 0) (o + 1) 0 (length-set ws1 (o - 2048) 0 ∙ long1) (omega (arith, l)) (omega (arith, i))

    field2 : word_at ws3 (o + 2) ≡ max
    field2 = let l = low_object in let i = high_object in this_word (with_heap_word (with_heap_word ws1 o 0) (o + 1) 0) (o + 2) max long_b (omega (arith, l)) (omega (arith, i))

    to_fields : word_lt max 0 ≡ 0 → Way subs' enough ((1 + (n1 + 1)) + (4 + 6)) start (over under (here_at ss o ws3 (after_fields subs' (new_at p) ss (array_at p))))
    to_fields is =
        let tested = here_at ss o ws1 (tests_length (error_at p) (array_at p)) in
        let ready = here_at ss o ws1 (sets_fields (array_at p)) in
        let done = here_at ss o ws3 (after_fields subs' (new_at p) ss (array_at p)) in
        way_then subs' enough (1 + (n1 + 1)) (4 + 6) start (over under tested) (over under done) to_test
        (way_of_run subs' under (4 + 6) tested done
        (run_then subs' 4 6 tested ready done (is_long subs' (new_at p) ss o (error_at p) (array_at p) max ws1 is) (sets subs' (new_at p) ss o (array_at p) max ws1 reach0 reach1 reach2)))

    -- no room is wanted
    empty_made : max ≡ 0 → (n : ℕ) × (n ≤ 90 + 18 * m.k) × (s' : State) × Returns subs' s n s' × IsMade m s'
    empty_made e =
        let none = here_at ss o ws3 (after_fields subs' (new_at p) ss (array_at p)) in
        let end = here_at ss o ws3 (returns_value 8 o End) in
        let count = (1 + (n1 + 1)) + (4 + 6) in
        let way = way_then subs' enough count 3 start (over under none) (over under end) (to_fields (ap (λ z. word_lt z 0) e)) (way_of_run subs' under 3 none end (has_none subs' (new_at p) ss o (array_at p) max ws3 e)) in
        let last : State = record (given_back s c.caller c.below o) { statics = ss; words = ws3 } in
        let l = low_object in
        let i = high_object in
        let held : Holds last h.free live1 = (holds3.0, record { room = record { static = holds3.1.room.static; words = holds3.1.room.words }; heap = holds3.1.heap }) in
        let string : StringAt ws3 o [] max = record {
          place = 0;
          characters = field0;
          count = field1;
          most = field2;
          object = (omega (arith, l), i);
          few = omega arith;
          small = omega (arith, e);
          inside = λ some. absurd (omega (arith, some, e));
          apart = λ some. absurd (omega (arith, some, e));
          each = λ j some. absurd (omega (arith, some));
        } in (
          suc (suc (count + 3)),
          omega (arith, few1),
          last,
          returns_by subs' s (new_at p) (max ∷ []) c (count + 3) (here_at ss o ws3 End).frame ss ws3 8 o End way,
          record {
            place = o;
            frames = refl;
            string = string;
            heap = subst (λ z. Holds last h.free (blocks_of o 0 z ++ m.live)) (sym e) held;
            keeps = record { statics = keeps3.statics; same_length = keeps3.same_length; words = keeps3.words };
          },
        )

    -- ---- room is wanted: the call of Array.new
    module _ (r : ℕ) (e : max ≡ suc r) (small : max < 32768) where
      abbrev wants : Call
      wants = here_at ss o ws3 (characters_from (asks_one (array_at p) (Value max)))

      abbrev asked2 : State
      asked2 = over under wants

      abbrev steps2 : ℕ
      steps2 = (1 + (n1 + 1)) + (4 + 6) + 3

      to_second : Way subs' enough steps2 start asked2
      to_second =
          let none = here_at ss o ws3 (after_fields subs' (new_at p) ss (array_at p)) in
          way_then subs' enough ((1 + (n1 + 1)) + (4 + 6)) 3 start (over under none) asked2 (to_fields (not_negative max small)) (way_of_run subs' under 3 none wants (to_array subs' (new_at p) ss o (array_at p) max r ws3 e))

      abbrev second : NextCall subs' asked2 (array_at p) (max ∷ [])
      second = record { top = wants.frame; caller = (here_at ss o ws3 (characters_from Open)).frame; below = under; frames = refl; calls = refl }

      parts_few : length holds3.0 ≤ 14336
      parts_few = few_parts ws3 (slice_index ss h.free) holds3.0 live1 holds3.1.heap

      lacks : (most : ℕ) → most ≤ 258068 → NoRoom asked2 h.free max most → ((14335 < max) ⊎ IsFull (record s { statics = ss; words = ws3 }) h.free max) → Lacks
      lacks most few rest why =
          let all = steps2 + (1 + (5 + (1 + most))) in
          let error = comes_to_error p s (new_at p) (max ∷ []) c 6 all ss ws3
          (fails_then subs' (error_at p) 6 enough steps2 (1 + (5 + (1 + most))) under start asked2 ss ws3 to_second
          (fails_called subs' (error_at p) 6 asked2 (array_at p) (max ∷ []) second (5 + (1 + most)) ss ws3 (array_errs p h asked2 max (omega (arith, e)) small second most rest))) in
          let enough_steps = error.few in (
            ss,
            ws3,
            record { n = error.n; few = omega (arith, enough_steps, few1, few); waits = error.waits; leads = error.leads; inside = error.inside },
            record {
              place = o;
              heap = (holds3.0, record { room = record { static = holds3.1.room.static; words = holds3.1.room.words }; heap = holds3.1.heap });
              keeps = record { statics = keeps3.statics; same_length = keeps3.same_length; words = keeps3.words };
            },
            why,
          )

      too_long : 14335 < max → Lacks
      too_long g = lacks 9 (omega arith) (inl (g, omega arith)) (inl g)

      module _ (fits : max ≤ 14335) where
        is_full : passed_block ws3 (max + 1) holds3.0 ≡ None → Lacks
        is_full none =
            let few = parts_few in
            lacks (20 + 18 * length holds3.0) (omega (arith, few)) (inr (fits, record { parts = holds3.0; live = live1; heap = holds3.1.heap; none = none }, omega arith))
            (inr (record { parts = holds3.0; live = live1; heap = holds3.1.heap; none = none }))

        module _ (k2 : ℕ) (fit2 : passed_block ws3 (max + 1) holds3.0 ≡ Some k2) where
          abbrev allocates2 : Allocating subs' asked2 (array_at p) h.free
          allocates2 = record {
            size = max;
            low = omega (arith, e);
            high = fits;
            parts = holds3.0;
            live = live1;
            heap = record { room = record { static = holds3.1.room.static; words = holds3.1.room.words }; heap = holds3.1.heap };
            k = k2;
            fit = fit2;
            call = second;
          }

          few_passed : k2 ≤ 14336
          few_passed =
              let f = allocating.first_fit ws3 (max + 1) k2 holds3.0 fit2 in
              let shape : length holds3.0 ≡ length f.before + suc (length f.after) = ap length f.shape ∙ length-append f.before (f.c ∷ f.after) in
              let count = f.count in
              let few = parts_few in
              omega (arith, shape, count, few)

          module _ (n2 : ℕ) (few2 : n2 ≤ 67 + 18 * k2) (t2 : State) (back2 : Returns subs' asked2 n2 t2) (got2 : Allocated allocates2.call h.free max live1 t2) where
            abbrev d : ℕ
            d = got2.place

            abbrev ws5 : List ℕ
            ws5 = with_heap_word t2.words o d

            abbrev last : State
            last = record (given_back s c.caller c.below o) { statics = t2.statics; words = ws5 }

            abbrev block2 : Block
            block2 = record { place = d; words = max }

            long4 : length t2.words ≡ 22528
            long4 = got2.heap.1.room.words

            -- the other fields are words of a block that is live
            kept_field : (k : ℕ) → k < 3 → word_at t2.words (o + k) ≡ word_at ws3 (o + k)
            kept_field k lt = got2.keeps.words (o + k) (inl (inl (let l : o ≤ o + k = omega arith in l, let i : o + k < o + 3 = omega (arith, lt) in i)))

            later_field : (k : ℕ) → k < 3 → 0 < k → word_at ws5 (o + k) ≡ word_at ws3 (o + k)
            later_field k lt some = let l = low_object in other_word t2.words o (o + k) d (omega (arith, l)) (omega (arith, l)) (λ q. omega (arith, q, some)) ∙ kept_field k lt

            string2 : StringAt ws5 o [] max
            string2 =
                let l = low_object in
                let i = high_object in
                let low = got2.low in
                let high = got2.high in
                record {
                  place = d;
                  characters = this_word t2.words o d long4 (omega (arith, l)) (omega (arith, i));
                  count = later_field 1 (omega arith) (omega arith) ∙ field1;
                  most = later_field 2 (omega arith) (omega arith) ∙ field2;
                  object = (omega (arith, l), i);
                  few = omega arith;
                  small = small;
                  inside = λ some. (omega (arith, low), high);
                  apart = λ some. two_apart t2.words (slice_index t2.statics h.free) got2.heap.0 block2 (object_block o) m.live got2.heap.1.heap;
                  each = λ j some. absurd (omega (arith, some));
                }

            held2 : Holds (record t2 { words = ws5 }) h.free (block2 ∷ live1)
            held2 = stored_holds t2 h.free (block2 ∷ live1) o d (inl (inr (inl (let l : o ≤ o = omega arith in l, let i : o < o + 3 = omega arith in i)))) got2.heap

            keeps5 : KeepsOthers h.free m.live s (record t2 { words = ws5 })
            keeps5 = record {
              statics = λ k q. got2.keeps.statics k q ∙ keeps3.statics k q;
              same_length = got2.keeps.same_length ∙ keeps3.same_length;
              words = λ a k.
                  let apart = kept_apart ws3 (slice_index ss h.free) holds3.0 (object_block o) m.live holds3.1.heap a k in
                  let side = apart.1 in
                  let l = low_object in
                  other_word t2.words o a d (omega (arith, l)) apart.0 (λ q. ⊎_elim (λ b. omega (arith, b, q)) (λ b. omega (arith, b, q)) side) ∙ got2.keeps.words a (⊎_elim (λ b. inl (inr b)) (λ b. inr b) k) ∙ keeps3.words a k;
            }

            made2 : (n : ℕ) × (n ≤ 258300 + 18 * m.k) × (s' : State) × Returns subs' s n s' × IsMade m s'
            unfolding string2
            made2 =
                let behind = here_at t2.statics o t2.words (characters_from (Value d)) in
                let end = here_at t2.statics o ws5 (returns_value 8 o End) in
                let same : t2 ≡ over under behind = ap (λ (fs : List Frame). with_frames t2 fs) got2.frames in
                let inside : Way subs' enough n2 asked2 (over under behind) = subst (λ (z : State). Way subs' enough n2 asked2 z) same (way_of_call subs' enough n2 asked2 t2 (omega arith) back2) in
                let whole = way_then subs' enough steps2 (n2 + 2) start asked2 (over under end) to_second
                (way_then subs' enough n2 2 asked2 (over under behind) (over under end) inside (way_of_run subs' under 2 behind end (sets_characters subs' (new_at p) t2.statics o d max t2.words reach0))) in
                let few = few_passed in (
                  suc (suc (steps2 + (n2 + 2))),
                  omega (arith, few1, few2, few),
                  last,
                  returns_by subs' s (new_at p) (max ∷ []) c (steps2 + (n2 + 2)) (here_at t2.statics o ws5 End).frame t2.statics ws5 8 o End whole,
                  record {
                    place = o;
                    frames = refl;
                    string = string2;
                    heap = subst (λ z. Holds last h.free (blocks_of o d z ++ m.live)) (sym e)
                        (subst (λ z. Holds last h.free (record { place = d; words = z } ∷ object_block o ∷ m.live)) e (held2.0, record { room = record { static = held2.1.room.static; words = held2.1.room.words }; heap = held2.1.heap }));
                    keeps = record { statics = keeps5.statics; same_length = keeps5.same_length; words = keeps5.words };
                  },
                )

      by_fit : (fits : max ≤ 14335) (f : Option ℕ) → passed_block ws3 (max + 1) holds3.0 ≡ f → Outcome
      by_fit fits None none = inr (is_full fits none)
      by_fit fits (Some k2) fit2 = let (n2, few2, t2, back2, got2) = made_new p h asked2 (allocates2 fits k2 fit2) in inl (made2 fits k2 fit2 n2 few2 t2 back2 got2)

      outcome : Outcome
      outcome = ⊎_elim (λ (g : 14335 < max). inr (too_long g)) (λ (fits : max ≤ 14335). by_fit fits (passed_block ws3 (max + 1) holds3.0) refl) (cases_lt 14335 max)

-- ---- the laws of new

module _ {core : Core} (p : IsShipped core) (h : HasStatics p) (s : State) (max : ℕ) where
  by_size : (small : max < 32768) (m : Making h s max) (n1 : ℕ) (few1 : n1 ≤ 60 + 18 * m.k) (t1 : State) (back1 : ComesBack (the_subroutines core) (asked m) n1 t1) (got1 : Allocated (allocates m).call h.free 3 m.live t1) (z : ℕ) → max ≡ z → Outcome m
  by_size small m n1 few1 t1 back1 got1 zero e = let (n, few, s', back, made) = empty_made m n1 few1 t1 back1 got1 e in inl (n, omega (arith, few), s', back, made)
  by_size small m n1 few1 t1 back1 got1 (suc r) e = outcome m n1 few1 t1 back1 got1 r e small

  pub new_law : NewLaw p h s max
  new_law small m =
      let (n1, few1, t1, back1, got1) = allocating.law (the_subroutines core) (asked m) (alloc_at p) (own_number core p 3) (error_at p) h.free (is_alloc_at p h) (allocates m) in
      by_size small m n1 few1 t1 back1 got1 max refl

  pub new_empty_law : NewEmptyLaw p h s max
  new_empty_law e m =
      let (n1, few1, t1, back1, got1) = allocating.law (the_subroutines core) (asked m) (alloc_at p) (own_number core p 3) (error_at p) h.free (is_alloc_at p h) (allocates m) in
      empty_made m n1 few1 t1 back1 got1 e

  pub new_error_law : NewErrorLaw p h s max
  new_error_law low word m =
      let (n1, few1, t1, back1, got1) = allocating.law (the_subroutines core) (asked m) (alloc_at p) (own_number core p 3) (error_at p) h.free (is_alloc_at p h) (allocates m) in
      let error = negative_errs m n1 few1 t1 back1 got1 (negative max low) in
      let few = error.few in
      (t1.statics, t1.words, record { n = error.n; few = omega (arith, few, few1); waits = error.waits; leads = error.leads; inside = error.inside }, has_object m n1 few1 t1 back1 got1)

  pub new_full_law : NewFullLaw p h s max
  new_full_law f c =
      let error = full_by p s max c h f in
      let few = error.few in
      record { n = error.n; few = omega (arith, few); waits = error.waits; leads = error.leads; inside = error.inside }
