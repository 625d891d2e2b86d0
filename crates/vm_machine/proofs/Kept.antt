-- A step leads from a sound state to a sound one.
use Rattle.std.proofs.Common.{◌≡◌, ℕ, zero, suc, ◌+◌, ◌-◌, ◌<◌, ◌≤◌, Bool, true, false, nat_lt, nat_eq, List, [], ◌∷◌, length, refl, ap, ◌∙◌, sym, subst, arith, take, drop, reverse, bit_and, bit_or}
use Rattle.std.specs.Prelude.{Option, Some, None, if◌then◌else◌, slice_index, slice_get, slice_set, All, IsSomeAnd, unwrap_or, int_lt}
use Rattle.std.proofs.lemmas.List.{length-set, length-replicate}
use Rattle.std.proofs.lemmas.List.Elements.{All-set, All-drop, All-take, All-replicate, All-append}
use Rattle.std.proofs.lemmas.Grind.{reverse_onto}
use Rattle.std.proofs.lemmas.Option.{slice_get_within}
use Rattle.std.proofs.lemmas.Nat.{or_lt, and_le_l}
use Rattle.std.proofs.lemmas.Bool.{ltb-false, ltb-true}
use Rattle.std.proofs.lemmas.Bool.Decides.{nat_tests}
use Rattle.word16.specs.Words.{word_add, word_sub, word_neg, word_not, word_shl, word_shr, signed_value, truth}
use Rattle.machine_io.specs.declared.machine.Stray.{Stray}
use Rattle.machine_io.specs.declared.machine.Stray.TheVariants as stray
use Rattle.vm_tree.specs.declared.command.Operation.{Operation}
use Rattle.vm_tree.specs.declared.command.Operation.TheVariants.{Add, Sub, Neg, Eq, Gt, Lt, And, Or, Not, ShiftLeft, ShiftRight}
use Rattle.vm_tree.specs.declared.command.Segment.{Segment}
use Rattle.vm_tree.specs.declared.command.Segment.TheVariants as segment
use Rattle.vm_link.specs.declared.linked.Step.{Step}
use Rattle.vm_link.specs.declared.linked.Step.TheVariants as command
use Rattle.vm_link.specs.declared.linked.Code.{Code}
use Rattle.vm_link.specs.declared.linked.LinkedFunction.{LinkedFunction}
use Rattle.vm_link.specs.declared.linked.Linked.{Linked}
use Rattle.vm_link.specs.Sound.{IsSound, IsSoundStep, IsSoundFunction}
use Rattle.vm_machine.specs.State.{Frame, State, words_in_use}
use Rattle.vm_machine.specs.Step.{Outcome, Acts, Strays, Full, Done, after, push_outcome, on_top, on_two, on_word, unary_outcome, binary_outcome, operate, load, store, push, pop, call, begin, return, act, fit_outcome, code_of, code_in, end_outcome, perform, step_frames, step, start}
use Rattle.vm_machine.specs.Sound.{AreWords, IsSoundFrame, AreSoundFrames, IsSoundState}
use Rattle.vm_machine.specs.Laws.{SoundLaw}

none : {X : Type 0} (P : X → Type 0) → All P []
none P k d h = absurd (omega (arith, h))

first : {X : Type 0} (P : X → Type 0) (x : X) (xs : List X) → All P (x ∷ xs) → P x
first P x xs h = h 0 x (omega arith)

rest_of : {X : Type 0} (P : X → Type 0) (x : X) (xs : List X) → All P (x ∷ xs) → All P xs
rest_of P x xs h k d m = h (suc k) d (omega (arith, m))

more_of : {X : Type 0} (P : X → Type 0) (x : X) (xs : List X) → P x → All P xs → All P (x ∷ xs)
more_of P x xs p h zero d m = p
more_of P x xs p h (suc k) d m = h k d (omega (arith, m))

abbrev IsWord : ℕ → Type 0
IsWord w = w < 65536

word_more : (w : ℕ) (ws : List ℕ) → w < 65536 → AreWords ws → AreWords (w ∷ ws)
word_more w ws h hs = more_of IsWord w ws h hs

all_at : {X : Type 0} (P : X → Type 0) (xs : List X) (i : ℕ) (x : X) → All P xs → slice_get xs i ≡ Some x → P x
all_at P [] i x h e = absurd (cc e)
all_at P (y ∷ xs) zero x h e = subst P (cc e) (first P y xs h)
all_at P (y ∷ xs) (suc i) x h e = all_at P xs i x (rest_of P y xs h) e

index_word : (ws : List ℕ) (i : ℕ) → AreWords ws → slice_index ws i < 65536
index_word [] i h = omega arith
index_word (w ∷ ws) zero h = first IsWord w ws h
index_word (w ∷ ws) (suc i) h = index_word ws i (rest_of IsWord w ws h)

reversed : (ws : List ℕ) → AreWords ws → AreWords (reverse ws)
reversed [] h = none IsWord
reversed (w ∷ ws) h = subst AreWords (sym (reverse_onto ws w [])) (All-append IsWord (reverse ws) (w ∷ []) (reversed ws (rest_of IsWord w ws h)) (word_more w [] (first IsWord w ws h) (none IsWord)))

small : (i : ℕ) → nat_lt i 32768 ≡ true → i < 65536
small i e = omega (arith, ltb-true i 32768 e)

truth_word : (b : Bool) → truth b < 65536
truth_word true = omega arith
truth_word false = omega arith

pub record AreMemory (ss ts ws : List ℕ) : Type 0 where
  pub statics : AreWords ss
  pub temps : AreWords ts
  pub words : AreWords ws
  pub statics_length : length ss ≡ 240
  pub temps_length : length ts ≡ 8
  pub words_length : length ws ≡ 22528

module _ (l : Linked) where
  -- a state that is sound but for the room on its stack
  abbrev Good : Outcome → Type 0
  Good (Acts heard s) = AreSoundFrames l s.frames × AreMemory s.statics s.temps s.words
  Good (Strays why) = Unit {0}
  Good (Full w) = Unit {0}
  Good Done = Unit {0}

  top_of : (f : Frame) (below : List Frame) → AreSoundFrames l (f ∷ below) → IsSoundFrame l f
  top_of f [] h = h.0
  top_of f (g ∷ below) h = h.0

  retop : (f f' : Frame) (below : List Frame) → AreSoundFrames l (f ∷ below) → IsSoundFrame l f' → f'.function ≡ f.function
      → (f.arguments ≡ [] → f'.arguments ≡ []) → (f.locals ≡ [] → f'.locals ≡ []) → (below ≡ [] → (f'.this ≡ f.this) × (f'.that ≡ f.that)) → AreSoundFrames l (f' ∷ below)
  retop f f' [] h t e a b p = let q = p refl in (t, record { function = e ∙ h.1.function; arguments = a h.1.arguments; locals = b h.1.locals; this = q.0 ∙ h.1.this; that = q.1 ∙ h.1.that })
  retop f f' (g ∷ below) h t e a b p = (t, (h.1.0, e ∙ h.1.1, h.1.2), h.2)

  -- a command that sets no pointer of the frame that it is done in
  abbrev KeepsPointers : Step → Type 0
  KeepsPointers (command.Pop segment.Pointer i) = ⊥
  KeepsPointers c = Unit {0}

  top_good : (xs : List ℕ) (k : ℕ → List ℕ → Outcome) → AreWords xs → ((w : ℕ) (ws : List ℕ) → w < 65536 → AreWords ws → Good (k w ws)) → Good (on_top xs k)
  top_good [] k a h = tt
  top_good (w ∷ ws) k a h = h w ws (first IsWord w ws a) (rest_of IsWord w ws a)

  two_good : (xs : List ℕ) (k : ℕ → ℕ → List ℕ → Outcome) → AreWords xs → ((x y : ℕ) (ws : List ℕ) → x < 65536 → y < 65536 → AreWords ws → Good (k x y ws)) → Good (on_two xs k)
  two_good [] k a h = tt
  two_good (y ∷ []) k a h = tt
  two_good (y ∷ x ∷ ws) k a h = h x y ws (first IsWord x ws (rest_of IsWord y (x ∷ ws) a)) (first IsWord y (x ∷ ws) a) (rest_of IsWord x ws (rest_of IsWord y (x ∷ ws) a))

  word_good : (why : Stray) (xs : List ℕ) (i : ℕ) (k : ℕ → Outcome) → AreWords xs → ((x : ℕ) → x < 65536 → Good (k x)) → Good (on_word why (slice_get xs i) k)
  word_good why [] i k a h = tt
  word_good why (x ∷ xs) zero k a h = h x (first IsWord x xs a)
  word_good why (x ∷ xs) (suc i) k a h = word_good why xs i k (rest_of IsWord x xs a) h

  if_good : (b : Bool) (o o' : Outcome) → Good o → Good o' → Good (if b then o else o')
  if_good true o o' h h' = h
  if_good false o o' h h' = h'

  module _ (key : ℕ) (is_word : key < 65536) (s : State) (m : AreMemory s.statics s.temps s.words) (f : Frame) (below : List Frame) (fs : AreSoundFrames l (f ∷ below)) (more : f.place + 1 ≤ length (code_in l f.function)) where
    there : IsSoundFrame l f
    there = top_of f below fs

    -- a frame with other values at another place
    moved : (place : ℕ) (values : List ℕ) → place ≤ length (code_in l f.function) → AreWords values → AreSoundFrames l (record f { place = place; values = values } ∷ below)
    moved place values h ws = retop f (record f { place = place; values = values }) below fs
        (record { place = h; arguments = there.arguments; locals = there.locals; values = ws; this = there.this; that = there.that }) refl (λ e. e) (λ e. e) (λ e. (refl, refl))

    pushed_good : (heard : Bool) (w : ℕ) → w < 65536 → Good (push_outcome heard s f below w)
    pushed_good heard w h = (moved (f.place + 1) (w ∷ f.values) more (word_more w f.values h there.values), m)

    turned_good : (op : ℕ → ℕ) → ((x : ℕ) → x < 65536 → op x < 65536) → Good (unary_outcome op s f below)
    turned_good op h = top_good f.values _ there.values (λ x ws hx hs. (moved (f.place + 1) (op x ∷ ws) more (word_more (op x) ws (h x hx) hs), m))

    joined_good : (op : ℕ → ℕ → ℕ) → ((x y : ℕ) → x < 65536 → y < 65536 → op x y < 65536) → Good (binary_outcome op s f below)
    joined_good op h = two_good f.values _ there.values (λ x y ws hx hy hs. (moved (f.place + 1) (op x y ∷ ws) more (word_more (op x y) ws (h x y hx hy) hs), m))

    operate_good : (o : Operation) → Good (operate o s f below)
    operate_good Add = joined_good word_add (λ x y hx hy. omega arith)
    operate_good Sub = joined_good word_sub (λ x y hx hy. omega arith)
    operate_good Neg = turned_good word_neg (λ x hx. omega arith)
    operate_good Eq = joined_good (λ x y. truth (nat_eq x y)) (λ x y hx hy. truth_word (nat_eq x y))
    operate_good Gt = joined_good (λ x y. truth (int_lt (signed_value y) (signed_value x))) (λ x y hx hy. truth_word (int_lt (signed_value y) (signed_value x)))
    operate_good Lt = joined_good (λ x y. truth (int_lt (signed_value x) (signed_value y))) (λ x y hx hy. truth_word (int_lt (signed_value x) (signed_value y)))
    operate_good And = joined_good bit_and (λ x y hx hy. omega (arith, and_le_l x y, hx))
    operate_good Or = joined_good bit_or (λ x y hx hy. or_lt 16 x y hx hy)
    operate_good Not = turned_good word_not (λ x hx. omega arith)
    operate_good ShiftLeft = turned_good word_shl (λ x hx. omega arith)
    operate_good ShiftRight = turned_good word_shr (λ x hx. grind (arith, nat_tests))

    load_good : (a : ℕ) → Good (load key a s f below)
    load_good a = if_good (nat_lt a 2048) _ _ tt (if_good (nat_lt a 24576) _ _ (pushed_good false (slice_index s.words (a - 2048)) (index_word s.words (a - 2048) m.words))
        (if_good (nat_eq a 24576) _ _ (pushed_good true key is_word) tt))

    store_good : (a w : ℕ) (values : List ℕ) → w < 65536 → AreWords values → Good (store a w values s f below)
    store_good a w values h ws = if_good (nat_lt a 2048) _ _ tt (if_good (nat_lt a 24576) _ _ (
      moved (f.place + 1) values more ws,
      record {
        statics = m.statics;
        temps = m.temps;
        words = All-set IsWord s.words (a - 2048) w h m.words;
        statics_length = m.statics_length;
        temps_length = m.temps_length;
        words_length = length-set s.words (a - 2048) w ∙ m.words_length;
      },
    ) tt)

    push_good : (g : Segment) (i : ℕ) → Good (push key g i s f below)
    push_good segment.Constant i = constant (nat_lt i 32768) refl
      where
        constant : (b : Bool) → nat_lt i 32768 ≡ b → Good (if b then push_outcome false s f below i else Strays stray.Code)
        constant true e = pushed_good false i (small i e)
        constant false e = tt
    push_good segment.Argument i = word_good _ f.arguments i _ there.arguments (pushed_good false)
    push_good segment.Local i = word_good _ f.locals i _ there.locals (pushed_good false)
    push_good segment.Static i = word_good _ s.statics i _ m.statics (pushed_good false)
    push_good segment.Temp i = word_good _ s.temps i _ m.temps (pushed_good false)
    push_good segment.Pointer i = word_good _ (f.this ∷ f.that ∷ []) i _ (word_more f.this (f.that ∷ []) there.this (word_more f.that [] there.that (none IsWord))) (pushed_good false)
    push_good segment.This i = if_good (nat_lt i 32768) _ _ (load_good (word_add f.this i)) tt
    push_good segment.That i = if_good (nat_lt i 32768) _ _ (load_good (word_add f.that i)) tt

    pop_good : (g : Segment) (i : ℕ) → (below ≡ [] → KeepsPointers (command.Pop g i)) → (w : ℕ) (values : List ℕ) → w < 65536 → AreWords values → Good (pop g i s f below w values)
    pop_good segment.Constant i keep w values h ws = tt
    pop_good segment.Argument i keep w values h ws = if_good (nat_lt i (length f.arguments)) _ _ (
      retop f (record (after f values) { arguments = slice_set f.arguments i w }) below fs
          (record { place = more; arguments = All-set IsWord f.arguments i w h there.arguments; locals = there.locals; values = ws; this = there.this; that = there.that })
          refl (λ e. ap (λ xs. slice_set xs i w) e) (λ e. e) (λ e. (refl, refl)),
      m,
    ) tt
    pop_good segment.Local i keep w values h ws = if_good (nat_lt i (length f.locals)) _ _ (
      retop f (record (after f values) { locals = slice_set f.locals i w }) below fs
          (record { place = more; arguments = there.arguments; locals = All-set IsWord f.locals i w h there.locals; values = ws; this = there.this; that = there.that })
          refl (λ e. e) (λ e. ap (λ xs. slice_set xs i w) e) (λ e. (refl, refl)),
      m,
    ) tt
    pop_good segment.Static i keep w values h ws = if_good (nat_lt i (length s.statics)) _ _ (
      moved (f.place + 1) values more ws,
      record {
        statics = All-set IsWord s.statics i w h m.statics;
        temps = m.temps;
        words = m.words;
        statics_length = length-set s.statics i w ∙ m.statics_length;
        temps_length = m.temps_length;
        words_length = m.words_length;
      },
    ) tt
    pop_good segment.Temp i keep w values h ws = if_good (nat_lt i (length s.temps)) _ _ (
      moved (f.place + 1) values more ws,
      record {
        statics = m.statics;
        temps = All-set IsWord s.temps i w h m.temps;
        words = m.words;
        statics_length = m.statics_length;
        temps_length = length-set s.temps i w ∙ m.temps_length;
        words_length = m.words_length;
      },
    ) tt
    pop_good segment.Pointer i keep w values h ws = if_good (nat_eq i 0) _ _ (
      retop f (record (after f values) { this = w }) below fs
          (record { place = more; arguments = there.arguments; locals = there.locals; values = ws; this = h; that = there.that }) refl (λ e. e) (λ e. e) (λ e. absurd (keep e)),
      m,
    )
        (if_good (nat_eq i 1) _ _ (
          retop f (record (after f values) { that = w }) below fs
              (record { place = more; arguments = there.arguments; locals = there.locals; values = ws; this = there.this; that = h }) refl (λ e. e) (λ e. e) (λ e. absurd (keep e)),
          m,
        ) tt)
    pop_good segment.This i keep w values h ws = if_good (nat_lt i 32768) _ _ (store_good (word_add f.this i) w values h ws) tt
    pop_good segment.That i keep w values h ws = if_good (nat_lt i 32768) _ _ (store_good (word_add f.that i) w values h ws) tt

    call_good : (g n : ℕ) → g < length l.functions → Good (call g n s f below)
    call_good g n h = if_good (nat_lt (length f.values) n) _ _ tt (
      (
        record { place = omega arith; arguments = reversed (take n f.values) (All-take IsWord n f.values there.values); locals = none IsWord; values = none IsWord; this = there.this; that = there.that },
        (g, refl, h),
        moved (f.place + 1) (drop n f.values) more (All-drop IsWord n f.values there.values),
      ),
      m,
    )

    begin_good : (n : ℕ) (locals values : List ℕ) (rest : List Frame) → AreSoundFrames l (f ∷ rest) → Good (begin n locals values s f rest)
    begin_good n [] [] [] h = tt
    begin_good n [] [] (g ∷ rest) h = ((record { place = more; arguments = there.arguments; locals = All-replicate IsWord n 0 (omega arith); values = there.values; this = there.this; that = there.that }, h.1, h.2), m)
    begin_good n [] (v ∷ values) rest h = tt
    begin_good n (v ∷ locals) values rest h = tt

    return_good : (rest : List Frame) (w : ℕ) (values : List ℕ) → AreSoundFrames l (f ∷ rest) → w < 65536 → Good (return rest s w values)
    return_good [] w values h hw = tt
    return_good (g ∷ rest) w values h hw =
        let t = top_of g rest h.2 in
        (retop g (record g { values = w ∷ g.values }) rest h.2 (record { place = t.place; arguments = t.arguments; locals = t.locals; values = word_more w g.values hw t.values; this = t.this; that = t.that }) refl (λ e. e) (λ e. e) (λ e. (refl, refl)), m)

    landing : (b : Bool) (p : ℕ) → p ≤ length (code_in l f.function) → (if b then f.place + 1 else p) ≤ length (code_in l f.function)
    landing true p h = more
    landing false p h = h

    act_good : (c : Step) → IsSoundStep (length l.functions) (length (code_in l f.function)) c → (below ≡ [] → KeepsPointers c) → Good (act key c s f below)
    act_good (command.Operate o) h keep = operate_good o
    act_good (command.Push g i) h keep = push_good g i
    act_good (command.Pop g i) h keep = top_good f.values _ there.values (pop_good g i keep)
    act_good (command.Goto p) h keep = (moved p f.values h there.values, m)
    act_good (command.IfGoto p) h keep = top_good f.values _ there.values (λ w ws hw hs. (moved (if nat_eq w 0 then f.place + 1 else p) ws (landing (nat_eq w 0) p h) hs, m))
    act_good (command.Function n) h keep = begin_good n f.locals f.values below fs
    act_good (command.Call g n) h keep = call_good g n h
    act_good command.Return h keep = top_good f.values _ there.values (λ w ws hw hs. return_good below w ws fs hw)

  -- one of the two commands of `start`
  abbrev IsOfStart : Code → Type 0
  IsOfStart c = IsSoundStep (length l.functions) 2 c.step

  -- each command of the code is sound
  module _ (sound : IsSound l) (whole : l.bare ≡ false) where
    start_there : (o : Option ℕ) → IsSomeAnd o (λ k. k < length l.functions) → unwrap_or o 0 < length l.functions
    start_there None h = absurd h
    start_there (Some k) h = h

    function_sound : (k : ℕ) (o : Option LinkedFunction) → slice_get l.functions k ≡ o → All (λ c. IsSoundStep (length l.functions) (length (code_of o)) c.step) (code_of o)
    function_sound k None e = none _
    function_sound k (Some g) e = all_at (IsSoundFunction (length l.functions)) l.functions k g sound.each e

    code_sound : (o : Option ℕ) → All (λ c. IsSoundStep (length l.functions) (length (code_in l o)) c.step) (code_in l o)
    code_sound None =
        let second : Code = record { step = command.Pop segment.Temp 0; statement = 1; commit = l.marked } in
        more_of IsOfStart (record { step = command.Call (unwrap_or l.start 0) 0; statement = 1; commit = l.marked }) (second ∷ []) (start_there l.start (sound.start whole))
        (more_of IsOfStart second [] (tt {0}) (none IsOfStart))
    code_sound (Some k) = function_sound k (slice_get l.functions k) refl

    -- the commands of `start` set no pointers
    abbrev KeepThem : List Code → Type 0
    KeepThem code = All (λ c. KeepsPointers c.step) code

    start_keeps : (f : Frame) (below : List Frame) → AreSoundFrames l (f ∷ below) → below ≡ [] → KeepThem (code_in l f.function)
    start_keeps f [] h e =
        let call : Code = record { step = command.Call (unwrap_or l.start 0) 0; statement = 1; commit = l.marked } in
        let drop_value : Code = record { step = command.Pop segment.Temp 0; statement = 1; commit = l.marked } in
        subst (λ o. KeepThem (code_in l o)) (sym h.1.function) (more_of (λ c. KeepsPointers c.step) call (drop_value ∷ []) tt (more_of (λ c. KeepsPointers c.step) drop_value [] tt (none (λ c. KeepsPointers c.step))))
    start_keeps f (g ∷ below) h e = absurd (cc e)

    module _ (key : ℕ) (is_word : key < 65536) (s : State) (m : AreMemory s.statics s.temps s.words) where
      ended_good : (o : Option ℕ) → Good (end_outcome o)
      ended_good None = tt
      ended_good (Some k) = tt

      perform_good : (f : Frame) (below : List Frame) (o : Option Code) → AreSoundFrames l (f ∷ below) → slice_get (code_in l f.function) f.place ≡ o → Good (perform key s f below o)
      perform_good f below None fs e = ended_good f.function
      perform_good f below (Some c) fs e =
          let within = slice_get_within (code_in l f.function) f.place c e in
          act_good key is_word s m f below fs (omega (arith, within)) c.step
          (all_at (λ c'. IsSoundStep (length l.functions) (length (code_in l f.function)) c'.step) (code_in l f.function) f.place c (code_sound f.function) e)
          (λ none_below. all_at (λ c'. KeepsPointers c'.step) (code_in l f.function) f.place c (start_keeps f below fs none_below) e)

      frames_good : (fs : List Frame) → AreSoundFrames l fs → Good (step_frames l key s fs)
      frames_good [] h = absurd h
      frames_good (f ∷ below) h = perform_good f below (slice_get (code_in l f.function) f.place) h refl

  fit_with : (full : Bool) (h heard : Bool) (s s' : State) → nat_lt 1792 (words_in_use s.frames) ≡ full → Good (Acts h s) → (if full then Full (words_in_use s.frames) else Acts h s) ≡ Acts heard s' → IsSoundState l s'
  fit_with true h heard s s' e g a = absurd (cc a)
  fit_with false h heard s s' e g a =
      let same : s ≡ s' = cc a in
      subst (IsSoundState l) same (record {
        room = ltb-false 1792 (words_in_use s.frames) e;
        frames = g.0;
        statics = g.1.statics;
        temps = g.1.temps;
        words = g.1.words;
        statics_length = g.1.statics_length;
        temps_length = g.1.temps_length;
        words_length = g.1.words_length;
      })

  fit_good : (o : Outcome) (heard : Bool) (s' : State) → Good o → fit_outcome o ≡ Acts heard s' → IsSoundState l s'
  fit_good (Acts h s) heard s' g e = fit_with (nat_lt 1792 (words_in_use s.frames)) h heard s s' refl g e
  fit_good (Strays why) heard s' g e = absurd (cc e)
  fit_good (Full w) heard s' g e = absurd (cc e)
  fit_good Done heard s' g e = absurd (cc e)

kept : (l : Linked) → IsSound l → l.bare ≡ false → (s s' : State) (key : ℕ) (heard : Bool) → key < 65536 → IsSoundState l s → step l key s ≡ Acts heard s' → IsSoundState l s'
unfolding step
kept l sound whole s s' key heard is_word h e =
    fit_good l (step_frames l key s s.frames) heard s'
    (frames_good l sound whole key is_word s
    (record { statics = h.statics; temps = h.temps; words = h.words; statics_length = h.statics_length; temps_length = h.temps_length; words_length = h.words_length }) s.frames h.frames) e

starts : (l : Linked) → IsSoundState l start
starts l = record {
  room = omega arith;
  frames = (record { place = omega arith; arguments = none IsWord; locals = none IsWord; values = none IsWord; this = omega arith; that = omega arith }, record { function = refl; arguments = refl; locals = refl; this = refl; that = refl });
  statics = All-replicate IsWord 240 0 (omega arith);
  temps = All-replicate IsWord 8 0 (omega arith);
  words = All-replicate IsWord 22528 0 (omega arith);
  statics_length = length-replicate {A = ℕ} 240 0;
  temps_length = length-replicate {A = ℕ} 8 0;
  words_length = length-replicate {A = ℕ} 22528 0;
}

pub sound_law : SoundLaw
sound_law = record { starts = starts; kept = kept }
