-- Texts in quotes: a call of String.new, and of appendChar for each character, within an expression.
use Rattle.std.proofs.Common.{◌≡◌, ◌⊎◌, inl, inr, ⊎_elim, ℕ, zero, suc, ◌+◌, ◌*◌, ◌<◌, ◌≤◌, false, List, [], ◌∷◌, ◌++◌, map, length, Some, codes, option_and_then, refl, sym, ap, ◌∙◌, subst, arith, append_assoc, length-append}
use Rattle.std.proofs.lemmas.List.{append-nil}
use Rattle.jack_core.specs.declared.program.Core.{Core}
use Rattle.jack_core.specs.Texts.{the_subroutines}
use Rattle.jack_meaning.specs.Text.{Expression, Literal, Value, Open, Call, Variable, Let, Do, Return, Text, Next, Subroutine}
use Rattle.jack_meaning.specs.Meaning.{Frame, State, Acts, step, step_frames, with_top, new_frame}
use Rattle.jack_names.specs.Made.{one, two, filled_characters, length_word}
use Rattle.os_laws.specs.Calls.{after, given_back}
use Rattle.os_laws.specs.Heap.{Block, part_at, part_of, IsInHeap, HeapOf, IsKept, passed_block}
use Rattle.os_laws.specs.HeapCalls.{HasHeap, Holds, KeepsOthers}
use Rattle.os_laws.specs.Names.{IsShipped}
use Rattle.os_laws.proofs.Parts.{all_out, overlap_out}
use Rattle.os_laws.proofs.Runs.{next_at}
use Rattle.os_laws.proofs.Storing.{other_word}
use Rattle.os_functions.specs.Calls.{routine_number, HasStatics, CallsNext, Returns}
use Rattle.os_functions.specs.StringLaws.{StringAt, CallsString, with_heap_word}
use Rattle.os_functions.proofs.ArrayRuns.{with_frames}
use Rattle.os_functions.proofs.StringMade.{append_law}
use Rattle.os_functions.proofs.Ways.{Way, way_then, way_of_call}
use Rattle.os_strings.specs.MakingLaws.{object_block, blocks_of, IsMade}
use Rattle.os_strings.specs.QuoteLaws.{IsPlace, with_text, making, Quoting, sized_state, IsQuoted, QuoteLaws}
use Rattle.os_strings.proofs.Appended.{place_kept}
use Rattle.os_strings.proofs.Blocks.{kept_apart, stored_holds, keeps_then}

-- ---- places

do_place : (n g : ℕ) (rest : Text) → IsPlace (λ e. Next (Do n (Call g (one e))) rest)
do_place n g rest = record { rewrites = λ subs key s f below e e' heard h. rw h refl; calls = λ subs key s f below e e' g' xs h. rw h refl; fills = λ w e. refl }

let_place : (n : ℕ) (x : Variable) (rest : Text) → IsPlace (λ e. Next (Let n x e) rest)
let_place n x rest = record { rewrites = λ subs key s f below e e' heard h. rw h refl; calls = λ subs key s f below e e' g' xs h. rw h refl; fills = λ w e. refl }

return_place : (n : ℕ) (rest : Text) → IsPlace (λ e. Next (Return n e) rest)
return_place n rest = record { rewrites = λ subs key s f below e e' heard h. rw h refl; calls = λ subs key s f below e e' g' xs h. rw h refl; fills = λ w e. refl }

-- the argument of a call, or the first of two
one_place : (g : ℕ) (place : Expression → Text) → IsPlace place → IsPlace (λ e. place (Call g (one e)))
one_place g place i = record {
  rewrites = λ subs key s f below e e' heard h. i.rewrites subs key s f below (Call g (one e)) (Call g (one e')) heard (rw h refl);
  calls = λ subs key s f below e e' g' xs h. i.calls subs key s f below (Call g (one e)) (Call g (one e')) g' xs (rw h refl);
  fills = λ w e. i.fills w (Call g (one e));
}

first_place : (g c : ℕ) (place : Expression → Text) → IsPlace place → IsPlace (λ e. place (Call g (two e (Literal c))))
first_place g c place i = record {
  rewrites = λ subs key s f below e e' heard h. i.rewrites subs key s f below (Call g (two e (Literal c))) (Call g (two e' (Literal c))) heard (rw h refl);
  calls = λ subs key s f below e e' g' xs h. i.calls subs key s f below (Call g (two e (Literal c))) (Call g (two e' (Literal c))) g' xs (rw h refl);
  fills = λ w e. i.fills w (Call g (two e (Literal c)));
}

filling_place : (g : ℕ) (text : List ℕ) (place : Expression → Text) → IsPlace place → IsPlace (λ e. place (filled_characters g e text))
filling_place g [] place i = i
filling_place g (c ∷ cs) place i = first_place g c (λ e. place (filled_characters g e cs)) (filling_place g cs place i)

-- ---- the blocks of a string

own_character : (room o c n : ℕ) (live : List Block) → n < room → IsKept (blocks_of o c room ++ live) (c + n)
own_character zero o c n live h = absurd (omega (arith, h))
own_character (suc r) o c n live h = inl (inl (let l : c ≤ c + n = omega arith in l, let i : c + n < c + suc r = omega (arith, h) in i))

own_count : (room o c : ℕ) (live : List Block) → IsKept (blocks_of o c room ++ live) (o + 1)
own_count zero o c live = inl (inl (let l : o ≤ o + 1 = omega arith in l, let i : o + 1 < o + 3 = omega arith in i))
own_count (suc r) o c live = inl (inr (inl (let l : o ≤ o + 1 = omega arith in l, let i : o + 1 < o + 3 = omega arith in i)))

-- what a heap is without one of its blocks
heap_without : (ws : List ℕ) (first : ℕ) (parts : List ℕ) (b : Block) (live : List Block) → HeapOf ws first parts (b ∷ live) → HeapOf ws first parts live
heap_without ws first parts b live h = record {
  links = h.links;
  long = h.long;
  blocks = h.blocks.1;
  inside = (all_out IsInHeap (map (part_at ws) parts) (map (part_of ws) live) (part_of ws b) h.inside).1;
  apart = (overlap_out (map (part_at ws) parts) (map (part_of ws) live) (part_of ws b) h.apart).1;
}

-- the words of other blocks are none of a string with room for characters
others_apart : (ws : List ℕ) (first : ℕ) (parts : List ℕ) (room o c : ℕ) (live : List Block) → HeapOf ws first parts (blocks_of o c room ++ live) → 0 < room → (a : ℕ) → IsKept live a
    → (2048 ≤ a) × ((a < c) ⊎ (c + room ≤ a)) × ((a < o) ⊎ (o + 3 ≤ a))
others_apart ws first parts zero o c live h some a k = absurd (omega (arith, some))
others_apart ws first parts (suc r) o c live h some a k =
    let chars = kept_apart ws first parts (record { place = c; words = suc r }) (object_block o ∷ live) h a (⊎_elim (λ l. inl (inr l)) (λ q. inr q) k) in
    let own = kept_apart ws first parts (object_block o) live (heap_without ws first parts (record { place = c; words = suc r }) (object_block o ∷ live) h) a k in
    (chars.0, chars.1, own.1)

-- ---- the characters, one after the other

module _ {core : Core} (p : IsShipped core) (h : HasStatics p) (s : State) (f : Frame) (below : List Frame) (live : List Block) (o c room : ℕ) (ss : List ℕ) where
  abbrev subs : List Subroutine
  subs = the_subroutines core

  abbrev append_at : ℕ
  append_at = routine_number p (codes "String") (codes "appendChar")

  abbrev least : ℕ
  least = suc (length below)

  abbrev at : Text → List ℕ → State
  at t ws = with_text s f below t ss ws

  -- what stands when this text has been appended
  record Filling (text ws : List ℕ) : Type 0 where
    string : StringAt ws o text room
    same_place : string.place ≡ c
    heap : Holds (record s { statics = ss; words = ws }) h.free (blocks_of o c room ++ live)
    keeps : KeepsOthers h.free live s (record s { statics = ss; words = ws })

  record Filled (place : Expression → Text) (done rest ws : List ℕ) : Type 0 where
    n : ℕ
    few : n ≤ 17 * length rest
    ws' : List ℕ
    way : Way subs least n (at (place (filled_characters append_at (Value o) rest)) ws) (at (place (Value o)) ws')
    stands : Filling (done ++ rest) ws'

  fills_all : (rest done ws : List ℕ) (place : Expression → Text) → IsPlace place → length done + length rest ≤ room → Filling done ws → Filled place done rest ws
  fills_all [] done ws place i fits now = record {
    n = 0;
    few = omega arith;
    ws' = ws;
    way = record { leads = λ keys. refl; each = λ keys j l. absurd (omega (arith, l)) };
    stands = subst (λ z. Filling z ws) (sym (append-nil done)) now;
  }
  fills_all (k ∷ rest) done ws place i fits now =
      let outer = filling_place append_at rest place i in
      let here : Expression → Text = λ e. place (filled_characters append_at e rest) in
      let t = now.string in
      let n = length done in
      let room_left : n < room = omega (arith, fits) in
      let s0 = at (here (Call append_at (two (Value o) (Literal k)))) ws in
      let s1 = at (here (Call append_at (two (Value o) (Value k)))) ws in
      let waits : Frame = record f { text = here Open } in
      let valued : step subs 0 s0 ≡ Acts false s1 = outer.rewrites subs 0 s0 (record f { text = here (Call append_at (two (Value o) (Literal k))) }) below (Call append_at (two (Value o) (Literal k))) (Call append_at (two (Value o) (Value k))) false refl in
      let called : step subs 0 s1 ≡ Acts false (with_top s1 (waits ∷ below) (new_frame subs append_at (o ∷ k ∷ []))) =
      outer.calls subs 0 s1 (record f { text = here (Call append_at (two (Value o) (Value k))) }) below (Call append_at (two (Value o) (Value k))) Open append_at (o ∷ k ∷ []) refl in
      let call : CallsString p s1 (codes "appendChar") o (k ∷ []) done room = record {
        words = now.heap.1.room.words;
        string = t;
        call = record { top = record f { text = here (Call append_at (two (Value o) (Value k))) }; caller = waits; below = below; frames = refl; calls = called };
      } in
      let appended = append_law p s1 o done room k room_left call in
      let (m, few, back) = appended.0 in
      let wa = with_heap_word ws (t.place + n) k in
      let wb = with_heap_word wa (o + 1) (n + 1) in
      let s2 = at (here (Value o)) wb in
      let same : given_back s1 waits below o ≡ at (here (Value o)) ws = ap (λ (x : Text). at x ws) (outer.fills o Open) in
      let ended : Way subs least m s1 s2 = subst (λ (z : State). Way subs least m s1 (record z { words = wb })) same (way_of_call subs least m s1 (record (given_back s1 waits below o) { words = wb }) (omega arith) back) in
      let one_step : Way subs least 1 s0 s1 = record {
        leads = λ keys. ap (option_and_then (after subs (λ j. keys (suc j)) zero)) (next_at subs s0 s1 (keys 0) valued);
        each = λ keys j l. let e : 0 ≡ j = omega (arith, l) in (s0, ap (λ j. after subs keys j s0) (sym e), omega arith);
      } in
      let e = now.same_place in
      let s_now : State = record s { statics = ss; words = ws } in
      let s_a : State = record s { statics = ss; words = wa } in
      let kept_character : IsKept (blocks_of o c room ++ live) (t.place + n) = subst (λ z. IsKept (blocks_of o c room ++ live) (z + n)) (sym e) (own_character room o c n live room_left) in
      let heap_a = stored_holds s_now h.free (blocks_of o c room ++ live) (t.place + n) k kept_character now.heap in
      let heap_b = stored_holds s_a h.free (blocks_of o c room ++ live) (o + 1) (n + 1) (own_count room o c live) heap_a in
      let object = t.object in
      let keeps_b : KeepsOthers h.free live s_now (record s { statics = ss; words = wb }) = record {
        statics = λ j q. refl;
        same_length = refl;
        words = λ a q.
            let apart = others_apart ws _ now.heap.0 room o c live now.heap.1.heap (omega (arith, room_left)) a q in
            let by_chars = apart.1 in
            let by_object = apart.2 in
            let place_at : t.place ≡ c = e in
            let low = (t.inside (omega (arith, room_left))).0 in
            other_word wa (o + 1) a (n + 1) (omega (arith, object)) apart.0 (λ z. ⊎_elim (λ l. omega (arith, l, z)) (λ r. omega (arith, r, z)) by_object)
            ∙ other_word ws (t.place + n) a k (omega (arith, low)) apart.0 (λ z. ⊎_elim (λ l. omega (arith, l, z, place_at)) (λ r. omega (arith, r, z, place_at, room_left)) by_chars);
      } in
      let next : Filling (done ++ k ∷ []) wb = record { string = appended.1; same_place = place_kept ws o done room t k room_left (done ++ k ∷ []) appended.1 ∙ e; heap = heap_b; keeps = keeps_then h.free live s s_now (record s { statics = ss; words = wb }) now.keeps keeps_b } in
      let size : length (done ++ k ∷ []) ≡ n + 1 = length-append done (k ∷ []) in
      let more = fills_all rest (done ++ k ∷ []) wb place i (omega (arith, size, fits)) next in
      let few' = more.few in
      record {
        n = 1 + (m + more.n);
        few = omega (arith, few, few');
        ws' = more.ws';
        way = way_then subs least 1 (m + more.n) s0 s1 (at (place (Value o)) more.ws') one_step (way_then subs least m more.n s1 s2 (at (place (Value o)) more.ws') ended more.way);
        stands = subst (λ z. Filling z more.ws') (append_assoc done (k ∷ []) rest) more.stands;
      }

-- ---- the whole

module _ {core : Core} (p : IsShipped core) (s : State) (place : Expression → Text) (text : List ℕ) (q : Quoting p s place text) where
  abbrev all : List Subroutine
  all = the_subroutines core

  abbrev new_at : ℕ
  new_at = routine_number p (codes "String") (codes "new")

  abbrev outer : Expression → Text
  outer e = place (filled_characters (routine_number p (codes "String") (codes "appendChar")) e text)

  is_outer : IsPlace outer
  is_outer = filling_place (routine_number p (codes "String") (codes "appendChar")) text place q.is_place

  abbrev start_frame : Frame
  start_frame = record (q.top) { text = outer (Call new_at (one (Literal (length_word text)))) }

  -- the length becomes a value
  sizes : step all 0 s ≡ Acts false (sized_state q)
  sizes =
      let is : length_word text ≡ length text = (let h = q.short in omega (arith, h)) in
      ap (step_frames all 0 s) q.frames
      ∙ is_outer.rewrites all 0 s start_frame q.below (Call new_at (one (Literal (length_word text)))) (Call new_at (one (Value (length_word text)))) false refl
      ∙ ap (λ (z : ℕ). Acts false (with_text s q.top q.below (outer (Call new_at (one (Value z)))) s.statics s.words)) is

  to_sized : Way all (suc (length q.below)) 1 s (sized_state q)
  to_sized = record {
    leads = λ keys. ap (option_and_then (after all (λ j. keys (suc j)) zero)) (next_at all s (sized_state q) (keys 0) sizes);
    each = λ keys j l. let e : 0 ≡ j = omega (arith, l) in (s, ap (λ j. after all keys j s) (sym e), (let d : length s.frames ≡ suc (length q.below) = ap length q.frames in omega (arith, d)));
  }

  abbrev waits : Frame
  waits = record (q.top) { text = outer Open }

  new_call : CallsNext p (codes "String") (codes "new") (sized_state q) (length text ∷ [])
  new_call = record {
    top = record (q.top) { text = outer (Call new_at (one (Value (length text)))) };
    caller = waits;
    below = q.below;
    frames = refl;
    calls = is_outer.calls all 0 (sized_state q) (record (q.top) { text = outer (Call new_at (one (Value (length text)))) }) q.below (Call new_at (one (Value (length text)))) Open new_at (length text ∷ []) refl;
  }

  module _ (h : HasStatics p) (parts : List ℕ) (live : List Block) (heap : HasHeap (sized_state q) h.free parts live) (k : ℕ) (fit : passed_block s.words 4 parts ≡ Some k) (n : ℕ) (s' : State) (back : Returns all (sized_state q) n s')
      (d : IsMade (making h parts live heap k fit new_call) s') where
    abbrev room : ℕ
    room = length text

    abbrev under : ℕ
    under = suc (length q.below)

    abbrev made : State
    made = with_text s q.top q.below (outer (Value d.place)) s'.statics s'.words

    to_made : Way all under n (sized_state q) made
    unfolding new_call
    to_made =
        let same : s' ≡ made = ap (λ (fs : List Frame). with_frames s' fs) (d.frames ∙ ap (λ (x : Text). record (q.top) { text = x } ∷ q.below) (is_outer.fills d.place Open)) in
        subst (λ (z : State). Way all under n (sized_state q) z) same (way_of_call all under n (sized_state q) s' (omega arith) back)

    empty : Filling p h s q.top q.below live d.place d.string.place room s'.statics [] s'.words
    empty = record {
      string = d.string;
      same_place = refl;
      heap = (d.heap.0, record { room = record { static = d.heap.1.room.static; words = d.heap.1.room.words }; heap = d.heap.1.heap });
      keeps = record { statics = d.keeps.statics; same_length = d.keeps.same_length; words = d.keeps.words };
    }

    filled_now : Filled p h s q.top q.below live d.place d.string.place room s'.statics place [] text s'.words
    filled_now = fills_all p h s q.top q.below live d.place d.string.place room s'.statics text [] s'.words place q.is_place (omega arith) empty

    quoted_by : IsQuoted q h live d.place (1 + n + 17 * length text) s'.statics
    quoted_by =
        let r = filled_now in
        let few = r.few in
        let end = with_text s q.top q.below (place (Value d.place)) s'.statics r.ws' in
        let whole = way_then all under 1 (n + r.n) s (sized_state q) end to_sized (way_then all under n r.n (sized_state q) made end to_made r.way) in
        let deep : length s.frames ≡ suc (length q.below) = ap length q.frames in
        let held : Holds (record s { statics = s'.statics; words = r.ws' }) h.free (blocks_of d.place d.string.place room ++ live) = r.stands.heap in
        record {
          n = 1 + (n + r.n);
          few = omega (arith, few);
          words = r.ws';
          leads = whole.leads;
          each = λ keys j l. let u = whole.each keys j l in (u.0, u.1, (let b = u.2 in omega (arith, b, deep)));
          string = r.stands.string;
          heap = subst (λ z. Holds (record s { statics = s'.statics; words = r.ws' }) h.free (blocks_of d.place z room ++ live)) (sym r.stands.same_place) held;
          keeps = r.stands.keeps;
        }

pub law : QuoteLaws
law = record {
  argument = λ n g rest. do_place n g rest;
  assigned = λ n x rest. let_place n x rest;
  returned = λ n rest. return_place n rest;
  quoted = λ p s place text q. (new_call p s place text q, λ h parts live heap k fit n s' back d. quoted_by p s place text q h parts live heap k fit n s' back d);
}
