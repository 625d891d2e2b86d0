-- A string given back: calls of Array's dispose and of Memory.deAlloc within a call.
use Rattle.std.proofs.Common.{◌≡◌, inl, inr, ⊎_elim, ℕ, zero, suc, ◌+◌, ◌≤◌, List, [], ◌∷◌, ◌++◌, length, Some, codes, refl, sym, ap, ◌∙◌, subst, arith}
use Rattle.jack_core.specs.declared.program.Core.{Core}
use Rattle.jack_core.specs.Texts.{the_subroutines}
use Rattle.jack_meaning.specs.Text.{Value, Field, Open, Text, End, Method, Subroutine}
use Rattle.jack_meaning.specs.Meaning.{Frame, State, subroutine_at, new_frame}
use Rattle.os_laws.specs.Calls.{given_back}
use Rattle.os_laws.specs.Heap.{Block, word_at, InBlocks, IsKept}
use Rattle.os_laws.specs.HeapCalls.{Holds, HasHeap, Freed, KeepsOthers}
use Rattle.os_laws.specs.Kernel.{deAlloc_meaning}
use Rattle.os_laws.specs.KernelCalls.{Deallocating}
use Rattle.os_laws.specs.Names.{IsShipped}
use Rattle.os_laws.proofs.Basics.{enters}
use Rattle.os_laws.proofs.HeapCalls.{free_law}
use Rattle.os_laws.proofs.Runs.{Call, over, run, run_then}
use Rattle.os_functions.specs.Calls.{routine_number, HasStatics, Returns}
use Rattle.os_functions.specs.StringLaws.{StringAt}
use Rattle.os_functions.proofs.ArrayRuns.{with_frames}
use Rattle.os_functions.proofs.DisposeArray.{made_old}
use Rattle.os_functions.proofs.MemoryRoutines.{is_deAlloc}
use Rattle.os_functions.proofs.Named.{leads, number_of, own_number}
use Rattle.os_functions.proofs.Pieces.{returns_value}
use Rattle.os_functions.proofs.Statics.{same_free}
use Rattle.os_functions.proofs.StringFacts.{at_place, at_most}
use Rattle.os_functions.proofs.Texts.{routine}
use Rattle.os_functions.proofs.Ways.{Way, way_then, way_of_run, way_of_call, returns, opened, returns_by}
use Rattle.os_strings.specs.MakingLaws.{object_block, IsWithout, AreWithout, Disposing, DisposeLaw}
use Rattle.os_strings.proofs.Allocations.{same_number}
use Rattle.os_strings.proofs.Blocks.{keeps_then}
use Rattle.os_strings.proofs.MakingRuns.{asks_one, gives_object, gives_characters, dispose_body, at_dispose, no_characters, has_characters, to_characters, to_own, disposes}

-- a word of these blocks is one of them and another
in_more : (front : List Block) (b : Block) (back : List Block) (a : ℕ) → InBlocks (front ++ back) a → InBlocks (front ++ b ∷ back) a
in_more [] b back a i = inr i
in_more (f ∷ front) b back a i = ⊎_elim (λ l. inl l) (λ r. inr (in_more front b back a r)) i

module _ {core : Core} (p : IsShipped core) where
  abbrev dispose_at : ℕ
  dispose_at = routine_number p (codes "String") (codes "dispose")

  abbrev old_array_at : ℕ
  old_array_at = routine_number p (codes "Array") (codes "dispose")

  abbrev deAlloc_at : ℕ
  deAlloc_at = routine_number p (codes "Memory") (codes "deAlloc")

  is_dispose : subroutine_at (the_subroutines core) dispose_at ≡ routine Method (own_number core p 6) 1 0 (dispose_body old_array_at deAlloc_at)
  is_dispose =
      leads core p 6 1 (refl, refl)
      ∙ ap (λ (k : ℕ). routine Method (own_number core p 6) 1 0 (dispose_body k (number_of core p (codes "Memory") (codes "deAlloc")))) (same_number p (codes "Array") (codes "dispose"))
      ∙ ap (λ (k : ℕ). routine Method (own_number core p 6) 1 0 (dispose_body old_array_at k)) (same_number p (codes "Memory") (codes "deAlloc"))

  is_deAlloc_at : (h : HasStatics p) → subroutine_at (the_subroutines core) deAlloc_at ≡ deAlloc_meaning (own_number core p 3) h.free
  is_deAlloc_at h = is_deAlloc core p ∙ ap (λ (k : ℕ). deAlloc_meaning (own_number core p 3) k) (same_free h)

module _ {core : Core} (p : IsShipped core) (h : HasStatics p) (s : State) (o : ℕ) (text : List ℕ) (room : ℕ) (d : Disposing h s o text room) where
  abbrev subs : List Subroutine
  subs = the_subroutines core

  abbrev t : StringAt s.words o text room
  t = d.call.string

  abbrev below : List Frame
  below = d.call.call.caller ∷ d.call.call.below

  abbrev least : ℕ
  least = suc (length below)

  abbrev first : State
  first = opened subs s (dispose_at p) (o ∷ []) d.call.call

  abbrev at : List ℕ → List ℕ → Text → Call
  at ss ws x = at_dispose subs (dispose_at p) ss o ws x

  abbrev body : Text
  body = dispose_body (old_array_at p) (deAlloc_at p)

  entered : (n : ℕ) (c : Call) → run subs n (at s.statics s.words body) ≡ Some c → Way subs least n first (over below c)
  entered n c ran =
      way_of_run subs below n (record { frame = new_frame subs (dispose_at p) (o ∷ []); statics = s.statics; words = s.words }) c
      (ap (λ (z : Frame). run subs n (record { frame = z; statics = s.statics; words = s.words })) (enters subs (dispose_at p) _ (o ∷ []) (is_dispose p)) ∙ ran)

  abbrev asks_own : Text
  asks_own = gives_object (asks_one (deAlloc_at p) (Value o))

  abbrev Result : Type 0
  Result = (n : ℕ) × (n ≤ 50) × (s' : State) × Returns subs s n s' × Freed d.call.call h.free d.left s'

  -- from the call of deAlloc with the string's own words to the end
  from_own : (n : ℕ) → n ≤ 28 → (ss ws : List ℕ) → Way subs least n first (over below (at ss ws asks_own)) → (all : List Block) → Holds (record s { statics = ss; words = ws }) h.free all → IsWithout all (object_block o) d.left
      → KeepsOthers h.free d.left s (record s { statics = ss; words = ws }) → Result
  from_own n few ss ws way all held without kept =
      let (front, back, is, left) = without in
      let asks = at ss ws asks_own in
      let inner : Deallocating subs (over below asks) (deAlloc_at p) h.free = record {
        parts = held.0;
        front = front;
        block = object_block o;
        back = back;
        heap = subst (HasHeap (over below asks) h.free held.0) is (record { room = record { static = held.1.room.static; words = held.1.room.words }; heap = held.1.heap });
        call = record { top = asks.frame; caller = (at ss ws (gives_object Open)).frame; below = below; frames = refl; calls = refl };
      } in
      let (u, back_again, got) = free_law subs (over below asks) (deAlloc_at p) (own_number core p 3) h.free (is_deAlloc_at p h) inner in
      let behind = at u.statics u.words (gives_object (Value 0)) in
      let end = at u.statics u.words (returns_value 4 0 End) in
      let same : u ≡ over below behind = ap (λ (fs : List Frame). with_frames u fs) got.frames in
      let inside = subst (λ (z : State). Way subs least 13 (over below asks) z) same (way_of_call subs least 13 (over below asks) u (omega arith) (returns subs 13 (over below asks) u back_again)) in
      let whole = way_then subs least n (13 + 2) first (over below asks) (over below end) way
      (way_then subs least 13 2 (over below asks) (over below behind) (over below end) inside (way_of_run subs below 2 behind end (disposes subs (dispose_at p) u.statics o u.words))) in
      let last : State = record (given_back s d.call.call.caller d.call.call.below 0) { statics = u.statics; words = u.words } in
      let held_left : Holds last h.free (front ++ back) = (got.heap.0, record { room = record { static = got.heap.1.room.static; words = got.heap.1.room.words }; heap = got.heap.1.heap }) in
      let kept_left : KeepsOthers h.free (front ++ back) (record s { statics = ss; words = ws }) last = record { statics = got.keeps.statics; same_length = got.keeps.same_length; words = got.keeps.words } in (
        suc (suc (n + (13 + 2))),
        omega (arith, few),
        last,
        returns_by subs s (dispose_at p) (o ∷ []) d.call.call (n + (13 + 2)) (at u.statics u.words End).frame u.statics u.words 4 0 End whole,
        record {
          frames = refl;
          heap = subst (Holds last h.free) (sym left) held_left;
          keeps = keeps_then h.free d.left s (record s { statics = ss; words = ws }) last kept (subst (λ (bs : List Block). KeepsOthers h.free bs (record s { statics = ss; words = ws }) last) (sym left) kept_left);
        },
      )

  held_now : Holds s h.free d.live
  held_now = (d.parts, d.heap)

  -- fewer blocks are kept
  fewer : (all : List Block) (b : Block) (left : List Block) (u v : State) → IsWithout all b left → KeepsOthers h.free all u v → KeepsOthers h.free left u v
  fewer all b left u v without k = let (front, back, is, out) = without in record {
    statics = k.statics;
    same_length = k.same_length;
    words = λ a i. k.words a (subst (λ (bs : List Block). IsKept bs a) (sym is) (⊎_elim (λ l. inl (in_more front b back a (subst (λ (bs : List Block). InBlocks bs a) out l))) (λ r. inr r) i));
  }

  by_room : (z : ℕ) → room ≡ z → Result
  by_room zero e =
      let own : IsWithout d.live (object_block o) d.left = subst (λ z. AreWithout d.live o t.place z d.left) e d.own in
      let none : word_at s.words (o + 2) ≡ 0 = t.most ∙ e in
      from_own 3 (omega arith) s.statics s.words (entered 3 (at s.statics s.words asks_own) (no_characters subs (dispose_at p) s.statics o (old_array_at p) (deAlloc_at p) (o + 2) s.words (at_most s.words o text room t) none)) d.live held_now own
      (record { statics = λ k q. refl; same_length = refl; words = λ a k. refl })
  by_room (suc r) e =
      let own : AreWithout d.live o t.place (suc r) d.left = subst (λ z. AreWithout d.live o t.place z d.left) e d.own in
      let middle = own.0 in
      let rest = own.2 in
      let (front, back, is, left) = own.1 in
      let some : word_at s.words (o + 2) ≡ suc r = t.most ∙ e in
      let x1 = at s.statics s.words (gives_characters (asks_one (old_array_at p) (Field 0)) (deAlloc_at p)) in
      let x2 = at s.statics s.words (gives_characters (asks_one (old_array_at p) (Value (word_at s.words o))) (deAlloc_at p)) in
      let asks = at s.statics s.words (gives_characters (asks_one (old_array_at p) (Value t.place)) (deAlloc_at p)) in
      let found : run subs 1 x1 ≡ Some asks =
      to_characters subs (dispose_at p) s.statics o (old_array_at p) (deAlloc_at p) s.words (at_place s.words o text room t)
      ∙ ap (λ (z : ℕ). Some (at s.statics s.words (gives_characters (asks_one (old_array_at p) (Value z)) (deAlloc_at p)))) t.characters in
      let begun = entered (2 + 1) asks
      (run_then subs 2 1 (at s.statics s.words body) x1 asks (has_characters subs (dispose_at p) s.statics o (old_array_at p) (deAlloc_at p) (o + 2) r s.words (at_most s.words o text room t) some) found) in
      let inner : Deallocating subs (over below asks) (old_array_at p) h.free = record {
        parts = d.parts;
        front = front;
        block = record { place = t.place; words = suc r };
        back = back;
        heap = subst (HasHeap (over below asks) h.free d.parts) is (record { room = record { static = d.heap.room.static; words = d.heap.room.words }; heap = d.heap.heap });
        call = record { top = asks.frame; caller = (at s.statics s.words (gives_characters Open (deAlloc_at p))).frame; below = below; frames = refl; calls = refl };
      } in
      let (u, back_again, got) = made_old p h (over below asks) inner in
      let behind = at u.statics u.words (gives_characters (Value 0) (deAlloc_at p)) in
      let next = at u.statics u.words asks_own in
      let same : u ≡ over below behind = ap (λ (fs : List Frame). with_frames u fs) got.frames in
      let inside = subst (λ (z : State). Way subs least 18 (over below asks) z) same (way_of_call subs least 18 (over below asks) u (omega arith) back_again) in
      let whole = way_then subs least (2 + 1) (18 + 2) first (over below asks) (over below next) begun
      (way_then subs least 18 2 (over below asks) (over below behind) (over below next) inside (way_of_run subs below 2 behind next (to_own subs (dispose_at p) u.statics o (deAlloc_at p) u.words))) in
      let v : State = record s { statics = u.statics; words = u.words } in
      let held : Holds v h.free (front ++ back) = (got.heap.0, record { room = record { static = got.heap.1.room.static; words = got.heap.1.room.words }; heap = got.heap.1.heap }) in
      let kept : KeepsOthers h.free (front ++ back) s v = record { statics = got.keeps.statics; same_length = got.keeps.same_length; words = got.keeps.words } in
      from_own ((2 + 1) + (18 + 2)) (omega arith) u.statics u.words whole middle (subst (Holds v h.free) (sym left) held) rest
      (fewer middle (object_block o) d.left s v rest (subst (λ (bs : List Block). KeepsOthers h.free bs s v) (sym left) kept))

pub dispose_law : {core : Core} (p : IsShipped core) (h : HasStatics p) (s : State) (o : ℕ) (text : List ℕ) (room : ℕ) → DisposeLaw p h s o text room
dispose_law p h s o text room d = by_room p h s o text room d room refl
