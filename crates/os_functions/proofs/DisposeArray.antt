-- An array is given back: a call of Memory.deAlloc within a call.
use Rattle.std.proofs.Common.{◌≡◌, ℕ, suc, List, [], ◌∷◌, ◌++◌, length, codes, refl, sym, ap, ◌∙◌, subst, arith}
use Rattle.jack_core.specs.declared.program.Core.{Core}
use Rattle.jack_core.specs.Texts.{the_subroutines}
use Rattle.jack_meaning.specs.Text.{Value, Open, Do, Text, End, Next, Subroutine}
use Rattle.jack_meaning.specs.Meaning.{Frame, State, subroutine_at, new_frame}
use Rattle.os_laws.specs.Calls.{given_back}
use Rattle.os_laws.specs.HeapCalls.{Freed}
use Rattle.os_laws.specs.KernelCalls.{Deallocating}
use Rattle.os_laws.specs.Kernel.{deAlloc_meaning}
use Rattle.os_laws.specs.Names.{IsShipped}
use Rattle.os_laws.proofs.Basics.{enters}
use Rattle.os_laws.proofs.HeapCalls.{free_law}
use Rattle.os_laws.proofs.Runs.{Call, over, run}
use Rattle.os_functions.specs.Calls.{routine_number, HasStatics, Returns}
use Rattle.os_functions.proofs.Pieces.{in_call, tail, returns_value}
use Rattle.os_functions.proofs.MemoryRoutines.{is_dispose_array, is_deAlloc}
use Rattle.os_functions.proofs.Named.{numbered, number_of, own_number}
use Rattle.os_functions.proofs.Statics.{same_free}
use Rattle.os_functions.proofs.Texts.{dispose_array_body}
use Rattle.os_functions.proofs.Ways.{Way, way_then, way_of_run, way_of_call, returns, opened, returns_by}
use Rattle.os_functions.proofs.ArrayRuns.{giving_back, gives_back, disposed, with_frames, has_heap, holds, keeps}

module _ {core : Core} (p : IsShipped core) (h : HasStatics p) (s : State) (d : Deallocating (the_subroutines core) s (routine_number p (codes "Array") (codes "dispose")) h.free) where
  abbrev subs : List Subroutine
  subs = the_subroutines core

  abbrev o : ℕ
  o = d.block.place

  abbrev deAlloc_at : ℕ
  deAlloc_at = number_of core p (codes "Memory") (codes "deAlloc")

  abbrev g : ℕ
  g = routine_number p (codes "Array") (codes "dispose")

  abbrev below : List Frame
  below = d.call.caller ∷ d.call.below

  abbrev at : Text → List ℕ → List ℕ → Call
  at t ss ws = in_call g o ss ws t (o ∷ []) []

  abbrev middle : State
  middle = over below (at (giving_back subs 0 [] [] deAlloc_at o) s.statics s.words)

  begins : Way subs (suc (length below)) 1 (opened subs s g (o ∷ []) d.call) middle
  begins =
      way_of_run subs below 1 (record { frame = new_frame subs g (o ∷ []); statics = s.statics; words = s.words }) (at (giving_back subs 0 [] [] deAlloc_at o) s.statics s.words)
      (ap (λ (z : Frame). run subs 1 (record { frame = z; statics = s.statics; words = s.words })) (enters subs g _ (o ∷ []) (is_dispose_array core p)) ∙ gives_back subs g s.statics s.words deAlloc_at o)

  abbrev inner : Deallocating subs middle deAlloc_at h.free
  inner = record {
    parts = d.parts;
    front = d.front;
    block = d.block;
    back = d.back;
    heap = has_heap s middle.frames h.free d.parts (d.front ++ d.block ∷ d.back) d.heap;
    call = record {
      top = (at (giving_back subs 0 [] [] deAlloc_at o) s.statics s.words).frame;
      caller = (at (Next (Do 1 Open) (tail (dispose_array_body deAlloc_at))) s.statics s.words).frame;
      below = below;
      frames = refl;
      calls = refl;
    };
  }

  is_asked : subroutine_at subs deAlloc_at ≡ deAlloc_meaning (own_number core p 3) h.free
  is_asked = ap (subroutine_at subs) (sym (numbered core p (codes "Memory") (codes "deAlloc"))) ∙ is_deAlloc core p ∙ ap (λ (k : ℕ). deAlloc_meaning (own_number core p 3) k) (same_free h)

  pub made_old : (s' : State) × Returns subs s 18 s' × Freed d.call h.free (d.front ++ d.back) s'
  made_old =
      let (t, back, got) = free_law subs middle deAlloc_at (own_number core p 3) h.free is_asked inner in
      let behind : Call = at (Next (Do 1 (Value 0)) (tail (dispose_array_body deAlloc_at))) t.statics t.words in
      let same : t ≡ over below behind = ap (λ (fs : List Frame). with_frames t fs) got.frames in
      let inside = subst (λ (z : State). Way subs (suc (length below)) 13 middle z) same (way_of_call subs (suc (length below)) 13 middle t (omega arith) (returns subs 13 middle t back)) in
      let ends = way_of_run subs below 2 behind (at (returns_value 2 0 End) t.statics t.words) (disposed subs g t.statics t.words deAlloc_at o) in
      let last : State = record (given_back s d.call.caller d.call.below 0) { statics = t.statics; words = t.words } in
      let whole =
      way_then subs (suc (length below)) 14 2 (opened subs s g (o ∷ []) d.call) (over below behind) (over below (at (returns_value 2 0 End) t.statics t.words))
      (way_then subs (suc (length below)) 1 13 (opened subs s g (o ∷ []) d.call) middle (over below behind) begins inside) ends in (
        last,
        returns_by subs s g (o ∷ []) d.call 16 (at End t.statics t.words).frame t.statics t.words 2 0 End whole,
        record {
          frames = refl;
          heap = holds t last.frames h.free (d.front ++ d.back) got.heap;
          keeps = keeps h.free (d.front ++ d.back) middle t s.frames last.frames got.keeps;
        },
      )
