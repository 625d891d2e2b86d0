-- A new array: a call of Memory.alloc within a call.
use Rattle.std.proofs.Common.{◌≡◌, ℕ, suc, ◌+◌, ◌*◌, ◌<◌, ◌≤◌, List, [], ◌∷◌, length, codes, refl, sym, ap, ◌∙◌, subst, arith}
use Rattle.jack_core.specs.declared.program.Core.{Core}
use Rattle.jack_core.specs.Texts.{the_subroutines}
use Rattle.jack_meaning.specs.Text.{End, Subroutine}
use Rattle.jack_meaning.specs.Meaning.{Frame, State, subroutine_at, new_frame}
use Rattle.os_laws.specs.Calls.{given_back}
use Rattle.os_laws.specs.HeapCalls.{Allocated}
use Rattle.os_laws.specs.KernelCalls.{Allocating}
use Rattle.os_laws.specs.Kernel.{alloc_meaning}
use Rattle.os_laws.specs.Names.{IsShipped}
use Rattle.os_laws.proofs.Allocating as allocating
use Rattle.os_laws.proofs.Basics.{enters}
use Rattle.os_laws.proofs.Runs.{run}
use Rattle.os_functions.specs.Calls.{routine_number, HasStatics, Returns}
use Rattle.os_functions.proofs.Pieces.{in_call, returns_value}
use Rattle.os_functions.proofs.MemoryRoutines.{is_new_array, is_alloc}
use Rattle.os_functions.proofs.Named.{numbered, system_error, number_of, own_number}
use Rattle.os_functions.proofs.Statics.{same_free}
use Rattle.os_functions.proofs.Ways.{Way, way_then, way_of_run, way_of_call, returns, opened, returns_by}
use Rattle.os_functions.proofs.ArrayRuns.{asks, with_frames, has_heap, holds, keeps, at_one, asking_frame, waiting_frame}

module _ {core : Core} (p : IsShipped core) (h : HasStatics p) (s : State) (a : Allocating (the_subroutines core) s (routine_number p (codes "Array") (codes "new")) h.free) where
  abbrev subs : List Subroutine
  subs = the_subroutines core

  abbrev g : ℕ
  g = routine_number p (codes "Array") (codes "new")

  abbrev alloc_at : ℕ
  alloc_at = number_of core p (codes "Memory") (codes "alloc")

  abbrev below : List Frame
  below = a.call.caller ∷ a.call.below

  abbrev middle : State
  middle = record { frames = asking_frame p s alloc_at a.size ∷ below; statics = s.statics; words = s.words }

  begins : Way subs (suc (length below)) 5 (opened subs s g (a.size ∷ []) a.call) middle
  begins =
      way_of_run subs below 5 (record { frame = new_frame subs g (a.size ∷ []); statics = s.statics; words = s.words })
      (record { frame = asking_frame p s alloc_at a.size; statics = s.statics; words = s.words })
      (ap (λ (z : Frame). run subs 5 (record { frame = z; statics = s.statics; words = s.words })) (enters subs g _ (a.size ∷ []) (is_new_array core p))
      ∙ asks subs g s.statics s.words (system_error p) alloc_at a.size (at_one p s a.size a.low (let l : a.size < 32768 = omega (arith, a.high) in l)))

  -- the call of Memory.alloc
  abbrev inner : Allocating subs middle alloc_at h.free
  inner = record {
    size = a.size;
    low = a.low;
    high = a.high;
    parts = a.parts;
    live = a.live;
    heap = has_heap s (asking_frame p s alloc_at a.size ∷ below) h.free a.parts a.live a.heap;
    k = a.k;
    fit = a.fit;
    call = record { top = asking_frame p s alloc_at a.size; caller = waiting_frame p s a.size; below = below; frames = refl; calls = refl };
  }

  is_asked : subroutine_at subs alloc_at ≡ alloc_meaning (own_number core p 3) (system_error p) h.free
  is_asked = ap (subroutine_at subs) (sym (numbered core p (codes "Memory") (codes "alloc"))) ∙ is_alloc core p ∙ ap (λ (k : ℕ). alloc_meaning (own_number core p 3) (system_error p) k) (same_free h)

  pub made_new : (n : ℕ) × (n ≤ 67 + 18 * a.k) × (s' : State) × Returns subs s n s' × Allocated a.call h.free a.size a.live s'
  made_new =
      let (n, few, t, back, got) = allocating.law subs middle alloc_at (own_number core p 3) (system_error p) h.free is_asked inner in
      let end : Frame = (in_call g 0 t.statics t.words End (a.size ∷ []) []).frame in
      let same : t ≡ record { frames = (in_call g 0 t.statics t.words (returns_value 3 got.place End) (a.size ∷ []) []).frame ∷ below; statics = t.statics; words = t.words } =
      ap (λ (fs : List Frame). with_frames t fs) got.frames in
      let inside = way_of_call subs (suc (length below)) n middle t (omega arith) (returns subs n middle t back) in
      let way = way_then subs (suc (length below)) 5 n (opened subs s g (a.size ∷ []) a.call) middle t begins inside in
      let whole = subst (λ (z : State). Way subs (suc (length below)) (5 + n) (opened subs s g (a.size ∷ []) a.call) z) same way in
      let last : State = record (given_back s a.call.caller a.call.below got.place) { statics = t.statics; words = t.words } in (
        suc (suc (5 + n)),
        omega (arith, few),
        last,
        returns_by subs s g (a.size ∷ []) a.call (5 + n) end t.statics t.words 3 got.place End whole,
        record {
          place = got.place;
          frames = refl;
          low = got.low;
          high = got.high;
          heap = holds t last.frames h.free _ got.heap;
          keeps = keeps h.free a.live middle t s.frames last.frames got.keeps;
        },
      )
