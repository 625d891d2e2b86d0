-- The heap over a whole run.
use Rattle.std.proofs.Common.{◌≡◌, ⊎_elim, ℕ, ◌-◌, List, [], ◌∷◌, ◌++◌, length, refl, sym, ap, ◌∙◌, subst, arith, length-set}
use Rattle.std.specs.Prelude.{slice_index, slice_set}
use Rattle.std.proofs.lemmas.Bool.{cases_lt}
use Rattle.jack_meaning.specs.Text.{Subroutine}
use Rattle.jack_meaning.specs.Meaning.{State, subroutine_at}
use Rattle.os_laws.specs.Calls.{ComesBack, after}
use Rattle.os_laws.specs.Heap.{Block, HeapOf}
use Rattle.os_laws.specs.HeapCalls.{HasHeap, Holds}
use Rattle.os_laws.specs.HeapRun.{HeapNumbers, StoresWell, Back, Uses, laid, taken, freed, stepped}
use Rattle.os_laws.specs.Kernel.{init_meaning, alloc_meaning, deAlloc_meaning}
use Rattle.os_laws.proofs.Basics.{some_is}
use Rattle.os_laws.proofs.Filled.{filled_once}
use Rattle.os_laws.proofs.Allocating as allocating
use Rattle.os_laws.proofs.HeapCalls.{free_law, init_law}
use Rattle.os_laws.proofs.KeepingStores as stores

-- A call comes back once.
back_once : (subs : List Subroutine) (s : State) (n : ℕ) (t s' : State) → ComesBack subs s n t → Back subs s s' → t ≡ s'
back_once subs s n t s' c b =
    let st = b.stops in
    ⊎_elim
    (λ less. let r = st.before n c.some less in absurd (r.2 (ap (λ (z : State). length z.frames) (some_is r.0 t (sym r.1 ∙ c.leads b.keys)) ∙ c.frames)))
    (λ more. ⊎_elim
    (λ less. let r = c.inside b.keys b.n st.some less in
    let same : length r.0.frames ≡ length s.frames = ap (λ (z : State). length z.frames) (some_is r.0 s' (sym r.1 ∙ st.leads)) ∙ st.there in
    let deeper = r.2 in
    absurd (omega (arith, same, deeper)))
    (λ most. let e : n ≡ b.n = omega (arith, more, most) in some_is t s' (sym (c.leads b.keys) ∙ ap (λ k. after subs b.keys k s) e ∙ st.leads))
    (cases_lt b.n n))
    (cases_lt n b.n)

-- a step that stores well keeps the heap
stepped_well : (free : ℕ) (live : List Block) (s s' : State) → StoresWell free live s s' → Holds s free live → Holds s' free live
stepped_well free live s s' w h =
    let parts = h.0 in
    let room = h.1.room in
    let first = slice_index s.statics free in
    let kept : (ws : List ℕ) → s'.words ≡ ws → length ws ≡ length s.words → HeapOf ws first parts live → HasHeap s' free parts live =
    λ ws e l k. record {
      room = record { static = (let there = room.static in let as_many = w.statics in omega (arith, there, as_many)); words = ap (λ z. length z) e ∙ l ∙ room.words };
      heap = subst (λ z. HeapOf z (slice_index s'.statics free) parts live) (sym e) (subst (λ z. HeapOf ws z parts live) (sym w.static) k);
    } in (
      parts,
      ⊎_elim
          (λ e. kept s.words e refl h.1.heap)
          (λ st. kept (slice_set s.words (st.0 - 2048) st.1) st.3 (length-set s.words (st.0 - 2048) st.1) (stores.law s.words first parts live st.0 st.1 h.1.heap st.2))
          w.words,
    )

module _ (subs : List Subroutine) (h : HeapNumbers) (of_init of_alloc of_deAlloc error : ℕ) (is_init : subroutine_at subs h.init ≡ init_meaning of_init h.free) (is_alloc : subroutine_at subs h.alloc ≡ alloc_meaning of_alloc error h.free)
    (is_deAlloc : subroutine_at subs h.deAlloc ≡ deAlloc_meaning of_deAlloc h.free) where
  pub holds : {s : State} {live : List Block} → Uses subs h s live → Holds s h.free live
  holds (laid {s} {s'} room c b) =
      let l = init_law subs s h.init of_init h.free is_init (record { room = room; call = c }) in
      subst (λ z. Holds z h.free []) (back_once subs s 15 l.0 s' l.1 b) l.2.heap
  holds (taken {s} {s'} {live} {size} {place} u low high part c b gives) =
      let before = holds u in
      let fit = part before.0 before.1.heap in
      let l = allocating.law subs s h.alloc of_alloc error h.free is_alloc (record { size = size; low = low; high = high; parts = before.0; live = live; heap = before.1; k = fit.0; fit = fit.1; call = c }) in
      let same = back_once subs s l.0 l.2 s' l.3 b in
      let placed : l.4.place ≡ place = filled_once subs s h.alloc (size ∷ []) c l.4.place place (sym l.4.frames ∙ ap (λ (z : State). z.frames) same ∙ gives) in
      subst (λ z. Holds z h.free (record { place = place; words = size } ∷ live)) same (subst (λ (p : ℕ). Holds l.2 h.free (record { place = p; words = size } ∷ live)) placed l.4.heap)
  holds (freed {s} {s'} front back block u c b) =
      let before = holds u in
      let l = free_law subs s h.deAlloc of_deAlloc h.free is_deAlloc (record { parts = before.0; front = front; block = block; back = back; heap = before.1; call = c }) in
      subst (λ z. Holds z h.free (front ++ back)) (back_once subs s 13 l.0 s' l.1 b) l.2.heap
  holds (stepped {s} {s'} {live} key heard u made w) = stepped_well h.free live s s' w (holds u)
