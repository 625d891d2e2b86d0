-- Functions of Memory: each straight piece of their runs is a computation.
use Rattle.std.proofs.Common.{◌≡◌, ◌≢◌, ◌⊎◌, inl, inr, ⊎_elim, ℕ, zero, suc, ◌+◌, ◌-◌, ◌<◌, ◌≤◌, true, false, nat_lt, nat_eq, List, [], ◌∷◌, length, Some, codes, option_and_then, refl, sym, ap, ◌∙◌, arith}
use Rattle.std.specs.Prelude.{slice_set}
use Rattle.std.proofs.lemmas.Bool.{cases_lt}
use Rattle.std.proofs.lemmas.Bool.Decides.{nat_tests}
use Rattle.word16.specs.Words.{word_add}
use Rattle.jack_core.specs.declared.program.Core.{Core}
use Rattle.jack_core.specs.Texts.{the_subroutines}
use Rattle.jack_meaning.specs.Text.{Value, Load, Store, Return, Text, End, Next, Subroutine}
use Rattle.jack_meaning.specs.Meaning.{Frame, State, Stray, step, new_frame}
use Rattle.os_laws.specs.Calls.{after}
use Rattle.os_laws.specs.Heap.{word_at}
use Rattle.os_laws.specs.Names.{IsShipped}
use Rattle.os_laws.proofs.Basics.{enters}
use Rattle.os_laws.proofs.Runs.{Call, over, run, next_at, run_before, run_over}
use Rattle.os_laws.proofs.Searching.{Reaches}
use Rattle.os_laws.proofs.Walking.{here}
use Rattle.os_functions.specs.Calls.{routine_number, CallsNext}
use Rattle.os_functions.specs.MemoryLaws.{PeekLaw, PeekKeyLaw, PeekElsewhereLaw, PokeLaw, PokeElsewhereLaw, MemoryLaws}
use Rattle.os_functions.proofs.Pieces.{in_call, tail, returns_value, gives_by, leaves_by}
use Rattle.os_functions.proofs.MemoryRoutines.{is_peek, is_poke}
use Rattle.os_functions.proofs.Texts.{peek_body, poke_body}
use Rattle.os_functions.proofs.Ways.{after_split, keys_behind}

module _ (subs : List Subroutine) (g : ℕ) (ss ws : List ℕ) where
  abbrev at_text : Text → List ℕ → Call
  at_text t xs = in_call g 0 ss ws t xs []

  peeks : (a : ℕ) → Reaches a 0 a → run subs 3 (at_text peek_body (a ∷ [])) ≡ Some (at_text (returns_value 1 (word_at ws a) End) (a ∷ []))
  peeks a r = rw (r.at, r.low, r.high) refl

  pokes : (a v : ℕ) → Reaches a 0 a → run subs 5 (at_text poke_body (a ∷ v ∷ [])) ≡ Some (in_call g 0 ss (slice_set ws (a - 2048) v) (returns_value 2 0 End) (a ∷ v ∷ []) [])
  pokes a v r = rw (r.at, r.low, r.high) refl

  -- up to the load, and up to the store
  abbrev loading : ℕ → Text
  loading a = Next (Return 1 (Load (Value a) (Value 0))) End

  abbrev storing : ℕ → ℕ → Text
  storing a v = Next (Store 1 (Value a) (Value 0) (Value v)) (tail poke_body)

  to_load : (a : ℕ) → run subs 2 (at_text peek_body (a ∷ [])) ≡ Some (at_text (loading a) (a ∷ []))
  to_load a = refl

  to_store : (a v : ℕ) → run subs 3 (at_text poke_body (a ∷ v ∷ [])) ≡ Some (at_text (storing a v) (a ∷ v ∷ []))
  to_store a v = refl

-- an address outside the memory
low_test : (a : ℕ) → a < 2048 → nat_lt a 2048 ≡ true
low_test a h = grind (arith, nat_tests)

not_low : (a : ℕ) → 2048 ≤ a → nat_lt a 2048 ≡ false
not_low a h = grind (arith, nat_tests)

not_high : (a : ℕ) → 24576 ≤ a → nat_lt a 24576 ≡ false
not_high a h = grind (arith, nat_tests)

not_key : (a : ℕ) → 24576 < a → nat_eq a 24576 ≡ false
not_key a h = grind (arith, nat_tests)

same_address : (a : ℕ) → a < 65536 → word_add a 0 ≡ a
same_address a h = omega (arith, h)

module _ (subs : List Subroutine) (g : ℕ) (ss ws : List ℕ) (below : List Frame) (key : ℕ) where
  abbrev loads : ℕ → State
  loads a = over below (at_text subs g ss ws (loading subs g ss ws a) (a ∷ []))

  abbrev stores : ℕ → ℕ → State
  stores a v = over below (at_text subs g ss ws (storing subs g ss ws a v) (a ∷ v ∷ []))

  strays_load : (a : ℕ) → a < 65536 → (a < 2048) ⊎ (24576 < a) → step subs key (loads a) ≡ Stray a
  strays_load a w (inl h) = rw (same_address a w, low_test a h) refl
  strays_load a w (inr h) = rw (same_address a w, not_low a (omega (arith, h)), not_high a (omega (arith, h)), not_key a h) refl

  strays_store : (a v : ℕ) → a < 65536 → (a < 2048) ⊎ (24576 ≤ a) → step subs key (stores a v) ≡ Stray a
  strays_store a v w (inl h) = rw (same_address a w, low_test a h) refl
  strays_store a v w (inr h) = rw (same_address a w, not_low a (omega (arith, h)), not_high a h) refl

module _ {core : Core} (p : IsShipped core) (s : State) where
  abbrev subs : List Subroutine
  subs = the_subroutines core

  abbrev memory_number : List ℕ → ℕ
  memory_number name = routine_number p (codes "Memory") name

  pub peek_law : PeekLaw p s
  peek_law a low high c =
      gives_by p s (codes "Memory") (codes "peek") (a ∷ []) c 3 5 (omega arith) _ (is_peek core p) 0 1 (word_at s.words a) (word_at s.words a) refl End (a ∷ []) [] (peeks subs (memory_number (codes "peek")) s.statics s.words a (here a low high))

  pub poke_law : PokeLaw p s
  poke_law a v low high c =
      leaves_by p s (codes "Memory") (codes "poke") (a ∷ v ∷ []) c 5 7 (omega arith) _ (is_poke core p) 0 s.statics (slice_set s.words (a - 2048) v) 2 0 End (a ∷ v ∷ []) [] (pokes subs (memory_number (codes "poke")) s.statics s.words a v (here a low high))

  -- the step that makes the call, and n steps of the call by itself
  called_then : (name values : List ℕ) (c : CallsNext p (codes "Memory") name s values) (n : ℕ) (d : Call) (keys : ℕ → ℕ)
      → run subs n (record { frame = new_frame subs (memory_number name) values; statics = s.statics; words = s.words }) ≡ Some d → after subs keys (suc n) s ≡ Some (over (c.caller ∷ c.below) d)
  called_then name values c n d keys ran =
      ap (option_and_then (after subs (λ i. keys (suc i)) n)) (next_at subs s _ (keys 0) c.calls)
      ∙ run_over subs (c.caller ∷ c.below) (λ i. keys (suc i)) n (record { frame = new_frame subs (memory_number name) values; statics = s.statics; words = s.words }) d ran

  loads_there : (a : ℕ) → run subs 2 (record { frame = new_frame subs (memory_number (codes "peek")) (a ∷ []); statics = s.statics; words = s.words })
      ≡ Some (at_text subs (memory_number (codes "peek")) s.statics s.words (loading subs 0 [] [] a) (a ∷ []))
  loads_there a =
      ap (λ (z : Frame). run subs 2 (record { frame = z; statics = s.statics; words = s.words })) (enters subs (memory_number (codes "peek")) _ (a ∷ []) (is_peek core p)) ∙ to_load subs (memory_number (codes "peek")) s.statics s.words a

  stores_there : (a v : ℕ) → run subs 3 (record { frame = new_frame subs (memory_number (codes "poke")) (a ∷ v ∷ []); statics = s.statics; words = s.words })
      ≡ Some (at_text subs (memory_number (codes "poke")) s.statics s.words (storing subs 0 [] [] a v) (a ∷ v ∷ []))
  stores_there a v =
      ap (λ (z : Frame). run subs 3 (record { frame = z; statics = s.statics; words = s.words })) (enters subs (memory_number (codes "poke")) _ (a ∷ v ∷ []) (is_poke core p)) ∙ to_store subs (memory_number (codes "poke")) s.statics s.words a v

  pub peek_elsewhere_law : PeekElsewhereLaw p s
  peek_elsewhere_law a h w c keys =
      let g = memory_number (codes "peek") in
      (3, omega arith, over (c.caller ∷ c.below) (at_text subs g s.statics s.words (loading subs 0 [] [] a) (a ∷ [])), called_then (codes "peek") (a ∷ []) c 2 _ keys (loads_there a), strays_load subs g s.statics s.words (c.caller ∷ c.below) (keys 3) a w h)

  pub poke_elsewhere_law : PokeElsewhereLaw p s
  poke_elsewhere_law a v h w c keys =
      let g = memory_number (codes "poke") in
      (4, omega arith, over (c.caller ∷ c.below) (at_text subs g s.statics s.words (storing subs 0 [] [] a v) (a ∷ v ∷ [])), called_then (codes "poke") (a ∷ v ∷ []) c 3 _ keys (stores_there a v), strays_store subs g s.statics s.words (c.caller ∷ c.below) (keys 4) a v w h)

  abbrev first : Call
  first = record { frame = new_frame subs (memory_number (codes "peek")) (24576 ∷ []); statics = s.statics; words = s.words }

  abbrev loading_key : Call
  loading_key = at_text subs (memory_number (codes "peek")) s.statics s.words (loading subs 0 [] [] 24576) (24576 ∷ [])

  -- from the load on
  by_key : (c : CallsNext p (codes "Memory") (codes "peek") s (24576 ∷ [])) (keys : ℕ → ℕ) (n : ℕ) (t : State) → after subs (keys_behind 3 keys) n (over (c.caller ∷ c.below) loading_key) ≡ Some t
      → after subs keys (3 + n) s ≡ Some t
  by_key c keys n t e =
      after_split subs 3 n keys s ∙ ap (option_and_then (after subs (keys_behind 3 keys) n)) (called_then (codes "peek") (24576 ∷ []) c 2 loading_key keys (loads_there 24576)) ∙ e

  -- a state with more frames
  deeper : (c : CallsNext p (codes "Memory") (codes "peek") s (24576 ∷ [])) (d : Call) → length (over (c.caller ∷ c.below) d).frames ≢ length s.frames
  deeper c d e = let deep : length s.frames ≡ suc (length c.below) = ap length c.frames in omega (arith, deep, e)

  key_before : (c : CallsNext p (codes "Memory") (codes "peek") s (24576 ∷ [])) (keys : ℕ → ℕ) (j : ℕ) → 0 < j → j < 5 → (t : State) × (after subs keys j s ≡ Some t) × (length t.frames ≢ length s.frames)
  key_before c keys zero low high = absurd (omega (arith, low))
  key_before c keys (suc j) low high =
      ⊎_elim
      (λ (l : j < 3).
      let r = run_before subs 2 j first loading_key (loads_there 24576) (omega (arith, l)) in
      (over (c.caller ∷ c.below) r.0, called_then (codes "peek") (24576 ∷ []) c j r.0 keys r.1, deeper c r.0))
      (λ (g : 3 ≤ j).
      let e : 4 ≡ suc j = omega (arith, g, high) in
      let d : Call = at_text subs (memory_number (codes "peek")) s.statics s.words (Next (Return 1 (Value (keys 3))) End) (24576 ∷ []) in
      (over (c.caller ∷ c.below) d, ap (λ i. after subs keys i s) (sym e) ∙ by_key c keys 1 (over (c.caller ∷ c.below) d) refl, deeper c d))
      (cases_lt j 3)

  -- the key of the fourth step
  pub peek_key_law : PeekKeyLaw p s
  peek_key_law c keys = record {
    some = omega arith;
    leads = by_key c keys 2 _ refl;
    there = sym (ap length c.frames);
    before = λ j low high. key_before c keys j low high;
  }

pub law : MemoryLaws
law = record {
  peek = λ p s. peek_law p s;
  peek_key = λ p s. peek_key_law p s;
  peek_elsewhere = λ p s. peek_elsewhere_law p s;
  poke = λ p s. poke_law p s;
  poke_elsewhere = λ p s. poke_elsewhere_law p s;
}
