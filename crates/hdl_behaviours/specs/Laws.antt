-- What the tests show.
use Rattle.std.specs.Prelude.{◌≡◌, ℕ, true, List, [], ◌∷◌, Some, slice_get}
use Rattle.hdl_tree.specs.declared.library.Entry.{Entry}
use Rattle.hdl_tree.specs.Chips.{Chips}
use Rattle.hdl_check.specs.Locations.{IsFaultless}
use Rattle.hdl_plans.specs.Loops.{IsLoop}
use Rattle.hdl_plans.specs.Ways.{Depends}
use Rattle.hdl_behaviours.specs.Clean.{AreClean}
use Rattle.hdl_behaviours.specs.Levels.{Pairs, Level, is_pair, AreLevelled}

-- Where each chip of a library is clean, none has a fault.
abbrev pub CleanLaw : Type 0
CleanLaw = (chips : Chips) → AreClean chips → (i : ℕ) (entry : Entry) → slice_get chips.entries i ≡ Some entry → IsFaultless chips (entry.name ∷ []) entry

-- the chip has no loop, and its outputs depend on its inputs at most as the pairs say
pub record IsLoopless (chips : Chips) (pairs : List ℕ → Pairs) (entry : Entry) : Type 0 where
  pub no_loop : (nets : List (List ℕ)) → IsLoop chips entry nets → ⊥
  pub depends : (input : List ℕ) (bit : ℕ) (output : List ℕ) (out : ℕ)
      → Depends chips entry input bit output out → is_pair input output (pairs entry.name) ≡ true

-- Where each chip of a library is clean and has levels, none has a loop.
abbrev pub LevelLaw : Type 0
LevelLaw = (chips : Chips) (pairs : List ℕ → Pairs) (levels : Entry → List (List ℕ × Level)) → AreClean chips → AreLevelled chips pairs levels →
    (i : ℕ) (entry : Entry) → slice_get chips.entries i ≡ Some entry → IsLoopless chips pairs entry
