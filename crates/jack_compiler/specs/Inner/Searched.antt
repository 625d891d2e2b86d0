-- The search for the subroutines that a program can come to.
use Rattle.std.specs.Prelude.{◌≡◌, ◌<◌, ◌⊎◌, ◌++◌, ℕ, Bool, true, List, [], ◌∷◌, length}
use Rattle.std.specs.List.{Contains}
use Rattle.vm_link.specs.Inner.Marks.{is_marked, waits, Marks}
use Rattle.jack_meaning.specs.Text.{Program}
use Rattle.jack_meaning.specs.Meaning.{subroutine_at}
use Rattle.jack_meaning.specs.Linked.{text_calls, IsLinked}
use Rattle.jack_core.specs.declared.tree.Part.{Part}
use Rattle.jack_core.specs.declared.tree.Part.TheVariants as part
use Rattle.jack_compiler.specs.declared.reached.Search.{Search}

-- what a part calls, and what parts call, in their order
abbrev pub part_calls : Part → List ℕ
part_calls (part.Call n g) = g ∷ []
part_calls _ = []

abbrev pub parts_calls : List Part → List ℕ
parts_calls [] = []
parts_calls (p ∷ ps) = part_calls p ++ parts_calls ps

-- More is marked: only these subroutines, and each of them that there is a mark for. Each new mark waits.
pub record Visits (calls : List ℕ) (old new : Search) : Type 0 where
  pub marks : Marks (Contains calls) old.marks.items new.marks.items old.waiting.items
      new.waiting.items
  pub all : (g : ℕ) → g < length new.marks.items → Contains calls g
      → is_marked new.marks.items g ≡ true

-- What is known while some wait: the calls of the others are marked.
pub record Looks (program : Program) (marks : List Bool) (pending : List ℕ) : Type 0 where
  pub same_length : length marks ≡ length program.subroutines
  pub only : (g : ℕ) → is_marked marks g ≡ true → IsLinked program g
  pub start : program.init < length marks → is_marked marks program.init ≡ true
  pub waiting : (g : ℕ) → waits pending g ≡ true → is_marked marks g ≡ true
  pub closed : (g h : ℕ) → is_marked marks g ≡ true
      → Contains (text_calls (subroutine_at program.subroutines g).body) h → h < length marks
      → (waits pending g ≡ true) ⊎ (is_marked marks h ≡ true)

-- The marks are at the subroutines that the program can come to.
pub record AreLinked (program : Program) (marks : List Bool) : Type 0 where
  pub same_length : length marks ≡ length program.subroutines
  pub only : (g : ℕ) → is_marked marks g ≡ true → IsLinked program g
  pub all : (g : ℕ) → g < length program.subroutines → IsLinked program g → is_marked marks g ≡ true
