-- From the start to Main.main: tame steps, and how many cycles of the computer they take (book, chapters 4, 5, 8, 11
-- and 12).
use Rattle.std.specs.Prelude.{◌≡◌, ◌≤◌, ℕ, List, [], Some, Ok, codes, false}
use Rattle.simulation.specs.System.{IsData, IsKey}
use Rattle.simulation.specs.Trace.{Trace, steps, heard_keys, point_at}
use Rattle.image_map.specs.declared.map.Image.{Image}
use Rattle.image_map.specs.Map.{the_map}
use Rattle.image_map.specs.Computer.{run_trace, run_word}
use Rattle.jack_tree.specs.declared.tree.Class.{Class}
use Rattle.jack_meaning.specs.Text.{Subroutine}
use Rattle.jack_meaning.specs.Meaning.{State, subroutine_at}
use Rattle.jack_meaning.specs.Level.{IsTame, point_in}
use Rattle.jack_core.specs.declared.program.Core.{Core}
use Rattle.jack_core.specs.Texts.{the_program, the_subroutines}
use Rattle.os_laws.specs.Heap.{word_at}
use Rattle.os_laws.specs.Names.{IsShipped}
use Rattle.os_functions.specs.Calls.{routine_number, HasStatics}
use Rattle.os_functions.specs.StartLaws.{IsAtMain}
use Rattle.tower.specs.Spelled.{AreSpelled}
use Rattle.tower.specs.Program.{Means}
use Rattle.tower.specs.Image.{IsImageOf}

-- the routine Main.main of a program
abbrev pub main_of : {core : Core} → IsShipped core → Subroutine
main_of {core} p = subroutine_at (the_subroutines core) (routine_number p (codes "Main") (codes "main"))

-- The stack has room for the frame of Main.main. It has 1,792 words, of which eight are to spare, and ten are those of
-- the two calls.
abbrev pub HasRoom : {core : Core} → IsShipped core → Type 0
HasRoom p = (main_of p).locals ≤ 1774

-- Of the 1,735 steps that lead to Main.main all but the last are tame, whatever the program is. The last one calls
-- Main.main.
pub record TameLaw : Type 0 where
  pub before : {core : Core} (p : IsShipped core) (keys : List ℕ) → IsTame (the_program core) keys 1734

-- what is counted of the computer's run with an image, under these keys
abbrev pub image_trace : Image → (ℕ → ℕ) → Trace
image_trace image keys = run_trace image.words (the_map image.map) keys

-- The computer with this image is at Main.main within 200,000 cycles, under whatever keys.
pub record ReachesMain {core : Core} (p : IsShipped core) (h : HasStatics p) (image : Image) (keys : ℕ → ℕ) : Type 0 where
  pub cycle : ℕ
  pub soon : cycle ≤ 200000
  -- The 1,735 steps have been made, and they have heard no key.
  pub count : steps (image_trace image keys) cycle ≡ 1735
  pub unheard : heard_keys (image_trace image keys) cycle ≡ []
  -- Heap and screen are those of the meaning at Main.main.
  pub state : State
  pub at : IsAtMain p h state
  pub words : (a : ℕ) → IsData a → run_word image.words keys cycle a ≡ word_at state.words a
  -- So is the point, its first statement.
  pub point : point_at (image_trace image keys) cycle ≡ Some (point_in state)
  -- Where its frame has room, the last step is tame, too.
  pub tame : HasRoom p → (heard : List ℕ) → IsTame (the_program core) heard 1735

-- It is so for every program that builds: for the classes of each folder that texts spell and that mean a program
-- with an image.
abbrev pub ReachedLaw : Type 0
ReachedLaw =
    (own : List Class) (core : Core) (image : Image) → AreSpelled own → Means false own (Ok core) → IsImageOf core image
    → (p : IsShipped core) (h : HasStatics p) (keys : ℕ → ℕ) → ((c : ℕ) → IsKey (keys c)) → ReachesMain p h image keys

-- and each such program is one of those that these laws speak of
abbrev pub ShippedLaw : Type 0
ShippedLaw = (own : List Class) (core : Core) → Means false own (Ok core) → IsShipped core
