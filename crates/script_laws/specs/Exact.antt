-- Over known files a script is at most one of three: done, refused, or different in a line. In each of these it puts
-- one thing, but for the nets of a loop. (The book, appendix 3.)
use Rattle.std.specs.Prelude.{◌≡◌, ◌⊎◌, ℕ, Bool, List, Some}
use Rattle.outer_world.specs.Files.{Files}
use Rattle.hdl_tree.specs.declared.library.Entry.{Entry}
use Rattle.hdl_tree.specs.declared.ends.Memories.{Memories}
use Rattle.hdl_tree.specs.Chips.{find_entry}
use Rattle.hdl_check.specs.Whole.{chips_in}
use Rattle.hdl_elab.specs.declared.fault.ElaborationFault.TheVariants.{Loop}
use Rattle.hdl_elab.specs.Faults.{IsFaultOf}
use Rattle.tst_runner.specs.Setting.{Setting, setting_of}
use Rattle.tst_runner.specs.Loading.{HasGathered, IsFaultLine}
use Rattle.tst_runner.specs.Ends.{HasCompared, IsDifferent, IsDone, IsRefused}

-- Two lines that report a loop of one chip, of the folder's or of the shipped ones, at the path of its text. Each has the
-- nets of a loop of it.
pub record AreLoops (setting : Setting) (line line' : List ℕ) : Type 0 where
  pub name : List ℕ
  pub entries : List Entry
  pub gathered : HasGathered setting name entries
  pub top : Entry
  pub found : find_entry entries name ≡ Some top
  pub nets : List (List ℕ)
  pub nets' : List (List ℕ)
  pub loop : IsFaultOf (chips_in entries setting.memories) top (Loop nets)
  pub loop' : IsFaultOf (chips_in entries setting.memories) top (Loop nets')
  pub is : IsFaultLine setting entries name (Loop nets) line
  pub is' : IsFaultLine setting entries name (Loop nets') line'

-- the same line, but for the nets of a loop
abbrev pub SameButNets : Setting → List ℕ → List ℕ → Type 0
SameButNets setting line line' = (line ≡ line') ⊎ AreLoops setting line line'

-- What a script puts on out and on err is one thing, and whether it compared lines. It is refused with one line at most, but for the nets of a loop,
-- and differs in one line at most. It is not two of done, refused and different.
pub record ScriptIsExact (setting : Setting) : Type 0 where
  pub done : (out err out' err' : List ℕ) (b b' : Bool) → HasCompared setting out err b
      → HasCompared setting out' err' b' → (out ≡ out') × (err ≡ err') × (b ≡ b')
  pub refused : (out before line out' before' line' : List ℕ)
      → IsRefused setting out before line → IsRefused setting out' before' line'
      → (out ≡ out') × (before ≡ before') × SameButNets setting line line'
  pub differs : (out before line out' before' line' : List ℕ) → IsDifferent setting out before line
      → IsDifferent setting out' before' line' → (out ≡ out') × (before ≡ before') × (line ≡ line')
  pub done_or_refused : (out err out' before line : List ℕ) → IsDone setting out err
      → IsRefused setting out' before line → ⊥
  pub done_or_differs : (out err out' before line : List ℕ) → IsDone setting out err
      → IsDifferent setting out' before line → ⊥
  pub refused_or_differs : (out before line out' before' line' : List ℕ)
      → IsRefused setting out before line → IsDifferent setting out' before' line' → ⊥

-- over known files
abbrev pub ScriptExactLaw : Type 0
ScriptExactLaw = (path : List ℕ) (files : Files) (memories : Memories) → ScriptIsExact (setting_of path (Some files) memories)
