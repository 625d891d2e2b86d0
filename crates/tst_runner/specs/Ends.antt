-- How a script ends, and what stands on out and on err then. What was put before stays. (The book, appendix 3.)
use Rattle.std.specs.Prelude.{◌≡◌, ◌⊎◌, ◌≤◌, ◌-◌, ◌%◌, ℕ, Bool, true, false, List, [], ◌∷◌, ◌++◌, length, take, Some, None, IfSome, is_some, codes}
use Rattle.grammar.specs.declared.Fault.{Fault}
use Rattle.grammar.specs.Faults.{diagnostic_of}
use Rattle.outer_world.specs.Files.{Files, HasFile, LacksFolder, file_at}
use Rattle.outer_world.specs.Refusals.{message, message_line}
use Rattle.script_parser.specs.declared.tree.Act.{Act}
use Rattle.script_parser.specs.declared.tree.Act.TheVariants as acts
use Rattle.script_parser.specs.Numbers.{ends_in}
use Rattle.script_parser.specs.Trees.{Commands, Spells, Refuses}
use Rattle.tst_runner.specs.Acts.{acts_of}
use Rattle.tst_runner.specs.Setting.{Setting, folder, path_of}
use Rattle.tst_runner.specs.Standing.{Standing, at_first, with_line}
use Rattle.script_device.specs.Devices.{HasRom}
use Rattle.tst_runner.specs.Effects.{GoThrough, PutsLine, Differs, Faults}

-- ---- what an act asks of the shelf

-- The act reads. A load asks for the names in the folder and then for texts, and a compare-to for its file. The load of an image asks for its
-- file, where there is an instruction memory. No other act does.
abbrev pub Asks : Standing → Act → Type 0
Asks s (acts.Step step) = ⊥
Asks s (acts.Load file) = Unit {0}
Asks s (acts.OutputFile file) = ⊥
Asks s (acts.CompareTo file) = Unit {0}
Asks s (acts.OutputList items) = ⊥
Asks s (acts.Set variable word) = ⊥
Asks s (acts.Echo text) = ⊥
Asks s (acts.LoadRom word file) = HasRom s.device

-- Among these folders and files what the act asks for is not there: its file, or for a chip the folder; a text that the folder names is there.
abbrev pub Lacks : (List ℕ → Bool) → Setting → Files → Act → Type 0
Lacks there setting told (acts.Step step) = ⊥
Lacks there setting told (acts.Load file) =
    ((ends_in (codes ".hdl") file.text ≡ true) × LacksFolder (Some told) there (folder setting))
    ⊎ ((ends_in (codes ".hdl") file.text ≡ false) × (file_at told (path_of setting file.text) ≡ None))
Lacks there setting told (acts.OutputFile file) = ⊥
Lacks there setting told (acts.CompareTo file) = file_at told (path_of setting file.text) ≡ None
Lacks there setting told (acts.OutputList items) = ⊥
Lacks there setting told (acts.Set variable word) = ⊥
Lacks there setting told (acts.Echo text) = ⊥
Lacks there setting told (acts.LoadRom word file) = file_at told (path_of setting file.text) ≡ None

-- the whole pieces of 4,096 bytes in a text, in bytes
abbrev pub whole : List ℕ → ℕ
whole text = length text - length text % 4096

module _ (setting : Setting) where
  -- the acts of the script; a text that is too long spells none
  abbrev pub HasActs : List Act → Type 0
  HasActs acts = (text : List ℕ) × (commands : Commands) × HasFile setting.files setting.path text × Spells text commands × (acts ≡ acts_of commands)

  -- the script stands so when these acts are done
  abbrev pub ComesTo : List Act → Standing → Type 0
  ComesTo acts s = GoThrough setting at_first acts s

  -- a script that has come to an act
  pub record IsAt (s : Standing) (act : Act) : Type 0 where
    pub done : List Act
    pub rest : List Act
    pub acts : HasActs (done ++ act ∷ rest)
    pub comes : ComesTo done s

  -- ---- the ends; what stands on err comes in two parts: what was put there before, and the message of the end

  -- All acts are done. No line reports that.
  pub record IsDone (out err : List ℕ) : Type 0 where
    pub acts : List Act
    pub are : HasActs acts
    pub last : Standing
    pub comes : ComesTo acts last
    pub on_out : out ≡ last.out
    pub on_err : err ≡ last.err

  -- and whether they compared lines up to the end
  abbrev pub HasCompared : List ℕ → List ℕ → Bool → Type 0
  HasCompared out err compared = (done : IsDone out err) × (compared ≡ is_some done.last.compared)

  -- A line differs: it stands on out, and its number with the path of the compare file on err.
  pub record IsDifferent (out before line : List ℕ) : Type 0 where
    pub s : Standing
    pub act : Act
    pub is_at : IsAt s act
    pub t : Standing
    pub differs : Differs setting s act t
    pub on_out : out ≡ t.out
    pub on_err : before ≡ s.err
    pub tells : line ≡ message_line differs.compared.path (message t.lines 1 (codes "Differs") [])

  -- The script is refused: its text, and nothing was put.
  pub record IsNoScript (out before line : List ℕ) : Type 0 where
    pub text : List ℕ
    pub has : HasFile setting.files setting.path text
    pub fault : Fault
    pub refused : Refuses text fault
    pub on_out : out ≡ []
    pub on_err : before ≡ []
    pub tells : line ≡ message_line setting.path (diagnostic_of fault)

  -- Or at an act.
  pub record IsRefusedAt (out before line : List ℕ) : Type 0 where
    pub s : Standing
    pub act : Act
    pub is_at : IsAt s act
    pub on_out : out ≡ s.out
    pub on_err : before ≡ s.err
    pub tells : Faults setting s act line

  abbrev pub IsRefused : List ℕ → List ℕ → List ℕ → Type 0
  IsRefused out before line = IsNoScript out before line ⊎ IsRefusedAt out before line

  -- The shelf failed when the script was read, and nothing was put; over an honest shelf it is not there.
  pub record IsNoFile (unfailing : Type 0) (out before : List ℕ) : Type 0 where
    pub on_out : out ≡ []
    pub on_err : before ≡ []
    pub lacks : unfailing → IfSome setting.files (λ told. file_at told setting.path ≡ None)

  -- Or at an act that reads, and all stands there that was put before this act; over an honest shelf what this very
  -- act asks for is not there. So a shelf may not be asked in vain for what a later act names: what stands before that one would be lost.
  pub record IsUnreadAt (there : List ℕ → Bool) (unfailing : Type 0) (out before : List ℕ) : Type 0 where
    pub s : Standing
    pub act : Act
    pub is_at : IsAt s act
    pub asks : Asks s act
    pub on_out : out ≡ s.out
    pub on_err : before ≡ s.err
    pub lacks : unfailing → IfSome setting.files (λ told. Lacks there setting told act)

  abbrev pub IsUnread : (List ℕ → Bool) → Type 0 → List ℕ → List ℕ → Type 0
  IsUnread there unfailing out before = IsNoFile unfailing out before ⊎ IsUnreadAt there unfailing out before

  -- Memory ran out, which it may anywhere: nothing stands there, or what the acts put that are done.
  pub record IsStopped (out before : List ℕ) : Type 0 where
    pub done : List Act
    pub rest : List Act
    pub acts : HasActs (done ++ rest)
    pub s : Standing
    pub comes : ComesTo done s
    pub on_out : out ≡ s.out
    pub on_err : before ≡ s.err

  abbrev pub IsStarved : List ℕ → List ℕ → Type 0
  IsStarved out before = ((out ≡ []) × (before ≡ [])) ⊎ IsStopped out before

  -- ---- write faults: nothing is put after

  -- the script has put this so far: the acts that are done did, or the last of them a line that differs
  abbrev pub HasPut : Standing → Type 0
  HasPut t =
      ((done : List Act) × (rest : List Act) × HasActs (done ++ rest) × ComesTo done t)
      ⊎ ((s : Standing) × (act : Act) × IsAt s act × Differs setting s act t)

  -- Out failed while a line was put. All whole pieces before that line went out, and err has the echoes that come before it and no other.
  pub record LineIsCut (out err : List ℕ) : Type 0 where
    pub s : Standing
    pub act : Act
    pub is_at : IsAt s act
    pub r : Standing
    pub line : List ℕ
    pub puts : PutsLine setting s act r line
    pub n : ℕ
    pub from : whole s.out ≤ n
    pub on_out : out ≡ take n (with_line r line).out
    pub on_err : err ≡ s.err

  -- Or at the last piece, which is put where the script ends, before the message of it.
  pub record RestIsCut (out err : List ℕ) : Type 0 where
    pub t : Standing
    pub put : HasPut t
    pub n : ℕ
    pub from : whole t.out ≤ n
    pub on_out : out ≡ take n t.out
    pub on_err : err ≡ t.err

  abbrev pub OutIsCut : List ℕ → List ℕ → Type 0
  OutIsCut out err = LineIsCut out err ⊎ RestIsCut out err

  -- Err failed at an echo: of the lines before it whole pieces went out.
  pub record EchoIsCut (out err : List ℕ) : Type 0 where
    pub s : Standing
    pub text : List ℕ
    pub is_at : IsAt s (acts.Echo text)
    pub on_out : out ≡ take (whole s.out) s.out
    pub n : ℕ
    pub on_err : err ≡ s.err ++ take n (text ++ 10 ∷ [])
