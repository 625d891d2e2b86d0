-- What the code's standing of a script is, and what doing an act says.
use Rattle.std.specs.Prelude.{◌≡◌, ◌⊎◌, ◌≤◌, ℕ, suc, true, false, Bool, List, [], ◌∷◌, ◌++◌, Option, Some, None, IfSome, Result, Ok, Err, Vec, length, take, drop, codes}
use Rattle.std.specs.declared.alloc.Global.{Global}
use Rattle.outer_world.specs.Faults.{Rose}
use Rattle.outer_world.specs.Files.{Files, LacksFolder, file_at}
use Rattle.outer_world.specs.State.{ShelfState}
use Rattle.outer_world.specs.Written.{Got, GotPart}
use Rattle.outer_world.specs.Refusals.{message}
use Rattle.source_files.specs.Loads.{Refused, line_of}
use Rattle.source_files.specs.declared.error.LoadError.TheVariants as loads
use Rattle.script_columns.specs.Comparison.{lines_of}
use Rattle.script_parser.specs.declared.tree.Placed.{Placed}
use Rattle.script_parser.specs.declared.tree.Item.{Item}
use Rattle.script_parser.specs.declared.tree.Act.{Act}
use Rattle.script_parser.specs.declared.tree.Act.TheVariants as acts
use Rattle.tst_runner.specs.declared.lines.Column.{Column}
use Rattle.tst_runner.specs.declared.standing.CompareFile.{CompareFile}
use Rattle.tst_runner.specs.declared.standing.State.{State}
use Rattle.tst_runner.specs.declared.standing.Difference.{Difference}
use Rattle.tst_runner.specs.declared.standing.Stop.{Stop}
use Rattle.tst_runner.specs.declared.standing.Stop.TheVariants as stops
use Rattle.script_device.specs.Directory.{LoadedChip}
use Rattle.script_parser.specs.Numbers.{ends_in}
use Rattle.tst_runner.specs.Setting.{Setting, folder, path_of}
use Rattle.tst_runner.specs.Loading.{IsLoaded, IsNotLoaded, IsProgram, IsImage, IsNoImage}
use Rattle.script_device.specs.Machines.{loaded_machine}
use Rattle.script_device.specs.Devices.{Device, after_eval}
use Rattle.script_device.specs.Devices.Device.{Empty, Chip, Machine}
use Rattle.tst_runner.specs.Lines.{IsNameless}
use Rattle.tst_runner.specs.Standing.{Standing, Compared, Agrees, with_line}
use Rattle.tst_runner.specs.Effects.{Does, Goes, GoThrough, PutsLine, Differs, Faults}
use Rattle.tst_runner.specs.Ends.{Asks, Lacks, whole}
use Rattle.tst_runner.specs.Inner.Columns.{AreColumns}
use Rattle.tst_runner.specs.Inner.Outlets.{HasPassed}
use Rattle.script_device.specs.Running.{Stands}

-- The code's compare file, after this many lines: what is left of it are the lines that are still to
-- come.
pub record IsFile (file : CompareFile) (lines : ℕ) (compared : Compared) : Type 0 where
  pub path : file.path ≡ compared.path
  pub within : file.at ≤ length file.text.items
  pub left : lines_of (drop file.at file.text.items) ≡ drop lines compared.lines

abbrev pub AreFiles : Option CompareFile → ℕ → Option Compared → Type 0
AreFiles None lines None = Unit {0}
AreFiles (Some file) lines (Some compared) = IsFile file lines compared
AreFiles None lines (Some compared) = ⊥
AreFiles (Some file) lines None = ⊥

-- A chip that is driven is the one that the file gives. Of what else is driven nothing is said.
abbrev pub IsFrom : Setting → List ℕ → Device → Type 0
IsFrom setting file Empty = Unit {0}
IsFrom setting file (Chip chip calls) = IsLoaded setting file chip
IsFrom setting file (Machine machine) = Unit {0}

-- The code's state is this standing, and its device is from the file that it names.
pub record IsState (setting : Setting) (state : State) (s : Standing) : Type 0 where
  pub device : Stands state.device s.device
  pub loaded : IfSome state.loaded (λ file. IsFrom setting file.items s.device)
  pub columns : AreColumns s.device s.items state.columns.items
  pub compared : AreFiles state.compared state.lines s.compared
  pub lines : state.lines ≡ s.lines

-- Of a line that an act puts some went out, after all whole pieces before it.
pub record PartWent (setting : Setting) (s : Standing) (act : Act) (before now : Option (List ℕ)) : Type 0 where
  pub r : Standing
  pub line : List ℕ
  pub puts : PutsLine setting s act r line
  pub n : ℕ
  pub from : whole s.out ≤ n
  pub went : Got before now (take n (with_line r line).out)

-- Of an echo some went out.
pub record EchoWent (s : Standing) (act : Act) (before now : Option (List ℕ)) : Type 0 where
  pub text : List ℕ
  pub is : act ≡ acts.Echo text
  pub n : ℕ
  pub went : Got before now (s.err ++ take n (text ++ 10 ∷ []))

-- All that a script put stands there: out and err as they stood before it and as they stand now.
pub record StandsThere (out out' err err' : Option (List ℕ)) (pending : List ℕ) (s : Standing) : Type 0 where
  pub on_out : HasPassed out out' pending s.out
  pub on_err : Got err err' s.err

-- What a script does to out and err, and to its state, from a standing on.
module _ (setting : Setting) (there : List ℕ → Bool) (unfailing : Type 0) (out out' err err' : Option (List ℕ)) (pending : List ℕ) where
  abbrev Stays : Standing → Type 0
  Stays s = StandsThere out out' err err' pending s

  -- an act is done
  abbrev pub IsDone : Standing → Act → State → Type 0
  IsDone s act state = (t : Standing) × Goes setting s act t × IsState setting state t × Stays t

  -- an act puts a line that differs
  abbrev pub IsDifferent : Standing → Act → Difference → Type 0
  IsDifferent s act d = (t : Standing) × (differs : Differs setting s act t) × (d.path ≡ differs.compared.path) × (d.line ≡ t.lines) × Stays t

  -- an act stops the script
  abbrev pub IsStopped : Standing → Act → Stop → Type 0
  IsStopped s act (stops.Unloaded (loads.Refused r)) = Faults setting s act (line_of r) × Stays s
  IsStopped s act (stops.Unloaded loads.Failed) = Asks s act × (unfailing → IfSome setting.files (λ told. Lacks there setting told act)) × Stays s
  IsStopped s act (stops.Unloaded loads.Memory) = Stays s
  IsStopped s act (stops.Differs d) = IsDifferent s act d
  IsStopped s act stops.Out = PartWent setting s act out out' × Got err err' s.err
  IsStopped s act stops.Err = EchoWent s act err err' × HasPassed out out' pending s.out

  abbrev pub Performs : Standing → Act → State → Result (Unit {0}) Stop → Type 0
  Performs s act state (Ok _) = IsDone s act state
  Performs s act state (Err stop) = IsStopped s act stop

  -- acts are done up to one that stops the script
  pub record StopsIn (s : Standing) (acts : List Act) (stop : Stop) : Type 0 where
    pub done : List Act
    pub act : Act
    pub rest : List Act
    pub are : acts ≡ done ++ act ∷ rest
    pub t : Standing
    pub comes : GoThrough setting s done t
    pub stopped : IsStopped t act stop

  -- acts are done one after another
  abbrev pub PerformsAll : Standing → List Act → State → Result (Unit {0}) Stop → Type 0
  PerformsAll s acts state (Ok _) = (t : Standing) × GoThrough setting s acts t × IsState setting state t × Stays t
  PerformsAll s acts state (Err stop) = StopsIn s acts stop

-- The counts of faults of shelf, out and err: one of them rises where it stops the script.
abbrev pub CountsStop : ℕ → ℕ → ℕ → ℕ → ℕ → ℕ → Result (Unit {0}) Stop → Type 0
CountsStop shelf shelf' out out' err err' (Err (stops.Unloaded loads.Failed)) = Rose shelf shelf' × (out' ≡ out) × (err' ≡ err)
CountsStop shelf shelf' out out' err err' (Err stops.Out) = (shelf' ≡ shelf) × Rose out out' × (err' ≡ err)
CountsStop shelf shelf' out out' err err' (Err stops.Err) = (shelf' ≡ shelf) × (out' ≡ out) × Rose err err'
CountsStop shelf shelf' out out' err err' _ = (shelf' ≡ shelf) × (out' ≡ out) × (err' ≡ err)

-- A word stands for nothing that is wanted here.
abbrev pub IsNameStop : List ℕ → Placed → Stop → Type 0
IsNameStop path word (stops.Unloaded e) = Refused path (message word.place.line word.place.column (codes "Name") word.text) e
IsNameStop path word (stops.Differs d) = ⊥
IsNameStop path word stops.Out = ⊥
IsNameStop path word stops.Err = ⊥

-- The script stops at the first item whose variable stands for nothing, or for want of memory.
abbrev pub StopsAtName : List ℕ → Device → List Item → Stop → Type 0
StopsAtName path device items stop = (stop ≡ stops.Unloaded loads.Memory) ⊎ ((item : Item) × IsNameless device items item × IsNameStop path item.variable stop)

-- The items have their columns, or the script stops.
abbrev pub FindsColumns : List ℕ → Device → List Item → Result (Vec Column Global) Stop → Type 0
FindsColumns path device items (Ok columns) = AreColumns device items columns.items
FindsColumns path device items (Err stop) = StopsAtName path device items stop

-- ---- what the parts of an act say

-- The state is this standing, unless memory is wanting.
abbrev pub Becomes : Setting → State → Standing → Result (Unit {0}) Stop → Type 0
Becomes setting state t (Ok _) = IsState setting state t
Becomes setting state t (Err (stops.Unloaded (loads.Refused r))) = ⊥
Becomes setting state t (Err (stops.Unloaded loads.Failed)) = ⊥
Becomes setting state t (Err (stops.Unloaded loads.Memory)) = Unit {0}
Becomes setting state t (Err (stops.Differs d)) = ⊥
Becomes setting state t (Err stops.Out) = ⊥
Becomes setting state t (Err stops.Err) = ⊥

-- An act that puts nothing is done, or stops the script; where the shelf failed this holds.
abbrev pub Quietly : Setting → Type 0 → Standing → Act → State → Result (Unit {0}) Stop → Type 0
Quietly setting missed s act state (Ok _) = (t : Standing) × Does setting s act t × IsState setting state t × (t.out ≡ s.out) × (t.err ≡ s.err)
Quietly setting missed s act state (Err (stops.Unloaded (loads.Refused r))) = Faults setting s act (line_of r)
Quietly setting missed s act state (Err (stops.Unloaded loads.Failed)) = missed
Quietly setting missed s act state (Err (stops.Unloaded loads.Memory)) = Unit {0}
Quietly setting missed s act state (Err (stops.Differs d)) = ⊥
Quietly setting missed s act state (Err stops.Out) = ⊥
Quietly setting missed s act state (Err stops.Err) = ⊥

-- The act asks for what is not there, over an honest shelf.
abbrev pub Misses : Setting → (List ℕ → Bool) → Type 0 → Standing → Act → Type 0
Misses setting there unfailing s act = Asks s act × (unfailing → IfSome setting.files (λ told. Lacks there setting told act))

-- A line that is put where the script stands so differs from that of the compare file.
pub record TellsDifference (r : Standing) (line : List ℕ) (d : Difference) : Type 0 where
  pub compared : Compared
  pub compares : r.compared ≡ Some compared
  pub differs : Agrees r line → ⊥
  pub path : d.path ≡ compared.path
  pub number : d.line ≡ suc r.lines

-- A line that was put counts, and agrees or differs.
abbrev pub Compares : Setting → Standing → List ℕ → State → Result (Unit {0}) Stop → Type 0
Compares setting r line state (Ok _) = Agrees r line × IsState setting state (with_line r line)
Compares setting r line state (Err (stops.Unloaded e)) = ⊥
Compares setting r line state (Err (stops.Differs d)) = TellsDifference r line d
Compares setting r line state (Err stops.Out) = ⊥
Compares setting r line state (Err stops.Err) = ⊥

module _ (out out' err err' : Option (List ℕ)) (pending : List ℕ) where
  -- Of a line some went out, after all whole pieces before it.
  pub record LineWent (r : Standing) (line : List ℕ) : Type 0 where
    pub n : ℕ
    pub from : whole r.out ≤ n
    pub went : Got out out' (take n (with_line r line).out)
    pub on_err : Got err err' r.err

  -- A line was put and agrees or differs, or out failed, or no memory was there and nothing was put.
  abbrev pub PutsOut : Setting → Standing → List ℕ → State → Result (Unit {0}) Stop → Type 0
  PutsOut setting r line state (Ok _) = Compares setting r line state (Ok tt) × StandsThere out out' err err' pending (with_line r line)
  PutsOut setting r line state (Err (stops.Unloaded (loads.Refused e))) = ⊥
  PutsOut setting r line state (Err (stops.Unloaded loads.Failed)) = ⊥
  PutsOut setting r line state (Err (stops.Unloaded loads.Memory)) = StandsThere out out' err err' pending r
  PutsOut setting r line state (Err (stops.Differs d)) = TellsDifference r line d × StandsThere out out' err err' pending (with_line r line)
  PutsOut setting r line state (Err stops.Out) = LineWent r line
  PutsOut setting r line state (Err stops.Err) = ⊥

-- An echo was put, or err failed.
abbrev pub PutsEcho : Option (List ℕ) → Option (List ℕ) → List ℕ → Result (Unit {0}) Stop → Type 0
PutsEcho err err' text (Ok _) = Got err err' (text ++ 10 ∷ [])
PutsEcho err err' text (Err (stops.Unloaded e)) = ⊥
PutsEcho err err' text (Err (stops.Differs d)) = ⊥
PutsEcho err err' text (Err stops.Out) = ⊥
PutsEcho err err' text (Err stops.Err) = GotPart err err' (text ++ 10 ∷ [])

-- ---- what is loaded

-- A file gives this device: a chip, or the instruction machine with an image.
abbrev pub IsDevice : Setting → List ℕ → Device → Type 0
IsDevice setting file d =
    ((chip : LoadedChip) × IsLoaded setting file chip × (d ≡ after_eval (Chip chip [])))
    ⊎ (IsProgram file × ((image : List ℕ) × IsImage setting file image × (d ≡ Machine (loaded_machine image))))

abbrev pub IsNoDevice : Setting → List ℕ → List ℕ → Type 0
IsNoDevice setting file line = IsNotLoaded setting file line ⊎ (IsProgram file × IsNoImage setting file line)

-- what the load of a file asks for is not there: its folder for a chip, else the file
abbrev pub LacksDevice : (List ℕ → Bool) → Setting → List ℕ → Files → Type 0
LacksDevice there setting file told =
    ((ends_in (codes ".hdl") file ≡ true) × LacksFolder (Some told) there (folder setting))
    ⊎ ((ends_in (codes ".hdl") file ≡ false) × (file_at told (path_of setting file) ≡ None))

-- That is so over a shelf with no call to come that is set up to fail.
abbrev pub MissesDevice : ShelfState → Setting → List ℕ → Type 0
MissesDevice shelf setting file = shelf.unfailing → IfSome shelf.files (LacksDevice shelf.there setting file)
