-- What each act of a script does. (The book, appendix 3.)
use Rattle.std.specs.Prelude.{◌≡◌, ◌⊎◌, ◌≤◌, ℕ, List, [], ◌∷◌, length, Some, codes, decimal}
use Rattle.outer_world.specs.Files.{HasFile}
use Rattle.outer_world.specs.Refusals.{message, message_line}
use Rattle.script_columns.specs.Comparison.{lines_of}
use Rattle.script_device.specs.Directory.{LoadedChip}
use Rattle.script_parser.specs.declared.tree.Placed.{Placed}
use Rattle.script_parser.specs.declared.tree.Item.{Item}
use Rattle.script_parser.specs.declared.tree.Step.TheVariants as steps
use Rattle.script_parser.specs.declared.tree.Act.{Act}
use Rattle.script_parser.specs.declared.tree.Act.TheVariants as acts
use Rattle.tst_runner.specs.Setting.{Setting, path_of}
use Rattle.tst_runner.specs.Loading.{IsLoaded, IsNotLoaded, IsProgram, IsImage, IsNoImage}
use Rattle.script_device.specs.Devices.{Source, CanSet, HasRom, with_image, after_set, after_eval, after_tick, after_tock}
use Rattle.script_device.specs.Devices.Device.{Chip, Machine}
use Rattle.script_device.specs.Machines.{loaded_machine}
use Rattle.tst_runner.specs.Lines.{IsLine, AreMeant, IsNameless, head_line}
use Rattle.tst_runner.specs.Standing.{Standing, Compared, Agrees, with_line, with_echo}

module _ (setting : Setting) where
  -- an act that puts no line on out
  abbrev pub Does : Standing → Act → Standing → Type 0
  Does s (acts.Step steps.Eval) t = t ≡ record s { device = after_eval s.device }
  Does s (acts.Step steps.Tick) t = t ≡ record s { device = after_tick s.device }
  Does s (acts.Step steps.Tock) t = t ≡ record s { device = after_tock s.device }
  Does s (acts.Step steps.TickTock) t = t ≡ record s { device = after_tock (after_tick s.device) }
  Does s (acts.Step steps.Output) t = ⊥
  Does s (acts.Load file) t =
      ((chip : LoadedChip) × IsLoaded setting file.text chip × (t ≡ record s { device = after_eval (Chip chip []); items = [] }))
      ⊎ (IsProgram file.text × ((image : List ℕ) × IsImage setting file.text image × (t ≡ record s { device = Machine (loaded_machine image); items = [] })))
  Does s (acts.OutputFile file) t = t ≡ s
  Does s (acts.CompareTo file) t =
      (text : List ℕ) × HasFile setting.files (path_of setting file.text) text × (length text ≤ 1048576)
      × (t ≡ record s { compared = Some (record { path = path_of setting file.text; lines = lines_of text }) })
  Does s (acts.OutputList items) t = ⊥
  Does s (acts.Set variable word) t = (source : Source) × CanSet s.device variable.text source × (t ≡ record s { device = after_set s.device source word })
  Does s (acts.Echo text) t = t ≡ with_echo s text
  Does s (acts.LoadRom word file) t =
      (rom : HasRom s.device) × ((image : List ℕ) × IsImage setting file.text image × (t ≡ record s { device = with_image s.device rom image }))

  -- the line that an act puts on out, from where the script stands, if it puts one: names at an output list, values at an output
  abbrev pub PutsLine : Standing → Act → Standing → List ℕ → Type 0
  PutsLine s (acts.OutputList items) t line =
      ((sources : List Source) × AreMeant s.device items sources) × (t ≡ record s { items = items }) × (line ≡ head_line items)
  PutsLine s (acts.Step steps.Output) t line = (t ≡ s) × IsLine s.device s.items line
  PutsLine s act t line = ⊥

  -- an act is done; the line that it puts, if it puts one, agrees
  abbrev pub Goes : Standing → Act → Standing → Type 0
  Goes s act t = Does s act t ⊎ ((r : Standing) × (line : List ℕ) × PutsLine s act r line × Agrees r line × (t ≡ with_line r line))

  -- acts are done one after another
  abbrev pub GoThrough : Standing → List Act → Standing → Type 0
  GoThrough s [] t = t ≡ s
  GoThrough s (act ∷ rest) t = (r : Standing) × Goes s act r × GoThrough r rest t

  -- An act puts a line that does not agree with that of the compare file: it stands on out.
  pub record Differs (s : Standing) (act : Act) (t : Standing) : Type 0 where
    pub compared : Compared
    pub compares : s.compared ≡ Some compared
    pub r : Standing
    pub line : List ℕ
    pub puts : PutsLine s act r line
    pub differs : Agrees r line → ⊥
    pub is : t ≡ with_line r line

  -- ---- faults, each with its line on err

  -- a word stands for nothing that is wanted here
  abbrev pub name_line : Placed → List ℕ
  name_line word = message_line setting.path (message word.place.line word.place.column (codes "Name") word.text)

  abbrev pub Faults : Standing → Act → List ℕ → Type 0
  Faults s (acts.Step step) line = ⊥
  Faults s (acts.Load file) line = IsNotLoaded setting file.text line ⊎ (IsProgram file.text × IsNoImage setting file.text line)
  Faults s (acts.OutputFile file) line = ⊥
  Faults s (acts.CompareTo file) line =
      (text : List ℕ) × HasFile setting.files (path_of setting file.text) text × (1048577 ≤ length text) × (line ≡ message_line (path_of setting file.text) (message 0 0 (codes "Range") (decimal 1048577)))
  Faults s (acts.OutputList items) line = (item : Item) × IsNameless s.device items item × (line ≡ name_line item.variable)
  Faults s (acts.Set variable word) line = ((source : Source) → CanSet s.device variable.text source → ⊥) × (line ≡ name_line variable)
  Faults s (acts.Echo text) line = ⊥
  Faults s (acts.LoadRom word file) line =
      ((HasRom s.device → ⊥) × (line ≡ name_line word))
      ⊎ (HasRom s.device × IsNoImage setting file.text line)
