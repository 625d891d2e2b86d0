-- What a script loads: chips, and images of the instruction memory in a chip. (The book, chapters 4 and 6, and appendices 2 and 3.)
use Rattle.std.specs.Prelude.{◌≡◌, ◌⊎◌, ℕ, true, false, List, [], ◌∷◌, ◌++◌, Option, Some, None, Ok, IfSome, codes, decimal}
use Rattle.outer_world.specs.Files.{HasFile, IsListing, path_in}
use Rattle.outer_world.specs.Refusals.{Message, message, message_line}
use Rattle.outer_world.specs.Texts.{joined_texts}
use Rattle.hack_asm.specs.Meaning as assembly
use Rattle.hack_asm.specs.HackText as image
use Rattle.hack_asm.specs.Messages.{asm_message}
use Rattle.hack_asm.specs.declared.fault.AsmFault.{AsmFault}
use Rattle.netlist.specs.Order.{AreOrdered}
use Rattle.hdl_tree.specs.declared.library.Entry.{Entry}
use Rattle.hdl_tree.specs.Chips.{find_entry}
use Rattle.hdl_check.specs.Messages.{named_message}
use Rattle.hdl_check.specs.Whole.{chips_in}
use Rattle.hdl_elab.specs.declared.put.Elab.{Elab}
use Rattle.hdl_elab.specs.declared.fault.ElaborationFault.{ElaborationFault}
use Rattle.hdl_elab.specs.declared.fault.ElaborationFault.TheVariants as faults
use Rattle.hdl_elab.specs.Elaborated.{IsElaborated}
use Rattle.hdl_elab.specs.Faults.{IsFaultOf, IsFine}
use Rattle.hack_cpu.specs.Library.{shipped_chips}
use Rattle.script_device.specs.Directory.{LoadedChip, FitsNet}
use Rattle.script_parser.specs.Numbers.{ends_in}
use Rattle.tst_runner.specs.Setting.{Setting, folder, path_of}
use Rattle.tst_runner.specs.Gathering.{Sources, Gather, GatherFails, file_of}
use Rattle.tst_runner.specs.Directories.{IsDirectory}

-- ---- chips

-- Where chips are found, when a script loads one: the names in its folder are asked for then.
pub record HasSources (setting : Setting) (from : Sources) : Type 0 where
  pub shipped : from.shipped ≡ shipped_chips
  pub memories : from.memories ≡ setting.memories
  pub files : from.files ≡ setting.files
  pub beside : from.folder ≡ folder setting
  pub listed : IfSome setting.files (λ told. IsListing told (folder setting) from.names)

-- From these chips on, the chip of this name has no fault; its netlist is in order, and what has a name in it is given by its
-- directory.
pub record IsBuilt (setting : Setting) (entries : List Entry) (name : List ℕ) (chip : LoadedChip) : Type 0 where
  pub top : Entry
  pub found : find_entry entries name ≡ Some top
  pub fine : IsFine (chips_in entries setting.memories) top
  pub e : Elab
  pub elaborated : IsElaborated (chips_in entries setting.memories) top e
  pub net : chip.net ≡ e.net
  pub ordered : AreOrdered chip.net.nodes chip.net.blocks
  pub directory : IsDirectory entries top e chip.directory
  pub fits : FitsNet chip.net chip.directory

-- These are all chips that the chip of this name needs, where each is found.
abbrev pub HasGathered : Setting → List ℕ → List Entry → Type 0
HasGathered setting name entries = (from : Sources) × HasSources setting from × Gather from (name ∷ []) [] entries

-- The text of one of them is refused, with this line.
abbrev pub HasFailed : Setting → List ℕ → List ℕ → Type 0
HasFailed setting name line = (from : Sources) × HasSources setting from × GatherFails from (name ∷ []) [] line

-- The file is that of a chip; all chips that it needs are there, and it is built from them.
abbrev pub IsLoaded : Setting → List ℕ → LoadedChip → Type 0
IsLoaded setting file chip = (name : List ℕ) × (file ≡ file_of name) × ((entries : List Entry) × HasGathered setting name entries × IsBuilt setting entries name chip)

abbrev pub path_of_shipped : Setting → List ℕ → Option (List ℕ) → List ℕ
path_of_shipped setting name None = path_in (folder setting) (file_of name)
path_of_shipped setting name (Some own) = codes "hdl/" ++ file_of own

abbrev pub path_of_entry : Setting → List ℕ → Option Entry → List ℕ
path_of_entry setting name None = path_in (folder setting) (file_of name)
path_of_entry setting name (Some entry) = path_of_shipped setting name entry.shipped

-- where the text of a chip stands: that of a shipped one under its own name, that of another in the script's folder
abbrev pub path_of_text : Setting → List Entry → List ℕ → List ℕ
path_of_text setting entries name = path_of_entry setting name (find_entry entries name)

-- What is reported of a fault of the chip that is loaded, with the path of the text that has it. Want of memory is no
-- refusal.
abbrev pub IsFaultLine : Setting → List Entry → List ℕ → ElaborationFault → List ℕ → Type 0
IsFaultLine setting entries name faults.Memory line = ⊥
IsFaultLine setting entries name (faults.Named fault) line = line ≡ message_line (path_of_text setting entries fault.chip) (named_message fault)
IsFaultLine setting entries name (faults.Loop nets) line = line ≡ message_line (path_of_text setting entries name) (message 0 0 (codes "Loop") (joined_texts nets))
IsFaultLine setting entries name (faults.TooManyNodes n) line = line ≡ message_line (path_of_text setting entries name) (message 0 0 (codes "TooManyNodes") (decimal n))

-- The chips are there, but the one that is loaded has this fault.
pub record IsFaulty (setting : Setting) (entries : List Entry) (name line : List ℕ) : Type 0 where
  pub top : Entry
  pub found : find_entry entries name ≡ Some top
  pub fault : ElaborationFault
  pub is_fault : IsFaultOf (chips_in entries setting.memories) top fault
  pub is : IsFaultLine setting entries name fault line

-- The chip that is loaded is nowhere.
abbrev pub IsUnknown : Setting → List Entry → List ℕ → List ℕ → Type 0
IsUnknown setting entries name line = (find_entry entries name ≡ None) × (line ≡ message_line setting.path (message 0 0 (codes "UnknownChip") name))

-- The file is that of a chip, and this is the message of why it is not loaded. That is a text that is refused, or else no chip, or a fault of
-- it.
abbrev pub IsNotLoaded : Setting → List ℕ → List ℕ → Type 0
IsNotLoaded setting file line =
    (name : List ℕ) × (file ≡ file_of name)
    × (HasFailed setting name line ⊎ ((entries : List Entry) × HasGathered setting name entries × (IsUnknown setting entries name line ⊎ IsFaulty setting entries name line)))

-- ---- images

-- the words of the program in a text, by the ending of its file, and its fault
abbrev pub SpellsImage : List ℕ → List ℕ → List ℕ → Type 0
SpellsImage file text words = ((ends_in (codes ".hack") file ≡ true) × image.Holds text (Ok words)) ⊎ ((ends_in (codes ".hack") file ≡ false) × assembly.Means text (Ok words))

abbrev pub RefusesImage : List ℕ → List ℕ → AsmFault → Type 0
RefusesImage file text fault = ((ends_in (codes ".hack") file ≡ true) × image.IsRefusal text fault) ⊎ ((ends_in (codes ".hack") file ≡ false) × assembly.IsRefusal text fault)

abbrev pub IsImage : Setting → List ℕ → List ℕ → Type 0
IsImage setting file words = (text : List ℕ) × HasFile setting.files (path_of setting file) text × SpellsImage file text words

abbrev pub IsNoImage : Setting → List ℕ → List ℕ → Type 0
IsNoImage setting file line =
    (text : List ℕ) × (fault : AsmFault) × (told : Message) × HasFile setting.files (path_of setting file) text × RefusesImage file text fault × (asm_message fault ≡ Some told)
    × (line ≡ message_line (path_of setting file) told)

-- ---- the instruction machine

-- The file is that of a program, and no chip's.
abbrev pub IsProgram : List ℕ → Type 0
IsProgram file = ends_in (codes ".hdl") file ≡ false
