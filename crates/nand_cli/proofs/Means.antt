-- The program of a folder's classes, or why there is none; and why it has no computer.
use Rattle.std.proofs.Common.{◌≡◌, List, ℕ, Bool, Vec, Global, Option, Result, Ok, Err, codes, map, refl}
use Rattle.jack_names.specs.Faults.{diagnostic_of}
use Rattle.jack_names.specs.Messages.{name_message}
use Rattle.jack_names.specs.declared.fault.NameFault.{NameFault}
use Rattle.outer_world.specs.Files.{Files, LacksFolder, path_in}
use Rattle.outer_world.specs.Refusals.{message_line}
use Rattle.source_files.specs.Loads.{CountsLoad, Loads, TellsOf}
use Rattle.source_files.specs.Sources.{IsUnread}
use Rattle.source_files.specs.declared.error.LoadError.{LoadError}
use Rattle.source_files.specs.declared.error.LoadError.TheVariants as errors
use Rattle.source_files.proofs.Told.{told, told_of, without}
use Rattle.jack_tree.specs.declared.tree.Class.{Class}
use Rattle.jack_tree.specs.Seen.{the_file}
use Rattle.jack_places.specs.Rising.{FirstLaw}
use Rattle.jack_os.specs.System.{SpellsClass}
use Rattle.jack_os.proofs.SystemTexts.{seen_files}
use Rattle.jack_core.specs.declared.program.Core.{Core}
use Rattle.tower.specs.Image.{Builds, IsImageOf}
use Rattle.tower.specs.Program.{IsProgram, Means}
use Rattle.tower.specs.Sources.{system_beside}
use Rattle.tower.specs.Spelled.{AreSpelled}
use Rattle.tower.specs.Messages.{build_message}
use Rattle.tower.specs.declared.building.BuildError.{BuildError}
use Rattle.tower.specs.declared.program.ProgramError.{ProgramError}
use Rattle.tower.specs.declared.program.ProgramError.TheVariants as programs
use Rattle.command_line.specs.Line.{Source}
use Rattle.nand_cli.specs.Inner.Parts.{TellsWrong}
use Rattle.nand_cli.specs.JackFolder.{BuildIsRefused, FolderIsRefused, FolderMeans, IsMeaningless, home_of, meaningless, unread}
use Rattle.jack_parser.specs.Language.{RefusesClass}
use Rattle.nand_cli.specs.Commands.Build.{BuildRefuses, FolderBuilds, unbuilt, without_program}
use Rattle.nand_cli.specs.declared.jack.BuiltProgram.{BuiltProgram}
use Rattle.nand_cli.proofs.Spelling.{HasTrees, placed, seen_classes, seen_unread}

-- the first fault of names is the first by its place
pub first_told : FirstLaw → (source : Source) (classes : List Class) (f : NameFault) → AreSpelled classes → Means source.replace classes (Err (diagnostic_of f))
    → IsMeaningless source (map the_file classes) (message_line (path_in (home_of source.folder f.shipped) f.file) (name_message f))
first_told law source classes f spelled (os, are, first) =
    (map the_file os, diagnostic_of f, seen_files (system_beside source.replace (map the_file classes)) os are, law (map the_file classes) (map the_file os) (diagnostic_of f) (placed classes spelled) first, refl)

pub not_meant : FirstLaw → (source : Source) (classes : List Class) (error : ProgramError) (e : LoadError) → AreSpelled classes → IsProgram source.replace classes (Err error)
    → TellsWrong source.folder error e → Loads (λ (core : Core). Means source.replace classes (Ok core)) (IsMeaningless source (map the_file classes)) ⊥ (Err e)
not_meant law source classes programs.Memory e spelled h tells = rw tells tt
not_meant law source classes (programs.Name f) e spelled h tells =
    told (λ (core : Core). Means source.replace classes (Ok core)) (IsMeaningless source (map the_file classes)) ⊥ (path_in (home_of source.folder f.shipped) f.file) (name_message f) e (first_told law source classes f spelled h) tells

module _ (files : Option Files) (source : Source) (there : List ℕ → Bool) (steady : Type 0) where
  -- what the folder's program says of loading it
  abbrev pub LoadsJack : Result Core LoadError → Type 0
  LoadsJack r = Loads (FolderMeans files source) (FolderIsRefused files source) (steady → LacksFolder files there source.folder) r

  pub without_classes : (e : LoadError) → Loads (λ (classes : Vec Class Global). HasTrees files source.folder classes.items) (IsUnread SpellsClass RefusesClass (codes ".jack") files source.folder) (steady → LacksFolder files there source.folder) (Err e) → LoadsJack (Err e)
  without_classes e h =
      without (λ (classes : Vec Class Global). HasTrees files source.folder classes.items) (IsUnread SpellsClass RefusesClass (codes ".jack") files source.folder) (steady → LacksFolder files there source.folder)
      (FolderMeans files source) (FolderIsRefused files source) (steady → LacksFolder files there source.folder) e (λ line k. unread (seen_unread files source.folder line k)) (λ k. k) h

  pub meant : (classes : List Class) (r : Result Core LoadError) → HasTrees files source.folder classes → Loads (λ (core : Core). Means source.replace classes (Ok core)) (IsMeaningless source (map the_file classes)) ⊥ r → LoadsJack r
  meant classes (Ok core) has h = (classes, seen_classes files source.folder classes has, h)
  meant classes (Err (errors.Refused r)) has h = meaningless (map the_file classes) (seen_classes files source.folder classes has) h
  meant classes (Err errors.Failed) has h = absurd h
  meant classes (Err errors.Memory) has h = tt

pub program_counts : (source : Source) (classes : List Class) (r : Result Core LoadError) (shelf shelf' : ℕ) → Loads (λ (core : Core). Means source.replace classes (Ok core)) (IsMeaningless source (map the_file classes)) ⊥ r → shelf' ≡ shelf → CountsLoad shelf shelf' r
program_counts source classes (Ok core) shelf shelf' h same = same
program_counts source classes (Err (errors.Refused r)) shelf shelf' h same = same
program_counts source classes (Err errors.Failed) shelf shelf' h same = absurd h
program_counts source classes (Err errors.Memory) shelf shelf' h same = same

-- ---- the computer

pub unbuilt_told : (folder : List ℕ) (core : Core) (error : BuildError) (e : LoadError) → Builds core (Err error) → TellsOf folder (build_message error) e → Loads (IsImageOf core) (BuildIsRefused core folder) ⊥ (Err e)
unbuilt_told folder core error e h tells = told_of (IsImageOf core) (BuildIsRefused core folder) ⊥ folder (build_message error) e (λ t same. (error, t, h, same, refl)) tells

-- ---- a program with its computer

module _ (files : Option Files) (source : Source) (there : List ℕ → Bool) (steady : Type 0) where
  -- what a folder says of loading its program with its image
  abbrev pub LoadsBuilt : Result BuiltProgram LoadError → Type 0
  LoadsBuilt r = Loads (λ (p : BuiltProgram). FolderBuilds files source p.core p.image) (BuildRefuses files source) (steady → LacksFolder files there source.folder) r

  pub without_core : (e : LoadError) → Loads (FolderMeans files source) (FolderIsRefused files source) (steady → LacksFolder files there source.folder) (Err e) → LoadsBuilt (Err e)
  without_core e h =
      without (FolderMeans files source) (FolderIsRefused files source) (steady → LacksFolder files there source.folder)
      (λ (p : BuiltProgram). FolderBuilds files source p.core p.image) (BuildRefuses files source) (steady → LacksFolder files there source.folder) e (λ line k. without_program k) (λ k. k) h

  pub without_computer : (core : Core) (e : LoadError) → FolderMeans files source core → Loads (IsImageOf core) (BuildIsRefused core source.folder) ⊥ (Err e) → LoadsBuilt (Err e)
  without_computer core e means h =
      without (IsImageOf core) (BuildIsRefused core source.folder) ⊥
      (λ (p : BuiltProgram). FolderBuilds files source p.core p.image) (BuildRefuses files source) (steady → LacksFolder files there source.folder) e (λ line k. unbuilt core means k) (λ k. absurd k) h

pub unbuilt_counts : (core : Core) (folder : List ℕ) (e : LoadError) (shelf shelf' : ℕ) → Loads (IsImageOf core) (BuildIsRefused core folder) ⊥ (Err e) → shelf' ≡ shelf → CountsLoad {A = BuiltProgram} shelf shelf' (Err e)
unbuilt_counts core folder (errors.Refused r) shelf shelf' h same = same
unbuilt_counts core folder errors.Failed shelf shelf' h same = absurd h
unbuilt_counts core folder errors.Memory shelf shelf' h same = same
