-- The command `vm`: the assembly of the program that the VM files of a folder spell, one instruction a line, or why the
-- folder is refused. (The book, chapters 7 and 8.)
use Rattle.std.specs.Prelude.{◌≡◌, ◌≤◌, ◌⊎◌, ℕ, Bool, List, Option, Some, Ok, Err, length, codes}
use Rattle.hack_isa.specs.Machine.{image_words}
use Rattle.outer_world.specs.Files.{Files}
use Rattle.outer_world.specs.Refusals.{Message, message_line}
use Rattle.hack_asm.specs.Written.{asm_text}
use Rattle.source_files.specs.Sources.{FolderSpells, IsUnread}
use Rattle.vm_tree.specs.declared.program.File.{File}
use Rattle.vm_link.specs.Links.{Links}
use Rattle.vm_link.specs.Messages.{link_message}
use Rattle.vm_link.specs.declared.fault.LinkFault.{LinkFault}
use Rattle.vm_link.specs.declared.linked.Linked.{Linked}
use Rattle.vm_translator.specs.Image.{IsTooLarge, image_of}
use Rattle.vm_translator.specs.Messages.{code_message}
use Rattle.vm_translator.specs.declared.coded.CodeFault.TheVariants.{TooLarge}
use Rattle.vm_parser.specs.Language.{RefusesVm, SpellsVmFile}

-- The VM files of the folder spell this program.
abbrev pub HasProgram : Bool → Option Files → List ℕ → List File → Type 0
HasProgram bare files folder program = FolderSpells (SpellsVmFile bare) (codes ".vm") files folder program

-- The program of the folder is linked, and this is the assembly of its image, which is within the limit.
abbrev pub VmPrints : Option Files → List ℕ → Bool → List ℕ → Type 0
VmPrints files folder bare text =
    (program : List File) × (linked : Linked) × HasProgram bare files folder program × Links bare program (Ok linked)
    × (length (image_of linked) ≤ image_words) × (text ≡ asm_text (image_of linked))

-- The program has no code, and this is reported: it is not linked, or its image is past the limit.
abbrev pub HasNoCode : Bool → List File → Message → Type 0
HasNoCode bare program told =
    ((fault : LinkFault) × Links bare program (Err fault) × (link_message fault ≡ Some told))
    ⊎ ((linked : Linked) × (words : ℕ) × Links bare program (Ok linked) × IsTooLarge linked words × (code_message (TooLarge words) ≡ Some told))

abbrev pub IsNoCode : Bool → List ℕ → List File → List ℕ → Type 0
IsNoCode bare folder program line = (told : Message) × HasNoCode bare program told × (line ≡ message_line folder told)

-- The folder is refused, and this line says why: its files are not read, or their program has no code.
pub data VmRefuses (files : Option Files) (folder : List ℕ) (bare : Bool) (line : List ℕ) : Type 0 where
  unread : IsUnread (SpellsVmFile bare) (RefusesVm bare) (codes ".vm") files folder line → VmRefuses files folder bare line
  without_code : (program : List File) → HasProgram bare files folder program → IsNoCode bare folder program line → VmRefuses files folder bare line
