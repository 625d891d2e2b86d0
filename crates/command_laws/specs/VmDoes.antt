-- The law of `vm`: the image of the program that the VM files of a folder spell does what the program does. (The book,
-- chapters 7 and 8.)
use Rattle.std.specs.Prelude.{◌≤◌, ℕ, false, List, Option, Ok, length, map}
use Rattle.hack_isa.specs.Machine.{image_words}
use Rattle.hack_isa.specs.Table.{word_of}
use Rattle.image_map.specs.Computer.{endless_loop}
use Rattle.image_map.specs.Map.{the_map}
use Rattle.outer_world.specs.Files.{Files}
use Rattle.vm_tree.specs.declared.program.File.{File}
use Rattle.vm_link.specs.Links.{Links}
use Rattle.vm_link.specs.declared.linked.Linked.{Linked}
use Rattle.vm_translator.specs.Image.{image_map_of, image_of}
use Rattle.vm_translator.specs.Translated.{IsTranslated}
use Rattle.nand_cli.specs.Commands.Vm.{HasProgram}

-- The image of the program of a folder does what the program does. (No command that is read from text is a commit, so
-- calls, returns and comparisons are all alike.)
abbrev pub VmDoesLaw : Type 0
VmDoesLaw =
    (files : Option Files) (folder : List ℕ) (program : List File) (linked : Linked) → HasProgram false files folder program → Links false program (Ok linked)
    → length (image_of linked) ≤ image_words → IsTranslated linked (map word_of (image_of linked)) (the_map (image_map_of linked)) endless_loop
