-- The VM files of a folder's classes, or why there are none.
use Rattle.std.proofs.Common.{◌≡◌, List, Option, Err, length, map, take, sym, ◌∙◌}
use Rattle.std.proofs.lemmas.List.{length-map}
use Rattle.jack_names.specs.Messages.{name_message}
use Rattle.outer_world.specs.Files.{Files, path_in}
use Rattle.source_files.specs.Loads.{Loads}
use Rattle.source_files.specs.declared.error.LoadError.{LoadError}
use Rattle.source_files.proofs.Told.{told}
use Rattle.jack_tree.specs.declared.tree.Class.{Class}
use Rattle.jack_tree.specs.Seen.{the_file}
use Rattle.jack_places.specs.Rising.{FirstLaw}
use Rattle.jack_os.proofs.SystemTexts.{seen_files}
use Rattle.vm_tree.specs.Printed.{files_text}
use Rattle.vm_tree.specs.declared.program.File.{File}
use Rattle.jack_compiler.specs.Files.{program_files}
use Rattle.tower.specs.Compiled.{AreCompiled}
use Rattle.tower.specs.Program.{IsProgram}
use Rattle.tower.specs.Sources.{system_beside}
use Rattle.tower.specs.Spelled.{AreSpelled}
use Rattle.tower.specs.declared.program.ProgramError.{ProgramError}
use Rattle.tower.specs.declared.program.ProgramError.TheVariants as programs
use Rattle.command_line.specs.Line.{Source}
use Rattle.nand_cli.specs.Commands.Compile.{CompilePrints}
use Rattle.nand_cli.specs.Inner.Parts.{TellsWrong}
use Rattle.nand_cli.specs.JackFolder.{IsMeaningless, files_meant, home_of}
use Rattle.nand_cli.proofs.Means.{first_told}
use Rattle.nand_cli.proofs.Spelling.{HasTrees, seen_classes}

pub not_compiled : FirstLaw → (source : Source) (classes : List Class) (error : ProgramError) (e : LoadError) → AreSpelled classes → IsProgram source.replace classes (Err error)
    → TellsWrong source.folder error e → Loads (λ (files : List File). AreCompiled source.replace classes files) (IsMeaningless source (map the_file classes)) ⊥ (Err e)
not_compiled law source classes programs.Memory e spelled h tells = rw tells tt
not_compiled law source classes (programs.Name f) e spelled h tells =
    told (λ (files : List File). AreCompiled source.replace classes files) (IsMeaningless source (map the_file classes)) ⊥ (path_in (home_of source.folder f.shipped) f.file) (name_message f) e (first_told law source classes f spelled h) tells

-- the text of the first of the compiled files is what is printed
pub compiled_prints : (files : Option Files) (source : Source) (classes : List Class) (compiled : List File) → HasTrees files source.folder classes
    → AreCompiled source.replace classes compiled → CompilePrints files source (files_text (take (length classes) compiled))
compiled_prints files source classes compiled has (core, (os, are, is), e) =
    let own = map the_file classes in
    let many : length classes ≡ length own = sym (length-map classes the_file) in
    let whole : compiled ≡ files_meant own (map the_file os) = e ∙ (λ i. program_files (is.program i) (is.names i) (is.classes i)) in
    (own, map the_file os, seen_classes files source.folder classes has, seen_files (system_beside source.replace own) os are, is.well_named, λ i. files_text (take (many i) (whole i)))
