-- A line that is no test script prints one thing or is refused for one thing, and not both.
use Rattle.jack_parser.specs.Spelled.{ClassLaw}
use Rattle.key_script.specs.Grammar.{ReadingLaw as KeyLaw}
use Rattle.command_line.specs.Line.{build, chip, compile, debug, map_image, of_classes, of_file, run, soak, test, vm}
use Rattle.command_laws.specs.Exact.{ChipExactLaw, ClassesExactLaw, ExactLaw, FileExactLaw, SoakExactLaw, VmExactLaw}
use Rattle.command_laws.proofs.BuildExactly.{build_exact, map_exact}
use Rattle.command_laws.proofs.CompileExactly.{compile_exact}
use Rattle.command_laws.proofs.DebugExactly.{debug_exact}
use Rattle.command_laws.proofs.RunExactly.{run_exact}

pub classes_exact : ClassLaw → KeyLaw → ClassesExactLaw
classes_exact jack_law key_law files source compile = compile_exact jack_law files source
classes_exact jack_law key_law files source build = build_exact jack_law files source
classes_exact jack_law key_law files source (map_image format) = map_exact jack_law files source format
classes_exact jack_law key_law files source (run level cycles keys) = run_exact jack_law key_law files source level cycles keys
classes_exact jack_law key_law files source (debug sub number cycles keys) = debug_exact jack_law key_law files source sub number cycles keys

pub exact : ClassesExactLaw → FileExactLaw → VmExactLaw → ChipExactLaw → SoakExactLaw → ExactLaw
exact for_classes for_file for_vm for_chip for_soak files (of_classes source work) other = for_classes files source work
exact for_classes for_file for_vm for_chip for_soak files (of_file path work) other = for_file files path work
exact for_classes for_file for_vm for_chip for_soak files (vm folder bare) other = for_vm files folder bare
exact for_classes for_file for_vm for_chip for_soak files (chip name) other = for_chip files name
exact for_classes for_file for_vm for_chip for_soak files (test path gates simplify) other = absurd other
exact for_classes for_file for_vm for_chip for_soak files (soak seed count) other = for_soak files seed count
