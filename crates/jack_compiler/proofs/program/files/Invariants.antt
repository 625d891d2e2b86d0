use Rattle.std.proofs.Common.{◌≡◌, map, take, []}
use Rattle.jack_compiler.specs.Files.{file_of}
use Rattle.jack_compiler.proofs.program.files.Given as goal

abbrev pub invariant-loop-class : goal.invariant-loop-class
invariant-loop-class l = l.files.items ≡ map (λ class. file_of class.name []) (take l.class-index l.classes)
