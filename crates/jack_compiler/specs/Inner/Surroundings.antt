-- What is round a subroutine, in the code.
use Rattle.std.specs.Prelude.{map}
use Rattle.jack_compiler.specs.Lines.{Around}
use Rattle.jack_compiler.specs.Files.{name_at}
use Rattle.jack_compiler.specs.declared.expressions.Around.{Around as TheAround}

abbrev pub the_around : TheAround → Around
the_around around = record { name = name_at (map (λ sub. sub.name) around.subroutines.now); before = around.before }
