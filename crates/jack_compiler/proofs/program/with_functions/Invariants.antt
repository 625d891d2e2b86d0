use Rattle.std.proofs.Common.{map, take, option_map}
use Rattle.jack_core.specs.Texts.{the_class, the_subroutine, names_of, class_names_of}
use Rattle.jack_compiler.specs.Inner.Added.{AreFiles}
use Rattle.jack_compiler.specs.Inner.Hollow.{whole_where}
use Rattle.jack_compiler.proofs.program.with_functions.Given as goal

abbrev pub invariant-loop-index : goal.invariant-loop-index
invariant-loop-index l =
    AreFiles (map the_class l.core.classes.items) (names_of l.core) (class_names_of l.core) (whole_where (option_map (λ m. m.now) l.marks) 1 (map the_subroutine (take l.index l.others))) l.files.items
