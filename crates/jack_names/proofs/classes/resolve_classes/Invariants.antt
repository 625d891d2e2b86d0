use Rattle.std.proofs.Common.{◌≡◌, ◌+◌, ◌++◌, length, map}
use Rattle.jack_core.specs.Texts.{the_subroutine}
use Rattle.jack_names.specs.Limits.{AreWithin}
use Rattle.jack_names.specs.Inner.Whole.{uses_fault, all_statics, subroutines_meant, names_meant}
use Rattle.jack_names.specs.Resolved.{the_name}
use Rattle.jack_names.specs.Inner.Named.{the_symbols}
use Rattle.jack_names.proofs.classes.resolve_classes.Given as goal

abbrev pub invariant-loop-class : goal.invariant-loop-class
invariant-loop-class l = record {
  left : uses_fault (the_symbols l.names) l.shipped l.own l.statics l.rest ≡ uses_fault (the_symbols l.names) l.shipped l.first l.before l.classes;
  program : map the_subroutine l.subroutines.items ++ subroutines_meant (the_symbols l.names) l.shipped l.own l.statics l.rest ≡ map the_subroutine l.fn.subroutines.items ++ subroutines_meant (the_symbols l.names) l.shipped l.first l.before l.classes;
  names : map the_name l.subroutines.items ++ names_meant l.rest ≡ map the_name l.fn.subroutines.items ++ names_meant l.classes;
  counted : l.own + length l.rest ≡ l.first + length l.classes;
  statics : l.statics + all_statics l.rest ≡ l.before + all_statics l.classes;
  within : AreWithin l.rest;
}

abbrev pub decreases-loop-class : goal.decreases-loop-class
decreases-loop-class l = length l.rest
