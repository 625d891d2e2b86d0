use Rattle.std.proofs.Common.{◌≡◌, ◌++◌, length, map}
use Rattle.jack_core.specs.Texts.{the_subroutine}
use Rattle.jack_names.specs.Limits.{AllHaveFew}
use Rattle.jack_names.specs.Inner.Whole.{class_fault, class_subroutines, subroutine_name}
use Rattle.jack_names.specs.Resolved.{the_name}
use Rattle.jack_names.specs.Inner.Named.{the_class_scope}
use Rattle.jack_names.proofs.classes.resolve_subroutines.Given as goal

abbrev pub invariant-loop-s : goal.invariant-loop-s
invariant-loop-s l = record {
  left : class_fault (the_class_scope l.class) l.rest ≡ class_fault (the_class_scope l.class) l.trees;
  program : map the_subroutine l.subroutines.items ++ class_subroutines (the_class_scope l.class) l.owner.fields l.rest ≡ map the_subroutine l.fn.subroutines.items ++ class_subroutines (the_class_scope l.class) l.owner.fields l.trees;
  names : map the_name l.subroutines.items ++ map (subroutine_name l.owner.name.now) l.rest ≡ map the_name l.fn.subroutines.items ++ map (subroutine_name l.owner.name.now) l.trees;
  few : AllHaveFew l.rest;
}

abbrev pub decreases-loop-s : goal.decreases-loop-s
decreases-loop-s l = length l.rest
