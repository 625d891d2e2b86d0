use Rattle.std.proofs.Common.{◌≡◌, ◌++◌, ◌≤◌, length, map}
use Rattle.jack_core.specs.Texts.{the_class}
use Rattle.jack_names.specs.Limits.{AreWithin}
use Rattle.jack_names.specs.Inner.Whole.{all_statics, class_meant, class_names}
use Rattle.jack_names.specs.Resolved.{the_class_name}
use Rattle.jack_names.proofs.program.push_classes.Given as goal

abbrev pub invariant-loop-class : goal.invariant-loop-class
invariant-loop-class l = record {
  whole : map the_class l.classes.items ++ map class_meant l.rest ≡ map the_class l.fn.classes.items ++ map class_meant l.trees;
  names : map the_class_name l.classes.items ++ class_names l.rest ≡ map the_class_name l.fn.classes.items ++ class_names l.trees;
  statics : all_statics l.rest ≤ all_statics l.trees;
  within : AreWithin l.rest;
}

abbrev pub decreases-loop-class : goal.decreases-loop-class
decreases-loop-class l = length l.rest
