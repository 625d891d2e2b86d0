use Rattle.std.proofs.Common.{length}
use Rattle.vm_debug.proofs.Adding.{all_classes}
use Rattle.vm_debug.proofs.places.classes_of.Goals as goal

pub returns : goal.returns
returns c =
    all_classes c.args.files.now (length c.args.own.now) c.args.own.now c.args.system.now c.new-classes.result c.add_classes.new.placed c.add_classes-2.new.placed
    c.new-classes.ensures c.in_ok-add_classes.ensures c.in_ok-add_classes-2.ensures
