use Rattle.vm_debug.proofs.Adding.{all_subs}
use Rattle.vm_debug.proofs.places.subs_of.Goals as goal

pub returns : goal.returns
returns c =
    all_subs c.args.functions.now c.args.entries.now c.args.own.now c.args.system.now c.new-subs.result c.add_subs.new.subs c.add_subs-2.new.subs
    c.new-subs.ensures c.in_ok-add_subs.ensures c.in_ok-add_subs-2.ensures
