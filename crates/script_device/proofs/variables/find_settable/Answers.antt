use Rattle.std.proofs.Common.{subst}
use Rattle.script_device.proofs.Found.{WordFound, sets_nothing}
use Rattle.script_device.proofs.variables.find_settable.Goals as goal

pub returns-in-None : goal.returns-in-None
returns-in-None c = λ net calls same.
    sets_nothing net c.args.directory.now calls c.args.text.now c.in_default.ensures (subst (WordFound net c.args.directory.now c.args.text.now) c.in-None.is (c.part_word.ensures net same))
