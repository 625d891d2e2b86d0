use Rattle.tower.proofs.Limits.{spelled_read}
use Rattle.tower.proofs.Programs.{few_classes, subroutines_counted, own_within, os_within, core_means, core_resolved}
use Rattle.tower.proofs.program.core_of.Goals as goal

pub resolve-requires-clause-classes : goal.resolve-requires-clause-classes
resolve-requires-clause-classes c = few_classes spelled_read c.args.replace c.args.own.now c.args.os.now c.requires.few c.requires.spelled c.requires.os

pub resolve-requires-clause-subroutines : goal.resolve-requires-clause-subroutines
resolve-requires-clause-subroutines c = subroutines_counted spelled_read c.args.replace c.args.own.now c.args.os.now c.requires.few c.requires.spelled c.requires.os

pub resolve-requires-clause-own : goal.resolve-requires-clause-own
resolve-requires-clause-own c = own_within spelled_read c.args.replace c.args.own.now c.args.os.now c.requires.few c.requires.spelled c.requires.os

pub resolve-requires-clause-os : goal.resolve-requires-clause-os
resolve-requires-clause-os c = os_within spelled_read c.args.replace c.args.own.now c.args.os.now c.requires.few c.requires.spelled c.requires.os

pub returns-in-Ok-clause-means : goal.returns-in-Ok-clause-means
returns-in-Ok-clause-means c = core_means spelled_read c.args.replace c.args.own.now c.args.os.now c.requires.few c.requires.spelled c.requires.os c.in-Ok.core c.in-Ok.ensures.names c.in-Ok.ensures.tells c.in-Ok.ensures.meaning c.in-Ok.ensures.classes

pub returns-in-Ok-clause-resolved : goal.returns-in-Ok-clause-resolved
returns-in-Ok-clause-resolved c = core_resolved spelled_read c.args.replace c.args.own.now c.args.os.now c.requires.few c.requires.spelled c.requires.os c.in-Ok.core c.in-Ok.ensures.names c.in-Ok.ensures.checks c.in-Ok.ensures.program
