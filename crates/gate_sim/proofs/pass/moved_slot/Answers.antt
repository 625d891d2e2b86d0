use Rattle.gate_sim.proofs.Lanes.{moved_value, moved_change, kept_value, kept_change}
use Rattle.gate_sim.proofs.pass.moved_slot.Goals as goal

pub returns-clause-moved : goal.returns-clause-moved
returns-clause-moved c l less on le small =
    let below = c.args.below in
    let a = c.args.a in
    let value = moved_value below.change below.value a.change a.value c.args.mask c.args.up c.args.down c.both-under.ensures.fits c.both.ensures.fits c.both-lanes.ensures.fits l less on le small in
    let change = moved_change below.change below.value a.change a.value c.args.mask c.args.up c.args.down c.both-under.ensures.fits c.both.ensures.fits c.both-lanes.ensures.fits l less on le small in
    rw (c.both-under.ensures.word, c.both.ensures.word, c.both-lanes.ensures.word) (value, change)

pub returns-clause-kept : goal.returns-clause-kept
returns-clause-kept c l less off =
    let below = c.args.below in
    let a = c.args.a in
    let value = kept_value below.change below.value a.change a.value c.args.mask c.args.up c.args.down c.both-under.ensures.fits c.both.ensures.fits c.both-lanes.ensures.fits l less off in
    let change = kept_change below.change below.value a.change a.value c.args.mask c.args.up c.args.down c.both-under.ensures.fits c.both.ensures.fits c.both-lanes.ensures.fits l less off in
    rw (c.both-under.ensures.word, c.both.ensures.word, c.both-lanes.ensures.word) (value, change)
