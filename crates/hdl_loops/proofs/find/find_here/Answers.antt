use Rattle.std.proofs.Common.{◌≡◌, length, Some, refl, subst}
use Rattle.std.specs.Prelude.{slice_get}
use Rattle.std.proofs.lemmas.Option.{slice_get_read}
use Rattle.hdl_check.specs.Whole.{chips_in}
use Rattle.hdl_loops.specs.Inner.Knowing.{IsRight}
use Rattle.hdl_loops.specs.Inner.Looked.{LooksRight}
use Rattle.hdl_plans.specs.Loops.{IsLoop}
use Rattle.hdl_loops.proofs.Noting.{known_more}
use Rattle.hdl_loops.proofs.find.find_here.Goals as goal

pub returns-in-Fine-clause-right : goal.returns-in-Fine-clause-right
returns-in-Fine-clause-right c =
    let chips = chips_in c.args.entries.now c.args.memories in
    let es = c.args.entries.now in
    let there : slice_get es c.args.k ≡ Some c.index-entries-k.result = slice_get_read es (length es) c.args.k c.index-entries-k.result refl c.requires.there c.index-entries-k.is in
    let right : IsRight chips c.args.known.now c.index-entries-k.result c.in-Fine.inside = subst (LooksRight chips c.args.known.now c.index-entries-k.result) c.in-Fine.is c.in_ok-nets.ensures in
    known_more chips c.args.known.now c.note.new.known c.args.k c.index-entries-k.result c.in-Fine.inside c.note.ensures there c.requires.right right

pub returns-in-Loop-clause-told : goal.returns-in-Loop-clause-told
returns-in-Loop-clause-told c = λ chip at.
    let chips = chips_in c.args.entries.now c.args.memories in
    let es = c.args.entries.now in
    let there : slice_get es c.args.k ≡ Some c.index-entries-k.result = slice_get_read es (length es) c.args.k c.index-entries-k.result refl c.requires.there c.index-entries-k.is in
    let same : c.index-entries-k.result ≡ chip = cc in
    let loop : IsLoop chips c.index-entries-k.result c.in-Loop.nets.items = subst (LooksRight chips c.args.known.now c.index-entries-k.result) c.in-Loop.is c.in_ok-nets.ensures in
    subst (λ v. IsLoop chips v c.in-Loop.nets.items) same loop

pub look_at-requires-clause-done : goal.look_at-requires-clause-done
look_at-requires-clause-done c =
    let es = c.args.entries.now in
    c.requires.done c.index-entries-k.result (slice_get_read es (length es) c.args.k c.index-entries-k.result refl c.requires.there c.index-entries-k.is)

pub look_at-requires-clause-nests : goal.look_at-requires-clause-nests
look_at-requires-clause-nests c =
    let es = c.args.entries.now in
    c.requires.nests c.index-entries-k.result (slice_get_read es (length es) c.args.k c.index-entries-k.result refl c.requires.there c.index-entries-k.is)
