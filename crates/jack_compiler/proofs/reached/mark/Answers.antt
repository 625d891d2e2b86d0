use Rattle.std.proofs.Common.{◌∙◌, ◌<◌, length, refl, arith, rules}
use Rattle.vm_link.proofs.Marking.{marked_by}
use Rattle.jack_compiler.proofs.Searching.{visits_one}
use Rattle.jack_compiler.proofs.reached.mark.Goals as goal

pub returns : goal.returns
returns c =
    let b : c.args.number < length c.args.search.now.marks.items = first_of (omega arith, search rules) in
    visits_one c.args.number c.args.search.now _ b (marked_by c.args.search.now.marks.items c.args.number c.index.result.now _ b c.index.ensures ∙ c.if-index.false) refl
    c.in_ok-push.ensures.items
