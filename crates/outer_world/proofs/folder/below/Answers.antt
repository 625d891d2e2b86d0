use Rattle.std.proofs.Common.{◌++◌, ◌∙◌, ap, sym, arith}
use Rattle.std.proofs.lemmas.Str.Pattern.{strip_prefix_char}
use Rattle.outer_world.proofs.Entries.{below_rest}
use Rattle.outer_world.proofs.folder.below.Goals as goal

pub returns-in-Some : goal.returns-in-Some
returns-in-Some c =
    let h = c.in-Some.ensures.cases in
    below_rest c.args.path.now c.args.folder.now c.in-Some.rest.now c.strip_prefix-in-Some.result (h.1.1 ∙ ap (λ y. c.args.folder.now ++ y) (sym h.2))
    (strip_prefix_char 47 c.in-Some.rest.now c.strip_prefix-in-Some.result c.strip_prefix-in-Some.ensures.cases (omega arith))
