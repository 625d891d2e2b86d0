use Rattle.std.proofs.Common.{◌≡◌, true, false, sym, ◌∙◌, ap}
use Rattle.outer_world.specs.Entries.{ends_like_a_source, is_dots}
use Rattle.outer_world.proofs.Listed.{text_passes, dots_left, text_taken, source_refused, other_passes, other_left}
use Rattle.outer_world.proofs.standard.text_of_name.Goals as goal

pub returns-in-Ok-clause-refused : goal.returns-in-Ok-clause-refused
returns-in-Ok-clause-refused c = text_passes c.args.name.now c.in-Ok.ensures.cases.1

pub returns-in-Ok-clause-taken : goal.returns-in-Ok-clause-taken
returns-in-Ok-clause-taken c =
    let d : is_dots c.in-Ok.text.now ≡ true = sym c.is_dots.ensures ∙ c.if-is_dots.true in
    dots_left c.args.name.now (ap is_dots (sym c.in-Ok.ensures.cases.0) ∙ d)

pub returns-in-Ok-2-clause-refused : goal.returns-in-Ok-2-clause-refused
returns-in-Ok-2-clause-refused c = text_passes c.args.name.now c.in-Ok.ensures.cases.1

pub returns-in-Ok-2-clause-taken : goal.returns-in-Ok-2-clause-taken
returns-in-Ok-2-clause-taken c =
    let d : is_dots c.in-Ok.text.now ≡ false = sym c.is_dots.ensures ∙ c.if-is_dots.false in
    (text_taken c.args.name.now c.in-Ok.ensures.cases.1 (ap is_dots (sym c.in-Ok.ensures.cases.0) ∙ d), c.in-Ok.ensures.cases.0)

pub returns-in-Err-clause-refused : goal.returns-in-Err-clause-refused
returns-in-Err-clause-refused c =
    let e : ends_like_a_source c.args.name.now ≡ true = sym c.ends_like_a_source.ensures ∙ c.if-ends_like_a_source.true in
    (source_refused c.args.name.now c.in-Err.ensures.cases.0 e, c.from.ensures)

pub returns-in-Err-2-clause-refused : goal.returns-in-Err-2-clause-refused
returns-in-Err-2-clause-refused c =
    let e : ends_like_a_source c.args.name.now ≡ false = sym c.ends_like_a_source.ensures ∙ c.if-ends_like_a_source.false in
    other_passes c.args.name.now e

pub returns-in-Err-2-clause-taken : goal.returns-in-Err-2-clause-taken
returns-in-Err-2-clause-taken c = other_left c.args.name.now c.in-Err.ensures.cases.0
