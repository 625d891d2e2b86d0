use Rattle.std.proofs.Common.{◌∙◌, ap, sym, subst, suc, false, arith}
use Rattle.std.specs.Prelude.{if◌then◌else◌}
use Rattle.std.proofs.lemmas.List.{get_or_default}
use Rattle.image_map.specs.Tallies.{HasTallied}
use Rattle.image_map.proofs.Tallying.{tallied_more}
use Rattle.image_map.proofs.tally.Tally.go.Goals as goal

pub returns-clause-tallied : goal.returns-clause-tallied
returns-clause-tallied c = λ pc n h e.
    let size = c.self.invariant.size in
    let commit = c.index-commit.ensures ∙ get_or_default c.self.inside.marks.items c.self.inside.at c.index-commit.result.now false (omega arith) ∙ c.self.invariant.marked c.self.inside.at in
    tallied_more c.self.inside.map c.self.inside.mapped c.self.inside.at c.self.inside.steps c.self.inside.seen c.args.address c.counted-self-inside.result c.last_seen-self-inside.result c.self.invariant.covers
    (c.counted-self-inside.ensures ∙ ap (λ b. if b then suc c.self.inside.steps else c.self.inside.steps) commit)
    c.last_seen-self-inside.ensures
    pc n (subst (λ t. HasTallied t pc n) (sym c.self.view_is) h) e
