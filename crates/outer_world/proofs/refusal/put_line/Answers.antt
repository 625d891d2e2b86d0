use Rattle.std.proofs.Common.{List, ℕ, take, subst, sym, ◌∙◌, ap, ◌++◌}
use Rattle.outer_world.specs.Inner.Parts.{front_of, rest_of}
use Rattle.outer_world.specs.Refusals.{Message}
use Rattle.outer_world.specs.Written.{Passes}
use Rattle.outer_world.specs.declared.sink.Put.TheVariants as put
use Rattle.outer_world.proofs.Passing.{Passes-then, Passes-cut}
use Rattle.outer_world.proofs.Refusing.{line-parts}
use Rattle.outer_world.proofs.refusal.put_line.Goals as goal

pub returns-in-Done-clause-passes : goal.returns-in-Done-clause-passes
returns-in-Done-clause-passes g c =
    let P : List ℕ → Type 0 = λ t. Passes (g.S.Sink.state c.args.pieces.now.sink.now) (take c.args.pieces.now.len c.args.pieces.now.buffer) (g.S.Sink.state c.put_detail.new.pieces.sink.now) (take c.put_detail.new.pieces.len c.put_detail.new.pieces.buffer) t c.put_detail.result in
    let e = ap (λ (m : Message). front_of c.args.path.now c.args.told.now ++ rest_of m.detail) c.told.view_is ∙ sym (line-parts c.args.path.now c.args.told.now) in
    subst P e (Passes-then _ _ _ _ _ _ _ _ _ c.in-Done.ensures.passes c.put_detail.ensures.passes)

pub returns-in-Failed-clause-passes : goal.returns-in-Failed-clause-passes
returns-in-Failed-clause-passes g c =
    let P : List ℕ → Type 0 = λ t. Passes (g.S.Sink.state c.args.pieces.now.sink.now) (take c.args.pieces.now.len c.args.pieces.now.buffer) (g.S.Sink.state c.put_front.new.pieces.sink.now) (take c.put_front.new.pieces.len c.put_front.new.pieces.buffer) t put.Failed in
    subst P (sym (line-parts c.args.path.now c.args.told.now)) (Passes-cut _ _ _ _ _ _ c.in-Failed.ensures.passes)
