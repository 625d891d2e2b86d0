use Rattle.std.proofs.Common.{◌++◌, ◌∷◌, [], List, ℕ, decimal, take, subst, ◌∙◌, ap, arith}
use Rattle.std.proofs.lemmas.Fmt.{decimal_nonempty}
use Rattle.outer_world.specs.Written.{Passes}
use Rattle.outer_world.proofs.Refusing.{with_detail}
use Rattle.outer_world.proofs.refusal.put_detail.Goals as goal

pub returns-in-Number-clause-passes : goal.returns-in-Number-clause-passes
returns-in-Number-clause-passes g c =
    let P : List ℕ → Type 0 = λ t. Passes (g.S.Sink.state c.args.pieces.now.sink.now) (take c.args.pieces.now.len c.args.pieces.now.buffer) (g.S.Sink.state c.put_all.new.self.sink.now) (take c.put_all.new.self.len c.put_all.new.self.buffer) t c.put_all.result in
    let e = ap (λ (t : List ℕ). 32 ∷ (t ++ 10 ∷ [])) (c.as_bytes-value.ensures.value ∙ c.format.ensures.text) ∙ with_detail (decimal c.in-Number.value) (decimal_nonempty c.in-Number.value (omega arith)) in
    rw c.in-Number.is (subst P e c.put_all.ensures.passes)
