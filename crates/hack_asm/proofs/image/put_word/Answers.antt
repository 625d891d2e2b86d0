use Rattle.std.proofs.Common.{[], ◌∷◌, List, ℕ, take, subst}
use Rattle.word16.specs.Words.{binary_text}
use Rattle.outer_world.specs.Written.{Passes}
use Rattle.outer_world.specs.declared.sink.Put.TheVariants as put
use Rattle.outer_world.proofs.Passing.{Passes-then, Passes-cut}
use Rattle.hack_asm.proofs.image.put_word.Goals as goal

pub returns-in-Done-clause-passes : goal.returns-in-Done-clause-passes
returns-in-Done-clause-passes g c =
    let P : List ℕ → Type 0 = λ t. Passes (g.S.Sink.state c.args.out.now.sink.now) (take c.args.out.now.len c.args.out.now.buffer) (g.S.Sink.state c.put.new.self.sink.now) (take c.put.new.self.len c.put.new.self.buffer) t put.Done in
    Passes-then _ _ _ _ _ _ (binary_text c.args.word) (10 ∷ []) _ (subst P c.binary_digits.ensures c.in-Done.ensures.passes) c.put-in-Done.ensures.passes

pub returns-in-Failed-clause-passes : goal.returns-in-Failed-clause-passes
returns-in-Failed-clause-passes g c =
    let P : List ℕ → Type 0 = λ t. Passes (g.S.Sink.state c.args.out.now.sink.now) (take c.args.out.now.len c.args.out.now.buffer) (g.S.Sink.state c.put.new.self.sink.now) (take c.put.new.self.len c.put.new.self.buffer) t put.Failed in
    Passes-cut _ _ _ _ (binary_text c.args.word) (10 ∷ []) (subst P c.binary_digits.ensures c.in-Failed.ensures.passes)
