use Rattle.std.proofs.Common.{◌∙◌, codes}
use Rattle.soak_program.specs.Generator.{IsNumber}
use Rattle.soak_program.proofs.Pieces.{then_adds, number_writes}
use Rattle.soak_program.proofs.generator.Generator.put_number.Goals as goal

pub returns : goal.returns
returns c =
    let before = c.args.self.now in
    let after = c.put-2.new.self in
    then_adds c.put-2.result (codes " ") (IsNumber c.args.k) before c.put.new.self after
    (λ last. number_writes c.args.k c.draw-number.result c.as_bytes.result.now before c.draw-number.new.self c.put.new.self after c.draw-number.ensures (c.as_bytes.ensures.value ∙ c.format.ensures.text) c.in_ok-put.ensures last) c.put-2.ensures
