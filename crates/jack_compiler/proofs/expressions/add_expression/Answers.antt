use Rattle.std.proofs.Common.{◌≤◌, ◌++◌, length, sym, ap, ◌∙◌, arith}
use Rattle.std.proofs.lemmas.List.{append-nil, drop_all}
use Rattle.jack_compiler.specs.Inner.Surroundings.{the_around}
use Rattle.jack_compiler.specs.Inner.Postfix.{parts_lines}
use Rattle.jack_compiler.proofs.Named.{parts_named, part_named}
use Rattle.jack_compiler.proofs.Postfix.{spelled_lines}
use Rattle.jack_compiler.proofs.expressions.add_expression.Goals as goal

pub add_part-requires : goal.add_part-requires
add_part-requires c =
    part_named c.args.around.now c.as_slice-part-items.result.now c.args.e.now.parts c.loop-part.part-index _ c.as_slice-part-items.ensures c.loop-part-test.true
    (parts_named c.args.around.now c.args.e.now c.requires)

pub returns : goal.returns
returns c =
    let over : length c.args.e.now.parts ≤ c.loop-part.part-index = omega (arith, ap length c.as_slice-part-items.ensures) in
    sym (append-nil c.loop-part.lines)
    ∙ ap (λ z. c.loop-part.lines ++ parts_lines (the_around c.args.around.now) c.args.statement z) (sym (drop_all c.loop-part.part-index c.args.e.now.parts over))
    ∙ c.loop-part.invariant
    ∙ ap (λ z. c.args.lines.now ++ z) (spelled_lines (the_around c.args.around.now) c.args.statement c.args.e.now)
