use Rattle.std.proofs.Common.{◌<◌, length, sym, ap, ◌∙◌, arith}
use Rattle.std.specs.Prelude.{Some, slice_index}
use Rattle.hdl_flatten.proofs.Heads.{got}
use Rattle.hdl_flatten.proofs.parts.told_number.Goals as goal

pub returns-then-are_same_kinds : goal.returns-then-are_same_kinds
returns-then-are_same_kinds c =
    let kinds = c.args.kinds.now in
    let number = slice_index c.args.numbers.now c.args.hint in
    let lt : number < length kinds = omega arith in
    got kinds number c.index-kinds-number.result lt ∙ ap Some (sym c.index-kinds-number.is ∙ c.are_same_kinds.ensures c.if-are_same_kinds.true)
