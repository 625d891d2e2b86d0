use Rattle.std.proofs.Common.{◌≡◌, ℕ, suc, ◌+◌, ap, sym, ◌∙◌, arith}
use Rattle.hdl_check.specs.Tables.{bits_of}
use Rattle.hdl_check.specs.Inner.Marked.{some_marked}
use Rattle.hdl_check.proofs.MarkLemmas.{span_within, span_has}
use Rattle.hdl_check.proofs.marks.Marks.has_some.Goals as goal

pub returns-then-has : goal.returns-then-has
returns-then-has c = sym (span_within c.args.self.now c.args.name.now c.args.first c.loop-k.k c.args.count c.loop-k-test.true (sym c.has.ensures ∙ c.if-has.true))

pub loop-k-preserved : goal.loop-k-preserved
loop-k-preserved c =
    let on : c.loop-k.k + 1 ≡ suc c.loop-k.k = omega arith in
    ap (λ (m : ℕ). some_marked c.args.self.now (bits_of c.args.name.now c.args.first m)) on
    ∙ span_has c.args.self.now c.args.name.now c.args.first c.loop-k.k (sym c.has.ensures ∙ c.if-has.false) c.loop-k.invariant
