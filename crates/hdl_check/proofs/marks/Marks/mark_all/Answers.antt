use Rattle.std.proofs.Common.{◌≡◌, ℕ, suc, ◌+◌, [], ◌∷◌, sym, subst, arith}
use Rattle.hdl_check.specs.Tables.{bits_of}
use Rattle.hdl_check.specs.Inner.Marked.{MarksMore}
use Rattle.hdl_check.proofs.MarkLemmas.{more_then, more_none}
use Rattle.hdl_check.proofs.marks.Marks.mark_all.Goals as goal

pub loop-k-init : goal.loop-k-init
loop-k-init c = more_none c.args.self.now

pub loop-k-preserved : goal.loop-k-preserved
loop-k-preserved c =
    let on : c.loop-k.k + 1 ≡ suc c.loop-k.k = omega arith in
    subst (λ (m : ℕ). MarksMore c.args.self.now c.mark.new.self (bits_of c.args.name.now c.args.first m)) (sym on)
    (more_then c.args.self.now c.loop-k.self c.mark.new.self (bits_of c.args.name.now c.args.first c.loop-k.k) (record { name = c.args.name.now; bit = c.args.first + c.loop-k.k } ∷ []) c.loop-k.invariant c.in_ok-mark.ensures)
