use Rattle.hdl_check.proofs.Order.{one_first, not_both}
use Rattle.hdl_check.proofs.elab.order_law.Goals as goal

pub returns : goal.returns
returns c = λ chips outer entry. record { one = one_first chips outer entry; not_both = not_both chips outer entry }
