use Rattle.std.proofs.Common.{inl, refl}
use Rattle.hdl_check.specs.Whole.{chips_in}
use Rattle.hdl_loops.proofs.Parting.{place_done}
use Rattle.hdl_loops.proofs.find.enter.Goals as goal

pub returns-then-is_known : goal.returns-then-is_known
returns-then-is_known c =
    inl (refl, place_done (chips_in c.args.entries.now c.args.memories) c.args.known.now c.args.part.now c.as_bytes.result.now c.in-Some.k c.as_bytes.ensures (c.in-Some.ensures.value c.args.entries.now c.requires.placed) (λ chip at no_end. c.is_known.ensures c.if-is_known.true))
