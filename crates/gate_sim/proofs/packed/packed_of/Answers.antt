use Rattle.std.proofs.Common.{◌+◌, length, ap, arith}
use Rattle.gate_sim.specs.Inner.Pieces.{piece_of, pieces_in}
use Rattle.gate_sim.proofs.Idle.{given_none, idle_on}
use Rattle.gate_sim.proofs.Taking.{bits_none, stored_none}
use Rattle.gate_sim.proofs.packed.packed_of.Goals as goal

pub invariant_of-result : goal.invariant_of-result
invariant_of-result c =
    let long = c.args.plan.ops.ok.0 in
    let slots = c.requires.slots in
    let start = c.requires.start in
    let fixed = c.requires.fixed in
    let marks = c.requires.marks in
    let due = c.requires.due in
    record {
      is_plan = c.requires.plan;
      are_takes = c.requires.takes;
      slots_long = omega arith;
      start_long = omega arith;
      fixed_long = omega arith;
      stored = stored_none _ _ _ _ c.requires.blank;
      readers = c.requires.readers;
      marks_long = c.requires.marks;
      due_long = c.requires.due;
      idle = λ small. idle_on _ _ _ _ _ _ (λ q. ap (λ s. s.change) (c.requires.blank q)) (λ m less. c.requires.on m (omega arith));
      still = λ small q. ap (λ s. s.change) (c.requires.blank q);
      given = given_none _ _ _ _ _ _ (λ t less. c.requires.on (pieces_in (length c.args.plan.ops.items) + piece_of t) (omega arith));
      taken = given_none _ _ _ _ _ _ (λ t less. c.requires.all_due (piece_of t) (omega arith));
    }

pub returns-clause-start : goal.returns-clause-start
returns-clause-start c = bits_none _ _ c.requires.no_start

pub returns-clause-fixed : goal.returns-clause-fixed
returns-clause-fixed c = bits_none _ _ c.requires.no_fixed
