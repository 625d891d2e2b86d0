use Rattle.std.proofs.Common.{◌<◌, false, refl, arith, ap, sym, ◌∙◌, inl, inr, length, set, get_or-set_same, get_or-set_other}
use Rattle.std.proofs.lemmas.Bool.{cases_Bool, cases_eq, cases_lt}
use Rattle.netlist.specs.Present.{value_in}
use Rattle.gate_sim.specs.Inner.Pieces.{piece_of}
use Rattle.gate_sim.proofs.Idle.{past_still}
use Rattle.gate_sim.proofs.marked.calm_pieces.Goals as goal

pub loop-p-init : goal.loop-p-init
loop-p-init c = record {
  values = λ q. refl;
  done = λ q less. absurd (omega arith);
  off = c.requires.still;
  pieces = λ m less. absurd (omega arith);
  rest = λ m le. refl;
}

pub loop-p-preserved : goal.loop-p-preserved
loop-p-preserved c =
    let marked = c.requires.marks in
    let inside : c.loop-p.p < length c.loop-p.marks = omega arith in
    record {
      values = λ q. c.calm_marked.ensures.values q ∙ c.loop-p.invariant.values q;
      done = λ q less. elim (cases_eq (piece_of q) c.loop-p.p) [
        | inl e ↦ elim (cases_Bool (value_in c.loop-p.marks c.loop-p.p)) [
          | inl on ↦ c.calm_marked.ensures.still on q e
          | inr off ↦ c.calm_marked.ensures.kept q (c.loop-p.invariant.off q (ap (value_in c.args.marks.now) e ∙ sym (c.loop-p.invariant.rest c.loop-p.p (omega arith)) ∙ off))
        ]
        | inr ne ↦ c.calm_marked.ensures.kept q (c.loop-p.invariant.done q (omega arith))
      ];
      off = λ q no. c.calm_marked.ensures.kept q (c.loop-p.invariant.off q no);
      pieces = λ m less. elim (cases_eq m c.loop-p.p) [
        | inl e ↦ ap (value_in (set c.loop-p.marks c.loop-p.p (value_in c.args.always.now c.loop-p.p))) e ∙ get_or-set_same c.loop-p.marks c.loop-p.p (value_in c.args.always.now c.loop-p.p) false inside ∙ ap (value_in c.args.always.now) (sym e)
        | inr ne ↦ get_or-set_other c.loop-p.marks c.loop-p.p m (value_in c.args.always.now c.loop-p.p) false ne ∙ c.loop-p.invariant.pieces m (omega arith)
      ];
      rest = λ m le. get_or-set_other c.loop-p.marks c.loop-p.p m (value_in c.args.always.now c.loop-p.p) false (omega arith) ∙ c.loop-p.invariant.rest m (omega arith);
    }

pub returns-clause-still : goal.returns-clause-still
returns-clause-still c q =
    let long = c.requires.always in
    elim (cases_lt (piece_of q) c.loop-p.p) [
      | inl less ↦ c.loop-p.invariant.done q less
      | inr past ↦ past_still c.loop-p.slots q (omega arith)
    ]

pub returns-clause-pieces : goal.returns-clause-pieces
returns-clause-pieces c m less = let long = c.requires.always in c.loop-p.invariant.pieces m (omega arith)

pub returns-clause-takes : goal.returns-clause-takes
returns-clause-takes c m le = let long = c.requires.always in c.loop-p.invariant.rest m (omega arith)
