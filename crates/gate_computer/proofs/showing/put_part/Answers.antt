use Rattle.std.proofs.Common.{ℕ, ◌++◌, ◌∷◌, [], ap, ◌∙◌}
use Rattle.std.specs.Prelude.{map}
use Rattle.machine_io.proofs.Handed.{handed_as, three_cut, three_cut_later, three_handed}
use Rattle.netlist.specs.Present.{value_in}
use Rattle.gate_computer.specs.Parts.{digit}
use Rattle.gate_computer.proofs.Outputs.{line_is}
use Rattle.gate_computer.proofs.showing.put_part.Goals as goal

pub returns-clause-passes : goal.returns-clause-passes
returns-clause-passes g c =
    let f : ℕ → ℕ = λ node. digit (value_in c.args.sim.now.values node) in
    let part = c.args.part.now in
    handed_as _ _ _ _ _ _ _
    (ap (λ n. ((n ++ 32 ∷ []) ++ map f c.as_slice.result.now) ++ 10 ∷ []) c.as_bytes.ensures
    ∙ ap (λ l. ((part.chip ++ 32 ∷ []) ++ map f l) ++ 10 ∷ []) c.as_slice.ensures
    ∙ line_is part.chip (map f part.outputs))
    (three_handed _ _ _ _ _ _ _ _ _ _ _ _ c.in-Done.ensures.passes c.in-Done-put_digits.ensures.passes c.put.ensures.passes)

pub returns-in-Failed-clause-passes : goal.returns-in-Failed-clause-passes
returns-in-Failed-clause-passes g c =
    let f : ℕ → ℕ = λ node. digit (value_in c.args.sim.now.values node) in
    let part = c.args.part.now in
    handed_as _ _ _ _ _ _ _
    (ap (λ n. ((n ++ 32 ∷ []) ++ map f part.outputs) ++ 10 ∷ []) c.as_bytes.ensures ∙ line_is part.chip (map f part.outputs))
    (three_cut _ _ _ _ _ (map f part.outputs) (10 ∷ []) c.in-Failed.ensures.passes)

pub returns-in-Failed-put_digits-clause-passes : goal.returns-in-Failed-put_digits-clause-passes
returns-in-Failed-put_digits-clause-passes g c =
    let f : ℕ → ℕ = λ node. digit (value_in c.args.sim.now.values node) in
    let part = c.args.part.now in
    handed_as _ _ _ _ _ _ _
    (ap (λ n. ((n ++ 32 ∷ []) ++ map f c.as_slice.result.now) ++ 10 ∷ []) c.as_bytes.ensures
    ∙ ap (λ l. ((part.chip ++ 32 ∷ []) ++ map f l) ++ 10 ∷ []) c.as_slice.ensures
    ∙ line_is part.chip (map f part.outputs))
    (three_cut_later _ _ _ _ _ _ _ _ (10 ∷ []) c.in-Done.ensures.passes c.in-Failed-put_digits.ensures.passes)
