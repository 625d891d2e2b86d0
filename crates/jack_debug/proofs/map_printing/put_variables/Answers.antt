use Rattle.std.proofs.Common.{◌≡◌, ◌∙◌, ap, drop, ◌+◌, ◌++◌, ℕ, List, ◌∷◌, arith, add-zero, refl}
use Rattle.outer_world.proofs.Prints.{prints_start, prints_more, prints_failed, rest_at}
use Rattle.jack_debug.specs.MapText.{variable_line, variable_lines}
use Rattle.jack_debug.proofs.map_printing.put_variables.Goals as goal

lines_next : (sub kind : List ℕ) (first i : ℕ) (x : List ℕ) (xs : List (List ℕ)) → drop i xs ≡ x ∷ drop (i + 1) xs
    → variable_lines sub kind (first + i) (drop i xs) ≡ variable_line sub kind (first + i) x ++ variable_lines sub kind (first + (i + 1)) (drop (i + 1) xs)
lines_next sub kind first i x xs e =
    let next : first + i + 1 ≡ first + (i + 1) = omega arith in
    ap (variable_lines sub kind (first + i)) e ∙ ap (λ (n : ℕ). variable_line sub kind (first + i) x ++ variable_lines sub kind n (drop (i + 1) xs)) next

pub returns-in-Failed-clause-passes : goal.returns-in-Failed-clause-passes
returns-in-Failed-clause-passes g c =
    let xs = c.args.names.now in
    let i = c.loop-i.i in
    prints_failed _ _ _ (variable_lines c.args.sub.now c.args.kind.now (c.args.first + (i + 1)) (drop (i + 1) xs)) _ _ _ _ _ _
    (lines_next c.args.sub.now c.args.kind.now c.args.first i c.index-names-i.result xs (rest_at xs i c.index-names-i.result c.loop-i-test.true c.index-names-i.is))
    c.loop-i.invariant.1 c.in-Failed.ensures.passes

pub loop-i-preserved : goal.loop-i-preserved
loop-i-preserved g c =
    let xs = c.args.names.now in
    let i = c.loop-i.i in (
      c.in-Done.ensures.same_sink ∙ c.loop-i.invariant.0,
      prints_more _ _ _ (variable_lines c.args.sub.now c.args.kind.now (c.args.first + (i + 1)) (drop (i + 1) xs)) _ _ _ _ _ _
          (lines_next c.args.sub.now c.args.kind.now c.args.first i c.index-names-i.result xs (rest_at xs i c.index-names-i.result c.loop-i-test.true c.index-names-i.is))
          c.loop-i.invariant.1 c.in-Done.ensures.passes,
    )

pub loop-i-init : goal.loop-i-init
loop-i-init g c = (refl, rw add-zero (prints_start _ _ _))
