use Rattle.std.proofs.Common.{◌++◌, codes}
use Rattle.outer_world.proofs.Passing.{Passes-cut, Passes-then}
use Rattle.outer_world.specs.declared.sink.Put.TheVariants as put
use Rattle.jack_debug.specs.MapText.{variable_lines}
use Rattle.jack_debug.specs.Walk.{first_named}
use Rattle.jack_debug.proofs.map_printing.put_sub.Goals as goal

pub returns-in-Failed-clause-passes : goal.returns-in-Failed-clause-passes
returns-in-Failed-clause-passes g c = Passes-cut _ _ _ _ _ _ c.in-Failed.ensures.passes

pub returns-in-Failed-put_variables-clause-passes : goal.returns-in-Failed-put_variables-clause-passes
returns-in-Failed-put_variables-clause-passes g c =
    let s = c.args.sub.now in
    let arguments = variable_lines s.name (codes "argument") (first_named s.form) s.arguments in
    let locals = variable_lines s.name (codes "local") 0 s.locals in
    Passes-then _ _ _ _ _ _ _ (arguments ++ locals) put.Failed c.in-Done.ensures.passes
    (Passes-cut _ _ _ _ arguments locals (rw (c.first_named-first.ensures.value, c.as_slice-arguments.ensures) at c.in-Failed-put_variables.ensures.passes))

pub returns-in-Done-put_variables-clause-passes : goal.returns-in-Done-put_variables-clause-passes
returns-in-Done-put_variables-clause-passes g c =
    Passes-then _ _ _ _ _ _ _ _ _ c.in-Done.ensures.passes
    (Passes-then _ _ _ _ _ _ _ _ _ (rw (c.first_named-first.ensures.value, c.as_slice-arguments.ensures) at c.in-Done-put_variables.ensures.passes)
    (rw c.as_slice.ensures at c.put_variables-in-Done-put_variables.ensures.passes))
