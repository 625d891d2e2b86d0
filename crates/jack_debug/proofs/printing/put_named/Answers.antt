use Rattle.std.proofs.Common.{◌++◌, codes}
use Rattle.std.specs.List.{flat_map}
use Rattle.outer_world.proofs.Passing.{Passes-cut, Passes-then}
use Rattle.outer_world.specs.declared.sink.Put.TheVariants as put
use Rattle.jack_debug.specs.Text.{this_lines, variable_line}
use Rattle.jack_debug.proofs.printing.put_named.Goals as goal

pub returns-in-Failed-clause-passes : goal.returns-in-Failed-clause-passes
returns-in-Failed-clause-passes g c = Passes-cut _ _ _ _ _ _ c.in-Failed.ensures.passes

pub returns-in-Failed-put_variables-clause-passes : goal.returns-in-Failed-put_variables-clause-passes
returns-in-Failed-put_variables-clause-passes g c =
    let v = c.args.view.now in
    let arguments = flat_map (variable_line (codes "argument")) v.arguments in
    let locals = flat_map (variable_line (codes "local")) v.locals in
    let statics = flat_map (variable_line (codes "static")) v.statics in
    Passes-then _ _ _ _ _ _ (this_lines v.this) (arguments ++ (locals ++ statics)) put.Failed c.in-Done.ensures.passes
    (Passes-cut _ _ _ _ arguments (locals ++ statics) (rw c.as_slice.ensures at c.in-Failed-put_variables.ensures.passes))

pub returns-in-Failed-put_variables-2-clause-passes : goal.returns-in-Failed-put_variables-2-clause-passes
returns-in-Failed-put_variables-2-clause-passes g c =
    let v = c.args.view.now in
    let arguments = flat_map (variable_line (codes "argument")) v.arguments in
    let locals = flat_map (variable_line (codes "local")) v.locals in
    let statics = flat_map (variable_line (codes "static")) v.statics in
    Passes-then _ _ _ _ _ _ (this_lines v.this) (arguments ++ (locals ++ statics)) put.Failed c.in-Done.ensures.passes
    (Passes-then _ _ _ _ _ _ arguments (locals ++ statics) put.Failed (rw c.as_slice.ensures at c.in-Done-put_variables.ensures.passes)
    (Passes-cut _ _ _ _ locals statics (rw c.as_slice-2.ensures at c.in-Failed-put_variables-2.ensures.passes)))

pub returns-in-Done-put_variables-2-clause-passes : goal.returns-in-Done-put_variables-2-clause-passes
returns-in-Done-put_variables-2-clause-passes g c =
    let v = c.args.view.now in
    let arguments = flat_map (variable_line (codes "argument")) v.arguments in
    let locals = flat_map (variable_line (codes "local")) v.locals in
    let statics = flat_map (variable_line (codes "static")) v.statics in
    Passes-then _ _ _ _ _ _ (this_lines v.this) (arguments ++ (locals ++ statics)) _ c.in-Done.ensures.passes
    (Passes-then _ _ _ _ _ _ arguments (locals ++ statics) _ (rw c.as_slice.ensures at c.in-Done-put_variables.ensures.passes)
    (Passes-then _ _ _ _ _ _ locals statics _ (rw c.as_slice-2.ensures at c.in-Done-put_variables-2.ensures.passes)
    (rw c.as_slice-in-Done-put_variables-2.ensures at c.put_variables-in-Done-put_variables-2.ensures.passes)))
