use Rattle.jack_debug.proofs.map_printing.put_sub_line.Goals as goal

pub returns-clause-passes : goal.returns-clause-passes
returns-clause-passes g c = rw (c.form_word-form.ensures, c.first_named-first.ensures.value, c.as_slice-arguments.ensures, c.as_slice-locals.ensures) at c.put_counts.ensures.passes
