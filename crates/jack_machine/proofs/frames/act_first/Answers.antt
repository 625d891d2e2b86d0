-- All parts of what comes first are values.
use Rattle.std.proofs.Common.{length, false, refl, sym, ap, ◌∙◌, subst}
use Rattle.jack_meaning.specs.Meaning.{Acts}
use Rattle.jack_meaning.specs.Text.{Value}
use Rattle.jack_machine.specs.Parts.{wanted_count}
use Rattle.jack_machine.specs.Effects.{HasEffect}
use Rattle.jack_machine.specs.Frames.{state_over, with_text}
use Rattle.jack_machine.specs.Texts.{written_statement}
use Rattle.jack_machine.specs.declared.fronts.First.{First}
use Rattle.std.proofs.Common.{map, reverse}
use Rattle.jack_machine.proofs.Fitting.{all_wanted}
use Rattle.jack_machine.proofs.Tops.{start_steps, statement_steps, acted, if_ok}
use Rattle.jack_machine.proofs.frames.act_first.Goals as goal

pub effect_of-effect-requires : goal.effect_of-effect-requires
effect_of-effect-requires c = ap length c.deref.ensures.value ∙ all_wanted c.args.top.now.text.front c.requires ∙ ap wanted_count c.in-Statement.is

pub returns-in-Start-clause-done : goal.returns-in-Start-clause-done
returns-in-Start-clause-done c subs below key =
    let f = c.args.top.now in
    let m = c.args.memory.now in
    start_steps subs below key f m _ c.requires c.in-Start.is ∙ ap (λ t. Acts false (state_over (with_text f t) m below)) (sym c.advance.ensures)

pub returns-in-Statement-clause-done : goal.returns-in-Statement-clause-done
returns-in-Statement-clause-done c =
    let f = c.args.top.now in
    let m = c.args.memory.now in
    let t = c.in-Statement.first.now in
    let has = subst (λ l. HasEffect f.variables.this (written_statement t (map Value (reverse l))) c.effect_of-effect.result) c.deref.ensures.value c.effect_of-effect.ensures in
    if_ok c.apply.result (λ act applies subs below key.
    acted subs below key f m t c.effect_of-effect.result c.requires
    (statement_steps subs below key f m t (First.Statement c.in-Statement.first) c.requires c.in-Statement.is refl (λ es. refl)) has act c.apply.new.top c.apply.new.memory applies) c.apply.ensures.done
