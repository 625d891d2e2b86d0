use Rattle.std.proofs.lemmas.Result.{on_ok_weaker}
use Rattle.jack_compiler.proofs.Adding.{two}
use Rattle.jack_compiler.proofs.bodies.enter_else.Goals as goal

pub returns : goal.returns
returns c = on_ok_weaker c.add_label.result (λ e. two _ _ _ _ _ c.in_ok-add_goto.ensures e) c.add_label.ensures
