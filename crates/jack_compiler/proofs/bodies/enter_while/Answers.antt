use Rattle.std.proofs.lemmas.Result.{on_ok_weaker}
use Rattle.jack_compiler.proofs.Adding.{three}
use Rattle.jack_compiler.proofs.bodies.enter_while.Goals as goal

pub returns : goal.returns
returns c = on_ok_weaker c.add_label.result (λ e. three _ _ _ _ _ _ _ c.in_ok-add_if_goto.ensures c.in_ok-add_goto.ensures e) c.add_label.ensures
