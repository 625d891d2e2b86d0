use Rattle.std.proofs.Common.{List, sym, subst}
use Rattle.std.proofs.lemmas.Result.{IfOk-weaker}
use Rattle.hdl_tree.specs.declared.library.Entry.{Entry}
use Rattle.hack_cpu.specs.Libraries.{IsLibrary}
use Rattle.hack_cpu.proofs.Libraries.{libraries}
use Rattle.gate_tests.proofs.chips.shipped_library.Goals as goal

pub returns : goal.returns
returns c = IfOk-weaker c.library.result _ _ (λ library same. subst (λ (es : List Entry). IsLibrary es) (sym same) libraries.shipped) c.library.ensures
