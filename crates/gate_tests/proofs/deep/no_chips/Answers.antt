use Rattle.std.proofs.Common.{List, sym, subst}
use Rattle.hdl_tree.specs.declared.library.Entry.{Entry}
use Rattle.hack_cpu.specs.Libraries.{IsLibrary}
use Rattle.hack_cpu.proofs.Libraries.{libraries}
use Rattle.gate_tests.proofs.deep.no_chips.Goals as goal

pub returns-clause-library : goal.returns-clause-library
returns-clause-library c = subst (λ (es : List Entry). IsLibrary es) (sym c.new.ensures.none) libraries.empty
