use Rattle.gate_computer.proofs.Shipped.{built_of, computer_found}
use Rattle.gate_computer.proofs.wire.build_computer.Goals as goal

pub build_net-requires-clause-distinct : goal.build_net-requires-clause-distinct
build_net-requires-clause-distinct c = (built_of _ _ c.in_ok-library.ensures c.in_ok-name.ensures).distinct

pub build_net-requires-clause-there : goal.build_net-requires-clause-there
build_net-requires-clause-there c = (built_of _ _ c.in_ok-library.ensures c.in_ok-name.ensures).there

pub build_net-requires-clause-fine : goal.build_net-requires-clause-fine
build_net-requires-clause-fine c = (built_of _ _ c.in_ok-library.ensures c.in_ok-name.ensures).faultless

pub build_net-requires-clause-ends : goal.build_net-requires-clause-ends
build_net-requires-clause-ends c = (built_of _ _ c.in_ok-library.ensures c.in_ok-name.ensures).ends

pub build_net-requires-clause-few : goal.build_net-requires-clause-few
build_net-requires-clause-few c = (built_of _ _ c.in_ok-library.ensures c.in_ok-name.ensures).few

pub build_net-requires-clause-no_loop : goal.build_net-requires-clause-no_loop
build_net-requires-clause-no_loop c = (built_of _ _ c.in_ok-library.ensures c.in_ok-name.ensures).no_loop

pub wire_computer-requires-clause-elaborated : goal.wire_computer-requires-clause-elaborated
wire_computer-requires-clause-elaborated c = computer_found _ _ c.in_ok-library.ensures c.in_ok-name.ensures _ c.in_ok-elab.ensures
