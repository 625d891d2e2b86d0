-- The names of the subroutines so far.
use Rattle.std.proofs.Common.{◌≡◌, map, take}
use Rattle.nand_cli.proofs.commands.map.names.Given as goal

abbrev pub invariant-loop-subroutine : goal.invariant-loop-subroutine
invariant-loop-subroutine l = map (λ n. n.now) l.names.items ≡ map (λ s. s.name) (take l.subroutine-index l.subroutines)
