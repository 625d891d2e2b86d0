-- A test script has one answer.
use Rattle.std.proofs.Common.{refl}
use Rattle.std.specs.Prelude.{is_some}
use Rattle.script_laws.specs.Exact.{ScriptExactLaw}
use Rattle.nand_cli.specs.Commands.Test.{memories_of}
use Rattle.command_laws.specs.Exact.{TestExactLaw}

pub test_exact : ScriptExactLaw → TestExactLaw
test_exact law files path gates simplify =
    let one = law path files (memories_of gates) in record {
      prints = λ out err out' err' h k. let e = one.done out err out' err' (is_some h.last.compared) (is_some k.last.compared) (h, refl) (k, refl) in (e.0, e.1);
      refuses = λ out before told out' before' told' h k. one.refused out before told out' before' told' h k;
      differs = λ out before told out' before' told' h k. one.differs out before told out' before' told' h k;
      apart = λ out err out' before told h k. one.done_or_refused out err out' before told h k;
      agrees = λ out err out' before told h k. one.done_or_differs out err out' before told h k;
      alone = λ out before told out' before' told' h k. one.refused_or_differs out before told out' before' told' h k;
    }
