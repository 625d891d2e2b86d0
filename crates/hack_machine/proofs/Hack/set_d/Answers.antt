use Rattle.std.proofs.Common.{refl, sym, subst, arith}
use Rattle.hack_machine.specs.Changes.{PutD, HasChanged}
use Rattle.hack_machine.proofs.Changes.{changed_more}
use Rattle.hack_machine.proofs.Hack.set_d.Goals as goal

pub returns-clause-changed : goal.returns-clause-changed
returns-clause-changed c =
    λ changes has. changed_more _ _ changes (PutD _) refl (omega arith) refl (subst (λ h. HasChanged h changes) (sym c.self.view_is) has)
