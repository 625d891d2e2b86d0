use Rattle.std.proofs.Common.{refl, sym, subst, arith, ap}
use Rattle.hack_machine.specs.Changes.{PutWord, HasChanged}
use Rattle.hack_machine.proofs.Changes.{changed_more, put_word}
use Rattle.hack_machine.proofs.Hack.set_ram.Goals as goal

pub returns-clause-changed : goal.returns-clause-changed
returns-clause-changed c =
    let inside = c.self.inside in
    let put = put_word inside.ram.items c.args.address c.args.value c.self.invariant.0 c.requires in
    λ changes has. changed_more _ _ changes (PutWord c.args.address c.args.value) refl (omega arith) (ap (λ words. record { a = inside.a; d = inside.d; pc = inside.pc; memory = words }) put) (subst (λ h. HasChanged h changes) (sym c.self.view_is) has)
