use Rattle.std.proofs.Common.{◌∙◌, sym, subst, arith}
use Rattle.hdl_tree.specs.declared.ends.Memories.TheVariants.{Blocks}
use Rattle.gate_computer.specs.Inner.Directory.{CanTell, IsToldBy}
use Rattle.gate_computer.proofs.Counting.{nodes}
use Rattle.gate_computer.proofs.Wired.{can_tell, is_wired, some_is}
use Rattle.gate_computer.proofs.wire.wire_computer.Goals as goal

pub wiring_of-requires : goal.wiring_of-requires
wiring_of-requires c =
    subst (λ parts. CanTell c.args.library.now.entries parts) (sym (c.deref.ensures.value ∙ c.in_ok-parts.ensures))
    (subst (λ entries. CanTell entries c.args.elab.parts) (sym c.requires.library) (can_tell c.args.elab.net c.args.elab.pins c.args.elab.parts c.requires.elaborated))

pub returns-clause-wired : goal.returns-clause-wired
returns-clause-wired c =
    is_wired c.args.elab.net c.args.elab.pins c.args.elab.parts c.requires.elaborated c.in_ok-wiring.wiring
    (subst (λ entries. IsToldBy entries c.args.elab.parts c.in_ok-wiring.wiring) c.requires.library
    (subst (λ parts. IsToldBy c.args.library.now.entries parts c.in_ok-wiring.wiring) (c.deref.ensures.value ∙ c.in_ok-parts.ensures) c.in_ok-wiring.ensures))

pub returns-clause-parts : goal.returns-clause-parts
returns-clause-parts c = some_is _ _ c.in_ok-wiring.ensures.wired

pub returns-clause-few : goal.returns-clause-few
returns-clause-few c =
    let flat = c.requires.elaborated in
    let count = flat.count ∙ nodes.count Blocks flat.tree flat.listed in
    omega (arith, count)
