use Rattle.std.proofs.Common.{Option, sym, ap, ◌∙◌}
use Rattle.std.specs.Prelude.{unwrap_or}
use Rattle.hdl_flatten.specs.declared.wires.Origin.{Origin}
use Rattle.hdl_flatten.specs.declared.wires.Origin.TheVariants.{Low}
use Rattle.hdl_flatten.proofs.Wiring.{wire_at}
use Rattle.hdl_flatten.proofs.wires.Wires.entry.Goals as goal

pub returns-clause-found : goal.returns-clause-found
returns-clause-found c =
    let bit = c.in-Some.bit.now in
    ap (λ (o : Option Origin). unwrap_or o Low) (sym (wire_at bit.name.now bit.bit c.args.self.now.entries.entries) ∙ c.in-Some.ensures.value)
