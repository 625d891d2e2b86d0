use Rattle.std.proofs.Common.{ap, sym, ◌∙◌, map}
use Rattle.hdl_flatten.specs.Inner.Wired.{seen_wire, bit_of, wires_of, found_bit}
use Rattle.hdl_flatten.proofs.Wiring.{entered_at, kept}
use Rattle.hdl_flatten.proofs.wires.Wires.enter.Goals as goal

pub returns-in-Some : goal.returns-in-Some
returns-in-Some c = kept (bit_of c.args.bit) c.args.origin _ (wires_of c.args.self.now) (sym c.find.ensures ∙ c.in-Some.is)

pub returns-in-Ok : goal.returns-in-Ok
returns-in-Ok c = λ name bit. ap (λ es. found_bit name bit (map seen_wire es)) c.in-Ok.ensures.entries ∙ ap (found_bit name bit) (entered_at c.args.bit c.args.origin c.args.self.now.entries.entries (sym c.find.ensures ∙ c.in-None.is))
