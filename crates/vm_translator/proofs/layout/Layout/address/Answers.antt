use Rattle.std.proofs.Common.{◌<◌, ◌^◌, length, arith}
use Rattle.vm_translator.proofs.Laid.{address_found}
use Rattle.vm_translator.proofs.layout.Layout.address.Goals as goal

pub returns : goal.returns
returns c = λ base fs lay h l.
    let v = c.args.self.now.placed in
    let small : length v.items < 2 ^ 64 = omega (arith, v.ok.0, v.small) in
    address_found base fs c.args.self.now c.args.function c.args.place c.first-first.result c.saturating_add.result c.at.result
    lay h l c.first-first.ensures c.saturating_add.ensures small c.at.ensures
