use Rattle.std.proofs.Common.{rules, ◌≡◌, true, false}
use Rattle.std.specs.Prelude.{is_some}
use Rattle.script_device.specs.Inner.Numbers.{number_in}
use Rattle.script_device.proofs.Firsts.{numbers_kept, numbers_more}
use Rattle.script_device.proofs.numbering.Numbers.enter.Goals as goal

pub returns-then-known : goal.returns-then-known
returns-then-known c = λ names last are.
    let there : is_some (number_in c.args.self.now c.args.name.now) ≡ true = search rules in
    numbers_kept c.args.self.now names c.args.name.now there are

pub returns : goal.returns
returns c = λ names last are.
    let absent : is_some (number_in c.args.self.now c.args.name.now) ≡ false = search rules in
    numbers_more c.args.self.now (record { places = c.insert.new.self }) names c.args.name.now c.in_ok-key.key c.args.place c.in_ok-key.ensures.items absent c.in-Ok.ensures.entries last are
