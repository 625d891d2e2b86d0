use Rattle.std.proofs.Common.{subst, sym, ◌<◌, length}
use Rattle.std.specs.List.{All}
use Rattle.hdl_flatten.specs.declared.flat.PinAt.{PinAt}
use Rattle.hdl_elab.proofs.moving.moved_pins.Goals as goal

pub moved_pin_at-requires : goal.moved_pin_at-requires
moved_pin_at-requires c = subst (λ (p : PinAt). All (λ node. node < length c.args.places.now) p.nodes) (sym c.pin-item.is) (c.requires c.loop-pin.pin-index c.pin-item.result c.loop-pin-test.true)
