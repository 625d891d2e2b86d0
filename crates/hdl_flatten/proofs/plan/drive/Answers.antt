use Rattle.std.proofs.Common.{◌≡◌, suc, ◌+◌, ◌∷◌, [], ◌++◌, Option, sym, ap, ◌∙◌, arith}
use Rattle.hdl_check.specs.declared.check.Port.{Port}
use Rattle.hdl_tree.specs.Chips.{count}
use Rattle.hdl_flatten.specs.declared.wires.Origin.{Origin}
use Rattle.hdl_flatten.specs.Inner.Wired.{wires_of, origin_at}
use Rattle.hdl_flatten.specs.Inner.Plans.{driven_bits, driven_by, moved_by}
use Rattle.hdl_flatten.proofs.Wiring.{more_then, more_is}
use Rattle.hdl_flatten.proofs.Planning.{drive_is}
use Rattle.hdl_flatten.proofs.plan.drive.Goals as goal

pub loop-k-preserved : goal.loop-k-preserved
loop-k-preserved c =
    let k = c.loop-k.k in
    let inner = wires_of c.args.inner.now in
    let pin = c.as_bytes-pin.result.now in
    let net = c.as_bytes-name.result.now in
    let from = c.first_bit-from.result in
    let to = c.first_bit-to.result in
    let on : suc k ≡ k + 1 = omega arith in
    let origin : c.moved.result ≡ moved_by c.args.offset (origin_at inner pin (from + k)) = c.moved.ensures ∙ ap (moved_by c.args.offset) c.origin-origin.ensures in
    more_is (wires_of c.args.wires.now) (wires_of c.enter.new.self) _ (driven_bits inner c.args.offset pin from net to (k + 1))
    (ap (λ (o : Origin). driven_bits inner c.args.offset pin from net to k ++ (record { name = net; bit = to + k }, o) ∷ []) origin ∙ ap (driven_bits inner c.args.offset pin from net to) on)
    (more_then (wires_of c.args.wires.now) (wires_of c.loop-k.wires) (wires_of c.enter.new.self) (driven_bits inner c.args.offset pin from net to k) ((record { name = net; bit = to + k }, c.moved.result) ∷ []) c.loop-k.invariant c.in_ok-enter-in-Net.ensures)

pub returns-after-loop-k : goal.returns-after-loop-k
returns-after-loop-k c =
    let k : c.loop-k.k ≡ c.count_bits-n.result = (let a = c.loop-k.auto.k-end in let b = c.loop-k-test.false in omega arith) in
    let conn = c.args.connection.now in
    let port = c.in-Some.port in
    let n : c.loop-k.k ≡ count conn.pin.subscript port.width = k ∙ c.count_bits-n.ensures.value ∙ ap (count conn.pin.subscript) c.from.ensures in
    more_is (wires_of c.args.wires.now) (wires_of c.loop-k.wires) _ (driven_by (wires_of c.args.inner.now) c.args.offset c.args.port conn)
    (drive_is (wires_of c.args.inner.now) c.args.offset port conn c.in-Net.net c.as_bytes-pin.result.now c.as_bytes-name.result.now c.first_bit-from.result c.first_bit-to.result c.loop-k.k c.as_bytes-pin.ensures c.first_bit-from.ensures.value c.as_bytes-name.ensures c.first_bit-to.ensures.value n c.if-port.false c.in-Net.is
    ∙ ap (λ (o : Option Port). driven_by (wires_of c.args.inner.now) c.args.offset o conn) (sym c.in-Some.is))
    c.loop-k.invariant
