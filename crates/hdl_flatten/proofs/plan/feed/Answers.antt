use Rattle.std.proofs.Common.{◌≡◌, suc, ◌+◌, ◌∷◌, [], ◌++◌, Option, Bool, true, false, not, refl, sym, ap, ◌∙◌, arith}
use Rattle.hdl_check.specs.declared.check.Port.{Port}
use Rattle.hdl_tree.specs.Chips.{count}
use Rattle.hdl_flatten.specs.declared.wires.Origin.{Origin}
use Rattle.hdl_flatten.specs.Inner.Wired.{wires_of}
use Rattle.hdl_flatten.specs.Inner.Plans.{fed_bits, fed_by}
use Rattle.hdl_flatten.proofs.Wiring.{more_then, more_is}
use Rattle.hdl_flatten.proofs.Planning.{feed_is}
use Rattle.hdl_flatten.proofs.plan.feed.Goals as goal

is_true : (b : Bool) → not b ≡ false → b ≡ true
is_true true h = refl
is_true false h = absurd cc

pub loop-k-preserved : goal.loop-k-preserved
loop-k-preserved c =
    let k = c.loop-k.k in
    let wires = wires_of c.args.wires.now in
    let pin = c.as_bytes-name.result.now in
    let from = c.first_bit-from.result in
    let source = c.args.connection.now.source in
    let on : suc k ≡ k + 1 = omega arith in
    more_is (wires_of c.args.fed.now) (wires_of c.enter.new.self) _ (fed_bits wires source pin from (k + 1))
    (ap (λ (o : Origin). fed_bits wires source pin from k ++ (record { name = pin; bit = from + k }, o) ∷ []) c.source_origin-origin.ensures ∙ ap (fed_bits wires source pin from) on)
    (more_then (wires_of c.args.fed.now) (wires_of c.loop-k.fed) (wires_of c.enter.new.self) (fed_bits wires source pin from k) ((record { name = pin; bit = from + k }, c.source_origin-origin.result) ∷ []) c.loop-k.invariant c.in_ok-enter.ensures)

pub returns : goal.returns
returns c =
    let k : c.loop-k.k ≡ c.count_bits-n.result = (let a = c.loop-k.auto.k-end in let b = c.loop-k-test.false in omega arith) in
    let conn = c.args.connection.now in
    let port = c.in-Some.port in
    let n : c.loop-k.k ≡ count conn.pin.subscript port.width = k ∙ c.count_bits-n.ensures.value ∙ ap (count conn.pin.subscript) c.from.ensures in
    more_is (wires_of c.args.fed.now) (wires_of c.loop-k.fed) _ (fed_by (wires_of c.args.wires.now) c.args.port conn)
    (feed_is (wires_of c.args.wires.now) port conn c.as_bytes-name.result.now c.first_bit-from.result c.loop-k.k c.as_bytes-name.ensures c.first_bit-from.ensures.value n (is_true port.input c.if-not-port.false)
    ∙ ap (λ (o : Option Port). fed_by (wires_of c.args.wires.now) o conn) (sym c.in-Some.is))
    c.loop-k.invariant
