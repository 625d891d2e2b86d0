-- The part has its operands, and its value stands in their place.
use Rattle.std.proofs.Common.{◌≡◌, ◌≤◌, ◌-◌, ◌+◌, length, drop, take, ◌++◌, ◌∷◌, [], ap, ◌∙◌, arith}
use Rattle.jack_core.specs.Heights.{takes, height}
use Rattle.jack_machine.specs.Looks.{spared_values}
use Rattle.jack_machine.specs.Parts.{parts_of}
use Rattle.jack_machine.proofs.Fitting.{has_operands, fits_behind, put_size}
use Rattle.jack_machine.proofs.parts.put.Goals as goal

pub overflow_sub-kept : goal.overflow_sub-kept
overflow_sub-kept c =
    let front = c.args.front.now in
    omega (arith, c.operands.ensures, c.len.ensures, c.reserve.ensures.len, front.values.ok.0, has_operands front c.args.part c.requires)

pub invariant_of-front-2 : goal.invariant_of-front-2
invariant_of-front-2 c =
    let front = c.args.front.now in
    let more : c.in_ok-done.done ≡ front.done + 1 = c.in_ok-done.ensures in
    let enough : takes c.args.part ≤ length front.values.items = has_operands front c.args.part c.requires in
    let kept : c.len.result - c.operands.result ≡ length front.values.items - takes c.args.part = omega (arith, c.operands.ensures, c.len.ensures, c.reserve.ensures.len, front.values.ok.0) in
    let values : c.push_reserved.new.self.items ≡ spared_values c.args.part front.values.items ++ c.args.w ∷ [] =
    c.push_reserved.ensures.items ∙ ap (λ l. l ++ c.args.w ∷ []) (c.truncate.ensures.items ∙ ap (λ n. take n c.reserve.new.self.items) kept ∙ ap (take (length front.values.items - takes c.args.part)) c.reserve.ensures.items) in
    let size : length c.push_reserved.new.self.items ≡ length front.values.items - takes c.args.part + 1 = ap length values ∙ put_size c.args.part c.args.w front.values.items enough in
    record {
      fits = ap (λ n. height (length c.push_reserved.new.self.items) (drop n (parts_of front.first))) more
          ∙ ap (λ n. height n (drop (front.done + 1) (parts_of front.first))) size
          ∙ fits_behind front c.args.part c.requires;
    }
