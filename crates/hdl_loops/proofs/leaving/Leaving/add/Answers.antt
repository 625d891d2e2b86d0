use Rattle.std.proofs.Common.{◌≡◌, ℕ, length, ap, ◌∙◌, arith}
use Rattle.hdl_loops.proofs.Linking.{linked_more, inserted}
use Rattle.hdl_loops.proofs.leaving.Leaving.add.Goals as goal

pub returns-in_ok-push-in-Ok : goal.returns-in_ok-push-in-Ok
returns-in_ok-push-in-Ok c = λ bits linked.
    let long = linked.long in
    let k_is : c.len-k.result ≡ length bits = omega (arith, long, c.len-k.ensures, c.args.self.now.before.ok.0) in
    linked_more bits c.args.self.now _ c.args.from c.in-Ok.before linked c.in-Ok.ensures.old
    (c.in-Ok.ensures.entries ∙ ap (λ (n : ℕ). inserted c.args.self.now.latest.entries c.args.from n) k_is) c.in_ok-push-in-Ok.ensures.items
