use Rattle.std.proofs.Common.{◌≡◌, drop, map}
use Rattle.hack_asm.specs.Roles.{role_among}
use Rattle.hack_asm.proofs.lexer.role_among.Given as goal

abbrev pub invariant-loop-row : goal.invariant-loop-row
invariant-loop-row l =
    role_among (map (λ r. (r.0.now, r.1)) (drop l.row-index l.rows)) l.text ≡ role_among (map (λ r. (r.0.now, r.1)) l.rows) l.text
