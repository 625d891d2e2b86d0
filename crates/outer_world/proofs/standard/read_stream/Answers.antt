use Rattle.std.proofs.Common.{◌≡◌, ◌≤◌, ◌+◌, ◌∙◌, ℕ, List, Option, Some, None, IfSome, option_map, length, take, ap, arith, length-take, rules}
use Rattle.std.proofs.lemmas.List.{take_all}
use Rattle.outer_world.proofs.standard.read_stream.Goals as goal

-- what was read of a stream up to one byte past the limit, and is within it, is the whole stream
whole : (told : Option (List ℕ)) (limit : ℕ) (bytes : List ℕ) → IfSome (option_map (take (limit + 1)) told) (λ xs. bytes ≡ xs) → length bytes ≤ limit → IfSome told (λ all. bytes ≡ all)
whole None limit bytes h le = tt
whole (Some all) limit bytes h le =
    let e = ap (length {A = ℕ}) h ∙ length-take (limit + 1) all in
    h ∙ take_all (limit + 1) all (omega (arith, e, le))

pub returns-in-Ok-2 : goal.returns-in-Ok-2
returns-in-Ok-2 g c =
    let read = rw (c.take.ensures.inner, c.take.ensures.limit, c.new-bytes.ensures.items) at c.in-Ok-2.ensures.bytes in
    (whole (g.S.Read.remaining c.args.stream) c.args.limit c.read_to_end.new.buf.items read (search rules), search rules)
