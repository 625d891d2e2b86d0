-- A byte more, and all bytes.
use Rattle.std.proofs.Common.{◌+◌, ◌∷◌, take, get_or, sym, ap, arith}
use Rattle.std.proofs.lemmas.List.{take_all}
use Rattle.jack_meaning.specs.Text as meaning
use Rattle.jack_names.specs.Made.{filled_characters, two}
use Rattle.jack_names.proofs.Meanings.{filled_more}
use Rattle.jack_names.proofs.Pushing.{turned, turned_as}
use Rattle.jack_names.proofs.meant.push_bytes.Goals as goal

pub loop-byte-preserved : goal.loop-byte-preserved
loop-byte-preserved c =
    let bs = c.args.text.now in
    let i = c.loop-byte.byte-index in
    let append = c.args.append in
    turned (λ e. filled_characters append e (take i bs)) (λ e. meaning.Call append (two e (meaning.Literal (get_or bs i 0)))) (λ e. filled_characters append e (take (i + 1) bs)) c.args.parts.now.items c.loop-byte.parts.items c.push_part.new.parts.items
    (λ e. sym (filled_more append e bs i c.loop-byte-test.true)) c.loop-byte.invariant
    (λ e es s. c.in_ok-push_part.ensures (meaning.Literal (get_or bs i 0) ∷ e ∷ es) (omega arith) (c.in_ok-push_value.ensures (e ∷ es) s))

pub returns : goal.returns
returns c =
    let bs = c.args.text.now in
    let i = c.loop-byte.byte-index in
    let append = c.args.append in
    turned_as (λ e. filled_characters append e (take i bs)) (λ e. filled_characters append e bs) c.args.parts.now.items c.loop-byte.parts.items
    (λ e. ap (filled_characters append e) (take_all i bs (omega arith))) c.loop-byte.invariant
