use Rattle.std.proofs.Common.{◌≡◌, ◌≤◌, ◌+◌, ◌-◌, ◌++◌, length, take, arith, ◌∙◌, sym, subst, ap, List, ℕ, refl}
use Rattle.std.proofs.lemmas.List.{take_all}
use Rattle.std.proofs.lemmas.Slice.{take-put_mid}
use borrow.Rule.Slice.PartMut.{put_mid, same_len_mid}
use Rattle.outer_world.specs.Written.{Puts, Passes}
use Rattle.outer_world.specs.declared.sink.Put.TheVariants as put
use Rattle.outer_world.proofs.Passing.{Passes-pending, Passes-put}
use Rattle.outer_world.proofs.pieces.Pieces.fill.Goals as goal

-- a buffer of which a part is written after its first bytes, up to the part's end
written_to : (xs ys part : List ℕ) (i k n : ℕ) → ys ≡ part → n ≡ i + length part → i ≤ length xs → take n (put_mid i k xs ys) ≡ take i xs ++ part
written_to xs ys part i k n e at le = take-put_mid i k xs ys n (at ∙ ap (λ zs. i + length zs) (sym e)) le ∙ ap (λ zs. take i xs ++ zs) e

pub returns-then-end-lt-PIECE-clause-passes : goal.returns-then-end-lt-PIECE-clause-passes
returns-then-end-lt-PIECE-clause-passes g c =
    let pending = c.args.self.now in
    let e = written_to pending.buffer c.copy_from_slice.new.self c.args.part.now pending.len (pending.len + length c.args.part.now - pending.len) (pending.len + length c.args.part.now) c.copy_from_slice.ensures.after refl (omega arith) in
    let P : List ℕ → Type 0 = λ held. Passes (g.S.Sink.state pending.sink.now) (take pending.len pending.buffer) (g.S.Sink.state pending.sink.now) held c.args.part.now put.Done in
    subst P (sym e) (Passes-pending _ _ _)

pub returns-clause-passes : goal.returns-clause-passes
returns-clause-passes g c =
    let pending = c.args.self.now in
    let k = pending.len + length c.args.part.now - pending.len in
    let whole = put_mid pending.len k pending.buffer c.copy_from_slice.new.self in
    let e = written_to pending.buffer c.copy_from_slice.new.self c.args.part.now pending.len k 4096 c.copy_from_slice.ensures.after (omega arith) (omega arith) in
    let P : List ℕ → Type 0 = λ y. Puts (g.S.Sink.state pending.sink.now) (g.S.Sink.state c.put.new.self) y c.put.result in
    Passes-put _ _ _ _ _ (subst P (sym (take_all 4096 whole (omega (arith, same_len_mid pending.len k pending.buffer c.copy_from_slice.new.self c.copy_from_slice.ensures.len))) ∙ e) c.put.ensures.put)
