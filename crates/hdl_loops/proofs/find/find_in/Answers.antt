use Rattle.std.proofs.Common.{◌≡◌, true, false, ◌++◌, ◌∷◌, [], length, List, sym, ap, subst, ◌∙◌, arith}
use Rattle.std.specs.Prelude.{is_some}
use Rattle.std.proofs.lemmas.Bool.Decides.{Decides-eqb}
use Rattle.std.proofs.lemmas.Result.{IfOk-weaker}
use Rattle.hdl_check.specs.Whole.{chips_in}
use Rattle.hdl_loops.specs.Inner.Looked.{TellsLoop}
use Rattle.hdl_loops.specs.Inner.Stacked.{HasOnlyLast}
use Rattle.hdl_loops.specs.declared.find.Frame.{Frame}
use Rattle.hdl_loops.proofs.Growing.{none_of}
use Rattle.hdl_loops.proofs.Parting.{not_some}
use Rattle.hdl_loops.proofs.Seen.{done_clear}
use Rattle.hdl_loops.proofs.Stacking.{ends_none, ends_told, last_ready, stack_start, stack_end}
use Rattle.hdl_loops.proofs.find.find_in.Goals as goal

pub loop-alloc-init : goal.loop-alloc-init
loop-alloc-init c =
    let chips = chips_in c.args.entries.now c.args.memories in
    let first : Frame = record { chip = c.args.k; next = 0; depth = c.args.depth } in
    record {
      right = c.requires.right;
      stack =
          stack_start chips c.args.known.now c.args.k c.args.depth c.push.new.self.items (c.in_ok-push.ensures.items ∙ ap (λ (v : List Frame). v ++ first ∷ []) c.new-stack.ensures.items) c.requires.there
          (λ chip at. none_of _ (sym (c.is_end.ensures chip at) ∙ c.if-is_end.false)) c.requires.nests;
    }

pub loop-alloc-preserved : goal.loop-alloc-preserved
loop-alloc-preserved c = record { right = c.in_ok-nets.ensures.right; stack = c.in_ok-nets.ensures.stack (not_some _ c.in_default.not-Some) }

pub loop-alloc-smaller : goal.loop-alloc-smaller
loop-alloc-smaller c = c.in_ok-nets.ensures.less (not_some _ c.in_default.not-Some)

pub returns-in-Some : goal.returns-in-Some
returns-in-Some c =
    let chips = chips_in c.args.entries.now c.args.memories in
    record {
      none = λ e. absurd cc;
      told = λ chip at. subst (TellsLoop chips chip) c.in-Some.is (c.in_ok-nets.ensures.told chip at);
    }

pub returns-clause-none : goal.returns-clause-none
returns-clause-none c = λ e chip at fit.
    let chips = chips_in c.args.entries.now c.args.memories in
    let stack = c.loop-alloc.stack in
    let empty : stack.len ≡ 0 = (Decides-eqb stack.len 0).0 (sym c.loop-alloc-test.ensures) in
    let none : length stack.items ≡ 0 = omega (arith, empty) in
    done_clear chips c.loop-alloc.known c.args.k chip at fit c.loop-alloc.invariant.right (stack_end chips c.loop-alloc.known c.args.k stack.items c.loop-alloc.invariant.stack none)

pub returns-then-is_end-clause-none : goal.returns-then-is_end-clause-none
returns-then-is_end-clause-none c = λ e chip at fit.
    let chips = chips_in c.args.entries.now c.args.memories in
    done_clear chips c.args.known.now c.args.k chip at fit c.requires.right (λ other there no_end. absurd (let h : true ≡ false = sym c.if-is_end.true ∙ (c.is_end.ensures other there ∙ ap is_some no_end) in cc))

pub look_last-requires-clause-done : goal.look_last-requires-clause-done
look_last-requires-clause-done c =
    let chips = chips_in c.args.entries.now c.args.memories in
    let last = subst (HasOnlyLast chips c.args.k) c.deref.ensures.value (c.is_last.ensures c.if-is_last.true) in
    last_ready chips c.loop-alloc.known c.args.k c.loop-alloc.stack.items c.loop-alloc.invariant.stack last

pub returns-then-is_last-clause-none : goal.returns-then-is_last-clause-none
returns-then-is_last-clause-none c =
    let chips = chips_in c.args.entries.now c.args.memories in
    IfOk-weaker c.look_last.result _ _ (λ r h e chip at. ends_none chips chip r (h chip at) e) c.look_last.ensures

pub returns-then-is_last-clause-told : goal.returns-then-is_last-clause-told
returns-then-is_last-clause-told c =
    let chips = chips_in c.args.entries.now c.args.memories in
    IfOk-weaker c.look_last.result _ _ (λ r h chip at. ends_told chips chip r (h chip at)) c.look_last.ensures
