use Rattle.std.proofs.Common.{◌≡◌, ◌+◌, List, length, Some, refl, sym, ap, subst, ◌∙◌}
use Rattle.std.specs.Prelude.{slice_get}
use Rattle.std.proofs.lemmas.Option.{slice_get_read}
use Rattle.hdl_check.specs.Inner.Progress.{chips_of}
use Rattle.hdl_flatten.specs.declared.size.Size.{Size}
use Rattle.hdl_flatten.specs.Inner.Sizes.{AreRight, all_joined}
use Rattle.hdl_flatten.specs.Trees.{chip_nodes}
use Rattle.hdl_flatten.proofs.Sizing.{size_at, size_is, right_next}
use Rattle.hdl_flatten.proofs.size.sizes_of.Goals as goal

pub size_of-size-requires-clause-nest : goal.size_of-size-requires-clause-nest
size_of-size-requires-clause-nest c =
    let chips = chips_of c.args.catalog.now in
    let nest = c.args.nest.now in
    let i = c.loop-nested.nested-index in
    let here : slice_get nest i ≡ Some c.nested-item.result = slice_get_read nest (length nest) i c.nested-item.result refl c.loop-nested-test.true c.nested-item.is in
    let seen = c.deref.ensures.value in
    let right = subst (λ (s : List Size). AreRight chips nest s) (sym seen) c.loop-nested.invariant.right in
    size_at chips nest c.deref.result.now right i (sym (c.deref.ensures.len ∙ c.loop-nested.invariant.long)) c.requires.nest c.nested-item.result here

pub loop-nested-preserved : goal.loop-nested-preserved
loop-nested-preserved c =
    let chips = chips_of c.args.catalog.now in
    let nest = c.args.nest.now in
    let i = c.loop-nested.nested-index in
    let here : slice_get nest i ≡ Some c.nested-item.result = slice_get_read nest (length nest) i c.nested-item.result refl c.loop-nested-test.true c.nested-item.is in
    let seen = c.deref.ensures.value in
    let items = c.loop-nested.sizes.items in
    let long : i ≡ length items = sym (sym (ap length seen) ∙ c.deref.ensures.len ∙ c.loop-nested.invariant.long) in
    record {
      long = c.in_ok-push.ensures.len ∙ ap (λ n. n + 1) c.loop-nested.invariant.long;
      right = subst (λ (s : List Size). AreRight chips nest s) (sym c.in_ok-push.ensures.items)
          (right_next chips nest items c.loop-nested.invariant.right i long c.size_of-size.result
          (λ nested chip e there.
          let same : Some c.nested-item.result ≡ Some nested = sym here ∙ e in
          let is : c.nested-item.result ≡ nested = cc in
          size_is chips nest items c.loop-nested.invariant.right i long c.requires.nest c.nested-item.result chip c.size_of-size.result here (ap (λ n. slice_get chips.entries n.number) is ∙ there)
          (c.size_of-size.ensures chip (ap (λ n. slice_get chips.entries n.number) is ∙ there) ∙ ap (λ (s : List Size). all_joined s (record { nodes = chip_nodes chips chip; parts = 0 }) c.nested-item.result.parts.items) seen)));
    }
