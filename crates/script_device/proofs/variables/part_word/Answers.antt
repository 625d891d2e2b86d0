use Rattle.std.proofs.Common.{◌≡◌, ◌<◌, true, false, length, refl, sym, subst, ◌∙◌, arith}
use Rattle.script_device.specs.Variables.{number_after}
use Rattle.script_device.specs.Inner.Sources.{HasSize}
use Rattle.script_device.proofs.Found.{is_none, is_some, word_of, is_word, has_size, has_word, short, one_block}
use Rattle.script_device.proofs.variables.part_word.Goals as goal
use Rattle.script_device.proofs.variables.part_word.Goals.{else-address-lt-CAP-via-then-address-lt-CAP+else-has_word, else-address-lt-CAP-via-else-address-lt-CAP}

pub returns-then-is_empty : goal.returns-then-is_empty
returns-then-is_empty c = λ net same b a m.
    let w = word_of net c.args.directory.now c.args.text.now c.in-Some.name.now c.in-Some.inside.now b a c.in-Some.ensures m in
    let none : length c.in-Some.inside.now ≡ 0 = is_none (length c.in-Some.inside.now) (sym c.is_empty.ensures ∙ c.if-is_empty.true) in
    let some : 0 < length c.in-Some.inside.now = w.some in
    absurd (omega (arith, none, some))

pub returns-in_default-block_named : goal.returns-in_default-block_named
returns-in_default-block_named c = λ net same b a m.
    let w = word_of net c.args.directory.now c.args.text.now c.in-Some.name.now c.in-Some.inside.now b a c.in-Some.ensures m in
    c.in_default-block_named.ensures b w.block

pub returns-then-has_word : goal.returns-then-has_word
returns-then-has_word c = λ net same.
    let inside = c.in-Some.inside.now in
    let n = c.capped_number-address.result in
    let some : 0 < length c.in-Some.inside.now = is_some (length c.in-Some.inside.now) (sym c.is_empty.ensures ∙ c.if-is_empty.false) in
    let exact : n ≡ number_after 0 inside = omega (arith, c.capped_number-address.ensures, c.if-address-lt-CAP.true) in
    is_word net c.args.directory.now c.args.text.now c.in-Some.name.now inside c.in-Some-block_named.block n c.in-Some.ensures some exact c.in-Some-block_named.ensures (has_word net c.args.sizes.now c.in-Some-block_named.block n same (c.if-has_word.ensures.0 refl))

pub returns-else-address-lt-CAP : goal.returns-else-address-lt-CAP
returns-else-address-lt-CAP c = λ net same b a m.
    let inside = c.in-Some.inside.now in
    let n = c.capped_number-address.result in
    let block = c.in-Some-block_named.block in
    let w = word_of net c.args.directory.now c.args.text.now c.in-Some.name.now inside b a c.in-Some.ensures m in
    let size : HasSize c.args.sizes.now b a = has_size net c.args.sizes.now b a same w.word in
    elim c.else-address-lt-CAP.branch [
      | else-address-lt-CAP-via-then-address-lt-CAP+else-has_word v ↦
          let exact : n ≡ number_after 0 inside = omega (arith, c.capped_number-address.ensures, v.if-address-lt-CAP.true) in
          let there : HasSize c.args.sizes.now block a = subst (λ x. HasSize c.args.sizes.now x a) (one_block c.args.directory.now c.in-Some.name.now b block w.block c.in-Some-block_named.ensures) size in
          let no : false ≡ true = v.if-has_word.ensures.1 (subst (HasSize c.args.sizes.now block) (w.number ∙ sym exact) there) in
          absurd cc
      | else-address-lt-CAP-via-else-address-lt-CAP v ↦
          let below : a < 4294967296 = short c.args.sizes.now b a (λ i. omega (arith, c.type_inv.sizes i)) size in
          absurd (omega (arith, w.number, c.capped_number-address.ensures, v.if-address-lt-CAP.false))
    ]
