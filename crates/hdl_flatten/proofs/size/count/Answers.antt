use Rattle.std.proofs.Common.{◌≡◌, ◌+◌, ℕ, List, sym, ap, subst, ◌∙◌}
use Rattle.hdl_tree.specs.Chips.{Chips, find_chip}
use Rattle.hdl_check.specs.Inner.Progress.{chips_of}
use Rattle.hdl_check.specs.Whole.{chips_in, TopIsFaultless}
use Rattle.hdl_check.proofs.Tops.{same_chips}
use Rattle.hdl_flatten.specs.declared.nest.Nested.{Nested}
use Rattle.hdl_flatten.specs.Ends.{EndsHavePins}
use Rattle.hdl_flatten.specs.Trees.{HasSize, capped_count, bit_count}
use Rattle.hdl_flatten.specs.Inner.Nests.{IsNestOf}
use Rattle.hdl_flatten.specs.Inner.Sizes.{AreSizes}
use Rattle.hdl_flatten.proofs.Sizing.{counted}
use Rattle.hdl_flatten.proofs.size.count.Goals as goal

pub nest_of-requires-clause-fine : goal.nest_of-requires-clause-fine
nest_of-requires-clause-fine c =
    let seen = chips_of c.in_ok-catalog.catalog in
    let same : seen ≡ chips_in c.args.library.now.entries c.args.memories = same_chips c.in_ok-catalog.catalog.entries.now c.args.library.now.entries c.in_ok-catalog.catalog.memories c.args.memories c.in_ok-catalog.ensures.entries c.in_ok-catalog.ensures.memories in
    subst (λ (name : List ℕ). TopIsFaultless seen name) (sym c.as_bytes.ensures) (subst (λ (x : Chips). TopIsFaultless x c.args.top.now) (sym same) c.requires.fine)

pub nest_of-requires-clause-ends : goal.nest_of-requires-clause-ends
nest_of-requires-clause-ends c =
    let seen = chips_of c.in_ok-catalog.catalog in
    let same : seen ≡ chips_in c.args.library.now.entries c.args.memories = same_chips c.in_ok-catalog.catalog.entries.now c.args.library.now.entries c.in_ok-catalog.catalog.memories c.args.memories c.in_ok-catalog.ensures.entries c.in_ok-catalog.ensures.memories in
    subst EndsHavePins (sym same) c.requires.ends

pub returns : goal.returns
returns c = λ chip found.
    let seen = chips_of c.in_ok-catalog.catalog in
    let size = c.index-size.result.now in
    let same : seen ≡ chips_in c.args.library.now.entries c.args.memories = same_chips c.in_ok-catalog.catalog.entries.now c.args.library.now.entries c.in_ok-catalog.catalog.memories c.args.memories c.in_ok-catalog.ensures.entries c.in_ok-catalog.ensures.memories in
    let bits : c.count_bits.result ≡ capped_count (bit_count c.entry_at-entry.result.now.chip.inputs) = c.count_bits.ensures ∙ ap (λ ps. capped_count (bit_count ps)) c.as_slice.ensures in
    let nodes : c.add.result ≡ capped_count (capped_count (c.count_bits.result + size.nodes) + 2) = c.add.ensures ∙ ap (λ (n : ℕ). capped_count (n + 2)) c.add-nodes.ensures in
    let sizes = subst (λ (ns : List Nested). AreSizes seen ns c.in_ok-sizes.sizes.items) c.deref.ensures.value c.in_ok-sizes.ensures in
    let nest = subst (λ name. IsNestOf seen name c.in_ok-nest.nest) c.as_bytes.ensures c.in_ok-nest.ensures in
    subst (λ (x : Chips). HasSize x chip (record { nodes = c.add.result; parts = size.parts })) same
    (counted seen c.args.top.now c.in_ok-nest.nest c.in_ok-sizes.sizes.items c.entry_at-entry.result.now c.index.result.now size c.add.result c.count_bits.result nest sizes c.index-size.ensures c.index.ensures c.entry_at-entry.ensures bits nodes chip (ap (λ (x : Chips). find_chip x c.args.top.now) same ∙ found))
