use Rattle.std.proofs.Common.{◌≡◌, ◌<◌, true, length, ap, sym, ◌∙◌, arith}
use Rattle.std.specs.Str.{bytes_eq}
use Rattle.hdl_tree.specs.declared.library.Entry.{Entry}
use Rattle.hack_cpu.proofs.Libraries.{found_at}
use Rattle.hack_cpu.proofs.shipped.place_of.Goals as goal

pub returns-then-eq-clause-found : goal.returns-then-eq-clause-found
returns-then-eq-clause-found c =
    let name = c.args.name.now in
    let own = c.index-entries-k.result in
    let lt : c.loop-k.k < length c.args.entries.now = omega arith in
    let same : bytes_eq name own.name ≡ true = ap (λ (e : Entry). bytes_eq name e.name) c.index-entries-k.is ∙ ap (bytes_eq name) (sym c.as_bytes.ensures) ∙ (sym c.eq.ensures ∙ c.if-eq.true) in
    (lt, found_at c.args.entries.now name c.loop-k.k own lt c.index-entries-k.is same c.loop-k.invariant)
