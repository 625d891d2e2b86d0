use Rattle.std.proofs.Common.{◌≡◌, ℕ, List, length, map, ap, ◌∙◌}
use Rattle.std.proofs.lemmas.List.{length-map, with_items_is}
use Rattle.std.specs.Prelude.{slice_index}
use Rattle.hdl_flatten.specs.Kept.{renumbered}
use Rattle.hdl_flatten.specs.Inner.Heads.{part_of}
use Rattle.hdl_flatten.proofs.Heads.{all_renumbered}
use Rattle.hdl_flatten.proofs.parts.Parts.renumber.Goals as goal

pub returns : goal.returns
returns c =
    let old = c.self.inside in
    let places = c.args.places.now in
    let long : length c.renumber.new.nodes ≡ old.nodes.len = ap length c.renumber.ensures ∙ length-map c.deref_mut.result.now (slice_index places) ∙ c.deref_mut.ensures.len in
    ap (λ (ns : List ℕ). map (part_of old.kinds.items ns) old.heads.items) (with_items_is old.nodes c.renumber.new.nodes long ∙ c.renumber.ensures ∙ ap (map (slice_index places)) c.deref_mut.ensures.value)
    ∙ all_renumbered old.kinds.items old.nodes.items places old.heads.items
    ∙ ap (map (renumbered places)) c.self.view_is
