use Rattle.std.proofs.Common.{◌++◌, ◌∷◌, [], length, List, refl, ap, ◌∙◌}
use Rattle.hdl_loops.specs.declared.tree.Node.{Node}
use Rattle.hdl_loops.proofs.Growing.{absent_last}
use Rattle.hdl_loops.proofs.tree.Tree.add.Goals as goal

pub returns : goal.returns
returns c =
    let old = c.args.self.now.places.entries in
    let list = c.as_slice-place.result.now in
    record {
      root = refl;
      nodes = c.in_ok-push.ensures.items;
      passed = refl;
      places = c.in-Ok.ensures.entries ∙ (absent_last old c.args.hop.to (length list) c.requires ∙ ap (λ (v : List Node). old ++ (c.args.hop.to, length v) ∷ []) c.as_slice-place.ensures.value);
    }
