use Rattle.std.proofs.Common.{refl, sym, ap, ◌∙◌}
use Rattle.image_map.specs.Map.{point_in}
use Rattle.image_map.proofs.Tallying.{place_first}
use Rattle.image_map.proofs.tally.Tally.new.Goals as goal

pub returns-clause-tallied : goal.returns-clause-tallied
returns-clause-tallied c = λ pc zero_is. record {
  here = sym zero_is;
  counted = refl;
  seen = ap (point_in c.args.map.points) zero_is ∙ place_first c.args.map.points c.requires.mapped c.requires.covers c.requires.some;
}
