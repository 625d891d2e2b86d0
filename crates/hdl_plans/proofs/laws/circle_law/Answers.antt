use Rattle.hdl_plans.proofs.Circles.{circle_among, circle_to_own, own_to_circle, own_way, whole_way}
use Rattle.hdl_plans.proofs.laws.circle_law.Goals as goal

pub returns : goal.returns
returns c = record { simple = circle_among; found = circle_to_own; real = own_to_circle; own = own_way; whole = whole_way }
