-- The one range has each address of the image.
use Rattle.std.proofs.Common.{◌≡◌, ◌<◌, ◌∙◌, length, List, [], ◌∷◌, ◌++◌, ℕ, refl, sym, ap, subst, arith}
use Rattle.image_map.specs.declared.map.PointRange.{PointRange}
use Rattle.image_map.specs.Map.{Covers}
use Rattle.gate_tests.proofs.running.computer_of.Goals as goal

one : (old new : List PointRange) (r : PointRange) → old ≡ [] → new ≡ old ++ r ∷ [] → r.from ≡ 0 → 0 < r.to → Covers 0 new r.to
one old new r none more from some = subst (λ rs. Covers 0 rs r.to) (sym (more ∙ ap (λ rs. rs ++ r ∷ []) none)) (from, some, refl)

pub prepare_gates-requires : goal.prepare_gates-requires
prepare_gates-requires c =
    let size = ap (λ (l : List ℕ). length l) (c.of-words.ensures ∙ c.in_ok-from_slice.ensures.items) in
    let few = c.requires.few in
    record {
      covers = record {
        mapped = length c.args.words.now;
        some = c.requires.some;
        covers = one c.new-points.result c.push.new.self _ c.new-points.ensures c.in_ok-push.ensures.ok refl c.requires.some;
      };
      within = omega (arith, size);
      room = omega (arith, size, few);
    }
