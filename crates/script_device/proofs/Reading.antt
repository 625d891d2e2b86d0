-- The netlist that runs reads as that of the chip.
use Rattle.std.proofs.Common.{◌≡◌, ℕ, zero, suc, ◌<◌, true, ltb-true, List, [], ◌∷◌, length, Option, Some, None, refl, ap, sym, subst, ◌∙◌, arith}
use Rattle.std.specs.Prelude.{map, slice_get, slice_index}
use Rattle.std.specs.List.{All, Contains}
use Rattle.netlist.specs.declared.node.Node.TheVariants.{Pin}
use Rattle.netlist.specs.Net.{Net}
use Rattle.net_simplify.specs.Same.{IsPinOf, ShowsSame}
use Rattle.net_simplify.proofs.Itself.{map_itself, shows_itself}
use Rattle.gate_sim.specs.State.{SimState}
use Rattle.script_device.specs.declared.chip_sim.WholeNet.{WholeNet}
use Rattle.script_device.specs.Simulated.{ChipState, IsPlaced, ReadsAs, StandsIn, can_read, place_in, whole_net}
use Rattle.script_device.proofs.Keeping.{among_contains}
use Rattle.script_device.proofs.Placed.{state_of, kept_of}

index_map : (f : ℕ → ℕ) (xs : List ℕ) (i : ℕ) → i < length xs → slice_index (map f xs) i ≡ f (slice_index xs i)
index_map f [] i less = absurd (omega (arith, less))
index_map f (x ∷ xs) zero less = refl
index_map f (x ∷ xs) (suc i) less = index_map f xs i (omega (arith, less))

length_map : (f : ℕ → ℕ) (xs : List ℕ) → length (map f xs) ≡ length xs
length_map f [] = refl
length_map f (x ∷ xs) = ap suc (length_map f xs)

module _ (whole : WholeNet) (net : Net) (p : IsPlaced whole net) (nodes : List ℕ) (kept : All (Contains whole.kept.items) nodes) where
  abbrev at : ℕ → ℕ
  at = slice_index whole.places.items

  -- what holds of a kept node and its place in the list holds of a node and its place
  by_place : (P : ℕ → ℕ → Type 0) → ((j : ℕ) → j < length whole.kept.items → P (slice_index whole.kept.items j) (slice_index p.place j)) → (i : ℕ) → i < length nodes → P (slice_index nodes i) (slice_index (map at nodes) i)
  by_place P all i less =
      let k = kept_of whole net p (slice_index nodes i) (kept i 0 less) in
      let there : slice_index (map at nodes) i ≡ slice_index p.place k.0 = index_map at nodes i less ∙ ap at (sym k.2) ∙ p.at k.0 k.1 in
      subst (P (slice_index nodes i)) (sym there) (subst (λ n. P n (slice_index p.place k.0)) k.2 (all k.0 k.1))

  shows_kept : ShowsSame whole.net net nodes (map at nodes)
  shows_kept =
      let s = p.simplified.same in
      record {
        number = length_map at nodes;
        inside = by_place (λ k l. l < length net.nodes) s.inside;
        kept_pins = by_place (λ k l. slice_get whole.net.nodes k ≡ Some Pin → IsPinOf whole.net net k l) s.kept_pins;
        pins = s.pins;
        blocks = s.blocks;
        values = λ h g n same v w are own i c less near. by_place (λ k l. v k c ≡ w l c) (λ j there. s.values h g n same v w are own j c there near) i less;
        words = s.words;
      }

reads_in : (whole : Option WholeNet) (net : Net) → StandsIn whole net → (nodes : List ℕ) → All (λ k. can_read whole net k ≡ true) nodes → ShowsSame (whole_net whole net) net nodes (map (place_in whole) nodes)
reads_in None net p nodes seen = subst (ShowsSame net net nodes) (sym (map_itself nodes)) (shows_itself net nodes p (λ i d less. ltb-true _ (length net.nodes) (seen i d less)))
reads_in (Some whole) net p nodes seen = shows_kept whole net p nodes (λ i d less. among_contains whole.kept.items _ (seen i d less))

pub reads_seen : (s : ChipState) (sim : SimState) (whole : Option WholeNet) → state_of sim whole ≡ s → StandsIn whole sim.net → ReadsAs s.frame
reads_seen s sim whole view p = subst (λ (x : ChipState). ReadsAs x.frame) view (reads_in whole sim.net p)
