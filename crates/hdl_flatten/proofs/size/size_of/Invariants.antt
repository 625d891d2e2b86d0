use Rattle.std.proofs.Common.{◌≡◌, ◌<◌, length}
use Rattle.std.specs.List.{All}
use Rattle.hdl_flatten.specs.Inner.Sizes.{all_joined, IsSmall}
use Rattle.hdl_flatten.proofs.size.size_of.Given as goal

abbrev pub invariant-loop-place : goal.invariant-loop-place
invariant-loop-place l = record {
  sum : all_joined l.sizes l.size l.rest ≡ all_joined l.sizes l.initial.size l.nested.parts.items;
  small : IsSmall l.size;
  within : All (λ r. r < length l.sizes) l.rest;
}

abbrev pub decreases-loop-place : goal.decreases-loop-place
decreases-loop-place l = length l.rest
