use Rattle.std.proofs.Common.{◌≡◌, ℕ, ◌<◌, ◌≤◌, slice_index}
use Rattle.hdl_flatten.proofs.parts.renumber.Given as goal

abbrev pub invariant-loop-node : goal.invariant-loop-node
invariant-loop-node l = record {
  done : (k : ℕ) → k < l.node-index → slice_index l.nodes k ≡ slice_index l.places (slice_index l.fn.nodes k);
  rest : (k : ℕ) → l.node-index ≤ k → slice_index l.nodes k ≡ slice_index l.fn.nodes k;
}
