use Rattle.std.proofs.Common.{◌≤◌, ◌-◌, Some, drop, length, length-drop, arith, ap, ◌∙◌}
use Rattle.std.proofs.lemmas.List.{take_all}
use Rattle.gate_computer.proofs.wire.wiring_of.Goals as goal

-- what stands after the first 32 nodes
pub returns : goal.returns
returns c = record {
  keyboard = c.keyboard.view_is ∙ c.in_ok-keyboard.ensures ∙ c.outs_named.ensures;
  pc =
      let nodes = c.outs_named-outputs.result.now in
      let short : length (drop 32 nodes) ≤ length nodes - 32 = let e = length-drop 32 nodes in omega (arith, e) in
      c.pc.view_is ∙ c.in_ok-pc.ensures ∙ take_all (length nodes - 32) (drop 32 nodes) short ∙ ap (drop 32) c.outs_named-outputs.ensures;
  a = c.in_ok-a.ensures ∙ c.outs_named-2.ensures;
  rom = c.block_named.ensures;
  main = c.block_named-2.ensures;
  screen = c.block_named-3.ensures;
  wired = ap Some c.in_ok-wire_parts.ensures;
}
