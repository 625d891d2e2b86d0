-- A numbering in a netlist whose nodes have other numbers.
use Rattle.std.proofs.Common.{◌≡◌, ℕ, ◌^◌, List, [], ◌∷◌, ◌++◌, Option, Some, None, map, refl, ap, ap₂, ◌∙◌}
use Rattle.std.specs.Prelude.{slice_get, slice_index, codes}
use Rattle.std.specs.Option.{option_map}
use Rattle.std.specs.List.{range_with_len}
use Rattle.std.proofs.lemmas.Option.{slice_get-map}
use Rattle.hdl_tree.specs.declared.library.Entry.{Entry}
use Rattle.hdl_tree.specs.declared.ends.End.{End}
use Rattle.hdl_tree.specs.declared.ends.End.TheVariants as ends
use Rattle.hdl_tree.specs.Chips.{Chips, end_of, parts_of_body}
use Rattle.hdl_tree.specs.Behaviour.{Wires, ChipWired}
use Rattle.netlist.specs.declared.node.Node.TheVariants.{Pin, Nand, Flip, Word, Zero}
use Rattle.netlist.specs.declared.node.Block.{Block}
use Rattle.netlist.specs.Net.{Net}
use Rattle.netlist.specs.Renamed.{renamed_block, IsRenamed}
use Rattle.hdl_nodes.specs.Numbering.{nodes_of, memory_block, rom_block, BlockStands, EndStands}
use Rattle.hdl_nodes.specs.Renaming.{RenamingLaw}
use Rattle.hdl_nodes.proofs.Numbered.{map_parts}

map_twice : (f g : ℕ → ℕ) (xs : List ℕ) → map g (map f xs) ≡ map (λ x. g (f x)) xs
map_twice f g [] = refl
map_twice f g (x ∷ xs) = ap (λ (ys : List ℕ). g (f x) ∷ ys) (map_twice f g xs)

nodes_twice : (places : List ℕ) (n : ℕ) (f : ℕ → ℕ) → map (slice_index places) (nodes_of n f) ≡ nodes_of n (λ k. slice_index places (f k))
nodes_twice places n f = map_twice f (slice_index places) (range_with_len 0 n)

module _ (old new : Net) (places : List ℕ) (is : IsRenamed old new places) where
  abbrev moved : Wires ℕ → Wires ℕ
  moved at name bit = slice_index places (at name bit)

  block_there : (b : ℕ) (block : Block) → slice_get old.blocks b ≡ Some block → slice_get new.blocks b ≡ Some (renamed_block places block)
  block_there b block e = ap (λ (x : List Block). slice_get x b) is.blocks ∙ slice_get-map (renamed_block places) old.blocks b ∙ ap (option_map (renamed_block places)) e

  stands : (b : ℕ) (block block' : Block) (at : Wires ℕ) → renamed_block places block ≡ block' → BlockStands old b block at → BlockStands new b block' (moved at)
  stands b block block' at same s = record {
    there = block_there b block s.there ∙ ap (λ (x : Block). Some x) same;
    words = λ k lt. is.nodes (at (codes "out") k) (Word b k) (s.words k lt);
  }

  memory_moved : (bits : ℕ) (at : Wires ℕ) → renamed_block places (memory_block bits at) ≡ memory_block bits (moved at)
  memory_moved bits at =
      ap₂ (λ (d a : List ℕ). record { words = 2 ^ bits; «data» = d; load = slice_index places (at (codes "load") 0); address = a }) (nodes_twice places 16 (at (codes "in"))) (nodes_twice places bits (at (codes "address")))

  rom_moved : (low : ℕ) (at : Wires ℕ) → renamed_block places (rom_block low at) ≡ rom_block (slice_index places low) (moved at)
  rom_moved low at = ap (λ (a : List ℕ). record { words = 32768; «data» = []; load = slice_index places low; address = a }) (nodes_twice places 15 (at (codes "address")))

  end_moved : (low b : ℕ) (e : End) (at : Wires ℕ) → EndStands old low b e at → EndStands new (slice_index places low) b e (moved at)
  end_moved low b ends.Nand at s = is.nodes (at (codes "out") 0) (Nand (at (codes "a") 0) (at (codes "b") 0)) s
  end_moved low b ends.Dff at s = is.nodes (at (codes "out") 0) (Flip (at (codes "in") 0)) s
  end_moved low b ends.Keyboard at s = λ k lt. is.nodes (at (codes "out") k) Pin (s k lt)
  end_moved low b ends.Rom at s = stands b (rom_block low at) (rom_block (slice_index places low) (moved at)) at (rom_moved low at) s
  end_moved low b (ends.Block bits) at s = stands b (memory_block bits at) (memory_block bits (moved at)) at (memory_moved bits at) s

  here : (low high : ℕ) (chips : Chips) (inner : Entry) (o : Option End) (b : ℕ) (at : Wires ℕ) (inside : ℕ → Wires ℕ) →
      ChipWired low high chips inner o at inside (λ e. EndStands old low b e at) → ChipWired (slice_index places low) (slice_index places high) chips inner o (moved at) (λ i. moved (inside i)) (λ e. EndStands new (slice_index places low) b e (moved at))
  here low high chips inner None b at inside w = map_parts (slice_index places) low high (slice_index places low) (slice_index places high) refl refl chips inner (parts_of_body inner.chip.body) at inside w
  here low high chips inner (Some e) b at inside w = end_moved low b e at w

pub renamed_numbering : RenamingLaw
renamed_numbering old new places low high chips top block at is numbering = record {
  low_stands = is.nodes low Zero numbering.low_stands;
  high_stands = is.nodes high (Nand low low) numbering.high_stands;
  wired = λ path inner there. here old new places is low high chips inner (end_of chips.memories inner) (block path) (at path) (λ i. at (path ++ i ∷ [])) (numbering.wired path inner there);
}
