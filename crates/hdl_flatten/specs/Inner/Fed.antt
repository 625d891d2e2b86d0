-- The nodes of the input bits of a chip that is put.
use Rattle.std.specs.Prelude.{◌≡◌, ℕ, List, [], map}
use Rattle.std.specs.List.{All}
use Rattle.hdl_check.specs.Tables.{BitOf}
use Rattle.hdl_flatten.specs.declared.feeds.Feeds.{Feeds}
use Rattle.hdl_flatten.specs.declared.feeds.Feeds.TheVariants as feeds
use Rattle.hdl_flatten.specs.declared.feeds.Inputs.{Inputs}
use Rattle.hdl_flatten.specs.declared.feeds.Inputs.TheVariants as inputs
use Rattle.hdl_flatten.specs.declared.wires.Origin.{Origin}
use Rattle.hdl_flatten.specs.declared.wires.Origin.TheVariants.{Gate}
use Rattle.hdl_flatten.specs.Trees.{all_bits}
use Rattle.hdl_flatten.specs.Inner.Wired.{bit_of, wires_of, origins_at}
use Rattle.hdl_flatten.specs.Inner.Puts.{node_of}
use Rattle.hdl_flatten.specs.Inner.Putting.{IsWithin, AreWithin}

-- one after another
abbrev pub nodes_in : Inputs → List ℕ
nodes_in (inputs.All v) = v.items
nodes_in (inputs.Few bits w) = map (node_of 0 []) (origins_at (wires_of w) (map bit_of bits.now))

-- what is fed to these bits of a part of a chip of n input bits is there
abbrev pub MayFeed : ℕ → Feeds → List BitOf → Type 0
MayFeed n (feeds.All v) bits = All (IsWithin n 16777216) v.items
MayFeed n (feeds.Few pins w) bits = (all_bits pins.now ≡ bits) × AreWithin n 16777216 (wires_of w)

-- entries with nodes, counted from the first of all nodes, in place of origins in a chip whose nodes begin at base
abbrev pub as_nodes : ℕ → List ℕ → List (BitOf × Origin) → List (BitOf × Origin)
as_nodes base is es = map (λ e. (e.0, Gate (node_of base is e.1))) es
