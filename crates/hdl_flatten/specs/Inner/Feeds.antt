-- What feeds the input bits of a part.
use Rattle.std.specs.Prelude.{◌≡◌, ℕ, List}
use Rattle.hdl_check.specs.Tables.{BitOf}
use Rattle.hdl_flatten.specs.declared.feeds.Feeds.{Feeds}
use Rattle.hdl_flatten.specs.declared.feeds.Feeds.TheVariants as feeds
use Rattle.hdl_flatten.specs.declared.wires.Origin.{Origin}
use Rattle.hdl_flatten.specs.Trees.{all_bits}
use Rattle.hdl_flatten.specs.Inner.Wired.{wires_of, origins_at, found_bit}

-- one after another
abbrev pub feed_origins : Feeds → List Origin
feed_origins (feeds.All v) = v.items
feed_origins (feeds.Few pins w) = origins_at (wires_of w) (all_bits pins.now)

-- where few are fed, the pins are those of these bits, and what is found is as in these entries
abbrev pub FewAre : Feeds → List BitOf → List (BitOf × Origin) → Type 0
FewAre (feeds.All v) bits es = Unit {0}
FewAre (feeds.Few pins w) bits es = (all_bits pins.now ≡ bits) × ((name : List ℕ) (bit : ℕ) → found_bit name bit (wires_of w) ≡ found_bit name bit es)
