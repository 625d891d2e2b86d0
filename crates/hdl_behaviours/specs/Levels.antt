-- Levels of the nets of a chip, which rise along each step within a cycle, and the inputs that a net depends on. Let them do so for each chip of a
-- library. Then none has a loop, and no output depends on an input but as a table says. (The book, chapter 3 and appendix 2.)
use Rattle.std.specs.Prelude.{◌≡◌, ℕ, suc, Bool, true, false, ◌&&◌, ◌||◌, nat_lt, List, [], ◌∷◌, Option, Some, None, unwrap_or, slice_get, codes, if◌then◌else◌}
use Rattle.std.specs.Str.{bytes_eq}
use Rattle.hdl_tree.specs.declared.tree.Pin.{Pin}
use Rattle.hdl_tree.specs.declared.tree.Source.{Source}
use Rattle.hdl_tree.specs.declared.tree.Source.TheVariants as source
use Rattle.hdl_tree.specs.declared.tree.Connection.{Connection}
use Rattle.hdl_tree.specs.declared.tree.Part.{Part}
use Rattle.hdl_tree.specs.declared.library.Entry.{Entry}
use Rattle.hdl_tree.specs.declared.ends.End.{End}
use Rattle.hdl_tree.specs.declared.ends.End.TheVariants as ends
use Rattle.hdl_tree.specs.Chips.{Chips, end_of, find_chip, parts_of}
use Rattle.hdl_tree.specs.Writable.{all, is_among}
use Rattle.name_table.specs.Names.{find_value}
use Rattle.hdl_plans.specs.Plans.{is_input}

-- ---- ways through chips

-- pairs of an input and an output that may depend on it within the cycle
abbrev pub Pairs : Type 0
Pairs = List (List ℕ × List ℕ)

abbrev pub is_pair : List ℕ → List ℕ → Pairs → Bool
is_pair input output [] = false
is_pair input output (p ∷ ps) = (bytes_eq input p.0 && bytes_eq output p.1) || is_pair input output ps

-- the pairs of each chip, by its name
abbrev pub pairs_of : List (List ℕ × Pairs) → List ℕ → Pairs
pairs_of table name = unwrap_or (find_value name table) []

-- ---- levels

-- a number that rises, and the inputs of the chip that are passed on
pub record Level : Type 0 where
  pub rank : ℕ
  pub from : List (List ℕ)

-- the levels of the nets; an input that is not listed has the lowest, and passes itself on
abbrev pub level_of : List (List ℕ × Level) → List ℕ → Level
level_of levels name = unwrap_or (find_value name levels) (record { rank = 0; from = name ∷ [] })

abbrev pub lowest : Level
lowest = record { rank = 0; from = [] }

abbrev pub higher : ℕ → ℕ → ℕ
higher a b = if nat_lt a b then b else a

-- the names with those that are new
abbrev pub with_names : List (List ℕ) → List (List ℕ) → List (List ℕ)
with_names [] names = names
with_names (x ∷ xs) names = if is_among x (with_names xs names) then with_names xs names else x ∷ with_names xs names

-- above the one, and no lower than the other
abbrev pub over : Level → Level → Level
over a b = record { rank = higher (suc a.rank) b.rank; from = with_names a.from b.from }

-- the one level lies below the other
abbrev pub is_below : Level → Level → Bool
is_below a b = nat_lt a.rank b.rank && all (λ x. is_among x b.from) a.from

-- ---- the pins of a part

abbrev pub over_source : List (List ℕ × Level) → Source → Level → Level
over_source levels (source.Net w) rest = over (level_of levels w.name) rest
over_source levels (source.Constant b) rest = rest

-- above all that is connected with the pin
abbrev pub input_level : List (List ℕ × Level) → List Connection → List ℕ → Level
input_level levels [] name = lowest
input_level levels (conn ∷ conns) name = if bytes_eq name conn.pin.name then over_source levels conn.source (input_level levels conns name) else input_level levels conns name

-- above all inputs of the part that the pin may depend on
abbrev pub output_level : List (List ℕ × Level) → List Connection → Pairs → List ℕ → Level
output_level levels conns [] name = lowest
output_level levels conns (p ∷ ps) name = if bytes_eq name p.1 then over (input_level levels conns p.0) (output_level levels conns ps name) else output_level levels conns ps name

abbrev pub pin_level : List (List ℕ × Level) → List Connection → Pairs → Entry → List ℕ → Level
pin_level levels conns pairs inner name = if is_input inner name then input_level levels conns name else output_level levels conns pairs name

-- ---- the test of a chip

-- what an output of a part drives lies above it
abbrev pub drives_higher : List (List ℕ × Level) → List Connection → Pairs → Entry → Connection → Source → Bool
drives_higher levels conns pairs inner conn (source.Net w) = is_input inner conn.pin.name || is_below (output_level levels conns pairs conn.pin.name) (level_of levels w.name)
drives_higher levels conns pairs inner conn (source.Constant b) = true

abbrev pub inner_is_levelled : (List ℕ → Pairs) → List (List ℕ × Level) → Part → Option Entry → Bool
inner_is_levelled pairs levels part None = true
inner_is_levelled pairs levels part (Some inner) = all (λ conn. drives_higher levels part.connections (pairs inner.name) inner conn conn.source) part.connections

abbrev pub part_is_levelled : Chips → (List ℕ → Pairs) → List (List ℕ × Level) → Part → Bool
part_is_levelled chips pairs levels part = inner_is_levelled pairs levels part (find_chip chips part.chip)

-- the pins of an end that reach its out within the cycle
abbrev pub reaching : End → List (List ℕ)
reaching ends.Nand = codes "a" ∷ codes "b" ∷ []
reaching ends.Dff = []
reaching ends.Keyboard = []
reaching ends.Rom = codes "address" ∷ []
reaching (ends.Block bits) = codes "address" ∷ []

abbrev pub end_is_levelled : List (List ℕ × Level) → End → Bool
end_is_levelled levels e = all (λ pin. is_below (level_of levels pin) (level_of levels (codes "out"))) (reaching e)

abbrev pub steps_rise : Chips → (List ℕ → Pairs) → List (List ℕ × Level) → Entry → Bool
steps_rise chips pairs levels entry = elim (end_of chips.memories entry) [ None ↦ all (part_is_levelled chips pairs levels) (parts_of chips entry) | Some e ↦ end_is_levelled levels e ]

-- an input passes itself on
abbrev pub passes_on : List (List ℕ × Level) → Pin → Bool
passes_on levels pin = is_among pin.name (level_of levels pin.name).from

-- an output passes only inputs on with which it makes a pair
abbrev pub is_told : List (List ℕ × Level) → Pairs → Pin → Bool
is_told levels pairs pin = all (λ input. is_pair input pin.name pairs) (level_of levels pin.name).from

-- the levels rise along each step, and list no way from an input to an output but the pairs of the chip
abbrev pub is_levelled : Chips → (List ℕ → Pairs) → List (List ℕ × Level) → Entry → Bool
is_levelled chips pairs levels entry =
    steps_rise chips pairs levels entry && (all (passes_on levels) entry.chip.inputs && all (is_told levels (pairs entry.name)) entry.chip.outputs)

-- each chip of the library has such levels
abbrev pub AreLevelled : Chips → (List ℕ → Pairs) → (Entry → List (List ℕ × Level)) → Type 0
AreLevelled chips pairs levels = (i : ℕ) (entry : Entry) → slice_get chips.entries i ≡ Some entry → is_levelled chips pairs (levels entry) entry ≡ true
