-- What a text stands for, from its name and what stands in its brackets.
use Rattle.std.proofs.Common.{◌≡◌, inl, inr, ◌<◌, ℕ, zero, suc, List, [], ◌∷◌, ◌++◌, length, get_or, map, Bor, sym, ap, subst, ◌∙◌, arith}
use Rattle.std.specs.Str.{bytes_eq}
use Rattle.std.specs.Cmp.Lexicographic.{bytes_decides}
use Rattle.std.specs.Prelude.{true, false, ◌==◌, Option, Some, None, MatchOption, slice_get, codes}
use Rattle.std.proofs.lemmas.Bool.{eqb-true}
use Rattle.netlist.specs.Net.{Net}
use Rattle.netlist.specs.declared.node.Block.{Block}
use Rattle.gate_sim.specs.Calls.{Call}
use Rattle.script_device.specs.declared.directory.Directory.{Directory}
use Rattle.script_device.specs.Directory.{AreSizes, HasBlock, HasOut, loaded_chip, pin_named}
use Rattle.script_device.specs.Variables as chips
use Rattle.script_device.specs.Variables.{HasNumber, HasWord, number_after}
use Rattle.script_device.specs.Variables.Source.{BlockWord, Nodes}
use Rattle.script_device.specs.Devices.{Source, Denotes, CanSet}
use Rattle.script_device.specs.Devices.Source.{TheTime, OfChip, OfMachine}
use Rattle.script_device.specs.Devices.Device.{Chip}
use Rattle.script_device.specs.Inner.Brackets.{HasBrackets, NoBrackets}
use Rattle.script_device.specs.Inner.Sources.{HasSize, IsOut}
use Rattle.script_device.proofs.Bracketed.{once}

-- ---- lengths, as the code tests them

pub is_none : (n : ℕ) → (n == 0) ≡ true → n ≡ 0
is_none n e = eqb-true n 0 e

pub is_some : (n : ℕ) → (n == 0) ≡ false → 0 < n
is_some zero e = absurd cc
is_some (suc n) e = omega arith

-- the text is not this one
pub other_text : (text other : List ℕ) → bytes_eq text other ≡ false → text ≡ other → ⊥
other_text text other unlike e = let yes : bytes_eq text other ≡ true = (bytes_decides text other).1 e in absurd cc

pub same_text : (text other : List ℕ) → bytes_eq text other ≡ true → text ≡ other
same_text text other like = (bytes_decides text other).0 like

-- ---- `Name[]`

empty_has : (text name : List ℕ) → text ≡ name ++ codes "[]" → HasBrackets text name []
empty_has text name e = record { digits = λ k x h. absurd (omega (arith, h)); is = e }

pub no_out : (d : Directory) (text nodes : List ℕ) → NoBrackets text → IsOut d text nodes → ⊥
no_out d text nodes none out = none out.0 [] (empty_has text out.0 out.1)

pub out_has : (d : Directory) (text name inside nodes : List ℕ) → HasBrackets text name inside → IsOut d text nodes → (inside ≡ []) × HasOut d name nodes
out_has d text name inside nodes has out =
    let o = once text name inside out.0 [] has (empty_has text out.0 out.1) in
    (o.1, subst (λ n. HasOut d n nodes) (sym o.0) out.2)

pub is_out : (d : Directory) (text name inside nodes : List ℕ) → HasBrackets text name inside → inside ≡ [] → HasOut d name nodes → IsOut d text nodes
is_out d text name inside nodes has e out = (name, has.is ∙ ap (λ i. name ++ 91 ∷ (i ++ 93 ∷ [])) e, out)

pub out_found : (d : Directory) (text name inside : List ℕ) → HasBrackets text name inside → inside ≡ [] → (found : Option (Bor (List ℕ))) → MatchOption found ((nodes : List ℕ) → HasOut d name nodes → ⊥) (λ nodes. HasOut d name nodes.now) → MatchOption found ((nodes : List ℕ) → IsOut d text nodes → ⊥) (λ nodes. IsOut d text nodes.now)
out_found d text name inside has e None none = λ nodes out. none nodes (out_has d text name inside nodes has out).1
out_found d text name inside has e (Some nodes) out = is_out d text name inside nodes.now has e out

-- ---- `Name[k]`

pub number_has : (text name : List ℕ) (k : ℕ) (n : HasNumber text name k) → HasBrackets text name n.written
number_has text name k n = record { digits = n.digits; is = n.is }

pub no_word : (net : Net) (d : Directory) (text : List ℕ) (b a : ℕ) → NoBrackets text → chips.Denotes (loaded_chip net d) text (BlockWord b a) → ⊥
no_word net d text b a none m = none m.0 m.1.written (number_has text m.0 a m.1)

-- what stands in the brackets, and the block of the name
pub record WordOf (net : Net) (d : Directory) (name inside : List ℕ) (b a : ℕ) : Type 0 where
  pub some : 0 < length inside
  pub number : a ≡ number_after 0 inside
  pub block : HasBlock d name b
  pub word : HasWord net b a

pub word_of : (net : Net) (d : Directory) (text name inside : List ℕ) (b a : ℕ) → HasBrackets text name inside → chips.Denotes (loaded_chip net d) text (BlockWord b a) → WordOf net d name inside b a
word_of net d text name inside b a has m =
    let n : HasNumber text m.0 a = m.1 in
    let o = once text name inside m.0 n.written has (number_has text m.0 a n) in
    record {
      some = subst (λ i. 0 < length i) (sym o.1) n.some;
      number = n.number ∙ ap (number_after 0) (sym o.1);
      block = subst (λ s. HasBlock d s b) (sym o.0) m.2;
      word = m.3;
    }

pub is_word : (net : Net) (d : Directory) (text name inside : List ℕ) (b a : ℕ) → HasBrackets text name inside → 0 < length inside → a ≡ number_after 0 inside → HasBlock d name b → HasWord net b a → chips.Denotes (loaded_chip net d) text (BlockWord b a)
is_word net d text name inside b a has some number block word = (name, record { written = inside; some = some; digits = has.digits; is = has.is; number = number }, block, word)

-- ---- sizes

word_size : (blocks : List Block) (b a : ℕ) → MatchOption (slice_get blocks b) ⊥ (λ x. a < x.words) → HasSize (map (λ x. x.words) blocks) b a
word_size [] b a w = w
word_size (x ∷ blocks) zero a w = w
word_size (x ∷ blocks) (suc b) a w = word_size blocks b a w

size_word : (blocks : List Block) (b a : ℕ) → HasSize (map (λ x. x.words) blocks) b a → MatchOption (slice_get blocks b) ⊥ (λ x. a < x.words)
size_word [] b a s = s
size_word (x ∷ blocks) zero a s = s
size_word (x ∷ blocks) (suc b) a s = size_word blocks b a s

pub has_size : (net : Net) (sizes : List ℕ) (b a : ℕ) → AreSizes sizes net → HasWord net b a → HasSize sizes b a
has_size net sizes b a e w = subst (λ s. HasSize s b a) (sym e) (word_size net.blocks b a w)

pub has_word : (net : Net) (sizes : List ℕ) (b a : ℕ) → AreSizes sizes net → HasSize sizes b a → HasWord net b a
has_word net sizes b a e s = size_word net.blocks b a (subst (λ s. HasSize s b a) e s)

-- an address is below the size of a block, which is a number of 32 bits
pub short : (sizes : List ℕ) (b a : ℕ) → ((i : ℕ) → get_or sizes i 0 < 4294967296) → HasSize sizes b a → a < 4294967296
short [] b a below s = absurd s
short (x ∷ sizes) zero a below s = omega (arith, below 0, s)
short (x ∷ sizes) (suc b) a below s = short sizes b a (λ i. below (suc i)) s

-- a chip's first part has one block
pub one_block : (d : Directory) (name : List ℕ) (b c : ℕ) → HasBlock d name b → HasBlock d name c → b ≡ c
one_block d name b c x y =
    let same : Some x.0 ≡ Some y.0 = sym x.1 ∙ y.1 in
    let part : x.0 ≡ y.0 = cc in
    let block : Some b ≡ Some c = sym x.2 ∙ ap (λ p. p.block) part ∙ y.2 in
    cc

-- what is found for a word
abbrev pub WordFound : Net → Directory → List ℕ → Option (ℕ × ℕ) → Type 0
WordFound net d text found = MatchOption found ((b a : ℕ) → chips.Denotes (loaded_chip net d) text (BlockWord b a) → ⊥) (λ word. chips.Denotes (loaded_chip net d) text (BlockWord word.0 word.1))

-- ---- the whole

pub means_nothing : (net : Net) (d : Directory) (calls : List Call) (text : List ℕ) → (text ≡ codes "time" → ⊥) → pin_named (d.inputs ++ d.outputs) text ≡ None → ((nodes : List ℕ) → IsOut d text nodes → ⊥) → ((b a : ℕ) → chips.Denotes (loaded_chip net d) text (BlockWord b a) → ⊥) → (source : Source) → Denotes (Chip (loaded_chip net d) calls) text source → ⊥
means_nothing net d calls text time pin out word TheTime m = time m
means_nothing net d calls text time pin out word (OfChip (Nodes nodes)) m = elim m.1 [ inl p ↦ absurd cc | inr o ↦ out nodes o ]
means_nothing net d calls text time pin out word (OfChip (BlockWord b a)) m = word b a m.1
means_nothing net d calls text time pin out word (OfMachine register) m = m

pub sets_nothing : (net : Net) (d : Directory) (calls : List Call) (text : List ℕ) → pin_named d.inputs text ≡ None → ((b a : ℕ) → chips.Denotes (loaded_chip net d) text (BlockWord b a) → ⊥) → (source : Source) → CanSet (Chip (loaded_chip net d) calls) text source → ⊥
sets_nothing net d calls text pin word TheTime m = m
sets_nothing net d calls text pin word (OfChip (Nodes nodes)) m = let found : pin_named d.inputs text ≡ Some nodes = m.1 in absurd cc
sets_nothing net d calls text pin word (OfChip (BlockWord b a)) m = word b a m.1
sets_nothing net d calls text pin word (OfMachine register) m = m

-- the time cannot be set
pub time_is_fixed : (net : Net) (d : Directory) (calls : List Call) (text : List ℕ) → text ≡ codes "time" → (source : Source) → CanSet (Chip (loaded_chip net d) calls) text source → ⊥
time_is_fixed net d calls text time TheTime m = m
time_is_fixed net d calls text time (OfChip source) m = m.0 time
time_is_fixed net d calls text time (OfMachine register) m = m
