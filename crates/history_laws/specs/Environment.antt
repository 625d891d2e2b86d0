-- Behaviours of a chip where what is told of the outside goes by path in the tree. Each keyboard has its own key, each
-- instruction memory its own words, and words may stand in each memory before the first cycle. (The book, chapters 1
-- to 5.)
use Rattle.std.specs.Prelude.{◌≡◌, ℕ, ◌<◌, true, false, not, ◌&&◌, List, codes}
use Rattle.hdl_tree.specs.declared.library.Entry.{Entry}
use Rattle.hdl_tree.specs.declared.ends.End.{End}
use Rattle.hdl_tree.specs.declared.ends.End.TheVariants as ends
use Rattle.hdl_tree.specs.Memory.{number, before, word_held}
use Rattle.hdl_tree.specs.Chips.{Chips}
use Rattle.hdl_tree.specs.Behaviour.{Histories, Wired}

-- By path of part numbers: the key code at a keyboard in each cycle and the words of an instruction memory. So are the
-- words that stand in a memory before the first cycle.
pub record Environment : Type 0 where
  pub key : List ℕ → ℕ → ℕ
  pub rom : List ℕ → ℕ → ℕ
  pub words : List ℕ → ℕ → ℕ

-- all these are words
pub record IsOfWords (outside : Environment) : Type 0 where
  pub key : (path : List ℕ) (c : ℕ) → outside.key path c < 65536
  pub rom : (path : List ℕ) (a : ℕ) → outside.rom path a < 65536
  pub words : (path : List ℕ) (a : ℕ) → outside.words path a < 65536

-- the word at address a of a memory of 2 ^ bits words at the start of cycle c, in which these words stood before the
-- first
abbrev pub memory_word : ℕ → (ℕ → ℕ) → Histories → ℕ → ℕ → ℕ
memory_word bits start w c a =
    word_held (λ d. w (codes "load") 0 d) (λ d. number bits (λ k. w (codes "address") k d)) (λ d. number 16 (λ k. w (codes "in") k d)) start c a

-- in cycle c the end at a path does its work
abbrev pub EndActs : Environment → List ℕ → ℕ → End → Histories → Type 0
EndActs outside path c ends.Nand w = w (codes "out") 0 c ≡ not (w (codes "a") 0 c && w (codes "b") 0 c)
EndActs outside path c ends.Dff w = w (codes "out") 0 c ≡ before false c (w (codes "in") 0)
EndActs outside path c ends.Keyboard w = number 16 (λ k. w (codes "out") k c) ≡ outside.key path c
EndActs outside path c ends.Rom w = number 16 (λ k. w (codes "out") k c) ≡ outside.rom path (number 15 (λ k. w (codes "address") k c))
EndActs outside path c (ends.Block bits) w =
    number 16 (λ k. w (codes "out") k c) ≡ memory_word bits (outside.words path) w c (number bits (λ k. w (codes "address") k c))

-- a behaviour of a chip over n cycles, with this outside
abbrev pub BehavesIn : Environment → Chips → Entry → ℕ → (List ℕ → Histories) → Type 0
BehavesIn outside chips top n wires =
    (c : ℕ) → c < n → Wired false true chips top (λ path e. EndActs outside path c e (wires path)) (λ path name bit. wires path name bit c)
