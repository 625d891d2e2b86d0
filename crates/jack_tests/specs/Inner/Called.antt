-- The calls of the tests' programs, each of which has four subroutines.
use Rattle.std.specs.Prelude.{◌≡◌, ◌<◌, ℕ, List, [], ◌∷◌, length}
use Rattle.std.specs.List.{Contains}
use Rattle.jack_meaning.specs.Linked.{text_calls}
use Rattle.jack_core.specs.declared.tree.Part.{Part}
use Rattle.jack_core.specs.declared.tree.Part.TheVariants as part
use Rattle.jack_core.specs.declared.program.Subroutine.{Subroutine}
use Rattle.jack_core.specs.Texts.{the_block}

-- these are among the four
abbrev pub OfFour : List ℕ → Type 0
OfFour gs = (g : ℕ) → Contains gs g → g < 4

abbrev pub IsOfFour : Part → Type 0
IsOfFour (part.Call n g) = g < 4
IsOfFour _ = Unit {0}

abbrev pub AreOfFour : List Part → Type 0
AreOfFour [] = Unit {0}
AreOfFour (p ∷ ps) = IsOfFour p × AreOfFour ps

-- the body of each of these subroutines calls the four alone
abbrev pub CallFour : List Subroutine → Type 0
CallFour [] = Unit {0}
CallFour (s ∷ ss) = OfFour (text_calls (the_block s.body.items)) × CallFour ss

-- this many such subroutines
pub record AreSo (n : ℕ) (subs : List Subroutine) : Type 0 where
  pub count : length subs ≡ n
  pub each : CallFour subs
