-- Small scripts, what they spell and their first faults (book, appendix 3).
use Rattle.std.specs.Prelude.{ℕ, List, [], ◌∷◌, ◌++◌, codes}
use Rattle.scan_text.specs.declared.Place.{Place}
use Rattle.grammar.specs.declared.Fault.TheVariants.{Grammar, Range}
use Rattle.script_parser.specs.declared.tree.Placed.{Placed}
use Rattle.script_columns.specs.declared.layout.Format.{Format}
use Rattle.script_columns.specs.declared.layout.Format.TheVariants as format
use Rattle.script_parser.specs.declared.tree.Item.{Item}
use Rattle.script_parser.specs.declared.tree.Step.TheVariants as step
use Rattle.script_parser.specs.declared.tree.Act.TheVariants as act
use Rattle.script_parser.specs.Trees.{End, Then, Repeat, Spells, Refuses}

-- a column of the first line
abbrev pub at : ℕ → Place
at n = record { line = 1; column = n }

abbrev pub word_at : ℕ → Placed
word_at n = record { text = codes "a"; place = at n }

-- the variable a there, and how it is shown
abbrev pub item_at : ℕ → Format → ℕ → ℕ → ℕ → Item
item_at n f left shown right = record { variable = word_at n; layout = record { format = f; left = left; shown = shown; right = right } }

-- a text in double quotes
abbrev pub quoted_text : List ℕ → List ℕ
quoted_text text = 34 ∷ text ++ 34 ∷ []

pub record RowsLaw : Type 0 where
  pub empty : Spells (codes " // no command") End
  pub repeated : Spells (codes "repeat 2 { tick; } tock!")
      (Repeat 2 (Then (act.Step step.Tick) End) (Then (act.Step step.Tock) End))
  pub binary : Spells (codes "set a %B101,") (Then (act.Set (word_at 5) 5) End)
  pub negative : Spells (codes "set a -1;") (Then (act.Set (word_at 5) 65535) End)
  -- a variable alone is shown as by %B1.1.1
  pub listed : Spells (codes "output-list a%S2.3.4 a;") (Then
      (act.OutputList (item_at 13 format.Text 2 3 4 ∷ item_at 22 format.Binary 1 1 1 ∷ [])) End)
  pub echoed : Spells (codes "echo " ++ quoted_text (codes "a; //") ++ codes "!")
      (Then (act.Echo (codes "a; //")) End)
  pub image : Spells (codes "ROM32K load a.hack;")
      (Then (act.LoadRom (record { text = codes "ROM32K"; place = at 1 })
      (record { text = codes "a.hack"; place = at 13 })) End)
  -- the command does not end
  pub open_act : Refuses (codes "eval") (Grammar (at 5))
  pub other_ending : Refuses (codes "load a.txt;") (Grammar (at 6))
  pub large : Refuses (codes "set a 65536;") (Range (at 7) 65536)
  pub low : Refuses (codes "set a %D-32769;") (Range (at 10) 32769)
  -- at the second number of the format
  pub wide : Refuses (codes "output-list a%B1.256.1;") (Range (at 18) 256)
  -- the product of the counts
  pub often : Refuses (codes "repeat 50000 { repeat 50000 { } }") (Range (at 23) 1000000000)
  -- a text that is not closed comes before what stands before it
  pub unclosed : Refuses (codes "a echo " ++ 34 ∷ codes "a;") (Grammar (at 8))
