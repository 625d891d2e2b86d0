-- A few scripts that load nothing, and what they put. (The book, appendix 3.)
use Rattle.std.specs.Prelude.{◌≡◌, ℕ, List, [], ◌∷◌, Some, None, codes, replicate}
use Rattle.script_columns.specs.declared.layout.Format.TheVariants.{Text}
use Rattle.script_parser.specs.declared.tree.Placed.{Placed}
use Rattle.script_parser.specs.declared.tree.Item.{Item}
use Rattle.script_parser.specs.declared.tree.Step.TheVariants as steps
use Rattle.script_parser.specs.declared.tree.Act.{Act}
use Rattle.script_parser.specs.declared.tree.Act.TheVariants as acts
use Rattle.script_parser.specs.Trees.Commands.{End, Then, Repeat}
use Rattle.hdl_tree.specs.declared.ends.Memories.TheVariants.{Blocks}
use Rattle.tst_runner.specs.Acts.{acts_of}
use Rattle.tst_runner.specs.Standing.{Standing, at_first}
use Rattle.tst_runner.specs.Setting.{Setting, folder}
use Rattle.outer_world.specs.Plans.{each_folder_there}
use Rattle.tst_runner.specs.Gathering.{Gather}
use Rattle.tst_runner.specs.Effects.{GoThrough, Differs, Faults}
use Rattle.tst_runner.specs.Ends.{Asks, Lacks, IsStarved, whole}

abbrev pub placed_act : List ℕ → Placed
placed_act text = record { text = text; place = record { line = 1; column = 13 } }

-- `time%S1.4.1`
abbrev pub time_item : Item
time_item = record { variable = placed_act (codes "time"); layout = record { format = Text; left = 1; shown = 4; right = 1 } }

abbrev pub output : Act
output = acts.Step steps.Output

-- the script t/a.tst, where no files are known
abbrev pub setting : Setting
setting = record { path = codes "t/a.tst"; files = None; memories = Blocks }

-- these acts put this on out and on err
abbrev pub Puts : List Act → List ℕ → List ℕ → Type 0
Puts done out err = (s : Standing) × GoThrough setting at_first done s × (s.out ≡ out) × (s.err ≡ err)

-- Without an output list the bar alone is put. A tick before the first load does nothing to the time. Acts in braces come as often as they are
-- repeated, and another name than `time` is no item.
pub record ScriptRowsLaw : Type 0 where
  pub bars : Puts (output ∷ output ∷ []) (codes "|\n|\n") []
  pub echoes : Puts (acts.Echo (codes "a") ∷ output ∷ acts.Echo (codes "b") ∷ []) (codes "|\n") (codes "a\nb\n")
  pub heads : Puts (acts.OutputList (time_item ∷ []) ∷ acts.Step steps.Tick ∷ output ∷ []) (codes "| time |\n| 0    |\n") []
  pub repeated : acts_of (Repeat 2 (Then output (Then (acts.Step steps.Eval) End)) (Then output End)) ≡ output ∷ acts.Step steps.Eval ∷ output ∷ acts.Step steps.Eval ∷ output ∷ []
  pub nameless : Faults setting at_first (acts.Set (placed_act (codes "a")) 1) (codes "t/a.tst:1:13: Name a\n")
  -- a chip that is nowhere is left out of those that are gathered
  pub missing : Gather (record { shipped = []; memories = Blocks; files = None; folder = codes "t"; names = [] }) (codes "X" ∷ []) [] []
  -- where memory ran out nothing may stand there
  pub before : IsStarved setting [] []
  -- files are looked for where the script stands
  pub in_folder : folder setting ≡ codes "t"
  pub in_none : folder (record setting { path = codes "a.tst" }) ≡ []
  pub nested : folder (record setting { path = codes "/s/t/a.tst" }) ≡ codes "/s/t"
  -- an echo asks for nothing, and lacks nothing; a compare-to lacks its file, which is looked for beside the script
  pub silent : (Asks at_first (acts.Echo (codes "a")) → ⊥) × (Lacks each_folder_there setting [] (acts.Echo (codes "a")) → ⊥)
  pub lacking : Lacks each_folder_there setting ((codes "a.cmp", []) ∷ []) (acts.CompareTo (placed_act (codes "a.cmp")))
  -- of 4,095 bytes no piece is whole, and of 4,097 one
  pub pieces : (whole (replicate 4095 124) ≡ 0) × (whole (replicate 4097 124) ≡ 4096)
  pub differs : (t : Standing) × Differs setting (record at_first { compared = Some (record { path = codes "t/a.cmp"; lines = codes "||" ∷ [] }) }) output t × (t.out ≡ codes "|\n") × (t.lines ≡ 1)
