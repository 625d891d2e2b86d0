-- The command `test`: the lines of a test script, its echoes, and how it ends. (The book, appendix 3.)
use Rattle.std.specs.Prelude.{ℕ, Bool, true, false, List, Option}
use Rattle.outer_world.specs.Files.{Files}
use Rattle.hdl_tree.specs.declared.ends.Memories.{Memories}
use Rattle.hdl_tree.specs.declared.ends.Memories.TheVariants.{Blocks, Gates}
use Rattle.tst_runner.specs.Setting.{Setting, setting_of}
use Rattle.tst_runner.specs.Ends as script

-- how the memories of chips are simulated, by the option `--gates`
abbrev pub memories_of : Bool → Memories
memories_of true = Gates
memories_of false = Blocks

-- the script at a path; with `gates` the memories of its chips are made of gates
abbrev pub script_at : Option Files → List ℕ → Bool → Setting
script_at files path gates = setting_of path files (memories_of gates)

-- All commands are done, and this stands on out and on err.
abbrev pub TestPrints : Option Files → List ℕ → Bool → List ℕ → List ℕ → Type 0
TestPrints files path gates out err = script.IsDone (script_at files path gates) out err

-- The script is refused: this stands on out and on err, and then this line says why.
abbrev pub TestRefuses : Option Files → List ℕ → Bool → List ℕ → List ℕ → List ℕ → Type 0
TestRefuses files path gates out before line = script.IsRefused (script_at files path gates) out before line

-- Or a line differs.
abbrev pub TestDiffers : Option Files → List ℕ → Bool → List ℕ → List ℕ → List ℕ → Type 0
TestDiffers files path gates out before line = script.IsDifferent (script_at files path gates) out before line

-- Or the shelf failed where it was read.
abbrev pub TestMisses : Option Files → (List ℕ → Bool) → Type 0 → List ℕ → Bool → List ℕ → List ℕ → Type 0
TestMisses files there unfailing path gates out before = script.IsUnread (script_at files path gates) there unfailing out before

-- Or memory ran out.
abbrev pub TestStarves : Option Files → List ℕ → Bool → List ℕ → List ℕ → Type 0
TestStarves files path gates out before = script.IsStarved (script_at files path gates) out before

-- What stands on out and on err where out failed, and where an echo on err failed.
abbrev pub TestCutsOut : Option Files → List ℕ → Bool → List ℕ → List ℕ → Type 0
TestCutsOut files path gates out err = script.OutIsCut (script_at files path gates) out err

abbrev pub TestCutsEcho : Option Files → List ℕ → Bool → List ℕ → List ℕ → Type 0
TestCutsEcho files path gates out err = script.EchoIsCut (script_at files path gates) out err
