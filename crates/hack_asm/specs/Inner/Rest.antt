-- A line is read at one of some tokens.
use Rattle.std.specs.Prelude.{ℕ, List, Result, Ok, Err, Option, map, drop}
use Rattle.scan_text.specs.declared.Place.{Place}
use Rattle.grammar.specs.declared.ReadError.{ReadError}
use Rattle.grammar.specs.Rules.{Reads, Stops}
use Rattle.grammar.specs.Reading.{Halt}
use Rattle.hack_asm.specs.declared.token.Token.{Token}
use Rattle.hack_asm.specs.declared.lines.Item.{Item}
use Rattle.hack_asm.specs.Tokens.{Word, view}
use Rattle.hack_asm.specs.Grammar.{Said, assembly, line}
use Rattle.hack_asm.specs.Trees.{line_of, line_tree}

abbrev pub ReadsLine : Place → List Token → ℕ → Result (Option Item × ℕ) ReadError → Type 0
ReadsLine end ts at (Ok x) = Reads Word (Unit {0}) (Unit {0}) Said (assembly end) tt line (map view (drop at ts)) (line_tree (line_of x.0)) tt (map view (drop x.1 ts))
ReadsLine end ts at (Err e) = Halt (Stops Word (Unit {0}) (Unit {0}) Said (assembly end) tt line (map view (drop at ts))) e
