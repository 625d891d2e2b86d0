-- The diagnostic of a refused text where its language has a grammar: its first fault. (The languages of the book are given by
-- grammars, chapters 4, 7 and 9, appendices 2 and 3.)
use Rattle.std.specs.Prelude.{◌≡◌, ℕ, List}
use Rattle.grammar.specs.declared.Fault.{Fault}
use Rattle.grammar.specs.declared.ReadError.{ReadError}
use Rattle.grammar.specs.declared.ReadError.TheVariants as reads
use Rattle.grammar.specs.Faults.{diagnostic_of}
use Rattle.outer_world.specs.Refusals.{Message}
use Rattle.source_files.specs.declared.error.TextError.{TextError}
use Rattle.source_files.specs.declared.error.TextError.TheVariants as texts

-- A text has a first fault, and this is its diagnostic.
abbrev pub TellsFault : (List ℕ → Fault → Type 0) → List ℕ → Message → Type 0
TellsFault refuses text told = (fault : Fault) × refuses text fault × (told ≡ diagnostic_of fault)

-- why a text is not read, by what its reader answers
abbrev pub read_error : ReadError → TextError
read_error (reads.Fault fault) = texts.Refused (diagnostic_of fault)
read_error reads.Memory = texts.Memory
