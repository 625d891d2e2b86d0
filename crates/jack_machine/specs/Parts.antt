-- The parts of what comes first of a text, and how many values it wants of them.
use Rattle.std.specs.Prelude.{ℕ, List, [], ◌∷◌, ◌++◌}
use Rattle.jack_core.specs.declared.tree.Part.{Part}
use Rattle.jack_core.specs.declared.tree.Part.TheVariants as part
use Rattle.jack_core.specs.declared.program.Statement.{Statement, If', While'}
use Rattle.jack_machine.specs.declared.fronts.First.{First}

-- the parts of a statement's expressions, one after the other: those of a store are base, index and value
abbrev pub parts_in : Statement → List Part
parts_in (Statement.Let n x e) = e.parts
parts_in (Statement.LetField n k e) = e.parts
parts_in (Statement.LetThis n e) = e.parts
parts_in (Statement.Store n a i e) = a.parts ++ i.parts ++ e.parts
parts_in (Statement.Do n e) = e.parts
parts_in (If' n o c p a q b) = c.parts
parts_in (While' n c p s) = c.parts
parts_in (Statement.Return n e) = e.parts

-- how many expressions a statement has
abbrev pub wanted_in : Statement → ℕ
wanted_in (Statement.Store n a i e) = 3
wanted_in _ = 1

-- `do Sys.init();` has one part, the call
abbrev pub parts_of : First → List Part
parts_of (First.Start init) = part.Call 0 init ∷ []
parts_of (First.Statement s) = parts_in s.now
parts_of First.Nothing = []

abbrev pub wanted_count : First → ℕ
wanted_count (First.Start init) = 1
wanted_count (First.Statement s) = wanted_in s.now
wanted_count First.Nothing = 0
