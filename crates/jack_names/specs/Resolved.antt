-- What resolving the names of a program answers.
use Rattle.std.specs.Prelude.{◌≡◌, ℕ, List, Option, None, Result, Ok, Err}
use Rattle.jack_core.specs.declared.program.Subroutine.{Subroutine}
use Rattle.jack_core.specs.declared.program.Class.{Class}
use Rattle.jack_core.specs.declared.program.Core.{Core}
use Rattle.jack_tree.specs.Syntax.{ClassFile}
use Rattle.jack_names.specs.Faults.{NameDiagnostic, Checks, diagnostic_of}
use Rattle.jack_names.specs.NameFaults.{IsWellNamed}
use Rattle.jack_names.specs.FaultOrder.{IsFirstFault}
use Rattle.jack_names.specs.declared.fault.NameError.{NameError}
use Rattle.jack_names.specs.declared.fault.NameError.TheVariants as errors

-- A program with no fault, or this fault, unless memory ran out.
abbrev pub Resolves : Option NameDiagnostic → Result Core NameError → Type 0
Resolves wanted (Ok core) = wanted ≡ None
Resolves wanted (Err e) = Checks wanted (Err e)

-- A program of these classes is well named, or this is the first of its faults, unless memory ran out.
abbrev pub Tells : List ClassFile → List ClassFile → Result Core NameError → Type 0
Tells own os (Ok core) = IsWellNamed own os
Tells own os (Err errors.Memory) = Unit {0}
Tells own os (Err (errors.Fault f)) = IsFirstFault own os (diagnostic_of f)

-- the name of a subroutine, and of a class
abbrev pub the_name : Subroutine → List ℕ
the_name s = s.name

abbrev pub the_class_name : Class → List ℕ
the_class_name c = c.name
