-- What holds of the linked code of each compiled program.
use Rattle.std.specs.Prelude.{◌≡◌, ◌⊎◌, ℕ, true, false, Some, Ok, Err, slice_get}
use Rattle.vm_link.specs.Uniform.{IsUniform}
use Rattle.vm_link.specs.declared.fault.LinkFault.{LinkFault}
use Rattle.vm_link.specs.declared.fault.LinkFault.TheVariants.{Memory, TooManyStatics}
use Rattle.vm_link.specs.declared.linked.Linked.{Linked}
use Rattle.vm_link.specs.declared.linked.LinkedFunction.{LinkedFunction}
use Rattle.vm_link.specs.Links.{Links}
use Rattle.jack_meaning.specs.Text.{Program}
use Rattle.jack_meaning.specs.Linked.{IsLinked}
use Rattle.jack_meaning.specs.Gap.{IsMost, depth_of, locals_of}
use Rattle.jack_core.specs.declared.program.Core.{Core}
use Rattle.jack_core.specs.Texts.{the_program}
use Rattle.jack_compiler.specs.Templates.{Numbers}
use Rattle.jack_compiler.specs.Fits.{IsFit}
use Rattle.jack_compiler.specs.Match.{IsCodeOf}
use Rattle.jack_compiler.specs.Files.{files_of}
use Rattle.jack_compiler.specs.Statics.{has_word, static_word}
use Rattle.jack_compiler.specs.Resolved.{IsResolvedCore}

-- This is the code of the program: it has just the subroutines that the program can come to, each once. The program fits, as deep as the deepest of
-- these is nested and with as many locals as one of them has at most.
pub record IsLinkedProgram (program : Program) (linked : Linked) : Type 0 where
  pub numbers : Numbers
  pub depth : ℕ
  pub most_locals : ℕ
  pub code : IsCodeOf program numbers linked
  pub all : (g : ℕ) → IsLinked program g → numbers.keeps g ≡ true
  pub only : (k : ℕ) (f : LinkedFunction) → slice_get linked.functions k ≡ Some f
      → IsLinked program f.number
  pub once : (j k : ℕ) (f g : LinkedFunction) → slice_get linked.functions j ≡ Some f
      → slice_get linked.functions k ≡ Some g → f.number ≡ g.number → j ≡ k
  pub deepest : IsMost program (depth_of program) depth
  pub most : IsMost program (locals_of program) most_locals
  pub fits : IsFit program numbers depth most_locals
  -- which statics have a word, and which one
  pub holds : (k : ℕ) → numbers.holds k ≡ has_word program linked k
  pub static : (k : ℕ) → numbers.static k ≡ static_word program linked k

abbrev pub IsLinkedOf : Core → Linked → Type 0
IsLinkedOf core linked = IsLinkedProgram (the_program core) linked

-- There are too many static words, or memory ran out.
abbrev pub IsOnlyFault : LinkFault → Type 0
IsOnlyFault fault = (fault ≡ Memory) ⊎ ((words : ℕ) × (fault ≡ TooManyStatics words))

pub record CompiledLaw : Type 0 where
  -- what linking answers for the compiled files is the code of the program
  pub linked : (core : Core) (linked : Linked) → IsResolvedCore core
      → Links false (files_of core) (Ok linked) → IsLinkedOf core linked
  -- the only fault that linking finds is that there are too many static words
  pub faults : (core : Core) (fault : LinkFault) → IsResolvedCore core
      → Links false (files_of core) (Err fault) → IsOnlyFault fault

-- Its calls, returns and comparisons are commits, all of them.
abbrev pub CodeIsUniform : Type 0
CodeIsUniform = (program : Program) (linked : Linked) → IsLinkedProgram program linked → IsUniform linked
