-- What classes mean is there: a tree of each, and their program, in the form that the code has. The code holds a list where it has fewer than 2^63
-- elements. So this holds of all classes that are not too long for any memory (classes that texts of 1,048,576 bytes spell are far shorter).
use Rattle.std.specs.Prelude.{◌≡◌, ◌++◌, ◌<◌, ◌^◌, List, map}
use Rattle.jack_tree.specs.declared.tree.Class.{Class}
use Rattle.jack_tree.specs.Syntax.{ClassFile}
use Rattle.jack_tree.specs.Seen.{the_file}
use Rattle.jack_core.specs.declared.program.Core.{Core}
use Rattle.jack_core.specs.Texts.{the_program, names_of, class_names_of}
use Rattle.jack_names.specs.Lengths.{class_length, classes_length}
use Rattle.jack_names.specs.Meaning.{program_meaning, program_names}

-- This is the program that classes mean, with the names of its subroutines and classes.
pub record IsCoreOf (own os : List ClassFile) (core : Core) : Type 0 where
  pub program : the_program core ≡ program_meaning own os
  pub names : names_of core ≡ program_names own os
  pub classes : class_names_of core ≡ map (λ c. c.class.name.text) (own ++ os)

-- The law of existence: each class is what some tree says, and classes mean some program.
pub record ExistenceLaw : Type 0 where
  pub tree : (c : ClassFile) → class_length c.class < 2 ^ 62 → (t : Class) × (the_file t ≡ c)
  pub core : (own os : List ClassFile) → classes_length (own ++ os) < 2 ^ 62
      → (core : Core) × IsCoreOf own os core
